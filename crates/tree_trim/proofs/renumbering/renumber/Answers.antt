use Rattle.std.proofs.Common.{◌≡◌, ◌+◌, ◌<◌, ◌++◌, ℕ, List, length, map, take, drop, set, get_or, ap, ◌∙◌, arith}
use Rattle.std.proofs.lemmas.List.{get_or_default}
use Rattle.std.proofs.lemmas.List.Edits.{map_over_more}
use Rattle.int_polyhedra.specs.declared.system.Term.{Term}
use Rattle.tree_trim.specs.Renumbering.{term_by}
use Rattle.tree_trim.proofs.renumbering.renumber.Goals as goal

one_more : (f : Term → Term) (old now : List Term) (i : ℕ) (d new : Term) → i < length old → length now ≡ length old
    → now ≡ map f (take i old) ++ drop i old → new ≡ f (get_or now i d)
    → set now i new ≡ map f (take (i + 1) old) ++ drop (i + 1) old
one_more f old now i d new lt long so_far is =
    ap (set now i) is
    ∙ map_over_more f old now i (get_or now i d) lt so_far (get_or_default now i d (get_or now i d) (omega (arith, lt, long)))

pub loop-term-preserved : goal.loop-term-preserved
loop-term-preserved c =
    one_more (term_by c.args.renumbering) c.args.terms.now c.loop-term.terms c.loop-term.term-index _ c.term_by.result
    c.loop-term-test.true c.loop-term.auto.terms c.loop-term.invariant c.term_by.ensures
