use Rattle.std.proofs.Common.{◌≡◌, ◌==◌, ◌&&◌, Bool, true, false, refl, ap, ◌∙◌}
use Rattle.std.proofs.lemmas.Bool.{ne_eqb}
use Rattle.tree_join.proofs.LeafFacts.{excluded_past}
use Rattle.tree_join.proofs.leaf.+excluded_of.Goals.{else-first-writer-via-then-first-writer+else-first-level}
use Rattle.tree_join.proofs.leaf.+excluded_of.Goals.{else-first-writer-via-else-first-writer}
use Rattle.tree_join.proofs.leaf.+excluded_of.Goals as goal

and_false : (b : Bool) → (b && false) ≡ false
and_false true = refl
and_false false = refl

pub returns : goal.returns
returns t c =
    let e = c.in_ok-first.first.now in
    let u = c.args.writer in
    let p = c.args.level in
    let other : ((e.writer == u) && (e.level == p)) ≡ false
    = elim c.else-first-writer.branch [
      | else-first-writer-via-then-first-writer+else-first-level w ↦
          ap (λ b. (e.writer == u) && b) (ne_eqb e.level p w.if-first-level.false) ∙ and_false (e.writer == u)
      | else-first-writer-via-else-first-writer w ↦ ap (λ b. b && (e.level == p))
          (ne_eqb e.writer u w.if-first-writer.false)
    ] in
    excluded_past u p e c.in_ok-first.rest.now c.args.excluded.now c.excluded_of.result c.in_ok-first.ensures.cases.0
    other c.excluded_of.ensures
