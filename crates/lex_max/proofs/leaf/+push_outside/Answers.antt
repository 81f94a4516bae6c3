use Rattle.std.proofs.Common.{◌≡◌, ◌++◌, ◌∷◌, [], ap, ◌∙◌, rules}
use Rattle.std.proofs.lemmas.List.{nil_from_length}
use Rattle.std.proofs.lemmas.Result.{on_ok_weaker}
use Rattle.int_polyhedra.specs.declared.system.Proof.TheVariants.{Sum}
use Rattle.tree_graphs.specs.Paths.{term_of}
use Rattle.lex_max.proofs.LeafProofs.{outside_end, outside_step}
use Rattle.lex_max.proofs.leaf.+push_outside.Goals as goal

pub returns-in_default : goal.returns-in_default
returns-in_default t c cx context place rows leaf fit shown =
    let none : c.args.certs.now ≡ [] = nil_from_length c.args.certs.now c.in_default.ensures.cases in
    outside_end cx context place rows c.args.certs.now c.args.proofs.now none shown

pub returns : goal.returns
returns t c =
    let first : c.args.certs.now ≡ c.in-Some.terms.now ∷ c.in-Some.certs.now = search rules in
    on_ok_weaker c.push_outside.result
    (λ h cx context place rows leaf fit shown.
    outside_step c.args.w.now cx context place c.args.here rows c.in-Some.terms.now c.in-Some.certs.now c.args.certs.now
    c.in_ok-sum_with_row.field-0 c.args.proofs.now c.push.new.self c.push_outside.new.proofs leaf fit first shown
    (c.in_ok-sum_with_row.ensures ∙ ap (λ ts. Sum (ts ++ term_of c.args.here ∷ [])) c.as_slice.ensures)
    c.in_ok-push.ensures.ok (λ rows fit shown. h cx context place rows leaf fit shown))
    c.push_outside.ensures
