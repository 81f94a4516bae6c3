use Rattle.std.proofs.Common.{◌≡◌, ◌++◌, ◌∷◌, [], ap, ◌∙◌, rules}
use Rattle.std.proofs.lemmas.List.{nil_from_length}
use Rattle.std.proofs.lemmas.Result.{on_ok_weaker}
use Rattle.int_polyhedra.specs.declared.system.Proof.TheVariants.{Sum}
use Rattle.tree_graphs.specs.Paths.{term_of}
use Rattle.lex_max.proofs.LeafProofs.{cells_end, cells_odd, cells_step}
use Rattle.lex_max.proofs.leaf.+push_cell.Goals as goal

pub returns-in_default : goal.returns-in_default
returns-in_default t c cx context place writes reads leaf cells shown =
    let none : c.args.certs.now ≡ [] = nil_from_length c.args.certs.now c.in_default.ensures.cases in
    cells_end cx context place writes reads c.args.certs.now c.args.proofs.now none shown

pub returns-in_default-split_first : goal.returns-in_default-split_first
returns-in_default-split_first t c cx context place writes reads leaf cells shown =
    let first : c.args.certs.now ≡ c.in-Some.above.now ∷ c.in-Some.certs.now = search rules in
    let none : c.in-Some.certs.now ≡ [] =
    nil_from_length c.in-Some.certs.now c.in_default-split_first.ensures.cases in
    absurd (cells_odd context place writes reads c.in-Some.above.now c.in-Some.certs.now c.args.certs.now first none
    shown)

pub returns : goal.returns
returns t c =
    let first : c.args.certs.now ≡ c.in-Some.above.now ∷ c.in-Some.certs.now = search rules in
    let second : c.in-Some.certs.now ≡ c.in-Some-split_first.below.now ∷ c.in-Some-split_first.certs.now = search rules
    in
    on_ok_weaker c.push_cell.result
    (λ h cx context place writes reads leaf cells shown.
    cells_step c.args.w.now cx context place c.args.here writes reads c.in-Some.above.now
    c.in-Some-split_first.below.now c.in-Some-split_first.certs.now c.in-Some.certs.now c.args.certs.now
    c.in_ok-sum_with_row.field-0 c.in_ok-sum_with_row-2.field-0 c.args.proofs.now c.push.new.self c.push-2.new.self
    c.push_cell.new.proofs leaf cells first second shown
    (c.in_ok-sum_with_row.ensures ∙ ap (λ ts. Sum (ts ++ term_of c.args.here ∷ [])) c.as_slice.ensures)
    (c.in_ok-sum_with_row-2.ensures ∙ ap (λ ts. Sum (ts ++ term_of c.args.here ∷ [])) c.as_slice-2.ensures)
    c.in_ok-push.ensures.ok c.in_ok-push-2.ensures.ok
    (λ writes reads cells shown. h cx context place writes reads leaf cells shown))
    c.push_cell.ensures
