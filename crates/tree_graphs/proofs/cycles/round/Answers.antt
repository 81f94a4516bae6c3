use Rattle.std.proofs.Common.{◌++◌, ◌^◌, ℤ, ◌+ℤ◌, [], ◌∷◌, sym, ap, ◌∙◌, subst}
use Rattle.affine_core.specs.declared.form.Form.{Form}
use Rattle.tree_graphs.specs.Paths.{term_of}
use Rattle.tree_graphs.proofs.CycleEdges.{round_even, round_near, round_small, round_sum_small}
use Rattle.tree_graphs.proofs.ZeroCycles.{round_is_cycle}
use Rattle.tree_sums.specs.Parts.{IsWithin}
use Rattle.tree_graphs.proofs.cycles.round.Goals as goal

pub sum-requires-clause-over : goal.sum-requires-clause-over
sum-requires-clause-over c = let h = c.requires
    in round_even h.0 h.1 h.2 c.args.out.now c.args.back.now c.args.bound.now c.args.out_number c.args.back_number h.3

pub sum-requires-clause-first : goal.sum-requires-clause-first
sum-requires-clause-first c = let h = c.requires in round_small h.1 h.2 c.args.out.now h.3.out_edge

pub sum-requires-clause-second : goal.sum-requires-clause-second
sum-requires-clause-second c = let h = c.requires in round_small h.1 h.2 c.args.back.now h.3.back_edge

pub form_beyond-requires-clause-form : goal.form_beyond-requires-clause-form
form_beyond-requires-clause-form c =
    let h = c.requires in
    subst (IsWithin (2 ^ 60)) (sym c.sum.ensures) (round_sum_small h.0 h.1 h.2 c.args.out.now c.args.back.now
    c.args.bound.now c.args.out_number c.args.back_number h.3)

pub form_beyond-requires-clause-bound : goal.form_beyond-requires-clause-bound
form_beyond-requires-clause-bound c = let h = c.requires
    in round_near h.0 h.1 h.2 c.args.out.now c.args.back.now c.args.bound.now c.args.out_number c.args.back_number h.3

abbrev raised_by : ℤ → Form → Form
raised_by by f = record f { constant = f.constant +ℤ by }

pub returns : goal.returns
returns c edges vars depth asked =
    let bound = c.args.bound.now in
    let first = term_of c.args.out_number in
    let last = term_of c.args.back_number in
    round_is_cycle edges vars depth c.args.out.now c.args.back.now bound c.args.out_number c.args.back_number
    (record { form = c.form_beyond.result; terms = c.push-2.new.self }) asked
    (c.form_beyond.ensures ∙ ap (raised_by bound.value) c.sum.ensures)
    (c.in_ok-push-2.ensures.ok
    ∙ ap (λ ts. ts ++ last ∷ [])
    (c.in_ok-append.ensures ∙ ap (λ ts. ts ++ c.as_slice.result.now)
    (c.in_ok-push.ensures.ok ∙ ap (λ ts. ts ++ first ∷ []) c.new-terms.ensures)
    ∙ ap (λ ts. (first ∷ []) ++ ts) c.as_slice.ensures))
