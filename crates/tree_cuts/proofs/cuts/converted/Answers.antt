use Rattle.std.proofs.Common.{◌≡◌, ◌++◌, sym, ap, ◌∙◌}
use Rattle.std.specs.List.{range_with_len}
use Rattle.std.proofs.lemmas.Result.{IfOk-weaker}
use Rattle.int_polyhedra.specs.declared.system.Proof.TheVariants.{Sum}
use Rattle.tree_cuts.specs.Cuts.{after_cuts, cuts_of, numbers_from, renumbered}
use Rattle.tree_cuts.proofs.Behind.{converted_behind}
use Rattle.tree_cuts.proofs.cuts.converted.Goals as goal

pub returns : goal.returns
returns c =
    let here = c.args.here in
    let sources = c.args.sources.now in
    let ts = c.args.terms.now in
    let numbers_are : c.as_slice.result.now ≡ numbers_from c.args.rows sources =
    c.as_slice.ensures ∙ c.in_ok-push_numbers.ensures
    ∙ ap (λ ns. ns ++ numbers_from c.args.rows sources) c.new-numbers.ensures in
    let sum_is : c.push_renumbered.new.out ≡ renumbered (range_with_len 0 here ++ numbers_from c.args.rows sources) ts =
    c.in_ok-push_renumbered.ensures
    ∙ ap (λ out. out ++ renumbered (range_with_len 0 here ++ c.as_slice.result.now) ts) c.new-sum.ensures
    ∙ ap (λ ns. renumbered (range_with_len 0 here ++ ns) ts) numbers_are in
    IfOk-weaker c.with_cuts.result _ _
    (λ proof is. is ∙ ap (λ sum. after_cuts (cuts_of sources) (Sum sum)) sum_is
    ∙ sym (converted_behind here c.args.rows sources ts)) c.with_cuts.ensures
