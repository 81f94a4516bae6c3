use Rattle.std.proofs.Common.{◌∙◌, rules, FitsSigned, to_z, of_z}
use Rattle.std.specs.Prelude.{Some}
use Rattle.std.specs.Int.{w128}
use Rattle.std.proofs.lemmas.Int.{to_z-of_z}
use Rattle.int_polyhedra.specs.declared.system.Proof.TheViews.{the_lemmas}
use Rattle.int_polyhedra.specs.Chain.{rows_of}
use Rattle.int_polyhedra.proofs.Boxes.{boxed_split}
use Rattle.int_polyhedra.proofs.RowsOf.{rows_of_more}
use Rattle.int_polyhedra.proofs.Variables.{cut_over, split_over}
use Rattle.int_polyhedra.proofs.Cases.{at_sum, at_cut_err, at_cut_ok, at_split_err, at_split, at_split_ok, chain_over}
use Rattle.int_polyhedra.proofs.refute.+refute.Goals as goal

pub returns-in-Sum : goal.returns-in-Sum
returns-in-Sum t c = at_sum c.args.vars
    (rows_of c.args.rows.now) c.args.proof.now c.in-Sum.terms c.as_slice.result.now _ c.in-Sum.is c.as_slice.ensures
    c.conclude.ensures

pub refute-requires : goal.refute-requires
refute-requires t c = (
  search (rules, the_lemmas),
  (
    c.requires.short,
    chain_over _ _ _ c.requires.over
        (cut_over c.args.vars (rows_of c.args.rows.now)
        (to_z w128 (of_z w128 c.get-divisor.result)) c.as_slice-in-Cut.result.now c.in-Ok.row c.requires.over
        c.in-Ok.ensures),
  ),
)

pub returns-in-Ok : goal.returns-in-Ok
returns-in-Ok t c =
    let divisor = c.get-divisor.result in
    let fits : FitsSigned w128 divisor = search rules in
    at_cut_ok c.args.vars
    (rows_of c.args.rows.now) c.args.proof.now c.in-Cut.divisor _ c.in-Cut.terms c.as_slice-in-Cut.result.now
    c.in-Cut.rest c.get.result.now c.in-Ok.row _ _
    c.in-Cut.is (to_z-of_z w128 divisor fits ∙ c.get-divisor.ensures) (c.as_slice-in-Cut.ensures ∙ c.get-terms.ensures)
    c.get.ensures
    (rows_of_more _ _) c.in-Ok.ensures c.refute.ensures

pub returns-in-Cut : goal.returns-in-Cut
returns-in-Cut t c =
    let divisor = c.get-divisor.result in
    let fits : FitsSigned w128 divisor = search rules in
    at_cut_err c.args.vars
    (rows_of c.args.rows.now) c.args.proof.now c.in-Cut.divisor _ c.in-Cut.terms c.as_slice-in-Cut.result.now
    c.in-Cut.rest c.in-Err.reason
    c.in-Cut.is (to_z-of_z w128 divisor fits ∙ c.get-divisor.ensures) (c.as_slice-in-Cut.ensures ∙ c.get-terms.ensures)
    c.in-Err.ensures

pub refute-requires-in-Ok-split : goal.refute-requires-in-Ok-split
refute-requires-in-Ok-split t c = (
  search (rules, the_lemmas),
  (
    c.requires.short,
    chain_over _ _ _ c.requires.over
        (split_over c.args.vars c.get-form.result c.in-Ok-split.other c.in-Ok-split.ensures).0,
  ),
)

pub refute-requires-in-Ok-refute : goal.refute-requires-in-Ok-refute
refute-requires-in-Ok-refute t c = (
  search (rules, the_lemmas),
  (
    c.requires.short,
    chain_over _ _ _ c.requires.over
        (split_over c.args.vars c.get-form.result c.in-Ok-split.other c.in-Ok-split.ensures).1,
  ),
)

pub returns-in-Ok-refute : goal.returns-in-Ok-refute
returns-in-Ok-refute t c =
    at_split_ok c.args.vars
    (rows_of c.args.rows.now) c.args.proof.now c.get-form.result c.in-Split.yes c.get-in-Ok-split.result.now
    c.in-Split.no
    c.get-in-Ok-refute.result.now c.in-Ok-split.other _ _ _
    (boxed_split c.in-Split.yes c.in-Split.no c.in-Split.is c.get-form.ensures)
    c.in-Ok-split.ensures c.get-in-Ok-split.ensures
    (rows_of_more _ _) c.in-Ok-refute.ensures c.get-in-Ok-refute.ensures
    (rows_of_more _ _) c.refute-in-Ok-refute.ensures

pub returns-in-Ok-split : goal.returns-in-Ok-split
returns-in-Ok-split t c =
    at_split c.args.vars
    (rows_of c.args.rows.now) c.args.proof.now c.get-form.result c.in-Split.yes c.get-in-Ok-split.result.now
    c.in-Split.no
    c.in-Ok-split.other _ (Some c.in-Err-refute.reason)
    (boxed_split c.in-Split.yes c.in-Split.no c.in-Split.is c.get-form.ensures)
    c.in-Ok-split.ensures c.get-in-Ok-split.ensures (rows_of_more _ _)
    c.in-Err-refute.ensures

pub returns : goal.returns
returns t c =
    at_split_err c.args.vars
    (rows_of c.args.rows.now) c.args.proof.now c.get-form.result c.in-Split.yes c.in-Split.no c.in-Err-split.reason
    (boxed_split c.in-Split.yes c.in-Split.no c.in-Split.is c.get-form.ensures) c.in-Err-split.ensures
