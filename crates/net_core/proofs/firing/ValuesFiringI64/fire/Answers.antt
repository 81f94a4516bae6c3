use Rattle.std.proofs.Common.{◌≡◌, ◌∙◌, length, List, ℤ, sym, subst, ap, rules}
use Rattle.std.specs.Prelude.{FitsSigned}
use Rattle.std.specs.Int.{w64}
use Rattle.std.proofs.lemmas.Int.{to_z-of_z}
use Rattle.std.proofs.lemmas.List.{length-map}
use Rattle.wrap_expr.specs.Value.{UsesOnly}
use Rattle.sanlp.specs.Points.{points_of}
use Rattle.sanlp.proofs.ReadCounts.{read_count-some}
use Rattle.net_core.specs.Rules.{read_slot}
use Rattle.net_core.proofs.FireValues.{turn_in, vector_depth, vector_read, expr_fits, fire_value}
use Rattle.net_core.proofs.firing.ValuesFiringI64.fire.Goals as goal

pub statement-statement-requires : goal.statement-statement-requires
statement-statement-requires c = turn_in c.args.self.now.nest.now c.args.process c.args.turn c.requires.limits.0

pub eval-requires : goal.eval-requires
eval-requires c =
    let n = c.args.self.now.nest.now in
    let p = c.args.process in
    let f = c.args.turn in
    let statement = c.statement-statement.result.now in
    let is = c.statement-statement.ensures.value in
    let at = c.as_slice-at.result.now in
    let reads : List ℤ = c.as_slice-3.result.now in
    let at_is =
    vector_read (points_of n) c.as_slice.result.now p f c.index-as_slice-process.result c.as_slice-2.result.now
    c.index-as_slice-turn.result at
    c.requires.limits.0
    (c.as_slice.ensures
    ∙ c.args.self.now.points_of_nest) c.index-as_slice-process.is c.as_slice-2.ensures c.index-as_slice-turn.is
    c.as_slice-at.ensures.value in
    let depth : length statement.loops ≡ length at =
    sym (ap length at_is ∙ vector_depth n p f statement c.requires.limits.0 is) in
    let many : length statement.reads ≡ length reads =
    sym (ap length (c.as_slice-3.ensures.value ∙ c.read_all-reads.ensures)
    ∙ length-map c.args.refs.now (read_slot c.args.slots.now) ∙ c.requires.limits.1 ∙ read_count-some n p statement is) in
    subst (λ k. UsesOnly k (length reads) statement.expr) depth
    (subst (λ k. UsesOnly (length statement.loops) k statement.expr) many
    (expr_fits n.arrays statement c.statement-statement.ensures.fits))

pub returns : goal.returns
returns c =
    let n = c.args.self.now.nest.now in
    let p = c.args.process in
    let f = c.args.turn in
    let at_is =
    vector_read (points_of n) c.as_slice.result.now p f c.index-as_slice-process.result c.as_slice-2.result.now
    c.index-as_slice-turn.result c.as_slice-at.result.now
    c.requires.limits.0
    (c.as_slice.ensures
    ∙ c.args.self.now.points_of_nest) c.index-as_slice-process.is c.as_slice-2.ensures c.index-as_slice-turn.is
    c.as_slice-at.ensures.value in
    let given : FitsSigned w64 c.given_value-given.result = search rules in
    let result : FitsSigned w64 c.eval.result = search rules in
    let value = simp to_z-of_z at c.eval.ensures in
    simp to_z-of_z
    (
    fire_value n c.args.self.now.inputs.now p f c.statement-statement.result.now c.args.refs.now c.args.slots.now
    c.as_slice-at.result.now c.as_slice-3.result.now
    c.given_value-given.result c.eval.result c.statement-statement.ensures.value at_is
    (c.as_slice-3.ensures.value ∙ c.read_all-reads.ensures) c.given_value-given.ensures value
    )
