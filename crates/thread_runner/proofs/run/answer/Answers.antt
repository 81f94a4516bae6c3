use Rattle.std.proofs.Common.{length, ap, ◌∙◌, arith}
use Rattle.thread_runner.proofs.ArrayAnswers.{values_number, gives_arrays}
use Rattle.thread_runner.proofs.run.answer.Goals as goal

pub gathered-requires-clause-values : goal.gathered-requires-clause-values
gathered-requires-clause-values g c p =
    omega (arith, ap length (c.requires.values p), values_number c.args.rule.now.nest.now c.args.rule.now.inputs.now p)

pub returns : goal.returns
returns g c =
    c.gathered.ensures
    ∙ gives_arrays c.args.rule.now.nest.now c.args.network.now c.args.rule.now.inputs.now c.requires.sound
    (g.K.Keeper.values c.args.keeper.now) c.requires.values
