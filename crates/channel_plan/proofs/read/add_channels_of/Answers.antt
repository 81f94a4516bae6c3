use Rattle.std.proofs.Common.{◌++◌, ℕ, length, map, get_or, ap, ◌∙◌, arith}
use Rattle.std.proofs.lemmas.List.{take_all}
use Rattle.channel_plan.specs.Reads.{channel_of, channels_of}
use Rattle.channel_plan.proofs.Channels.{turns_within, writers_exist}
use Rattle.channel_plan.proofs.read.add_channels_of.Goals as goal

pub bounds-turns-writer : goal.bounds-turns-writer
bounds-turns-writer c =
    let writers = c.deref-writer-items.ensures.value ∙ c.in_ok-writers.ensures in
    omega (
      arith,
      ap (λ ws. get_or ws c.loop-writer.writer-index 0) writers,
      writers_exist (length c.args.turns.now) c.args.sources.now c.loop-writer.writer-index 0
          (omega (arith, ap length writers)),
    )

pub channel_of-requires-clause-within : goal.channel_of-requires-clause-within
channel_of-requires-clause-within c =
    turns_within c.args.turns.now
    (get_or c.deref-writer-items.result.now c.loop-writer.writer-index 0) c.args.sources.now c.requires.among

pub returns : goal.returns
unfolding channels_of
returns c =
    let channel = λ (w : ℕ). channel_of c.args.reader c.args.read c.args.sources.now (get_or c.args.turns.now w 0) w in
    let writers = c.deref-writer-items.ensures.value ∙ c.in_ok-writers.ensures in
    c.loop-writer.invariant
    ∙ ap (λ ws. c.args.plans.now.items ++ map channel ws)
    (take_all c.loop-writer.writer-index c.deref-writer-items.result.now c.loop-writer-test.false ∙ writers)
