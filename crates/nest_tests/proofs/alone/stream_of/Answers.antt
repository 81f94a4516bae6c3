use Rattle.std.proofs.Common.{◌∙◌, length, ap, sym}
use Rattle.net_core.specs.Machine.{net_of}
use Rattle.net_core.specs.Names.{fired}
use Rattle.net_core.specs.Shape.{fires}
use Rattle.net_core.specs.Sound.{tag_value}
use Rattle.nest_tests.proofs.alone.stream_of.Goals as goal

pub values_put-requires-clause-events : goal.values_put-requires-clause-events
values_put-requires-clause-events c =
    c.as_slice.ensures ∙ c.in_ok-events.ensures ∙ c.script_of.ensures
    ∙ ap (net_of c.args.made.now.network).script c.writer_of-writer.ensures

pub values_put-requires-clause-kept : goal.values_put-requires-clause-kept
values_put-requires-clause-kept c =
    let n = net_of c.args.made.now.network in
    let v = tag_value c.args.made.now.nest c.args.inputs.now in
    let writer = n.writer c.args.channel in
    let events =
    c.as_slice.ensures ∙ c.in_ok-events.ensures ∙ c.script_of.ensures ∙ ap n.script c.writer_of-writer.ensures in
    c.kept-kept.ensures ∙ c.requires.kept c.writer_of-writer.result
    ∙ ap (λ w. fired v w (fires n w (length (n.script w)))) c.writer_of-writer.ensures
    ∙ ap (λ m. fired v writer (fires n writer m)) (ap length (sym events))
