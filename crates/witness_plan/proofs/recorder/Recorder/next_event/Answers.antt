use Rattle.std.proofs.Common.{ap, ◌∙◌}
use Rattle.std.specs.Prelude.{slice_get}
use Rattle.net_core.specs.Cuts.{Cut}
use Rattle.net_core.specs.Machine.{net_of}
use Rattle.witness_plan.proofs.recorder.Recorder.next_event.Goals as goal

pub returns : goal.returns
returns c =
    c.next_event.ensures
    ∙ ap (λ (k : Cut). slice_get ((net_of c.args.network.now).script c.args.process) (k c.args.process))
    c.requires.recorder.cut
