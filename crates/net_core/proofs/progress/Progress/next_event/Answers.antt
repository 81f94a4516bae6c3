use Rattle.std.proofs.Common.{List, slice_get, ap, ◌∙◌, arith}
use Rattle.net_core.specs.declared.network.Event.{Event}
use Rattle.net_core.specs.Machine.{net_of}
use Rattle.net_core.specs.Progress.{cut_of}
use Rattle.net_core.proofs.ProgressLemmas.{left_found, left_long}
use Rattle.net_core.proofs.progress.Progress.next_event.Goals as goal
use Rattle.plain_data.proofs.Lists.{slice_get-drop}

pub index-requires : goal.index-requires
index-requires c =
    omega (
      arith,
      c.args.self.now.cursors.ok.0,
      c.requires.process,
      left_long (net_of c.args.network.now) c.args.self.now c.requires.progress,
    )

pub returns : goal.returns
returns c =
    let n = net_of c.args.network.now in
    let self = c.args.self.now in
    c.peek.ensures
    ∙ ap (λ (left : List Event). slice_get left 0)
    (left_found n self c.requires.progress c.args.process c.requires.process c.index.result.now c.index.ensures)
    ∙ slice_get-drop (cut_of self c.args.process) (n.script c.args.process)
