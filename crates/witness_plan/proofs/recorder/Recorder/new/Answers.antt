use Rattle.std.proofs.Common.{◌∙◌, ap, replicate}
use Rattle.net_core.specs.Machine.{net_of}
use Rattle.witness_plan.proofs.RecordLemmas.{record_none}
use Rattle.witness_plan.proofs.recorder.Recorder.new.Goals as goal

pub returns-clause-recorder : goal.returns-clause-recorder
returns-clause-recorder c =
    record_none (net_of c.args.wired.now.network.now) _ c.new-schedule.ensures c.in_ok-progress.ensures.progress
    c.in_ok-progress.ensures.opening
    (c.in_ok-greatest.ensures.items_if_clones_equal (λ y h. h) ∙ ap (λ k. replicate k 0) c.len.ensures)
