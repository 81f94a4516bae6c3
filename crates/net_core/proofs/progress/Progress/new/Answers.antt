use Rattle.std.proofs.Common.{◌∙◌, List, ap, map, replicate}
use Rattle.std.specs.Prelude.{slice_index}
use Rattle.net_core.specs.declared.network.Process.{Process}
use Rattle.net_core.specs.Progress.{no_counts}
use Rattle.net_core.proofs.ProgressLemmas.{no_places, progress_first}
use Rattle.net_core.proofs.progress.Progress.new.Goals as goal

pub returns-clause-opening : goal.returns-clause-opening
returns-clause-opening c =
    ap slice_index (c.in_ok-vec.ensures.items_if_clones_equal (λ y h. h) ∙ ap (λ k. replicate k 0) c.len.ensures)
    ∙ no_places _

pub returns-clause-progress : goal.returns-clause-progress
returns-clause-progress c =
    progress_first c.args.wired.now.network.now c.args.wired.now.wired c.args.wired.now.numbers _
    (c.in_ok-vec.ensures.items_if_clones_equal (λ y h. h) ∙ ap (λ k. replicate k 0) c.len.ensures)
    (c.in_ok-first_cursors.ensures
    ∙ ap (λ (processes : List Process). map (λ process. process.script) processes) c.as_slice.ensures)
    (c.in_ok-vec-2.ensures.items_if_clones_equal (λ y h. h) ∙ ap (λ k. replicate k no_counts) c.len-2.ensures)
