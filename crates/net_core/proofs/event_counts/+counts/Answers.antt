use Rattle.std.proofs.Common.{ap, ◌∙◌, count_by, min}
use Rattle.net_core.specs.Kinds.{is_of_kind}
use Rattle.script_blocks.specs.Expansion.{parts_expansion}
use Rattle.net_core.proofs.BlockCounts.{capped_count}
use Rattle.net_core.proofs.event_counts.+counts.Goals as goal

pub count_in_part-returns-in-Repeat : goal.count_in_part-returns-in-Repeat
count_in_part-returns-in-Repeat t c =
    let kind = c.args.kind in
    let inner =
    c.count_in_parts.ensures
    ∙ ap (λ ps. min (count_by (is_of_kind kind) (parts_expansion ps)) 18446744073709551615) c.as_slice.ensures in
    let law =
    capped_count (is_of_kind kind) c.in-Repeat.count c.in-Repeat.body c.args.part.now c.count_in_parts.result
    18446744073709551615 c.in-Repeat.is inner in
    cc
