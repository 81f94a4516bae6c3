use Rattle.std.proofs.Common.{subst}
use Rattle.loop_bind.specs.Declarations.{declared}
use Rattle.loop_bind.specs.Following.{Stands}
use Rattle.loop_bind.proofs.ReadingLemmas.{counted_reading}
use Rattle.loop_bind.proofs.reading.read.Goals as goal

pub returns-in-Ok : goal.returns-in-Ok
returns-in-Ok c =
    let t = c.in_ok-table.table in
    counted_reading c.read_parts.result c.args.tree.now c.args.params.now t c.as_slice-2.result.now c.in-Ok.counts
    (subst (λ list. Stands t (declared c.args.params.now list)) c.as_slice.ensures c.in_ok-table.ensures)
    c.as_slice-2.ensures (rw c.in-Ok.is at c.count_ends.ensures) c.read_parts.ensures
