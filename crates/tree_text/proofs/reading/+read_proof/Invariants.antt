use Rattle.std.proofs.Common.{◌+◌, ◌*◌}
use Rattle.tree_text.proofs.reading.+read_proof.Given as goal

abbrev pub decreases-read_proof : goal.decreases-read_proof
decreases-read_proof l = 2 * l.levels

abbrev pub decreases-read_step : goal.decreases-read_step
decreases-read_step l = 2 * l.levels + 1
