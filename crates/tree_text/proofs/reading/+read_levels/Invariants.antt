use Rattle.std.proofs.Common.{◌+◌, ◌*◌}
use Rattle.tree_text.proofs.reading.+read_levels.Given as goal

abbrev pub decreases-read_levels : goal.decreases-read_levels
decreases-read_levels l = 2 * l.levels

abbrev pub decreases-read_node : goal.decreases-read_node
decreases-read_node l = 2 * l.levels + 1
