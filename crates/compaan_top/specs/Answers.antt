-- How a call of `compaan` may end.
use Rattle.std.specs.Prelude.{ℕ, List, Option}
use Rattle.command_answers.specs.declared.status.Status.{Status}
use Rattle.command_line.specs.declared.words.Order.{Order}
use Rattle.call_endings.specs.Changes.{Change}
use Rattle.call_endings.specs.Endings.{EndsBy}
use Rattle.call_endings.specs.Reads.{ReadsFor}
use Rattle.compaan_top.specs.Commands.{read_by}
use Rattle.compaan_top.specs.Outcome.{IsOutcome}

-- the bundle is what was read of the source where this order is wanted
abbrev pub IsRead : Option Order → Change → List ℕ → Type 0
IsRead wanted = ReadsFor (read_by wanted)

-- How a call may end, and its status, where this order is wanted, or None where the words are refused: it wrote nothing, for
-- want of memory or since the source had a fault, or it wrote the outcome of the order and the bundle, or a sink had a fault
-- while it did. `EndsBy` has these four.
abbrev pub Ends : Option Order → Change → Change → Change → Status → Type 0
Ends wanted = EndsBy (IsOutcome wanted) (read_by wanted)
