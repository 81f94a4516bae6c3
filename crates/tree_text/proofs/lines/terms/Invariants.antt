use Rattle.std.proofs.Common.{◌≡◌, length}
use Rattle.cert_lines.proofs.WordLists.{gathered}
use Rattle.tree_text.specs.Lines.{terms}
use Rattle.tree_text.proofs.lines.terms.Given as goal

-- with what the words so far say before them, the others say what all of them do
abbrev pub invariant-loop-row : goal.invariant-loop-row
invariant-loop-row l = gathered l.terms (terms l.words) ≡ terms l.fn.words

abbrev pub decreases-loop-row : goal.decreases-loop-row
decreases-loop-row l = length l.words
