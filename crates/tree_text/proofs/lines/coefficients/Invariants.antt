use Rattle.std.proofs.Common.{◌≡◌, ◌+◌, ◌≤◌, length}
use Rattle.std.specs.Prelude.{IfOk}
use Rattle.cert_lines.proofs.WordLists.{gathered}
use Rattle.tree_text.specs.Lines.{integers}
use Rattle.tree_text.proofs.lines.coefficients.Given as goal

-- with what the words so far say before them, the others say what all of them do
abbrev pub invariant-loop-word : goal.invariant-loop-word
invariant-loop-word l = record {
  said : gathered l.coefs (integers l.words) ≡ integers l.fn.words;
  counted : l.count + length l.words ≡ length l.fn.words;
  few : l.count ≤ 18;
  as_many : IfOk l.coefs (λ coefs. length coefs ≡ l.count);
}

abbrev pub decreases-loop-word : goal.decreases-loop-word
decreases-loop-word l = length l.words
