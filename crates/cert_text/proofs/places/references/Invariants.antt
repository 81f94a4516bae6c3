use Rattle.std.proofs.Common.{◌≡◌, ◌+◌, ◌≤◌, length}
use Rattle.std.specs.Prelude.{IfOk}
use Rattle.cert_text.proofs.References.{all_behind}
use Rattle.cert_text.specs.Words.{references}
use Rattle.cert_text.proofs.places.references.Given as goal

-- with what the words so far say before them, the others say what all of them do
abbrev pub invariant-loop-word : goal.invariant-loop-word
invariant-loop-word l = record {
  said : all_behind l.refs l.words ≡ references l.fn.words;
  counted : l.count + length l.words ≡ length l.fn.words;
  few : l.count ≤ 8;
  as_many : IfOk l.refs (λ refs. length refs ≡ l.count);
}

abbrev pub decreases-loop-word : goal.decreases-loop-word
decreases-loop-word l = length l.words
