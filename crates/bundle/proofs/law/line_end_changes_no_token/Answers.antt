use Rattle.bundle.proofs.LineEnds.{sentence_same, tokens_same}
use Rattle.bundle.proofs.law.line_end_changes_no_token.Goals as goal

pub returns : goal.returns
returns c = record { tokens = tokens_same; sentence = sentence_same }
