use Rattle.loop_lex.proofs.TokenSpaces.{read_back, texts_back}
use Rattle.loop_lex.proofs.law.spaced_tokens_are_read_back.Goals as goal

pub returns : goal.returns
returns c = record { read = read_back; texts = texts_back }
