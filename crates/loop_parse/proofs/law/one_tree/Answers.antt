use Rattle.loop_grammar.specs.Lexemes.{sentence}
use Rattle.loop_parse.proofs.Runs.{unique}
use Rattle.loop_parse.proofs.law.one_tree.Goals as goal

pub returns : goal.returns
returns c = λ bytes tokens a b ha hb. unique (sentence bytes tokens) a b ha hb
