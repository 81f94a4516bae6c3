use Rattle.loop_grammar.specs.Lexemes.{sentence}
use Rattle.loop_parse.proofs.Places as places
use Rattle.loop_parse.proofs.law.one_place.Goals as goal

pub returns : goal.returns
returns c = λ bytes tokens j k hj hk. places.one_place (sentence bytes tokens) j k hj hk
