use Rattle.std.proofs.Common.{arith}
use Rattle.std.proofs.lemmas.Grind.{common_steps}
use Rattle.text_out.proofs.WordSpaces.{words_joined}
use Rattle.text_out.proofs.words.write_words.Goals as goal

pub returns-in-Some : goal.returns-in-Some
returns-in-Some g c =
    grind (arith, common_steps, words_joined c.in-Some.first.now c.in-Some.others.now, c.in-Some.ensures.cases)
