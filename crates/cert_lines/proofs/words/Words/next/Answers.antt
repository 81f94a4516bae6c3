use Rattle.std.proofs.Common.{◌∙◌, [], ap, sym}
use Rattle.std.specs.Option.{option_map_or}
use Rattle.cert_lines.specs.Words.{words_of}
use Rattle.cert_lines.proofs.Cuts.{first_word, one_word}
use Rattle.cert_lines.proofs.words.Words.next.Goals as goal

pub returns-in-Some : goal.returns-in-Some
returns-in-Some c =
    sym c.self.view_is ∙ ap (λ rest. option_map_or (λ text. words_of text.now) rest []) c.in_ok-rest.was
    ∙ first_word c.in_ok-rest.rest.now c.in-Some.word.now c.in-Some.others.now c.in-Some.ensures

pub returns-in-None : goal.returns-in-None
returns-in-None c =
    sym c.self.view_is ∙ ap (λ rest. option_map_or (λ text. words_of text.now) rest []) c.in_ok-rest.was
    ∙ one_word c.in_ok-rest.rest.now c.in-None.ensures
