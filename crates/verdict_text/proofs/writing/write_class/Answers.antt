use Rattle.verdict_text.proofs.writing.write_class.Goals as goal

pub returns : goal.returns
returns g c = rw (c.from.ensures, c.class_word.ensures, c.class_word-2.ensures) at c.write_line.ensures
