use Rattle.std.proofs.Common.{codes}
use Rattle.tree_text.proofs.LineSpaces.{form_line_wrote}
use Rattle.tree_text.proofs.writing.write_test.Goals as goal

pub returns : goal.returns
returns g c =
    form_line_wrote g.W.TextWriter.given (codes "t") c.args.form.now c.put.ensures c.write_form.ensures c.put-2.ensures
