use Rattle.std.proofs.Common.{ap, rules, ◌∙◌}
use Rattle.std.specs.Prelude.{FitsSigned}
use Rattle.std.specs.Int.{w64}
use Rattle.std.proofs.lemmas.Int.{to_z-of_z}
use Rattle.vhdl_text.specs.Literals.{literal}
use Rattle.unit_text.proofs.node.write_loop_reset.Goals as goal

pub returns : goal.returns
returns g c =
    let first = c.args.counter.now.first in
    let fits : FitsSigned w64 first = search rules in
    let text = c.literal.ensures ∙ ap literal (to_z-of_z w64 first fits) in
    rw (c.from.ensures, text) at c.write_all.ensures
