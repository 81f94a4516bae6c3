use Rattle.std.proofs.Common.{arith, rules}
use Rattle.std.proofs.lemmas.Grind.{common_steps}
use Rattle.cert_text.proofs.writing.write_cert_by_blocks.Goals as goal

pub returns-clause-text : goal.returns-clause-text
returns-clause-text g c =
    let wrote = c.write_text.ensures.wrote in (
      c.write_text.ensures.folded,
      c.write_text.ensures.are_given,
      first_of (search rules, grind (arith, common_steps)),
      first_of (search rules, grind (arith, common_steps)),
    )
