use Rattle.std.proofs.Common.{refl}
use Rattle.cert_text.specs.StandsFor.{written_text}
use Rattle.cert_text.proofs.writing.write_cert.Goals as goal

pub returns-clause-text : goal.returns-clause-text
returns-clause-text g c =
    let wrote = rw (c.as_slice.ensures, c.as_slice-2.ensures) at c.write_cert_by_blocks.ensures.text in (
      written_text wrote.0 c.args.network.now.channels c.args.cert.now,
      record { processes = wrote.0; are_folded = wrote.1; is_text = refl },
      wrote.2,
      wrote.3,
    )
