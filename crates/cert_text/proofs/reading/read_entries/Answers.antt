use Rattle.std.proofs.Common.{Ok, ap, sym, ◌∙◌}
use Rattle.std.proofs.lemmas.Result.{err_from_is_err_and}
use Rattle.source_tree.specs.declared.cert.Cert.{Cert}
use Rattle.cert_text.proofs.reading.read_entries.Goals as goal

pub returns-in_err-network : goal.returns-in_err-network
returns-in_err-network c =
    let told = err_from_is_err_and c.from_residual.result c.from_residual.ensures.1 in
    rw (told.1, told.2) c.in_err-network.ensures

pub returns : goal.returns
returns c =
    c.in_ok-network.ensures
    ∙ ap (λ (cert : Cert). Ok (c.in_ok-network.network, cert)) (sym c.in_ok-cert.ensures)
