use Rattle.std.proofs.Common.{◌≡◌, sym, ap, ◌∙◌, rules}
use Rattle.std.specs.Cmp.Rules.{signed_items}
use Rattle.last_writer.proofs.writers.is_same.Goals as goal

pub returns-clause-form : goal.returns-clause-form
returns-clause-form c is =
    let a = c.args.first.now.form in
    let b = c.args.second.now.form in
    let same : c.as_slice.result.now ≡ c.as_slice-2.result.now =
    (signed_items c.as_slice.result.now c.as_slice-2.result.now).0 (sym c.eq.ensures ∙ is) in
    let coefs : a.coefs ≡ b.coefs = sym c.as_slice.ensures.value ∙ same ∙ c.as_slice-2.ensures.value in
    let constant : a.constant ≡ b.constant = search rules in
    ap (λ k. record { constant = k; coefs = a.coefs }) constant
    ∙ ap (λ cs. record { constant = b.constant; coefs = cs }) coefs
