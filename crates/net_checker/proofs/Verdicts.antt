-- The verdict, by what is wrong first.
use Rattle.std.proofs.Common.{◌≡◌, Option, Some, None, refl, sym, ap, ◌∙◌}
use Rattle.std.specs.Prelude.{◌↔◌}
use Rattle.sanlp.specs.declared.nest.Nest.{Nest}
use Rattle.source_tree.specs.declared.cert.Cert.{Cert}
use Rattle.net_core.specs.declared.network.Network.{Network}
use Rattle.net_core.specs.Sound.{IsSound}
use Rattle.net_core.proofs.Soundness.{is_sound}
use Rattle.net_checker.specs.declared.verdict.Refusal.{Refusal}
use Rattle.net_checker.specs.declared.verdict.Verdict.{Verdict}
use Rattle.net_checker.specs.declared.verdict.Verdict.TheVariants.{Accepted}
use Rattle.net_checker.specs.Fits.{Fits, first, verdict_of}
use Rattle.net_checker.proofs.FitsCriteria.{first_fits, fits_first, fits_last}

module _ (n : Nest) (network : Network) (cert : Cert) where
  accepted : (o : Option Refusal) → verdict_of o ≡ Accepted → o ≡ None
  accepted None h = refl
  accepted (Some r) h = cc

  pub verdict_fits : (v : Verdict) → v ≡ verdict_of (first n network cert) → (v ≡ Accepted) ↔ Fits n network cert
  verdict_fits v is = (
    λ h. first_fits n network cert (accepted (first n network cert) (sym is ∙ h)),
    λ fits. is ∙ ap verdict_of (fits_first n network cert fits),
  )

  pub verdict_sound : (v : Verdict) → v ≡ verdict_of (first n network cert) → v ≡ Accepted → IsSound n network
  verdict_sound v is h =
      let fits = first_fits n network cert (accepted (first n network cert) (sym is ∙ h)) in
      is_sound n network fits.shape (fits_last n network cert fits) cert.schedule fits.ends
