-- Any run that ends all may stand as the schedule of a certificate that `check` accepts.
--
-- An accepted bundle has a certificate that fits its source's nest. A text stands for one network and certificate alone, so
-- these are the ones that it is said to stand for (`pair_fits`). With a run that ends all in the place of its schedule the
-- certificate fits still, and the text with the run's lines stands for it. So another bundle with this text and the same
-- source has a fitting certificate (`fitting_with_run`), and what has one is accepted and comes to nothing else. The laws on
-- which this rests are hypotheses here. Nothing is said of bundles past the limit.
use Rattle.std.proofs.Common.{◌≡◌, ◌∙◌, ℕ, ℤ, List, Some, Ok, refl, sym, ap, subst}
use Rattle.bundle.specs.Certified.{certified}
use Rattle.bundle.specs.Parts.{certificate_part, source_part}
use Rattle.cert_text.specs.Reading.{reading}
use Rattle.cert_text.specs.StandsFor.{StandsFor}
use Rattle.command_line.specs.declared.words.Order.{Order}
use Rattle.net_checker.specs.Fits.{Fits}
use Rattle.net_core.specs.Machine.{net_of}
use Rattle.net_core.specs.Orders.{EndsAll}
use Rattle.net_core.specs.Rules.{tags}
use Rattle.net_core.specs.declared.network.Network.{Network}
use Rattle.sanlp.specs.declared.nest.Nest.{Nest}
use Rattle.source_tree.specs.declared.cert.Cert.{Cert}
use Rattle.network_laws.specs.Entries.{text_with_run}
use Rattle.command_answers.specs.Source.{GivesWithinSize}
use Rattle.compaan_top.specs.CheckAnswers.{Accepts, HasCertificate}
use Rattle.compaan_top.specs.Headline.{HasFittingCertificate}
use Rattle.compaan_top.proofs.Acceptance.{NothingWrongFits, ReadsItsText, TextIsRead, checks_vouched, outcome_vouched}
use Rattle.compaan_top.proofs.Acceptance.{same_pair}
use Rattle.compaan_top.proofs.CertVerdict.{SentenceStays, TokensStay}
use Rattle.compaan_top.proofs.Statuses.{same_part}
use Rattle.schedule_laws.specs.Calls.{AcceptsText, SurelyAccepts}
use Rattle.schedule_laws.proofs.Sources.{gives_with_end}

-- the laws below

abbrev pub FitsWithRun : Type 0
FitsWithRun =
    (n : Nest) (network : Network) (cert : Cert) (run : List ℕ) → Fits n network cert → EndsAll (net_of network) tags run
    → Fits n network (record { sources = cert.sources; schedule = run })

abbrev pub StandsWithRun : Type 0
StandsWithRun =
    (n : Nest) (network : Network) (cert : Cert) (text run : List ℕ) → (stands : StandsFor text network cert)
    → Fits n network cert → EndsAll (net_of network) tags run
    → StandsFor (text_with_run stands run) network
    (record { sources = cert.sources; schedule = run })

pub fitting_with_run : FitsWithRun → StandsWithRun → TokensStay → SentenceStays
    → (params : List (List ℕ × ℤ)) (bundle other text run : List ℕ) (nest : Nest) (network : Network) (cert : Cert)
    → GivesWithinSize (source_part bundle) params (Ok nest) → (stands : StandsFor text network cert)
    → Fits nest network cert → EndsAll (net_of network) tags run
    → HasCertificate bundle other (text_with_run stands run) → HasFittingCertificate params other
fitting_with_run fits_too stands_too tokens_stay sentence_stays params bundle other text run nest network cert gives stands
    fits whole has =
    record {
      nest = nest;
      network = network;
      cert = record { sources = cert.sources; schedule = run };
      gives =
          subst (λ (source : List ℕ). GivesWithinSize source params (Ok nest)) (sym has.source)
          (gives_with_end tokens_stay sentence_stays (source_part bundle) params nest gives);
      text = text_with_run stands run;
      is_part = has.certificate;
      stands = stands_too nest network cert text run stands fits whole;
      fits = fits_too nest network cert run fits whole;
    }

-- the source of a bundle gives a nest that this network and this certificate fit
pub record HasFittingPair (params : List (List ℕ × ℤ)) (bundle : List ℕ) (network : Network) (cert : Cert) : Type 0 where
  pub nest : Nest
  pub gives : GivesWithinSize (source_part bundle) params (Ok nest)
  pub fits : Fits nest network cert

pair_fits : TextIsRead → (params : List (List ℕ × ℤ)) (bundle text : List ℕ) (network : Network) (cert : Cert)
    → StandsFor text network cert → certificate_part bundle ≡ Some text → HasFittingCertificate params bundle
    → HasFittingPair params bundle network cert
pair_fits back params bundle text network cert stands part v =
    let texts : v.text ≡ text = same_part bundle v.text text v.is_part part in
    let pairs : (v.network, v.cert) ≡ (network, cert) =
    same_pair (reading text) (v.network, v.cert) (network, cert)
    (ap reading (sym texts) ∙ back v.text v.network v.cert v.stands) (back text network cert stands) in
    record {
      nest = v.nest;
      gives = v.gives;
      fits = subst (λ (z : Network × Cert). Fits v.nest z.0 z.1) pairs v.fits;
    }

pub accepted_pair : NothingWrongFits → ReadsItsText → TextIsRead → (check : Order) (bundle text : List ℕ)
    (network : Network) (cert : Cert) → AcceptsText check bundle text → StandsFor text network cert
    → HasFittingPair check.params bundle network cert
accepted_pair fitting reads back check bundle text network cert accepts stands =
    pair_fits back check.params bundle text network cert stands accepts.part
    (outcome_vouched (λ params b answer made done. checks_vouched fitting reads params b made done) (Some check) bundle
    check refl accepts.command accepts.outcome refl)

abbrev pub FittingWithRun : Type 0
FittingWithRun =
    (params : List (List ℕ × ℤ)) (bundle other text run : List ℕ) (nest : Nest) (network : Network) (cert : Cert)
    → GivesWithinSize (source_part bundle) params (Ok nest) → (stands : StandsFor text network cert)
    → Fits nest network cert → EndsAll (net_of network) tags run
    → HasCertificate bundle other (text_with_run stands run) → HasFittingCertificate params other

abbrev pub HasOwnParts : Type 0
HasOwnParts =
    (params : List (List ℕ × ℤ)) (bundle text : List ℕ) (nest : Nest)
    → GivesWithinSize (source_part bundle) params (Ok nest)
    → HasCertificate bundle (certified (source_part bundle) text) text

abbrev pub AcceptsFitting : Type 0
AcceptsFitting = (check : Order) (bundle : List ℕ) → HasFittingCertificate check.params bundle → Accepts check bundle

module _ (accepts : AcceptsFitting) (with_run : FittingWithRun) where
  pub accepts_pair : (check : Order) (bundle other text run : List ℕ) (network : Network) (cert : Cert)
      → HasFittingPair check.params bundle network cert → (stands : StandsFor text network cert)
      → EndsAll (net_of network) tags run
      → HasCertificate bundle other (text_with_run stands run)
      → SurelyAccepts check other (text_with_run stands run)
  accepts_pair check bundle other text run network cert pair stands whole has =
      record {
        accepts = accepts check other
            (with_run check.params bundle other text run pair.nest network cert pair.gives stands pair.fits whole has);
        part = has.certificate;
      }

  pub accepts_own : HasOwnParts → (check : Order) (bundle text run : List ℕ) (network : Network) (cert : Cert)
      → HasFittingPair check.params bundle network cert → (stands : StandsFor text network cert)
      → EndsAll (net_of network) tags run
      → SurelyAccepts check (certified (source_part bundle) (text_with_run stands run)) (text_with_run stands run)
  accepts_own own_parts check bundle text run network cert pair stands whole =
      let lines : List ℕ = text_with_run stands run in
      accepts_pair check bundle (certified (source_part bundle) lines) text run network cert pair stands whole
      (own_parts check.params bundle lines pair.nest pair.gives)
