-- What holds where `check` accepts.
--
-- That `check` is done leaves one case: every other end, outcome and answer has another status (`IsUndone`). In that case
-- nothing was found wrong with the pair that was read, so the pair fits, the text stands for it, and the network is sound. The
-- other way, a text that stands for a fitting pair is read as that pair and its source gives one nest, so no case is
-- left in which it isn't accepted, and the case in which it is is there (`accepts_surely`). Hypotheses here: the first fault is none exactly where the pair fits
-- (`NothingWrongFits`), what fits is sound (`WhatFitsIsSound`), reading and standing for agree (`ReadsItsText`,
-- `TextIsRead`), and `OneTree`.
use Rattle.std.proofs.Common.{Err, ◌≡◌, ◌≤◌, ◌∙◌, arith, length, ℕ, ℤ, List, Option, Some, None, Result, Ok, refl, sym, ap, subst, inl, inr}
use Rattle.std.specs.Prelude.{◌↔◌}
use Rattle.cert_text.specs.StandsFor.{StandsFor}
use Rattle.cert_text.specs.Reading.{reading}
use Rattle.cert_lines.specs.declared.error.CertError.{CertError}
use Rattle.bundle.specs.Parts.{certificate_part, source_part}
use Rattle.command_line.specs.declared.words.Command.{Command}
use Rattle.command_line.specs.declared.words.Command.TheVariants.{Check}
use Rattle.command_line.specs.declared.words.Order.{Order}
use Rattle.net_checker.specs.Fits.{Fits, first, verdict_of}
use Rattle.net_checker.specs.declared.verdict.Refusal.{Refusal as NetRefusal}
use Rattle.net_core.specs.Sound.{IsSound}
use Rattle.net_core.specs.declared.network.Network.{Network}
use Rattle.sanlp.specs.declared.nest.Nest.{Nest}
use Rattle.source_tree.specs.declared.cert.Cert.{Cert}
use Rattle.call_endings.specs.Changes.{Change}
use Rattle.call_endings.specs.Complaints.{refusal_status}
use Rattle.call_endings.specs.Endings.{no_memory, read_fault, written, cut_short}
use Rattle.call_endings.specs.Outcomes.{Outcome, outcome_of}
use Rattle.call_endings.specs.Reads.{ReadsFor, ReadsTo, bundle_limit}
use Rattle.compaan_top.specs.Answers.{Ends, IsRead}
use Rattle.command_answers.specs.Checking.{Checks, verdict_reply, part_missing, source_refused, unread, judged}
use Rattle.compaan_top.specs.CheckAnswers.{Accepts}
use Rattle.compaan_top.specs.Headline.{AcceptsWhatFits, HasFittingCertificate, HasSoundCertificate, accepted}
use Rattle.compaan_top.specs.Outcome.{IsOutcome, Performs, words_refused, bundle_refused, performed}
use Rattle.command_answers.specs.Replies.{Reply}
use Rattle.command_answers.specs.declared.refusal.Refusal.{Refusal}
use Rattle.command_answers.specs.declared.status.Status.{Status}
use Rattle.command_answers.specs.declared.status.Status.TheVariants.{BundleRefused, CertificateRefused, Done, InputFailed, NoMemory, OutputFailed}
use Rattle.compaan_top.specs.Commands.{reads_of}
use Rattle.compaan_top.proofs.OwnStatuses.{IsOfSource, sized_refused}
use Rattle.compaan_top.proofs.Statuses.{Alike, OneTree, first_alike, no_order, no_part_there, same_part, sized_alike}

abbrev pub NothingWrongFits : Type 0
NothingWrongFits = (n : Nest) (network : Network) (cert : Cert) → (first n network cert ≡ None) ↔ Fits n network cert

abbrev pub WhatFitsIsSound : Type 0
WhatFitsIsSound = (n : Nest) (network : Network) (cert : Cert) → Fits n network cert → IsSound n network

abbrev pub ReadsItsText : Type 0
ReadsItsText =
    (bytes : List ℕ) (network : Network) (cert : Cert) → reading bytes ≡ Ok (network, cert)
    → StandsFor bytes network cert

-- where a verdict is done, nothing is wrong
nothing_wrong : (found : Option NetRefusal) → (verdict_reply (verdict_of found)).status ≡ Done → found ≡ None
nothing_wrong None is = refl
nothing_wrong (Some refusal) is = cc

abbrev pub VouchesFor : Type 0
VouchesFor =
    (params : List (List ℕ × ℤ)) (bundle : List ℕ) (answer : Result Reply Refusal) → Checks params bundle answer
    → (outcome_of answer).status ≡ Done → HasFittingCertificate params bundle

-- what ends so isn't done
abbrev pub IsUndone : Status → Type 0
IsUndone status = status ≡ Done → ⊥

unaccepted : IsUndone CertificateRefused
unaccepted is = cc

pub too_long : IsUndone BundleRefused
too_long is = cc

no_memory_is_undone : IsUndone NoMemory
no_memory_is_undone is = cc

input_failed : IsUndone InputFailed
input_failed is = cc

output_failed : IsUndone OutputFailed
output_failed is = cc

pub of_source : (status : Status) → IsOfSource status → IsUndone status
of_source status (inl text) is = cc
of_source status (inr (inl class)) is = cc
of_source status (inr (inr limit)) is = cc

pub checks_vouched : NothingWrongFits → ReadsItsText
    → (params : List (List ℕ × ℤ)) (bundle : List ℕ) {answer : Result Reply Refusal}
    → Checks params bundle answer → (outcome_of answer).status ≡ Done → HasFittingCertificate params bundle
checks_vouched fitting reads params bundle (part_missing none) is = absurd (too_long is)
checks_vouched fitting reads params bundle (source_refused part refusal there gives) is =
    absurd (of_source (refusal_status refusal) (sized_refused (source_part bundle) params gives) is)
checks_vouched fitting reads params bundle (unread part nest error text there gives read told) is =
    absurd (unaccepted is)
checks_vouched fitting reads params bundle (judged part nest network cert there gives read) is =
    record {
      nest = nest;
      network = network;
      cert = cert;
      gives = gives;
      text = part;
      is_part = there;
      stands = reads part network cert read;
      fits = (fitting nest network cert).0 (nothing_wrong (first nest network cert) is);
    }

pub same_order : (wanted : Option Order) (a b : Order) → wanted ≡ Some a → wanted ≡ Some b → a ≡ b
same_order wanted a b x y = cc

performs_vouched : VouchesFor → (order : Order) (bundle : List ℕ) (answer : Result Reply Refusal)
    → order.command ≡ Check
    → Performs order.command order bundle answer → (outcome_of answer).status ≡ Done
    → HasFittingCertificate order.params bundle
performs_vouched vouches order bundle answer is made done =
    vouches order.params bundle answer (subst (λ (c : Command). Performs c order bundle answer) is made) done

pub outcome_vouched : VouchesFor → (wanted : Option Order) (bundle : List ℕ) (order : Order) {outcome : Outcome}
    → wanted ≡ Some order → order.command ≡ Check
    → IsOutcome wanted bundle outcome → outcome.status ≡ Done → HasFittingCertificate order.params bundle
outcome_vouched vouches wanted bundle order ordered is (words_refused none) done =
    absurd (no_order wanted order none ordered)
outcome_vouched vouches wanted bundle order ordered is (bundle_refused other others some long) done =
    absurd (too_long done)
outcome_vouched vouches wanted bundle order ordered is (performed other answer others within made) done =
    let same : other ≡ order = same_order wanted other order others ordered in
    performs_vouched vouches order bundle answer is
    (subst (λ (o : Order). Performs o.command o bundle answer) same made) done

reads_to : (wanted : Option Order) (input : Change) (bundle : List ℕ) (order : Order) → wanted ≡ Some order
    → order.command ≡ Check → IsRead wanted input bundle → ReadsTo input bundle
reads_to wanted input bundle order ordered is reads =
    subst (λ (c : Command). ReadsFor (reads_of c) input bundle) is
    (subst (λ (o : Option Order). IsRead o input bundle) ordered reads)

-- what has a fitting certificate has a sound one
pub with_sound : WhatFitsIsSound → (params : List (List ℕ × ℤ)) (bundle : List ℕ) → HasFittingCertificate params bundle
    → HasSoundCertificate params bundle
with_sound sound params bundle v = record { fitting = v; sound = sound v.nest v.network v.cert v.fits }

-- a call that was done and whose words order `check` read a bundle with a sound certificate
pub ends_vouched : VouchesFor → WhatFitsIsSound
    → (wanted : Option Order) (input output complaint : Change) (order : Order) {status : Status}
    → Ends wanted input output complaint status
    → wanted ≡ Some order → order.command ≡ Check → status ≡ Done
    → (bundle : List ℕ) × ReadsTo input bundle × HasSoundCertificate order.params bundle
ends_vouched vouches sound wanted input output complaint order (no_memory quiet taken writes) ordered is done =
    absurd (no_memory_is_undone done)
ends_vouched vouches sound wanted input output complaint order
    (read_fault some fault taken writes) ordered is done = absurd (input_failed done)
ends_vouched vouches sound wanted input output complaint order
    (written bundle outcome quiet reads outcome_is all) ordered is done = (
      bundle,
      reads_to wanted input bundle order ordered is reads,
      with_sound sound order.params bundle (outcome_vouched vouches wanted bundle order ordered is outcome_is done),
    )
ends_vouched vouches sound wanted input output complaint order
    (cut_short bundle outcome quiet reads outcome_is front) ordered is done = absurd (output_failed done)

-- The other way

abbrev pub TextIsRead : Type 0
TextIsRead =
    (bytes : List ℕ) (network : Network) (cert : Cert) → StandsFor bytes network cert → reading bytes
    ≡ Ok (network, cert)

-- the part is read as the pair that it stands for
part_read : TextIsRead → (params : List (List ℕ × ℤ)) (bundle part : List ℕ) (v : HasFittingCertificate params bundle)
    → certificate_part bundle ≡ Some part
    → reading part ≡ Ok (v.network, v.cert)
part_read back params bundle part v there =
    ap reading (same_part bundle part v.text there v.is_part) ∙ back v.text v.network v.cert v.stands

no_error : (a : Result (Network × Cert) CertError) (e : CertError) (pair : Network × Cert) → a ≡ Err e → a ≡ Ok pair → ⊥
no_error a e pair x y = cc

pub same_pair : (a : Result (Network × Cert) CertError) (x y : Network × Cert) → a ≡ Ok x → a ≡ Ok y → x ≡ y
same_pair a x y p q = cc

-- nothing is wrong with a fitting pair
none_wrong : NothingWrongFits → (n m : Nest) (network : Network) (cert : Cert) (pair : Network × Cert)
    → Alike (Ok n) (Ok m) → pair ≡ (network, cert) → Fits m network cert
    → first n pair.0 pair.1 ≡ None
none_wrong fitting n m network cert pair same is fits =
    ap (λ (z : Network × Cert). first n z.0 z.1) is ∙ first_alike n m same.0 same.1 same.2 network cert
    ∙ (fitting m network cert).1 fits

checks_accepted : OneTree → NothingWrongFits → TextIsRead
    → (params : List (List ℕ × ℤ)) (bundle : List ℕ)
    (v : HasFittingCertificate params bundle) {answer : Result Reply Refusal}
    → Checks params bundle answer → outcome_of answer ≡ accepted
checks_accepted one fitting back params bundle v (part_missing none) =
    absurd (no_part_there bundle v.text none v.is_part)
checks_accepted one fitting back params bundle v (source_refused part refusal there gives) =
    absurd (sized_alike one (source_part bundle) params gives v.gives)
checks_accepted one fitting back params bundle v (unread part nest error text there gives read told) =
    absurd (no_error (reading part) error (v.network, v.cert) read (part_read back params bundle part v there))
checks_accepted one fitting back params bundle v (judged part nest network cert there gives read) =
    let pairs : (network, cert) ≡ (v.network, v.cert) =
    same_pair (reading part) (network, cert) (v.network, v.cert) read (part_read back params bundle part v there) in
    let none : first nest network cert ≡ None =
    none_wrong fitting nest v.nest v.network v.cert (network, cert)
    (sized_alike one (source_part bundle) params gives v.gives) pairs v.fits in
    ap (λ (found : Option NetRefusal). outcome_of (Ok (verdict_reply (verdict_of found)))) none

outcome_accepted : OneTree → NothingWrongFits → TextIsRead
    → (wanted : Option Order) (bundle : List ℕ) (order : Order) {outcome : Outcome} → wanted ≡ Some order
    → order.command ≡ Check → length bundle ≤ bundle_limit → HasFittingCertificate order.params bundle
    → IsOutcome wanted bundle outcome → outcome ≡ accepted
outcome_accepted one fitting back wanted bundle order ordered is within v (words_refused none) =
    absurd (no_order wanted order none ordered)
outcome_accepted one fitting back wanted bundle order ordered is within v (bundle_refused other others some long) =
    absurd (omega (arith, within))
outcome_accepted one fitting back wanted bundle order ordered is within v (performed other answer others small made) =
    let same : other ≡ order = same_order wanted other order others ordered in
    checks_accepted one fitting back order.params bundle v
    (subst (λ (c : Command). Performs c order bundle answer) is
    (subst (λ (o : Order). Performs o.command o bundle answer) same made))

-- words that order `check` come to `accepted` exactly where the bundle has a fitting certificate
pub accepts_fitting : OneTree → NothingWrongFits → ReadsItsText → TextIsRead → (wanted : Option Order) (bundle : List ℕ)
    → AcceptsWhatFits wanted bundle
accepts_fitting one fitting reads back wanted bundle order ordered is within outcome outcome_is = (
  λ same. outcome_vouched
      (λ params b answer made done.
      checks_vouched fitting reads params b made done) wanted bundle order ordered is outcome_is
      (ap (λ (o : Outcome). o.status) same),
  λ v. outcome_accepted one fitting back wanted bundle order ordered is within v outcome_is,
)

-- what has a fitting certificate comes to `accepted`: its text is read as the pair, of which nothing is wrong
fitting_outcome : NothingWrongFits → TextIsRead → (check : Order) (bundle : List ℕ) → check.command ≡ Check
    → length bundle ≤ bundle_limit → HasFittingCertificate check.params bundle → IsOutcome (Some check) bundle accepted
fitting_outcome fitting back check bundle is within v =
    let answer = Ok (verdict_reply (verdict_of None)) in
    let made : Checks check.params bundle answer =
    subst (λ (found : Option NetRefusal). Checks check.params bundle (Ok (verdict_reply (verdict_of found))))
    ((fitting v.nest v.network v.cert).1 v.fits)
    (judged v.text v.nest v.network v.cert v.is_part v.gives (back v.text v.network v.cert v.stands)) in
    performed check answer refl within (subst (λ (c : Command). Performs c check bundle answer) (sym is) made)

-- and to nothing else
pub accepts_surely : OneTree → NothingWrongFits → TextIsRead → (check : Order) (bundle : List ℕ)
    → HasFittingCertificate check.params bundle → Accepts check bundle
accepts_surely one fitting back check bundle v is within outcome = (
  outcome_accepted one fitting back (Some check) bundle check refl is within v,
  λ same. subst (IsOutcome (Some check) bundle) (sym same) (fitting_outcome fitting back check bundle is within v),
)
