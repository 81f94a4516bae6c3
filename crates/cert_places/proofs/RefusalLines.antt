-- A refusal that names a line is decided by the lines up to that one.
--
-- Every refusal but `Long` comes of reading the text, not of the scripts that it stands for (`whole_refused`), and there is a line
-- at which the reading stops (`text_stop`). Reading stops there in the same way whatever stands behind that line, so each text that
-- begins with these lines is refused alike, and no network and certificate has such a text (`decided`). `Long` isn't told here: it
-- is decided by the whole text.
use Rattle.std.proofs.Common.{◌≡◌, ◌≢◌, ℕ, ◌+◌, Option, Some, None, List, [], ◌∷◌, ◌++◌, Result, Ok, Err, length}
use Rattle.std.proofs.Common.{length-append, refl, sym, ap, subst, ◌∙◌, arith}
use Rattle.std.proofs.lemmas.List.Elements.{All-append, All-cons, All-nil}
use Rattle.net_core.specs.declared.network.Network.{Network}
use Rattle.source_tree.specs.declared.cert.Cert.{Cert}
use Rattle.cert_lines.specs.declared.error.CertError.{CertError}
use Rattle.cert_lines.specs.declared.error.CertError.TheVariants.{Line, Number, Deep, Long}
use Rattle.cert_lines.specs.Reading.{found}
use Rattle.cert_text.specs.Folding.{cert_of, network_of, scripts, too_long}
use Rattle.cert_text.specs.Reading.{pair_unless, reading, unfolded, whole_text}
use Rattle.cert_text.specs.StandsFor.{StandsFor}
use Rattle.cert_places.specs.Fronts.{BeginsWith, IsDecidedBy, IsLine, lines_text}
use Rattle.cert_places.proofs.Shapes.{Alike, Fate, Last, Stop, Told, grouped}
use Rattle.cert_places.proofs.Texts.{Kept, TextShape, start, text_fate}

long_or_not : (o : Option ℕ) (n : Network) (c : Cert) (refusal : CertError) → ((p : ℕ) → refusal ≢ Long p)
    → pair_unless o n c ≡ Err refusal → ⊥
long_or_not None n c refusal other e = cc e
long_or_not (Some p) n c refusal other e = let same : Long p ≡ refusal = cc in other p (sym same)

refused_part : (read : Result Kept CertError) (refusal : CertError) → ((p : ℕ) → refusal ≢ Long p)
    → unfolded (found read) ≡ Err refusal → read ≡ Err refusal
refused_part (Ok kept) refusal other e =
    absurd (long_or_not (too_long (scripts (network_of kept.0.1)) (cert_of kept.0.1).schedule) (network_of kept.0.1)
    (cert_of kept.0.1) refusal other e)
refused_part (Err wrong) refusal other e =
    let same : wrong ≡ refusal = cc in
    ap (λ (r : CertError). Err r) same

pub whole_refused : (text : List ℕ) (refusal : CertError) → ((p : ℕ) → refusal ≢ Long p) → reading text ≡ Err refusal
    → whole_text (start text) ≡ Err refusal
unfolding reading
whole_refused text refusal other e = refused_part (whole_text (start text)) refusal other e

-- where the whole text stops
abbrev pub TextStop : List ℕ → CertError → Type 0
TextStop text = Stop whole_text TextShape (start text)

pub text_stop : (text : List ℕ) (refusal : CertError) → whole_text (start text) ≡ Err refusal → TextStop text refusal
text_stop text refusal e =
    subst (λ (read : Result Kept CertError). Fate Last whole_text TextShape (start text) read) e (text_fate text)

module _ (back : (bytes : List ℕ) (network : Network) (cert : Cert) → StandsFor bytes network cert
    → reading bytes ≡ Ok (network, cert)) where
  decided : (text : List ℕ) (n : ℕ) (refusal : CertError) → ((p : ℕ) → refusal ≢ Long p)
      → ((line : List ℕ) → Alike refusal line line)
      → ((m : ℕ) (tail : List ℕ) → Told refusal m tail → (n ≡ m) × ((rest : List ℕ) × (tail ≡ 10 ∷ rest)))
      → reading text ≡ Err refusal → IsDecidedBy text n refusal
  unfolding reading
  decided text n refusal other alike told e =
      let k = text_stop text refusal (whole_refused text refusal other e) in
      let place = told (1 + length k.lines) k.tail k.told in
      let again : (bytes : List ℕ) → BeginsWith (k.lines ++ k.text ∷ []) bytes → reading bytes ≡ Err refusal =
      λ bytes begins.
      ap (λ (t : List ℕ). unfolded (found (whole_text (start t))))
      (begins.is_text ∙ grouped k.lines k.text begins.rest)
      ∙ ap (λ (read : Result Kept CertError). unfolded (found read))
      (k.anywhere k.text begins.rest k.whole (alike k.text)) in
      record {
        lines = k.lines ++ k.text ∷ [];
        count = omega (arith, length-append k.lines (k.text ∷ []), place.0);
        begins = record {
          each = All-append IsLine k.lines (k.text ∷ []) k.each (All-cons IsLine k.text [] k.whole (All-nil IsLine));
          rest = place.1.0;
          is_text = k.is_text ∙ ap (λ (t : List ℕ). lines_text k.lines ++ (k.text ++ t)) place.1.1
              ∙ sym (grouped k.lines k.text place.1.0);
        };
        same = again;
        none = λ bytes network cert begins stands.
            let read = sym (again bytes begins) ∙ back bytes network cert stands in cc read;
      }

  pub line_decided : (text : List ℕ) (n : ℕ) → reading text ≡ Err (Line n) → IsDecidedBy text n (Line n)
  line_decided text n = decided text n (Line n) (λ p w. cc w) (λ line. (refl, λ first. refl)) (λ m tail k. k)

  pub number_decided : (text : List ℕ) (n : ℕ) → reading text ≡ Err (Number n) → IsDecidedBy text n (Number n)
  number_decided text n = decided text n (Number n) (λ p w. cc w) (λ line. refl) (λ m tail k. k)

  pub deep_decided : (text : List ℕ) (n : ℕ) → reading text ≡ Err (Deep n) → IsDecidedBy text n (Deep n)
  deep_decided text n = decided text n (Deep n) (λ p w. cc w) (λ line. refl) (λ m tail k. k)
