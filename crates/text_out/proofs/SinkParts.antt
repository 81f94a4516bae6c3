-- A text that is handed to a sink in parts. As long as no write failed, the sink holds what it held and all of the text
-- so far, so the next part goes behind it; a write that fails leaves a front of that part, and so a front of the whole.
-- From then on nothing more is written, and a front of the text so far is a front of the longer text too.
use Rattle.std.proofs.Common.{◌≡◌, ◌≤◌, ◌-◌, ℕ, Bool, true, false, List, [], ◌++◌, Option, None, Some, take, length}
use Rattle.std.proofs.Common.{refl, ap, sym, subst, ◌∙◌, append-nil, arith, length-append}
use Rattle.std.proofs.lemmas.List.{take-append-le, length-take, length-take-le}
use Rattle.std.proofs.KnownBytes.{Appends-trans}
use Rattle.io_edge.proofs.Fronts.{front_after}
use Rattle.io_edge.specs.Causes.{AppendsFront, Rose}
use Rattle.text_out.specs.ReachesSink.{ReachesSink, HoldsFront}

-- a front, by how many bytes came
pub holds_front : (held now : Option (List ℕ)) (text : List ℕ) → AppendsFront held now text → HoldsFront held now text
holds_front None now text front = tt
holds_front (Some xs) None text (n, within, came) = came
holds_front (Some xs) (Some ys) text (n, within, came) =
    let count : length ys - length xs ≡ n =
    omega (arith, ap length came, length-append xs (take n text), length-take-le n text within) in
    rw count came

-- no more came than there is
bounded_front : (xs ys text : List ℕ) → ys ≡ xs ++ take (length ys - length xs) text
    → length ys - length xs ≤ length text
bounded_front xs ys text came =
    omega (
      arith,
      ap length came,
      length-append xs (take (length ys - length xs) text),
      length-take (length ys - length xs) text,
    )

pub appends_front : (held now : Option (List ℕ)) (text : List ℕ) → HoldsFront held now text → AppendsFront held now text
appends_front None now text holds = (0, omega arith, tt)
appends_front (Some xs) None text holds = absurd holds
appends_front (Some xs) (Some ys) text holds = (length ys - length xs, bounded_front xs ys text holds, holds)

longer_front : (held now : Option (List ℕ)) (text more : List ℕ) → HoldsFront held now text
    → HoldsFront held now (text ++ more)
longer_front None now text more holds = tt
longer_front (Some xs) None text more holds = holds
longer_front (Some xs) (Some ys) text more holds =
    let within : length ys - length xs ≤ length text = bounded_front xs ys text holds in
    rw take-append-le holds

module _ {S : Type 0} (held : S → Option (List ℕ)) (faults : S → ℕ) (first mid now : S) (text more : List ℕ) where
  -- what became of the text so far, and of the next part where no write had failed, by whether one has failed then
  behind : (q : Bool) → ReachesSink false (held first) (held mid) (faults first) (faults mid) text
      → ReachesSink q (held mid) (held now) (faults mid) (faults now) more
      → ReachesSink q (held first) (held now) (faults first) (faults now) (text ++ more)
  behind false so_far next =
      (Appends-trans (held first) (held mid) (held now) text more so_far.0 next.0, next.1 ∙ so_far.1)
  behind true so_far next =
      let front = appends_front (held mid) (held now) more next.0 in
      let whole : text ++ more ≡ text ++ (more ++ []) = ap (λ (xs : List ℕ). text ++ xs) (sym (append-nil more)) in (
        holds_front (held first) (held now) (text ++ more)
            (front_after (held first) (held mid) (held now) text more [] (text ++ more) so_far.0 front whole),
        subst (λ n. Rose n (faults now)) so_far.1 next.1,
      )

  stopped : (q : Bool) → ReachesSink true (held first) (held mid) (faults first) (faults mid) text → q ≡ true
      → now ≡ mid
      → ReachesSink q (held first) (held now) (faults first) (faults now) (text ++ more)
  stopped false so_far e same = cc
  stopped true so_far e same = (
    subst (λ (s : S). HoldsFront (held first) (held s) (text ++ more)) (sym same)
        (longer_front (held first) (held mid) text more so_far.0),
    subst (λ (s : S). Rose (faults first) (faults s)) (sym same) so_far.1,
  )

  -- so the text and its next part were handed over
  pub handed_on : (p q : Bool) → ReachesSink p (held first) (held mid) (faults first) (faults mid) text
      → (p ≡ true → (q ≡ true) × (now ≡ mid))
      → (p ≡ false → ReachesSink q (held mid) (held now) (faults mid) (faults now) more)
      → ReachesSink q (held first) (held now) (faults first) (faults now) (text ++ more)
  handed_on true q so_far stays goes = stopped q so_far (stays refl).0 (stays refl).1
  handed_on false q so_far stays goes = behind q so_far (goes refl)

-- where a write failed, a front came
pub front_of_failed : (failed : Bool) (held now : Option (List ℕ)) (faults count : ℕ) (text all : List ℕ)
    → ReachesSink failed held now faults count text → failed ≡ true → text ≡ all → AppendsFront held now all
front_of_failed true held now faults count text all handed e same = rw (← same) (appends_front held now text handed.0)
front_of_failed false held now faults count text all handed e same = cc
