-- What became of a text that was handed to a sink.
use Rattle.std.specs.Prelude.{◌≡◌, ◌-◌, ℕ, Bool, true, false, List, ◌++◌, take, length, Option, None, Some}
use Rattle.std.specs.Coded.{×_prop, Unit-prop, le_prop, coded_ℕ, coded_list, Coded-set}
use Rattle.std.specs.Io.KnownBytes.{Appends}
use Rattle.io_edge.specs.Causes.{Rose}

-- the sink holds what it held, and a front of the text
abbrev pub HoldsFront : Option (List ℕ) → Option (List ℕ) → List ℕ → Type 0
HoldsFront None new text = Unit {0}
HoldsFront (Some xs) None text = ⊥
HoldsFront (Some xs) (Some ys) text = ys ≡ xs ++ take (length ys - length xs) text

-- the sink took all of the text, or it failed, took a front of it, and its count rose
abbrev pub ReachesSink : Bool → Option (List ℕ) → Option (List ℕ) → ℕ → ℕ → List ℕ → Type 0
ReachesSink false held now faults count text = Appends held now text × (count ≡ faults)
ReachesSink true held now faults count text = HoldsFront held now text × Rose faults count

-- each of these facts has one proof

same_list-prop : (xs ys : List ℕ) → IsProp (xs ≡ ys)
same_list-prop xs ys = Coded-set (coded_list coded_ℕ) xs ys

appends-prop : (held now : Option (List ℕ)) (text : List ℕ) → IsProp (Appends held now text)
appends-prop None now text = Unit-prop
appends-prop (Some xs) None text = λ p. absurd p
appends-prop (Some xs) (Some ys) text = same_list-prop ys (xs ++ text)

front-prop : (held now : Option (List ℕ)) (text : List ℕ) → IsProp (HoldsFront held now text)
front-prop None now text = Unit-prop
front-prop (Some xs) None text = λ p. absurd p
front-prop (Some xs) (Some ys) text = same_list-prop ys (xs ++ take (length ys - length xs) text)

pub ReachesSink-prop : (failed : Bool) (held now : Option (List ℕ)) (faults count : ℕ)
    (text : List ℕ) → IsProp (ReachesSink failed held now faults count text)
ReachesSink-prop false held now faults count text =
    ×_prop (appends-prop held now text) (Coded-set coded_ℕ count faults)
ReachesSink-prop true held now faults count text = ×_prop (front-prop held now text) le_prop
