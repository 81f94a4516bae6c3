-- What writing one text and then another comes to: both or, where a write failed, a front of the two.
use Rattle.std.proofs.Common.{◌≡◌, ◌∙◌, ℕ, List, [], ◌++◌, Option, Result, Ok, Err, refl, sym, ap, subst, append-nil}
use Rattle.std.specs.Prelude.{OnErr, OnOk}
use Rattle.std.specs.Io.KnownBytes.{Appends}
use Rattle.std.proofs.KnownBytes.{Appends-nil, Appends-trans}
use Rattle.io_edge.specs.Causes.{AppendsFront, Rose}
use Rattle.io_edge.proofs.Fronts.{front_after}

-- a front of the first is one of both
pub front_of_first : (old new : Option (List ℕ)) (first second : List ℕ) → AppendsFront old new first
    → AppendsFront old new (first ++ second)
front_of_first old new first second front =
    front_after old old new [] first second (first ++ second) (Appends-nil old) front refl

module _ {T E : Type 0} where
  pub both_written : (result : Result T E) (old mid new : Option (List ℕ)) (first second : List ℕ)
      → Appends old mid first → OnOk result (Appends mid new second) → OnOk result (Appends old new (first ++ second))
  both_written (Ok done) old mid new first second before after = Appends-trans old mid new first second before after
  both_written (Err fault) old mid new first second before after = tt

  pub front_of_both : (result : Result T E) (old mid new : Option (List ℕ)) (first second : List ℕ)
      → Appends old mid first → OnErr result (AppendsFront mid new second)
      → OnErr result (AppendsFront old new (first ++ second))
  front_of_both (Ok done) old mid new first second before front = tt
  front_of_both (Err fault) old mid new first second before front =
      front_after old mid new first second [] (first ++ second) before front
      (ap (λ (text : List ℕ). first ++ text) (sym (append-nil second)))

  pub quiet_throughout : (result : Result T E) (old mid new : ℕ) → mid ≡ old → OnOk result (new ≡ mid)
      → OnOk result (new ≡ old)
  quiet_throughout (Ok done) old mid new before after = after ∙ before
  quiet_throughout (Err fault) old mid new before after = tt

  pub rose_later : (result : Result T E) (old mid new : ℕ) → mid ≡ old → OnErr result (Rose mid new)
      → OnErr result (Rose old new)
  rose_later (Ok done) old mid new before rose = tt
  rose_later (Err fault) old mid new before rose = subst (λ (count : ℕ). Rose count new) before rose
