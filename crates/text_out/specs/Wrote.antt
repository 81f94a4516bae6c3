-- What a writer of a text was given.
use Rattle.std.specs.Prelude.{◌≡◌, ℕ, List, ◌++◌, Option}
use Rattle.std.specs.Borrow.{GName}

-- a sink as a writer found it: its name, the bytes that it held, and its count of faults
pub record Start : Type 0 where
  pub sink : GName
  pub held : Option (List ℕ)
  pub faults : ℕ

-- the sink of a writer as it was at first, and the text that the writer was given since
pub record Given : Type 0 where
  pub start : Start
  pub text : List ℕ

-- the writer was given this text, behind the text that it had been given
abbrev pub Wrote : {W : Type 0} → (W → Given) → W → W → List ℕ → Type 0
Wrote given old new text =
    ((given new).start ≡ (given old).start) × ((given new).text ≡ (given old).text ++ text)
