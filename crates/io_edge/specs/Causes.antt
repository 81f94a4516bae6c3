-- When a source or a sink may fail, and what was moved before it did.
use Rattle.std.specs.Prelude.{◌≡◌, ◌≤◌, ◌+◌, ◌-◌, ◌^◌, ◌<◌, ℕ, min, List, take, length, Option, Result, OnErr, OnOk, IfOk}
use Rattle.std.specs.Io.KnownBytes.{Appends, Consumes}

-- one more, up to the greatest number of 64 bits
abbrev pub one_more : ℕ → ℕ
one_more count = min (count + 1) (2 ^ 64 - 1)

-- the count rose, or stands at its last value
abbrev pub Rose : ℕ → ℕ → Type 0
Rose before now = one_more before ≤ now

-- the count of a source round a read: it never falls, rises where the read failed, and stays where it did not
pub record ReadCause {E : Type 0} (before now : ℕ) (result : Result ℕ E) : Type 0 where
  pub later : before ≤ now
  pub failed : OnErr result (Rose before now)
  pub came : OnOk result (now ≡ before)

-- the count of a sink round a write: it never falls, rises where the write failed or took nothing of a non-empty piece,
-- and stays at every other write
pub record WriteCause {E : Type 0} (before now : ℕ) (piece : List ℕ)
    (result : Result ℕ E) : Type 0 where
  pub later : before ≤ now
  pub failed : OnErr result (Rose before now)
  pub none : IfOk result (λ count. count ≡ 0 → 0 < length piece → Rose before now)
  pub took : IfOk result (λ count. 0 < count → now ≡ before)
  pub empty : IfOk result (λ count. length piece ≡ 0 → now ≡ before)

-- the sink gained a front of these bytes
abbrev pub AppendsFront : Option (List ℕ) → Option (List ℕ) → List ℕ → Type 0
AppendsFront old new bytes =
    (count : ℕ) × (count ≤ length bytes) × Appends old new (take count bytes)

-- the source lost so many bytes
abbrev pub ConsumesLength : Option (List ℕ) → Option (List ℕ) → ℕ → Type 0
ConsumesLength old new count = (bytes : List ℕ) × (length bytes ≡ count) × Consumes old new bytes

-- the source lost at most so many bytes
abbrev pub ConsumesAtMost : Option (List ℕ) → Option (List ℕ) → ℕ → Type 0
ConsumesAtMost old new most = (bytes : List ℕ) × (length bytes ≤ most) × Consumes old new bytes

-- besides at most one read, each took at least one of the bytes that the source lost
abbrev pub ReadsWithin : Option (List ℕ) → Option (List ℕ) → ℕ → ℕ → Type 0
ReadsWithin old new before now =
    (bytes : List ℕ) × Consumes old new bytes × (now ≤ before + length bytes + 1)
