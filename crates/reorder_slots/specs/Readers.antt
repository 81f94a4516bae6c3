-- How a reader's tables stand for what is held.
use Rattle.std.specs.Prelude.{◌≡◌, ◌<◌, ◌≤◌, ◌+◌, ◌-◌, IsTrue, ◌&&◌, not, ℕ, Bool, Some, List, length, nat_lt, slice_get, slice_index, vec_len}
use Rattle.std.specs.BTreeSet.{contains}
use Rattle.std.specs.Ordering.{nat_cmp}
use Rattle.reorder_slots.specs.Slots.{Held, after_get, after_gets, is_wanted}
use Rattle.reorder_slots.specs.declared.reader.Reader.{Reader}

-- a slot was made, and its token has no use numbered q or more
abbrev pub is_free : List ℕ → ℕ → List ℕ → ℕ → Bool
is_free uses q slots slot =
    nat_lt slot (length slots) && not (is_wanted uses q (slice_index slots slot))

-- The reader has what is held, and its free slots are those that are free before use q.
pub record Keeps (uses : List ℕ) (q : ℕ) (held : Held) (reader : Reader) : Type 0 where
  pub gets : reader.slot_of_get.items ≡ held.slot_of_get
  pub hold : reader.hold ≡ length held.slots
  pub free : (slot : ℕ) → contains nat_cmp reader.free slot ≡ is_free uses q held.slots slot

-- Each slot has the token of the last Get that took it, and each token with a use numbered q or more is in its Get's slot.
pub record KeepsTokens (uses : List ℕ) (q : ℕ) (held : Held) : Type 0 where
  pub made : (token : ℕ) → token < length held.slot_of_get
      → slice_index held.slot_of_get token < length held.slots
  pub got : (slot : ℕ) → slot < length held.slots
      → slice_index held.slots slot < length held.slot_of_get
  pub taken : (slot : ℕ) → slot < length held.slots
      → slice_index held.slot_of_get (slice_index held.slots slot) ≡ slot
  pub latest : (token : ℕ) → token < length held.slot_of_get
      → token ≤ slice_index held.slots (slice_index held.slot_of_get token)
  pub found : (token : ℕ) → token < length held.slot_of_get → IsTrue (is_wanted uses q token)
      → slice_index held.slots (slice_index held.slot_of_get token) ≡ token

-- each token from the first up to the last has a use numbered q or more
abbrev pub AreWanted : List ℕ → ℕ → ℕ → ℕ → Type 0
AreWanted uses q first last = (token : ℕ) → first ≤ token → token ≤ last
    → IsTrue (is_wanted uses q token)

-- One Get keeps what is held, where its token has a use to come.
abbrev pub KeepsThroughGet : Reader → Reader → Type 0
KeepsThroughGet before after =
    (uses : List ℕ) (q : ℕ) (held : Held) → Keeps uses q held before
    → IsTrue (is_wanted uses q (vec_len before.slot_of_get))
    → Keeps uses q (after_get uses q held) after

-- Gets up to this token keep what is held, where their tokens have uses to come.
abbrev pub KeepsThroughGets : Reader → Reader → ℕ → Type 0
KeepsThroughGets before after token =
    (uses : List ℕ) (q : ℕ) (held : Held) → Keeps uses q held before
    → AreWanted uses q (vec_len before.slot_of_get) token
    → Keeps uses q (after_gets uses q (token + 1 - vec_len before.slot_of_get) held) after

-- A use of this token keeps what is held, where it is told whether this is the token's last use.
abbrev pub KeepsThroughUse : Reader → Reader → ℕ → Bool → Type 0
KeepsThroughUse before after token is_last =
    (uses : List ℕ) (q : ℕ) (held : Held) → Keeps uses q held before → KeepsTokens uses q held
    → slice_get uses q ≡ Some token → is_last ≡ not (is_wanted uses (q + 1) token)
    → Keeps uses (q + 1) held after

-- the number that a table has for the token of use q
abbrev pub number_at : List ℕ → List ℕ → ℕ → ℕ
number_at uses table q = slice_index table (slice_index uses q)

-- for each of the first so many uses, the table has the last of them with the same token
pub record HasLastUses (uses : List ℕ) (count : ℕ) (table : List ℕ) : Type 0 where
  pub below : (q : ℕ) → q < count → number_at uses table q < count
  pub last : (q : ℕ) → q < count → q ≤ number_at uses table q
  pub same : (q : ℕ) → q < count → slice_index uses (number_at uses table q) ≡ slice_index uses q
