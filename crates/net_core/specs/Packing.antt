-- A short list of references in few bytes.
use Rattle.std.specs.Prelude.{◌≡◌, ℕ, zero, suc, ◌+◌, ◌*◌, ◌/◌, ◌%◌, List, [], ◌∷◌, length}
use Rattle.std.specs.Int.{w32, from_le_bytes, to_le_bytes}
use Rattle.net_core.specs.declared.refs.Ref.{Ref}
use Rattle.net_core.specs.declared.refs.Ref.TheVariants.{Zero, Slot}
use Rattle.net_core.specs.declared.refs.Refs.TheInside.{Inside}

-- 1 for Zero, 0 for a slot
abbrev pub zero_bit : Ref → ℕ
zero_bit Zero = 1
zero_bit (Slot k) = 0

-- a slot's bytes, the lowest first; 0 for Zero
abbrev pub slot_bytes : Ref → List ℕ
slot_bytes Zero = 0 ∷ 0 ∷ 0 ∷ 0 ∷ []
slot_bytes (Slot k) = to_le_bytes w32 k

-- the reference that has this bit and these bytes
abbrev pub ref_of : ℕ → List ℕ → Ref
ref_of zero bytes = Slot (from_le_bytes w32 bytes)
ref_of (suc bit) bytes = Zero

-- the first n references, which have these rows of bytes and the digits of `bits` to the base 2
unfoldable pub refs_at : ℕ → ℕ → List (List ℕ) → List Ref
refs_at zero bits rows = []
refs_at (suc n) bits [] = []
refs_at (suc n) bits (row ∷ rows) = ref_of (bits % 2) row ∷ refs_at n (bits / 2) rows

-- the number whose digits to the base 2 are the references' bits, the lowest first
unfoldable pub zeros_of : List Ref → ℕ
zeros_of [] = 0
zeros_of (r ∷ refs) = zero_bit r + 2 * zeros_of refs

-- n rows of bytes, which begin with the references' and go on with 0
unfoldable pub rows_of : ℕ → List Ref → List (List ℕ)
rows_of zero refs = []
rows_of (suc n) [] = slot_bytes Zero ∷ rows_of n []
rows_of (suc n) (r ∷ refs) = slot_bytes r ∷ rows_of n refs

-- the references that these fields hold
abbrev pub refs_in : Inside → List Ref
refs_in a = refs_at a.len a.zeros a.slots

-- the fields of a list of at most eight references
abbrev pub inside_of : List Ref → Inside
inside_of refs = record { len = length refs; zeros = zeros_of refs; slots = rows_of 8 refs }

-- the fields are those of the references that they hold
abbrev pub IsPacked : Inside → Type 0
IsPacked a = inside_of (refs_in a) ≡ a
