-- What a reference that is added changes of the fields. The bits of n references are the digits of a number below 2 ^ n,
-- so a bit that is added at place n is added as bit * 2 ^ n, and leaves the digits below as they are. The rows of bytes
-- past the references are all 0, so that a list of references has only one form: with it the fields can be compared in
-- place of the lists. Nothing is said of the bytes themselves: that they give the slot back is known where they are made.
use Rattle.std.proofs.Common.{◌≡◌, ◌∙◌, ℕ, zero, suc, ◌+◌, ◌*◌, ◌/◌, ◌%◌, ◌^◌, ◌<◌, ◌≤◌, List, [], ◌∷◌, ◌++◌, length, arith, ap, ap₂}
use Rattle.std.proofs.Common.{sym, subst, refl, slice_set, slice_index_or, bit_and, bit_or, slice_get, Some}
use Rattle.std.proofs.Common.{Bool, true, false, nat_eq, eqb-true}
use Rattle.std.specs.Cmp.{both_ways}
use Rattle.std.specs.Cmp.Lexicographic.{pointwise, pointwise_decides, bytes_decides}
use Rattle.std.specs.Int.{w32, from_le_bytes}
use Rattle.std.proofs.lemmas.Bool.{both_ways as never_both}
use Rattle.std.proofs.lemmas.List.{length-append}
use Rattle.std.proofs.Math.Nat.{mod-eq_of_lt, mul_assoc, pow-le-pow_right, pow-suc}
use Rattle.std.proofs.lemmas.Nat.{and_le_r, and_mask, mul-le, or_comm, or_shifted, shr-shr}
use Rattle.net_core.specs.declared.refs.Ref.{Ref}
use Rattle.net_core.specs.declared.refs.Ref.TheVariants.{Zero, Slot}
use Rattle.net_core.specs.declared.refs.Refs.TheInside.{Inside}
use Rattle.net_core.specs.References.{refs_eq}
use Rattle.net_core.specs.ReferenceLaws.{refs_equiv, refs_same}
use Rattle.net_core.specs.Packing.{zero_bit, slot_bytes, ref_of, refs_at, zeros_of, rows_of, refs_in, inside_of, IsPacked}

length-rows_of : (n : ℕ) (refs : List Ref) → length (rows_of n refs) ≡ n
unfolding rows_of
length-rows_of zero refs = refl
length-rows_of (suc n) [] = ap suc (length-rows_of n [])
length-rows_of (suc n) (r ∷ refs) = ap suc (length-rows_of n refs)

length-refs_at : (n bits : ℕ) (rows : List (List ℕ)) → length (refs_at n bits rows) ≤ length rows
unfolding refs_at
length-refs_at zero bits rows = omega arith
length-refs_at (suc n) bits [] = omega arith
length-refs_at (suc n) bits (row ∷ rows) = omega (arith, length-refs_at n (bits / 2) rows)

zero_bit-le : (r : Ref) → zero_bit r ≤ 1
zero_bit-le Zero = omega arith
zero_bit-le (Slot k) = omega arith

double : (n : ℕ) → 2 ^ suc n ≡ 2 * 2 ^ n
double n = omega (arith, pow-suc 2 n)

double_product : (bit n : ℕ) → bit * 2 ^ suc n ≡ 2 * (bit * 2 ^ n)
double_product bit n =
    let same : bit * 2 ^ suc n ≡ bit * 2 ^ n * 2 = ap (λ p. bit * p) (pow-suc 2 n) ∙ sym (mul_assoc bit (2 ^ n) 2) in
    omega (arith, same)

zeros_of-lt : (refs : List Ref) → zeros_of refs < 2 ^ length refs
unfolding zeros_of
zeros_of-lt [] = omega arith
zeros_of-lt (r ∷ refs) = omega (arith, zeros_of-lt refs, zero_bit-le r, double (length refs))

zeros_of-push : (refs : List Ref) (r : Ref) → zeros_of (refs ++ r ∷ []) ≡ zeros_of refs + zero_bit r * 2 ^ length refs
unfolding zeros_of
zeros_of-push [] r = omega arith
zeros_of-push (x ∷ refs) r = omega (arith, zeros_of-push refs r, double_product (zero_bit r) (length refs))

rows_of-push : (n : ℕ) (refs : List Ref) (r : Ref) → length refs < n
    → rows_of n (refs ++ r ∷ []) ≡ slice_set (rows_of n refs) (length refs) (slot_bytes r)
unfolding rows_of
rows_of-push zero refs r h = absurd (omega arith)
rows_of-push (suc n) [] r h = refl
rows_of-push (suc n) (x ∷ refs) r h = ap (λ rows. slot_bytes x ∷ rows) (rows_of-push n refs r (omega arith))

refs_at-push : (n bits bit : ℕ) (rows : List (List ℕ)) (row : List ℕ) → n < length rows → bits < 2 ^ n → bit ≤ 1
    → refs_at (suc n) (bits + bit * 2 ^ n) (slice_set rows n row) ≡ refs_at n bits rows ++ ref_of bit row ∷ []
unfolding refs_at
refs_at-push zero bits bit [] row lt below le = absurd (omega arith)
refs_at-push zero bits bit (x ∷ rows) row lt below le =
    let only : (bits + bit * 2 ^ 0) % 2 ≡ bit = omega arith in
    ap (λ b. ref_of b row ∷ []) only
refs_at-push (suc n) bits bit [] row lt below le = absurd (omega arith)
refs_at-push (suc n) bits bit (x ∷ rows) row lt below le =
    let twice = double_product bit n in
    let low : (bits + bit * 2 ^ suc n) % 2 ≡ bits % 2 = omega (arith, twice) in
    let high : (bits + bit * 2 ^ suc n) / 2 ≡ bits / 2 + bit * 2 ^ n = omega (arith, twice) in
    let half : bits / 2 < 2 ^ n = omega (arith, below, double n) in
    let rest = refs_at-push n (bits / 2) bit rows row (omega arith) half le in
    ap₂ (λ b tail. ref_of b x ∷ tail) low (ap (λ b. refs_at (suc n) b (slice_set rows n row)) high ∙ rest)

refs_at-get : (n k bits : ℕ) (rows : List (List ℕ)) (row : List ℕ) → k < n → n ≤ length rows
    → slice_get (refs_at n bits rows) k ≡ Some (ref_of (bits / 2 ^ k % 2) (slice_index_or rows k row))
unfolding refs_at
refs_at-get zero k bits rows row lt le = absurd (omega arith)
refs_at-get (suc n) k bits [] row lt le = absurd (omega arith)
refs_at-get (suc n) zero bits (x ∷ rows) row lt le =
    let one : bits / 2 ^ 0 ≡ bits = omega arith in
    ap (λ b. Some (ref_of (b % 2) x)) (sym one)
refs_at-get (suc n) (suc k) bits (x ∷ rows) row lt le =
    let half : bits / 2 / 2 ^ k ≡ bits / 2 ^ suc k =
    let one : 1 + k ≡ suc k = omega arith in
    shr-shr bits 1 k ∙ ap (λ j. bits / 2 ^ j) one in
    refs_at-get n k (bits / 2) rows row (omega arith) (omega arith)
    ∙ ap (λ b. Some (ref_of (b % 2) (slice_index_or rows k row))) half

pub IsPacked-length : (a : Inside) → IsPacked a → (length (refs_in a) ≡ a.len) × (length a.slots ≡ 8) × (a.len ≤ 8)
IsPacked-length a h =
    let len : length (refs_in a) ≡ a.len = ap (λ (x : Inside). x.len) h in
    let slots : 8 ≡ length a.slots =
    sym (length-rows_of 8 (refs_in a)) ∙ ap (λ (x : Inside). length x.slots) h in
    (len, sym slots, omega (arith, len, slots, length-refs_at a.len a.zeros a.slots))

pub IsPacked-get : (a : Inside) → IsPacked a → (k : ℕ) (row : List ℕ) → k < length (refs_in a)
    → slice_get (refs_in a) k ≡ Some (ref_of (bit_and (a.zeros / 2 ^ k) 1) (slice_index_or a.slots k row))
IsPacked-get a h k row lt =
    let sizes = IsPacked-length a h in
    refs_at-get a.len k a.zeros a.slots row (omega (arith, sizes.0, lt)) (omega (arith, sizes.1, sizes.2))
    ∙ ap (λ b. Some (ref_of b (slice_index_or a.slots k row))) (sym (and_mask (a.zeros / 2 ^ k) 1))

-- the fields after a push
abbrev more : Inside → ℕ → ℕ → List ℕ → Inside
more a at bit bytes = record {
  len = a.len + 1;
  zeros = bit_or a.zeros (bit * 2 ^ a.len % 256);
  slots = slice_set a.slots at bytes;
}

-- what is known of a reference's bit and bytes
abbrev pub IsKept : Ref → ℕ → List ℕ → Type 0
IsKept r bit bytes = (bit ≡ zero_bit r) × (bytes ≡ slot_bytes r) × (ref_of bit bytes ≡ r)

pub IsPacked-short : (a : Inside) (refs : List Ref) → IsPacked a → refs_in a ≡ refs → length refs < 8 → a.len < 8
IsPacked-short a refs h is lt = omega (arith, (IsPacked-length a h).0, ap length is, lt)

zeros-more : (a : Inside) (bit : ℕ) → IsPacked a → a.len < 8 → bit ≤ 1
    → (a.zeros < 2 ^ a.len) × (bit_or a.zeros (bit * 2 ^ a.len % 256) ≡ a.zeros + bit * 2 ^ a.len)
zeros-more a bit h lt le =
    let sizes = IsPacked-length a h in
    let zeros : zeros_of (refs_in a) ≡ a.zeros = ap (λ (x : Inside). x.zeros) h in
    let below : a.zeros < 2 ^ a.len =
    subst (λ n. a.zeros < 2 ^ n) sizes.0
    (subst (λ z. z < 2 ^ length (refs_in a)) zeros (zeros_of-lt (refs_in a))) in
    let most : 2 ^ a.len ≤ 2 ^ 7 = pow-le-pow_right {n = 2} (omega arith) {i = a.len} {j = 7} (omega arith) in
    let product : bit * 2 ^ a.len ≤ 1 * 128 = mul-le bit (2 ^ a.len) 1 128 le most in
    let small : bit * 2 ^ a.len % 256 ≡ bit * 2 ^ a.len = mod-eq_of_lt (omega (arith, product)) in
    let swap : bit * 2 ^ a.len + a.zeros ≡ a.zeros + bit * 2 ^ a.len = omega arith in (
      below,
      ap (bit_or a.zeros) small ∙ or_comm a.zeros (bit * 2 ^ a.len) ∙ or_shifted bit a.len a.zeros below ∙ swap,
    )

pub refs_in-more : (a : Inside) (r : Ref) (at bit : ℕ) (bytes : List ℕ) → IsPacked a → a.len < 8 → at ≡ a.len
    → IsKept r bit bytes → refs_in (more a at bit bytes) ≡ refs_in a ++ r ∷ []
refs_in-more a r at bit bytes h lt at_is kept =
    let sizes = IsPacked-length a h in
    let le : bit ≤ 1 = omega (arith, kept.0, zero_bit-le r) in
    let zeros = zeros-more a bit h lt le in
    let next : a.len + 1 ≡ suc a.len = omega arith in
    ap (λ n. refs_at n (bit_or a.zeros (bit * 2 ^ a.len % 256)) (slice_set a.slots at bytes)) next
    ∙ ap₂ (λ z k. refs_at (suc a.len) z (slice_set a.slots k bytes)) zeros.1 at_is
    ∙ refs_at-push a.len a.zeros bit a.slots bytes (omega (arith, sizes.1, lt)) zeros.0 le
    ∙ ap (λ x. refs_in a ++ x ∷ []) kept.2

pub IsPacked-more : (a : Inside) (r : Ref) (at bit : ℕ) (bytes : List ℕ) → IsPacked a → a.len < 8 → at ≡ a.len
    → IsKept r bit bytes → IsPacked (more a at bit bytes)
IsPacked-more a r at bit bytes h lt at_is kept =
    let sizes = IsPacked-length a h in
    let le : bit ≤ 1 = omega (arith, kept.0, zero_bit-le r) in
    let len : length (refs_in a ++ r ∷ []) ≡ a.len + 1 = omega (arith, length-append (refs_in a) (r ∷ []), sizes.0) in
    let zeros : zeros_of (refs_in a ++ r ∷ []) ≡ bit_or a.zeros (bit * 2 ^ a.len % 256) =
    zeros_of-push (refs_in a) r
    ∙ ap₂ (λ z n. z + zero_bit r * 2 ^ n) (ap (λ (x : Inside). x.zeros) h) sizes.0
    ∙ ap (λ b. a.zeros + b * 2 ^ a.len) (sym kept.0)
    ∙ sym (zeros-more a bit h lt le).1 in
    let slots : rows_of 8 (refs_in a ++ r ∷ []) ≡ slice_set a.slots at bytes =
    rows_of-push 8 (refs_in a) r (omega (arith, sizes.0, lt))
    ∙ ap₂ (λ rows n. slice_set rows n (slot_bytes r)) (ap (λ (x : Inside). x.slots) h) (sizes.0 ∙ sym at_is)
    ∙ ap (slice_set a.slots at) (sym kept.1) in
    ap inside_of (refs_in-more a r at bit bytes h lt at_is kept)
    ∙ (λ i. record { len = len i; zeros = zeros i; slots = slots i })

pub IsPacked-place : (a : Inside) (refs : List Ref) (k : ℕ) → IsPacked a → refs_in a ≡ refs → k < length refs → k < 8
IsPacked-place a refs k h is lt =
    let sizes = IsPacked-length a h in
    omega (arith, sizes.0, sizes.2, ap length is, lt)

pub IsPacked-zero : (a : Inside) (refs : List Ref) (k : ℕ) → IsPacked a → refs_in a ≡ refs → k < length refs
    → bit_and (a.zeros / 2 ^ k) 1 ≡ 1 → slice_get refs k ≡ Some Zero
IsPacked-zero a refs k h is lt one =
    ap (λ refs. slice_get refs k) (sym is)
    ∙ IsPacked-get a h k [] (omega (arith, ap length is, lt))
    ∙ ap (λ bit. Some (ref_of bit (slice_index_or a.slots k []))) one

pub IsPacked-slot : (a : Inside) (refs : List Ref) (k slot : ℕ) (row : List ℕ) → IsPacked a → refs_in a ≡ refs
    → k < length refs → (bit_and (a.zeros / 2 ^ k) 1 ≡ 1 → ⊥) → slot ≡ from_le_bytes w32 (slice_index_or a.slots k row)
    → slice_get refs k ≡ Some (Slot slot)
IsPacked-slot a refs k slot row h is lt other value =
    let most = and_le_r (a.zeros / 2 ^ k) 1 in
    let none : bit_and (a.zeros / 2 ^ k) 1 ≡ 0 = omega (arith, most, other) in
    ap (λ refs. slice_get refs k) (sym is)
    ∙ IsPacked-get a h k row (omega (arith, ap length is, lt))
    ∙ ap (λ bit. Some (ref_of bit (slice_index_or a.slots k row))) none
    ∙ ap (λ n. Some (Slot n)) (sym value)

-- a test that the references are the same where it says yes, and that says yes where the fields are
pub IsPacked-same : (a b : Inside) (xs ys : List Ref) → IsPacked a → IsPacked b → refs_in a ≡ xs → refs_in b ≡ ys
    → (test : Bool) → (test ≡ true → refs_in a ≡ refs_in b) → (a ≡ b → test ≡ true) → test ≡ refs_eq xs ys
IsPacked-same a b xs ys ha hb is_xs is_ys test same told =
    both_ways test (refs_eq xs ys)
    (λ yes. subst (λ zs. refs_eq xs zs ≡ true) (sym is_xs ∙ same yes ∙ is_ys) (refs_equiv.refl xs))
    (λ yes. told (sym ha ∙ ap inside_of (is_xs ∙ refs_same xs ys yes ∙ sym is_ys) ∙ hb))

-- a test of the slots, where the lengths and the bits are the same
pub IsPacked-same_slots : (a b : Inside) (xs ys : List Ref) → IsPacked a → IsPacked b → refs_in a ≡ xs → refs_in b ≡ ys
    → a.len ≡ b.len → nat_eq a.zeros b.zeros ≡ true → pointwise (pointwise nat_eq) a.slots b.slots ≡ refs_eq xs ys
IsPacked-same_slots a b xs ys ha hb is_xs is_ys len zeros =
    let rows = pointwise_decides bytes_decides a.slots b.slots in
    let bits : a.zeros ≡ b.zeros = eqb-true a.zeros b.zeros zeros in
    let same : a.slots ≡ b.slots → refs_in a ≡ refs_in b = λ e i. refs_at (len i) (bits i) (e i) in
    IsPacked-same a b xs ys ha hb is_xs is_ys (pointwise (pointwise nat_eq) a.slots b.slots)
    (λ yes. same (rows.0 yes))
    (λ e. rows.1 (ap (λ (x : Inside). x.slots) e))

pub IsPacked-other : (a b : Inside) (xs ys : List Ref) → IsPacked a → IsPacked b → refs_in a ≡ xs → refs_in b ≡ ys
    → (test : Bool) → test ≡ false → (a ≡ b → test ≡ true) → test ≡ refs_eq xs ys
IsPacked-other a b xs ys ha hb is_xs is_ys test differ told =
    IsPacked-same a b xs ys ha hb is_xs is_ys test (λ yes. absurd (never_both test differ yes)) told
