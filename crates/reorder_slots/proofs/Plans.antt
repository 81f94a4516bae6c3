-- What the reader has before each use of a channel, and what is written down for it.
use Rattle.std.proofs.Common.{◌≡◌, ℕ, zero, suc, ◌+◌, ◌-◌, ◌<◌, ◌≤◌, ◌++◌, ◌∷◌, [], List, length, get_or, take, vec_len}
use Rattle.std.proofs.Common.{sym, ap, ◌∙◌, subst, inl, inr, arith}
use Rattle.std.specs.List.{All}
use Rattle.std.proofs.lemmas.Bool.{cases_lt}
use Rattle.std.proofs.lemmas.List.{length-map, take_all, take_more, get_or-map}
use Rattle.std.proofs.lemmas.List.FromFn.{get_or-map-range_with_len, length-map-range_with_len}
use Rattle.reorder_slots.specs.Slots.{Held, NamesAllBelow, after_gets, gets_before, gets_for, held_after, slots_of_gets}
use Rattle.reorder_slots.specs.Slots.{slots_of_uses}
use Rattle.reorder_slots.specs.Readers.{AreWanted, Keeps, KeepsThroughGets}
use Rattle.reorder_slots.specs.declared.reader.Reader.{Reader}
use Rattle.reorder_slots.proofs.Uses.{gets_for-more, named_below, new_is_wanted}
use Rattle.reorder_slots.proofs.Gets.{held-more, length-held}
use Rattle.reorder_slots.proofs.Laws.{slot_of_use}

-- small tokens need few Gets
pub gets_small : (uses : List ℕ) (q : ℕ) → All (λ named. named < 4294967295) uses → gets_for (take q uses) < 4294967296
gets_small uses zero small = omega arith
gets_small uses (suc q) small =
    let next : q + 1 ≡ suc q = omega arith in
    let step = ap (λ n. gets_for (take n uses)) next in
    elim (cases_lt q (length uses)) [
      | inl lt ↦ omega (arith, step, gets_for-more uses q lt, small q 0 lt, gets_small uses q small)
      | inr past ↦
          let same : take (suc q) uses ≡ take q uses =
          take_all (suc q) uses (omega arith) ∙ sym (take_all q uses past) in
          omega (arith, ap gets_for same, gets_small uses q small)
    ]

-- the reader before use q has as many Gets as the uses before it ask for
pub count_kept : (uses : List ℕ) (q p : ℕ) (reader : Reader) → Keeps uses p (held_after uses q) reader
    → vec_len reader.slot_of_get ≡ gets_for (take q uses)
count_kept uses q p reader keeps =
    omega (arith, reader.slot_of_get.ok.0, ap length keeps.gets, length-held uses q)

-- the Gets up to the token of use q
pub keeps_got : (uses : List ℕ) (q : ℕ) (reader after : Reader) → NamesAllBelow uses → q < length uses
    → Keeps uses q (held_after uses q) reader → KeepsThroughGets reader after (get_or uses q 0)
    → Keeps uses q (held_after uses (q + 1)) after
keeps_got uses q reader after dense lt keeps through =
    let token = get_or uses q 0 in
    let held = held_after uses q in
    let gets : vec_len reader.slot_of_get ≡ gets_for (take q uses) = count_kept uses q q reader keeps in
    let wanted : AreWanted uses q (vec_len reader.slot_of_get) token = λ new from upto.
    new_is_wanted uses q new (dense new (omega (arith, named_below uses q lt))) (omega arith)
    in
    let count : token + 1 - vec_len reader.slot_of_get ≡ token + 1 - length held.slot_of_get =
    omega (arith, length-held uses q) in
    let same = ap (λ n. after_gets uses q n held) count ∙ sym (held-more uses q lt) in
    subst (λ (h : Held). Keeps uses q h after) same (through uses q held keeps wanted)

pub gets_before-more : (uses : List ℕ) (q : ℕ) → q < length uses
    → take (q + 1) (gets_before uses) ≡ take q (gets_before uses) ++ gets_for (take (q + 1) uses) ∷ []
gets_before-more uses q lt =
    let f = λ (n : ℕ). gets_for (take (n + 1) uses) in
    let count = length-map-range_with_len f 0 (length uses) in
    take_more (gets_before uses) q 0 (omega arith)
    ∙ ap (λ n. take q (gets_before uses) ++ n ∷ []) (get_or-map-range_with_len f 0 (length uses) q q 0 lt (omega arith))

pub gets_before-all : (uses : List ℕ) (q : ℕ) → length uses ≤ q → take q (gets_before uses) ≡ gets_before uses
gets_before-all uses q all =
    let f = λ (n : ℕ). gets_for (take (n + 1) uses) in
    take_all q (gets_before uses) (omega (arith, length-map-range_with_len f 0 (length uses)))

pub slots_of_uses-more : (uses : List ℕ) (q : ℕ) → q < length uses
    → take (q + 1) (slots_of_uses uses)
    ≡ take q (slots_of_uses uses) ++ get_or (held_after uses (q + 1)).slot_of_get (get_or uses q 0) 0 ∷ []
slots_of_uses-more uses q lt =
    let f = λ (token : ℕ). get_or (slots_of_gets uses) token 0 in
    take_more (slots_of_uses uses) q 0 (omega (arith, length-map uses f))
    ∙ ap (λ slot. take q (slots_of_uses uses) ++ slot ∷ []) (get_or-map f uses q 0 0 lt ∙ slot_of_use uses q lt)
