-- A table of last uses, one use more.
use Rattle.std.proofs.Common.{◌≡◌, ℕ, ◌+◌, ◌<◌, List, length, get_or, set, sym, ap, ◌∙◌, inl, inr, arith, not, eqb}
use Rattle.std.proofs.lemmas.Bool.{cases_eq, cases_lt, cases_Bool, eq-eqb, ne_eqb, not_from_true, not_from_false}
use Rattle.std.proofs.lemmas.List.{get_or-set_same, get_or-set_other}
use Rattle.reorder_slots.specs.Slots.{is_wanted}
use Rattle.reorder_slots.specs.Readers.{HasLastUses, number_at}
use Rattle.reorder_slots.proofs.Uses.{wanted_at, wanted_from}

pub HasLastUses-more : (uses : List ℕ) (count : ℕ) (table : List ℕ) → get_or uses count 0 < length table
    → HasLastUses uses count table → HasLastUses uses (count + 1) (set table (get_or uses count 0) count)
HasLastUses-more uses count table within has =
    let token = get_or uses count 0 in
    let next = set table token count in
    let here : (q : ℕ) → get_or uses q 0 ≡ token → number_at uses next q ≡ count =
    λ q e. ap (λ t. get_or next t 0) e ∙ get_or-set_same table token count 0 within in
    let there : (q : ℕ) → (get_or uses q 0 ≡ token → ⊥) → number_at uses next q ≡ number_at uses table q =
    λ q other. get_or-set_other table token (get_or uses q 0) count 0 other in
    let earlier : (q : ℕ) → q < count + 1 → (get_or uses q 0 ≡ token → ⊥) → q < count =
    λ q lt other. elim
    (cases_eq q count) [ inl same ↦ absurd (other (ap (λ k. get_or uses k 0) same)) | inr apart ↦ omega arith ] in
    record {
      below = λ q lt. elim (cases_eq (get_or uses q 0) token) [
        | inl e ↦ omega (arith, here q e)
        | inr other ↦ omega (arith, there q other, has.below q (earlier q lt other))
      ];
      last = λ q lt. elim (cases_eq (get_or uses q 0) token) [
        | inl e ↦ omega (arith, here q e)
        | inr other ↦ omega (arith, there q other, has.last q (earlier q lt other))
      ];
      same = λ q lt. elim (cases_eq (get_or uses q 0) token) [
        | inl e ↦ ap (λ k. get_or uses k 0) (here q e) ∙ sym e
        | inr other ↦ ap (λ k. get_or uses k 0) (there q other) ∙ has.same q (earlier q lt other)
      ];
    }

-- a use is its token's last exactly where the table has its number
pub is_last_use : (uses : List ℕ) (table : List ℕ) (q : ℕ) → HasLastUses uses (length uses) table → q < length uses
    → eqb (number_at uses table q) q ≡ not (is_wanted uses (q + 1) (get_or uses q 0))
is_last_use uses table q has lt =
    let token = get_or uses q 0 in
    let number = number_at uses table q in
    elim (cases_Bool (is_wanted uses (q + 1) token)) [
      | inl wanted ↦
          let at = wanted_at uses (q + 1) token wanted in
          let same : number_at uses table at.0 ≡ number = ap (λ t. get_or table t 0) at.3 in
          ne_eqb number q (λ e. omega (arith, at.1, same, has.last at.0 at.2)) ∙ sym (not_from_true _ wanted)
      | inr over ↦
          let is : number ≡ q = elim (cases_lt q number) [
            | inr le ↦ omega (arith, has.last q lt)
            | inl above ↦
                let wanted = wanted_from uses (q + 1) number token (omega arith) (has.below q lt) (has.same q lt) in
                cc
          ] in
          eq-eqb number q is ∙ sym (not_from_false _ over)
    ]
