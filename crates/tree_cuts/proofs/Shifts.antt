-- The difference class lies within the stride class.
--
-- A shift has at most one coefficient other than 0, and a difference at most one, or two, which are 1 and -1. A shift
-- has no coefficient outside -1 to 1, so no subscript of such a write counts as a stride.
use Rattle.std.proofs.Common.{◌≡◌, ◌+◌, ◌≤◌, ◌<◌, ◌&&◌, ◌||◌, ◌==◌, ℕ, pos, negsuc, List, [], ◌∷◌, Bool, true, false}
use Rattle.std.proofs.Common.{refl, sym, ap, ◌∙◌, arith, inl, inr}
use Rattle.std.specs.Prelude.{is_some, nat_le}
use Rattle.std.specs.List.{count_by, list_all, sum_by}
use Rattle.std.proofs.lemmas.Bool.{leb-true, and_parts}
use Rattle.std.proofs.lemmas.Bool.Decides.{leb_tells}
use Rattle.std.proofs.lemmas.List.Sums.{sum_by-cons}
use Rattle.affine_core.specs.declared.form.Form.{Form}
use Rattle.tree_graphs.specs.Class.{count_of, is_difference, is_shift, writes_differences, IsInDifferenceClass}
use Rattle.sanlp.specs.declared.nest.Nest.{Nest}
use Rattle.source_tree.specs.Systems.{Occurrence, array_writes}
use Rattle.tree_cuts.specs.Class.{is_pair, is_single, is_stride, stride_count, variable_count, writes_strides}
use Rattle.tree_cuts.specs.Class.{IsInStrideClass}
use Rattle.tree_cuts.proofs.Coefficients.{bits_count, bits_inside, how_many_is, is_bit, is_less, is_one, is_other}
use Rattle.tree_cuts.proofs.Coefficients.{is_trit, once, trits_count}

-- Forms

shift_is_single : (form : Form) → is_shift form ≡ true → is_single form ≡ true
shift_is_single form e =
    let b = and_parts (list_all is_bit form.coefs) (nat_le (count_of (pos 1) form) 1) e in
    ap (λ n. nat_le n 1)
    (how_many_is is_other form.coefs ∙ bits_count form.coefs b.0 ∙ sym (how_many_is is_one form.coefs)) ∙ b.1

shift_has_no_stride : (form : Form) → is_shift form ≡ true → is_stride form ≡ false
shift_has_no_stride form e =
    let b = and_parts (list_all is_bit form.coefs) (nat_le (count_of (pos 1) form) 1) e in
    ap is_some (bits_inside form.coefs b.0)

two_variables : (all one less : ℕ) → all ≡ one + less → one ≤ 1 → less ≤ 1 → nat_le all 1 ≡ false
    → (all ≡ 2) × ((one ≡ 1) × (less ≡ 1))
two_variables all one less e f g more =
    let past : 1 < all = elim (leb_tells all 1) [
      | inl h ↦ absurd (let no : false ≡ true = sym more ∙ h.0 in cc)
      | inr h ↦ h.1
    ] in
    (omega (arith, past), (omega (arith, past), omega (arith, past)))

single_or_pair : (all one less : ℕ) → all ≡ one + less → nat_le one 1 ≡ true → nat_le less 1 ≡ true
    → (nat_le all 1 || ((all == 2) && ((one == 1) && (less == 1)))) ≡ true
single_or_pair all one less e f g = go (nat_le all 1) refl where
  go : (b : Bool) → nat_le all 1 ≡ b → (b || ((all == 2) && ((one == 1) && (less == 1)))) ≡ true
  go true is = refl
  go false is =
      let two = two_variables all one less e (leb-true one 1 f) (leb-true less 1 g) is in
      rw two.0 (rw two.1.0 (rw two.1.1 refl))

difference_is_row : (form : Form) → is_difference form ≡ true → (is_single form || is_pair form) ≡ true
difference_is_row form e =
    let b = and_parts (list_all is_trit form.coefs)
    (nat_le (count_of (pos 1) form) 1 && nat_le (count_of (negsuc 0) form) 1) e in
    let d = and_parts (nat_le (count_of (pos 1) form) 1) (nat_le (count_of (negsuc 0) form) 1) b.1 in
    let all : variable_count form ≡ count_of (pos 1) form + count_of (negsuc 0) form =
    omega (
      arith,
      how_many_is is_other form.coefs,
      how_many_is is_one form.coefs,
      how_many_is is_less form.coefs,
      trits_count form.coefs b.0,
    ) in
    single_or_pair (variable_count form) (count_of (pos 1) form) (count_of (negsuc 0) form) all d.0 d.1

-- Writes

all_pass_also : {X : Type 0} (p q : X → Bool) → ((x : X) → p x ≡ true → q x ≡ true) → (xs : List X)
    → list_all p xs ≡ true → list_all q xs ≡ true
all_pass_also p q also [] e = refl
all_pass_also p q also (x ∷ xs) e =
    let b = and_parts (p x) (list_all p xs) e in
    ap (λ (passes : Bool). passes && list_all q xs) (also x b.0) ∙ all_pass_also p q also xs b.1

none_counts : {X : Type 0} (p q : X → Bool) → ((x : X) → p x ≡ true → q x ≡ false) → (xs : List X)
    → list_all p xs ≡ true → count_by q xs ≡ 0
none_counts p q fails [] e = refl
none_counts p q fails (x ∷ xs) e =
    let b = and_parts (p x) (list_all p xs) e in
    let first : once (q x) ≡ 0 = ap once (fails x b.0) in
    sum_by-cons (λ x. once (q x)) x xs ∙ omega (arith, first, none_counts p q fails xs b.1)

write_is_stride : (w : Occurrence) → writes_differences w ≡ true → writes_strides w ≡ true
write_is_stride w e =
    let b = and_parts (list_all is_shift w.access.subscripts) (list_all is_difference w.statement.rows) e in
    ap (λ (single : Bool). single && list_all (λ row. is_single row || is_pair row) w.statement.rows)
    (all_pass_also is_shift is_single shift_is_single w.access.subscripts b.0)
    ∙ all_pass_also is_difference (λ row. is_single row || is_pair row) difference_is_row w.statement.rows b.1

no_stride : (w : Occurrence) → writes_differences w ≡ true → stride_count w ≡ 0
no_stride w e =
    let b = and_parts (list_all is_shift w.access.subscripts) (list_all is_difference w.statement.rows) e in
    none_counts is_shift is_stride shift_has_no_stride w.access.subscripts b.0

no_strides : (ws : List Occurrence) → list_all writes_differences ws ≡ true → sum_by stride_count ws ≡ 0
no_strides [] e = refl
no_strides (w ∷ ws) e =
    let b = and_parts (writes_differences w) (list_all writes_differences ws) e in
    sum_by-cons stride_count w ws ∙ omega (arith, no_stride w b.0, no_strides ws b.1)

pub difference_is_stride : (n : Nest) (s k : ℕ) → IsInDifferenceClass n s k → IsInStrideClass n s k
difference_is_stride n s k h =
    let writes = array_writes n h.0 in
    let each : list_all writes_strides writes ≡ true =
    all_pass_also writes_differences writes_strides write_is_stride writes h.2 in
    record {
      read = h.0;
      is_read = h.1;
      each = each;
      few = omega (arith, no_strides writes h.2);
    }
