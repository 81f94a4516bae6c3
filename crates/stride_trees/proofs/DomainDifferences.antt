-- Domain rows over quotients are differences, and fit as the statement's rows do.
--
-- A row without a stride has coefficients 0, 1 and -1 alone, and at most one of each of the latter. A row with a stride
-- has that one coefficient, whose quotient by its size is 1 or -1. Rounding down brings no number farther from 0, keeps
-- 0, and keeps a number below 0 below it: so what bounds a loop above still does.
use Rattle.std.proofs.Common.{◌≡◌, ◌+◌, ◌/◌, ◌≤◌, ◌<◌, ◌||◌, ◌&&◌, ◌==◌, ℕ, suc, ℤ, pos, negsuc, ◌*ℤ◌, ◌≤ℤ◌, ◌<ℤ◌}
use Rattle.std.proofs.Common.{List, [], ◌∷◌, length, map, Bool, true, false, cond, refl, sym, ap, ◌∙◌, subst, arith}
use Rattle.std.proofs.Common.{eqb-true}
use Rattle.std.specs.Prelude.{Option, Some, None, All, int_le, nat_le, not, slice_index_or, unsigned_abs}
use Rattle.std.specs.List.{count_by, find, list_all}
use Rattle.std.specs.Option.{option_map_or}
use Rattle.std.specs.Ordering.{int_eq}
use Rattle.std.proofs.lemmas.Bool.{le-leb, leb-true, and_parts, and_from}
use Rattle.std.proofs.lemmas.Int.{ints}
use Rattle.std.proofs.lemmas.List.Elements.{All-nil, All-cons, All-head, All-tail}
use Rattle.std.proofs.lemmas.Option.{same_Some}
use Rattle.std.proofs.lemmas.List.{length-map}
use Rattle.affine_core.specs.declared.form.Form.{Form}
use Rattle.int_polyhedra.specs.Steps.{floor, quotient_row}
use Rattle.tree_graphs.specs.Class.{count_of, is_difference}
use Rattle.sanlp.specs.Bounds.{BoundsAbove}
use Rattle.sanlp.specs.WellFormed.{form_fits, is_moderate}
use Rattle.tree_cuts.specs.Class.{is_pair, is_single, stride_of}
use Rattle.stride_trees.specs.Problem.{problem_rows}
use Rattle.tree_cuts.specs.Sources.{divided_form}
use Rattle.tree_cuts.proofs.Coefficients.{how_many, how_many_is, is_less, is_one, is_other, is_outside, is_trit, none_other}
use Rattle.tree_cuts.proofs.Coefficients.{once, outside_counts}
use Rattle.tree_cuts.proofs.Floors.{floor_multiple}
use Rattle.tree_cuts.proofs.RowSources.{counts_all, single_where}
use Rattle.tree_cuts.proofs.QuotientRows.{stride_positive}
use Rattle.tree_cuts.proofs.CutRows.{get_or-map-floor}

-- Coefficients without a stride

inside_is_trit : (c : ℤ) → is_outside c ≡ false → is_trit c ≡ true
inside_is_trit c e = grind (arith, ints)

none_outside : (cs : List ℤ) → find is_outside cs ≡ None → list_all is_trit cs ≡ true
none_outside [] e = refl
none_outside (c ∷ cs) e = go (none_outside cs) (is_outside c) refl e where
  go : (find is_outside cs ≡ None → list_all is_trit cs ≡ true) → (b : Bool) → is_outside c ≡ b
      → cond b (Some c) (find is_outside cs) ≡ None → (is_trit c && list_all is_trit cs) ≡ true
  go rest true is e = absurd (let no : Some c ≡ None = e in cc)
  go rest false is e = and_from (is_trit c) (list_all is_trit cs) (inside_is_trit c is) (rest e)

-- coefficients 0, 1 and -1 of which at most one is 1 and one -1
difference_from : (form : Form) → list_all is_trit form.coefs ≡ true → how_many is_one form.coefs ≤ 1
    → how_many is_less form.coefs ≤ 1 → is_difference form ≡ true
difference_from form trits one less =
    and_from (list_all is_trit form.coefs)
    (nat_le (count_of (pos 1) form) 1 && nat_le (count_of (negsuc 0) form) 1) trits
    (and_from (nat_le (count_of (pos 1) form) 1) (nat_le (count_of (negsuc 0) form) 1)
    (le-leb (count_of (pos 1) form) 1 (omega (arith, one, how_many_is is_one form.coefs)))
    (le-leb (count_of (negsuc 0) form) 1 (omega (arith, less, how_many_is is_less form.coefs))))

plain_difference : (form : Form) → (is_single form || is_pair form) ≡ true → stride_of form ≡ None
    → is_difference form ≡ true
plain_difference form class e = go (is_single form) refl class where
  go : (b : Bool) → is_single form ≡ b → (b || is_pair form) ≡ true → is_difference form ≡ true
  go true is h =
      let few : count_by is_other form.coefs ≤ 1 = leb-true (count_by is_other form.coefs) 1 is in
      let all : how_many is_one form.coefs + how_many is_less form.coefs ≤ 1 =
      omega (arith, counts_all form.coefs, few, how_many_is is_other form.coefs) in
      difference_from form (none_outside form.coefs e) (omega (arith, all)) (omega (arith, all))
  go false is h =
      let p = and_parts (count_by is_other form.coefs == 2)
      ((count_by is_one form.coefs == 1) && (count_by is_less form.coefs == 1)) h in
      let q = and_parts (count_by is_one form.coefs == 1) (count_by is_less form.coefs == 1) p.1 in
      let one : count_by is_one form.coefs ≡ 1 = eqb-true (count_by is_one form.coefs) 1 q.0 in
      let less : count_by is_less form.coefs ≡ 1 = eqb-true (count_by is_less form.coefs) 1 q.1 in
      difference_from form (none_outside form.coefs e) (omega (arith, one, how_many_is is_one form.coefs))
      (omega (arith, less, how_many_is is_less form.coefs))

-- Coefficients with a stride

-- each is 0 or that one
single_all : (P : ℤ → Type 0) (cs : List ℤ) (c : ℤ) → P (pos 0) → P c → how_many is_other cs ≤ 1
    → find is_outside cs ≡ Some c → All P cs
single_all P [] c zero_has has few e = All-nil P
single_all P (d ∷ cs) c zero_has has few e =
    let count : once (is_other d) + how_many is_other cs ≤ 1 = few in
    go (λ few e. single_all P cs c zero_has has few e) count (outside_counts (d ∷ cs) c e) (is_outside d) refl e where
      alone_where : (d : ℤ) (cs : List ℤ) → is_outside d ≡ true → once (is_other d) + how_many is_other cs ≤ 1
          → how_many is_other cs ≡ 0
      alone_where d cs is few =
          let own : 1 ≤ how_many is_other (d ∷ []) =
          outside_counts (d ∷ []) d (ap (λ b. cond b (Some d) None) is) in
          let one : 1 ≤ once (is_other d) + 0 = own in
          omega (arith, one, few)

      zeros_all : (cs : List ℤ) → how_many is_other cs ≡ 0 → All P cs
      zeros_all [] none = All-nil P
      zeros_all (x ∷ cs) none =
          let here : once (is_other x) + how_many is_other cs ≡ 0 = none in
          All-cons P x cs (subst P (sym (none_other x (omega (arith, here)))) zero_has) (zeros_all cs (omega (arith, here)))

      go : (how_many is_other cs ≤ 1 → find is_outside cs ≡ Some c → All P cs)
          → once (is_other d) + how_many is_other cs ≤ 1 → 1 ≤ once (is_other d) + how_many is_other cs
          → (b : Bool) → is_outside d ≡ b → cond b (Some d) (find is_outside cs) ≡ Some c → All P (d ∷ cs)
      go rest few least true is e =
          All-cons P d cs (subst P (sym (same_Some d c e)) has) (zeros_all cs (alone_where d cs is few))
      go rest few least false is e =
          let later : 1 ≤ how_many is_other cs = outside_counts cs c e in
          All-cons P d cs (subst P (sym (none_other d (omega (arith, few, later)))) zero_has)
          (rest (omega (arith, few)) e)

floor_zero : (d : ℕ) → 0 < d → floor (pos 0) d ≡ pos 0
floor_zero d h =
    let e : pos 0 *ℤ pos d ≡ pos 0 = omega (arith, ints) in
    ap (λ z. floor z d) (sym e) ∙ floor_multiple (pos 0) d h

-- a number by its size is 1 or -1
own_size : (c : ℤ) → 0 < unsigned_abs c → is_trit (floor c (unsigned_abs c)) ≡ true
own_size (pos n) h =
    let e : pos n ≡ pos 1 *ℤ pos n = omega (arith, ints) in
    ap is_trit (ap (λ z. floor z n) e ∙ floor_multiple (pos 1) n h)
own_size (negsuc n) h =
    let e : negsuc n ≡ negsuc 0 *ℤ pos (suc n) = omega (arith, ints) in
    ap is_trit (ap (λ z. floor z (suc n)) e ∙ floor_multiple (negsuc 0) (suc n) h)

trits_from : (d : ℕ) (cs : List ℤ) → All (λ x. is_trit (floor x d) ≡ true) cs
    → list_all is_trit (map (λ x. floor x d) cs) ≡ true
trits_from d [] h = refl
trits_from d (c ∷ cs) h =
    and_from (is_trit (floor c d)) (list_all is_trit (map (λ x. floor x d) cs))
    (All-head (λ x. is_trit (floor x d) ≡ true) c cs h)
    (trits_from d cs (All-tail (λ x. is_trit (floor x d) ≡ true) c cs h))

-- what isn't 0 was none
floor_other : (d : ℕ) (c : ℤ) → 0 < d → once (is_other (floor c d)) ≤ once (is_other c)
floor_other d c h = go (int_eq c (pos 0)) refl where
  once_few : (b : Bool) → once b ≤ 1
  once_few true = omega arith
  once_few false = omega arith

  zero_where : (c : ℤ) → int_eq c (pos 0) ≡ true → c ≡ pos 0
  zero_where c e = grind (arith, ints)

  go : (b : Bool) → int_eq c (pos 0) ≡ b → once (is_other (floor c d)) ≤ once (is_other c)
  go true is =
      let none : once (is_other (floor c d)) ≡ 0 =
      ap (λ z. once (is_other (floor z d))) (zero_where c is) ∙ ap (λ z. once (is_other z)) (floor_zero d h) in
      omega (arith, none)
  go false is =
      let own : once (is_other c) ≡ 1 = ap (λ b. once (not b)) is in
      omega (arith, own, once_few (is_other (floor c d)))

floors_other : (d : ℕ) (cs : List ℤ) → 0 < d → how_many is_other (map (λ x. floor x d) cs) ≤ how_many is_other cs
floors_other d [] h = omega arith
floors_other d (c ∷ cs) h = omega (arith, floor_other d c h, floors_other d cs h)

stride_difference : (form : Form) (c : ℤ) → (is_single form || is_pair form) ≡ true → stride_of form ≡ Some c
    → is_difference (quotient_row (unsigned_abs c) form) ≡ true
stride_difference form c class e =
    let d : ℕ = unsigned_abs c in
    let positive : 0 < d = stride_positive form c e in
    let few : count_by is_other form.coefs ≤ 1 =
    leb-true (count_by is_other form.coefs) 1 (single_where form c class e) in
    let quotients : List ℤ = map (λ x. floor x d) form.coefs in
    let trits : list_all is_trit quotients ≡ true = trits_from d form.coefs
    (single_all (λ x. is_trit (floor x d) ≡ true) form.coefs c (ap is_trit (floor_zero d positive)) (own_size c positive)
    (omega (arith, few, how_many_is is_other form.coefs)) e) in
    let all : how_many is_one quotients + how_many is_less quotients ≤ 1
    = omega (
      arith,
      counts_all quotients,
      floors_other d form.coefs positive,
      few,
      how_many_is is_other form.coefs,
    ) in
    difference_from (quotient_row d form) trits (omega (arith, all)) (omega (arith, all))

pub divided_difference : (form : Form) → (is_single form || is_pair form) ≡ true → is_difference (divided_form form) ≡ true
divided_difference form class = go (stride_of form) refl where
  go : (o : Option ℤ) → stride_of form ≡ o
      → is_difference (option_map_or (λ c. quotient_row (unsigned_abs c) form) o form) ≡ true
  go None e = plain_difference form class e
  go (Some c) e = stride_difference form c class e

pub rows_differ : (forms : List Form) → list_all (λ row. is_single row || is_pair row) forms ≡ true
    → list_all is_difference (problem_rows forms) ≡ true
rows_differ [] e = refl
rows_differ (form ∷ forms) e =
    let b = and_parts (is_single form || is_pair form) (list_all (λ row. is_single row || is_pair row) forms) e in
    and_from (is_difference (divided_form form)) (list_all is_difference (problem_rows forms))
    (divided_difference form b.0) (rows_differ forms b.1)

-- Numbers

floor_moderate : (d : ℕ) (z : ℤ) → 0 < d → is_moderate z ≡ true → is_moderate (floor z d) ≡ true
floor_moderate d (pos n) h e =
    let b = and_parts (int_le (negsuc 4294967295) (pos n)) (int_le (pos n) (pos 4294967296)) e in
    let le : n / d ≤ n = omega (arith, h) in
    between (pos (n / d)) (omega (arith, ints)) (omega (arith, ints, le, at_most (pos n) (pos 4294967296) b.1)) where
      at_most : (x y : ℤ) → int_le x y ≡ true → x ≤ℤ y
      at_most x y e = grind (arith, ints)

      between : (z : ℤ) → negsuc 4294967295 ≤ℤ z → z ≤ℤ pos 4294967296 → is_moderate z ≡ true
      between z low high = and_from (int_le (negsuc 4294967295) z) (int_le z (pos 4294967296)) (tested _ _ low) (tested _ _ high)
        where
          tested : (x y : ℤ) → x ≤ℤ y → int_le x y ≡ true
          tested x y h = grind (arith, ints)
floor_moderate d (negsuc n) h e =
    let b = and_parts (int_le (negsuc 4294967295) (negsuc n)) (int_le (negsuc n) (pos 4294967296)) e in
    let le : n / d ≤ n = omega (arith, h) in
    between (negsuc (n / d)) (omega (arith, ints, le, at_most (negsuc 4294967295) (negsuc n) b.0)) (omega (arith, ints)) where
      at_most : (x y : ℤ) → int_le x y ≡ true → x ≤ℤ y
      at_most x y e = grind (arith, ints)

      between : (z : ℤ) → negsuc 4294967295 ≤ℤ z → z ≤ℤ pos 4294967296 → is_moderate z ≡ true
      between z low high = and_from (int_le (negsuc 4294967295) z) (int_le z (pos 4294967296)) (tested _ _ low) (tested _ _ high)
        where
          tested : (x y : ℤ) → x ≤ℤ y → int_le x y ≡ true
          tested x y h = grind (arith, ints)

floors_moderate : (d : ℕ) (cs : List ℤ) → 0 < d → list_all is_moderate cs ≡ true
    → list_all is_moderate (map (λ x. floor x d) cs) ≡ true
floors_moderate d [] h e = refl
floors_moderate d (c ∷ cs) h e =
    let b = and_parts (is_moderate c) (list_all is_moderate cs) e in
    and_from (is_moderate (floor c d)) (list_all is_moderate (map (λ x. floor x d) cs)) (floor_moderate d c h b.0)
    (floors_moderate d cs h b.1)

pub divided_fits : (depth : ℕ) (form : Form) → form_fits depth form ≡ true → form_fits depth (divided_form form) ≡ true
divided_fits depth form e = go (stride_of form) refl where
  go : (o : Option ℤ) → stride_of form ≡ o
      → form_fits depth (option_map_or (λ c. quotient_row (unsigned_abs c) form) o form) ≡ true
  go None is = e
  go (Some c) is =
      let d : ℕ = unsigned_abs c in
      let positive : 0 < d = stride_positive form c is in
      let b = and_parts (length form.coefs == depth && is_moderate form.constant) (list_all is_moderate form.coefs) e in
      let a = and_parts (length form.coefs == depth) (is_moderate form.constant) b.0 in
      and_from (length (map (λ x. floor x d) form.coefs) == depth && is_moderate (floor form.constant d))
      (list_all is_moderate (map (λ x. floor x d) form.coefs))
      (and_from (length (map (λ x. floor x d) form.coefs) == depth) (is_moderate (floor form.constant d))
      (ap (λ n. n == depth) (length-map form.coefs (λ x. floor x d)) ∙ a.0) (floor_moderate d form.constant positive a.1))
      (floors_moderate d form.coefs positive b.1)

pub rows_fit : (depth : ℕ) (forms : List Form) → list_all (form_fits depth) forms ≡ true
    → list_all (form_fits depth) (problem_rows forms) ≡ true
rows_fit depth [] e = refl
rows_fit depth (form ∷ forms) e =
    let b = and_parts (form_fits depth form) (list_all (form_fits depth) forms) e in
    and_from (form_fits depth (divided_form form)) (list_all (form_fits depth) (problem_rows forms))
    (divided_fits depth form b.0) (rows_fit depth forms b.1)

-- Bounds

floor_below_zero : (d : ℕ) (z : ℤ) → z <ℤ pos 0 → floor z d <ℤ pos 0
floor_below_zero d (pos n) h = absurd (omega (arith, ints, h))
floor_below_zero d (negsuc n) h = omega (arith, ints)

pub divided_bounds : (loop : ℕ) (form : Form) → BoundsAbove loop form → BoundsAbove loop (divided_form form)
divided_bounds loop form h = go (stride_of form) refl where
  go : (o : Option ℤ) → stride_of form ≡ o
      → BoundsAbove loop (option_map_or (λ c. quotient_row (unsigned_abs c) form) o form)
  go None is = h
  go (Some c) is =
      let d : ℕ = unsigned_abs c in
      let positive : 0 < d = stride_positive form c is in
      record {
        taken_off = subst (λ z. z <ℤ pos 0) (sym (get_or-map-floor d form.coefs loop positive))
            (floor_below_zero d (slice_index_or form.coefs loop (pos 0)) h.taken_off);
        none_inside = λ v lt. get_or-map-floor d form.coefs v positive ∙ ap (λ z. floor z d) (h.none_inside v lt)
            ∙ floor_zero d positive;
      }
