-- A subscript at a place.
--
-- At most one coefficient is other than 0: term by term the zeros add nothing, and the one coefficient adds that many
-- times the form of its loop. Where a coefficient lies outside -1 to 1 or is -1, it is this one. A loop alone comes to
-- its form.
use Rattle.std.proofs.Common.{◌≡◌, ◌+◌, ◌-◌, ◌≤◌, ◌<◌, ◌||◌, ℕ, zero, suc, ℤ, pos, negsuc, ◌+ℤ◌, ◌*ℤ◌, List, [], ◌∷◌, ◌++◌}
use Rattle.std.proofs.Common.{length, replicate, Bool, true, false, cond, refl, sym, ap, ◌∙◌, arith}
use Rattle.std.specs.Prelude.{Some, None, not, slice_index_or}
use Rattle.std.specs.List.{find, list_any}
use Rattle.std.specs.Ordering.{int_eq}
use Rattle.std.proofs.lemmas.Int.{ints}
use Rattle.std.proofs.lemmas.Option.{same_Some}
use Rattle.affine_core.specs.declared.form.Form.{Form}
use Rattle.affine_core.specs.Affine.{variable_form}
use Rattle.affine_core.proofs.Integers.{int_eq-true}
use Rattle.tree_sums.specs.Made.{parts_of}
use Rattle.tree_sums.specs.Parts.{Part, the_constant, the_coefficient, row_part}
use Rattle.source_tree.specs.Places.{at_place, plus_terms}
use Rattle.source_tree.specs.Rows.{RowExpr, Take, Plus, Times, number}
use Rattle.tree_cuts.specs.Sources.{loop_of}
use Rattle.tree_cuts.proofs.Coefficients.{how_many, is_less, is_other, is_outside, none_other, once, outside_counts}

-- a term with a coefficient 0
nothing_more : (sum : RowExpr) (f : Form) (part : Part)
    → parts_of (Plus sum (Times (pos 0) (Take f))) part ≡ parts_of sum part
nothing_more sum f part = omega (arith, ints)

zeros_at : (sum : RowExpr) (cs : List ℤ) (place : List Form) (part : Part) → how_many is_other cs ≡ 0
    → parts_of (plus_terms sum cs place) part ≡ parts_of sum part
zeros_at sum [] place part none = refl
zeros_at sum (c ∷ cs) [] part none = refl
zeros_at sum (c ∷ cs) (f ∷ place) part none =
    let here : once (is_other c) + how_many is_other cs ≡ 0 = none in
    let c_is : c ≡ pos 0 = none_other c (omega (arith, here)) in
    zeros_at (Plus sum (Times c (Take f))) cs place part (omega (arith, here))
    ∙ ap (λ c. parts_of (Plus sum (Times c (Take f))) part) c_is ∙ nothing_more sum f part

-- the coefficient of the one loop
abbrev pub coefficient_of : List ℤ → ℤ
coefficient_of cs = slice_index_or cs (loop_of cs) (pos 0)

other_where : (c : ℤ) → int_eq c (pos 0) ≡ false → once (is_other c) ≡ 1
other_where c e = ap (λ b. once (not b)) e

-- At most one coefficient is other than 0: what the terms add is that many times the form of its loop.
pub single_terms : (sum : RowExpr) (cs : List ℤ) (place : List Form) (part : Part) → length cs ≡ length place
    → how_many is_other cs ≤ 1
    → parts_of (plus_terms sum cs place) part
    ≡ parts_of sum part +ℤ (row_part place part (loop_of cs) *ℤ coefficient_of cs)
single_terms sum [] place part even few = omega (arith, ints, nothing (row_part place part 0)) where
  nothing : (z : ℤ) → z *ℤ pos 0 ≡ pos 0
  nothing z = omega (arith, ints)
single_terms sum (d ∷ cs) [] part even few = absurd (omega arith)
single_terms sum (d ∷ cs) (f ∷ place) part even few =
    let count : once (is_other d) + how_many is_other cs ≤ 1 = few in
    go (λ sum. single_terms sum cs place part (omega (arith, even)) (omega (arith, count))) count (int_eq d (pos 0)) refl
  where
    go : ((sum : RowExpr) → parts_of (plus_terms sum cs place) part
        ≡ parts_of sum part +ℤ (row_part place part (loop_of cs) *ℤ coefficient_of cs))
        → once (is_other d) + how_many is_other cs ≤ 1 → (b : Bool) → int_eq d (pos 0) ≡ b
        → parts_of (plus_terms (Plus sum (Times d (Take f))) cs place) part
        ≡ parts_of sum part +ℤ (row_part (f ∷ place) part (cond b (suc (loop_of cs)) 0)
        *ℤ slice_index_or (d ∷ cs) (cond b (suc (loop_of cs)) 0) (pos 0))
    go rest count true is =
        rest (Plus sum (Times d (Take f)))
        ∙ ap (λ z. z +ℤ (row_part place part (loop_of cs) *ℤ coefficient_of cs))
        (ap (λ d. parts_of (Plus sum (Times d (Take f))) part) (int_eq-true d (pos 0) is) ∙ nothing_more sum f part)
    go rest count false is =
        zeros_at (Plus sum (Times d (Take f))) cs place part (omega (arith, count, other_where d is))

-- where there is another coefficient than 0, there is a loop
pub loop_inside : (cs : List ℤ) → 1 ≤ how_many is_other cs → loop_of cs < length cs
loop_inside [] some = absurd (omega (arith, some))
loop_inside (d ∷ cs) some =
    let count : 1 ≤ once (is_other d) + how_many is_other cs = some in
    go (loop_inside cs) count (int_eq d (pos 0)) refl where
      go : (1 ≤ how_many is_other cs → loop_of cs < length cs) → 1 ≤ once (is_other d) + how_many is_other cs
          → (b : Bool) → int_eq d (pos 0) ≡ b → cond b (suc (loop_of cs)) 0 < suc (length cs)
      go rest count true is =
          let none : once (is_other d) ≡ 0 = ap (λ b. once (not b)) is in
          omega (arith, rest (omega (arith, count, none)))
      go rest count false is = omega arith

-- which coefficient it is
pub stride_coefficient : (cs : List ℤ) (c : ℤ) → how_many is_other cs ≤ 1 → find is_outside cs ≡ Some c
    → coefficient_of cs ≡ c
stride_coefficient [] c few e = absurd (let no : None ≡ Some c = e in cc)
stride_coefficient (d ∷ cs) c few e =
    let count : once (is_other d) + how_many is_other cs ≤ 1 = few in
    go (λ e. stride_coefficient cs c (omega (arith, count)) e) count (λ e. outside_counts cs c e) (int_eq d (pos 0)) refl
    (is_outside d) refl e where
      go : (find is_outside cs ≡ Some c → coefficient_of cs ≡ c) → once (is_other d) + how_many is_other cs ≤ 1
          → (find is_outside cs ≡ Some c → 1 ≤ how_many is_other cs)
          → (b : Bool) → int_eq d (pos 0) ≡ b → (o : Bool) → is_outside d ≡ o
          → cond o (Some d) (find is_outside cs) ≡ Some c
          → slice_index_or (d ∷ cs) (cond b (suc (loop_of cs)) 0) (pos 0) ≡ c
      go rest count later true is false out e = rest e
      go rest count later true is true out e =
          absurd (let no : is_outside (pos 0) ≡ true = ap is_outside (sym (int_eq-true d (pos 0) is)) ∙ out in cc)
      go rest count later false is true out e = same_Some d c e
      go rest count later false is false out e = absurd (omega (arith, count, other_where d is, later e))

pub less_counts : (cs : List ℤ) → list_any is_less cs ≡ true → 1 ≤ how_many is_other cs
less_counts [] e = absurd (let no : false ≡ true = e in cc)
less_counts (d ∷ cs) e = go (less_counts cs) (is_less d) refl e where
  less_is_other : (d : ℤ) → is_less d ≡ true → once (is_other d) ≡ 1
  less_is_other d e = grind (arith, ints)

  go : (list_any is_less cs ≡ true → 1 ≤ how_many is_other cs) → (b : Bool) → is_less d ≡ b
      → (b || list_any is_less cs) ≡ true → 1 ≤ once (is_other d) + how_many is_other cs
  go rest true is e = omega (arith, less_is_other d is)
  go rest false is e = omega (arith, rest e)

pub less_coefficient : (cs : List ℤ) → how_many is_other cs ≤ 1 → list_any is_less cs ≡ true
    → coefficient_of cs ≡ negsuc 0
less_coefficient [] few e = absurd (let no : false ≡ true = e in cc)
less_coefficient (d ∷ cs) few e =
    let count : once (is_other d) + how_many is_other cs ≤ 1 = few in
    go (λ e. less_coefficient cs (omega (arith, count)) e) count (less_counts cs) (int_eq d (pos 0)) refl (is_less d) refl e
  where
    where_less : (d : ℤ) → is_less d ≡ true → d ≡ negsuc 0
    where_less d e = grind (arith, ints)

    go : (list_any is_less cs ≡ true → coefficient_of cs ≡ negsuc 0) → once (is_other d) + how_many is_other cs ≤ 1
        → (list_any is_less cs ≡ true → 1 ≤ how_many is_other cs)
        → (b : Bool) → int_eq d (pos 0) ≡ b → (o : Bool) → is_less d ≡ o → (o || list_any is_less cs) ≡ true
        → slice_index_or (d ∷ cs) (cond b (suc (loop_of cs)) 0) (pos 0) ≡ negsuc 0
    go rest count later true is false out e = rest e
    go rest count later true is true out e =
        absurd (let no : is_less (pos 0) ≡ true = ap is_less (sym (int_eq-true d (pos 0) is)) ∙ out in cc)
    go rest count later false is true out e = where_less d out
    go rest count later false is false out e = absurd (omega (arith, count, other_where d is, later e))

-- a loop alone, at a place

abbrev unit : ℕ → ℕ → List ℤ
unit l k = replicate l (pos 0) ++ pos 1 ∷ replicate k (pos 0)

zeros_count : (k : ℕ) → how_many is_other (replicate k (pos 0)) ≡ 0
zeros_count zero = refl
zeros_count (suc k) = omega (arith, zeros_count k)

unit_length : (l k : ℕ) → length (unit l k) ≡ l + suc k
unit_length zero k = omega (arith, zeros_length k) where
  zeros_length : (k : ℕ) → length (replicate k (pos 0)) ≡ k
  zeros_length zero = refl
  zeros_length (suc k) = ap suc (zeros_length k)
unit_length (suc l) k = omega (arith, unit_length l k)

unit_count : (l k : ℕ) → how_many is_other (unit l k) ≡ 1
unit_count zero k = omega (arith, zeros_count k)
unit_count (suc l) k = omega (arith, unit_count l k)

unit_loop : (l k : ℕ) → loop_of (unit l k) ≡ l
unit_loop zero k = refl
unit_loop (suc l) k = ap suc (unit_loop l k)

unit_coefficient : (l k : ℕ) → coefficient_of (unit l k) ≡ pos 1
unit_coefficient zero k = refl
unit_coefficient (suc l) k = unit_coefficient l k

pub number_none : (part : Part) → parts_of (number (pos 0)) part ≡ pos 0
number_none the_constant = refl
number_none (the_coefficient i) = refl

pub at_loop : (n l : ℕ) (place : List Form) (part : Part) → l < n → n ≡ length place
    → parts_of (at_place (variable_form n l) place) part ≡ row_part place part l
at_loop n l place part lt even =
    let k : ℕ = n - (l + 1) in
    let cs : List ℤ = unit l k in
    let long : length cs ≡ length place = unit_length l k ∙ (let e : l + suc k ≡ n = omega (arith, lt) in e) ∙ even in
    let terms : parts_of (plus_terms (number (pos 0)) cs place) part
    ≡ parts_of (number (pos 0)) part +ℤ (row_part place part (loop_of cs) *ℤ coefficient_of cs) =
    single_terms (number (pos 0)) cs place part long (omega (arith, unit_count l k)) in
    let coefficient : row_part place part (loop_of cs) *ℤ coefficient_of cs ≡ row_part place part l *ℤ pos 1 =
    ap (λ n. row_part place part n *ℤ coefficient_of cs) (unit_loop l k)
    ∙ ap (λ z. row_part place part l *ℤ z) (unit_coefficient l k) in
    omega (arith, ints, terms, coefficient, number_none part)
