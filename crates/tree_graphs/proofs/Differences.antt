-- The value of a difference at a place.
--
-- A form is taken term by term. A coefficient 0 adds nothing, the one coefficient 1 adds its node's value and the one
-- coefficient -1 takes its node's value off; where a coefficient doesn't stand, its node is the one behind the last
-- loop, whose value is 0.
use Rattle.std.proofs.Common.{◌≡◌, ◌+◌, ◌≤◌, ◌&&◌, ◌||◌, ℕ, suc, ℤ, pos, negsuc, ◌+ℤ◌, ◌-ℤ◌, List, [], ◌∷◌}
use Rattle.std.proofs.Common.{length, Bool, true, false, cond, refl, sym, ap, ◌∙◌, subst, arith, inl, inr}
use Rattle.std.proofs.Common.{leb-true}
use Rattle.std.specs.Prelude.{nat_le}
use Rattle.std.specs.List.{count_by, list_all}
use Rattle.std.specs.Ordering.{int_eq}
use Rattle.std.proofs.lemmas.Int.{ints}
use Rattle.std.proofs.lemmas.List.Sums.{sum_by-cons}
use Rattle.std.proofs.lemmas.Bool.{and_parts, or_cases}
use Rattle.affine_core.specs.declared.form.Form.{Form}
use Rattle.affine_core.specs.Affine.{constant_form}
use Rattle.affine_core.proofs.Integers.{int_eq-true}
use Rattle.tree_graphs.specs.Class.{count_of, is_difference, is_shift}
use Rattle.tree_graphs.specs.Edges.{node_of}
use Rattle.plain_data.proofs.Lists.{get_or-replicate_same}
use Rattle.tree_sums.specs.Made.{parts_of}
use Rattle.tree_sums.specs.Parts.{Part, the_constant, the_coefficient, part_of, row_part}
use Rattle.source_tree.specs.Places.{at_place, plus_terms}
use Rattle.source_tree.specs.Rows.{RowExpr, Take, Plus, Times, number}

abbrev pub is_trit : ℤ → Bool
is_trit c = int_eq c (pos 0) || (int_eq c (pos 1) || int_eq c (negsuc 0))

abbrev pub how_many : ℤ → List ℤ → ℕ
how_many c [] = 0
how_many c (d ∷ cs) = cond (int_eq d c) 1 0 + how_many c cs

how_many_is : (c : ℤ) (cs : List ℤ) → count_by (λ d. int_eq d c) cs ≡ how_many c cs
how_many_is c [] = refl
how_many_is c (d ∷ cs) = sum_by-cons (λ d. cond (int_eq d c) 1 0) d cs
    ∙ ap (λ n. cond (int_eq d c) 1 0 + n) (how_many_is c cs)

-- the coefficients of a difference
pub record AreTrits (cs : List ℤ) : Type 0 where
  pub trits : list_all is_trit cs ≡ true
  pub one : how_many (pos 1) cs ≤ 1
  pub less : how_many (negsuc 0) cs ≤ 1

pub past_part : (place : List Form) (part : Part) → row_part place part (length place) ≡ pos 0
past_part [] part = refl
past_part (f ∷ place) part = past_part place part

pub past_part_at : (place : List Form) (depth : ℕ) (part : Part) → length place ≡ depth
    → row_part place part depth ≡ pos 0
past_part_at place depth part deep = ap (row_part place part) (sym deep) ∙ past_part place part

pub none_node : (c : ℤ) (cs : List ℤ) → how_many c cs ≡ 0 → node_of c cs ≡ length cs
none_node c [] e = refl
none_node c (d ∷ cs) e = go (λ none. none_node c cs none) (int_eq d c) refl where
  go : (how_many c cs ≡ 0 → node_of c cs ≡ length cs) → (b : Bool) → int_eq d c ≡ b → cond b 0 (suc (node_of c cs))
      ≡ suc (length cs)
  go rest true is =
      let one : 1 + how_many c cs ≡ 0 = subst (λ b. cond b 1 0 + how_many c cs ≡ 0) is e in
      absurd (omega (arith, one))
  go rest false is =
      let none : 0 + how_many c cs ≡ 0 = subst (λ b. cond b 1 0 + how_many c cs ≡ 0) is e in
      ap suc (rest (omega (arith, none)))

pub by_trit : (c : ℤ) (P : ℤ → Type 0) → is_trit c ≡ true → P (pos 0) → P (pos 1) → P (negsuc 0) → P c
by_trit c P e zero_case one_case less_case =
    elim (or_cases (int_eq c (pos 0)) (int_eq c (pos 1) || int_eq c (negsuc 0)) e) [
      | inl z ↦ subst P (sym (int_eq-true c (pos 0) z)) zero_case
      | inr f ↦ elim (or_cases (int_eq c (pos 1)) (int_eq c (negsuc 0)) f) [
        | inl o ↦ subst P (sym (int_eq-true c (pos 1) o)) one_case
        | inr m ↦ subst P (sym (int_eq-true c (negsuc 0) m)) less_case
      ]
    ]

-- the value of a sum of terms at a place
abbrev HasNodes : RowExpr → List ℤ → List Form → Part → Type 0
HasNodes sum cs place part =
    parts_of (plus_terms sum cs place) part ≡ (parts_of sum part +ℤ row_part place part (node_of (pos 1) cs)) -ℤ
    row_part place part (node_of (negsuc 0) cs)

abbrev AtMostOnce : List ℤ → Type 0 → Type 0
AtMostOnce cs claim = how_many (pos 1) cs ≤ 1 → how_many (negsuc 0) cs ≤ 1 → claim

module _ (sum : RowExpr) (cs : List ℤ) (f : Form) (place : List Form) (part : Part) (e : length cs ≡ length place)
    (rest : (sum : RowExpr) → AtMostOnce cs (HasNodes sum cs place part)) where
  no_node : (c : ℤ) → how_many c cs ≡ 0 → row_part place part (node_of c cs) ≡ pos 0
  no_node c none = ap (row_part place part) (none_node c cs none ∙ e) ∙ past_part place part

  at_zero : AtMostOnce (pos 0 ∷ cs) (HasNodes sum (pos 0 ∷ cs) (f ∷ place) part)
  at_zero one less =
      let one' : 0 + how_many (pos 1) cs ≤ 1 = one in
      let less' : 0 + how_many (negsuc 0) cs ≤ 1 = less in
      let h : HasNodes (Plus sum (Times (pos 0) (Take f))) cs place part =
      rest (Plus sum (Times (pos 0) (Take f))) (omega (arith, one')) (omega (arith, less')) in
      omega (arith, ints, h)

  at_one : AtMostOnce (pos 1 ∷ cs) (HasNodes sum (pos 1 ∷ cs) (f ∷ place) part)
  at_one one less =
      let one' : 1 + how_many (pos 1) cs ≤ 1 = one in
      let less' : 0 + how_many (negsuc 0) cs ≤ 1 = less in
      let h : HasNodes (Plus sum (Times (pos 1) (Take f))) cs place part =
      rest (Plus sum (Times (pos 1) (Take f))) (omega (arith, one')) (omega (arith, less')) in
      omega (arith, ints, h, no_node (pos 1) (omega (arith, one')))

  at_less : AtMostOnce (negsuc 0 ∷ cs) (HasNodes sum (negsuc 0 ∷ cs) (f ∷ place) part)
  at_less one less =
      let one' : 0 + how_many (pos 1) cs ≤ 1 = one in
      let less' : 1 + how_many (negsuc 0) cs ≤ 1 = less in
      let h : HasNodes (Plus sum (Times (negsuc 0) (Take f))) cs place part =
      rest (Plus sum (Times (negsuc 0) (Take f))) (omega (arith, one')) (omega (arith, less')) in
      omega (arith, ints, h, no_node (negsuc 0) (omega (arith, less')))

has_nodes : (sum : RowExpr) (cs : List ℤ) (place : List Form) (part : Part) → length cs ≡ length place
    → list_all is_trit cs ≡ true → AtMostOnce cs (HasNodes sum cs place part)
has_nodes sum [] [] part e t one less = omega (arith, ints)
has_nodes sum [] (f ∷ place) part e t one less = absurd (omega arith)
has_nodes sum (c ∷ cs) [] part e t one less = absurd (omega arith)
has_nodes sum (c ∷ cs) (f ∷ place) part e t one less =
    let b = and_parts (is_trit c) (list_all is_trit cs) t in
    let even : length cs ≡ length place = omega (arith, e) in
    let rest : (sum : RowExpr) → AtMostOnce cs (HasNodes sum cs place part) =
    λ sum. has_nodes sum cs place part even b.1 in
    by_trit c (λ c. AtMostOnce (c ∷ cs) (HasNodes sum (c ∷ cs) (f ∷ place) part)) b.0
    (at_zero sum cs f place part even rest) (at_one sum cs f place part even rest)
    (at_less sum cs f place part even rest) one less

-- a number has the same parts over any number of variables
pub number_part : (vars : ℕ) (k : ℤ) (part : Part) → part_of part (record { constant = k; coefs = [] })
    ≡ part_of part (constant_form vars k)
number_part vars k the_constant = refl
number_part vars k (the_coefficient i) = sym (get_or-replicate_same vars i (pos 0))

pub difference_at : (vars : ℕ) (form : Form) (place : List Form) (part : Part) → length form.coefs ≡ length place
    → AreTrits form.coefs
    → parts_of (at_place form place) part
    ≡ (part_of part (constant_form vars form.constant) +ℤ row_part place part (node_of (pos 1) form.coefs)) -ℤ row_part
    place part (node_of (negsuc 0) form.coefs)
difference_at vars form place part e t =
    let h = has_nodes (number form.constant) form.coefs place part e t.trits t.one t.less in
    omega (arith, ints, h, number_part vars form.constant part)

at_most_once : (c : ℤ) (form : Form) → nat_le (count_of c form) 1 ≡ true → how_many c form.coefs ≤ 1
at_most_once c form e = subst (λ n. n ≤ 1) (how_many_is c form.coefs) (leb-true (count_of c form) 1 e)

pub differences_are : (form : Form) → is_difference form ≡ true → AreTrits form.coefs
differences_are form e =
    let b = and_parts (list_all is_trit form.coefs)
    (nat_le (count_of (pos 1) form) 1 && nat_le (count_of (negsuc 0) form) 1) e in
    let c = and_parts (nat_le (count_of (pos 1) form) 1) (nat_le (count_of (negsuc 0) form) 1) b.1 in
    record { trits = b.0; one = at_most_once (pos 1) form c.0; less = at_most_once (negsuc 0) form c.1 }

abbrev is_bit : ℤ → Bool
is_bit c = int_eq c (pos 0) || int_eq c (pos 1)

bits_are : (cs : List ℤ) → list_all is_bit cs ≡ true → (list_all is_trit cs ≡ true) × (how_many (negsuc 0) cs ≡ 0)
bits_are [] e = (refl, refl)
bits_are (c ∷ cs) e =
    let b = and_parts (is_bit c) (list_all is_bit cs) e in
    let rest = bits_are cs b.1 in
    elim (or_cases (int_eq c (pos 0)) (int_eq c (pos 1)) b.0) [
      | inl z ↦ subst (λ c. (list_all is_trit (c ∷ cs) ≡ true) × (how_many (negsuc 0) (c ∷ cs) ≡ 0))
          (sym (int_eq-true c (pos 0) z)) (rest.0, omega (arith, rest.1))
      | inr o ↦ subst (λ c. (list_all is_trit (c ∷ cs) ≡ true) × (how_many (negsuc 0) (c ∷ cs) ≡ 0))
          (sym (int_eq-true c (pos 1) o)) (rest.0, omega (arith, rest.1))
    ]

-- a shift has no coefficient -1
pub record IsShifted (cs : List ℤ) : Type 0 where
  pub trits : AreTrits cs
  pub no_less : node_of (negsuc 0) cs ≡ length cs

pub shifts_are : (form : Form) → is_shift form ≡ true → IsShifted form.coefs
shifts_are form e =
    let b = and_parts (list_all is_bit form.coefs) (nat_le (count_of (pos 1) form) 1) e in
    let t = bits_are form.coefs b.0 in
    record {
      trits = record { trits = t.0; one = at_most_once (pos 1) form b.1; less = omega (arith, t.1) };
      no_less = none_node (negsuc 0) form.coefs t.1;
    }

pub shift_at : (vars : ℕ) (form : Form) (place : List Form) (part : Part) → length form.coefs ≡ length place
    → IsShifted form.coefs
    → parts_of (at_place form place) part
    ≡ part_of part (constant_form vars form.constant) +ℤ row_part place part (node_of (pos 1) form.coefs)
shift_at vars form place part e s =
    let gone : row_part place part (node_of (negsuc 0) form.coefs) ≡ pos 0 = ap (row_part place part) (s.no_less ∙ e)
    ∙ past_part place part in
    omega (arith, ints, difference_at vars form place part e s.trits, gone)
