-- Nothing refuses a proof exactly where it follows its rules.
--
-- A step is asked one thing after the other, and the first that is wrong refuses it. So where nothing refuses, each was
-- asked and found right, which is what the step's rule says, and where the rule holds no question finds anything. A step
-- adds a row for the rest of the proof, so both directions are for all rows: from no refusal to the rules by induction
-- over the proof (`refuted_follows`), and back over the derivation (`follows_refuted`). What follows from a proof by its
-- rules is the matter of Soundness.
use Rattle.std.proofs.Common.{◌≡◌, ◌==◌, ◌<◌, ◌%◌, ℕ, ℤ, pos, ◌≤ℤ◌, List, [], ◌∷◌, ◌++◌, length, Bool, true}
use Rattle.std.proofs.Common.{false, not, cond, refl, sym, ap, ◌∙◌, subst, arith, ltb-true}
use Rattle.std.specs.Prelude.{Option, Some, None, Result, Ok, Err, ◌↔◌, IsOk, All, nat_lt, unsigned_abs, int_lt}
use Rattle.std.specs.List.{find, list_all}
use Rattle.std.specs.Option.{option_map, option_or, ok_or}
use Rattle.std.specs.Ordering.{int_eq}
use Rattle.std.specs.Result.{result_err}
use Rattle.std.proofs.lemmas.Bool.{eq-eqb, and_parts, and_from, not-false}
use Rattle.std.proofs.lemmas.Int.{ints}
use Rattle.std.proofs.lemmas.List.Elements.{All-nil, All-cons, All-head, All-tail}
use Rattle.affine_core.specs.declared.form.Form.{Form}
use Rattle.affine_core.specs.Affine.{constant_form}
use Rattle.affine_core.proofs.Integers.{int_eq-true, int_lt-true, int_lt-false, eq-int_eq, lt-int_lt}
use Rattle.int_polyhedra.specs.declared.system.Proof.{Proof}
use Rattle.int_polyhedra.specs.declared.system.Proof.TheOpen as layer
use Rattle.int_polyhedra.specs.declared.system.Proof.TheFolds.{map-Proof, ind-Proof}
use Rattle.int_polyhedra.specs.declared.system.Proof.TheViews.{roll-Proof, rolls-Sum, rolls-Cut, rolls-Split}
use Rattle.int_polyhedra.specs.declared.system.Reason.{Reason}
use Rattle.int_polyhedra.specs.declared.system.Reason.TheVariants.{BadIndex, Negative, NotContradictory, NotDivisible}
use Rattle.int_polyhedra.specs.declared.system.Reason.TheVariants.{Overflow}
use Rattle.int_polyhedra.specs.declared.system.Term.{Term}
use Rattle.int_polyhedra.specs.Steps.{row_unless, row_and_then, refusal_or, bad_row_number, negative_multiplier}
use Rattle.int_polyhedra.specs.Steps.{bad_divisor, sum_onto, sum_of, is_contradictory, sum_refusal, not_divisible}
use Rattle.int_polyhedra.specs.Steps.{quotient_row, divided_row, cut_row, negation_of, split_row}
use Rattle.int_polyhedra.specs.Refusal.{refusal, entailment_refusal}
use Rattle.int_polyhedra.specs.Rules.{IsSumOf, IsContradictory, Refutes, by_sum, by_cut, by_split, ProvesEntailment}
use Rattle.int_polyhedra.proofs.ListSearch.{mapped_none, find_none}
use Rattle.int_polyhedra.proofs.SumInvariants.{option_or_none, row_unless_ok, row_and_then_ok, refusal_or_none, ok_or_ok}
use Rattle.int_polyhedra.proofs.Variables.{split_is}
use Rattle.int_polyhedra.proofs.Cases.{refusal_sum, refusal_cut, refusal_split}
use Rattle.int_polyhedra.proofs.Floor.{divides_where}

-- what was sought and not found holds of none
pub All-find_none : {X : Type 0} (p : X → Bool) (P : X → Type 0) → ((x : X) → p x ≡ false → P x) → (xs : List X)
    → find p xs ≡ None → All P xs
All-find_none p P turn [] e = All-nil P
All-find_none p P turn (x ∷ xs) e =
    let f = find_none p x xs e in
    All-cons P x xs (turn x f.0) (All-find_none p P turn xs f.1)

find_from_all : {X : Type 0} (p : X → Bool) (P : X → Type 0) → ((x : X) → P x → p x ≡ false) → (xs : List X) → All P xs
    → find p xs ≡ None
find_from_all p P turn [] h = refl
find_from_all p P turn (x ∷ xs) h =
    ap (λ b. cond b (Some x) (find p xs)) (turn x (All-head P x xs h)) ∙ find_from_all p P turn xs (All-tail P x xs h)

where_below : (m n : ℕ) → m < n → not (nat_lt m n) ≡ false
where_below m n h = grind arith

where_not_negative : (z : ℤ) → pos 0 ≤ℤ z → int_lt z (pos 0) ≡ false
where_not_negative z h = grind (arith, ints)

where_divided : (m : ℕ) → m ≡ 0 → not (m == 0) ≡ false
where_divided m e = grind arith

where_positive : (z : ℤ) → pos 1 ≤ℤ z → int_lt z (pos 1) ≡ false
where_positive z h = grind (arith, ints)

-- sums
sum_follows : (vars : ℕ) (rows : List Form) (divisor : Option Reason) (terms : List Term) (sum : Form)
    → sum_of vars rows divisor terms ≡ Ok sum
    → (divisor ≡ None) × IsSumOf vars rows terms sum
sum_follows vars rows divisor terms sum e =
    let u = row_unless_ok
    (option_or (bad_row_number (length rows) terms) (option_or divisor (negative_multiplier terms)))
    (ok_or (sum_onto rows (constant_form vars (pos 0)) terms) Overflow) sum e in
    let n = option_or_none (bad_row_number (length rows) terms) (option_or divisor (negative_multiplier terms)) u.0 in
    let m = option_or_none divisor (negative_multiplier terms) n.1 in (
      m.0,
      record {
        name_rows =
            All-find_none (λ (term : Term). not (nat_lt term.row (length rows))) _
            (λ term e. ltb-true term.row (length rows) (not-false (nat_lt term.row (length rows)) e)) terms (mapped_none _ _ n.0);
        not_negative =
            All-find_none (λ (term : Term). int_lt term.times (pos 0)) _ (λ term. int_lt-false term.times (pos 0)) terms
            (mapped_none _ _ m.1);
        is_sum = ok_or_ok (sum_onto rows (constant_form vars (pos 0)) terms) Overflow sum u.1;
      },
    )

follows_sum : (vars : ℕ) (rows : List Form) (divisor : Option Reason) (terms : List Term) (sum : Form) → divisor ≡ None
    → IsSumOf vars rows terms sum
    → sum_of vars rows divisor terms ≡ Ok sum
follows_sum vars rows divisor terms sum e s =
    let n : bad_row_number (length rows) terms ≡ None =
    ap (option_map (λ term. BadIndex term.row))
    (find_from_all (λ (term : Term). not (nat_lt term.row (length rows))) _
    (λ term. where_below term.row (length rows)) terms s.name_rows) in
    let m : negative_multiplier terms ≡ None =
    ap (option_map (λ term. Negative term.times))
    (find_from_all (λ (term : Term). int_lt term.times (pos 0)) _
    (λ term. where_not_negative term.times) terms s.not_negative) in
    let t : option_or (bad_row_number (length rows) terms) (option_or divisor (negative_multiplier terms)) ≡ None =
    cc in
    let o : ok_or (sum_onto rows (constant_form vars (pos 0)) terms) Overflow ≡ Ok sum =
    ap (λ o. ok_or o Overflow) s.is_sum in
    ap (λ t. row_unless t (ok_or (sum_onto rows (constant_form vars (pos 0)) terms) Overflow)) t ∙ o

-- the end of a Sum
all_zero : (cs : List ℤ) → list_all (λ c. int_eq c (pos 0)) cs ≡ true → All (λ c. c ≡ pos 0) cs
all_zero [] e = All-nil _
all_zero (c ∷ cs) e =
    let b = and_parts (int_eq c (pos 0)) (list_all (λ c. int_eq c (pos 0)) cs) e in
    All-cons (λ c. c ≡ pos 0) c cs (int_eq-true c (pos 0) b.0) (all_zero cs b.1)

zero_all : (cs : List ℤ) → All (λ c. c ≡ pos 0) cs → list_all (λ c. int_eq c (pos 0)) cs ≡ true
zero_all [] h = refl
zero_all (c ∷ cs) h =
    and_from (int_eq c (pos 0)) (list_all (λ c. int_eq c (pos 0)) cs) (eq-int_eq c (pos 0) (All-head (λ c. c ≡ pos 0) c cs h))
    (zero_all cs (All-tail (λ c. c ≡ pos 0) c cs h))

end_follows : (sum : Form) → sum_refusal sum ≡ None → IsContradictory sum
end_follows sum e = go (is_contradictory sum) refl e where
  go : (b : Bool) → is_contradictory sum ≡ b → cond b None (Some (NotContradictory sum)) ≡ None → IsContradictory sum
  go false is e = absurd (let k : Some (NotContradictory sum) ≡ None = e in cc)
  go true is e =
      let b = and_parts (int_lt sum.constant (pos 0)) (list_all (λ c. int_eq c (pos 0)) sum.coefs) is in
      record { no_variable = all_zero sum.coefs b.1; negative = int_lt-true sum.constant (pos 0) b.0 }

follows_end : (sum : Form) → IsContradictory sum → sum_refusal sum ≡ None
follows_end sum h =
    ap (λ b. cond b None (Some (NotContradictory sum)))
    (and_from (int_lt sum.constant (pos 0)) (list_all (λ c. int_eq c (pos 0)) sum.coefs)
    (lt-int_lt sum.constant (pos 0) h.negative) (zero_all sum.coefs h.no_variable))

-- the row of a Cut
divisor_follows : (d : ℤ) → bad_divisor d ≡ None → pos 1 ≤ℤ d
divisor_follows d e = go (int_lt d (pos 1)) refl e where
  go : (b : Bool) → int_lt d (pos 1) ≡ b → cond b (Some (Negative d)) None ≡ None → pos 1 ≤ℤ d
  go true is e = absurd (let k : Some (Negative d) ≡ None = e in cc)
  go false is e = int_lt-false d (pos 1) is

Divides : ℕ → List ℤ → Type 0
Divides d cs = All (λ c. unsigned_abs c % d ≡ 0) cs

divided_follows : (d : ℕ) (sum row : Form) → divided_row d sum ≡ Ok row
    → Divides d sum.coefs × (quotient_row d sum ≡ row)
unfolding Divides
divided_follows d sum row e =
    let u = row_unless_ok (not_divisible d sum.coefs) (Ok (quotient_row d sum)) row e in (
      All-find_none (λ c. not (unsigned_abs c % d == 0)) _ (λ c. divides_where (unsigned_abs c % d)) sum.coefs
          (mapped_none _ _ u.0),
      (let k : Ok (quotient_row d sum) ≡ Ok row = u.1 in cc),
    )

follows_divided : (d : ℕ) (sum : Form) → Divides d sum.coefs → divided_row d sum ≡ Ok (quotient_row d sum)
unfolding Divides
follows_divided d sum h =
    ap (λ t. row_unless (option_map (λ c. NotDivisible c) t) (Ok (quotient_row d sum)))
    (find_from_all (λ c. not (unsigned_abs c % d == 0)) _ (λ c. where_divided (unsigned_abs c % d)) sum.coefs h)

follows_cut : (vars : ℕ) (rows : List Form) (d : ℤ) (terms : List Term) (sum : Form) → pos 1 ≤ℤ d
    → IsSumOf vars rows terms sum
    → Divides (unsigned_abs d) sum.coefs → cut_row vars rows d terms ≡ Ok (quotient_row (unsigned_abs d) sum)
follows_cut vars rows d terms sum h s e =
    ap (row_and_then (divided_row (unsigned_abs d)))
    (follows_sum vars rows (bad_divisor d) terms sum
    (ap (λ b. cond b (Some (Negative d)) None) (where_positive d h)) s)
    ∙ follows_divided (unsigned_abs d) sum e

follows_split : (vars : ℕ) (form other : Form) → length form.coefs ≡ vars → negation_of form ≡ Some other
    → split_row vars form ≡ Ok other
follows_split vars form other over is =
    ap (λ b. cond b (ok_or (negation_of form) Overflow) (Err (BadIndex (length form.coefs))))
    (eq-eqb (length form.coefs) vars over)
    ∙ ap (λ o. ok_or o Overflow) is

module _ (vars : ℕ) where
  IsFollowed : Proof → Type 0
  IsFollowed p = (rows : List Form) → refusal vars p rows ≡ None → Refutes vars rows p

  abbrev Followed : Type 0
  Followed = (p : Proof) × IsFollowed p

  layer_followed : (y : layer.Proof-F Followed) → IsFollowed (roll-Proof (map-Proof Followed Proof (λ e. e.0) y))
  unfolding IsFollowed Divides
  layer_followed (layer.Sum terms) rows e =
      refusal_or_none sum_refusal (sum_of vars rows None terms)
      (sym (refusal_sum vars rows terms) ∙ ap (λ p. refusal vars p rows) (sym (rolls-Sum terms)) ∙ e)
      (λ sum is end.
      by_sum rows _ terms sum (rolls-Sum terms) (sum_follows vars rows None terms sum is).1 (end_follows sum end))
  layer_followed (layer.Cut d terms rest) rows e =
      refusal_or_none (λ row. refusal vars rest.0 (rows ++ row ∷ [])) (cut_row vars rows d terms)
      (sym (refusal_cut vars rows d terms rest.0) ∙ ap (λ p. refusal vars p rows) (sym (rolls-Cut d terms rest.0)) ∙ e)
      (λ row is end.
      row_and_then_ok (divided_row (unsigned_abs d)) (sum_of vars rows (bad_divisor d) terms) row is
      (λ sum is-sum div.
      let s = sum_follows vars rows (bad_divisor d) terms sum is-sum in
      let q = divided_follows (unsigned_abs d) sum row div in
      by_cut rows _ d terms rest.0 sum (rolls-Cut d terms rest.0) (divisor_follows d s.0) s.1 q.0
      (rest.1 (rows ++ quotient_row (unsigned_abs d) sum ∷ [])
      (ap (λ row. refusal vars rest.0 (rows ++ row ∷ [])) q.1 ∙ end))))
  layer_followed (layer.Split form above below) rows e =
      refusal_or_none
      (λ other. option_or (refusal vars above.0 (rows ++ form ∷ [])) (refusal vars below.0 (rows ++ other ∷ [])))
      (split_row vars form)
      (sym (refusal_split vars rows form above.0 below.0)
      ∙ ap (λ p. refusal vars p rows) (sym (rolls-Split form above.0 below.0)) ∙ e)
      (λ other is end.
      let o = split_is vars form other (sym is) in
      let ends =
      option_or_none (refusal vars above.0 (rows ++ form ∷ [])) (refusal vars below.0 (rows ++ other ∷ [])) end in
      by_split rows _ form other above.0 below.0 (rolls-Split form above.0 below.0) o.0 o.1
      (above.1 (rows ++ form ∷ []) ends.0) (below.1 (rows ++ other ∷ []) ends.1))

  pub refuted_follows : (p : Proof) (rows : List Form) → refusal vars p rows ≡ None → Refutes vars rows p
  unfolding IsFollowed
  refuted_follows = ind-Proof IsFollowed (λ x y is. subst (λ z. IsFollowed (roll-Proof z)) is (layer_followed y))

  pub follows_refuted : (rows : List Form) (p : Proof) → Refutes vars rows p → refusal vars p rows ≡ None
  unfolding Divides
  follows_refuted _ _ (by_sum rows p terms sum is s end) =
      ap (λ p. refusal vars p rows) is ∙ refusal_sum vars rows terms
      ∙ ap (refusal_or sum_refusal) (follows_sum vars rows None terms sum refl s) ∙ follows_end sum end
  follows_refuted _ _ (by_cut rows p d terms rest sum is h s div more) =
      ap (λ p. refusal vars p rows) is ∙ refusal_cut vars rows d terms rest
      ∙ ap (refusal_or (λ row. refusal vars rest (rows ++ row ∷ []))) (follows_cut vars rows d terms sum h s div)
      ∙ follows_refuted (rows ++ quotient_row (unsigned_abs d) sum ∷ []) rest more
  follows_refuted _ _ (by_split rows p form other above below is over neg yes' no') =
      ap (λ p. refusal vars p rows) is ∙ refusal_split vars rows form above below
      ∙ ap (refusal_or
      (λ other. option_or (refusal vars above (rows ++ form ∷ [])) (refusal vars below (rows ++ other ∷ []))))
      (follows_split vars form other over neg)
      ∙ ap (λ o. option_or o (refusal vars below (rows ++ other ∷ []))) (follows_refuted (rows ++ form ∷ []) above yes')
      ∙ follows_refuted (rows ++ other ∷ []) below no'

-- what the results of the calls say
pub refutes_follows : {U : Type 0} (vars : ℕ) (rows : List Form) (p : Proof) (r : Result U Reason)
    → result_err r ≡ refusal vars p rows → IsOk r ↔ Refutes vars rows p
refutes_follows vars rows p (Ok u) e = ((λ h. refuted_follows vars p rows (sym e)), (λ h. refl))
refutes_follows vars rows p (Err x) e = (
  (λ h. absurd (let k : false ≡ true = h in cc)),
  (λ h. absurd (let k : Some x ≡ None = e ∙ follows_refuted vars rows p h in cc)),
)

entailment_follows : (vars : ℕ) (rows : List Form) (row : Form) (p : Proof) → entailment_refusal vars rows row p ≡ None
    → ProvesEntailment vars rows row p
entailment_follows vars rows row p e =
    refusal_or_none (λ other. refusal vars p (rows ++ other ∷ [])) (split_row vars row) e
    (λ other is end. (other, (split_is vars row other (sym is)).1, refuted_follows vars p (rows ++ other ∷ []) end))

follows_entailment : (vars : ℕ) (rows : List Form) (row : Form) (p : Proof) → length row.coefs ≡ vars
    → ProvesEntailment vars rows row p → entailment_refusal vars rows row p ≡ None
follows_entailment vars rows row p over h =
    ap (refusal_or (λ other. refusal vars p (rows ++ other ∷ []))) (follows_split vars row h.0 over h.1)
    ∙ follows_refuted vars (rows ++ h.0 ∷ []) p h.2

pub entails_follows : {U : Type 0} (vars : ℕ) (rows : List Form) (row : Form) (p : Proof) (r : Result U Reason)
    → length row.coefs ≡ vars → result_err r ≡ entailment_refusal vars rows row p
    → IsOk r ↔ ProvesEntailment vars rows row p
entails_follows vars rows row p (Ok u) over e = ((λ h. entailment_follows vars rows row p (sym e)), (λ h. refl))
entails_follows vars rows row p (Err x) over e = (
  (λ h. absurd (let k : false ≡ true = h in cc)),
  (λ h. absurd (let k : Some x ≡ None = e ∙ follows_entailment vars rows row p over h in cc)),
)
