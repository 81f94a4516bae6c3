-- Facts one after the other.
--
-- The invariant is `AreFacts`: each fact is the row that its Cut adds to the context's rows, over the context's
-- variables, its numbers within 2 ^ 41, and the context with all of them has at most 64 rows. Each Cut names rows of
-- the context alone, so a fact more leaves those before as they are (`fact_more`). The sum of a Cut's terms is taken
-- from its last term to its first: what the later ones come to, onto what the first one makes, is what all come to
-- (`one_onto`). That a fact isn't there twice, or that it is of use to a proof, isn't asked.
use Rattle.std.proofs.Common.{◌≡◌, ◌==◌, ◌<◌, ◌≤◌, ◌+◌, ◌%◌, ◌^◌, ◌≤ℤ◌, ℕ, ℤ, pos, List, [], ◌∷◌, ◌++◌, length, true, refl}
use Rattle.std.proofs.Common.{sym, ap, ◌∙◌, subst, arith, length-append}
use Rattle.std.specs.Prelude.{Some, All, slice_get, unsigned_abs}
use Rattle.std.specs.List.{list_all}
use Rattle.std.specs.Option.{option_and_then}
use Rattle.std.proofs.lemmas.Bool.{and_from, and_parts, eq-eqb, eqb-true}
use Rattle.std.proofs.lemmas.List.Elements.{All-append, All-cons, All-nil}
use Rattle.std.proofs.lemmas.Option.{slice_get_within}
use Rattle.affine_core.specs.declared.form.Form.{Form}
use Rattle.affine_core.specs.Affine.{constant_form, form_product, form_sum}
use Rattle.affine_core.specs.Within.{form_in_128_bits}
use Rattle.int_polyhedra.specs.declared.system.Term.{Term}
use Rattle.tree_graphs.proofs.EdgeSums.{over_append}
use Rattle.int_polyhedra.specs.Steps.{quotient_row, sum_onto}
use Rattle.int_polyhedra.specs.Systems.{AreOver}
use Rattle.int_polyhedra.specs.declared.system.System.{System}
use Rattle.tree_sums.specs.Parts.{IsWithin}
use Rattle.tree_cuts.specs.Cuts.{AddRows, AddsRow}
use Rattle.tree_cuts.specs.declared.cuts.Cut.{Cut}
use Rattle.tree_facts.specs.Facts.{AreFacts, IsFactOf}
use Rattle.tree_facts.specs.Sums.{IsSumOnto}
use Rattle.tree_facts.specs.declared.search.Facts.{Facts}

-- one Cut more
pub add_one : (vars : ℕ) (rows : List Form) (cuts : List Cut) (facts : List Form) (cut : Cut) (row : Form)
    → AddRows vars rows cuts facts → AddsRow vars rows cut row
    → AddRows vars rows (cuts ++ cut ∷ []) (facts ++ row ∷ [])
add_one vars rows [] [] cut row h one = (one, tt)
add_one vars rows [] (f ∷ facts) cut row h one = absurd h
add_one vars rows (c ∷ cuts) [] cut row h one = absurd h
add_one vars rows (c ∷ cuts) (f ∷ facts) cut row h one = (h.0, add_one vars rows cuts facts cut row h.1 one)

-- no terms
pub none_onto : (rows : List Form) (sum : Form) → IsSumOnto rows sum [] sum
none_onto rows sum = record {
  name_rows = All-nil (λ (t : Term). t.row < length rows);
  not_negative = All-nil (λ (t : Term). pos 0 ≤ℤ t.times);
  is = refl;
}

-- a term before others
pub one_onto : (rows : List Form) (sum next total row : Form) (t : Term) (terms : List Term)
    → slice_get rows t.row ≡ Some row → pos 0 ≤ℤ t.times
    → Some next ≡ option_and_then (λ more. form_in_128_bits (form_sum sum more)) (form_in_128_bits (form_product t.times row))
    → IsSumOnto rows next terms total → IsSumOnto rows sum (t ∷ terms) total
one_onto rows sum next total row t terms at positive is rest = record {
  name_rows = All-cons (λ (t : Term). t.row < length rows) t terms (slice_get_within rows t.row row at) rest.name_rows;
  not_negative = All-cons (λ (t : Term). pos 0 ≤ℤ t.times) t terms positive rest.not_negative;
  is = ap (λ found. option_and_then (λ next. sum_onto rows next terms) (option_and_then
      (λ row. option_and_then (λ more. form_in_128_bits (form_sum sum more))
      (form_in_128_bits (form_product t.times row))) found)) at
      ∙ ap (option_and_then (λ next. sum_onto rows next terms)) (sym is) ∙ rest.is;
}

-- the divisor divides each coefficient
all_divided : (d : ℕ) (cs : List ℤ) → list_all (λ c. unsigned_abs c % d == 0) cs ≡ true
    → All (λ c. unsigned_abs c % d ≡ 0) cs
all_divided d [] e = All-nil (λ c. unsigned_abs c % d ≡ 0)
all_divided d (c ∷ cs) e =
    let b = and_parts (unsigned_abs c % d == 0) (list_all (λ c. unsigned_abs c % d == 0) cs) e in
    All-cons (λ c. unsigned_abs c % d ≡ 0) c cs (eqb-true (unsigned_abs c % d) 0 b.0) (all_divided d cs b.1)

-- a Cut of a sum
pub fact_of_sum : (context : System) (cut : Cut) (sum row : Form) → pos 1 ≤ℤ cut.divisor
    → IsSumOnto context.rows (constant_form context.vars (pos 0)) cut.terms sum
    → list_all (λ c. unsigned_abs c % unsigned_abs cut.divisor == 0) sum.coefs ≡ true
    → row ≡ quotient_row (unsigned_abs cut.divisor) sum → length row.coefs ≡ context.vars → IsWithin (2 ^ 41) row
    → IsFactOf context cut row
fact_of_sum context cut sum row divisor s divided is over within = record {
  adds = record {
    divisor = divisor;
    sum = sum;
    is_sum = record { name_rows = s.name_rows; not_negative = s.not_negative; is_sum = s.is };
    divisible = all_divided (unsigned_abs cut.divisor) sum.coefs divided;
    is = is;
  };
  over = over;
  within = within;
}

-- no facts, and one more
pub no_facts : (context : System) (facts : Facts) → facts.cuts ≡ [] → facts.rows ≡ [] → length context.rows ≤ 64
    → AreFacts context facts
no_facts context facts cuts rows few = record {
  add = subst (λ cuts. AddRows context.vars context.rows cuts facts.rows) (sym cuts)
      (subst (AddRows context.vars context.rows []) (sym rows) tt);
  over = subst (AreOver context.vars) (sym rows) refl;
  within = subst (All (IsWithin (2 ^ 41))) (sym rows) (All-nil (IsWithin (2 ^ 41)));
  few = omega (arith, ap length rows, few);
}

pub fact_more : (context : System) (facts more : Facts) (cut : Cut) (row : Form) → AreFacts context facts
    → IsFactOf context cut row → length context.rows + length facts.rows < 64 → more.cuts ≡ facts.cuts ++ cut ∷ []
    → more.rows ≡ facts.rows ++ row ∷ [] → AreFacts context more
fact_more context facts more cut row h one lt cuts rows = record {
  add = subst (λ cuts. AddRows context.vars context.rows cuts more.rows) (sym cuts)
      (subst (AddRows context.vars context.rows (facts.cuts ++ cut ∷ [])) (sym rows)
      (add_one context.vars context.rows facts.cuts facts.rows cut row h.add one.adds));
  over = subst (AreOver context.vars) (sym rows) (over_append context.vars facts.rows (row ∷ []) h.over
      (and_from _ _ (eq-eqb (length row.coefs) context.vars one.over) refl));
  within = subst (All (IsWithin (2 ^ 41))) (sym rows) (All-append (IsWithin (2 ^ 41)) facts.rows (row ∷ []) h.within
      (All-cons (IsWithin (2 ^ 41)) row [] one.within (All-nil (IsWithin (2 ^ 41)))));
  few = omega (arith, ap length rows, length-append facts.rows (row ∷ []), lt);
}
