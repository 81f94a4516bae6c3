-- Two points, compared loop by loop.
--
-- The loops before are equal at both points. In the next loop terms show that the one is less than the other, or that
-- it is not above it; where both aren't above each other, the loop is equal too. What a Test gives of a loop is kept as
-- terms and isn't looked for again.
use Rattle.std.proofs.Common.{◌≡◌, ◌≤◌, ◌<◌, ℕ, suc, negsuc, ◌+ℤ◌, List, [], ◌∷◌, ◌++◌}
use Rattle.std.proofs.Common.{length, refl, sym, ap, ◌∙◌, subst, arith}
use Rattle.std.specs.Prelude.{Some, None, slice_get}
use Rattle.std.proofs.lemmas.Int.{ints}
use Rattle.affine_core.specs.declared.form.Form.{Form}
use Rattle.affine_core.specs.Affine.{form_product, form_sum}
use Rattle.int_polyhedra.specs.declared.system.System.{System}
use Rattle.int_polyhedra.specs.declared.system.Term.{Term}
use Rattle.tree_order.specs.Orders.{difference_parts, strict_parts, turned_equal, AreEqual}
use Rattle.tree_order.specs.Orders.{IsOrder}
use Rattle.tree_order.specs.declared.order.Equality.{Equality}
use Rattle.tree_graphs.specs.Facts.{form_parts, IsFact}
use Rattle.tree_graphs.specs.Level.{common_of}
use Rattle.tree_graphs.proofs.OrderEdges.{raised_part}
use Rattle.tree_graphs.proofs.Small.{negative_over}
use Rattle.tree_sums.specs.Parts.{Part}
use Rattle.tree_sums.proofs.Ideal.{product_part, sum_part}
use Rattle.sanlp.proofs.Precedence.{common_loops-comm}
use Rattle.source_tree.specs.Systems.{Occurrence}

-- Differences of forms

pub difference_is : (a b : Form) (part : Part) → length a.coefs ≡ length b.coefs
    → form_parts (form_sum a (form_product (negsuc 0) b)) part ≡ difference_parts a b part
difference_is a b part over =
    omega (
      arith,
      ints,
      sum_part part a (form_product (negsuc 0) b) (over ∙ sym (negative_over b)),
      product_part part (negsuc 0) b,
    )

-- a form and -1
pub less_one_is : (f a b : Form) → ((part : Part) → form_parts f part ≡ difference_parts a b part) → (part : Part)
    → form_parts (record f { constant = f.constant +ℤ negsuc 0 }) part ≡ strict_parts a b part
less_one_is f a b is part = omega (arith, ints, raised_part f (negsuc 0) part, is part)

-- Equal loops

pub equal_turned : (context : System) (most : ℕ) (z y : List Form) (equal : List Equality)
    → AreEqual context most z y equal → AreEqual context most y z (turned_equal equal)
equal_turned context most z y [] h = tt
equal_turned context most [] y (e ∷ equal) h = absurd h
equal_turned context most (a ∷ z) [] (e ∷ equal) h = absurd h
equal_turned context most (a ∷ z) (b ∷ y) (e ∷ equal) h = ((h.0.1, h.0.0), equal_turned context most z y equal h.1)

pub length_turned : (equal : List Equality) → length (turned_equal equal) ≡ length equal
length_turned [] = refl
length_turned (e ∷ equal) = ap suc (length_turned equal)

pub equal_push : (context : System) (most : ℕ) (z y : List Form) (equal : List Equality) (e : Equality) (a b : Form)
    → AreEqual context most z y equal
    → slice_get z (length equal) ≡ Some a → slice_get y (length equal) ≡ Some b
    → IsFact context most (difference_parts a b) e.above → IsFact context most (difference_parts b a) e.below
    → AreEqual context most z y (equal ++ e ∷ [])
equal_push context most [] y [] e a b h f g up down = absurd (let k : None ≡ Some a = f in cc)
equal_push context most (c ∷ z) [] [] e a b h f g up down = absurd (let k : None ≡ Some b = g in cc)
equal_push context most (c ∷ z) (d ∷ y) [] e a b h f g up down =
    let first : a ≡ c = cc in
    let second : b ≡ d = cc in (
      (
        subst (λ c. IsFact context most (difference_parts c d) e.above) first
            (subst (λ d. IsFact context most (difference_parts a d) e.above) second up),
        subst (λ c. IsFact context most (difference_parts d c) e.below) first
            (subst (λ d. IsFact context most (difference_parts d a) e.below) second down),
      ),
      tt,
    )
equal_push context most [] y (o ∷ equal) e a b h f g up down = absurd h
equal_push context most (c ∷ z) [] (o ∷ equal) e a b h f g up down = absurd h
equal_push context most (c ∷ z) (d ∷ y) (o ∷ equal) e a b h f g up down =
    (h.0, equal_push context most z y equal e a b h.1 f g up down)

-- Orders

-- the first by the text, or the same point
pub by_text : (context : System) (most : ℕ) (u w : Occurrence) (z y : List Form) (equal : List Equality)
    → AreEqual context most z y equal → length equal ≡ common_of u w → u.number ≤ w.number
    → IsOrder context most u w z y (record { equal = equal; strict = None })
by_text context most u w z y equal h l text = record { equal = h; decides = (l, text) }

-- less in the next loop
pub by_loop : (context : System) (most : ℕ) (u w : Occurrence) (z y : List Form) (equal : List Equality)
    (ts : List Term) (a b : Form) → AreEqual context most z y equal → length equal < common_of u w
    → slice_get z (length equal) ≡ Some a → slice_get y (length equal) ≡ Some b
    → IsFact context most (strict_parts b a) ts
    → IsOrder context most u w z y (record { equal = equal; strict = Some ts })
by_loop context most u w z y equal ts a b h l f g fact = record {
  equal = h;
  decides = (l, record { a = a; b = b; first = f; second = g; fact = fact });
}

-- the same with the points turned
pub turned_text : (context : System) (most : ℕ) (u w : Occurrence) (z y : List Form) (equal : List Equality)
    → AreEqual context most z y equal → length equal ≡ common_of u w → w.number ≤ u.number
    → IsOrder context most w u y z (record { equal = turned_equal equal; strict = None })
turned_text context most u w z y equal h l text =
    by_text context most w u y z (turned_equal equal) (equal_turned context most z y equal h)
    (length_turned equal ∙ l ∙ common_loops-comm u.statement.loops w.statement.loops) text

pub turned_loop : (context : System) (most : ℕ) (u w : Occurrence) (z y : List Form) (equal : List Equality)
    (ts : List Term) (a b : Form) → AreEqual context most z y equal → length equal < common_of u w
    → slice_get z (length equal) ≡ Some a → slice_get y (length equal) ≡ Some b
    → IsFact context most (strict_parts a b) ts
    → IsOrder context most w u y z (record { equal = turned_equal equal; strict = Some ts })
turned_loop context most u w z y equal ts a b h l f g fact =
    let same : length (turned_equal equal) ≡ length equal = length_turned equal in
    by_loop context most w u y z (turned_equal equal) ts b a (equal_turned context most z y equal h)
    (omega (arith, l, same, common_loops-comm u.statement.loops w.statement.loops))
    (ap (slice_get y) same ∙ g) (ap (slice_get z) same ∙ f) fact
