-- A tree never overflows where its parts don't.
--
-- What a tree gives within the machine's numbers is told by the value of its form, which is the one over unbounded
-- numbers, so both take the same branch. A quotient is no further from 0 than what is divided, so below a Divides the
-- values are within the limit that has the form's bound in it. At a leaf the map's values stay within 128 bits, and are
-- the coordinates of the point that the tree gives, which fit 64 bits by what is asked. No premise speaks of how many
-- variables a form has: values and coefficients are gone through as far as there are both.
use Rattle.std.proofs.Common.{◌≡◌, ◌≤◌, ℕ, ℤ, pos, negsuc, List, [], ◌∷◌, Bool, true, false, cond, refl, sym}
use Rattle.std.proofs.Common.{ap, ◌∙◌, subst, arith}
use Rattle.std.specs.Prelude.{All, IfSome, IsTrue, None, Option, Some, int_le, is_some, max, unsigned_abs}
use Rattle.std.specs.Option.{option_and_then, option_map}
use Rattle.std.proofs.lemmas.List.Elements.{All-append, All-cons, All-head, All-nil, All-tail}
use Rattle.std.proofs.Math.Nat.{div-le_self, le-max_left, le-max_right}
use Rattle.affine_core.specs.Within.{fits_64_bits, number_in_64_bits}
use Rattle.affine_core.specs.declared.form.Form.{Form}
use Rattle.affine_core.specs.Affine.{form_at}
use Rattle.affine_core.proofs.Linear.{combined_in_128_bits_is}
use Rattle.int_polyhedra.specs.declared.system.Proof.{Proof}
use Rattle.int_polyhedra.specs.Steps.{floor}
use Rattle.sanlp.specs.declared.nest.Point.{Point}
use Rattle.source_tree.specs.declared.tree.Found.TheVariants as found
use Rattle.source_tree.specs.declared.tree.Tree.{Tree}
use Rattle.source_tree.specs.declared.tree.Tree.TheVariants.{Writer, Zero, Dead}
use Rattle.source_tree.specs.declared.tree.Tree.TheViews.{Test, Divides}
use Rattle.source_tree.specs.Gives.{gives, values}
use Rattle.source_tree.specs.Walk.{divides, map_values, mapped_value, outcome_of}
use Rattle.source_tree.specs.Walk.{with_quotient}
use Rattle.source_tree.proofs.Gives.{gives-Divides, gives-Test, gives-Writer}
use Rattle.source_tree.proofs.WalkOutcomes.{walked_dead, walked_divides, walked_test, walked_writer, walked_zero}
use Rattle.tree_bounds.specs.Bounds.{AreWithin, HasValues, IsValueBound, NeverOverflows}

abbrev Fit : List ℤ → Type 0
Fit at = All (λ v. IsTrue (fits_64_bits v)) at

pub test_never : (limit : ℕ) (p : Tree) (form : Form) (a b : Tree) → p ≡ Test form a b → HasValues limit form
    → NeverOverflows limit a → NeverOverflows limit b → NeverOverflows limit p
test_never limit p form a b e known above below at within fits none =
    let v = known at within in
    let is : v.0 ≡ form_at form at = combined_in_128_bits_is form.constant form.coefs at v.0 v.1 in
    go (int_le (pos 0) v.0)
    (ap (option_and_then (λ v. cond (int_le (pos 0) v) (outcome_of a at) (outcome_of b at))) (sym v.1)
    ∙ sym (walked_test at p form a b e) ∙ none)
    (λ point given. fits point
    (gives-Test at p form a b e ∙ ap (λ v. cond (int_le (pos 0) v) (gives a at) (gives b at)) (sym is)
    ∙ given)) where
      go : (t : Bool) → cond t (outcome_of a at) (outcome_of b at) ≡ None
          → ((point : Point) → cond t (gives a at) (gives b at) ≡ found.At point → Fit point.at) → ⊥
      go true none fits = above at within fits none
      go false none fits = below at within fits none

quotient_size : (v : ℤ) (d : ℕ) → unsigned_abs (floor v d) ≤ unsigned_abs v
quotient_size (pos n) d = div-le_self n d
quotient_size (negsuc n) d = omega (arith, div-le_self n d)

-- the quotient is within the wider limit, and so are the values before it
wider_within : (limit bound wider : ℕ) (at : List ℤ) (v d : ℤ) → wider ≡ max limit bound → AreWithin limit at
    → unsigned_abs v ≤ bound → AreWithin wider (with_quotient at v d)
wider_within limit bound wider at v d is within near =
    let more = le-max_left limit bound in
    let most = le-max_right limit bound in
    All-append (λ (v : ℤ). unsigned_abs v ≤ wider) at (floor v (unsigned_abs d) ∷ [])
    (λ k x lt. omega (arith, within k x lt, more, is))
    (All-cons (λ (v : ℤ). unsigned_abs v ≤ wider) (floor v (unsigned_abs d)) []
    (omega (arith, quotient_size v (unsigned_abs d), near, most, is)) (All-nil (λ (v : ℤ). unsigned_abs v ≤ wider)))

pub divides_never : (limit bound wider : ℕ) (p : Tree) (form : Form) (d : ℤ) (a b : Tree) → p ≡ Divides form d a b
    → IsValueBound limit form bound → wider ≡ max limit bound → NeverOverflows wider a → NeverOverflows wider b
    → NeverOverflows limit p
divides_never limit bound wider p form d a b e known is above below at within fits none =
    let v = known at within in
    let is_value : v.0 ≡ form_at form at = combined_in_128_bits_is form.constant form.coefs at v.0 v.1 in
    go (with_quotient at v.0 d) (wider_within limit bound wider at v.0 d is within v.2) (divides v.0 d)
    (ap (option_and_then
    (λ v. cond (divides v d) (outcome_of a (with_quotient at v d)) (outcome_of b (with_quotient at v d)))) (sym v.1)
    ∙ sym (walked_divides at p form d a b e) ∙ none)
    (λ point given. fits point
    (gives-Divides at p form d a b e
    ∙ ap (λ v. cond (divides v d) (gives a (with_quotient at v d)) (gives b (with_quotient at v d))) (sym is_value)
    ∙ given)) where
      go : (more : List ℤ) → AreWithin wider more → (t : Bool)
          → cond t (outcome_of a more) (outcome_of b more) ≡ None
          → ((point : Point) → cond t (gives a more) (gives b more) ≡ found.At point → Fit point.at) → ⊥
      go more within true none fits = above more within fits none
      go more within false none fits = below more within fits none

-- Leaves

map_none : {A B : Type 0} (f : A → B) (o : Option A) → option_map f o ≡ None → o ≡ None
map_none f None e = refl
map_none f (Some x) e = cc

map_never : (limit : ℕ) (place : List Form) (at : List ℤ) → AreWithin limit at → All (HasValues limit) place
    → Fit (values place at) → map_values place at ≡ None → ⊥
map_never limit [] at within known fits none = cc
map_never limit (form ∷ place) at within known fits none =
    let v = All-head (HasValues limit) form place known at within in
    let is : v.0 ≡ form_at form at = combined_in_128_bits_is form.constant form.coefs at v.0 v.1 in
    let short : fits_64_bits v.0 ≡ true =
    ap fits_64_bits is ∙ All-head (λ v. IsTrue (fits_64_bits v)) (form_at form at) (values place at) fits in
    let mapped : mapped_value form at ≡ Some v.0 =
    ap (option_and_then number_in_64_bits) v.1 ∙ ap (λ b. cond b (Some v.0) None) short in
    map_never limit place at within (All-tail (HasValues limit) form place known)
    (All-tail (λ v. IsTrue (fits_64_bits v)) (form_at form at) (values place at) fits)
    (map_none (λ rest. v.0 ∷ rest) (map_values place at)
    (ap (option_and_then (λ v. option_map (λ rest. v ∷ rest) (map_values place at))) (sym mapped) ∙ none))

pub writer_never : (limit : ℕ) (p : Tree) (s : ℕ) (place : List Form) (proofs : List Proof) → p ≡ Writer s place proofs
    → All (HasValues limit) place → NeverOverflows limit p
writer_never limit p s place proofs e known at within fits none =
    map_never limit place at within known
    (fits (record { statement = s; at = values place at }) (gives-Writer at p s place proofs e))
    (map_none (λ values. found.At (record { statement = s; at = values })) (map_values place at)
    (sym (walked_writer at p s place proofs e) ∙ none))

pub zero_never : (limit : ℕ) (p : Tree) (proofs : List Proof) → p ≡ Zero proofs → NeverOverflows limit p
zero_never limit p proofs e at within fits none = let no = sym (walked_zero at p proofs e) ∙ none in cc

pub dead_never : (limit : ℕ) (p : Tree) (proof : Proof) → p ≡ Dead proof → NeverOverflows limit p
dead_never limit p proof e at within fits none = let no = sym (walked_dead at p proof e) ∙ none in cc

-- Places

pub one_form : (limit : ℕ) (form : Form) (rest place : List Form) → place ≡ form ∷ rest → HasValues limit form
    → All (HasValues limit) rest → All (HasValues limit) place
one_form limit form rest place first known others =
    subst (All (HasValues limit)) (sym first) (All-cons (HasValues limit) form rest known others)

-- a bound tells that there are values
pub has_values : (limit : ℕ) (form : Form) (bound : Option ℕ) → IfSome bound (IsValueBound limit form)
    → is_some bound ≡ true → HasValues limit form
has_values limit form None known some = cc
has_values limit form (Some bound) known some = λ at within. ((known at within).0, (known at within).1)
