-- The rows of one level of an order, by their numbers.
--
-- By induction over the common loops: each loop above the level has two rows for an equal value, which stand before
-- those of the loops behind it, so loop i has numbers 2i and 2i + 1, and the strict row of level l has 2l. At the
-- level behind all common loops there is no strict row.
use Rattle.std.proofs.Common.{◌≡◌, ◌+◌, ◌*◌, ◌<◌, ℕ, zero, suc, List, [], ◌∷◌, ◌++◌, Bool, true}
use Rattle.std.proofs.Common.{false, sym, ap, ◌∙◌, arith}
use Rattle.std.specs.Prelude.{Some, None, slice_get}
use Rattle.std.specs.Option.{option_map}
use Rattle.std.proofs.lemmas.Option.{same_Some, slice_get-map}
use Rattle.affine_core.specs.declared.form.Form.{Form}
use Rattle.plain_data.proofs.Options.{option_map-some}
use Rattle.plain_data.proofs.Lists.{slice_get-append_right}
use Rattle.source_tree.specs.Places.{order_rows, same_rows}
use Rattle.source_tree.specs.Rows.{RowExpr, Take, equal_rows, minus, one_less}

-- the row that a value of the second place is no greater than the first place's, and the row that it is less at the
-- first
abbrev pub later_row : Form → Form → RowExpr
later_row a b = minus (Take b) (Take a)

abbrev pub sooner_row : Form → Form → RowExpr
sooner_row a b = one_less (minus (Take b) (Take a))

-- the rows of level l of the order of a before b: two per loop above, and one at the level
pub record AreOfLevel (c l : ℕ) (a b : List Form) (rows : List RowExpr) : Type 0 where
  pub above : (i : ℕ) (v x : Form) → i < l → slice_get a i ≡ Some v → slice_get b i ≡ Some x
      → slice_get rows (2 * i + 1) ≡ Some (later_row v x)
  pub at : (v x : Form) → l < c → slice_get a l ≡ Some v → slice_get b l ≡ Some x → slice_get rows (2 * l)
      ≡ Some (sooner_row v x)

pub of_level : (c l : ℕ) (less : Bool) (a b : List Form) (rows : List RowExpr) → slice_get (order_rows c less a b) l
    ≡ Some rows → AreOfLevel c l a b rows
of_level zero zero less a b rows e =
    record { above = λ i v x lt. absurd (omega arith); at = λ v x lt. absurd (omega arith) }
of_level zero (suc l) true a b rows e = absurd (let f : None ≡ Some rows = e in cc)
of_level zero (suc l) false a b rows e = absurd (let f : None ≡ Some rows = e in cc)
of_level (suc c) l less [] b rows e = absurd (let f : None ≡ Some rows = e in cc)
of_level (suc c) l less (v ∷ a) [] rows e = absurd (let f : None ≡ Some rows = e in cc)
of_level (suc c) zero less (v ∷ a) (x ∷ b) rows e =
    let is : sooner_row v x ∷ [] ≡ rows = same_Some (sooner_row v x ∷ []) rows e in
    record {
      above = λ i v' x' lt. absurd (omega arith);
      at = λ v' x' lt v_is x_is.
          (let vs : v ≡ v' = same_Some v v' v_is in
          let xs : x ≡ x' = same_Some x x' x_is in
          ap (λ rows. slice_get rows (2 * 0)) (sym is) ∙ ap (λ v. Some (sooner_row v x)) vs
          ∙ ap (λ x. Some (sooner_row v' x)) xs);
    }
of_level (suc c) (suc l) less (v ∷ a) (x ∷ b) rows e =
    let pair : List RowExpr = equal_rows (Take v) (Take x) in
    let e' : option_map (λ inner. pair ++ inner) (slice_get (order_rows c less a b) l) ≡ Some rows =
    sym (slice_get-map (λ inner. pair ++ inner) (order_rows c less a b) l) ∙ e in
    let i = option_map-some (λ inner. pair ++ inner) (slice_get (order_rows c less a b) l) rows e' in
    let inner : AreOfLevel c l a b i.0 = of_level c l less a b i.0 i.1 in
    let first : RowExpr = minus (Take v) (Take x) in
    let second : RowExpr = minus (Take x) (Take v) in
    let at_rest : (k : ℕ) → slice_get rows (2 + k) ≡ slice_get i.0 k =
    λ k. ap (λ rows. slice_get rows (2 + k)) (sym i.2) ∙ slice_get-append_right (first ∷ second ∷ []) i.0 k in
    record {
      above = above v a x b rows i.0 (ap (λ rows. slice_get rows 1) (sym i.2)) at_rest inner;
      at = λ v' x' lt v_is x_is. (let k : 2 * suc l ≡ 2 + 2 * l = omega arith in ap (slice_get rows) k ∙ at_rest (2 * l)
          ∙ inner.at v' x' (omega (arith, lt)) v_is x_is);
    } where
      above : (v : Form) (a : List Form) (x : Form) (b : List Form) (rows rest : List RowExpr) → slice_get rows 1
          ≡ Some (minus (Take x) (Take v)) → ((k : ℕ) → slice_get rows (2 + k) ≡ slice_get rest k)
          → AreOfLevel c l a b rest → (i : ℕ) (v' x' : Form) → i < suc l → slice_get (v ∷ a) i ≡ Some v'
          → slice_get (x ∷ b) i ≡ Some x' → slice_get rows (2 * i + 1) ≡ Some (later_row v' x')
      above v a x b rows rest one at_rest inner zero v' x' lt v_is x_is =
          let vs : v ≡ v' = same_Some v v' v_is in
          let xs : x ≡ x' = same_Some x x' x_is in
          one ∙ ap (λ v. Some (later_row v x)) vs ∙ ap (λ x. Some (later_row v' x)) xs
      above v a x b rows rest one at_rest inner (suc i) v' x' lt v_is x_is =
          let k : 2 * suc i + 1 ≡ 2 + (2 * i + 1) = omega arith in
          ap (slice_get rows) k ∙ at_rest (2 * i + 1) ∙ inner.above i v' x' (omega (arith, lt)) v_is x_is

-- two places that are equal in all loops
pub same_at : (a b : List Form) (i : ℕ) (v x : Form) → slice_get a i ≡ Some v → slice_get b i ≡ Some x
    → slice_get (same_rows a b) (2 * i + 1) ≡ Some (later_row v x)
same_at [] b i v x e f = absurd (let g : None ≡ Some v = e in cc)
same_at (v' ∷ a) [] i v x e f = absurd (let g : None ≡ Some x = f in cc)
same_at (v' ∷ a) (x' ∷ b) zero v x e f =
    let vs : v' ≡ v = same_Some v' v e in
    let xs : x' ≡ x = same_Some x' x f in
    ap (λ v. Some (later_row v x')) vs ∙ ap (λ x. Some (later_row v x)) xs
same_at (v' ∷ a) (x' ∷ b) (suc i) v x e f =
    let k : 2 * suc i + 1 ≡ 2 + (2 * i + 1) = omega arith in
    ap (slice_get (same_rows (v' ∷ a) (x' ∷ b))) k
    ∙ slice_get-append_right (minus (Take v') (Take x') ∷ minus (Take x') (Take v') ∷ []) (same_rows a b) (2 * i + 1)
    ∙ same_at a b i v x e f
