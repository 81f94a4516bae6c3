-- What each kind of tree gives within the machine's numbers, and what it asks.
use Rattle.std.proofs.Common.{◌≡◌, ◌+◌, ◌==◌, ◌&&◌, ◌≤◌, ◌<◌, ◌≤ℤ◌, ℕ, ℤ, pos, List, [], ◌∷◌, ◌++◌, length, Bool, true}
use Rattle.std.proofs.Common.{false, cond, refl, sym, ap, ◌∙◌, arith, length-append, leb-true, ltb-true, eqb-true}
use Rattle.std.specs.Prelude.{Option, Some, None, nat_le, nat_lt}
use Rattle.std.specs.Option.{option_and_then, option_map}
use Rattle.std.specs.Int.RustNames.{int_le, unsigned_abs}
use Rattle.std.proofs.lemmas.Bool.{and_parts}
use Rattle.int_polyhedra.specs.Steps.{floor}
use Rattle.affine_core.specs.declared.form.Form.{Form}
use Rattle.affine_core.specs.Within.{value_in_128_bits}
use Rattle.affine_core.proofs.Integers.{int_le-true}
use Rattle.int_polyhedra.specs.declared.system.Proof.{Proof}
use Rattle.source_tree.specs.Walk.{Walks, walk_step, outcome_of, ready_step, is_ready, are_over, map_values, divides}
use Rattle.source_tree.specs.Walk.{with_quotient}
use Rattle.source_tree.specs.declared.tree.Found.{Found}
use Rattle.source_tree.specs.declared.tree.Found.TheVariants as found
use Rattle.source_tree.specs.declared.tree.Tree.{Tree}
use Rattle.source_tree.specs.declared.tree.Tree.TheOpen as open_
use Rattle.source_tree.specs.declared.tree.Tree.TheViews.{Test, Divides, rolls-Test, rolls-Divides, rolls-Writer}
use Rattle.source_tree.specs.declared.tree.Tree.TheViews.{rolls-Zero, rolls-Dead}
use Rattle.source_tree.specs.declared.tree.Tree.TheVariants.{Writer, Zero, Dead}
use Rattle.source_tree.specs.declared.tree.Tree.TheFolds.{fold-roll-Tree}

module _ (at : List ℤ) where
  pub walked_test : (p : Tree) (form : Form) (a b : Tree) → p ≡ Test form a b
      → outcome_of p at
      ≡ option_and_then (λ v. cond (int_le (pos 0) v) (outcome_of a at) (outcome_of b at)) (value_in_128_bits form at)
  unfolding outcome_of
  walked_test p form a b e =
      ap (λ p. outcome_of p at) (e ∙ sym (rolls-Test form a b))
      ∙ ap (λ (k : Walks). k at) (fold-roll-Tree Walks walk_step (open_.Test form a b))

  pub walked_divides : (p : Tree) (form : Form) (d : ℤ) (a b : Tree) → p ≡ Divides form d a b
      → outcome_of p at
      ≡ option_and_then
      (λ v. cond (divides v d) (outcome_of a (with_quotient at v d)) (outcome_of b (with_quotient at v d)))
      (value_in_128_bits form at)
  unfolding outcome_of
  walked_divides p form d a b e =
      ap (λ p. outcome_of p at) (e ∙ sym (rolls-Divides form d a b))
      ∙ ap (λ (k : Walks). k at) (fold-roll-Tree Walks walk_step (open_.Divides form d a b))

  pub walked_writer : (p : Tree) (s : ℕ) (forms : List Form) (proofs : List Proof) → p ≡ Writer s forms proofs
      → outcome_of p at ≡ option_map (λ values. found.At (record { statement = s; at = values })) (map_values forms at)
  unfolding outcome_of
  walked_writer p s forms proofs e =
      ap (λ p. outcome_of p at) (e ∙ sym (rolls-Writer s forms proofs))
      ∙ ap (λ (k : Walks). k at) (fold-roll-Tree Walks walk_step (open_.Writer s forms proofs))

  pub walked_zero : (p : Tree) (proofs : List Proof) → p ≡ Zero proofs → outcome_of p at ≡ Some found.Zero
  unfolding outcome_of
  walked_zero p proofs e =
      ap (λ p. outcome_of p at) (e ∙ sym (rolls-Zero proofs))
      ∙ ap (λ (k : Walks). k at) (fold-roll-Tree Walks walk_step (open_.Zero proofs))

  pub walked_dead : (p : Tree) (proof : Proof) → p ≡ Dead proof → outcome_of p at ≡ Some found.Dead
  unfolding outcome_of
  walked_dead p proof e =
      ap (λ p. outcome_of p at) (e ∙ sym (rolls-Dead proof))
      ∙ ap (λ (k : Walks). k at) (fold-roll-Tree Walks walk_step (open_.Dead proof))

module _ (depth n : ℕ) where
  pub ready_test : (p : Tree) (form : Form) (a b : Tree) → p ≡ Test form a b → is_ready depth p n ≡ true
      → (length form.coefs ≡ n) × (is_ready depth a n ≡ true) × (is_ready depth b n ≡ true)
  unfolding is_ready
  ready_test p form a b e h =
      let f = and_parts (length form.coefs == n) (is_ready depth a n && is_ready depth b n)
      (ap (λ (k : ℕ → Bool). k n) (sym (fold-roll-Tree (ℕ → Bool) (ready_step depth) (open_.Test form a b)))
      ∙ ap (λ p. is_ready depth p n) (sym (e ∙ sym (rolls-Test form a b))) ∙ h) in
      let g = and_parts (is_ready depth a n) (is_ready depth b n) f.1 in
      (eqb-true (length form.coefs) n f.0, g.0, g.1)

  pub ready_divides : (p : Tree) (form : Form) (d : ℤ) (a b : Tree) → p ≡ Divides form d a b → is_ready depth p n ≡ true
      → (length form.coefs ≡ n) × (pos 2 ≤ℤ d) × (n < depth + 6) × (is_ready depth a (n + 1) ≡ true)
      × (is_ready depth b (n + 1) ≡ true)
  unfolding is_ready
  ready_divides p form d a b e h =
      let f = and_parts (length form.coefs == n)
      (int_le (pos 2) d && (nat_lt n (depth + 6) && (is_ready depth a (n + 1) && is_ready depth b (n + 1))))
      (ap (λ (k : ℕ → Bool). k n) (sym (fold-roll-Tree (ℕ → Bool) (ready_step depth) (open_.Divides form d a b)))
      ∙ ap (λ p. is_ready depth p n) (sym (e ∙ sym (rolls-Divides form d a b))) ∙ h) in
      let g = and_parts (int_le (pos 2) d)
      (nat_lt n (depth + 6) && (is_ready depth a (n + 1) && is_ready depth b (n + 1))) f.1 in
      let k = and_parts (nat_lt n (depth + 6)) (is_ready depth a (n + 1) && is_ready depth b (n + 1)) g.1 in
      let m = and_parts (is_ready depth a (n + 1)) (is_ready depth b (n + 1)) k.1 in
      (eqb-true (length form.coefs) n f.0, int_le-true (pos 2) d g.0, ltb-true n (depth + 6) k.0, m.0, m.1)

  pub ready_writer : (p : Tree) (s : ℕ) (forms : List Form) (proofs : List Proof) → p ≡ Writer s forms proofs
      → is_ready depth p n ≡ true
      → (length forms ≤ 6) × (are_over n forms ≡ true)
  unfolding is_ready
  ready_writer p s forms proofs e h =
      let f = and_parts (nat_le (length forms) 6) (are_over n forms)
      (ap (λ (k : ℕ → Bool). k n) (sym (fold-roll-Tree (ℕ → Bool) (ready_step depth) (open_.Writer s forms proofs)))
      ∙ ap (λ p. is_ready depth p n) (sym (e ∙ sym (rolls-Writer s forms proofs))) ∙ h) in
      (leb-true (length forms) 6 f.0, f.1)

pub test_taken : (at at' : List ℤ) (p : Tree) (form : Form) (a b chosen_levels : Tree) (v : ℤ) (t : Bool)
    (r : Option Found) → p ≡ Test form a b → at' ≡ at → Some v ≡ value_in_128_bits form at'
    → int_le (pos 0) v ≡ t → chosen_levels ≡ cond t a b → r ≡ outcome_of chosen_levels at → r ≡ outcome_of p at
test_taken at at' p form a b chosen_levels v t r e f is sign choice end =
    end ∙ ap (λ k. outcome_of k at) choice ∙ pick t
    ∙ ap (λ t. cond t (outcome_of a at) (outcome_of b at)) (sym sign)
    ∙ ap (option_and_then (λ v. cond (int_le (pos 0) v) (outcome_of a at) (outcome_of b at)))
    (is ∙ ap (value_in_128_bits form) f)
    ∙ sym (walked_test at p form a b e) where
      pick : (t : Bool) → outcome_of (cond t a b) at ≡ cond t (outcome_of a at) (outcome_of b at)
      pick true = refl
      pick false = refl

pub test_none : (at at' : List ℤ) (p : Tree) (form : Form) (a b : Tree) → p ≡ Test form a b → at' ≡ at
    → None ≡ value_in_128_bits form at' → None ≡ outcome_of p at
test_none at at' p form a b e f is =
    ap (option_and_then (λ v. cond (int_le (pos 0) v) (outcome_of a at) (outcome_of b at)))
    (is ∙ ap (value_in_128_bits form) f) ∙ sym (walked_test at p form a b e)

pub divides_taken : (at at' more : List ℤ) (p : Tree) (form : Form) (d d' : ℤ) (a b chosen_levels : Tree) (v v' : ℤ)
    (t' t : Bool) (r : Option Found) → p ≡ Divides form d a b → at' ≡ at
    → Some v ≡ value_in_128_bits form at' → v' ≡ v → d' ≡ d → more ≡ with_quotient at v' d' → t' ≡ divides v' d'
    → t' ≡ t → chosen_levels ≡ cond t a b → r ≡ outcome_of chosen_levels more → r ≡ outcome_of p at
divides_taken at at' more p form d d' a b chosen_levels v v' t' t r e f is g h m divided taken choice end =
    let q : more ≡ with_quotient at v d = m ∙ ap (λ v. with_quotient at v d') g ∙ ap (with_quotient at v) h in
    let sign : divides v d ≡ t = sym (ap (λ v. divides v d') g ∙ ap (divides v) h) ∙ sym divided ∙ taken in
    end ∙ ap (outcome_of chosen_levels) q ∙ ap (λ k. outcome_of k (with_quotient at v d)) choice ∙ pick t
    ∙ ap (λ t. cond t (outcome_of a (with_quotient at v d)) (outcome_of b (with_quotient at v d))) (sym sign)
    ∙ ap (option_and_then
    (λ v. cond (divides v d) (outcome_of a (with_quotient at v d)) (outcome_of b (with_quotient at v d))))
    (is ∙ ap (value_in_128_bits form) f)
    ∙ sym (walked_divides at p form d a b e) where
      pick : (t : Bool)
          → outcome_of (cond t a b) (with_quotient at v d)
          ≡ cond t (outcome_of a (with_quotient at v d)) (outcome_of b (with_quotient at v d))
      pick true = refl
      pick false = refl

pub divides_none : (at at' : List ℤ) (p : Tree) (form : Form) (d : ℤ) (a b : Tree) → p ≡ Divides form d a b → at' ≡ at
    → None ≡ value_in_128_bits form at' → None ≡ outcome_of p at
divides_none at at' p form d a b e f is =
    ap (option_and_then
    (λ v. cond (divides v d) (outcome_of a (with_quotient at v d)) (outcome_of b (with_quotient at v d))))
    (is ∙ ap (value_in_128_bits form) f) ∙ sym (walked_divides at p form d a b e)

pub more_ready : (depth : ℕ) (at more : List ℤ) (v d : ℤ) (chosen_levels x : Tree) → chosen_levels ≡ x
    → more ≡ with_quotient at v d → is_ready depth x (length at + 1) ≡ true
    → is_ready depth chosen_levels (length more) ≡ true
more_ready depth at more v d chosen_levels x e m h =
    ap (λ k. is_ready depth k (length more)) e ∙ ap (λ m. is_ready depth x (length m)) m
    ∙ (let l : length (with_quotient at v d)
    ≡ length at + 1 = omega (arith, length-append at (floor v (unsigned_abs d) ∷ [])) in ap (is_ready depth x) l)
    ∙ h

pub writer_some : (at at' old out : List ℤ) (p : Tree) (s : ℕ) (forms forms' : List Form) (proofs : List Proof)
    → p ≡ Writer s forms proofs → at' ≡ at → forms' ≡ forms
    → old ≡ [] → option_map (λ values. old ++ values) (map_values forms' at') ≡ Some out
    → Some (found.At (record { statement = s; at = out })) ≡ outcome_of p at
writer_some at at' old out p s forms forms' proofs e f g h is =
    ap (option_map (λ values. found.At (record { statement = s; at = values })))
    (sym is ∙ ap (λ (old : List ℤ). option_map (λ values. old ++ values) (map_values forms' at')) h
    ∙ same (map_values forms' at') ∙ ap (map_values forms') f ∙ ap (λ forms. map_values forms at) g)
    ∙ sym (walked_writer at p s forms proofs e) where
      same : (o : Option (List ℤ)) → option_map (λ (values : List ℤ). [] ++ values) o ≡ o
      same None = refl
      same (Some x) = refl

pub writer_none : (at at' : List ℤ) (p : Tree) (s : ℕ) (forms forms' : List Form) (proofs : List Proof)
    → p ≡ Writer s forms proofs → at' ≡ at → forms' ≡ forms
    → map_values forms' at' ≡ None → None ≡ outcome_of p at
writer_none at at' p s forms forms' proofs e f g is =
    ap (option_map (λ values. found.At (record { statement = s; at = values })))
    (sym is ∙ ap (map_values forms') f ∙ ap (λ forms. map_values forms at) g)
    ∙ sym (walked_writer at p s forms proofs e)
