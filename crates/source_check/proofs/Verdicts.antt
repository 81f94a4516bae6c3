-- A tree is accepted exactly where it is checked.
--
-- The verdict goes through the tree in preorder with the number of the next leaf and the context. Where it comes to the
-- end, each form, divisor and leaf on the way kept to its rule, which is what a checked tree is made of; and a part of
-- a checked tree never refuses. A leaf's proofs refute its systems one by one: made, and then refused by no step.
use Rattle.std.proofs.Common.{◌≡◌, ◌+◌, ◌==◌, ◌&&◌, ℕ, suc, ℤ, pos, List, [], ◌∷◌, length, Bool, true, false}
use Rattle.std.proofs.Common.{cond, refl, sym, ap, ◌∙◌, subst, arith, lt-ltb, ltb-true, eqb-true}
use Rattle.std.specs.Prelude.{Option, Some, None, Result, Ok, Err, slice_get, nat_lt, int_le, ◌↔◌}
use Rattle.std.specs.Option.{option_map, option_map_or}
use Rattle.std.proofs.lemmas.Bool.{eq-eqb, and_parts, and_from}
use Rattle.std.proofs.lemmas.List.Elements.{All-nil, All-cons}
use Rattle.affine_core.specs.declared.form.Form.{Form}
use Rattle.affine_core.proofs.Integers.{int_le-true, le-int_le}
use Rattle.int_polyhedra.specs.declared.system.Proof.{Proof}
use Rattle.int_polyhedra.specs.declared.system.Reason.{Reason}
use Rattle.int_polyhedra.specs.declared.system.Reason.TheVariants.{Overflow}
use Rattle.int_polyhedra.proofs.ProofRules.{refuted_follows, follows_refuted}
use Rattle.sanlp.specs.declared.nest.Nest.{Nest}
use Rattle.sanlp.specs.declared.nest.Statement.{Statement}
use Rattle.source_check.specs.declared.verdict.Rule.{Rule}
use Rattle.source_check.specs.declared.verdict.Rule.TheVariants as rule
use Rattle.source_check.specs.declared.verdict.TreeVerdict.TheVariants.{Accepted, Refused}
use Rattle.source_check.specs.Verdict.{refusal_of, system_refusal, proof_rule, proofs_refusal, leaf_refusal, map_fits}
use Rattle.source_check.specs.Verdict.{named_refusal, writer_refusal, next_leaf, leaf_end, then_leaves, divisor_fits}
use Rattle.source_check.specs.Verdict.{Checks, check_step, check_from, verdict_of, verdict}
use Rattle.source_check.proofs.Readers.{named_parts}
use Rattle.source_tree.specs.Checked.{IsRefuted, AreRefuted, HaveVariables, IsCheckedIn, at_test, at_divides, at_writer}
use Rattle.source_tree.specs.Checked.{at_zero, at_dead}
use Rattle.source_tree.specs.Rows.{RowSystem, row_forms}
use Rattle.source_tree.specs.Systems.{Occurrence, Context, every, named_write, root_context, test_yes, test_no}
use Rattle.source_tree.specs.Systems.{divides_yes, divides_no, writer_systems, zero_systems, dead_systems}
use Rattle.source_tree.specs.Walk.{are_over}
use Rattle.source_tree.specs.declared.tree.Tree.{Tree}
use Rattle.source_tree.specs.declared.tree.Tree.TheOpen as open_
use Rattle.source_tree.specs.declared.tree.Tree.TheVariants.{Writer, Zero, Dead}
use Rattle.source_tree.specs.declared.tree.Tree.TheViews.{Test, Divides, roll-Tree, rolls-Test, rolls-Divides}
use Rattle.source_tree.specs.declared.tree.Tree.TheViews.{rolls-Writer, rolls-Zero, rolls-Dead}
use Rattle.source_tree.specs.declared.tree.Tree.TheFolds.{map-Tree, fold-roll-Tree, ind-Tree}
use Rattle.source_tree.proofs.RowLists.{are_over-HaveVariables}

-- the proofs of a leaf
refuted_is_none : (system : RowSystem) (proof : Proof) → IsRefuted system proof → system_refusal system proof ≡ None
refuted_is_none system proof h =
    ap (λ o. refusal_of (option_map (λ forms. record { vars = system.vars; rows = forms }) o) proof) h.are_made
    ∙ follows_refuted system.vars h.rows proof h.refuted

none_is_refuted : (system : RowSystem) (proof : Proof) → system_refusal system proof ≡ None → IsRefuted system proof
none_is_refuted system proof e = go (row_forms system.vars system.rows) refl e where
  go : (o : Option (List Form)) → row_forms system.vars system.rows ≡ o
      → refusal_of (option_map (λ forms. record { vars = system.vars; rows = forms }) o) proof ≡ None
      → IsRefuted system proof
  go None is e = absurd (let f : Some Overflow ≡ None = e in cc)
  go (Some rows) is e = record { rows = rows; are_made = is; refuted = refuted_follows system.vars proof rows e }

refuted_are_none : (leaf k : ℕ) (systems : List RowSystem) (proofs : List Proof) → AreRefuted systems proofs
    → (length proofs ≡ length systems) × (proofs_refusal leaf k systems proofs ≡ None)
refuted_are_none leaf k [] [] h = (refl, refl)
refuted_are_none leaf k [] (p ∷ proofs) h = absurd h
refuted_are_none leaf k (s ∷ systems) [] h = absurd h
refuted_are_none leaf k (s ∷ systems) (p ∷ proofs) h =
    let more = refuted_are_none leaf (k + 1) systems proofs h.1 in (
      ap suc more.0,
      ap (λ o. proof_rule leaf k o (proofs_refusal leaf (k + 1) systems proofs)) (refuted_is_none s p h.0)
          ∙ more.1,
    )

none_are_refuted : (leaf k : ℕ) (systems : List RowSystem) (proofs : List Proof) → length proofs ≡ length systems
    → proofs_refusal leaf k systems proofs ≡ None → AreRefuted systems proofs
none_are_refuted leaf k [] [] e h = tt
none_are_refuted leaf k [] (p ∷ proofs) e h = absurd (omega arith)
none_are_refuted leaf k (s ∷ systems) [] e h = absurd (omega arith)
none_are_refuted leaf k (s ∷ systems) (p ∷ proofs) e h =
    go (none_are_refuted leaf (k + 1) systems proofs (omega arith)) (system_refusal s p) refl h where
      go : (proofs_refusal leaf (k + 1) systems proofs ≡ None → AreRefuted systems proofs) → (o : Option Reason)
          → system_refusal s p ≡ o
          → proof_rule leaf k o (proofs_refusal leaf (k + 1) systems proofs) ≡ None
          → AreRefuted (s ∷ systems) (p ∷ proofs)
      go more None is h = (none_is_refuted s p is, more h)
      go more (Some reason) is h = absurd (let f : Some (rule.Proof leaf k reason) ≡ None = h in cc)

leaf_is_none : (leaf : ℕ) (systems : List RowSystem) (proofs : List Proof) → AreRefuted systems proofs
    → leaf_refusal leaf systems proofs ≡ None
leaf_is_none leaf systems proofs h =
    let r = refuted_are_none leaf 0 systems proofs h in
    ap (λ b. cond b (proofs_refusal leaf 0 systems proofs) (Some (rule.Proofs leaf (length proofs) (length systems))))
    (eq-eqb (length proofs) (length systems) r.0) ∙ r.1

none_is_leaf : (leaf : ℕ) (systems : List RowSystem) (proofs : List Proof) → leaf_refusal leaf systems proofs ≡ None
    → AreRefuted systems proofs
none_is_leaf leaf systems proofs e = go (length proofs == length systems) refl e where
  go : (b : Bool) → (length proofs == length systems) ≡ b
      → cond b (proofs_refusal leaf 0 systems proofs) (Some (rule.Proofs leaf (length proofs) (length systems))) ≡ None
      → AreRefuted systems proofs
  go true is e = none_are_refuted leaf 0 systems proofs (eqb-true (length proofs) (length systems) is) e
  go false is e = absurd (let f : Some (rule.Proofs leaf (length proofs) (length systems)) ≡ None = e in cc)

-- the forms of a map
are_over_have : (vars : ℕ) (forms : List Form) → are_over vars forms ≡ true → HaveVariables vars forms
are_over_have vars [] e = All-nil _
are_over_have vars (f ∷ forms) e =
    let b = and_parts (length f.coefs == vars) (are_over vars forms) e in
    All-cons (λ form. length form.coefs ≡ vars) f forms (eqb-true (length f.coefs) vars b.0)
    (are_over_have vars forms b.1)

-- the divisor and the number of quotients
end_is_ok : (leaf m : ℕ) (o : Option Rule) → leaf_end leaf o ≡ Ok m → o ≡ None
end_is_ok leaf m None e = refl
end_is_ok leaf m (Some x) e = absurd (let f : Err x ≡ Ok m = e in cc)

then_is_ok : {C : Type 0} (a : Result ℕ Rule) (next : ℕ → Result ℕ Rule) (m : ℕ) → then_leaves a next ≡ Ok m
    → ((k : ℕ) → a ≡ Ok k → next k ≡ Ok m → C) → C
then_is_ok (Ok k) next m e go = go k refl e
then_is_ok (Err x) next m e go = absurd (let f : Err x ≡ Ok m = e in cc)

if_is_ok : {C : Type 0} (b : Bool) (a : Result ℕ Rule) (x : Rule) (m : ℕ) → cond b a (Err x) ≡ Ok m
    → (b ≡ true → a ≡ Ok m → C) → C
if_is_ok true a x m e go = go refl e
if_is_ok false a x m e go = absurd (let f : Err x ≡ Ok m = e in cc)

module _ (n : Nest) (r : Occurrence) where
  -- what the verdict does at each kind of tree
  module _ (leaf : ℕ) (c : Context) where
    pub check_test : (tree : Tree) (form : Form) (a b : Tree) → tree ≡ Test form a b
        → check_from n r tree leaf c ≡ cond (length form.coefs == c.vars)
        (then_leaves (check_from n r a leaf (test_yes c form)) (λ next. check_from n r b next (test_no c form)))
        (Err (rule.BadForm leaf))
    unfolding check_from
    check_test tree form a b e =
        ap (λ tree. check_from n r tree leaf c) (e ∙ sym (rolls-Test form a b))
        ∙ ap (λ (k : Checks). k leaf c) (fold-roll-Tree Checks (check_step n r) (open_.Test form a b))

    pub check_divides : (tree : Tree) (form : Form) (d : ℤ) (a b : Tree) → tree ≡ Divides form d a b
        → check_from n r tree leaf c ≡ cond ((length form.coefs == c.vars) && divisor_fits r c d)
        (then_leaves (check_from n r a leaf (divides_yes c form d))
        (λ next. check_from n r b next (divides_no c form d))) (Err (rule.BadForm leaf))
    unfolding check_from
    check_divides tree form d a b e =
        ap (λ tree. check_from n r tree leaf c) (e ∙ sym (rolls-Divides form d a b))
        ∙ ap (λ (k : Checks). k leaf c) (fold-roll-Tree Checks (check_step n r) (open_.Divides form d a b))

    pub check_writer : (tree : Tree) (s : ℕ) (place : List Form) (proofs : List Proof) → tree ≡ Writer s place proofs
        → check_from n r tree leaf c ≡ leaf_end leaf (writer_refusal n r leaf c s place proofs)
    unfolding check_from
    check_writer tree s place proofs e =
        ap (λ tree. check_from n r tree leaf c) (e ∙ sym (rolls-Writer s place proofs))
        ∙ ap (λ (k : Checks). k leaf c) (fold-roll-Tree Checks (check_step n r) (open_.Writer s place proofs))

    pub check_zero : (tree : Tree) (proofs : List Proof) → tree ≡ Zero proofs
        → check_from n r tree leaf c ≡ leaf_end leaf (leaf_refusal leaf (zero_systems n r every c) proofs)
    unfolding check_from
    check_zero tree proofs e =
        ap (λ tree. check_from n r tree leaf c) (e ∙ sym (rolls-Zero proofs))
        ∙ ap (λ (k : Checks). k leaf c) (fold-roll-Tree Checks (check_step n r) (open_.Zero proofs))

    pub check_dead : (tree : Tree) (proof : Proof) → tree ≡ Dead proof
        → check_from n r tree leaf c ≡ leaf_end leaf (leaf_refusal leaf (dead_systems c) (proof ∷ []))
    unfolding check_from
    check_dead tree proof e =
        ap (λ tree. check_from n r tree leaf c) (e ∙ sym (rolls-Dead proof))
        ∙ ap (λ (k : Checks). k leaf c) (fold-roll-Tree Checks (check_step n r) (open_.Dead proof))

  -- a checked part comes to its end
  writer_is_none : (leaf : ℕ) (c : Context) (s : ℕ) (place : List Form) (proofs : List Proof) (w : Occurrence)
      → named_write n r s ≡ Some w
      → length place ≡ length w.statement.loops → HaveVariables c.vars place
      → AreRefuted (writer_systems n r every c w place) proofs
      → writer_refusal n r leaf c s place proofs ≡ None
  writer_is_none leaf c s place proofs w is deep have refuted =
      named_parts n r s w is
      (λ number found writes array.
      let here : slice_get n.statements s ≡ Some w.statement = ap (slice_get n.statements) (sym number) ∙ found in
      let long : option_map_or (λ (st : Statement). length place == length st.loops) (slice_get n.statements s) true
      ≡ true
      = ap (λ o. option_map_or (λ (st : Statement). length place == length st.loops) o true) here
      ∙ eq-eqb (length place) (length w.statement.loops) deep in
      let fits : map_fits n c.vars s place ≡ true =
      and_from (are_over c.vars place) _ (are_over-HaveVariables c.vars place have) long in
      ap (λ b. cond b (named_refusal n r leaf c place proofs (named_write n r s)) (Some (rule.BadForm leaf))) fits
      ∙ ap (named_refusal n r leaf c place proofs) is
      ∙ leaf_is_none leaf (writer_systems n r every c w place) proofs refuted)

  checked_ends : (c : Context) (tree : Tree) → IsCheckedIn n r every c tree → (leaf : ℕ)
      → (m : ℕ) × (check_from n r tree leaf c ≡ Ok m)
  checked_ends _ _ (at_test c tree form above below is over first second) leaf =
      let a = checked_ends (test_yes c form) above first leaf in
      let b = checked_ends (test_no c form) below second a.0 in (
        b.0,
        check_test leaf c tree form above below is
            ∙ ap (λ t. cond t
            (then_leaves (check_from n r above leaf (test_yes c form))
            (λ next. check_from n r below next (test_no c form))) (Err (rule.BadForm leaf)))
            (eq-eqb (length form.coefs) c.vars over)
            ∙ ap (λ o. then_leaves o (λ next. check_from n r below next (test_no c form))) a.1 ∙ b.1,
      )
  checked_ends _ _ (at_divides c tree form d above below is over two few first second) leaf =
      let a = checked_ends (divides_yes c form d) above first leaf in
      let b = checked_ends (divides_no c form d) below second a.0 in
      let fits : ((length form.coefs == c.vars) && divisor_fits r c d) ≡ true
      = and_from (length form.coefs == c.vars) (divisor_fits r c d) (eq-eqb (length form.coefs) c.vars over)
      (and_from (int_le (pos 2) d) (nat_lt c.vars (length r.statement.loops + 6)) (le-int_le (pos 2) d two)
      (lt-ltb c.vars (length r.statement.loops + 6) few)) in (
        b.0,
        check_divides leaf c tree form d above below is
            ∙ ap (λ t. cond t
            (then_leaves (check_from n r above leaf (divides_yes c form d))
            (λ next. check_from n r below next (divides_no c form d))) (Err (rule.BadForm leaf))) fits
            ∙ ap (λ o. then_leaves o (λ next. check_from n r below next (divides_no c form d))) a.1 ∙ b.1,
      )
  checked_ends _ _ (at_writer c tree s place proofs w is named_is may deep have refuted) leaf = (
    next_leaf leaf,
    check_writer leaf c tree s place proofs is
        ∙ ap (leaf_end leaf) (writer_is_none leaf c s place proofs w named_is deep have refuted),
  )
  checked_ends _ _ (at_zero c tree proofs is refuted) leaf = (
    next_leaf leaf,
    check_zero leaf c tree proofs is
        ∙ ap (leaf_end leaf) (leaf_is_none leaf (zero_systems n r every c) proofs refuted),
  )
  checked_ends _ _ (at_dead c tree proof is refuted) leaf = (
    next_leaf leaf,
    check_dead leaf c tree proof is
        ∙ ap (leaf_end leaf) (leaf_is_none leaf (dead_systems c) (proof ∷ []) refuted),
  )

  -- a part that comes to its end is checked
  IsSo : Tree → Type 0
  IsSo tree = (leaf m : ℕ) (c : Context) → check_from n r tree leaf c ≡ Ok m → IsCheckedIn n r every c tree

  abbrev So : Type 0
  So = (tree : Tree) × IsSo tree

  writer_so : (leaf : ℕ) (c : Context) (tree : Tree) (s : ℕ) (place : List Form) (proofs : List Proof)
      → tree ≡ Writer s place proofs
      → writer_refusal n r leaf c s place proofs ≡ None → IsCheckedIn n r every c tree
  writer_so leaf c tree s place proofs is e = if_fits (map_fits n c.vars s place) refl e where
    by_name : map_fits n c.vars s place ≡ true → (o : Option Occurrence) → named_write n r s ≡ o
        → named_refusal n r leaf c place proofs o ≡ None → IsCheckedIn n r every c tree
    by_name fits None named_is e = absurd (let f : Some (rule.NoWriter leaf) ≡ None = e in cc)
    by_name fits (Some w) named_is e =
        let b = and_parts (are_over c.vars place)
        (option_map_or (λ (st : Statement). length place == length st.loops)
        (slice_get n.statements s) true) fits in
        named_parts n r s w named_is
        (λ number found writes array.
        let here : slice_get n.statements s ≡ Some w.statement = ap (slice_get n.statements) (sym number) ∙ found in
        let long : (length place == length w.statement.loops) ≡ true
        = sym (ap (λ o. option_map_or (λ (st : Statement). length place == length st.loops) o true) here) ∙ b.1 in
        at_writer c tree s place proofs w is named_is tt (eqb-true (length place) (length w.statement.loops) long)
        (are_over_have c.vars place b.0) (none_is_leaf leaf (writer_systems n r every c w place) proofs e))

    if_fits : (b : Bool) → map_fits n c.vars s place ≡ b
        → cond b (named_refusal n r leaf c place proofs (named_write n r s)) (Some (rule.BadForm leaf)) ≡ None
        → IsCheckedIn n r every c tree
    if_fits true fits e = by_name fits (named_write n r s) refl e
    if_fits false fits e = absurd (let f : Some (rule.BadForm leaf) ≡ None = e in cc)

  layer_so : (y : open_.Tree-F So) → IsSo (roll-Tree (map-Tree So Tree (λ e. e.0) y))
  unfolding IsSo
  layer_so (open_.Test form a b) leaf m c e =
      if_is_ok (length form.coefs == c.vars)
      (then_leaves (check_from n r a.0 leaf (test_yes c form)) (λ next. check_from n r b.0 next (test_no c form)))
      (rule.BadForm leaf) m
      (sym (check_test leaf c _ form a.0 b.0 (rolls-Test form a.0 b.0)) ∙ e)
      (λ over end.
      then_is_ok (check_from n r a.0 leaf (test_yes c form))
      (λ next. check_from n r b.0 next (test_no c form)) m end
      (λ k first second.
      at_test c _ form a.0 b.0 (rolls-Test form a.0 b.0) (eqb-true (length form.coefs) c.vars over)
      (a.1 leaf k (test_yes c form) first) (b.1 k m (test_no c form) second)))
  layer_so (open_.Divides form d a b) leaf m c e =
      if_is_ok ((length form.coefs == c.vars) && divisor_fits r c d)
      (then_leaves (check_from n r a.0 leaf (divides_yes c form d))
      (λ next. check_from n r b.0 next (divides_no c form d))) (rule.BadForm leaf) m
      (sym (check_divides leaf c _ form d a.0 b.0 (rolls-Divides form d a.0 b.0)) ∙ e)
      (λ fits end.
      then_is_ok (check_from n r a.0 leaf (divides_yes c form d))
      (λ next. check_from n r b.0 next (divides_no c form d)) m end
      (λ k first second.
      let f = and_parts (length form.coefs == c.vars) (divisor_fits r c d) fits in
      let g = and_parts (int_le (pos 2) d) (nat_lt c.vars (length r.statement.loops + 6)) f.1 in
      at_divides c _ form d a.0 b.0 (rolls-Divides form d a.0 b.0) (eqb-true (length form.coefs) c.vars f.0)
      (int_le-true (pos 2) d g.0) (ltb-true c.vars (length r.statement.loops + 6) g.1)
      (a.1 leaf k (divides_yes c form d) first) (b.1 k m (divides_no c form d) second)))
  layer_so (open_.Writer s place proofs) leaf m c e =
      writer_so leaf c _ s place proofs (rolls-Writer s place proofs)
      (end_is_ok leaf m (writer_refusal n r leaf c s place proofs)
      (sym (check_writer leaf c _ s place proofs (rolls-Writer s place proofs)) ∙ e))
  layer_so (open_.Zero proofs) leaf m c e =
      at_zero c _ proofs (rolls-Zero proofs)
      (none_is_leaf leaf (zero_systems n r every c) proofs
      (end_is_ok leaf m (leaf_refusal leaf (zero_systems n r every c) proofs)
      (sym (check_zero leaf c _ proofs (rolls-Zero proofs)) ∙ e)))
  layer_so (open_.Dead proof) leaf m c e =
      at_dead c _ proof (rolls-Dead proof)
      (none_is_leaf leaf (dead_systems c) (proof ∷ [])
      (end_is_ok leaf m (leaf_refusal leaf (dead_systems c) (proof ∷ []))
      (sym (check_dead leaf c _ proof (rolls-Dead proof)) ∙ e)))

  ends_checked : (tree : Tree) → IsSo tree
  unfolding IsSo
  ends_checked = ind-Tree IsSo (λ x y is. subst (λ z. IsSo (roll-Tree z)) is (layer_so y))

  pub accepted_is_checked : (tree : Tree) → (verdict n r tree ≡ Accepted) ↔ IsCheckedIn n r every (root_context r) tree
  unfolding IsSo
  accepted_is_checked tree = (
    λ e. go (check_from n r tree 0 (root_context r)) refl e,
    λ h. ap verdict_of (checked_ends (root_context r) tree h 0).1,
  ) where
    go : (o : Result ℕ Rule) → check_from n r tree 0 (root_context r) ≡ o → verdict_of o ≡ Accepted
        → IsCheckedIn n r every (root_context r) tree
    go (Ok m) is e = ends_checked tree 0 m (root_context r) is
    go (Err x) is e = absurd (let f : Refused x ≡ Accepted = e in cc)
