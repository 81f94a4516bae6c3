-- The systems of one writer and one level.
--
-- Of the levels of the writer one is taken. In a nest a leaf for one writer and one level leaves out the systems of
-- every other writer, so of the list over all writes of the array that of one remains: by induction over the
-- statements, where those before it and behind it give nothing. That the writer is named by its number, and no other
-- is, is what this rests on. So a tree that is checked for the writer alone is checked in the nest.
use Rattle.std.proofs.Common.{◌≡◌, ◌+◌, ◌<◌, ◌==◌, ℕ, zero, suc, List, [], ◌∷◌, ◌++◌, length, map, take, drop}
use Rattle.std.proofs.Common.{Bool, true, false, cond, refl, sym, ap, ◌∙◌, subst, arith, ne_eqb}
use Rattle.std.specs.Prelude.{Option, Some, None, slice_get}
use Rattle.std.specs.List.{flat_map}
use Rattle.std.proofs.lemmas.Bool.{eq-eqb}
use Rattle.std.proofs.lemmas.List.{append-nil, append_assoc}
use Rattle.std.proofs.lemmas.Option.{same_Some, option_and_then_some}
use Rattle.affine_core.specs.declared.form.Form.{Form}
use Rattle.sanlp.specs.declared.nest.Access.{Access}
use Rattle.sanlp.specs.declared.nest.Nest.{Nest}
use Rattle.sanlp.specs.declared.nest.Statement.{Statement}
use Rattle.tree_graphs.specs.Edges.{AreLevelRows}
use Rattle.tree_graphs.specs.Joint.{at_dead, at_test, at_writer, at_zero, later_systems, no_orders, none_systems, orders_behind}
use Rattle.tree_graphs.specs.Joint.{point_systems, IsCheckedFor}
use Rattle.tree_graphs.proofs.Nodes.{checked_point, IsCheckedPoint}
use Rattle.int_polyhedra.specs.declared.system.Proof.{Proof}
use Rattle.source_tree.specs.Checked.{at_dead as dead_in, at_test as test_in, at_writer as writer_in, at_zero as zero_in}
use Rattle.source_tree.specs.Checked.{AreRefuted, HaveVariables, IsCheckedIn}
use Rattle.source_tree.specs.Places.{before_rows}
use Rattle.source_tree.specs.Rows.{RowExpr, RowSystem}
use Rattle.source_tree.specs.Systems.{Occurrence, Context, just, named_write, write_to, with_write, writes_from}
use Rattle.source_tree.specs.Systems.{array_writes, reader_place, writer_place, with_rows, with_write_at, write_systems}
use Rattle.source_tree.specs.Systems.{after_systems, between_systems, cell_systems, outside_systems, test_no, test_yes}
use Rattle.source_tree.specs.Systems.{writer_systems, zero_systems}
use Rattle.source_tree.specs.declared.tree.Tree.{Tree}
use Rattle.source_tree.specs.declared.tree.Tree.TheVariants.{Writer, Zero}

one_at : {X : Type 0} (xs : List X) (p : ℕ) (x : X) → slice_get xs p ≡ Some x → take 1 (drop p xs) ≡ x ∷ []
one_at [] p x e = absurd (let h : None ≡ Some x = e in cc)
one_at (y ∷ xs) zero x e = let h : y ≡ x = same_Some y x e in ap (λ y. y ∷ []) h
one_at (y ∷ xs) (suc p) x e = one_at xs p x e

-- the number of a write that was found
pub written_number : (array u : ℕ) (s : Statement) (w : Occurrence) → write_to array u s ≡ Some w → w.number ≡ u
written_number array u s w e =
    option_and_then_some (λ (access : Access). cond (access.array == array)
    (Some (record { number = u; statement = s; access = access })) None) s.write w e
    (λ access is kept. go access (access.array == array) kept) where
      go : (access : Access) (b : Bool) → cond b (Some (record { number = u; statement = s; access = access })) None
          ≡ Some w → w.number ≡ u
      go access true kept = ap (λ (w : Occurrence). w.number)
          (sym (same_Some (record { number = u; statement = s; access = access }) w kept))
      go access false kept = absurd (let h : None ≡ Some w = kept in cc)

-- What comes of one writer alone, where the others give nothing
module _ (f : Occurrence → List RowSystem) (u : ℕ) (others : (v : Occurrence) → (v.number ≡ u → ⊥) → f v ≡ []) where
  later_none : (array k : ℕ) (statements : List Statement) → u < k → flat_map f (writes_from array k statements) ≡ []
  later_none array k [] lt = refl
  later_none array k (s ∷ statements) lt =
      go (later_none array (k + 1) statements (omega (arith, lt))) (write_to array k s) refl where
        go : flat_map f (writes_from array (k + 1) statements) ≡ [] → (o : Option Occurrence) → write_to array k s ≡ o
            → flat_map f (with_write o (writes_from array (k + 1) statements)) ≡ []
        go rest None is = rest
        go rest (Some v) is =
            let number : v.number ≡ k = written_number array k s v is in
            ap (λ xs. xs ++ flat_map f (writes_from array (k + 1) statements))
            (others v (λ e. absurd (omega (arith, e, number, lt)))) ∙ rest

  pub one_writer : (array k i : ℕ) (statements : List Statement) (s : Statement) (w : Occurrence)
      → slice_get statements i ≡ Some s → k + i ≡ u → write_to array u s ≡ Some w
      → flat_map f (writes_from array k statements) ≡ f w
  one_writer array k i [] s w is at written = absurd (let h : None ≡ Some s = is in cc)
  one_writer array k zero (t ∷ statements) s w is at written =
      let first : k ≡ u = omega (arith, at) in
      let same : t ≡ s = same_Some t s is in
      let here : write_to array k t ≡ Some w = ap (λ k. write_to array k t) first ∙ ap (write_to array u) same ∙ written
      in
      ap (λ o. flat_map f (with_write o (writes_from array (k + 1) statements))) here
      ∙ ap (λ xs. f w ++ xs) (later_none array (k + 1) statements (omega (arith, first))) ∙ append-nil (f w)
  one_writer array k (suc i) (t ∷ statements) s w is at written =
      go (one_writer array (k + 1) i statements s w is (omega (arith, at)) written) (write_to array k t) refl where
        go : flat_map f (writes_from array (k + 1) statements) ≡ f w → (o : Option Occurrence) → write_to array k t ≡ o
            → flat_map f (with_write o (writes_from array (k + 1) statements)) ≡ f w
        go rest None is' = rest
        go rest (Some v) is' =
            let number : v.number ≡ k = written_number array k t v is' in
            ap (λ xs. xs ++ flat_map f (writes_from array (k + 1) statements))
            (others v (λ e. absurd (omega (arith, e, number, at)))) ∙ rest

module _ (r w : Occurrence) (p : ℕ) (c : Context) (further : Occurrence → List (List RowExpr)) where
  abbrev systems_of : Occurrence → List RowSystem
  systems_of = write_systems r (just w.number p) c further

  abbrev levels_of : Occurrence → List (List RowExpr)
  levels_of v = before_rows v.number v.statement (writer_place c v) r.number r.statement (reader_place r)

  abbrev of_level : Occurrence → List RowExpr → List RowSystem
  of_level v level = map (λ q. with_rows (with_write_at r c v) (level ++ q)) (further v)

  others_none : (v : Occurrence) → (v.number ≡ w.number → ⊥) → systems_of v ≡ []
  others_none v differ = ap (λ b. flat_map (of_level v) (cond b (take 1 (drop p (levels_of v))) []))
      (ne_eqb v.number w.number differ)

  pub own_systems : (level : List RowExpr) → AreLevelRows r w p (writer_place c w) level → systems_of w
      ≡ of_level w level
  own_systems level is =
      ap (λ b. flat_map (of_level w) (cond b (take 1 (drop p (levels_of w))) [])) (eq-eqb w.number w.number refl)
      ∙ ap (flat_map (of_level w)) (one_at (levels_of w) p level is) ∙ append-nil (of_level w level)

  -- of all writes of a nest to the read's array
  pub just_one : (n : Nest) → named_write n r w.number ≡ Some w → flat_map systems_of (array_writes n r) ≡ systems_of w
  just_one n named =
      option_and_then_some (write_to r.access.array w.number) (slice_get n.statements w.number) w named
      (λ s found written.
      let zero_and : 0 + w.number ≡ w.number = omega arith in
      one_writer systems_of w.number others_none r.access.array 0 w.number n.statements s w found zero_and written)

pub none_system : (r w : Occurrence) (p : ℕ) (c : Context) (level : List RowExpr)
    → AreLevelRows r w p (writer_place c w) level
    → none_systems r w p c ≡ with_rows (with_write_at r c w) (level ++ []) ∷ []
none_system r w p c level is =
    append-nil (write_systems r (just w.number p) c no_orders w) ∙ own_systems r w p c no_orders level is

pub later_system : (r w : Occurrence) (p : ℕ) (c : Context) (level : List RowExpr) (y : List Form)
    → AreLevelRows r w p (writer_place c w) level
    → later_systems r w p c y ≡ map (λ q. with_rows (with_write_at r c w) (level ++ q)) (orders_behind w y c w)
later_system r w p c level y is =
    append-nil (write_systems r (just w.number p) c (orders_behind w y c) w)
    ∙ own_systems r w p c (orders_behind w y c) level is

-- In a nest

module _ (n : Nest) (r w : Occurrence) (p : ℕ) (named : named_write n r w.number ≡ Some w) (c : Context) where
  pub zero_just : zero_systems n r (just w.number p) c ≡ none_systems r w p c
  zero_just = just_one r w p c no_orders n named ∙ sym (append-nil (write_systems r (just w.number p) c no_orders w))

  pub zero_system : (level : List RowExpr) → AreLevelRows r w p (writer_place c w) level
      → zero_systems n r (just w.number p) c ≡ with_rows (with_write_at r c w) (level ++ []) ∷ []
  zero_system level is = zero_just ∙ none_system r w p c level is

  -- the systems of a place, part by part
  pub point_just : (y : List Form) → writer_systems n r (just w.number p) c w y ≡ point_systems r w p c y
  point_just y =
      let further : Occurrence → List (List RowExpr) = orders_behind w y c in
      let o : List RowSystem = outside_systems c w y in
      let l : List RowSystem = cell_systems r c w y in
      let f : List RowSystem = after_systems r c w y in
      let later : between_systems n r (just w.number p) c w y ≡ later_systems r w p c y
      = just_one r w p c further n named ∙ sym (append-nil (write_systems r (just w.number p) c further w)) in
      ap (λ systems. o ++ (l ++ (f ++ systems))) later
      ∙ sym (append_assoc o (l ++ f) (later_systems r w p c y)
      ∙ ap (λ xs. o ++ xs) (append_assoc l f (later_systems r w p c y)))

  -- a tree that is checked for a write of the nest is checked in the nest for that writer and level
  pub point_in : (tree : Tree) (place : List Form) (proofs : List Proof) → tree ≡ Writer w.number place proofs
      → length place ≡ length w.statement.loops → HaveVariables c.vars place
      → AreRefuted (point_systems r w p c place) proofs → IsCheckedIn n r (just w.number p) c tree
  point_in tree place proofs is deep over refuted =
      writer_in c tree w.number place proofs w is named refl deep over
      (subst (λ systems. AreRefuted systems proofs) (sym (point_just place)) refuted)

  pub none_in : (tree : Tree) (proofs : List Proof) → tree ≡ Zero proofs → AreRefuted (none_systems r w p c) proofs
      → IsCheckedIn n r (just w.number p) c tree
  none_in tree proofs is refuted =
      zero_in c tree proofs is (subst (λ systems. AreRefuted systems proofs) (sym zero_just) refuted)

-- a tree that is checked for the write is checked in the nest
pub checked_in : (n : Nest) (r w : Occurrence) (p : ℕ) → named_write n r w.number ≡ Some w → (c : Context) (tree : Tree)
    → IsCheckedFor r w p c tree → IsCheckedIn n r (just w.number p) c tree
checked_in n r w p named c tree (at_test c' tree' form above below is over within upper lower) =
    test_in c tree form above below is over (checked_in n r w p named (test_yes c form) above upper)
    (checked_in n r w p named (test_no c form) below lower)
checked_in n r w p named c tree (at_writer c' tree' number place proofs is point) =
    let k : IsCheckedPoint r w p c number place proofs =
    checked_point r w p c tree number place proofs (at_writer c tree number place proofs is point) is in
    point_in n r w p named c tree place proofs (is ∙ ap (λ s. Writer s place proofs) k.number) k.deep k.over k.refuted
checked_in n r w p named c tree (at_zero c' tree' proofs is refuted sums) =
    none_in n r w p named c tree proofs is refuted
checked_in n r w p named c tree (at_dead c' tree' proof is refuted) = dead_in c tree proof is refuted
