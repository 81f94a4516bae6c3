-- The read and the write of a candidate, from their numbers.
--
-- A read or a write that is found under a number is the only one there, so what is asked of all that these numbers
-- name is asked of one, and what is answered of one holds of all. In the class every write of the array writes
-- differences, so the one that is named does: by induction over the statements. The reader's domain rows are met at
-- each of its points, so the answer of the whole domain is the promised tree.
use Rattle.std.proofs.Common.{◌≡◌, ◌+◌, ℕ, zero, suc, List, [], ◌∷◌, length, Bool, true}
use Rattle.std.proofs.Common.{refl, sym, ap, ◌∙◌, subst, arith}
use Rattle.std.specs.Prelude.{Option, Some, None, slice_get, IsTrue}
use Rattle.std.specs.List.{list_all}
use Rattle.std.specs.Option.{option_and_then, option_map}
use Rattle.std.proofs.lemmas.Option.{same_Some, option_and_then_some}
use Rattle.std.proofs.lemmas.Bool.{and_parts}
use Rattle.sanlp.specs.declared.nest.Access.{Access}
use Rattle.sanlp.specs.declared.nest.Nest.{Nest}
use Rattle.sanlp.specs.declared.nest.Statement.{Statement}
use Rattle.int_polyhedra.specs.Systems.{Meets}
use Rattle.sanlp.specs.Loops.{all_hold}
use Rattle.lex_max.specs.Answer.{root_of, IsAnswer}
use Rattle.tree_graphs.specs.Asked.{depth_of_read, read_of, write_of, AreAsked, HasLevelOf}
use Rattle.tree_graphs.specs.Class.{writes_differences, IsInDifferenceClass}
use Rattle.tree_graphs.specs.Level.{GivesGreatest, IsGreatest}
use Rattle.tree_graphs.specs.Simple.{IsSimple}
use Rattle.tree_graphs.specs.Joint.{IsCheckedFor}
use Rattle.tree_graphs.specs.declared.writes.Writes.{Writes}
use Rattle.tree_graphs.proofs.ProblemBounds.{are_fitting, AreFitting}
use Rattle.tree_graphs.proofs.Just.{checked_in, written_number}
use Rattle.lex_max.proofs.Root.{domain_meets}
use Rattle.tree_graphs.proofs.MadeRows.{are_root}
use Rattle.tree_graphs.proofs.Nodes.{simple_wider}
use Rattle.source_tree.specs.Checked.{IsCheckedIn}
use Rattle.source_tree.specs.Gives.{gives}
use Rattle.source_tree.specs.Systems.{Occurrence, array_writes, just, root_context, named_write, read_at, with_write}
use Rattle.source_tree.specs.Systems.{write_to, writes_from}
use Rattle.source_tree.specs.declared.tree.Tree.{Tree}

-- a read
pub record IsReadAt (n : Nest) (s k : ℕ) (r : Occurrence) : Type 0 where
  pub number : r.number ≡ s
  pub statement : slice_get n.statements s ≡ Some r.statement
  pub access : slice_get r.statement.reads k ≡ Some r.access

pub read_is : (n : Nest) (s k : ℕ) (r : Occurrence) → read_at n s k ≡ Some r → IsReadAt n s k r
read_is n s k r e = by_statement (slice_get n.statements s) refl e where
  by_access : (st : Statement) → slice_get n.statements s ≡ Some st → (o : Option Access) → slice_get st.reads k ≡ o
      → option_map (λ (access : Access). record { number = s; statement = st; access = access }) o ≡ Some r
      → IsReadAt n s k r
  by_access st found None is kept = absurd (let h : None ≡ Some r = kept in cc)
  by_access st found (Some access) is kept =
      let same : record { number = s; statement = st; access = access } ≡ r =
      same_Some (record { number = s; statement = st; access = access }) r kept in
      subst (IsReadAt n s k) same (record { number = refl; statement = found; access = is })

  by_statement : (o : Option Statement) → slice_get n.statements s ≡ o
      → option_and_then (λ (st : Statement). option_map
      (λ (access : Access). record { number = s; statement = st; access = access }) (slice_get st.reads k)) o
      ≡ Some r → IsReadAt n s k r
  by_statement None found kept = absurd (let h : None ≡ Some r = kept in cc)
  by_statement (Some st) found kept = by_access st found (slice_get st.reads k) refl kept

-- a property of all writes of an array is one of each
all_writes : (P : Occurrence → Bool) (array k i u : ℕ) (statements : List Statement) (s : Statement) (w : Occurrence)
    → list_all P (writes_from array k statements) ≡ true → slice_get statements i ≡ Some s → k + i ≡ u
    → write_to array u s ≡ Some w → P w ≡ true
all_writes P array k i u [] s w all is at written = absurd (let h : None ≡ Some s = is in cc)
all_writes P array k zero u (t ∷ statements) s w all is at written =
    let first : k ≡ u = omega (arith, at) in
    let same : t ≡ s = same_Some t s is in
    let here : write_to array k t ≡ Some w = ap (λ k. write_to array k t) first ∙ ap (write_to array u) same ∙ written
    in
    let both : list_all P (w ∷ writes_from array (k + 1) statements) ≡ true =
    subst (λ o. list_all P (with_write o (writes_from array (k + 1) statements)) ≡ true) here all in
    (and_parts (P w) (list_all P (writes_from array (k + 1) statements)) both).0
all_writes P array k (suc i) u (t ∷ statements) s w all is at written =
    go (λ rest. all_writes P array (k + 1) i u statements s w rest is (omega (arith, at)) written)
    (write_to array k t) all where
      go : (list_all P (writes_from array (k + 1) statements) ≡ true → P w ≡ true) → (o : Option Occurrence)
          → list_all P (with_write o (writes_from array (k + 1) statements)) ≡ true → P w ≡ true
      go inner None rest = inner rest
      go inner (Some v) rest = inner (and_parts (P v) (list_all P (writes_from array (k + 1) statements)) rest).1

pub write_has : (n : Nest) (r w : Occurrence) (u : ℕ) (P : Occurrence → Bool) → list_all P (array_writes n r) ≡ true
    → named_write n r u ≡ Some w → P w ≡ true
write_has n r w u P all named =
    option_and_then_some (write_to r.access.array u) (slice_get n.statements u) w named
    (λ s found written. let here : 0 + u ≡ u = omega arith
    in all_writes P r.access.array 0 u u n.statements s w all found here written)

-- the number of a write that is named
pub named_number : (n : Nest) (r w : Occurrence) (u : ℕ) → named_write n r u ≡ Some w → w.number ≡ u
named_number n r w u named = option_and_then_some (write_to r.access.array u) (slice_get n.statements u) w named
    (λ s found written. written_number r.access.array u s w written)

-- what is asked of a candidate
pub asked_of : (n : Nest) (s k u p : ℕ) (r w : Occurrence) → IsInDifferenceClass n s k → HasLevelOf n s k u p
    → read_at n s k ≡ Some r → named_write n r u ≡ Some w → AreAsked n r w p
asked_of n s k u p r w class level read named =
    let is : IsReadAt n s k r = read_is n s k r read in
    let number : w.number ≡ u = named_number n r w u named in
    let own : class.0 ≡ r = same_Some class.0 r (sym class.1 ∙ read) in
    record {
      reader = ap (slice_get n.statements) is.number ∙ is.statement;
      read = (k, is.access);
      write = ap (named_write n r) number ∙ named;
      differences = write_has n r w u writes_differences
          (subst (λ r. list_all writes_differences (array_writes n r) ≡ true) own class.2) named;
      level = level r w read named;
    }

pub asked_built : (n : Nest) (s k u p : ℕ) (w : Writes) → IsInDifferenceClass n s k → HasLevelOf n s k u p
    → read_at n s k ≡ Some (read_of w) → named_write n (read_of w) u ≡ Some (write_of w) → w.level ≡ p
    → AreAsked n (read_of w) (write_of w) w.level
asked_built n s k u p w class has read named level =
    subst (AreAsked n (read_of w) (write_of w)) (sym level)
    (asked_of n s k u p (read_of w) (write_of w) class has read named)

-- the tree of the reader's whole domain is what is promised
module _ (n : Nest) (s k u p : ℕ) (w : Writes) (tree : Tree) (asked : AreAsked n (read_of w) (write_of w) w.level)
    (vars_is : w.vars ≡ depth_of_read w) (read : read_at n s k ≡ Some (read_of w))
    (named : named_write n (read_of w) u ≡ Some (write_of w)) (level : w.level ≡ p) (h : IsAnswer w (root_of w) 3584 tree) where
  writer : w.write.number ≡ u
  writer = named_number n (read_of w) (write_of w) u named

  pub is_checked : (r : Occurrence) → read_at n s k ≡ Some r → IsCheckedIn n r (just u p) (root_context r) tree
  is_checked r r_is =
      let same : read_of w ≡ r = same_Some (read_of w) r (sym read ∙ r_is) in
      let f : AreFitting n (read_of w) (write_of w) w.level = are_fitting n (read_of w) (write_of w) w.level asked in
      let own : IsCheckedFor (read_of w) (write_of w) w.level (root_context (read_of w)) tree
      = h.checked (root_context (read_of w)) (sym vars_is)
      (are_root (depth_of_read w) w.read.statement.now.rows f.reader_rows).made in
      subst (λ r. IsCheckedIn n r (just u p) (root_context r) tree) same
      (subst (λ l. IsCheckedIn n (read_of w) (just u l) (root_context (read_of w)) tree) level
      (subst (λ v. IsCheckedIn n (read_of w) (just v w.level) (root_context (read_of w)) tree) writer
      (checked_in n (read_of w) (write_of w) w.level asked.write (root_context (read_of w)) tree own)))

  pub is_greatest : (r v : Occurrence) → read_at n s k ≡ Some r → named_write n r u ≡ Some v
      → GivesGreatest n r v p tree
  is_greatest r v r_is v_is x point =
      let same : read_of w ≡ r = same_Some (read_of w) r (sym read ∙ r_is) in
      let written : write_of w ≡ v = same_Some (write_of w) v (sym named ∙ ap (λ r. named_write n r u) same ∙ v_is) in
      let own : IsReadAt n s k (read_of w) = read_is n s k (read_of w) read in
      let number : r.number ≡ s = ap (λ (r : Occurrence). r.number) (sym same) ∙ own.number in
      let statement : point.statement ≡ w.read.statement.now
      = same_Some point.statement w.read.statement.now
      (sym point.found ∙ ap (slice_get n.statements) number ∙ own.statement) in
      let long : length x ≡ depth_of_read w = point.deep ∙ ap (λ (s : Statement). length s.loops) statement in
      let meets : Meets w.read.statement.now.rows x
      = domain_meets w.read.statement.now.rows x
      (subst (λ (s : Statement). IsTrue (all_hold s.rows x)) statement point.holds) in
      subst (λ v. IsGreatest r v p x (gives tree x)) written
      (subst (λ r. IsGreatest r (write_of w) p x (gives tree x)) same
      (subst (λ l. IsGreatest (read_of w) (write_of w) l x (gives tree x)) level
      (h.greatest x (long ∙ sym vars_is) meets)))

  pub is_simple : IsSimple 65536 tree
  is_simple = simple_wider 3584 65536 tree (omega arith) h.simple
