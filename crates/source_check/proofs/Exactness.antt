-- A checked tree is exact.
--
-- By induction over the tree, for each point of the reader that comes to a part of it. The values of the variables meet
-- the rows of its context: a Test adds the row that its answer says, and a Divides the quotient and its two rows. At a
-- leaf the proofs refute its systems, so that no whole point meets them, and the leaf gives the last writer or none. No
-- point comes to a Dead leaf, since it would meet its context.
use Rattle.std.proofs.Common.{◌≡◌, ◌+◌, ◌%◌, ◌≤◌, ◌==◌, ℕ, zero, suc, ℤ, pos, ◌≤ℤ◌, ◌<ℤ◌, List, [], ◌∷◌, ◌++◌, length}
use Rattle.std.proofs.Common.{map, Bool, true, false, cond, refl, sym, ap, ◌∙◌, subst, arith, append_assoc}
use Rattle.std.proofs.Common.{length-append, eqb-true}
use Rattle.std.specs.Prelude.{Some, None, slice_get, int_le, unsigned_abs}
use Rattle.std.specs.Option.{option_and_then, option_map_or}
use Rattle.std.proofs.lemmas.Int.{ints}
use Rattle.std.proofs.lemmas.List.{append-nil}
use Rattle.std.proofs.lemmas.List.Elements.{All-head, All-tail}
use Rattle.std.proofs.lemmas.Option.{same_Some}
use Rattle.std.proofs.lemmas.Bool.{eqb-false}
use Rattle.affine_core.specs.declared.form.Form.{Form}
use Rattle.affine_core.specs.Affine.{form_at}
use Rattle.affine_core.proofs.Integers.{int_le-true, int_le-false}
use Rattle.sanlp.specs.declared.nest.Access.{Access}
use Rattle.sanlp.specs.declared.nest.Nest.{Nest}
use Rattle.sanlp.specs.declared.nest.Point.{Point}
use Rattle.sanlp.specs.declared.nest.Statement.{Statement}
use Rattle.sanlp.specs.Access.{cell_at, reads_of}
use Rattle.sanlp.specs.Order.{EnumeratesDomains}
use Rattle.sanlp.specs.Trace.{trace}
use Rattle.sanlp.specs.Writers.{last_before, cell_read}
use Rattle.source_tree.specs.Checked.{HaveVariables, IsCheckedIn, at_test, at_divides, at_writer, at_zero, at_dead}
use Rattle.source_tree.specs.Checked.{IsChecked}
use Rattle.source_tree.specs.Exact.{IsPointOf, IsExact}
use Rattle.source_tree.specs.Gives.{values, gives, quotient}
use Rattle.source_tree.specs.Rows.{RowExpr, Take, row_at, below_zero}
use Rattle.source_tree.specs.Systems.{Occurrence, Context, every, root_context, more_rows, one_more, test_yes, test_no}
use Rattle.source_tree.specs.Systems.{divides_yes, divides_no, divided_rows, undivided_rows, dead_systems}
use Rattle.source_tree.specs.Systems.{writer_systems, zero_systems}
use Rattle.source_tree.specs.declared.tree.Found.{Found}
use Rattle.source_tree.specs.declared.tree.Tree.{Tree}
use Rattle.source_tree.proofs.Gives.{gives-Test, gives-Writer, gives-Zero, gives-Divides}
use Rattle.source_tree.proofs.MetRows.{AreMet, AreMet-append}
use Rattle.source_check.proofs.Leaves.{Holds, over_short, zero_leaf, writer_leaf}
use Rattle.source_check.proofs.RowValues.{refuted_are_empty}
use Rattle.source_check.proofs.Quotients.{divided_within, divided_met, undivided_within, undivided_met}
use Rattle.source_check.proofs.Readers.{IsReader, IsTrace, IsPointAt, read_parts, is_reader, is_trace, named_parts}
use Rattle.source_check.proofs.Values.{AreWithin, AreShort, met_more, within_append}
use Rattle.source_check.proofs.Values.{all_within_wider, taken_met, taken_within}

have_short : (vars m : ℕ) (forms : List Form) → vars ≡ m → HaveVariables vars forms → AreShort m forms
have_short vars m [] e h = tt
have_short vars m (f ∷ forms) e h =
    let one : length f.coefs ≡ vars = All-head (λ form. length form.coefs ≡ vars) f forms h in (
      (let l : length f.coefs ≤ m = omega (arith, one, e) in l),
      have_short vars m forms e (All-tail (λ form. length form.coefs ≡ vars) f forms h),
    )

module _ (n : Nest) (points : List Point) (follows : IsTrace n points) (r : Occurrence) (reads : IsReader n r)
    (x : List ℤ) (here : IsPointAt n r.number r.statement x) (t : ℕ)
    (at_t : slice_get points t ≡ Some (record { statement = r.number; at = x })) where
  abbrev HoldsAt : Context → List ℤ → Type 0
  HoldsAt c v = Holds n points follows r reads x here t at_t c v

  abbrev IsLast : Found → Type 0
  IsLast outcome = IsPointOf points (last_before n points t (cell_at x r.access)) outcome

  more_hold : (c : Context) (v : List ℤ) (rows : List RowExpr) → HoldsAt c v → AreWithin (length v) rows → AreMet rows v
      → HoldsAt (more_rows c rows) v
  more_hold c v rows h w m =
      record {
        vars = h.vars;
        more = h.more;
        starts = h.starts;
        within =
            within_append (length v) c.rows rows h.within w;
        met = AreMet-append c.rows rows v h.met m;
      }

  one_hold : (c : Context) (v : List ℤ) (q : ℤ) (rows : List RowExpr) → HoldsAt c v
      → AreWithin (length (v ++ q ∷ [])) rows → AreMet rows (v ++ q ∷ []) → HoldsAt (one_more c rows) (v ++ q ∷ [])
  one_hold c v q rows h w m =
      let long : length (v ++ q ∷ []) ≡ c.vars + 1 = omega (arith, length-append v (q ∷ []), h.vars) in
      let longer : length v ≤ length (v ++ q ∷ []) = omega (arith, length-append v (q ∷ [])) in
      record {
        vars = long;
        more = h.more ++ q ∷ [];
        starts = ap (λ v. v ++ q ∷ []) h.starts ∙ append_assoc x h.more (q ∷ []);
        within =
            within_append (length (v ++ q ∷ [])) c.rows rows
            (all_within_wider (length v) (length (v ++ q ∷ [])) longer c.rows h.within) w;
        met = AreMet-append c.rows rows (v ++ q ∷ []) (met_more c.rows v (q ∷ []) h.within h.met) m;
      }

  checked_is_last : (c : Context) (tree : Tree) → IsCheckedIn n r every c tree → (v : List ℤ) → HoldsAt c v
      → IsLast (gives tree v)
  checked_is_last _ _ (at_test c tree form above below is over first second) v h =
      let short : length form.coefs ≤ length v = omega (arith, over, h.vars) in
      subst IsLast (sym (gives-Test v tree form above below is))
      (go (int_le (pos 0) (form_at form v)) refl
      (λ met. checked_is_last (test_yes c form) above first v (more_hold c v (Take form ∷ []) h (short, tt) (met, tt)))
      (λ lt. checked_is_last (test_no c form) below second v
      (more_hold c v (below_zero (Take form) ∷ []) h ((short, omega arith), tt)
      ((let m : pos 0 ≤ℤ row_at (below_zero (Take form)) v = omega (arith, ints, lt) in m), tt)))) where
        go : (p : Bool) → int_le (pos 0) (form_at form v) ≡ p → (pos 0 ≤ℤ form_at form v → IsLast (gives above v))
            → (form_at form v <ℤ pos 0 → IsLast (gives below v))
            → IsLast (cond p (gives above v) (gives below v))
        go true e first second = first (int_le-true (pos 0) (form_at form v) e)
        go false e first second = second (int_le-false (pos 0) (form_at form v) e)
  checked_is_last _ _ (at_divides c tree form d above below is over two few first second) v h =
      let full : length form.coefs ≡ length v = over ∙ sym h.vars in
      let q : ℤ = quotient form d v in
      subst IsLast (sym (gives-Divides v tree form d above below is))
      (go (unsigned_abs (form_at form v) % unsigned_abs d == 0) refl
      (λ e. checked_is_last (divides_yes c form d) above first (v ++ q ∷ [])
      (one_hold c v q (divided_rows c.vars form d) h (divided_within form d c.vars v full (sym h.vars) two)
      (divided_met form d c.vars v full (sym h.vars) two e)))
      (λ e. checked_is_last (divides_no c form d) below second (v ++ q ∷ [])
      (one_hold c v q (undivided_rows c.vars form d) h (undivided_within form d c.vars v full (sym h.vars) two)
      (undivided_met form d c.vars v full (sym h.vars) two e)))) where
        go : (p : Bool) → (unsigned_abs (form_at form v) % unsigned_abs d == 0) ≡ p
            → (unsigned_abs (form_at form v) % unsigned_abs d ≡ 0 → IsLast (gives above (v ++ quotient form d v ∷ [])))
            → ((unsigned_abs (form_at form v) % unsigned_abs d ≡ 0 → ⊥)
            → IsLast (gives below (v ++ quotient form d v ∷ [])))
            → IsLast (cond p (gives above (v ++ quotient form d v ∷ [])) (gives below (v ++ quotient form d v ∷ [])))
        go true e first second = first (eqb-true (unsigned_abs (form_at form v) % unsigned_abs d) 0 e)
        go false e first second = second (eqb-false (unsigned_abs (form_at form v) % unsigned_abs d) 0 e)
  checked_is_last _ _ (at_writer c tree s place proofs w is named_is may deep have refuted) v h =
      subst IsLast (sym (gives-Writer v tree s place proofs is))
      (named_parts n r s w named_is
      (λ number found_is writes array.
      subst (λ s. (u : ℕ) × (last_before n points t (cell_at x r.access) ≡ Some u)
      × (slice_get points u ≡ Some (record { statement = s; at = values place v }))) number
      (writer_leaf n points follows r reads x here t at_t c v h w place found_is writes array deep
      (have_short c.vars (length v) place (sym h.vars) have)
      (refuted_are_empty (writer_systems n r every c w place) proofs refuted))))
  checked_is_last _ _ (at_zero c tree proofs is refuted) v h =
      subst IsLast (sym (gives-Zero v tree proofs is))
      (zero_leaf n points follows r reads x here t at_t c v h
      (refuted_are_empty (zero_systems n r every c) proofs refuted))
  checked_is_last _ _ (at_dead c tree proof is refuted) v h =
      absurd ((refuted_are_empty (dead_systems c) (proof ∷ []) refuted).0.none v h.vars h.met)

  -- the whole tree's context at the reader's point
  whole_holds : HoldsAt (root_context r) x
  whole_holds =
      record {
        vars = here.deep;
        more = [];
        starts = sym (append-nil x);
        within =
            taken_within (length x) r.statement.rows
            (subst (λ m. AreShort m r.statement.rows) (sym here.deep)
            (over_short (length r.statement.loops) r.statement.rows reads.rows_over));
        met = taken_met r.statement.rows x here.holds;
      }

  -- the cell that the entry reads
  cell_read_is : (k : ℕ) → slice_get r.statement.reads k ≡ Some r.access
      → cell_read n points t k ≡ Some (cell_at x r.access)
  cell_read_is k read =
      ap (option_and_then (λ p. slice_get (reads_of n p) k)) at_t
      ∙ ap (λ o. slice_get (option_map_or (λ (s : Statement). map (cell_at x) s.reads) o []) k) here.is
      ∙ map_values r.statement.reads k read where
        map_values : (accesses : List Access) (k : ℕ) → slice_get accesses k ≡ Some r.access
            → slice_get (map (cell_at x) accesses) k ≡ Some (cell_at x r.access)
        map_values [] k e = absurd (let f : None ≡ Some r.access = e in cc)
        map_values (a ∷ accesses) zero e = ap (λ a. Some (cell_at x a)) (same_Some a r.access e)
        map_values (a ∷ accesses) (suc k) e = map_values accesses k e

pub checked_is_exact : (n : Nest) (s k : ℕ) (tree : Tree) → EnumeratesDomains n (trace n) → IsChecked n s k tree
    → IsExact n s k tree
checked_is_exact n s k tree enumerated checked t x at_t =
    let r : Occurrence = checked.0 in
    let reads : IsReader n r = is_reader n s k r checked.1 in
    let follows : IsTrace n (trace n) = is_trace n (trace n) enumerated in
    read_parts n s k r checked.1
    (λ number is read.
    let at_r : slice_get (trace n) t ≡ Some (record { statement = r.number; at = x }) =
    at_t ∙ ap (λ s. Some (record { statement = s; at = x })) (sym number) in
    let e = follows.entry t (record { statement = r.number; at = x }) at_r in
    let same : e.0 ≡ r.statement = same_Some e.0 r.statement (sym e.1.is ∙ reads.is) in
    let here : IsPointAt n r.number r.statement x = subst (λ s. IsPointAt n r.number s x) same e.1 in
    subst (λ o. IsPointOf (trace n) o (gives tree x))
    (sym (ap (option_and_then (last_before n (trace n) t))
    (cell_read_is n (trace n) follows r reads x here t at_r k read)))
    (checked_is_last n (trace n) follows r reads x here t at_r (root_context r) tree checked.2 x
    (whole_holds n (trace n) follows r reads x here t at_r)))
