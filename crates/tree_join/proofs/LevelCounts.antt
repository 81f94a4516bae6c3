-- How many levels of order there are between two statements, and which.
--
-- There is one list of order rows for each common loop, and one more where the first statement comes first in the
-- text: each loop adds one list and puts its equal values before those of the loops behind it, so the count goes by
-- induction over the common loops. A level exists exactly where its number is less than that count. A statement has at
-- most six loops, so there are at most seven levels.
use Rattle.std.proofs.Common.{◌≡◌, ◌+◌, ◌≤◌, ◌<◌, ℕ, zero, suc, inl, inr, List, []}
use Rattle.std.proofs.Common.{◌∷◌, ◌++◌, length, Bool, true, false, cond, refl, ap}
use Rattle.std.proofs.Common.{arith, lt-ltb, ltb-true}
use Rattle.std.specs.Prelude.{Contains, nat_lt}
use Rattle.std.proofs.lemmas.Bool.{cases_order}
use Rattle.std.proofs.lemmas.List.{length-map}
use Rattle.affine_core.specs.declared.form.Form.{Form}
use Rattle.tree_order.specs.Candidates.{levels_before}
use Rattle.tree_order.specs.Reads.{pairs_of, IsJoined}
use Rattle.tree_graphs.specs.Joint.{ReadAndWrite}
use Rattle.tree_order.specs.declared.candidates.Read.{Read}
use Rattle.tree_graphs.specs.Level.{common_of, HasLevel}
use Rattle.tree_graphs.proofs.OrderEdges.{length_variables}
use Rattle.sanlp.proofs.Precedence.{common_first, common_second}
use Rattle.source_tree.specs.Places.{before_rows, order_rows}
use Rattle.source_tree.specs.Rows.{Take, equal_rows}
use Rattle.source_tree.specs.Systems.{Context, Occurrence, reader_place}
use Rattle.source_tree.specs.Systems.{writer_place}

pub order_count : (c : ℕ) (less : Bool) (a b : List Form) → c ≤ length a → c ≤ length b → length (order_rows c less a b)
    ≡ c + cond less 1 0
order_count zero true a b h k = refl
order_count zero false a b h k = refl
order_count (suc c) less [] b h k = absurd (omega (arith, h))
order_count (suc c) less (v ∷ a) [] h k = absurd (omega (arith, k))
order_count (suc c) less (v ∷ a) (w ∷ b) h k =
    omega (
      arith,
      length-map (order_rows c less a b) (λ rows. equal_rows (Take v) (Take w) ++ rows),
      order_count c less a b (omega (arith, h)) (omega (arith, k)),
    )

-- the levels of a writer before the read, as many as there are
pub level_rows_count : (r u : Occurrence) (c : Context) → length
    (before_rows u.number u.statement (writer_place c u) r.number r.statement (reader_place r)) ≡ levels_before u r
level_rows_count r u c =
    order_count (common_of u r) (nat_lt u.number r.number) (writer_place c u) (reader_place r)
    (omega (
      arith,
      length_variables c.vars (length u.statement.loops),
      common_first u.statement.loops r.statement.loops,
    ))
    (omega (arith, length_variables 0 (length r.statement.loops), common_second u.statement.loops r.statement.loops))

pub has_level : (r u : Occurrence) (p : ℕ) → p < levels_before u r → HasLevel r u p
has_level r u p lt = go (nat_lt u.number r.number) refl lt where
  go : (b : Bool) → nat_lt u.number r.number ≡ b → p < common_of u r + cond b 1 0 → HasLevel r u p
  go false e h = inl (omega (arith, h))
  go true e h = elim (cases_order p (common_of u r)) [
    | inl same ↦ inr (same, ltb-true u.number r.number e)
    | inr other ↦ elim other [ inl below ↦ inl below | inr above ↦ absurd (omega (arith, above, h)) ]
  ]

pub level_below : (r u : Occurrence) (p : ℕ) → HasLevel r u p → p < levels_before u r
level_below r u p has = elim has [
  | inl lt ↦ omega (arith, lt)
  | inr at ↦ (let less : nat_lt u.number r.number ≡ true = lt-ltb u.number r.number at.1
      in omega (arith, at.0, ap (λ b. common_of u r + cond b 1 0) less))
]

pub few_before : (w u : Occurrence) → length w.statement.loops ≤ 6 → levels_before w u ≤ 7
few_before w u few = go (nat_lt w.number u.number) refl where
  go : (b : Bool) → nat_lt w.number u.number ≡ b → common_of w u + cond b 1 0 ≤ 7
  go true e = omega (arith, common_first w.statement.loops u.statement.loops, few)
  go false e = omega (arith, common_first w.statement.loops u.statement.loops, few)

-- a level before the read
pub few_levels : (r : Read) (o : ReadAndWrite) (p : ℕ) → IsJoined r → Contains (pairs_of r) o
    → HasLevel o.read o.write p → p < 7
few_levels r o p h there has = omega (
  arith,
  level_below o.read o.write p has,
  few_before o.write o.read (h.problems o p there has).few_loops,
)
