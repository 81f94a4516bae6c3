-- One step further, told of what the walk stands on.
--
-- A step hands on a path with the same read and candidates. What was seen is told by its sightings and its best, which
-- one more that is seen changes by equalities. The room of the context is the height, which each step lowers; below a
-- Test one row more takes one off it.
use Rattle.std.proofs.Common.{◌≡◌, ◌+◌, ◌*◌, ◌≤◌, ◌<◌, ◌^◌, ℕ, List, [], ◌∷◌, length, refl, sym, ap, ◌∙◌, subst, arith}
use Rattle.std.proofs.Common.{Bor}
use Rattle.std.specs.Prelude.{Option, Some, None, IfSome, slice_get}
use Rattle.std.specs.Option.{option_copied}
use Rattle.std.proofs.lemmas.Option.{same_Some}
use Rattle.affine_core.specs.declared.form.Form.{Form}
use Rattle.int_polyhedra.specs.declared.system.Proof.TheVariants.{Sum}
use Rattle.int_polyhedra.specs.declared.system.System.{System}
use Rattle.int_polyhedra.specs.declared.system.Term.{Term}
use Rattle.int_polyhedra.specs.Steps.{negation_of}
use Rattle.tree_order.specs.Comparisons.{facts_had, HasNextLoop, IsComparedSoFar, IsComparison, IsHad, TellsMore}
use Rattle.tree_order.specs.Orders.{AreEqual}
use Rattle.tree_order.specs.Positions.{IsAt, IsPointAt}
use Rattle.tree_order.specs.Reads.{pair_of}
use Rattle.tree_order.specs.Refutations.{RefutesWrites}
use Rattle.tree_order.specs.Seen.{best_in, sightings_of, Sighting, StandsBefore}
use Rattle.tree_order.specs.declared.candidates.Candidate.{Candidate}
use Rattle.tree_order.specs.declared.candidates.Read.{Read}
use Rattle.tree_order.specs.declared.compare.Compared.{Compared}
use Rattle.tree_order.specs.declared.compare.Comparison.{Comparison}
use Rattle.tree_order.specs.declared.compare.Comparison.TheVariants.{Earlier, Later, Open}
use Rattle.tree_order.specs.declared.compare.Pair.{Pair}
use Rattle.tree_order.specs.declared.order.Order.{Order}
use Rattle.tree_order.specs.declared.seen.Position.{Position}
use Rattle.tree_order.specs.declared.seen.Seen.{Seen}
use Rattle.tree_order.proofs.NextLoop.{few_had, negation_over, negation_within}
use Rattle.tree_join.specs.Joining.{ArePair, IsPath, IsPathOf}
use Rattle.tree_join.specs.Walking.{height, tests_left, way_of, IsNext, IsReady, IsStateOf, IsTestForm}
use Rattle.tree_join.specs.declared.path.Next.{Next}
use Rattle.tree_join.specs.declared.path.Next.TheVariants.{Choose}
use Rattle.tree_join.specs.declared.path.State.{State}
use Rattle.tree_join.specs.declared.path.Task.{Task}
use Rattle.tree_join.specs.declared.path.Walk.{Walk}
use Rattle.tree_join.proofs.PathSteps.{path_behind, path_less}
use Rattle.tree_graphs.specs.Asked.{write_of}
use Rattle.tree_graphs.specs.Facts.{with_form}
use Rattle.tree_sums.specs.Parts.{IsWithin}
use Rattle.tree_sums.proofs.Within.{IsWithin-weaker}

-- no best, told by a match
pub none_copied : (best : Option (Bor Position)) → ((b : Bor Position) → best ≡ Some b → ⊥) → option_copied best ≡ None
none_copied None h = refl
none_copied (Some b) h = absurd (h b refl)

-- nothing is compared yet
pub none_compared : (context : System) (pair : Pair) (c : Compared) → c.equal ≡ [] → c.upper ≡ None → c.lower ≡ None
    → IsComparedSoFar context pair c
none_compared context pair c none no_upper no_lower = record {
  few = omega (arith, ap length none);
  equal = subst (AreEqual context 65536 pair.new.now pair.best.now) (sym none) tt;
  upper = subst (IsHad context (length c.equal) pair.best.now pair.new.now) (sym no_upper) tt;
  lower = subst (IsHad context (length c.equal) pair.new.now pair.best.now) (sym no_lower) tt;
}

-- What a comparison still asks

pub none_left : (pair : Pair) (told : Comparison) → ((c : Compared) → told ≡ Open c → ⊥) → tests_left pair told ≡ 0
none_left pair (Earlier order) h = refl
none_left pair (Later order) h = refl
none_left pair (Open c) h = absurd (h c refl)

pub fewer_left : (pair : Pair) (c : Compared) (more : Comparison) → length c.equal < pair.common
    → facts_had c ≤ 2 * length c.equal + 1 → TellsMore (facts_had c) more
    → tests_left pair more < tests_left pair (Open c)
fewer_left pair c (Earlier order) next half h = omega (arith, next, half)
fewer_left pair c (Later order) next half h = omega (arith, next, half)
fewer_left pair c (Open d) next half h = omega (arith, next, half, h)

pub no_more_left : (pair : Pair) (c d : Compared) → facts_had c ≤ facts_had d
    → tests_left pair (Open d) ≤ tests_left pair (Open c)
no_more_left pair c d h = omega (arith, h)

-- an open comparison has at most both halves of each loop
pub some_left : (pair : Pair) (c : Compared) → length c.equal ≤ pair.common → 0 < tests_left pair (Open c)
some_left pair c few = omega (arith, few, few_had c.upper, few_had c.lower)

-- Going on

module _ (r : Read) (cs : List Candidate) (context : System) where
  -- a candidate is chosen next, where so much was seen
  pub ready_choose : (all : List Seen) (best : Option Position) (sightings : List Sighting) (left : List ℕ) (room : ℕ)
      → best_in all ≡ best → sightings_of all ≡ sightings → 70000 * length left ≤ room
      → IsPathOf r cs context best sightings left room None
      → IsReady r cs context all left Choose
  ready_choose all best sightings left room best_is seen_is le path = (
    subst (λ best. IsPathOf r cs context best (sightings_of all) left (70000 * length left) None) (sym best_is)
        (subst (λ seen. IsPathOf r cs context best seen left (70000 * length left) None) (sym seen_is)
        (path_less r cs context best sightings left room (70000 * length left) None le path)),
    tt,
  )

  -- one row more
  pub ready_side : (seen : List Seen) (left : List ℕ) (next side : Next) (row : Form)
      → IsPathOf r cs context (best_in seen) (sightings_of seen) left (height (length left) next) (way_of next)
      → height (length left) side < height (length left) next → way_of side ≡ way_of next
      → length row.coefs ≡ context.vars → IsWithin (2 ^ 50) row
      → IsNext r (with_form context row) (best_in seen) side → IsReady r cs (with_form context row) seen left side
  ready_side seen left next side row path lower way over within is = (
    subst (λ way. IsPathOf r cs (with_form context row) (best_in seen) (sightings_of seen) left
        (height (length left) side) way) (sym way)
        (path_behind r cs context (best_in seen) (sightings_of seen) left (height (length left) side) (way_of next) row
        over within
        (path_less r cs context (best_in seen) (sightings_of seen) left (height (length left) next)
        (height (length left) side + 1) (way_of next) (omega (arith, lower)) path)),
    is,
  )

-- the rows of both sides of a Test
pub above_within : (context : System) (form : Form) → IsTestForm context form → IsWithin (2 ^ 50) form
above_within context form h = IsWithin-weaker (2 ^ 49 + 1) (2 ^ 50) form (omega arith) h.within

pub below_over : (context : System) (form other : Form) → IsTestForm context form → negation_of form ≡ Some other
    → length other.coefs ≡ context.vars
below_over context form other h negated =
    negation_over form other (IsWithin-weaker (2 ^ 49 + 1) (2 ^ 60) form (omega arith) h.within) negated ∙ h.over

pub below_within : (context : System) (form other : Form) → IsTestForm context form → negation_of form ≡ Some other
    → IsWithin (2 ^ 50) other
below_within context form other h negated =
    IsWithin-weaker (2 ^ 49 + 1 + 1) (2 ^ 50) other (omega arith)
    (negation_within (2 ^ 49 + 1) form other (omega arith) h.within negated)

-- the points of a pair, in their order
pub new_before : (context : System) (b at : Position) (pair : Pair) (order : Order) → ArePair context b at pair
    → IsComparison context (write_of b.candidate.now.writes) (write_of at.candidate.now.writes) pair (Earlier order)
    → StandsBefore context 65536 at b order
new_before context b at pair order points stands = record {
  z = pair.new.now;
  y = pair.best.now;
  first_at = points.new_is;
  second_at = points.best_is;
  stands = stands;
}

pub best_before : (context : System) (b at : Position) (pair : Pair) (order : Order) → ArePair context b at pair
    → IsComparison context (write_of b.candidate.now.writes) (write_of at.candidate.now.writes) pair (Later order)
    → StandsBefore context 65536 b at order
best_before context b at pair order points stands = record {
  z = pair.best.now;
  y = pair.new.now;
  first_at = points.best_is;
  second_at = points.new_is;
  stands = stands;
}

-- terms that refute a candidate's writes refute those of the candidate at the same number
pub absent_refutes : (candidates : List Candidate) (context : System) (number : ℕ) (c d : Candidate) (ts : List Term)
    → slice_get candidates number ≡ Some c → slice_get candidates number ≡ Some d
    → RefutesWrites (pair_of c.writes) context c.writes.level (Sum ts)
    → RefutesWrites (pair_of d.writes) context d.writes.level (Sum ts)
absent_refutes candidates context number c d ts first second h =
    subst (λ (c : Candidate). RefutesWrites (pair_of c.writes) context c.writes.level (Sum ts))
    (same_Some c d (sym first ∙ second)) h

-- the path of a walk, as it is read
pub state_path : (task : Task) (walk : Walk) (state : State) (room : ℕ) (way : Option Candidate)
    → IsStateOf task walk state
    → IsPathOf task.read.now task.candidates.now walk.context (best_in walk.seen) (sightings_of walk.seen) walk.left room way
    → IsPath state room way
state_path task walk s room way h path =
    subst (λ r. IsPathOf r s.candidates.now s.context.now (option_copied s.best) (sightings_of s.seen.now) s.left.now room
    way) (sym h.read)
    (subst (λ cs. IsPathOf task.read.now cs s.context.now (option_copied s.best) (sightings_of s.seen.now) s.left.now room
    way) (sym h.candidates)
    (subst (λ context. IsPathOf task.read.now task.candidates.now context (option_copied s.best) (sightings_of s.seen.now)
    s.left.now room way) (sym h.context)
    (subst (λ best. IsPathOf task.read.now task.candidates.now walk.context best (sightings_of s.seen.now) s.left.now room
    way) (sym h.best)
    (subst (λ seen. IsPathOf task.read.now task.candidates.now walk.context (best_in walk.seen) (sightings_of seen)
    s.left.now room way) (sym h.seen)
    (subst (λ left. IsPathOf task.read.now task.candidates.now walk.context (best_in walk.seen) (sightings_of walk.seen) left
    room way) (sym h.left) path)))))
