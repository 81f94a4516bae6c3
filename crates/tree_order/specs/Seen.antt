-- What became of candidates on a path.
use Rattle.std.specs.Prelude.{◌≡◌, ℕ, Bool, List, [], ◌∷◌, reverse, Option, Some, None, IsTrue}
use Rattle.std.specs.List.{list_any}
use Rattle.affine_core.specs.declared.form.Form.{Form}
use Rattle.int_polyhedra.specs.declared.system.System.{System}
use Rattle.tree_order.specs.Candidates.{is_candidate_of}
use Rattle.tree_order.specs.Orders.{IsOrder}
use Rattle.tree_order.specs.Positions.{IsAt, IsEmptyAt, IsPointAt}
use Rattle.tree_order.specs.declared.candidates.Read.{Read}
use Rattle.tree_order.specs.declared.order.Order.{Order}
use Rattle.tree_order.specs.declared.seen.Outcome.{Outcome}
use Rattle.tree_order.specs.declared.seen.Outcome.TheVariants as outcome
use Rattle.tree_order.specs.declared.seen.Position.{Position}
use Rattle.tree_order.specs.declared.seen.Absence.{Absence}
use Rattle.tree_order.specs.declared.seen.Seen.{Seen}
use Rattle.tree_order.specs.declared.seen.Seen.TheVariants as seen
use Rattle.int_polyhedra.specs.declared.system.Proof.TheVariants.{Sum}
use Rattle.source_tree.specs.declared.tree.Tree.TheVariants.{Zero}
use Rattle.tree_graphs.specs.Asked.{write_of}

-- a candidate that was followed to a leaf: it has no point, its point stands before the best, or it was the
-- best
pub data Sighting : Type 0 where
  without : Position → Sighting
  before : Position → Order → Sighting
  passed : Position → Order → Sighting

-- a candidate without a point, as a position at a Zero leaf
abbrev pub absent_at : Absence → Position
absent_at a = record {
  candidate = a.candidate;
  node = record { ref_ptr = (0, 0); now = Zero (Sum a.terms ∷ []) };
  rows = a.rows;
}

-- the best of what was seen, the last one first
abbrev pub best_from : List Seen → Option Position
best_from [] = None
best_from (seen.Without absence ∷ rest) = best_from rest
best_from (seen.First at ∷ rest) = Some at
best_from (seen.Before at order ∷ rest) = best_from rest
best_from (seen.After at order ∷ rest) = Some at

-- one that was the best, if there was one, is a sighting from here on
abbrev pub with_passed : Option Position → Order → List Sighting → List Sighting
with_passed None order sightings = sightings
with_passed (Some best) order sightings = passed best order ∷ sightings

-- the sightings of all but the best, the last one first
abbrev pub sightings_from : List Seen → List Sighting
sightings_from [] = []
sightings_from (seen.Without absence ∷ rest) = without (absent_at absence) ∷ sightings_from rest
sightings_from (seen.First at ∷ rest) = sightings_from rest
sightings_from (seen.Before at order ∷ rest) = before at order ∷ sightings_from rest
sightings_from (seen.After at order ∷ rest) =
    with_passed (best_from rest) order (sightings_from rest)

-- the position whose point is the best of those that were seen, the last one at the end
abbrev pub best_in : List Seen → Option Position
best_in all = best_from (reverse all)

-- what became of all candidates that were seen but the best, the last one at the end
abbrev pub sightings_of : List Seen → List Sighting
sightings_of all = sightings_from (reverse all)

-- the point of one position stands before that of another
pub record StandsBefore (context : System) (most : ℕ) (first second : Position) (order : Order)
    : Type 0 where
  pub z : List Form
  pub y : List Form
  pub first_at : IsPointAt first z
  pub second_at : IsPointAt second y
  pub stands : IsOrder context most (write_of first.candidate.now.writes)
      (write_of second.candidate.now.writes) z y order

-- Each is a position in the context. An order leads to the best, and behind one that was the best, to it.
abbrev pub AreSeen : Read → System → Option Position → List Sighting → Type 0
AreSeen r context best [] = Unit {0}
AreSeen r context best (without at ∷ rest) =
    (IsAt r context at × IsEmptyAt at) × AreSeen r context best rest
AreSeen r context None (before at order ∷ rest) = ⊥
AreSeen r context (Some best) (before at order ∷ rest) =
    (IsAt r context at × StandsBefore context 65536 at best order)
    × AreSeen r context (Some best) rest
AreSeen r context None (passed at order ∷ rest) = ⊥
AreSeen r context (Some best) (passed at order ∷ rest) =
    (IsAt r context at × StandsBefore context 65536 at best order)
    × AreSeen r context (Some at) rest

abbrev pub position_of : Sighting → Position
position_of (without at) = at
position_of (before at order) = at
position_of (passed at order) = at

-- whether the candidate of this writer and level was seen
abbrev pub is_seen : ℕ → ℕ → List Sighting → Bool
is_seen u p sightings =
    list_any (λ s. is_candidate_of u p (position_of s).candidate.now) sightings

-- what became of the candidate of this writer and level
abbrev pub IsOutcome : Read → System → ℕ → Option Position → ℕ → ℕ → Outcome → Type 0
IsOutcome r context most best u p (outcome.Without absence) =
    IsTrue (is_candidate_of u p absence.now.candidate.now)
    × (IsAt r context (absent_at absence.now) × IsEmptyAt (absent_at absence.now))
IsOutcome r context most None u p (outcome.Before at order) = ⊥
IsOutcome r context most (Some best) u p (outcome.Before at order) =
    IsTrue (is_candidate_of u p at.now.candidate.now)
    × (IsAt r context at.now × StandsBefore context most at.now best order)

-- from the end of what orders lead to, a further order, if there is one, leads to the best
abbrev pub LeadsOn : System → ℕ → Option Position → Option Position → Option Order → Type 0
LeadsOn context most tip best None = tip ≡ best
LeadsOn context most None best (Some order) = ⊥
LeadsOn context most (Some tip) None (Some order) = ⊥
LeadsOn context most (Some tip) (Some best) (Some order) = StandsBefore context most tip best order
