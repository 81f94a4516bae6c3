-- The path on which candidates are joined.
use Rattle.std.specs.Prelude.{◌≡◌, ◌≤◌, ◌<◌, ◌^◌, ◌+◌, ℕ, List, [], ◌++◌, length, All, Option, Some, None, MatchOption, slice_get, IfSome, IsTrue, ◌⊎◌}
use Rattle.std.specs.Option.{option_copied, option_map_or}
use Rattle.affine_core.specs.declared.form.Form.{Form}
use Rattle.int_polyhedra.specs.declared.system.Proof.TheVariants.{Sum}
use Rattle.int_polyhedra.specs.declared.system.System.{System}
use Rattle.tree_order.specs.Candidates.{is_candidate_of, AreCandidates}
use Rattle.tree_order.specs.Comparisons.{ArePoints, IsComparison}
use Rattle.tree_order.specs.Contexts.{IsPathContext}
use Rattle.tree_order.specs.Reads.{pair_of, IsJoined}
use Rattle.tree_join.specs.Leaves.{is_excluded, AreExcluded}
use Rattle.tree_order.specs.Refutations.{RefutesWrites}
use Rattle.tree_order.specs.Positions.{IsAt, IsPointAt}
use Rattle.tree_order.specs.Seen.{is_seen, sightings_of, AreSeen, Sighting}
use Rattle.tree_order.specs.declared.candidates.Candidate.{Candidate}
use Rattle.tree_order.specs.declared.candidates.Read.{Read}
use Rattle.tree_order.specs.declared.compare.Comparison.{Comparison}
use Rattle.tree_order.specs.declared.compare.Pair.{Pair}
use Rattle.tree_join.specs.declared.path.Choice.{Choice}
use Rattle.tree_join.specs.declared.path.Choice.TheVariants.{End, Absent, Take}
use Rattle.tree_join.specs.declared.path.State.{State}
use Rattle.tree_join.specs.declared.leaf.Excluded.{Excluded}
use Rattle.tree_order.specs.declared.seen.Position.{Position}
use Rattle.tree_graphs.specs.Asked.{write_of}
use Rattle.tree_sums.specs.Parts.{weight}

-- the best is a position with a point
abbrev pub IsBest : Read → System → Position → Type 0
IsBest r context best = IsAt r context best × ((place : List Form) × IsPointAt best place)

-- the number stands among these
abbrev pub IsLeft : ℕ → List ℕ → Type 0
IsLeft i left = (k : ℕ) × (slice_get left k ≡ Some i)

-- the candidate is left, or was seen, or is the best
abbrev pub IsAccountedFor : List Sighting → List ℕ → Option Position → ℕ → Candidate → Type 0
IsAccountedFor sightings left best i c =
    IsLeft i left ⊎ (IsTrue (is_seen c.writes.write.number c.writes.level sightings)
    ⊎ ((at : Position) × (best ≡ Some at)
    × IsTrue (is_candidate_of c.writes.write.number c.writes.level at.candidate.now)))

-- What a path tells: a context with room for so many more rows, which begins with those of the read's
-- context; positions in it whose orders lead to the best; and each candidate that is neither
-- left nor seen is the best, or on its way.
pub record IsPathOf (r : Read) (candidates : List Candidate) (context : System)
    (best : Option Position) (sightings : List Sighting) (left : List ℕ) (room : ℕ)
    (on_its_way : Option Candidate) : Type 0 where
  pub read : IsJoined r
  pub candidates_are : AreCandidates r candidates
  pub context_is : IsPathContext r.context.now.vars room context
  pub starts : (more : List Form) × (context.rows ≡ r.context.now.rows ++ more)
  pub best_is : IfSome best (IsBest r context)
  pub seen : AreSeen r context best sightings
  pub left_are : All (λ i. i < length candidates) left
  pub few : length sightings + (length left + option_map_or (λ c. 1) on_its_way 0) ≤ 896
  pub every : (i : ℕ) (c : Candidate) → slice_get candidates i ≡ Some c
      → IsAccountedFor sightings left best i c ⊎ (on_its_way ≡ Some c)

abbrev pub IsPath : State → ℕ → Option Candidate → Type 0
IsPath state room on_its_way =
    IsPathOf state.read.now state.candidates.now state.context.now (option_copied state.best)
    (sightings_of state.seen.now) state.left.now room on_its_way

-- each candidate of these numbers is excluded
abbrev pub AllAreExcluded : State → Position → List ℕ → List Excluded → Type 0
AllAreExcluded state best left excluded =
    ((place : List Form) → IsPointAt best place
    → AreExcluded state.context.now state.read.now (write_of best.candidate.now.writes) place
    excluded)
    × All (λ i. (c : Candidate) → slice_get state.candidates.now i ≡ Some c
    → IsTrue (is_excluded c.writes.write.number c.writes.level excluded)) left

-- two points of positions
pub record ArePair (context : System) (best new : Position) (pair : Pair) : Type 0 where
  pub points : ArePoints context.vars (write_of best.candidate.now.writes)
      (write_of new.candidate.now.writes) pair
  pub best_is : IsPointAt best pair.best.now
  pub new_is : IsPointAt new pair.new.now

-- how a position stands to the best of a path
abbrev pub IsStanding : Option Position → System → Position → Pair → Comparison → Type 0
IsStanding best context at pair comparison =
    (b : Position) × (best ≡ Some b) × ArePair context b at pair
    × IsComparison context (write_of b.candidate.now.writes) (write_of at.candidate.now.writes) pair
    comparison

-- no candidate is left but those that are excluded; without a best none is left
abbrev pub IsEnd : State → List Excluded → Type 0
IsEnd state excluded =
    MatchOption (option_copied state.best) (state.left.now ≡ [])
    (λ best. AllAreExcluded state best state.left.now excluded)

-- these are yet to be asked, and the others are excluded
abbrev pub IsChoiceSoFar : State → List ℕ → List Excluded → Type 0
IsChoiceSoFar state rest excluded =
    (done : List ℕ) × (done ++ rest ≡ state.left.now)
    × MatchOption (option_copied state.best) (done ≡ [])
    (λ best. AllAreExcluded state best done excluded)

-- a candidate that is left
abbrev pub IsTaken : State → ℕ → Candidate → Type 0
IsTaken state i c = (slice_get state.candidates.now i ≡ Some c) × IsLeft i state.left.now

-- what is done with the candidates that are left
abbrev pub IsChoice : State → Choice → Type 0
IsChoice state (End excluded) = IsEnd state excluded
IsChoice state (Absent i ts) =
    (c : Candidate) × IsTaken state i c × (option_copied state.best ≡ None)
    × RefutesWrites (pair_of c.writes) state.context.now c.writes.level (Sum ts)
    × (weight ts ≤ 2 ^ 48)
IsChoice state (Take i) = (c : Candidate) × IsTaken state i c
