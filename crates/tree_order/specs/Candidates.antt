-- The candidates of a read: for each write of its array and each level of order before it, the writes at that level.
use Rattle.std.specs.Prelude.{◌≡◌, ℕ, ◌+◌, ◌≤◌, Bool, ◌&&◌, ◌==◌, nat_lt, List, length, All, Some, Contains, slice_get, IsTrue, if◌then◌else◌}
use Rattle.tree_graphs.specs.Cycles.{IsCycle}
use Rattle.tree_graphs.specs.Asked.{depth_of_write, read_of, write_of}
use Rattle.tree_graphs.specs.Closed.{IsClosure}
use Rattle.tree_graphs.specs.Level.{common_of, HasLevel}
use Rattle.tree_graphs.specs.Rounds.{IsGraphOf}
use Rattle.tree_graphs.specs.Simple.{IsSimple}
use Rattle.tree_graphs.specs.Joint.{IsCheckedFor}
use Rattle.tree_graphs.specs.Contexts.{IsMadeAs}
use Rattle.tree_order.specs.Reads.{pair_of, pairs_of, pairs_with, IsJoined}
use Rattle.tree_graphs.specs.Joint.{ReadAndWrite}
use Rattle.tree_order.specs.declared.candidates.Candidate.{Candidate}
use Rattle.tree_graphs.specs.declared.writes.Problem.{Problem}
use Rattle.tree_order.specs.declared.candidates.Read.{Read}
use Rattle.source_tree.specs.Systems.{Context, Occurrence}

-- the candidate is one of these
abbrev pub IsAmong : Candidate → List Candidate → Type 0
IsAmong c candidates = (i : ℕ) × (slice_get candidates i ≡ Some c)

-- at how many levels of order the first stands before the second
abbrev pub levels_before : Occurrence → Occurrence → ℕ
levels_before u w = common_of u w + (if nat_lt u.number w.number then 1 else 0)

-- whether these are the writes of this statement at this level
abbrev pub is_candidate_of : ℕ → ℕ → Candidate → Bool
is_candidate_of u p c = (c.writes.write.number == u) && (c.writes.level == p)

-- The writes of a statement at a level before a read, with their tree in the read's context, the graph of their
-- rows and its cycles. Where a sum of the graph is negative, no cycle through 0 is kept.
pub record IsCandidate (r : Read) (c : Candidate) : Type 0 where
  pub joined : IsJoined r
  pub pair : Contains (pairs_of r) (pair_of c.writes)
  pub vars : c.writes.vars ≡ r.context.now.vars
  pub checked : (own : Context) → IsMadeAs r.context.now own
      → IsCheckedFor (read_of c.writes) (write_of c.writes) c.writes.level own c.tree
  pub simple : IsSimple 65536 c.tree
  pub graph : IsGraphOf c.writes c.edges
  pub closure : IsClosure c.edges (depth_of_write c.writes) c.closure
  pub cycles : All (IsCycle c.writes.vars c.edges) c.cycles

-- the level is one before the read: that of a common loop, or the one behind them
pub record IsOfLevel (o : ReadAndWrite) (level : ℕ) (within : Bool) : Type 0 where
  pub has : HasLevel o.read o.write level
  pub within_is : nat_lt level (common_of o.write o.read) ≡ within

-- a candidate of this writer and level is there
abbrev pub HasCandidate : ℕ → ℕ → List Candidate → Type 0
HasCandidate u p candidates =
    (c : Candidate) × IsAmong c candidates × IsTrue (is_candidate_of u p c)

-- the candidates of one level were added, those of these problems, and nothing that is no candidate
pub record AddsLevel (r : Read) (problems : List Problem) (level : ℕ) (within : Bool)
    (old new : List Candidate) : Type 0 where
  pub each : All (IsCandidate r) old → All (IsCandidate r) new
  pub kept : (u p : ℕ) → HasCandidate u p old → HasCandidate u p new
  pub more : All (λ o. IsOfLevel o level within → HasCandidate o.write.number level new)
      (pairs_with r problems)
  pub few : length new ≤ length old + length problems

-- candidates of a read, one for each write and level
pub record AreCandidates (r : Read) (candidates : List Candidate) : Type 0 where
  pub each : All (IsCandidate r) candidates
  pub every : (o : ReadAndWrite) (p : ℕ) → Contains (pairs_of r) o → HasLevel o.read o.write p
      → HasCandidate o.write.number p candidates
  pub few : length candidates ≤ 896
