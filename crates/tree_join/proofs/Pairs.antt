-- The pairs of a read.
--
-- Each problem is one pair, and pairs of one writer are the same. So a candidate that has a pair's writer has the pair
-- itself, and what is known of the pair holds of the candidate's writes.
use Rattle.std.proofs.Common.{◌≡◌, ◌==◌, ℕ, List, length, map, ap, ◌∙◌, arith, eqb-true}
use Rattle.std.specs.Prelude.{Contains, IsTrue}
use Rattle.std.proofs.lemmas.List.{get_or-map, length-map}
use Rattle.std.proofs.lemmas.Bool.{and_parts}
use Rattle.tree_order.specs.Candidates.{is_candidate_of, IsCandidate}
use Rattle.tree_order.specs.Reads.{pair_in, pair_of, pairs_of}
use Rattle.tree_graphs.specs.Joint.{ReadAndWrite}
use Rattle.tree_order.specs.declared.candidates.Candidate.{Candidate}
use Rattle.tree_graphs.specs.declared.writes.Problem.{Problem}
use Rattle.tree_order.specs.declared.candidates.Read.{Read}

contains_map : {X Y : Type 0} (f : X → Y) (xs : List X) (x : X) → Contains xs x → Contains (map f xs) (f x)
contains_map f xs x h =
    let long : length (map f xs) ≡ length xs = length-map xs f in
    (h.0, omega (arith, long, h.1), get_or-map f xs h.0 x (f x) h.1 ∙ ap f h.2)

-- the pair of a problem
pub pair_is : (r : Read) (p : Problem) → Contains r.problems.now p → Contains (pairs_of r) (pair_in r p)
pair_is r p h = contains_map (pair_in r) r.problems.now p h

-- the writer and the level of a candidate
pub candidate_writer : (u p : ℕ) (c : Candidate) → IsTrue (is_candidate_of u p c) → c.writes.write.number ≡ u
candidate_writer u p c is = eqb-true c.writes.write.number u
    (and_parts (c.writes.write.number == u) (c.writes.level == p) is).0

pub candidate_level : (u p : ℕ) (c : Candidate) → IsTrue (is_candidate_of u p c) → c.writes.level ≡ p
candidate_level u p c is =
    eqb-true c.writes.level p (and_parts (c.writes.write.number == u) (c.writes.level == p) is).1

-- a candidate of a pair's writer has this pair
pub same_pair : (r : Read) (o : ReadAndWrite) (p : ℕ) (c : Candidate) → IsCandidate r c → Contains (pairs_of r) o
    → IsTrue (is_candidate_of o.write.number p c) → pair_of c.writes ≡ o
same_pair r o p c h there is =
    h.joined.one (pair_of c.writes) o h.pair there (candidate_writer o.write.number p c is)
