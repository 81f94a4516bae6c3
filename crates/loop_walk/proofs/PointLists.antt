-- Adding the points of a list one after another gives each statement its points.
use Rattle.std.proofs.Common.{◌≡◌, ◌<◌, ◌+◌, ℕ, zero, suc, ℤ, List, [], ◌∷◌, ◌++◌, map, set, get_or, length, cond, refl}
use Rattle.std.proofs.Common.{sym, ap, ◌∙◌, arith, append_assoc}
use Rattle.std.specs.Prelude.{Some, nat_lt, replicate, slice_get, IsTrue}
use Rattle.std.specs.List.{fold, list_all, range_with_len}
use Rattle.std.proofs.lemmas.Bool.{and_from, eq-eqb, lt-ltb, ne_eqb}
use Rattle.std.proofs.lemmas.List.{append-nil}
use Rattle.std.proofs.lemmas.Option.{slice_get_within}
use Rattle.sanlp.specs.declared.nest.Nest.{Nest}
use Rattle.sanlp.specs.declared.nest.Point.{Point}
use Rattle.sanlp.specs.Points.{points_of, vectors_of}
use Rattle.sanlp.specs.Trace.{trace}
use Rattle.sanlp.proofs.Enumerates.{enumerates_domains}
use Rattle.loop_walk.specs.PointLists.{with_point}

-- each list with the points of its statement; the first statement has number k
abbrev added : ℕ → List (List (List ℤ)) → List Point → List (List (List ℤ))
added k [] points = []
added k (list ∷ lists) points = (list ++ vectors_of points k) ∷ added (k + 1) lists points

added_none : (k : ℕ) (lists : List (List (List ℤ))) → added k lists [] ≡ lists
added_none k [] = refl
added_none k (list ∷ lists) =
    ap (λ l. l ∷ added (k + 1) lists []) (append-nil list) ∙ ap (λ ls. list ∷ ls) (added_none (k + 1) lists)

other : (p : Point) (points : List Point) (k : ℕ) → (p.statement ≡ k → ⊥)
    → vectors_of (p ∷ points) k ≡ vectors_of points k
other p points k ne = ap (λ b. cond b (p.at ∷ vectors_of points k) (vectors_of points k)) (ne_eqb p.statement k ne)

same : (p : Point) (points : List Point) (k : ℕ) → p.statement ≡ k
    → vectors_of (p ∷ points) k ≡ p.at ∷ vectors_of points k
same p points k e = ap (λ b. cond b (p.at ∷ vectors_of points k) (vectors_of points k)) (eq-eqb p.statement k e)

-- a point of an earlier statement changes nothing
earlier : (p : Point) (points : List Point) (k : ℕ) (lists : List (List (List ℤ))) → p.statement < k
    → added k lists points ≡ added k lists (p ∷ points)
earlier p points k [] lt = refl
earlier p points k (list ∷ lists) lt =
    ap (λ vs. (list ++ vs) ∷ added (k + 1) lists points) (sym (other p points k (λ e. omega arith)))
    ∙ ap (λ ls. (list ++ vectors_of (p ∷ points) k) ∷ ls) (earlier p points (k + 1) lists (omega arith))

one_added : (p : Point) (points : List Point) (k i : ℕ) (lists : List (List (List ℤ))) → p.statement ≡ k + i
    → added k (set lists i (get_or lists i [] ++ p.at ∷ [])) points ≡ added k lists (p ∷ points)
one_added p points k i [] e = refl
one_added p points k zero (list ∷ lists) e =
    ap (λ l. l ∷ added (k + 1) lists points)
    (append_assoc list (p.at ∷ []) (vectors_of points k)
    ∙ ap (λ vs. list ++ vs) (sym (same p points k (omega arith))))
    ∙ ap (λ ls. (list ++ vectors_of (p ∷ points) k) ∷ ls) (earlier p points (k + 1) lists (omega arith))
one_added p points k (suc i) (list ∷ lists) e =
    ap (λ vs. (list ++ vs) ∷ added (k + 1) (set lists i (get_or lists i [] ++ p.at ∷ [])) points)
    (sym (other p points k (λ f. omega arith)))
    ∙ ap (λ ls. (list ++ vectors_of (p ∷ points) k) ∷ ls) (one_added p points (k + 1) i lists (omega arith))

all_added : (points : List Point) (lists : List (List (List ℤ))) → fold with_point lists points ≡ added 0 lists points
all_added [] lists = sym (added_none 0 lists)
all_added (p ∷ points) lists =
    all_added points (with_point lists p) ∙ one_added p points 0 p.statement lists (omega arith)

from_empty : (points : List Point) (k n : ℕ)
    → added k (replicate n []) points ≡ map (vectors_of points) (range_with_len k n)
from_empty points k zero = refl
from_empty points k (suc n) = ap (λ ls. vectors_of points k ∷ ls) (from_empty points (k + 1) n)

pub points_added : (n : Nest) → fold with_point (replicate (length n.statements) []) (trace n) ≡ points_of n
unfolding points_of
points_added n = all_added (trace n) (replicate (length n.statements) []) ∙ from_empty (trace n) 0 (length n.statements)

-- the statements of these points exist
abbrev pub all_exist : Nest → List Point → Type 0
all_exist n points = IsTrue (list_all (λ p. nat_lt p.statement (length n.statements)) points)

pub trace_exists : (n : Nest) → all_exist n (trace n)
trace_exists n =
    from_entries (trace n)
    (λ t p e. let is =
    (enumerates_domains n).entry t p e in slice_get_within n.statements p.statement is.statement is.found) where
      from_entries : (points : List Point)
          → ((t : ℕ) (p : Point) → slice_get points t ≡ Some p → p.statement < length n.statements) → all_exist n points
      from_entries [] h = refl
      from_entries (p ∷ points) h =
          and_from _ _ (lt-ltb p.statement (length n.statements) (h 0 p refl)) (from_entries points (λ t. h (suc t)))
