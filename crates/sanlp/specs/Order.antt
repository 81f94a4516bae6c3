-- Iteration domains, and the order in which points are executed.
use Rattle.std.specs.Prelude.{◌≡◌, ◌<◌, ℕ, zero, suc, ℤ, ◌<ℤ◌, Bool, true, nat_lt, ◌==◌, List, [], ◌∷◌, length, Some, slice_get, IsTrue, ◌⊎◌, if◌then◌else◌}
use Rattle.std.specs.Option.{option_map_or}
use Rattle.sanlp.specs.declared.nest.Nest.{Nest}
use Rattle.sanlp.specs.declared.nest.Point.{Point}
use Rattle.sanlp.specs.declared.nest.Statement.{Statement}
use Rattle.sanlp.specs.Access.{statement_of}
use Rattle.sanlp.specs.Loops.{all_hold}

-- the loops round a point's statement, outermost first
abbrev pub loops_round_point : Nest → Point → List ℕ
loops_round_point n p = option_map_or (λ s. s.loops) (statement_of n p) []

-- how many loops stand round both of two statements
abbrev pub common_loops : List ℕ → List ℕ → ℕ
common_loops [] ls = 0
common_loops (k ∷ ks) [] = 0
common_loops (k ∷ ks) (l ∷ ls) = if k == l then suc (common_loops ks ls) else 0

-- One iteration vector precedes another: the values of the outermost c loops are compared lexicographically, and where they are
-- the same, `less` decides.
abbrev pub PrecedesWithin : ℕ → Bool → List ℤ → List ℤ → Type 0
PrecedesWithin zero less at bt = less ≡ true
PrecedesWithin (suc c) less [] bt = ⊥
PrecedesWithin (suc c) less (v ∷ at) [] = ⊥
PrecedesWithin (suc c) less (v ∷ at) (w ∷ bt) = (v <ℤ w) ⊎ ((v ≡ w) × PrecedesWithin c less at bt)

-- One point precedes another: by the values of the loops that both statements share, and then by the statements' numbers.
abbrev pub Precedes : Nest → Point → Point → Type 0
Precedes n p q =
    PrecedesWithin (common_loops (loops_round_point n p) (loops_round_point n q))
    (nat_lt p.statement q.statement) p.at q.at

-- a statement of the nest with as many values as it has loops
abbrev pub HasDepth : Nest → Point → Type 0
HasDepth n p = (p.statement < length n.statements) × (length p.at ≡ length (loops_round_point n p))

-- A point of the iteration domain of its statement: one value for each loop, and all rows hold.
pub record IsPoint (n : Nest) (p : Point) : Type 0 where
  pub statement : Statement
  pub found : slice_get n.statements p.statement ≡ Some statement
  pub deep : length p.at ≡ length statement.loops
  pub holds : IsTrue (all_hold statement.rows p.at)

-- The list has exactly the points of the statements' iteration domains, each once, in the order of execution.
pub record EnumeratesDomains (n : Nest) (points : List Point) : Type 0 where
  pub entry : (t : ℕ) (p : Point) → slice_get points t ≡ Some p → IsPoint n p
  pub point : (p : Point) → IsPoint n p → (t : ℕ) × (slice_get points t ≡ Some p)
  pub once : (t u : ℕ) (p : Point) → slice_get points t ≡ Some p → slice_get points u ≡ Some p
      → t ≡ u
  pub later : (t u : ℕ) (p q : Point) → slice_get points t ≡ Some p → slice_get points u ≡ Some q
      → t < u → Precedes n p q
  pub earlier : (t u : ℕ) (p q : Point) → slice_get points t ≡ Some p → slice_get points u ≡ Some q
      → Precedes n p q → t < u
