-- Where the reads of a nest have their values from (Feautrier 1991).
use Rattle.std.specs.Prelude.{◌≡◌, ◌<◌, ℕ, List, length, map, All}
use Rattle.std.specs.List.{flat_map, range_with_len}
use Rattle.sanlp.specs.Access.{read_count}
use Rattle.sanlp.specs.declared.nest.Nest.{Nest}
use Rattle.source_tree.specs.Checked.{IsChecked}
use Rattle.source_tree.specs.Exact.{IsExact}
use Rattle.source_tree.specs.declared.cert.Origin.{Origin}
use Rattle.source_tree.specs.declared.cert.Origin.TheVariants.{Sweep, Tree}
use Rattle.deps_text.specs.declared.dependence.Dependence.{Dependence}
use Rattle.tree_cuts.specs.Class.{IsInStrideClass}

-- the reads that have a tree: those of the stride class
abbrev pub HasTree : Nest → ℕ → ℕ → Type 0
HasTree = IsInStrideClass

-- every read has a tree
abbrev pub AllHaveTrees : Nest → Type 0
AllHaveTrees n = (s k : ℕ) → k < read_count n s → HasTree n s k

-- statement s with each of its reads, in order
abbrev pub reads_at : Nest → ℕ → List (ℕ × ℕ)
reads_at n s = map (λ k. (s, k)) (range_with_len 0 (read_count n s))

-- each statement with each of its reads, in order
abbrev pub all_reads : Nest → List (ℕ × ℕ)
all_reads n = flat_map (reads_at n) (range_with_len 0 (length n.statements))

-- read k of statement s has its values from here: from the points that a tree gives, which is checked and exact,
-- where it has a tree, and else from the last writers
abbrev pub IsOriginOf : Nest → ℕ → ℕ → Origin → Type 0
IsOriginOf n s k (Tree tree) = HasTree n s k × IsChecked n s k tree × IsExact n s k tree
IsOriginOf n s k Sweep = HasTree n s k → ⊥

-- the read that a dependence is of
abbrev pub read_of : Dependence → ℕ × ℕ
read_of d = (d.statement, d.read)

-- and this is where it has its values from
abbrev pub HasOrigin : Nest → Dependence → Type 0
HasOrigin n d = IsOriginOf n d.statement d.read d.origin

-- These are the dependences of a nest: one for each read, in order, with where it has its values from.
pub record AreDependences (n : Nest) (dependences : List Dependence) : Type 0 where
  pub reads : map read_of dependences ≡ all_reads n
  pub origins : All (HasOrigin n) dependences
