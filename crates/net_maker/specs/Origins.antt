-- The origins of a nest's reads.
use Rattle.std.specs.Prelude.{◌≡◌, ◌<◌, ℕ, List, Some, length, slice_get}
use Rattle.net_checker.specs.Sources.{IsUsable}
use Rattle.sanlp.specs.Access.{read_count}
use Rattle.sanlp.specs.declared.nest.Nest.{Nest}
use Rattle.source_tree.specs.declared.cert.Origin.{Origin}
use Rattle.source_tree.specs.declared.cert.Origin.TheVariants.{Sweep, Tree}
use Rattle.source_tree.specs.declared.tree.Tree as any_tree
use Rattle.source_tree.specs.Sources.{read_number}
use Rattle.tree_text.specs.TreeText.{TreeIsInRange}

-- the origin may stand for read k of statement s: Sweep, or a tree that is usable and has a text that can be read
abbrev pub IsUsableOrigin : Nest → ℕ → ℕ → Origin → Type 0
IsUsableOrigin n s k Sweep = Unit {0}
IsUsableOrigin n s k (Tree tree) = IsUsable n s k tree × TreeIsInRange tree

-- the origins of the first so many reads, each of which may stand for its read
pub record HasOrigins (n : Nest) (count : ℕ) (sources : List Origin) : Type 0 where
  pub total : length sources ≡ count
  pub each : (s k : ℕ) (origin : Origin) → k < read_count n s
      → slice_get sources (read_number n s k) ≡ Some origin → IsUsableOrigin n s k origin
  pub in_range : (k : ℕ) (tree : any_tree.Tree) → slice_get sources k ≡ Some (Tree tree)
      → TreeIsInRange tree
