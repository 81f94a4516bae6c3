-- The sources of a certificate: each is Sweep, or a checked tree that overflows at no point of its reader.
use Rattle.std.specs.Prelude.{◌≡◌, ◌<◌, ℕ, ℤ, List, [], Option, Some, None, length, slice_get, slice_index_or}
use Rattle.std.specs.Option.{option_and_then, option_map, option_or}
use Rattle.sanlp.specs.Access.{read_count}
use Rattle.sanlp.specs.declared.nest.Nest.{Nest}
use Rattle.sanlp.specs.declared.nest.Tag.{Tag}
use Rattle.sanlp.specs.Points.{points_of}
use Rattle.source_check.specs.declared.verdict.Rule.{Rule}
use Rattle.source_check.specs.declared.verdict.Rule.TheVariants as rule
use Rattle.source_check.specs.declared.verdict.TreeVerdict.{TreeVerdict}
use Rattle.source_check.specs.declared.verdict.TreeVerdict.TheVariants as tree_verdict
use Rattle.source_check.specs.Verdict.{verdict}
use Rattle.source_tree.specs.declared.cert.Cert.{Cert}
use Rattle.source_tree.specs.declared.cert.Origin.{Origin}
use Rattle.source_tree.specs.declared.cert.Origin.TheVariants as origin
use Rattle.source_tree.specs.declared.tree.Found.{Found}
use Rattle.source_tree.specs.declared.tree.Tree.{Tree}
use Rattle.source_tree.specs.Checked.{IsChecked}
use Rattle.source_tree.specs.Sources.{read_number}
use Rattle.source_tree.specs.Systems.{Occurrence, read_at}
use Rattle.source_tree.specs.Walk.{outcome_of}
use Rattle.source_tree.specs.Wanted.{IsWanted}
use Rattle.net_core.specs.declared.network.Event.TheVariants.{Fire}
use Rattle.net_core.specs.declared.refs.Ref.{Ref}
use Rattle.net_core.specs.Machine.{Net}
use Rattle.net_core.specs.Names.{name_at}
use Rattle.net_core.specs.Shape.{fires}
use Rattle.net_core.specs.Sound.{name_of_source}
use Rattle.net_checker.specs.declared.verdict.Refusal.{Refusal}
use Rattle.net_checker.specs.declared.verdict.Refusal.TheVariants as refusal
use Rattle.net_checker.specs.Choice.{first_below}

-- the rule of a verdict that refuses a tree
abbrev pub refusing_rule : TreeVerdict → Option Rule
refusing_rule tree_verdict.Accepted = None
refusing_rule (tree_verdict.Refused rule) = Some rule

-- where there is no outcome at this turn, it is an overflow
abbrev pub overflow_at : ℕ → Option Found → Option Rule
overflow_at f None = Some (rule.Overflow f)
overflow_at f (Some found) = None

-- the first of these points of the reader at which the tree overflows
abbrev pub first_overflow : Tree → List (List ℤ) → Option Rule
first_overflow tree vectors =
    first_below (λ f. overflow_at f (outcome_of tree (slice_index_or vectors f [])))
    (length vectors)

-- why a tree is refused for a read of statement s: it isn't checked, or it overflows
abbrev pub tree_refusal : Nest → ℕ → Tree → Occurrence → Option Rule
tree_refusal n s tree r =
    option_or (refusing_rule (verdict n r tree))
    (first_overflow tree (slice_index_or (points_of n) s []))

-- why an origin is refused for read k of statement s; Sweep never is
abbrev pub origin_refusal : Nest → ℕ → ℕ → Option Origin → Option Refusal
origin_refusal n s k None = None
origin_refusal n s k (Some origin.Sweep) = None
origin_refusal n s k (Some (origin.Tree tree)) =
    option_map (refusal.Source s k) (option_and_then (tree_refusal n s tree) (read_at n s k))

-- the first read of statement s whose origin is refused
abbrev pub reads_refusal : Nest → Cert → ℕ → Option Refusal
reads_refusal n cert s =
    first_below (λ k. origin_refusal n s k (slice_get cert.sources (read_number n s k)))
    (read_count n s)

-- the first read whose origin is refused
unfoldable pub source_refusal : Nest → Cert → Option Refusal
source_refusal n cert = first_below (reads_refusal n cert) (length n.statements)

-- the tree is checked for read k of statement s, and overflows at no point of the statement
pub record IsUsable (n : Nest) (s k : ℕ) (tree : Tree) : Type 0 where
  pub checked : IsChecked n s k tree
  pub fits : (f : ℕ) (at : List ℤ) → slice_get (slice_index_or (points_of n) s []) f ≡ Some at
      → outcome_of tree at ≡ None → ⊥

-- every tree of the certificate is usable for its read
abbrev pub AreUsable : Nest → Cert → Type 0
AreUsable n cert =
    (s k : ℕ) (tree : Tree) → k < read_count n s
    → slice_get cert.sources (read_number n s k) ≡ Some (origin.Tree tree) → IsUsable n s k tree

-- every reference of every fire names what its read wants under the certificate
abbrev pub NamesWanted : Nest → Cert → Net → Type 0
NamesWanted n cert net =
    (p k : ℕ) (refs : List Ref) → slice_get (net.script p) k ≡ Some (Fire refs)
    → (read : ℕ) (r : Ref) → slice_get refs read ≡ Some r
    → (source : Option Tag) × IsWanted n cert p read (fires net p k) source
    × (name_at net p k r ≡ name_of_source source)
