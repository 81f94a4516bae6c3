-- The certificates of a nest's network.
use Rattle.std.specs.Prelude.{◌≡◌, ℕ, List, Some, replicate, slice_get}
use Rattle.net_checker.specs.Fits.{Fits}
use Rattle.net_checker.specs.Shapes.{read_total}
use Rattle.sanlp.specs.declared.nest.Nest.{Nest}
use Rattle.source_tree.specs.declared.cert.Cert.{Cert}
use Rattle.source_tree.specs.declared.cert.Origin.TheVariants.{Sweep, Tree}
use Rattle.source_tree.specs.declared.tree.Tree as any_tree
use Rattle.tree_text.specs.TreeText.{TreeIsInRange}
use Rattle.witness_plan.specs.declared.schedules.Policy.{Policy}
use Rattle.witness_plan.specs.Schedules.{planned_network, schedule}

-- the certificate by which every read has its values from the last writers, with this schedule
abbrev pub swept_cert : Nest → List ℕ → Cert
swept_cert n run = record { sources = replicate (read_total n) Sweep; schedule = run }

-- A certificate of the nest's network, with the capacities that its schedule under a policy needs: the schedule is the
-- policy's, both fit the nest, and each tree has a text that can be read. Which reads have a tree is left open.
pub record IsCertificate (n : Nest) (policy : Policy) (cert : Cert) : Type 0 where
  pub of_policy : cert.schedule ≡ schedule n policy
  pub fits : Fits n (planned_network n policy) cert
  pub in_range : (k : ℕ) (tree : any_tree.Tree) → slice_get cert.sources k ≡ Some (Tree tree)
      → TreeIsInRange tree
