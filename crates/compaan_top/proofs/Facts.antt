-- What is wrong with a certificate doesn't bear on the facts that a nest keeps.
--
-- Two nests with the same parts are given. A tree's check is a fold of one step over the tree, and each case of the
-- step looks at the parts alone (`step_aside`), so the steps are one function and their folds are too; from there the
-- sources are refused alike, tree by tree and read by read. All else that is looked at computes from the parts.
use Rattle.std.proofs.Common.{◌≡◌, ℕ, List, Option, Some, None, [], refl, ap, length, slice_get}
use Rattle.std.specs.Prelude.{slice_index_or}
use Rattle.std.specs.Option.{option_and_then, option_map, option_or}
use Rattle.sanlp.specs.Access.{read_count}
use Rattle.sanlp.specs.Points.{points_of}
use Rattle.sanlp.specs.Trace.{trace}
use Rattle.sanlp.specs.WellFormed.{IsWellFormed}
use Rattle.sanlp.specs.Writers.{last_before}
use Rattle.sanlp.specs.declared.nest.ArrayDecl.{ArrayDecl}
use Rattle.sanlp.specs.declared.nest.Nest.{Nest}
use Rattle.sanlp.specs.declared.nest.Node.{Node}
use Rattle.sanlp.specs.declared.nest.Statement.{Statement}
use Rattle.source_check.specs.Verdict.{Checks, check_from, check_step, verdict_of}
use Rattle.source_tree.specs.Sources.{read_number}
use Rattle.source_tree.specs.Systems.{Context, Occurrence, read_at, root_context}
use Rattle.source_tree.specs.declared.cert.Cert.{Cert}
use Rattle.source_tree.specs.declared.cert.Origin.{Origin}
use Rattle.source_tree.specs.declared.cert.Origin.TheVariants as origin
use Rattle.source_tree.specs.declared.tree.Tree.{Tree}
use Rattle.source_tree.specs.declared.tree.Tree.TheOpen.{Tree-F, Test, Divides, Writer, Zero, Dead}
use Rattle.source_tree.specs.declared.tree.Tree.TheFolds.{fold-Tree}
use Rattle.net_core.specs.declared.network.Network.{Network}
use Rattle.net_checker.specs.Choice.{first_below}
use Rattle.net_checker.specs.Classes.{class_refusal}
use Rattle.net_checker.specs.Entries.{schedule_refusal}
use Rattle.net_checker.specs.Firings.{firing_refusal}
use Rattle.net_checker.specs.Fits.{first}
use Rattle.net_checker.specs.Shapes.{shape_refusal}
use Rattle.net_checker.specs.Sources.{first_overflow, origin_refusal, refusing_rule, source_refusal, tree_refusal}
use Rattle.net_checker.specs.declared.verdict.Refusal.TheVariants as refusal

module _ (arrays : List ArrayDecl) (statements : List Statement) (body : List Node)
    (w v : IsWellFormed arrays statements body) where
  abbrev one : Nest
  one = record { arrays = arrays; statements = statements; body = body; well_formed = w }

  abbrev other : Nest
  other = record { arrays = arrays; statements = statements; body = body; well_formed = v }

  step_aside : (r : Occurrence) (layer : Tree-F Checks) (leaf : ℕ) (c : Context)
      → check_step one r layer leaf c ≡ check_step other r layer leaf c
  step_aside r (Test form above below) leaf c = refl
  step_aside r (Divides form d above below) leaf c = refl
  step_aside r (Writer s place proofs) leaf c = refl
  step_aside r (Zero proofs) leaf c = refl
  step_aside r (Dead proof) leaf c = refl

  steps_aside : (r : Occurrence) → check_step one r ≡ check_step other r
  steps_aside r = λ i layer leaf c. step_aside r layer leaf c i

  check_aside : (r : Occurrence) → check_from one r ≡ check_from other r
  unfolding check_from
  check_aside r = ap (fold-Tree Checks) (steps_aside r)

  tree_aside : (s : ℕ) (tree : Tree) (r : Occurrence) → tree_refusal one s tree r ≡ tree_refusal other s tree r
  unfolding trace points_of
  tree_aside s tree r =
      ap (λ checks. option_or (refusing_rule (verdict_of (checks tree 0 (root_context r))))
      (first_overflow tree (slice_index_or (points_of one) s []))) (check_aside r)

  origin_aside : (s k : ℕ) (given : Option Origin) → origin_refusal one s k given ≡ origin_refusal other s k given
  origin_aside s k None = refl
  origin_aside s k (Some origin.Sweep) = refl
  origin_aside s k (Some (origin.Tree tree)) =
      λ i. option_map (refusal.Source s k) (option_and_then (λ r. tree_aside s tree r i) (read_at one s k))

  source_aside : (cert : Cert) → source_refusal one cert ≡ source_refusal other cert
  unfolding source_refusal
  source_aside cert = λ i.
      first_below
      (λ s. first_below (λ k. origin_aside s k (slice_get cert.sources (read_number one s k)) i) (read_count one s))
      (length statements)

  pub facts_aside : (network : Network) (cert : Cert) → first one network cert ≡ first other network cert
  unfolding trace last_before points_of shape_refusal firing_refusal schedule_refusal
  facts_aside network cert =
      ap (λ found. option_or (shape_refusal one network cert)
      (option_or (firing_refusal one network)
      (option_or found (option_or (schedule_refusal one network cert.schedule) (class_refusal network)))))
      (source_aside cert)
