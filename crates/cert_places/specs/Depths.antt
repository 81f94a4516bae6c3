-- How deep the lines of a text nest, and the texts that may nest deeper than they can be read.
use Rattle.std.specs.Prelude.{ℕ, zero, suc, ◌+◌, ◌==◌, if◌then◌else◌, List, [], ◌∷◌, ◌++◌, All, IsTrue, length}
use Rattle.std.specs.List.{flat_map}
use Rattle.affine_core.specs.Within.{fits_128_bits}
use Rattle.int_polyhedra.specs.declared.system.Proof.{Proof}
use Rattle.int_polyhedra.specs.declared.system.Proof.TheOpen as of_proof
use Rattle.int_polyhedra.specs.declared.system.Proof.TheFolds.{fold-Proof}
use Rattle.script_blocks.specs.declared.blocks.BlockPart.{BlockPart}
use Rattle.script_blocks.specs.declared.blocks.BlockPart.TheOpen as of_part
use Rattle.script_blocks.specs.declared.blocks.BlockPart.TheFolds.{fold-BlockPart}
use Rattle.source_tree.specs.declared.cert.Origin.{Origin}
use Rattle.source_tree.specs.declared.cert.Origin.TheVariants.{Sweep, Tree}
use Rattle.source_tree.specs.declared.tree.Tree.{Tree as AnyTree, out-Tree}
use Rattle.source_tree.specs.declared.tree.Tree.TheOpen as of_tree
use Rattle.source_tree.specs.declared.tree.Tree.TheFolds.{fold-Tree}
use Rattle.cert_lines.specs.Words.{IsInRange}
use Rattle.tree_text.specs.TreeText.{FormIsInRange, PlaceIsInRange, ProofIsInRange}
use Rattle.cert_text.specs.CertText.{ChannelIsInRange, ProcessIsInRange, most_levels}
use Rattle.cert_text.specs.Folding.{BlocksAreInRange, Folded, FoldedProcess}

-- Each line has a depth: that of the proof, the tree or the repeat that it begins, and 0 where it begins none. One that stands
-- in no other is 1 deep, and the proofs of a tree count from their own roots.

abbrev pub step_depths : of_proof.Proof-F (ℕ → List ℕ) → ℕ → List ℕ
step_depths (of_proof.Sum terms) depth = depth ∷ []
step_depths (of_proof.Cut divisor terms rest) depth = depth ∷ rest (depth + 1)
step_depths (of_proof.Split form above below) depth =
    depth ∷ (above (depth + 1) ++ below (depth + 1))

-- the depths of the lines of a proof that is so deep
abbrev pub proof_depths : Proof → ℕ → List ℕ
proof_depths = fold-Proof (ℕ → List ℕ) step_depths

abbrev pub proofs_depths : List Proof → List ℕ
proofs_depths proofs = flat_map (λ proof. proof_depths proof 1) proofs

abbrev pub node_depths : of_tree.Tree-F (ℕ → List ℕ) → ℕ → List ℕ
node_depths (of_tree.Test form above below) depth =
    depth ∷ (above (depth + 1) ++ below (depth + 1))
node_depths (of_tree.Divides form divisor above below) depth =
    depth ∷ (above (depth + 1) ++ below (depth + 1))
node_depths (of_tree.Writer statement place proofs) depth =
    depth ∷ (flat_map (λ form. 0 ∷ []) place ++ proofs_depths proofs)
node_depths (of_tree.Zero proofs) depth = depth ∷ proofs_depths proofs
node_depths (of_tree.Dead proof) depth = depth ∷ proof_depths proof 1

-- the depths of the lines of a tree that is so deep
abbrev pub tree_depths : AnyTree → ℕ → List ℕ
tree_depths = fold-Tree (ℕ → List ℕ) node_depths

abbrev pub layer_depths : {T : Type 0} → of_part.BlockPart-F T (ℕ → List ℕ) (List (ℕ → List ℕ))
    → ℕ → List ℕ
layer_depths (of_part.Item x) depth = 0 ∷ []
layer_depths (of_part.Repeat count body) depth =
    depth ∷ flat_map (λ part. part (depth + 1)) body

abbrev pub body_depths : {T : Type 0} → of_part.Blocks-F T (ℕ → List ℕ) (List (ℕ → List ℕ))
    → List (ℕ → List ℕ)
body_depths blocks = blocks.parts

-- the depths of the lines of a part, where a repeat is so deep
abbrev pub part_depths : {T : Type 0} → BlockPart T → ℕ → List ℕ
part_depths {T} = fold-BlockPart T (ℕ → List ℕ) (List (ℕ → List ℕ)) layer_depths body_depths

abbrev pub parts_depths : {T : Type 0} → List (BlockPart T) → List ℕ
parts_depths parts = flat_map (λ part. part_depths part 1) parts

abbrev pub process_depths : FoldedProcess → List ℕ
process_depths process = 0 ∷ parts_depths process.script.parts

abbrev pub source_depths : Origin → List ℕ
source_depths Sweep = 0 ∷ []
source_depths (Tree tree) = 0 ∷ tree_depths tree 1

-- the depths of all lines of a text: of the version, the sizes, the processes, the channels, the sources, the schedule and `end`
abbrev pub folded_depths : Folded → List ℕ
folded_depths folded =
    0 ∷ 0
    ∷ (flat_map process_depths folded.processes
    ++ (flat_map (λ channel. 0 ∷ []) folded.channels
    ++ (flat_map source_depths folded.sources
    ++ (parts_depths folded.schedule.parts
    ++ 0 ∷ []))))

-- What has a text if it may nest so many levels deep: each number is in its range.

pub record ProofsNestTo (levels : ℕ) (proofs : List Proof) : Type 0 where
  pub count : IsInRange (length proofs)
  pub each : All (ProofIsInRange levels) proofs

abbrev pub NodeNestsTo : ℕ → (AnyTree → Type 0) → of_tree.Tree-F AnyTree → Type 0
NodeNestsTo levels inner (of_tree.Test form above below) =
    FormIsInRange form × inner above × inner below
NodeNestsTo levels inner (of_tree.Divides form divisor above below) =
    (FormIsInRange form × IsTrue (fits_128_bits divisor)) × inner above × inner below
NodeNestsTo levels inner (of_tree.Writer statement place proofs) =
    PlaceIsInRange statement place × ProofsNestTo levels proofs
NodeNestsTo levels inner (of_tree.Zero proofs) = ProofsNestTo levels proofs
NodeNestsTo levels inner (of_tree.Dead proof) = ProofIsInRange levels proof

-- a tree whose proofs nest at most as deep as the first number says, and it as deep as the second
unfoldable pub TreeNestsTo : ℕ → ℕ → AnyTree → Type 0
TreeNestsTo proof_levels zero tree = ⊥
TreeNestsTo proof_levels (suc levels) tree =
    NodeNestsTo proof_levels (TreeNestsTo proof_levels levels) (out-Tree tree)

abbrev pub OriginNestsTo : ℕ → Origin → Type 0
OriginNestsTo levels Sweep = Unit {0}
OriginNestsTo levels (Tree tree) = TreeNestsTo levels levels tree

-- what a function takes
abbrev pub domain : {A B : Type 0} → (A → B) → Type 0
domain {A} f = A

-- A version of the text. The type of versions is private to the texts: it is what `most_levels` takes.
abbrev pub Version : Type 0
Version = domain most_levels

-- version 1 has no repeats
abbrev pub repeat_levels : Version → ℕ → ℕ
repeat_levels version levels = if most_levels version == 0 then 0 else levels

pub record NestsTo (levels : ℕ) (version : Version) (folded : Folded) : Type 0 where
  pub process_count : IsInRange (length folded.processes)
  pub channel_count : IsInRange (length folded.channels)
  pub source_count : IsInRange (length folded.sources)
  pub processes : All (ProcessIsInRange (repeat_levels version levels)) folded.processes
  pub channels : All ChannelIsInRange folded.channels
  pub sources : All (OriginNestsTo levels) folded.sources
  pub schedule : BlocksAreInRange IsInRange (repeat_levels version levels) folded.schedule
