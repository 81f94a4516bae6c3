-- What the reading of a tree or of a proof comes to.
use Rattle.std.specs.Prelude.{ℕ, zero, suc, Ok, Err}
use Rattle.int_polyhedra.specs.declared.system.Proof.{Proof}
use Rattle.int_polyhedra.specs.declared.system.Proof.TheVariants.{Sum}
use Rattle.int_polyhedra.specs.declared.system.Proof.TheViews.{Cut, Split}
use Rattle.source_tree.specs.declared.tree.Tree.{Tree}
use Rattle.source_tree.specs.declared.tree.Tree.TheVariants.{Writer, Zero, Dead}
use Rattle.source_tree.specs.declared.tree.Tree.TheViews.{Test, Divides}
use Rattle.cert_lines.specs.declared.error.CertError.TheVariants.{Deep}
use Rattle.cert_lines.specs.Reading.{Part, followed_by, line, many}
use Rattle.tree_text.specs.declared.lines.ProofLine.{ProofLine}
use Rattle.tree_text.specs.declared.lines.ProofLine.TheVariants as of_proof
use Rattle.tree_text.specs.declared.lines.TreeLine.{TreeLine}
use Rattle.tree_text.specs.declared.lines.TreeLine.TheVariants as of_tree
use Rattle.tree_text.specs.Lines.{map_line, proof_line, tree_line}

-- what follows a line of a proof, where `inner` reads the proofs that the step leaves
abbrev pub proof_behind : Part Proof → ProofLine → Part Proof
proof_behind inner (of_proof.Sum terms) at = Ok (Sum terms, at)
proof_behind inner (of_proof.Cut divisor terms) at =
    followed_by (inner at) (λ rest at. Ok (Cut divisor terms rest, at))
proof_behind inner (of_proof.Split form) at =
    followed_by (inner at) (λ above at.
    followed_by (inner at) (λ below at.
    Ok (Split form above below, at)))

-- a proof that nests at most so many levels deep; the line of one that nests deeper is judged first
unfoldable pub proof : ℕ → Part Proof
proof zero at = followed_by (line proof_line at) (λ said next. Err (Deep at.line))
proof (suc levels) at = followed_by (line proof_line at) (proof_behind (proof levels))

-- what follows the line of a leaf: the forms of a map and the proofs, the proofs, or one proof
abbrev pub writer_behind : ℕ → ℕ → ℕ → Part Tree
writer_behind statement forms proofs at =
    followed_by (many (line map_line) forms at) (λ place at.
    followed_by (many (proof 512) proofs at) (λ proofs at.
    Ok (Writer statement place proofs, at)))

abbrev pub zero_behind : ℕ → Part Tree
zero_behind proofs at =
    followed_by (many (proof 512) proofs at) (λ proofs at. Ok (Zero proofs, at))

abbrev pub dead_behind : Part Tree
dead_behind at = followed_by (proof 512 at) (λ proof at. Ok (Dead proof, at))

-- what follows a line of a tree, where `inner` reads the trees of a test
abbrev pub tree_behind : Part Tree → TreeLine → Part Tree
tree_behind inner (of_tree.Test form) at =
    followed_by (inner at) (λ above at.
    followed_by (inner at) (λ below at.
    Ok (Test form above below, at)))
tree_behind inner (of_tree.Divides form divisor) at =
    followed_by (inner at) (λ above at.
    followed_by (inner at) (λ below at.
    Ok (Divides form divisor above below, at)))
tree_behind inner (of_tree.Writer statement forms proofs) at =
    writer_behind statement forms proofs at
tree_behind inner (of_tree.Zero proofs) at = zero_behind proofs at
tree_behind inner of_tree.Dead at = dead_behind at

-- a tree that nests at most so many levels deep
unfoldable pub tree_within : ℕ → Part Tree
tree_within zero at = followed_by (line tree_line at) (λ said next. Err (Deep at.line))
tree_within (suc levels) at = followed_by (line tree_line at) (tree_behind (tree_within levels))

-- a tree, nested at most 512 deep as its proofs are
abbrev pub tree : Part Tree
tree = tree_within 512
