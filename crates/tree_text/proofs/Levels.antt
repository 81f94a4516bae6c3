-- A proof and a tree level by level.
use Rattle.std.proofs.Common.{◌≡◌, ◌∙◌, ℕ, zero, suc, ◌-◌, ◌<◌, Ok, Err, ap, arith}
use Rattle.cert_lines.specs.declared.error.CertError.{CertError}
use Rattle.cert_lines.specs.declared.error.CertError.TheVariants.{Deep}
use Rattle.cert_lines.specs.Reading.{Place, followed_by, line}
use Rattle.tree_text.specs.declared.lines.ProofLine.{ProofLine}
use Rattle.tree_text.specs.declared.lines.TreeLine.{TreeLine}
use Rattle.tree_text.specs.Lines.{proof_line, tree_line}
use Rattle.tree_text.specs.Reading.{proof, proof_behind, tree_behind, tree_within}

-- a line that is refused
pub proof_refused : (levels : ℕ) (at : Place) (refusal : CertError) → line proof_line at ≡ Err refusal → proof levels at
    ≡ Err refusal
unfolding proof
proof_refused zero at refusal e = ap (λ read. followed_by read (λ said next. Err (Deep at.line))) e
proof_refused (suc levels) at refusal e = ap (λ read. followed_by read (proof_behind (proof levels))) e

-- no level is left
pub proof_deep : (levels : ℕ) (at next : Place) (l : ProofLine) → levels ≡ 0 → line proof_line at ≡ Ok (l, next)
    → proof levels at ≡ Err (Deep at.line)
unfolding proof
proof_deep zero at next l none e = ap (λ read. followed_by read (λ said next. Err (Deep at.line))) e
proof_deep (suc levels) at next l none e = absurd (omega arith)

pub proof_read : (levels : ℕ) (at next : Place) (l : ProofLine) → 0 < levels → line proof_line at ≡ Ok (l, next)
    → proof levels at ≡ proof_behind (proof (levels - 1)) l next
unfolding proof
proof_read zero at next l some e = absurd (omega arith)
proof_read (suc levels) at next l some e =
    let less : levels ≡ suc levels - 1 = omega arith in
    ap (λ read. followed_by read (proof_behind (proof levels))) e ∙ ap (λ (n : ℕ). proof_behind (proof n) l next) less

-- the same of trees
pub tree_refused : (levels : ℕ) (at : Place) (refusal : CertError) → line tree_line at ≡ Err refusal
    → tree_within levels at ≡ Err refusal
unfolding tree_within
tree_refused zero at refusal e = ap (λ read. followed_by read (λ said next. Err (Deep at.line))) e
tree_refused (suc levels) at refusal e = ap (λ read. followed_by read (tree_behind (tree_within levels))) e

pub tree_deep : (levels : ℕ) (at next : Place) (l : TreeLine) → levels ≡ 0 → line tree_line at ≡ Ok (l, next)
    → tree_within levels at ≡ Err (Deep at.line)
unfolding tree_within
tree_deep zero at next l none e = ap (λ read. followed_by read (λ said next. Err (Deep at.line))) e
tree_deep (suc levels) at next l none e = absurd (omega arith)

pub tree_read : (levels : ℕ) (at next : Place) (l : TreeLine) → 0 < levels → line tree_line at ≡ Ok (l, next)
    → tree_within levels at ≡ tree_behind (tree_within (levels - 1)) l next
unfolding tree_within
tree_read zero at next l some e = absurd (omega arith)
tree_read (suc levels) at next l some e =
    let less : levels ≡ suc levels - 1 = omega arith in
    ap (λ read. followed_by read (tree_behind (tree_within levels))) e
    ∙ ap (λ (n : ℕ). tree_behind (tree_within n) l next) less
