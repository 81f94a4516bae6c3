-- What a line of a tree or of a proof says.
use Rattle.std.specs.Prelude.{ℕ, ℤ, nat_le, if◌then◌else◌, List, [], ◌∷◌, bytes_eq, codes, length, Result, Ok, Err}
use Rattle.affine_core.specs.declared.form.Form.{Form}
use Rattle.int_polyhedra.specs.declared.system.Term.{Term}
use Rattle.cert_lines.specs.declared.error.Fault.{Fault}
use Rattle.cert_lines.specs.declared.error.Fault.TheVariants.{Words}
use Rattle.cert_lines.specs.Words.{both, integer, made, number}
use Rattle.tree_text.specs.declared.lines.ProofLine.{ProofLine}
use Rattle.tree_text.specs.declared.lines.ProofLine.TheVariants.{Sum, Cut, Split}
use Rattle.tree_text.specs.declared.lines.TreeLine.{TreeLine}
use Rattle.tree_text.specs.declared.lines.TreeLine.TheVariants.{Test, Divides, Writer, Zero, Dead}

-- Forms and terms

-- each of these words
abbrev pub integers : List (List ℕ) → Result (List ℤ) Fault
integers [] = Ok []
integers (word ∷ words) = made (λ n. n.0 ∷ n.1) (both (integer word) (integers words))

-- at most 18 of them
abbrev pub coefficients : List (List ℕ) → Result (List ℤ) Fault
coefficients words = if nat_le (length words) 18 then integers words else Err Words

-- a constant, and then the coefficients
abbrev pub form : List (List ℕ) → Result Form Fault
form [] = Err Words
form (constant ∷ words) =
    made (λ n. record { constant = n.0; coefs = n.1 })
    (both (integer constant) (coefficients words))

-- a row number and its multiplier
abbrev pub term : List ℕ → List ℕ → Result Term Fault
term row times = made (λ n. record { row = n.0; times = n.1 }) (both (number row) (integer times))

-- each two of these words
abbrev pub terms : List (List ℕ) → Result (List Term) Fault
terms [] = Ok []
terms (row ∷ []) = Err Words
terms (row ∷ (times ∷ words)) = made (λ t. t.0 ∷ t.1) (both (term row times) (terms words))

-- Proofs

-- what stands behind `c`: a divisor and terms
abbrev pub cut_words : List (List ℕ) → Result ProofLine Fault
cut_words [] = Err Words
cut_words (divisor ∷ words) = made (λ c. Cut c.0 c.1) (both (integer divisor) (terms words))

abbrev pub proof_line : List (List ℕ) → Result ProofLine Fault
proof_line [] = Err Words
proof_line (word ∷ words) =
    if bytes_eq word (codes "s") then made Sum (terms words)
    else if bytes_eq word (codes "c") then cut_words words
    else if bytes_eq word (codes "b") then made Split (form words)
    else Err Words

-- Trees

-- what stands behind `d`: a divisor and a form
abbrev pub divides_words : List (List ℕ) → Result TreeLine Fault
divides_words [] = Err Words
divides_words (divisor ∷ words) = made (λ d. Divides d.1 d.0) (both (integer divisor) (form words))

-- what stands behind `w`: a statement, and how many forms and proofs follow
abbrev pub writer_words : List (List ℕ) → Result TreeLine Fault
writer_words (statement ∷ forms ∷ proofs ∷ []) =
    made (λ n. Writer n.0 n.1.0 n.1.1)
    (both (number statement) (both (number forms) (number proofs)))
writer_words words = Err Words

-- what stands behind `z`: how many proofs follow
abbrev pub zero_words : List (List ℕ) → Result TreeLine Fault
zero_words (proofs ∷ []) = made Zero (number proofs)
zero_words words = Err Words

-- nothing stands behind `x`
abbrev pub dead_words : List (List ℕ) → Result TreeLine Fault
dead_words [] = Ok Dead
dead_words words = Err Words

abbrev pub tree_line : List (List ℕ) → Result TreeLine Fault
tree_line [] = Err Words
tree_line (word ∷ words) =
    if bytes_eq word (codes "t") then made Test (form words)
    else if bytes_eq word (codes "d") then divides_words words
    else if bytes_eq word (codes "w") then writer_words words
    else if bytes_eq word (codes "z") then zero_words words
    else if bytes_eq word (codes "x") then dead_words words
    else Err Words

-- `m` and a form
abbrev pub map_line : List (List ℕ) → Result Form Fault
map_line [] = Err Words
map_line (word ∷ words) = if bytes_eq word (codes "m") then form words else Err Words
