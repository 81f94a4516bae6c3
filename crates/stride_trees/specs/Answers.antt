-- The contexts below answers to tests of divisibility, and when their numbers are small.
use Rattle.std.specs.Prelude.{◌≡◌, ◌≤◌, ◌^◌, ◌≤ℤ◌, ℕ, pos, Bool, true, false, List, [], ◌∷◌, length, All, unsigned_abs}
use Rattle.affine_core.specs.Affine.{widened_form}
use Rattle.int_polyhedra.specs.Systems.{AreOver}
use Rattle.int_polyhedra.specs.declared.system.System.{System}
use Rattle.tree_sums.specs.Parts.{IsWithin}
use Rattle.source_tree.specs.Systems.{Context, divides_no, divides_yes}
use Rattle.stride_trees.specs.declared.divisions.Division.{Division}

-- a test over so many loops of a reader: its numbers are small, and its divisor is at least 2
pub record IsSmallTest (depth : ℕ) (d : Division) : Type 0 where
  pub over : length d.form.coefs ≡ depth
  pub within : IsWithin (2 ^ 33) d.form
  pub divisor : pos 2 ≤ℤ d.divisor
  pub small : unsigned_abs d.divisor ≤ 2 ^ 32

-- the context below an answer to a test
abbrev pub below_answer : Context → Division → Bool → Context
below_answer c d true = divides_yes c (widened_form c.vars d.form) d.divisor
below_answer c d false = divides_no c (widened_form c.vars d.form) d.divisor

-- the context below answers to the first of these tests
abbrev pub answered_context : Context → List Division → List Bool → Context
answered_context c [] answers = c
answered_context c (d ∷ ds) [] = c
answered_context c (d ∷ ds) (answer ∷ answers) =
    answered_context (below_answer c d answer) ds answers

-- the rows are over the variables, and their numbers are small
pub record HasSmallRows (context : System) : Type 0 where
  pub over : AreOver context.vars context.rows
  pub within : All (IsWithin (2 ^ 41)) context.rows
