-- What follows a choice among a variable's first forms, with one form more.
use Rattle.std.specs.Prelude.{◌≡◌, ◌^◌, ◌+◌, ℕ, List, Option, Some, length, map, slice_get, ◌++◌, [], ◌∷◌}
use Rattle.affine_core.specs.declared.form.Form.{Form}
use Rattle.int_polyhedra.specs.declared.system.System.{System}
use Rattle.int_polyhedra.specs.Steps.{negation_of}
use Rattle.lex_max.specs.Choices.{IsChoosing, IsNextChoice}
use Rattle.tree_graphs.specs.declared.closure.Bounds.{Bounds}
use Rattle.tree_graphs.specs.declared.cycles.Cycle.{Cycle}
use Rattle.lex_max.specs.declared.decide.Choice.{Choice}
use Rattle.lex_max.specs.declared.decide.ChoiceStep.{ChoiceStep}
use Rattle.lex_max.specs.declared.decide.ChoiceStep.TheVariants.{Known, Either}
use Rattle.tree_graphs.specs.declared.edges.Edge.{Edge}
use Rattle.tree_sums.specs.Parts.{IsWithin}

-- a form over so many variables with small numbers, as each form that bounds a loop variable is
pub record IsSmallForm (vars : ℕ) (form : Form) : Type 0 where
  pub over : length form.coefs ≡ vars
  pub within : IsWithin (2 ^ 33 + 2 ^ 39) form

-- forms some of which are there, each of these over so many variables with small numbers
abbrev pub AreSmallForms : ℕ → List (Option Form) → Type 0
AreSmallForms vars forms =
    (k : ℕ) (form : Form) → slice_get forms k ≡ Some (Some form) → IsSmallForm vars form

-- the context where the forms of these cycles are at least 0
abbrev pub with_cycles : System → List Cycle → System
with_cycles context cycles =
    record context { rows = context.rows ++ map (λ (c : Cycle). c.form) cycles }

-- choices of the context with a form behind, and of the one with the form's opposite behind
pub record AreEither (context : System) (form : Option Form) (choice : Choice) (above : Form)
    (same other : Choice) : Type 0 where
  pub over : length above.coefs ≡ context.vars
  pub within : IsWithin (2 ^ 34 + 2 ^ 40) above
  pub least : (least : System) → least ≡ record context { rows = context.rows ++ above ∷ [] }
      → IsNextChoice context least form choice same
  pub below : (below : System) (row : Form) → negation_of above ≡ Some row
      → below ≡ record context { rows = context.rows ++ row ∷ [] }
      → IsNextChoice context below form choice other

-- the next choice in this context, or one for each answer of a Test
abbrev pub IsChoiceStep : System → Option Form → Choice → ChoiceStep → Type 0
IsChoiceStep context form choice (Known next) = IsNextChoice context context form choice next
IsChoiceStep context form choice (Either above same other) =
    AreEither context form choice above same other

-- what follows a choice among the first forms of a variable, with one more, so that these are left
pub record IsFollowed (depth : ℕ) (bounds : Bounds) (edges : List Edge) (context : System)
    (forms : List (Option Form)) (more : List (List (Option Form))) (step : ChoiceStep)
    (choices : List Choice) : Type 0 where
  pub form : Option Form
  pub choice : Choice
  pub choosing : IsChoosing depth bounds edges context (form ∷ forms) more choice choices
  pub follows : IsChoiceStep context form choice step
