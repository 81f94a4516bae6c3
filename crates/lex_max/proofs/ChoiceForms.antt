-- The forms of a choice, and how far one is above another.
use Rattle.std.proofs.Common.{◌≡◌, ◌+◌, ◌^◌, ℕ, negsuc, ◌-ℤ◌, List, ◌∷◌, length, sym, ap, ◌∙◌, subst, arith}
use Rattle.std.specs.Prelude.{Option, Some, None, slice_get, IfSome}
use Rattle.affine_core.specs.declared.form.Form.{Form}
use Rattle.affine_core.specs.Affine.{form_product, form_sum}
use Rattle.int_polyhedra.specs.declared.system.System.{System}
use Rattle.tree_graphs.specs.Asked.{depth_of_write}
use Rattle.lex_max.specs.Choices.{uppers_of, AreReady, IsChoosing}
use Rattle.lex_max.specs.ChoiceSteps.{AreSmallForms, IsSmallForm}
use Rattle.tree_graphs.specs.Facts.{form_parts}
use Rattle.tree_graphs.specs.declared.closure.Bounds.{Bounds}
use Rattle.lex_max.specs.declared.decide.Choice.{Choice}
use Rattle.tree_graphs.specs.declared.edges.Edge.{Edge}
use Rattle.tree_graphs.specs.declared.writes.Writes.{Writes}
use Rattle.tree_graphs.proofs.EdgeRows.{weight_over, weight_part}
use Rattle.lex_max.proofs.DecisionContexts.{form_at_done}
use Rattle.lex_max.proofs.ChosenPaths.{is_led, IsLed}
use Rattle.tree_graphs.proofs.Small.{negative_within}
use Rattle.tree_sums.specs.Parts.{Part, part_of, IsWithin}
use Rattle.tree_sums.proofs.Bound.{sum_within}
use Rattle.tree_sums.proofs.Within.{IsWithin-weaker}

-- a form less another one
pub record IsAbove (vars : ℕ) (form chosen above : Form) : Type 0 where
  pub over : length above.coefs ≡ vars
  pub within : IsWithin (2 ^ 34 + 2 ^ 40) above
  pub small : IsWithin (2 ^ 60) above
  pub parts : (part : Part) → form_parts above part ≡ form_parts form part -ℤ form_parts chosen part

pub is_above : (vars : ℕ) (form chosen above : Form) → IsSmallForm vars form → IsSmallForm vars chosen
    → above ≡ form_sum form (form_product (negsuc 0) chosen) → IsAbove vars form chosen above
is_above vars form chosen above f g is =
    let near : IsWithin (2 ^ 34 + 2 ^ 40) above =
    subst (IsWithin (2 ^ 34 + 2 ^ 40)) (sym is)
    (IsWithin-weaker (2 ^ 33 + 2 ^ 39 + (2 ^ 33 + 2 ^ 39)) (2 ^ 34 + 2 ^ 40) (form_sum form (form_product (negsuc 0) chosen))
    (omega arith)
    (sum_within (2 ^ 33 + 2 ^ 39) (2 ^ 33 + 2 ^ 39) form (form_product (negsuc 0) chosen) f.within
    (negative_within (2 ^ 33 + 2 ^ 39) chosen g.within))) in
    record {
      over = ap (λ (f : Form). length f.coefs) is ∙ weight_over vars form chosen f.over g.over;
      within = near;
      small = IsWithin-weaker (2 ^ 34 + 2 ^ 40) (2 ^ 60) above (omega arith) near;
      parts = λ part. ap (part_of part) is ∙ weight_part vars form chosen part f.over g.over;
    }

pub form_small : (vars : ℕ) (form : Form) → IsSmallForm vars form → IsWithin (2 ^ 60) form
form_small vars form f = IsWithin-weaker (2 ^ 33 + 2 ^ 39) (2 ^ 60) form (omega arith) f.within

-- the chosen form, and the next one
module _ (w : Writes) (edges : List Edge) (bounds : Bounds) (ready : AreReady w edges bounds) (context : System)
    (forms : List (Option Form)) (more : List (List (Option Form))) (choice : Choice) (choices : List Choice) where
  pub chosen_small : (x : Option Form)
      → IsChoosing (depth_of_write w) bounds edges context (x ∷ forms) more choice choices
      → IsSmallForm w.vars choice.form
  chosen_small x h =
      let led : IsLed w edges bounds ready (length choices) choice.edge choice.form =
      is_led w edges bounds ready (length choices) choice.edge choice.form h.choosing.edge_is in
      record { over = led.over; within = led.small }

  pub next_small : (x : Option Form)
      → IsChoosing (depth_of_write w) bounds edges context (x ∷ forms) more choice choices
      → IfSome x (IsSmallForm w.vars)
  next_small None h = tt
  next_small (Some form) h =
      let led : IsLed w edges bounds ready (length choices) (length h.done) form =
      is_led w edges bounds ready (length choices) (length h.done) form
      (form_at_done w edges bounds ready context form forms more choice choices h) in
      record { over = led.over; within = led.small }

-- all forms that bound a variable
pub small_uppers : (w : Writes) (edges : List Edge) (bounds : Bounds) (ready : AreReady w edges bounds) (v : ℕ)
    (forms : List (Option Form)) → forms ≡ uppers_of (depth_of_write w) bounds edges v → AreSmallForms w.vars forms
small_uppers w edges bounds ready v forms is k form at =
    let led : IsLed w edges bounds ready v k form =
    is_led w edges bounds ready v k form (sym (ap (λ fs. slice_get fs k) is) ∙ at) in
    record { over = led.over; within = led.small }
