-- What a context tells of an edge at the chosen place.
use Rattle.std.specs.Prelude.{◌≡◌, ◌^◌, ℕ, List}
use Rattle.affine_core.specs.declared.form.Form.{Form}
use Rattle.int_polyhedra.specs.declared.system.System.{System}
use Rattle.lex_max.specs.Answer.{IsAnswer}
use Rattle.tree_graphs.specs.Cycles.{IsCycle}
use Rattle.tree_graphs.specs.Edges.{edge_parts}
use Rattle.tree_graphs.specs.Facts.{form_parts, IsFact}
use Rattle.lex_max.specs.declared.decide.EdgeState.{EdgeState}
use Rattle.lex_max.specs.declared.decide.EdgeState.TheVariants.{Shown, Refuted, Open}
use Rattle.tree_graphs.specs.declared.edges.Edge.{Edge}
use Rattle.tree_graphs.specs.declared.writes.Writes.{Writes}
use Rattle.tree_sums.specs.Parts.{Part}

-- terms that show it, the leaf of a context that refutes it, or a cycle whose form has its parts there
abbrev pub IsEdgeState : Writes → List Edge → System → List Form → Edge → EdgeState → Type 0
IsEdgeState w edges context place g (Shown ts) = IsFact context (2 ^ 23) (edge_parts place g) ts
IsEdgeState w edges context place g (Refuted leaf) = (tests : ℕ) → IsAnswer w context tests leaf
IsEdgeState w edges context place g (Open cycle) =
    IsCycle w.vars edges cycle
    × ((part : Part) → form_parts cycle.form part ≡ edge_parts place g part)
