-- That edges and bounds are those of a graph has one proof at most, so that a type can keep it.
use Rattle.std.specs.Prelude.{◌≡◌, ℕ, ℤ, List, [], ◌∷◌, Option, Some, None}
use Rattle.std.specs.Coded.{×_prop, Π_prop, Unit-prop, Coded, Coded-set, code_by, coded×, coded_list, coded_ℕ, coded_ℤ}
use Rattle.std.proofs.Common.{refl}
use Rattle.std.proofs.Props.{props}
use Rattle.affine_core.specs.declared.form.Form.{Form}
use Rattle.source_tree.specs.Rows.{RowExpr}
use Rattle.tree_graphs.specs.Edges.{AreEdges}
use Rattle.tree_graphs.specs.declared.edges.Edge.{Edge}
use Rattle.tree_sums.specs.Closure.{AtMost}

abbrev numbers_of : Form → ℤ × List ℤ
numbers_of f = (f.constant, f.coefs)

abbrev with_numbers : ℤ × List ℤ → Form
with_numbers x = record { constant = x.0; coefs = x.1 }

pub same_numbers : (f : Form) → with_numbers (numbers_of f) ≡ f
same_numbers f = refl

-- a form is told by its numbers
abbrev form_code : Coded Form
form_code = code_by (ℤ × List ℤ) (coded× coded_ℤ (coded_list coded_ℤ)) numbers_of with_numbers same_numbers

abbrev ends_of : Edge → ℕ × (ℕ × Form)
ends_of g = (g.from, (g.to, g.weight))

abbrev with_ends : ℕ × (ℕ × Form) → Edge
with_ends x = record { from = x.0; to = x.1.0; weight = x.1.1 }

pub same_ends : (g : Edge) → with_ends (ends_of g) ≡ g
same_ends g = refl

-- an edge is told by its nodes and its weight
abbrev pub edge_code : Coded Edge
edge_code = code_by (ℕ × (ℕ × Form)) (coded× coded_ℕ (coded× coded_ℕ form_code)) ends_of with_ends same_ends

-- rows are those of edges in one way at most
pub edges_once : (place : List Form) (rows : List RowExpr) (edges : List Edge) → IsProp (AreEdges place rows edges)
edges_once place [] [] = Unit-prop
edges_once place [] (g ∷ edges) = λ x. absurd x
edges_once place (row ∷ rows) [] = λ x. absurd x
edges_once place (row ∷ rows) (g ∷ edges) =
    ×_prop (Π_prop (λ part. Coded-set coded_ℤ _ _)) (edges_once place rows edges)

-- a bound is at most another one in one way
pub at_most_once : (x y : Option ℤ) → IsProp (AtMost x y)
at_most_once None None = Unit-prop
at_most_once (Some x) None = Unit-prop
at_most_once None (Some y) = λ x. absurd x
at_most_once (Some x) (Some y) = Prim.hlevel props

-- the set by which edges and bounds are those of a graph in one way at most
pub ruleset graph_props = (props, Unit-prop, edge_code, edges_once, at_most_once)
