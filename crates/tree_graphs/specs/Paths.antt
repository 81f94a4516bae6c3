-- Sums of edges along paths.
use Rattle.std.specs.Prelude.{◌≡◌, ◌<◌, ◌≤ℤ◌, ℕ, ◌+◌, ℤ, pos, ◌+ℤ◌, ◌-ℤ◌, List, length, map, All, slice_get}
use Rattle.std.specs.Option.{option_map_or}
use Rattle.affine_core.specs.declared.form.Form.{Form}
use Rattle.int_polyhedra.specs.declared.system.Term.{Term}
use Rattle.tree_graphs.specs.declared.edges.Edge.{Edge}
use Rattle.tree_graphs.specs.Edges.{edge_parts}
use Rattle.tree_sums.specs.Parts.{Part, row_part, weighted_sum}
use Rattle.tree_sums.specs.Shown.{RowParts}

-- a row, once
abbrev pub term_of : ℕ → Term
term_of row = record { row = row; times = pos 1 }

-- terms whose row numbers are counted from this one on
abbrev pub terms_from : ℕ → List Term → List Term
terms_from first ts = map (λ t. record { row = first + t.row; times = t.times }) ts

-- a part of the row of the edge of this number, at a place
abbrev pub edge_part : List Form → List Edge → Part → ℕ → ℤ
edge_part place edges part k =
    option_map_or (λ g. edge_parts place g part) (slice_get edges k) (pos 0)

-- these terms name edges, and at each place their sum is `sum + place_from - place_to`
pub record IsPath (edges : List Edge) (ts : List Term) (sum : RowParts) (from to : ℕ) : Type 0 where
  pub name_edges : All (λ t. t.row < length edges) ts
  pub not_negative : All (λ t. pos 0 ≤ℤ t.times) ts
  pub same : (place : List Form) (part : Part) → weighted_sum (edge_part place edges part) ts
      ≡ (sum part +ℤ row_part place part from) -ℤ row_part place part to
