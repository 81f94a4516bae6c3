-- The forms that bound a loop variable above, and the least of them.
use Rattle.std.specs.Prelude.{◌≡◌, ◌<◌, ◌*◌, ◌+◌, ◌-◌, ◌^◌, ◌&&◌, ◌==◌, ℕ, ◌+ℤ◌, ◌-ℤ◌, List, [], ◌∷◌, ◌++◌, length, map, nat_lt, All, Option, Some, None, slice_get, if◌then◌else◌}
use Rattle.std.specs.List.{range_with_len, sum_by}
use Rattle.std.specs.Option.{option_map}
use Rattle.affine_core.specs.declared.form.Form.{Form}
use Rattle.int_polyhedra.specs.declared.system.System.{System}
use Rattle.int_polyhedra.specs.declared.system.Term.{Term}
use Rattle.tree_graphs.specs.Asked.{depth_of_write}
use Rattle.tree_graphs.specs.Closed.{value_at}
use Rattle.tree_graphs.specs.Edges.{edge_parts}
use Rattle.tree_graphs.specs.Facts.{form_parts, IsFact}
use Rattle.tree_graphs.specs.Rounds.{AreClosedOf, IsGraphOf}
use Rattle.tree_graphs.specs.declared.closure.Bounds.{Bounds}
use Rattle.lex_max.specs.declared.decide.Choice.{Choice}
use Rattle.tree_graphs.specs.declared.edges.Edge.{Edge}
use Rattle.tree_graphs.specs.declared.writes.Writes.{Writes}

-- the form of the path to a variable that begins with this edge, if it is one from 0 and there is a path
abbrev pub upper_of : ℕ → Bounds → ℕ → Edge → Option Form
upper_of depth bounds v g =
    if (g.from == depth) && nat_lt g.to depth
    then option_map (λ value. record g.weight { constant = g.weight.constant +ℤ value })
    (value_at bounds g.to v)
    else None

-- per edge the form that bounds a variable above
abbrev pub uppers_of : ℕ → Bounds → List Edge → ℕ → List (Option Form)
uppers_of depth bounds edges v = map (upper_of depth bounds v) edges

-- per variable, of so many from this one on
abbrev pub uppers_from : ℕ → Bounds → List Edge → ℕ → ℕ → List (List (Option Form))
uppers_from depth bounds edges v n = map (uppers_of depth bounds edges) (range_with_len v n)

-- per form that is there terms that show in a context that it is no less than another form
abbrev pub AreNoLess : System → Form → ℕ → List (Option Form) → List (Option (List Term)) → Type 0
AreNoLess context least most [] [] = Unit {0}
AreNoLess context least most [] (terms ∷ less) = ⊥
AreNoLess context least most (form ∷ forms) [] = ⊥
AreNoLess context least most (None ∷ forms) (terms ∷ less) =
    (terms ≡ None) × AreNoLess context least most forms less
AreNoLess context least most (Some form ∷ forms) (None ∷ less) = ⊥
AreNoLess context least most (Some form ∷ forms) (Some terms ∷ less) =
    IsFact context most (λ part. form_parts form part -ℤ form_parts least part) terms
    × AreNoLess context least most forms less

-- a choice for a variable among the first of its forms
pub record IsChoice (depth : ℕ) (bounds : Bounds) (edges : List Edge) (context : System) (v : ℕ)
    (done : List (Option Form)) (choice : Choice) : Type 0 where
  pub edge_is : slice_get (uppers_of depth bounds edges v) choice.edge ≡ Some (Some choice.form)
  pub no_less : AreNoLess context choice.form (65536 * length done) done choice.less

-- choices for the variables from this one on, each among all its forms
abbrev pub AreChoices : ℕ → Bounds → List Edge → System → ℕ → List Choice → Type 0
AreChoices depth bounds edges context v [] = Unit {0}
AreChoices depth bounds edges context v (choice ∷ choices) =
    IsChoice depth bounds edges context v (uppers_of depth bounds edges v) choice
    × AreChoices depth bounds edges context (v + 1) choices

-- the chosen place
abbrev pub chosen_place : List Choice → List Form
chosen_place choices = map (λ choice. choice.form) choices

-- per edge terms that show its row at a place
abbrev pub AreCerts : System → List Form → List Edge → List (List Term) → Type 0
AreCerts context place [] [] = Unit {0}
AreCerts context place [] (terms ∷ certs) = ⊥
AreCerts context place (g ∷ edges) [] = ⊥
AreCerts context place (g ∷ edges) (terms ∷ certs) =
    IsFact context (2 ^ 23) (edge_parts place g) terms × AreCerts context place edges certs

-- terms with the same terms behind each
abbrev pub with_terms : List Term → Option (List Term) → Option (List Term)
with_terms more None = None
with_terms more (Some ts) = Some (ts ++ more)

-- no form is there
abbrev pub AllNone : List (Option Form) → Type 0
AllNone forms = All (λ form. form ≡ None) forms

-- the graph of the rows on the writer's point, with the least sums of edges between its loop variables
pub record AreReady (w : Writes) (edges : List Edge) (bounds : Bounds) : Type 0 where
  pub graph : IsGraphOf w edges
  pub closed : AreClosedOf w edges bounds

-- a form is chosen for each loop variable
pub record AreChosen (w : Writes) (edges : List Edge) (bounds : Bounds) (context : System)
    (choices : List Choice) : Type 0 where
  pub all : length choices ≡ depth_of_write w
  pub each : AreChoices (depth_of_write w) bounds edges context 0 choices

-- how many Tests the forms that are left may want
abbrev pub choices_left : List (Option Form) → List (List (Option Form)) → ℕ
choices_left forms more = length forms + (sum_by length more + 56)

-- some variables are chosen, and the next one among the first of its forms
pub record IsChoosing (depth : ℕ) (bounds : Bounds) (edges : List Edge) (context : System)
    (forms : List (Option Form)) (more : List (List (Option Form))) (choice : Choice)
    (choices : List Choice) : Type 0 where
  pub below : length choices < depth
  pub done : List (Option Form)
  pub rest : done ++ forms ≡ uppers_of depth bounds edges (length choices)
  pub choosing : IsChoice depth bounds edges context (length choices) done choice
  pub chosen : AreChoices depth bounds edges context 0 choices
  pub others : more
      ≡ uppers_from depth bounds edges (length choices + 1) (depth - (length choices + 1))

-- terms for the first edges, of which these are left
pub record AreCertsSoFar (context : System) (place : List Form) (whole rest : List Edge)
    (certs : List (List Term)) : Type 0 where
  pub done : List Edge
  pub all : done ++ rest ≡ whole
  pub shown : AreCerts context place done certs

-- A choice among a variable's first forms, in a context, is followed by one among one form more, in the same context
-- or in one with a row behind.
pub record IsNextChoice (context more : System) (form : Option Form) (choice next : Choice)
    : Type 0 where
  pub follows : (depth : ℕ) (bounds : Bounds) (edges : List Edge) (v : ℕ)
      (done : List (Option Form)) → IsChoice depth bounds edges context v done choice
      → slice_get (uppers_of depth bounds edges v) (length done) ≡ Some form
      → IsChoice depth bounds edges more v (done ++ form ∷ []) next
