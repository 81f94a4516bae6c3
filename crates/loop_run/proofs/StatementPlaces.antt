-- The statements that stand in the body of a nest exist, and have as many loops as stand round them.
use Rattle.std.proofs.Common.{◌≡◌, ℕ, List, [], ◌∷◌, ◌++◌, map, length, refl, sym, ap, ◌∙◌, subst, append_assoc}
use Rattle.std.proofs.Common.{length-append}
use Rattle.std.specs.Prelude.{Bool, true, false, ◌==◌, IsTrue, Some, slice_get}
use Rattle.std.specs.List.{list_all}
use Rattle.std.specs.Option.{option_map_or}
use Rattle.std.proofs.lemmas.List.{map-id}
use Rattle.std.proofs.lemmas.List.Folds.{list_all-append}
use Rattle.std.proofs.lemmas.Bool.{and_parts, and_from, eq-eqb, eqb-true}
use Rattle.affine_core.specs.declared.form.Form.{Form}
use Rattle.sanlp.specs.declared.nest.Nest.{Nest}
use Rattle.sanlp.specs.declared.nest.Node.{Node}
use Rattle.sanlp.specs.declared.nest.Node.TheOpen.{Node-F, Loop, Guard, Assign}
use Rattle.sanlp.specs.declared.nest.Node.TheFolds.{map-Node, fold-roll-Node, ind-Node}
use Rattle.sanlp.specs.declared.nest.Node.TheViews.{roll-Node}
use Rattle.sanlp.specs.declared.nest.Statement.{Statement}
use Rattle.sanlp.specs.WellFormed.{Place, Places, all_places, bound_rows, depth_of, in_each, places_of, places_step}
use Rattle.sanlp.specs.WellFormed.{said_from}
use Rattle.loop_run.specs.Execution.{all_placed, is_of_depth, node_placed, placed_step}

-- the statement of a place exists and has the place's loops
abbrev place_fits : List Statement → Place → Bool
place_fits statements place = is_of_depth statements (length place.loops) place.statement

get_after : (before : List Statement) (s : Statement) (rest : List Statement)
    → slice_get (before ++ s ∷ rest) (length before) ≡ Some s
get_after [] s rest = refl
get_after (b ∷ before) s rest = get_after before s rest

said_fit : (before rest : List Statement)
    → list_all (place_fits (before ++ rest)) (said_from (length before) rest) ≡ true
said_fit before [] = refl
said_fit before (s ∷ rest) =
    and_from _ _
    (ap (λ o. option_map_or (λ found. depth_of found == depth_of s) o false) (get_after before s rest)
    ∙ eq-eqb (depth_of s) (depth_of s) refl)
    (ap (λ k. list_all (place_fits (before ++ s ∷ rest)) (said_from k rest)) (sym (length-append before (s ∷ [])))
    ∙ ap (λ statements. list_all (place_fits statements) (said_from (length (before ++ s ∷ [])) rest))
    (sym (append_assoc before (s ∷ []) rest))
    ∙ said_fit (before ++ s ∷ []) rest)

module _ (statements : List Statement) where
  abbrev IsPlaced : Node → Type 0
  IsPlaced node =
      (loops : List ℕ) (rows : List Form) → list_all (place_fits statements) (places_of node loops rows) ≡ true
      → node_placed statements node (length loops) ≡ true

  module _ (X : Type 0) (node : X → Node) (placed : (x : X) → IsPlaced (node x)) where
    parts_placed : (parts : List X) (loops : List ℕ) (rows : List Form)
        → list_all (place_fits statements) (in_each (map places_of (map node parts)) loops rows) ≡ true
        → all_placed statements (map node parts) (length loops) ≡ true
    parts_placed [] loops rows h = refl
    parts_placed (x ∷ parts) loops rows h =
        let tests =
        and_parts _ _
        (sym (list_all-append (place_fits statements) (places_of (node x) loops rows)
        (in_each (map places_of (map node parts)) loops rows)) ∙ h) in
        and_from _ _ (placed x loops rows tests.0) (parts_placed parts loops rows tests.1)

    layer_placed : (y : Node-F X) → IsPlaced (roll-Node (map-Node X Node node y))
    layer_placed (Loop id lower upper step body) loops rows h =
        ap (λ f. f (length loops))
        (fold-roll-Node (ℕ → Bool) (placed_step statements) (Loop id lower upper step (map node body)))
        ∙ ap (all_placed statements (map node body)) (sym (length-append loops (id ∷ [])))
        ∙ parts_placed body (loops ++ id ∷ []) (rows ++ bound_rows (length loops) lower upper step)
        (sym (ap (λ f. list_all (place_fits statements) (f loops rows))
        (fold-roll-Node Places places_step (Loop id lower upper step (map node body)))) ∙ h)
    layer_placed (Guard guards body) loops rows h =
        ap (λ f. f (length loops)) (fold-roll-Node (ℕ → Bool) (placed_step statements) (Guard guards (map node body)))
        ∙ parts_placed body loops (rows ++ guards)
        (sym (ap (λ f. list_all (place_fits statements) (f loops rows))
        (fold-roll-Node Places places_step (Guard guards (map node body)))) ∙ h)
    layer_placed (Assign s) loops rows h =
        ap (λ f. f (length loops)) (fold-roll-Node (ℕ → Bool) (placed_step statements) (Assign s))
        ∙ (and_parts (is_of_depth statements (length loops) s) true
        (sym (ap (λ f. list_all (place_fits statements) (f loops rows)) (fold-roll-Node Places places_step (Assign s)))
        ∙ h)).0

  node_is_placed : (node : Node) → IsPlaced node
  node_is_placed =
      ind-Node IsPlaced
      (λ x y is. subst (λ z. IsPlaced (roll-Node z)) is
      (layer_placed ((node : Node) × IsPlaced node) (λ e. e.0) (λ e. e.1) y))

pub body_placed : (n : Nest) → IsTrue (all_placed n.statements n.body 0)
body_placed n =
    sym (ap (λ parts. all_placed n.statements parts 0) (map-id n.body))
    ∙ parts_placed n.statements Node (λ x. x) (node_is_placed n.statements) n.body [] []
    (ap (λ parts. list_all (place_fits n.statements) (all_places parts [] [])) (map-id n.body)
    ∙ ap (list_all (place_fits n.statements)) n.well_formed.placed ∙ said_fit [] n.statements)

-- a statement of this depth
pub depth_is : (statements : List Statement) (depth s : ℕ) (found : Statement)
    → IsTrue (is_of_depth statements depth s) → slice_get statements s ≡ Some found → depth_of found ≡ depth
depth_is statements depth s found h e =
    eqb-true _ _ (ap (λ o. option_map_or (λ found. depth_of found == depth) o false) (sym e) ∙ h)
