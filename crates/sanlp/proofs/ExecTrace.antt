-- The sequential meaning executes the points of the trace, in order.
--
-- By induction on the nodes of the body: at any values of the loops round a node and from any memory, what the node
-- does is executing the points that it gives there, one after the other. A loop is its turns in order, a guard its
-- body or nothing, an assignment one point; joining lists of points is doing one after the other (`fold_flat`).
-- Nothing is said of which points these are: that they are the iteration domains in order is Enumerates.
use Rattle.std.proofs.Common.{◌≡◌, ℤ, List, [], ◌∷◌, ◌++◌, map, Bool, true, false, cond, refl, sym, ap, ◌∙◌, subst}
use Rattle.std.specs.List.{fold, flat_map}
use Rattle.std.proofs.lemmas.List.Sums.{fold-append}
use Rattle.sanlp.specs.declared.nest.Inputs.{Inputs}
use Rattle.sanlp.specs.declared.nest.Nest.{Nest}
use Rattle.sanlp.specs.declared.nest.Node.{Node}
use Rattle.sanlp.specs.declared.nest.Node.TheOpen.{Node-F, Loop, Guard, Assign}
use Rattle.sanlp.specs.declared.nest.Node.TheFolds.{map-Node, fold-roll-Node, ind-Node}
use Rattle.sanlp.specs.declared.nest.Node.TheViews.{roll-Node}
use Rattle.sanlp.specs.declared.nest.Point.{Point}
use Rattle.sanlp.specs.Laws.{FollowsTrace}
use Rattle.sanlp.specs.Loops.{loop_values, all_hold}
use Rattle.sanlp.specs.Meaning.{exec, execute, Action, in_turn, exec_step, exec_node}
use Rattle.sanlp.specs.Memory.{Memory, no_cells}
use Rattle.sanlp.specs.Trace.{PointsAt, all_points, trace, trace_step, trace_node}

-- doing f at each x in turn is executing the points of each x in turn
fold_flat : {X : Type 0} (execute : Memory → Point → Memory) (f : Memory → X → Memory) (g : X → List Point)
    → ((x : X) (m : Memory) → f m x ≡ fold execute m (g x))
    → (m : Memory) (xs : List X) → fold f m xs ≡ fold execute m (flat_map g xs)
fold_flat execute f g same m [] = refl
fold_flat execute f g same m (x ∷ xs) =
    ap (λ m. fold f m xs) (same x m) ∙ fold_flat execute f g same _ xs
    ∙ sym (fold-append execute m (g x) (flat_map g xs))

module _ (n : Nest) (d : Inputs) where
  abbrev pub IsTraced : Node → Type 0
  IsTraced node = (at : List ℤ) (m : Memory) → exec_node n d node at m ≡ fold (execute n d) m (trace_node node at)

  abbrev Traced : Type 0
  Traced = (node : Node) × IsTraced node

  -- a list of parts
  parts_traced : (parts : List Traced) (at : List ℤ) (m : Memory)
      → in_turn (map (exec_node n d) (map (λ e. e.0) parts)) at m
      ≡ fold (execute n d) m (flat_map (λ part. part at) (map trace_node (map (λ e. e.0) parts)))
  parts_traced [] at m = refl
  parts_traced (e ∷ parts) at m =
      ap (λ m. in_turn (map (exec_node n d) (map (λ e. e.0) parts)) at m) (e.1 at m)
      ∙ parts_traced parts at (fold (execute n d) m (trace_node e.0 at))
      ∙ sym (fold-append (execute n d) m (trace_node e.0 at) _)

  layer_traced : (y : Node-F Traced) → IsTraced (roll-Node (map-Node Traced Node (λ e. e.0) y))
  layer_traced (Loop id lower upper step body) at m =
      ap (λ act. act at m) (fold-roll-Node Action (exec_step n d) (Loop id lower upper step (map (λ e. e.0) body)))
      ∙ fold_flat (execute n d) _ _ (λ v m. parts_traced body (at ++ v ∷ []) m) m (loop_values lower upper step at)
      ∙ ap (λ ps. fold (execute n d) m (ps at))
      (sym (fold-roll-Node PointsAt trace_step (Loop id lower upper step (map (λ e. e.0) body))))
  layer_traced (Guard rows body) at m =
      ap (λ act. act at m) (fold-roll-Node Action (exec_step n d) (Guard rows (map (λ e. e.0) body)))
      ∙ guarded (all_hold rows at)
      ∙ ap (λ ps. fold (execute n d) m (ps at))
      (sym (fold-roll-Node PointsAt trace_step (Guard rows (map (λ e. e.0) body)))) where
        guarded : (b : Bool) → cond b (in_turn (map (exec_node n d) (map (λ e. e.0) body)) at m) m
            ≡ fold (execute n d) m (cond b (flat_map (λ part. part at) (map trace_node (map (λ e. e.0) body))) [])
        guarded true = parts_traced body at m
        guarded false = refl
  layer_traced (Assign s) at m =
      ap (λ act. act at m) (fold-roll-Node Action (exec_step n d) (Assign s))
      ∙ ap (λ ps. fold (execute n d) m (ps at)) (sym (fold-roll-Node PointsAt trace_step (Assign s)))

  node_traced : (node : Node) → IsTraced node
  node_traced = ind-Node IsTraced (λ x y is. subst (λ z. IsTraced (roll-Node z)) is (layer_traced y))

  nodes_traced : (nodes : List Node) (at : List ℤ) (m : Memory)
      → in_turn (map (exec_node n d) nodes) at m ≡ fold (execute n d) m (all_points (map trace_node nodes) at)
  nodes_traced [] at m = refl
  nodes_traced (node ∷ nodes) at m =
      ap (λ m. in_turn (map (exec_node n d) nodes) at m) (node_traced node at m)
      ∙ nodes_traced nodes at _
      ∙ sym (fold-append (execute n d) m (trace_node node at) _)

  pub follows_trace : FollowsTrace n d
  unfolding exec trace
  follows_trace = nodes_traced n.body [] no_cells
