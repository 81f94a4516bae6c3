-- Steps of an execution, over plain variables.
use Rattle.std.proofs.Common.{◌≡◌, ◌<◌, ◌+◌, ℕ, ℤ, pos, ◌+ℤ◌, ◌≤ℤ◌, ◌<ℤ◌, List, [], ◌∷◌, ◌++◌, map, length, sym, ap}
use Rattle.std.proofs.Common.{◌∙◌}
use Rattle.std.specs.Prelude.{Bool, Result, Ok, Err, IsTrue, OnOk}
use Rattle.affine_core.specs.declared.form.Form.{Form}
use Rattle.sanlp.specs.declared.nest.Inputs.{Inputs}
use Rattle.sanlp.specs.declared.nest.Nest.{Nest}
use Rattle.sanlp.specs.declared.nest.Node.{Node}
use Rattle.sanlp.specs.declared.nest.Node.TheViews.{Loop}
use Rattle.sanlp.specs.declared.nest.Node.TheVariants.{Assign}
use Rattle.sanlp.specs.declared.nest.Statement.{Statement}
use Rattle.sanlp.specs.Loops.{interval, loop_values}
use Rattle.sanlp.specs.Meaning.{Action, execute, exec_step, exec_node, in_turn, turns}
use Rattle.sanlp.specs.Memory.{Memory}
use Rattle.sanlp.specs.WellFormed.{all_forms_fit, forms_fit}
use Rattle.sanlp.specs.Size.{is_loop_value, node_within}
use Rattle.loop_walk.specs.Counting.{IsLoopRange}
use Rattle.loop_run.specs.Execution.{all_placed, node_placed, placed_step}
use Rattle.loop_walk.specs.EnteredLoops.{turns_within}
use Rattle.sanlp.proofs.Intervals.{interval_step, interval_end}
use Rattle.sanlp.proofs.Folds.{fold_loop, fold_assign}
use Rattle.loop_walk.proofs.LoopEntries.{loop_fits, loop_turns_within}

-- a loop that stands in its place
loop_placed : (id : ℕ) (lower upper : List Form) (step : ℤ) (body : List Node) (statements : List Statement) (depth : ℕ)
    → IsTrue (node_placed statements (Loop id lower upper step body) depth)
    → IsTrue (all_placed statements body (depth + 1))
loop_placed id lower upper step body statements depth h =
    sym (ap (λ f. f depth) (fold_loop (ℕ → Bool) (placed_step statements) id lower upper step body)) ∙ h

-- what the turns of a loop may rest on
pub loop_keeps : (statements : List Statement) (node : Node) (at : List ℤ) (id : ℕ) (lower upper lows ups : List Form)
    (step : ℤ) (body parts : List Node) (first last : ℤ)
    → node ≡ Loop id lower upper step body → lows ≡ lower → ups ≡ upper → parts ≡ body
    → IsLoopRange lows ups step at first last
    → IsTrue (forms_fit node (length at)) → IsTrue (node_placed statements node (length at))
    → IsTrue (node_within node at)
    → (length at < 6)
    × (IsTrue (is_loop_value first) × (IsTrue (is_loop_value last) × (IsTrue (all_forms_fit parts (length at + 1))
    × (IsTrue (all_placed statements parts (length at + 1)) × IsTrue (turns_within parts at (interval first last))))))
loop_keeps statements node at id lower upper lows ups step body parts first last is low up part range fits placed
    within =
    let fit = loop_fits id lower upper step body (length at) (sym (ap (λ x. forms_fit x (length at)) is) ∙ fits) in
    let all =
    loop_placed id lower upper step body statements (length at)
    (sym (ap (λ x. node_placed statements x (length at)) is) ∙ placed) in
    let turns = loop_turns_within id lower upper step body at (sym (ap (λ x. node_within x at) is) ∙ within) in
    let values =
    sym range.values ∙ ap (λ w. loop_values w ups step at) low ∙ ap (λ w. loop_values lower w step at) up in (
      fit.0,
      (
        range.first_within,
        (
          range.last_within,
          (
            ap (λ ps. all_forms_fit ps (length at + 1)) part ∙ fit.2,
            (
              ap (λ ps. all_placed statements ps (length at + 1)) part ∙ all,
              ap (λ ps. turns_within ps at (interval first last)) part ∙ ap (turns_within body at) values ∙ turns,
            ),
          ),
        ),
      ),
    )

pub on_ok_along : {T E : Type 0} (r : Result T E) (m a b : Memory) → a ≡ b → OnOk r (m ≡ a) → OnOk r (m ≡ b)
on_ok_along (Ok x) m a b e h = h ∙ e
on_ok_along (Err x) m a b e h = tt

-- a loop is executed where its turns are
pub loop_done : {T E : Type 0} (n : Nest) (d : Inputs) (node : Node) (at : List ℤ) (m after : Memory) (id : ℕ)
    (lower upper lows ups : List Form) (step : ℤ) (body parts : List Node) (first last : ℤ) (r : Result T E)
    → node ≡ Loop id lower upper step body → lows ≡ lower → ups ≡ upper → parts ≡ body
    → IsLoopRange lows ups step at first last
    → OnOk r (after ≡ turns (in_turn (map (exec_node n d) parts)) (interval first last) at m)
    → OnOk r (after ≡ exec_node n d node at m)
loop_done n d node at m after id lower upper lows ups step body parts first last r is low up part range h =
    on_ok_along r after _ _
    (ap (λ values. turns (in_turn (map (exec_node n d) parts)) values at m)
    (sym range.values ∙ ap (λ w. loop_values w ups step at) low ∙ ap (λ w. loop_values lower w step at) up)
    ∙ ap (λ w. turns (in_turn (map (exec_node n d) w)) (loop_values lower upper step at) at m) part
    ∙ sym (ap (λ act. act at m) (fold_loop Action (exec_step n d) id lower upper step body))
    ∙ ap (λ w. exec_node n d w at m) (sym is)) h

-- an assignment is executed where its point is
pub assign_done : {T E : Type 0} (n : Nest) (d : Inputs) (node : Node) (at : List ℤ) (m after : Memory) (s : ℕ)
    (r : Result T E)
    → node ≡ Assign s → OnOk r (after ≡ execute n d m (record { statement = s; at = at }))
    → OnOk r (after ≡ exec_node n d node at m)
assign_done n d node at m after s r is h =
    on_ok_along r after _ _
    (sym (ap (λ act. act at m) (fold_assign Action (exec_step n d) s)) ∙ ap (λ w. exec_node n d w at m) (sym is)) h

module _ (body : Action) (value last : ℤ) (at : List ℤ) (m all : Memory) where
  pub turn_done : (after : Memory) → value ≤ℤ last → after ≡ body (at ++ value ∷ []) m
      → turns body (interval value last) at m ≡ all
      → turns body (interval (value +ℤ pos 1) last) at after ≡ all
  turn_done after le e h =
      ap (turns body (interval (value +ℤ pos 1) last) at) e
      ∙ ap (λ values. turns body values at m) (sym (interval_step value last le))
      ∙ h

  pub turns_done : last <ℤ value → turns body (interval value last) at m ≡ all → m ≡ all
  turns_done lt h = ap (λ values. turns body values at m) (sym (interval_end value last lt)) ∙ h
