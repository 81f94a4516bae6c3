use Rattle.std.proofs.Common.{◌∙◌, ◌++◌, ◌∷◌, [], ℕ, Bool, All, List, map, subst, sym, ap}
use Rattle.std.specs.List.{filter, range_with_len}
use Rattle.std.proofs.lemmas.List.{map_push}
use Rattle.std.proofs.lemmas.List.Elements.{All-push}
use Rattle.node_automata.proofs.NumberFilters.{passing_more, passing_same}
use Rattle.unit_text.specs.declared.unit.LoopCounter.{LoopCounter}
use Rattle.unit_text.specs.Units.{IsCounterOf, names_loop}
use Rattle.unit_text.proofs.unit.loop_counters.Goals as goal
use Rattle.unit_text.proofs.unit.loop_counters.Goals.{then-names+in_ok-loop_counter+in_ok-push, else-names}

pub loop-number-preserved : goal.loop-number-preserved
loop-number-preserved c =
    let auto = c.args.auto.now in
    let k = c.loop-number.number in
    let test : ℕ → Bool = λ n. names_loop n auto.expr in
    let number_of : LoopCounter → ℕ = λ counter. counter.number in
    let h = c.loop-number.invariant in
    let old = c.loop-number.loops in
    elim c.if-names.branch [
      | then-names+in_ok-loop_counter+in_ok-push w ↦
          let counter = w.in_ok-loop_counter.field-0 in
          let made = w.loops-is ∙ w.in_ok-push.ensures.ok in
          record {
            numbers = ap (map number_of) made
                ∙ map_push number_of old counter
                ∙ ap (λ (ns : List ℕ). ns ++ number_of counter ∷ []) h.numbers
                ∙ ap (λ n. filter test (range_with_len 0 k) ++ n ∷ []) w.in_ok-loop_counter.ensures.number
                ∙ sym (passing_more test k (sym c.names.ensures ∙ w.if-names.true));
            counters = subst (All (IsCounterOf auto.values)) (sym made)
                (All-push (IsCounterOf auto.values) old counter h.counters
                (subst (λ points. IsCounterOf points counter) c.as_slice-points.ensures
                w.in_ok-loop_counter.ensures.counter));
          }
      | else-names w ↦
          record {
            numbers = ap (map number_of) w.loops-is
                ∙ h.numbers
                ∙ sym (passing_same test k (sym c.names.ensures ∙ w.if-names.false));
            counters = subst (All (IsCounterOf auto.values)) (sym w.loops-is) h.counters;
          }
    ]
