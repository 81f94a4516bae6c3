use Rattle.std.proofs.Common.{ap, ◌∙◌, sym, length, map, replicate, [], None}
use Rattle.std.proofs.lemmas.List.{length-map, length-replicate}
use Rattle.net_core.specs.declared.network.Process.{Process}
use Rattle.net_core.specs.Machine.{net_of}
use Rattle.net_checker.specs.SlotRows.{slots_in}
use Rattle.net_checker.proofs.TagSteps.{opens, opens_state}
use Rattle.net_checker.proofs.tag_state.TagState.new.Goals as goal

pub invariant_of-wired-clause-wired : goal.invariant_of-wired-clause-wired
invariant_of-wired-clause-wired c = c.args.fitting.now.shape.shaped.wired

pub invariant_of-wired-clause-numbers : goal.invariant_of-wired-clause-numbers
invariant_of-wired-clause-numbers c = c.args.fitting.now.numbers

pub returns-clause-start : goal.returns-clause-start
returns-clause-start c =
    opens c.args.fitting.now.network.now _ _ _ _ c.in_ok-new.ensures.opening
    (c.in_ok-vec.ensures.items_if_clones_equal (λ y h. h) ∙ ap (λ k. replicate k 0) c.len.ensures)
    (c.in_ok-empty_queues.ensures ∙ ap (λ k. replicate k []) c.len-2.ensures)
    (c.in_ok-all_slots.ensures
    ∙ ap (map (λ (process : Process). replicate process.slots None)) c.as_slice.ensures)

pub returns-clause-state : goal.returns-clause-state
returns-clause-state c =
    let fires = c.in_ok-vec.ensures.items_if_clones_equal (λ y h. h) ∙ ap (λ k. replicate k 0) c.len.ensures in
    let queues = c.in_ok-empty_queues.ensures ∙ ap (λ k. replicate k []) c.len-2.ensures in
    let slots = c.in_ok-all_slots.ensures
    ∙ ap (map (λ (process : Process). replicate process.slots None)) c.as_slice.ensures in
    opens_state (net_of c.args.fitting.now.network.now) _ c.in_ok-new.ensures.progress
    (ap length fires ∙ length-replicate _ _) (ap length queues ∙ length-replicate _ _)
    (sym (length-map _ slots_in) ∙ ap length slots ∙ length-map c.args.fitting.now.network.now.processes _)
    (opens c.args.fitting.now.network.now _ _ _ _ c.in_ok-new.ensures.opening fires queues slots)
