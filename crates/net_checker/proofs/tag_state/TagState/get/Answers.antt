use Rattle.std.proofs.Common.{◌≡◌, Some, [], List, ℕ, set, get_or, sym, ap, ap₂, ◌∙◌}
use Rattle.net_core.specs.Names.{tag}
use Rattle.net_checker.specs.TagStates.{slot_lists}
use Rattle.net_checker.proofs.tag_state.TagState.get.Goals as goal

pub returns-clause-slots : goal.returns-clause-slots
returns-clause-slots c =
    let self = c.args.self.now in
    let queue = get_or self.queues.items c.args.channel [] in
    let first : c.pop_turn-turn.result ≡ get_or queue 0 0 =
    sym (ap (λ (xs : List ℕ). get_or xs 0 0) c.pop_turn-turn.ensures.first) in
    c.in_ok-fill_slot.ensures
    ∙ ap₂ (λ (w t : ℕ).
    set (slot_lists self) c.args.process (set (get_or (slot_lists self) c.args.process []) c.args.slot
    (Some (tag w t)))) c.writer_of.ensures first
