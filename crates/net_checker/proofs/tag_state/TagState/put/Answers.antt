use Rattle.std.proofs.Common.{[], ◌∷◌, ◌++◌, ◌-◌, ℕ, set, get_or, ap, ◌∙◌, arith, sub-one}
use Rattle.std.proofs.lemmas.List.{get_or_read}
use Rattle.net_checker.proofs.tag_state.TagState.put.Goals as goal

pub overflow_sub-turn : goal.overflow_sub-turn
overflow_sub-turn c =
    omega (
      arith,
      get_or_read c.args.self.now.fires.items c.args.process c.index.result.now c.requires.process c.index.ensures 0,
      c.requires.fired,
    )

pub returns-clause-queues : goal.returns-clause-queues
returns-clause-queues c =
    let self = c.args.self.now in
    let read = get_or_read self.fires.items c.args.process c.index.result.now c.requires.process c.index.ensures 0 in
    c.in_ok-push_turn.ensures
    ∙ ap (λ (turn : ℕ).
    set self.queues.items c.args.channel (get_or self.queues.items c.args.channel [] ++ turn ∷ []))
    (ap (λ (fires : ℕ). fires - 1) read ∙ sub-one (get_or self.fires.items c.args.process 0))
