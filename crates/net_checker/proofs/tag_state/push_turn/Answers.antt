use Rattle.std.proofs.Common.{[], ◌∷◌, ◌++◌, List, ℕ, set, ap, ◌∙◌}
use Rattle.std.proofs.lemmas.List.{get_or_read}
use Rattle.net_checker.proofs.tag_state.push_turn.Goals as goal

pub returns : goal.returns
returns c =
    let queues = c.args.queues.now.items in
    let read = get_or_read queues c.args.channel c.index_mut.result.now c.requires c.index_mut.ensures.value [] in
    ap (set queues c.args.channel)
    (c.in_ok-push.ensures ∙ ap (λ (xs : List ℕ). xs ++ c.args.turn ∷ []) read)
