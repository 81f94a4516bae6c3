use Rattle.std.proofs.Common.{[], ◌∷◌, List, ℕ, drop, set, sym, ap, ◌∙◌, arith, length}
use Rattle.std.proofs.lemmas.List.{get_or_read}
use Rattle.net_checker.proofs.tag_state.pop_turn.Goals as goal

pub unreachable-requires : goal.unreachable-requires
unreachable-requires c =
    let queues = c.args.queues.now.items in
    let read = get_or_read queues c.args.channel c.index_mut.result.now c.requires.channel c.index_mut.ensures.value []
    in
    omega (arith, ap length (sym read ∙ c.in-None.ensures), c.requires.token)

pub returns-clause-first : goal.returns-clause-first
returns-clause-first c =
    let queues = c.args.queues.now.items in
    let read = get_or_read queues c.args.channel c.index_mut.result.now c.requires.channel c.index_mut.ensures.value []
    in
    let is = sym read ∙ c.in-Some.ensures in
    is ∙ ap (λ (xs : List ℕ). c.in-Some.turn ∷ drop 1 xs) (sym is)

pub returns-clause-rest : goal.returns-clause-rest
returns-clause-rest c =
    let queues = c.args.queues.now.items in
    let read = get_or_read queues c.args.channel c.index_mut.result.now c.requires.channel c.index_mut.ensures.value []
    in
    let is = sym read ∙ c.in-Some.ensures in
    ap (λ (xs : List ℕ). set queues c.args.channel (drop 1 xs)) (sym is)
