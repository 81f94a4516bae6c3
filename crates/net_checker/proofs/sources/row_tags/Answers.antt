use Rattle.std.proofs.Common.{◌≡◌, ◌+◌, ◌*◌, ◌≤◌, [], Some, get_or, slice_get, sym, ap, ◌∙◌, subst, arith}
use Rattle.net_checker.proofs.TagRows.{IsTold, row_tag}
use Rattle.net_checker.proofs.sources.row_tags.Goals as goal

pub returns-clause-told : goal.returns-clause-told
returns-clause-told c =
    λ tree known i here lt is.
    let w = c.args.pace.now.statement in
    let next = c.in_ok-next.next in
    let step = c.in_ok-step.step in
    let m = c.args.length in
    let first : IsTold tree c.args.follower.now c.in_ok-first_at.first_at.now w c.in_ok-first_there.first_there.now =
    subst (λ point. IsTold tree c.args.follower.now c.in_ok-first_at.first_at.now w point) c.as_slice.ensures.value
    ((c.tells.ensures tree known).0 c.if-not-tells.false) in
    let last : IsTold tree c.args.follower.now c.in_ok-last_at.last_at.now w c.in_ok-last_there.last_there.now =
    subst (λ point. IsTold tree c.args.follower.now c.in_ok-last_at.last_at.now w point) c.as_slice-2.ensures.value
    ((c.tells-2.ensures tree known).0 c.if-not-tells-2.false) in
    let turns : c.in_ok-last_turn.last_turn ≡ c.args.turn + m = c.in_ok-last_turn.ensures.1 in
    let product : c.in_ok-checked_mul.field-0 ≡ m * step = c.in_ok-checked_mul.ensures.1 in
    let of = c.args.candidate.now.points.now.of in
    let u = c.args.statement in
    let tags : c.in_ok-last.last ≡ next + m * step = c.in_ok-last.ensures.1 ∙ ap (λ k. next + k) product in
    let within : i ≤ m = omega (arith, lt, c.in_ok-left.ensures.1) in
    let is_to : slice_get (get_or of u []) (c.args.turn + m)
    ≡ Some c.in_ok-last_at.last_at.now =
    ap (slice_get (get_or of u [])) (sym turns) ∙ sym c.in_ok-last_at.ensures in
    let is_goal : slice_get (get_or of w []) (next + m * step) ≡ Some c.in_ok-last_there.last_there.now =
    ap (slice_get (get_or of w [])) (sym tags) ∙ sym c.in_ok-last_there.ensures in
    row_tag c.args.candidate.now.nest.now of tree c.args.follower.now u w c.args.turn next step
    m c.in_ok-first_at.first_at.now c.in_ok-last_at.last_at.now c.in_ok-first_there.first_there.now
    c.in_ok-last_there.last_there.now c.args.candidate.now.points_of_nest known (omega (arith, c.if-length-eq0.false))
    (sym c.in_ok-first_at.ensures) is_to (sym c.in_ok-first_there.ensures) is_goal
    (c.is_ahead.ensures c.if-not-is_ahead.false) (c.is_even_row.ensures.row c.if-not-is_even_row.false) first last i here within
    is
