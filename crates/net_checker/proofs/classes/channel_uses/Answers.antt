use Rattle.std.proofs.Common.{◌≡◌, ℕ, ◌+◌, List, [], ◌++◌, length, take, drop, get_or, count_by, ap, ◌∙◌, arith}
use Rattle.net_core.specs.Shape.{is_get}
use Rattle.net_core.specs.Uses.{uses_before}
use Rattle.net_core.specs.Machine.{net_of}
use Rattle.net_core.proofs.Fresh.{written_back}
use Rattle.net_checker.proofs.ChannelUses.{below_more, below_as}
use Rattle.net_checker.proofs.classes.channel_uses.Goals as goal

pub loop-process-preserved : goal.loop-process-preserved
loop-process-preserved c =
    let net = net_of c.args.fitting.now.network.now in
    let p = c.loop-process.process in
    let gets = c.add_script.new.gets in
    let uses = c.add_script.new.uses in
    let old_gets = c.loop-process.gets.items in
    let old_uses = c.loop-process.uses.items in
    let many_gets : length gets ≡ length old_gets = omega (arith, ap length c.deref_mut.ensures.value) in
    let many_uses : length uses ≡ length old_uses =
    omega (arith, ap length c.deref_mut-in-loop-process.ensures.value) in
    let back_gets : take c.loop-process.gets.len (gets ++ drop (length gets) old_gets) ≡ gets =
    written_back gets old_gets c.loop-process.gets.len (omega (arith, c.loop-process.gets.ok.0)) many_gets in
    let back_uses : take c.loop-process.uses.len (uses ++ drop (length uses) old_uses) ≡ uses =
    written_back uses old_uses c.loop-process.uses.len (omega (arith, c.loop-process.uses.ok.0)) many_uses in
    below_as net p _ gets _ uses back_gets back_uses
    (
    below_more net p old_gets gets old_uses uses c.args.fitting.now.shape.shaped.wired c.loop-process.invariant
    many_gets many_uses
    (λ d lt. c.in_ok-add_script.ensures.gets d lt
    ∙ ap (λ (xs : List ℕ). get_or xs d 0 + count_by (is_get d) (net.script p)) c.deref_mut.ensures.value)
    (λ d lt. c.in_ok-add_script.ensures.uses d lt
    ∙ ap (λ (xs : List (List ℕ)). get_or xs d []
    ++ uses_before net d p (length (net.script p))) c.deref_mut-in-loop-process.ensures.value)
    )
