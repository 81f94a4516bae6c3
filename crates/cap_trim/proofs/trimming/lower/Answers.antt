use Rattle.std.proofs.Common.{◌≡◌, ◌∙◌, ◌<◌, true, false, length, get_or, sym, subst, arith}
use Rattle.net_core.specs.Machine.{net_of}
use Rattle.cap_trim.proofs.CapacitySearch.{IsTrying, least_found, least_own, trying_first, trying_more}
use Rattle.cap_trim.proofs.trimming.lower.Goals as goal

pub loop-capacity-init : goal.loop-capacity-init
loop-capacity-init c =
    let there : c.args.channel < length c.args.capacities.now = omega (arith, c.requires.channel, c.requires.capacities)
    in
    trying_first (net_of c.args.wired.now.network.now) c.args.wired.now.wired c.args.capacities.now c.args.channel there
    c.in_ok-progress.progress c.in_ok-progress.ensures.progress c.in_ok-progress.ensures.opening

pub loop-capacity-preserved : goal.loop-capacity-preserved
loop-capacity-preserved c =
    let there : c.args.channel < length c.args.capacities.now = omega (arith, c.requires.channel, c.requires.capacities)
    in
    trying_more (net_of c.args.wired.now.network.now) c.args.wired.now.wired c.args.capacities.now c.args.channel there
    c.loop-capacity.capacity c.loop-capacity.progress c.loop-capacity.capacities c.loop-capacity.invariant
    c.go_on.new.progress c.go_on.ensures.run c.go_on.ensures.stuck c.go_on.ensures.progress
    (λ ended. (let off : true ≡ false = sym (c.has_ended.ensures.1 ended) ∙ c.if-has_ended.false in cc))

pub returns-then-has_ended : goal.returns-then-has_ended
returns-then-has_ended c =
    let there : c.args.channel < length c.args.capacities.now = omega (arith, c.requires.channel, c.requires.capacities)
    in
    least_found (net_of c.args.wired.now.network.now) c.args.wired.now.wired c.args.capacities.now c.args.channel there
    c.loop-capacity.capacity c.loop-capacity.progress c.loop-capacity.capacities c.loop-capacity.invariant
    c.go_on.new.progress c.go_on.ensures.run c.go_on.ensures.stuck (omega arith) (c.has_ended.ensures.0 c.if-has_ended.true)

pub returns : goal.returns
returns c =
    let there : c.args.channel < length c.args.capacities.now = omega (arith, c.requires.channel, c.requires.capacities)
    in
    let last : c.loop-capacity.capacity ≡ get_or c.args.capacities.now c.args.channel 0 = omega arith in
    least_own (net_of c.args.wired.now.network.now) c.args.wired.now.wired c.args.capacities.now c.args.channel there
    c.loop-capacity.progress c.loop-capacity.capacities
    (subst (λ a. IsTrying (net_of c.args.wired.now.network.now) c.args.capacities.now c.args.channel a c.loop-capacity.progress
    c.loop-capacity.capacities) last c.loop-capacity.invariant)
