use Rattle.std.proofs.Common.{◌+◌, ◌++◌, List, length, take, drop, replicate, refl, sym, ap, ◌∙◌, subst, arith}
use Rattle.std.specs.List.{All}
use Rattle.std.proofs.lemmas.List.{take_at}
use Rattle.std.proofs.lemmas.List.FromFn.{length-map-range_with_len}
use Rattle.net_core.specs.Machine.{net_of}
use Rattle.witness_plan.specs.Effects.{HasQueue, after_effects, effects_of, first_points, queue_at}
use Rattle.witness_plan.specs.Steps.{with_points}
use Rattle.witness_plan.specs.declared.queues.QueueTotals.{QueueTotals}
use Rattle.witness_plan.proofs.PointEffects.{points_made}
use Rattle.witness_plan.proofs.PointRunLemmas.{entries_added, left_found, points_run, position_found, position_inside}
use Rattle.witness_plan.proofs.PointRunLemmas.{queues_there}
use Rattle.witness_plan.proofs.points.PointRun.make_points.Goals as goal

pub returns-then-count-eq0-clause-schedule : goal.returns-then-count-eq0-clause-schedule
returns-then-count-eq0-clause-schedule c =
    sym (ap (with_points (net_of c.args.network.now) c.args.self.now.schedule.items c.args.process) c.if-count-eq0.true)

pub index-requires : goal.index-requires
index-requires c =
    let net = net_of c.args.network.now in
    let self = c.args.self.now in
    omega (
      arith,
      c.requires.process (omega (arith, c.if-count-eq0.false)),
      ap length c.requires.run.effects,
      length-map-range_with_len (effects_of net) 0 net.processes,
      self.effects.ok.0,
    )

pub behind-effects-requires : goal.behind-effects-requires
behind-effects-requires c =
    position_inside (net_of c.args.network.now) c.args.self.now c.requires.run c.args.process
    (c.requires.process (omega (arith, c.if-count-eq0.false))) c.index-position.result.now c.index-position.ensures
    c.index.result.now c.as_slice.result.now c.index.ensures c.as_slice.ensures

pub pass_points-passed-requires : goal.pass_points-passed-requires
pass_points-passed-requires c =
    let net = net_of c.args.network.now in
    let self = c.args.self.now in
    let left = left_found net self c.requires.run c.args.process
    (c.requires.process (omega (arith, c.if-count-eq0.false))) c.index-position.result.now c.index-position.ensures
    c.index.result.now c.as_slice.result.now c.behind-effects.result.now c.index.ensures c.as_slice.ensures
    c.behind-effects.ensures in
    let long = ap length c.deref_mut.ensures.value ∙ ap length c.requires.run.queues
    ∙ length-map-range_with_len (queue_at net self.schedule.items) 0 net.channels in
    subst (λ n. All (HasQueue n) c.behind-effects.result.now) (sym long)
    (subst (All (HasQueue net.channels)) (sym left)
    (queues_there net c.requires.run.wired self.schedule.items c.args.process))

pub returns-clause-schedule : goal.returns-clause-schedule
returns-clause-schedule c =
    let net = net_of c.args.network.now in
    let self = c.args.self.now in
    let p = c.args.process in
    let passed = c.pass_points-passed.result in
    let left = left_found net self c.requires.run p
    (c.requires.process (omega (arith, c.if-count-eq0.false))) c.index-position.result.now c.index-position.ensures
    c.index.result.now c.as_slice.result.now c.behind-effects.result.now c.index.ensures c.as_slice.ensures
    c.behind-effects.ensures in
    c.in_ok-resize.ensures.items
    ∙ entries_added self.schedule.items self.schedule.len (c.len.result + passed) passed p
    (omega (arith, self.schedule.ok.0)) (omega (arith, c.len.ensures))
    ∙ ap (λ m. self.schedule.items ++ replicate m p)
    (c.pass_points-passed.ensures.points ∙ ap (first_points c.args.count) left)
    ∙ sym (points_made net self.schedule.items p c.args.count)

pub returns-clause-run : goal.returns-clause-run
returns-clause-run c =
    let net = net_of c.args.network.now in
    let self = c.args.self.now in
    let p = c.args.process in
    let there = c.requires.process (omega (arith, c.if-count-eq0.false)) in
    let passed = c.pass_points-passed.result in
    let es = c.behind-effects.result.now in
    let left = left_found net self c.requires.run p there c.index-position.result.now c.index-position.ensures
    c.index.result.now c.as_slice.result.now es c.index.ensures c.as_slice.ensures c.behind-effects.ensures in
    let at = position_found net self c.requires.run p there c.index-position.result.now c.index-position.ensures in
    points_run net self c.requires.run p there passed _ es left c.pass_points-passed.ensures.within
    (c.index-position.result.now + passed) (ap (λ k. k + passed) at) refl
    (c.in_ok-resize.ensures.items
    ∙ entries_added self.schedule.items self.schedule.len (c.len.result + passed) passed p
    (omega (arith, self.schedule.ok.0)) (omega (arith, c.len.ensures)))
    refl
    (take_at c.pass_points-passed.new.queues (drop (length c.pass_points-passed.new.queues) self.queues.items)
    self.queues.len (omega (arith, c.pass_points-passed.auto.queues, c.deref_mut.ensures.len, self.queues.ok.0))
    ∙ c.pass_points-passed.ensures.queues
    ∙ ap (λ (queues : List QueueTotals). after_effects queues (take passed es)) c.deref_mut.ensures.value)
