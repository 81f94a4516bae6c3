use Rattle.std.proofs.Common.{◌≡◌, ◌∙◌, ◌+◌, Some, true, false, cond, length, map, slice_get, add-one, ap, refl, sym}
use Rattle.std.proofs.lemmas.Option.{slice_get_read}
use Rattle.net_core.specs.Machine.{net_of}
use Rattle.net_core.specs.Names.{tokens_before}
use Rattle.net_core.specs.Shape.{fires, is_fire, is_put}
use Rattle.net_core.specs.Sound.{tag_value}
use Rattle.net_core.proofs.EventCounts.{count_next}
use Rattle.nest_tests.proofs.Streams.{put_more, put_none}
use Rattle.nest_tests.proofs.alone.values_put.Goals as goal

pub loop-event-preserved : goal.loop-event-preserved
loop-event-preserved c =
    let n = net_of c.args._made.now.network in
    let v = tag_value c.args._made.now.nest c.args._inputs.now in
    let channel = c.args.channel in
    let writer = n.writer channel in
    let events = c.args.events.now in
    let k = c.loop-event.event-index in
    let e = c.event-item.result in
    let i = c.loop-event.invariant in
    let at : slice_get (n.script writer) k ≡ Some e =
    ap (λ script. slice_get script k) (sym c.requires.events)
    ∙ slice_get_read events (length events) k e refl c.loop-event-test.true c.event-item.is in
    record {
      values_are =
          elim (is_put channel e) as
          (λ b. is_put channel e ≡ b → c.pass_event.new.values.items ≡ map v (tokens_before n channel (k + 1))) [
            | true ↦ λ put.
                (let found = c.in_ok-fires.ensures.put put in
                put_more n v channel k e at c.loop-event.values.items i.values_are c.args.kept.now
                c.pass_event.new.values.items (fires n writer (length events)) c.loop-event.fires found.0 put
                c.requires.kept i.fires_are found.1 found.2
                ∙ ap (λ m. map v (tokens_before n channel m)) (sym (add-one k)))
            | false ↦ λ none.
                c.in_ok-fires.ensures.none none
                ∙ put_none n v channel k e at c.loop-event.values.items i.values_are none
                ∙ ap (λ m. map v (tokens_before n channel m)) (sym (add-one k))
          ] refl;
      fires_are =
          c.in_ok-fires.ensures.fires ∙ ap (λ m. m + cond (is_fire e) 1 0) i.fires_are
          ∙ sym (count_next is_fire (n.script writer) k e at) ∙ ap (fires n writer) (sym (add-one k));
    }
