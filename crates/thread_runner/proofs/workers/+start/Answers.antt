use Rattle.std.proofs.Common.{◌≡◌, ℤ, ◌∙◌, true, true≢false, List, ◌∷◌, [], ◌++◌, length, sym, ap, subst, rules}
use Rattle.sanlp.specs.Laws.{values_of}
use Rattle.net_core.specs.Rooms.{Store}
use Rattle.thread_runner.specs.declared.workers.Task.{Task}
use Rattle.thread_runner.specs.Runs.{MayStart, HaveKept}
use Rattle.thread_runner.proofs.Rooms.{rest_starts, last_works, all_kept}
use Rattle.thread_runner.proofs.workers.+start.Goals.{then-all, else-all}
use Rattle.thread_runner.proofs.workers.+start.Goals as goal

pub launch-requires-after_bounds : goal.launch-requires-after_bounds
launch-requires-after_bounds g t c κs within =
    let from = g.E.Ends.from in
    let to = g.E.Ends.to in
    let nest = c.args.nest.now in
    let points = c.args.points.now.of in
    let d = c.args.inputs.now in
    let n = c.args.network.now in
    let rooms = c.pop.new.self.items in
    let ends = c.pop-2.new.self.items in
    let r : c.args.rooms.items ≡ rooms ++ c.in-Some.room ∷ [] = c.in-Some.ensures.items in
    let e : c.args.ends.items ≡ ends ++ c.in-Some-pop.mine ∷ [] = c.in-Some-pop.ensures.items in
    let m = subst (λ (y : List (Store ℤ) × List g.row.E.Denot). MayStart from to nest points d n y.0 y.1)
    (λ i. (r i, e i)) c.requires in
    let last : c.len.result ≡ length rooms = search rules in
    last_works from to nest points d n rooms ends c.in-Some.room c.in-Some-pop.mine c.len.result last m

pub start-rooms-requires-after_bounds : goal.start-rooms-requires-after_bounds
start-rooms-requires-after_bounds g t c κs within =
    let from = g.E.Ends.from in
    let to = g.E.Ends.to in
    let nest = c.args.nest.now in
    let points = c.args.points.now.of in
    let d = c.args.inputs.now in
    let n = c.args.network.now in
    let rooms = c.pop.new.self.items in
    let ends = c.pop-2.new.self.items in
    let r : c.args.rooms.items ≡ rooms ++ c.in-Some.room ∷ [] = c.in-Some.ensures.items in
    let e : c.args.ends.items ≡ ends ++ c.in-Some-pop.mine ∷ [] = c.in-Some-pop.ensures.items in
    let m = subst (λ (y : List (Store ℤ) × List g.row.E.Denot). MayStart from to nest points d n y.0 y.1)
    (λ i. (r i, e i)) c.requires in
    rest_starts from to nest points d n rooms ends c.in-Some.room c.in-Some-pop.mine m

pub returns-after-all-clause-kept : goal.returns-after-all-clause-kept
returns-after-all-clause-kept g t c =
    let nest = c.args.nest.now in
    let d = c.args.inputs.now in
    let rooms = c.start-rooms.result.0.items in
    let back = c.join-back.result in
    let promise : c.in-Ok.worker.promise
    ≡ record {
      nest = c.args.nest;
      points = c.args.points;
      inputs = c.args.inputs;
      network = c.args.network;
      process =
          c.len.result;
    } = c.in-Ok.ensures in
    let kept : (back.ran ≡ true → back.room.kept ≡ values_of nest d c.len.result) =
    subst (λ (task : Task). back.ran ≡ true
    → back.room.kept ≡ values_of task.nest.now task.inputs.now task.process) promise c.join-back.ensures in
    let k : c.len.result ≡ length rooms = search rules in
    let e : c.push_reserved.new.self.items ≡ rooms ++ back.room ∷ [] = c.push_reserved.ensures.items in
    elim c.if-all.branch [
      | then-all w ↦ λ (is : c.if-all.result ≡ true).
          let mine : back.room.kept ≡ values_of nest d (length rooms) =
          kept (sym w.result-is ∙ is) ∙ ap (values_of nest d) k in
          subst (λ (l : List (Store ℤ)). HaveKept nest d l) (sym e)
          (all_kept nest d rooms back.room (c.start-rooms.ensures.kept w.if-all.true) mine)
      | else-all w ↦ λ (is : c.if-all.result ≡ true). absurd (true≢false (sym is ∙ w.result-is ∙ w.if-all.false))
    ]
