use Rattle.std.proofs.Common.{rules, ◌≡◌, ◌++◌, [], length, map, sym, ap, ◌∙◌}
use Rattle.std.specs.Vec.{with_items}
use Rattle.std.proofs.lemmas.List.{with_items_is}
use Rattle.sanlp.specs.Trace.{all_points, trace, trace_node}
use Rattle.loop_walk.specs.Walking.{left}
use Rattle.loop_walk.specs.Walks.{rest}
use Rattle.loop_walk.proofs.walk.Walk.new.Goals as goal

pub returns-clause-rest : goal.returns-clause-rest
unfolding rest trace
returns-clause-rest c =
    let frames = c.restart.new.frames in
    let n = c.args.nest.now in
    let same : length frames ≡ c.make_room.new.frames.len = search rules in
    ap (λ run. run ++ left (with_items c.make_room.new.frames frames).items n.body []) c.over.ensures
    ∙ ap (λ fs. left fs n.body []) (with_items_is c.make_room.new.frames frames same)
    ∙ ap (left frames n.body) (sym c.empty.ensures)
    ∙ ap (λ parts. left frames parts c.empty.result) (sym c.parts-2.ensures.value)
    ∙ c.restart.ensures.left
    ∙ ap (λ parts. all_points (map trace_node parts) c.empty.result) c.parts-2.ensures.value
    ∙ ap (all_points (map trace_node n.body)) c.empty.ensures
