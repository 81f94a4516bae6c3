use Rattle.std.proofs.Common.{◌++◌, [], map, ap, ◌∙◌}
use Rattle.loop_walk.specs.EnteredLoops.{parts_within}
use Rattle.fire_runs.specs.Runs.{processes_in, processes_of}
use Rattle.fire_runs.proofs.runs.trace_runs.Goals as goal
use Rattle.sanlp.specs.Trace.{all_points, trace, trace_node}

pub add_parts-requires-clause-within : goal.add_parts-requires-clause-within
add_parts-requires-clause-within c =
    ap (λ at. parts_within c.parts.result.now at) c.empty.ensures
    ∙ ap (λ ps. parts_within ps []) c.parts.ensures.value ∙ c.requires.loops_within

pub returns : goal.returns
unfolding trace
returns c =
    c.in_ok-add_parts.ensures
    ∙ ap (λ fs. fs ++ processes_of (all_points (map trace_node c.parts.result.now) c.empty.result))
    (ap processes_in c.new-runs.ensures.items)
    ∙ ap (λ ps. processes_of (all_points (map trace_node ps) c.empty.result)) c.parts.ensures.value
    ∙ ap (λ at. processes_of (all_points (map trace_node c.args.nest.now.body) at)) c.empty.ensures
