use Rattle.std.proofs.Common.{[], map, length, ap, ◌∙◌}
use Rattle.sanlp.specs.Meaning.{exec, exec_node, in_turn}
use Rattle.sanlp.specs.WellFormed.{all_forms_fit}
use Rattle.loop_run.specs.CellMemory.{memory_of}
use Rattle.loop_run.specs.Execution.{all_placed}
use Rattle.loop_walk.specs.EnteredLoops.{parts_within}
use Rattle.loop_run.proofs.StatementPlaces.{body_placed}
use Rattle.loop_run.proofs.RunLemmas.{on_ok_along}
use Rattle.loop_run.proofs.run.run_nest.Goals as goal

pub run_parts-requires : goal.run_parts-requires
run_parts-requires c =
    let n = c.args.nest.now in
    let parts = c.parts.result.now in
    record {
      same = c.as_slice.ensures ∙ c.in_ok-accesses.ensures;
      fit = ap (λ at. all_forms_fit parts (length at)) c.empty.ensures ∙ c.parts.ensures.fit;
      placed = ap (λ at. all_placed n.statements parts (length at)) c.empty.ensures
          ∙ ap (λ ps. all_placed n.statements ps 0) c.parts.ensures.value ∙ body_placed n;
      within = ap (parts_within parts) c.empty.ensures
          ∙ ap (λ ps. parts_within ps []) c.parts.ensures.value ∙ c.requires.sized.loops_within;
    }

pub returns : goal.returns
unfolding exec
returns c =
    let action = exec_node c.args.nest.now c.args.inputs.now in
    on_ok_along c.run_parts.result (memory_of c.run_parts.new.cells) _ _
    (ap (λ parts. in_turn (map action parts) c.empty.result (memory_of c.args.cells.now)) c.parts.ensures.value
    ∙ ap (λ at. in_turn (map action c.args.nest.now.body) at (memory_of c.args.cells.now)) c.empty.ensures
    ∙ ap (in_turn (map action c.args.nest.now.body) []) c.requires.fresh)
    c.run_parts.ensures
