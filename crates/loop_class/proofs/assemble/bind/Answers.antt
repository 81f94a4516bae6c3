use Rattle.std.proofs.Common.{◌∙◌, ◌++◌, ◌+◌, ap, subst, sym, length}
use Rattle.std.specs.Prelude.{IsTrue}
use Rattle.std.specs.List.{list_all}
use Rattle.sanlp.specs.WellFormed.{input_extents, output_extents, array_loops}
use Rattle.loop_bind.specs.Ranges.{has_small_extents}
use Rattle.loop_bind.specs.Terminals.{sources_from, sinks_from}
use Rattle.loop_class.proofs.AssembleLemmas.{no_findings, reading_small, arrays_bound, statements_bound, body_bound}
use Rattle.loop_class.proofs.AssembleLemmas.{reading_well_formed}
use Rattle.loop_class.proofs.assemble.bind.Goals as goal

pub assemble-requires : goal.assemble-requires
assemble-requires c =
    subst (λ arrays. IsTrue (list_all has_small_extents arrays)) (sym c.as_slice.ensures)
    (reading_small c.args.tree.now c.args.params.now c.in_ok-arrays.field-0 c.in_ok-arrays.ensures c.in_default.is)

pub invariant_of-result : goal.invariant_of-result
invariant_of-result c =
    let r = c.in_ok-arrays.field-0 in
    let at = c.as_slice.ensures in
    record {
      well_formed =
          reading_well_formed c.args.tree.now c.args.params.now r c.in_ok-arrays.ensures c.in_default.is
          c.in_ok-whole.whole.statements c.in_ok-whole.whole.body
          (c.in_ok-whole.ensures.statements
          ∙ ap (λ arrays. sources_from 0 0 arrays ++ (r.statements ++ sinks_from 0 r.next_loop arrays)) at)
          (c.in_ok-whole.ensures.body
          ∙ ap (λ arrays.
          array_loops 0 0 (input_extents arrays)
          ++ (r.nodes ++ array_loops r.next_loop (length (input_extents arrays) + length r.statements)
          (output_extents arrays))) at);
    }

pub returns : goal.returns
returns c =
    let r = c.in_ok-arrays.field-0 in
    let at = c.as_slice.ensures in
    let tree = c.args.tree.now in
    let params = c.args.params.now in
    let first =
    c.in_ok-whole.ensures.statements
    ∙ ap (λ arrays. sources_from 0 0 arrays ++ (r.statements ++ sinks_from 0 r.next_loop arrays)) at in
    let second = c.in_ok-whole.ensures.body
    ∙ ap (λ arrays.
    array_loops 0 0 (input_extents arrays)
    ++ (r.nodes ++ array_loops r.next_loop (length (input_extents arrays) + length r.statements)
    (output_extents arrays))) at in
    record {
      no_findings = no_findings tree params r c.in_ok-arrays.ensures c.in_default.is;
      arrays =
          arrays_bound tree params r c.in_ok-arrays.ensures c.in_default.is c.in_ok-whole.whole.statements
          c.in_ok-whole.whole.body first second;
      statements =
          statements_bound tree params r c.in_ok-arrays.ensures c.in_default.is c.in_ok-whole.whole.statements
          c.in_ok-whole.whole.body first second;
      body = body_bound tree params r c.in_ok-arrays.ensures c.in_default.is c.in_ok-whole.whole.statements
          c.in_ok-whole.whole.body first second;
    }
