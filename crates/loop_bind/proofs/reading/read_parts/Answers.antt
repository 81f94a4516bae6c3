use Rattle.std.proofs.Common.{◌∙◌, ap, subst, refl, length}
use Rattle.sanlp.specs.WellFormed.{input_extents, output_extents}
use Rattle.loop_bind.specs.Following.{Makes, next_statement}
use Rattle.loop_bind.specs.Parts.{parts_made}
use Rattle.loop_bind.specs.Terminals.{loop_count}
use Rattle.loop_bind.specs.declared.context.Context.{Context}
use Rattle.loop_bind.specs.declared.context.Progress.{Progress}
use Rattle.loop_bind.proofs.ReadingLemmas.{reading_is}
use Rattle.loop_bind.proofs.reading.read_parts.Goals as goal

pub returns-in-Ok : goal.returns-in-Ok
returns-in-Ok c = λ params stands sources sinks loops.
    let t = c.args.table in
    let c0 : Context =
    record { scope = t.scope; loops = c.new.result; rows = c.new-2.result; sinks = c.args.counts.sinks } in
    let p0 : Progress =
    record {
      first = c.args.counts.sources;
      statements = c.new-3.result;
      next_loop = c.args.counts.loops;
      least = t.least;
    } in
    reading_is c.args.tree.now params t c0 c.bind_parts-bound.new.context p0 c.bind_parts-bound.new.progress
    c.new-nodes.result c.bind_parts-bound.new.nodes stands
    (λ i. record {
      scope = stands.0 i;
      loops = c.new.ensures i;
      rows = c.new-2.ensures i;
      sinks = (sinks ∙ ap (λ arrays. length (output_extents arrays)) stands.1) i;
    })
    (sources ∙ ap (λ arrays. length (input_extents arrays)) stands.1)
    (loops ∙ ap (λ arrays. loop_count (input_extents arrays)) stands.1)
    c.new-3.ensures refl c.new-nodes.ensures
    (subst (λ parts.
    Makes c0 c.bind_parts-bound.new.context p0 c.bind_parts-bound.new.progress c.new-nodes.result
    c.bind_parts-bound.new.nodes
    (parts_made parts c0 p0.next_loop (next_statement p0)))
    c.as_slice.ensures (rw c.in-Ok.is at c.bind_parts-bound.ensures))
