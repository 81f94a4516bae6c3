use Rattle.std.proofs.Common.{Some, map, refl, subst}
use Rattle.std.specs.Prelude.{string_bytes}
use Rattle.command_line.specs.Words.{order_of}
use Rattle.call_endings.specs.Changes.{Change, change}
use Rattle.compaan_top.specs.Calls.{IsCallOf}
use Rattle.io_edge.specs.InMemory.{SinkState, SourceState}
use Rattle.top_calls.specs.Ends.{change_of_sink}
use Rattle.top_calls.proofs.calls.call_on.Goals as goal

-- what a call did to a source and to a sink in memory
abbrev of_source : SourceState → SourceState → Change
of_source = change (λ source. Some source.left) (λ source. source.faults)

abbrev of_sink : SinkState → SinkState → Change
of_sink = change (λ sink. Some sink.held) (λ sink. sink.faults)

-- both sinks were empty and without a fault before the call
pub returns : goal.returns
returns g c =
    let order = order_of (map string_bytes c.args.words.now) in
    let input = of_source c.args.input.now c.compaan-status.new.input in
    let output = c.compaan-status.new.output in
    let complaint = c.compaan-status.new.complaint in
    record {
      input = input;
      bundle_is = refl;
      call =
          subst (λ (sink : SinkState).
          IsCallOf order input (of_sink sink output) (change_of_sink complaint) c.compaan-status.result)
          c.in_ok-output.ensures
          (subst (λ (sink : SinkState).
          IsCallOf order input (of_sink c.in_ok-output.output output) (of_sink sink complaint)
          c.compaan-status.result)
          c.in-Ok.ensures c.compaan-status.ensures);
    }
