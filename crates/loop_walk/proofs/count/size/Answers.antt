use Rattle.std.proofs.Common.{◌≡◌, map, ap, ◌∙◌}
use Rattle.loop_walk.specs.Counting.{counted, counted_node, counted_parts}
use Rattle.loop_walk.proofs.SizeLaw.{counted_all, size_of_ok, size_past_limit}
use Rattle.loop_walk.proofs.count.size.Goals as goal

pub returns : goal.returns
unfolding counted
returns c =
    let is : c.count_parts.result ≡ counted c.args.nest.now
    = c.count_parts.ensures
    ∙ ap (λ parts. counted_parts (map counted_node parts) c.empty.result 0) c.parts.ensures.value
    ∙ ap (λ at. counted_parts (map counted_node c.args.nest.now.body) at 0) c.empty.ensures in
    record {
      exact = is;
      size = size_of_ok c.args.nest.now c.count_parts.result is;
      complete = λ ok. is ∙ counted_all c.args.nest.now ok;
      limit = size_past_limit c.args.nest.now c.count_parts.result is;
    }
