use Rattle.std.proofs.Common.{◌<◌, ◌∙◌, Some, count_by, ap, arith}
use Rattle.net_core.specs.Shape.{is_put}
use Rattle.script_blocks.specs.Expansion.{parts_expansion}
use Rattle.net_core.proofs.BlockCounts.{item_counted, put_is}
use Rattle.net_core.proofs.opening.count_puts.Goals as goal

pub count_puts_of_parts-requires-clause-channels :
    goal.count_puts_of_parts-requires-clause-channels
count_puts_of_parts-requires-clause-channels c b more =
    let whole = ap parts_expansion c.as_slice.ensures ∙ c.blocks-2.ensures.stands in
    let some : 0 < count_by (is_put b) c.args.script.now = omega (arith, more, ap (count_by (is_put b)) whole) in
    let found = item_counted (is_put b) c.args.script.now some in
    c.requires.channels found.0 b (found.2 ∙ ap Some (put_is b found.1 found.3))
