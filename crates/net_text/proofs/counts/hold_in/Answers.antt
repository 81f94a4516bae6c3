use Rattle.std.proofs.Common.{◌∙◌, sym}
use Rattle.net_text.proofs.Spans.{range_ordered}
use Rattle.net_text.proofs.counts.hold_in.Goals as goal

pub count_between-requires : goal.count_between-requires
count_between-requires c = range_ordered _ c.in-Some.least c.in-Some.greatest
    (sym c.slots_of_parts.ensures ∙ c.in-Some.is)
