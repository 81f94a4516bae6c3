use Rattle.std.proofs.Common.{◌∙◌, ap}
use Rattle.channel_class.specs.Classes.{has_repeat}
use Rattle.channel_class.proofs.Repeats.{same_repeats}
use Rattle.channel_class.proofs.has_repeat.Goals as goal

pub returns : goal.returns
returns c =
    let uses = c.args.uses.now in
    c.has_equal_neighbours.ensures ∙ ap has_repeat c.deref.ensures.value
    ∙ same_repeats uses c.in_ok-sorted.sorted.items c.in_ok-sorted.ensures.same
