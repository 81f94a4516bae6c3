use Rattle.std.proofs.Common.{◌∙◌}
use Rattle.process_derive.proofs.uses.zeros.Goals as goal

pub returns : goal.returns
returns c = c.from_vec.ensures ∙ c.in_ok-zeros.ensures.items_if_clones_equal (λ y h. h)
