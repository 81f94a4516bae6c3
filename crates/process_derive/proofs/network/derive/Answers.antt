use Rattle.std.proofs.Common.{ap, ◌∙◌, map, length}
use Rattle.process_derive.proofs.network.derive.Goals as goal

pub derive_by_turns-requires-clause-turns : goal.derive_by_turns-requires-clause-turns
derive_by_turns-requires-clause-turns c =
    c.deref.ensures.value ∙ c.in_ok-turns.ensures ∙ ap (map length) c.requires.points
