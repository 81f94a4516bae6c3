use Rattle.std.proofs.Common.{◌≡◌, [], map, drop}
use Rattle.command_line.specs.Words.{params_with}
use Rattle.command_line.proofs.words.params_of.Given as goal

abbrev pub invariant-loop-item : goal.invariant-loop-item
invariant-loop-item l =
    params_with [] (map (λ item. item.now) l.items)
    ≡ params_with l.params (map (λ item. item.now) (drop l.item-index l.items))
