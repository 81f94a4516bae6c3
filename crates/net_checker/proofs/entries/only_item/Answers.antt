use Rattle.std.proofs.Common.{◌≡◌, [], length, sym, ◌∙◌}
use Rattle.std.proofs.lemmas.Bool.{eqb-true}
use Rattle.std.proofs.lemmas.List.{nil_from_length}
use Rattle.net_checker.proofs.BlockSteps.{only_item}
use Rattle.net_checker.proofs.entries.only_item.Goals as goal

pub returns-in-Item : goal.returns-in-Item
returns-in-Item c =
    let rest = c.in-Some.rest.now in
    let none : rest ≡ [] =
    nil_from_length rest (eqb-true (length rest) 0 (sym c.is_empty.ensures ∙ c.if-not-is_empty.false)) in
    only_item c.args.parts.now rest c.in-Some.part.now c.in-Item.process c.in-Some.ensures.cases.0 none c.in-Item.is
