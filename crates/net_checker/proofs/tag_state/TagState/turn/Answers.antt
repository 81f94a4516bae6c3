use Rattle.std.proofs.Common.{sym, ◌∙◌, arith}
use Rattle.std.proofs.lemmas.List.{get_or_read}
use Rattle.net_checker.proofs.TagSteps.{fired_many}
use Rattle.net_checker.proofs.tag_state.TagState.turn.Goals as goal

pub index-requires : goal.index-requires
index-requires c = omega (arith, c.args.self.now.fires.ok.0, c.requires.process, c.requires.state.fires)

pub returns : goal.returns
returns c =
    get_or_read c.args.self.now.fires.items c.args.process c.index.result.now
    (omega (arith, c.requires.process, c.requires.state.fires)) c.index.ensures 0
    ∙ sym (fired_many c.args.process _)
