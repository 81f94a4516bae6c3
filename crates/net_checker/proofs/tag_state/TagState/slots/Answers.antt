use Rattle.std.proofs.Common.{arith}
use Rattle.net_checker.proofs.SlotLemmas.{row_read}
use Rattle.net_checker.proofs.tag_state.TagState.slots.Goals as goal

pub index-requires : goal.index-requires
index-requires c = omega (arith, c.args.self.now.slots.ok.0, c.requires.process, c.requires.state.slots)

pub returns : goal.returns
returns c =
    row_read c.args.self.now.slots.items c.args.process c.index.result.now
    (omega (arith, c.requires.process, c.requires.state.slots)) c.index.ensures
