use Rattle.std.proofs.Common.{take}
use Rattle.std.specs.List.{AllZip}
use Rattle.port_text.specs.Units.{IsPutControlOf}
use Rattle.port_text.proofs.unit.put_controls.Given as goal

-- those so far are the controls of the first channels
abbrev pub invariant-loop-channel : goal.invariant-loop-channel
invariant-loop-channel l = AllZip (IsPutControlOf l.script) (take l.channel-index l.channels) l.controls
