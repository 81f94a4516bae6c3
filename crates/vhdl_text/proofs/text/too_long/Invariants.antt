use Rattle.std.proofs.Common.{◌≡◌, drop}
use Rattle.std.specs.List.{find}
use Rattle.vhdl_text.specs.Refusal.{is_too_long}
use Rattle.vhdl_text.proofs.text.too_long.Given as goal

abbrev pub invariant-loop-auto : goal.invariant-loop-auto
invariant-loop-auto l = find is_too_long (drop l.auto-index l.autos) ≡ find is_too_long l.autos
