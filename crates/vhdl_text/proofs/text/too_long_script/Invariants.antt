use Rattle.std.proofs.Common.{◌≡◌, ◌<◌, ℕ, false}
use Rattle.vhdl_text.proofs.LongScripts.{is_long}
use Rattle.vhdl_text.proofs.text.too_long_script.Given as goal

-- no process so far has too many events
abbrev pub invariant-loop-process : goal.invariant-loop-process
invariant-loop-process l = (q : ℕ) → q < l.process → is_long l.network q ≡ false
