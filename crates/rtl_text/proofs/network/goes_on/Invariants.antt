use Rattle.std.proofs.Common.{◌≡◌, false, drop}
use Rattle.rtl_text.specs.Names.{goes_on}
use Rattle.rtl_text.proofs.network.goes_on.Given as goal

-- the answer is that of what is left
abbrev pub invariant-loop-byte : goal.invariant-loop-byte
invariant-loop-byte l = goes_on l.behind (drop l.byte-index l.name) ≡ goes_on false l.name
