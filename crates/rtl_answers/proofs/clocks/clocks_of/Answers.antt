use Rattle.std.proofs.Common.{ℕ, Option, ap₂}
use Rattle.rtl_answers.specs.declared.clocks.Clocks.{Clocks}
use Rattle.rtl_answers.proofs.clocks.clocks_of.Goals as goal

pub returns : goal.returns
returns c =
    ap₂ (λ (count : ℕ) (other : Option ℕ). let told : Clocks = record { clocks = count; down = other } in told)
    c.in_ok-clocks.ensures c.in_ok-down.ensures
