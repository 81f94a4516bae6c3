-- One text, and then another.
use Rattle.std.proofs.Common.{ℕ, List, ◌++◌, ap, ◌∙◌, append_assoc}
use Rattle.text_out.specs.Wrote.{Given, Wrote}

pub Wrote-append : {W : Type 0} (given : W → Given) {old mid new : W} (first second : List ℕ)
    → Wrote given old mid first → Wrote given mid new second → Wrote given old new (first ++ second)
Wrote-append given {old} first second one two =
    (two.0 ∙ one.0, two.1 ∙ ap (λ (text : List ℕ). text ++ second) one.1 ∙ append_assoc (given old).text first second)
