-- A line that is written in five pieces is the concatenation of the first four with its end behind it.
--
-- The code writes five texts, one behind the other; the definition joins four and has the end behind them. Joining
-- may be grouped in any way, and nothing stands behind the fourth, so both are the same bytes (`line_end`), and what
-- was written is the line. It is a law of these five texts, without induction, and says nothing of what a call that
-- failed left.
use Rattle.std.proofs.Common.{◌≡◌, ℕ, List, [], ◌∷◌, ◌++◌, sym, subst, append_assoc, append-nil}
use Rattle.std.specs.List.{concat}
use Rattle.text_out.specs.Wrote.{Given, Wrote}

line_end : (a b c d e : List ℕ) → concat (a ∷ b ∷ c ∷ d ∷ []) ++ e ≡ a ++ (b ++ (c ++ (d ++ e)))
line_end a b c d e = simp (append_assoc, append-nil)

pub Wrote-line : {W : Type 0} (given : W → Given) {old new : W} (a b c d e : List ℕ)
    → Wrote given old new (a ++ (b ++ (c ++ (d ++ e)))) → Wrote given old new (concat (a ∷ b ∷ c ∷ d ∷ []) ++ e)
Wrote-line given {old} {new} a b c d e wrote =
    subst (λ (text : List ℕ). Wrote given old new text) (sym (line_end a b c d e)) wrote
