-- The line of a reference, piece by piece.
use Rattle.std.proofs.Common.{◌≡◌, ◌∙◌, ℕ, List, [], ◌∷◌, ◌++◌, append_assoc, codes, ap}
use Rattle.verdict_text.specs.VerdictText.{refused_line}

-- two pieces, one behind the other
behind : (start first all one other : List ℕ) → first ≡ start ++ one → all ≡ first ++ other
    → all ≡ start ++ (one ++ other)
behind start first all one other e f = f ∙ ap (λ (text : List ℕ). text ++ other) e ∙ append_assoc start one other

-- the pieces of the line of a reference make this line
joined : (head number seen wanted space : List ℕ)
    → ((((head ++ number) ++ space) ++ seen) ++ space) ++ wanted
    ≡ head ++ (number ++ (space ++ (seen ++ (space ++ wanted))))
joined head number seen wanted space =
    append_assoc (((head ++ number) ++ space) ++ seen) space wanted
    ∙ append_assoc ((head ++ number) ++ space) seen (space ++ wanted)
    ∙ append_assoc (head ++ number) space (seen ++ (space ++ wanted))
    ∙ append_assoc head number (space ++ (seen ++ (space ++ wanted)))

-- so does writing them one behind the other
pub reference_told : (start a b c d e f all number seen wanted : List ℕ)
    → a ≡ start ++ codes "refused Tag " → b ≡ a ++ number → c ≡ b ++ codes " " → d ≡ c ++ seen
    → e ≡ d ++ codes " " → f ≡ e ++ wanted → all ≡ f ++ codes "\n"
    → all ≡ start ++ refused_line (codes "Tag" ∷ number ∷ seen ∷ wanted ∷ [])
reference_told start a b c d e f all number seen wanted one two three four five six seven =
    let head = codes "refused Tag " in
    let space = codes " " in
    let h2 = behind start a b head number one two in
    let h3 = behind start b c (head ++ number) space h2 three in
    let h4 = behind start c d ((head ++ number) ++ space) seen h3 four in
    let h5 = behind start d e (((head ++ number) ++ space) ++ seen) space h4 five in
    let h6 = behind start e f ((((head ++ number) ++ space) ++ seen) ++ space) wanted h5 six in
    let h7 = behind start f all (((((head ++ number) ++ space) ++ seen) ++ space) ++ wanted) (codes "\n") h6 seven in
    h7 ∙ ap (λ (text : List ℕ). start ++ (text ++ codes "\n")) (joined head number seen wanted space)
