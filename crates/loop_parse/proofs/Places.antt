-- Tokens stop at one place at most. What goes on from a front of the tokens also goes on from each shorter front, with the rest
-- of the longer one before it. So were there two places, the tokens up to and including the lower one would go on, since those
-- before the higher one do, and the lower one is a place because they don't. Nothing is said of whether there is a place.
use Rattle.std.proofs.Common.{◌≡◌, ◌∙◌, ◌++◌, ◌<◌, ◌≤◌, ℕ, suc, List, take, drop, inl, inr, sym, ap, arith}
use Rattle.std.proofs.Common.{take-take}
use Rattle.std.proofs.lemmas.Bool.{cases_order}
use Rattle.std.proofs.lemmas.List.{append_assoc, take-append-drop}
use Rattle.loop_grammar.specs.Grammar.{Tok, IsViable, Stops}

viable_front : (tokens : List Tok) (n k : ℕ) → n ≤ k → IsViable (take k tokens) → IsViable (take n tokens)
viable_front tokens n k few h =
    let front : take n (take k tokens) ≡ take n tokens = take-take n k tokens few in
    let whole : take n tokens ++ drop n (take k tokens) ≡ take k tokens =
    ap (λ (zs : List Tok). zs ++ drop n (take k tokens)) (sym front) ∙ take-append-drop n (take k tokens) in (
      drop n (take k tokens) ++ h.0,
      h.1,
      h.2 ∙ ap (λ (zs : List Tok). zs ++ h.0) (sym whole)
          ∙ append_assoc (take n tokens) (drop n (take k tokens)) h.0,
    )

none_lower : (tokens : List Tok) (j k : ℕ) → Stops tokens j → Stops tokens k → j < k → ⊥
none_lower tokens j k low high less =
    low.there (omega (arith, less, high.within)) (viable_front tokens (suc j) k (omega (arith, less)) high.before)

pub one_place : (tokens : List Tok) (j k : ℕ) → Stops tokens j → Stops tokens k → j ≡ k
one_place tokens j k hj hk = elim (cases_order j k) [
  | inl same ↦ same
  | inr other ↦ elim other [
    | inl below ↦ absurd (none_lower tokens j k hj hk below)
    | inr above ↦ absurd (none_lower tokens k j hk hj above)
  ]
]
