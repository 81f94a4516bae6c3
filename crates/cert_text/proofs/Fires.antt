-- The words of a fire: its references with a space before each.
use Rattle.std.proofs.Common.{◌≡◌, ℕ, List, [], ◌∷◌, ◌++◌, codes, map, append-nil, sym, ap}
use Rattle.std.specs.List.{flat_map, join_with_byte}
use Rattle.std.proofs.lemmas.Grind.{common_steps}
use Rattle.net_core.specs.declared.refs.Ref.{Ref}
use Rattle.cert_text.specs.CertText.{ref_word}

-- a word, and references behind it
joined : (word : List ℕ) (refs : List Ref)
    → join_with_byte 32 (word ∷ map ref_word refs)
    ≡ word ++ flat_map (λ reference. codes " " ++ ref_word reference) refs
joined word [] = sym (append-nil word)
joined word (reference ∷ refs) = ap (λ (text : List ℕ). word ++ 32 ∷ text) (joined (ref_word reference) refs)

pub fire_joined : (refs : List Ref)
    → join_with_byte 32 (codes "f" ∷ map ref_word refs)
    ≡ codes "f" ++ flat_map (λ reference. codes " " ++ ref_word reference) refs
fire_joined refs = joined (codes "f") refs

-- what the writing of a fire wants in its `using`
pub ruleset fire_steps = (common_steps, fire_joined)
