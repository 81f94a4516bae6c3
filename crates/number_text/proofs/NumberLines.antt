-- The text of a network is the text of its numbers: a line is made of an item's number and what is told of the item.
--
-- The one text walks over the items and tells of each what its line says; the other walks over what was told before. By
-- induction over the items, at any number of the first, both have the same lines: a list and the list of what is told
-- of it have the same numbers. Where what is told depends on the number, as a channel's tokens do, it was told at that
-- number. Nothing is said of what is told: the lines are any function of a number and of it.
use Rattle.std.proofs.Common.{◌≡◌, ℕ, ◌+◌, List, [], ◌∷◌, ◌++◌, map, refl, ap, ap₂, ◌∙◌}
use Rattle.std.specs.List.{flat_map, enumerate_from}
use Rattle.std.proofs.lemmas.List.Concat.{flat_map-cons}
use Rattle.net_core.specs.declared.network.Network.{Network}
use Rattle.net_text.specs.NetworkText.{channel_numbers, channel_text, end_text, event_count, process_numbers}
use Rattle.net_text.specs.NetworkText.{process_text, version_line}
use Rattle.number_text.specs.Numbers.{TellsNumbers}
use Rattle.sanlp.specs.declared.nest.Nest.{Nest}

-- the lines of numbered items, by what is told of each with its number
lines_told : {X Y : Type 0} (told : ℕ → X → Y) (line : ℕ → Y → List ℕ) (k : ℕ) (xs : List X)
    → flat_map (λ numbered. line numbered.0 (told numbered.0 numbered.1)) (enumerate_from k xs)
    ≡ flat_map (λ numbered. line numbered.0 numbered.1)
    (enumerate_from k (map (λ numbered. told numbered.0 numbered.1) (enumerate_from k xs)))
lines_told told line k [] = refl
lines_told told line k (x ∷ xs) =
    flat_map-cons (λ numbered. line numbered.0 (told numbered.0 numbered.1)) (k, x) (enumerate_from (k + 1) xs)
    ∙ ap (λ ys. line k (told k x) ++ ys) (lines_told told line (k + 1) xs)

-- the same where it is told without the number
items_told : {X Y : Type 0} (told : X → Y) (line : ℕ → Y → List ℕ) (k : ℕ) (xs : List X)
    → flat_map (λ numbered. line numbered.0 (told numbered.1)) (enumerate_from k xs)
    ≡ flat_map (λ numbered. line numbered.0 numbered.1) (enumerate_from k (map told xs))
items_told told line k [] = refl
items_told told line k (x ∷ xs) =
    flat_map-cons (λ numbered. line numbered.0 (told numbered.1)) (k, x) (enumerate_from (k + 1) xs)
    ∙ ap (λ ys. line k (told x) ++ ys) (items_told told line (k + 1) xs)

pub tells_numbers : (nest : Nest) (network : Network) → TellsNumbers nest network
tells_numbers nest network =
    ap₂ (λ processes channels. version_line ++ (processes ++ (channels ++ end_text (event_count network))))
    (items_told process_numbers (process_text nest) 0 network.processes)
    (lines_told (channel_numbers network) channel_text 0 network.channels)
