-- Texts written one behind another. In a function that writes long literals `grind` takes up each byte of them, and
-- finds no room for the steps that matter: there `Wrote-append` says how what one call wrote goes before what the next one
-- did, and `one_more` and `one_more_number` say the same of a loop.
use Rattle.std.proofs.Common.{◌≡◌, ℕ, ◌+◌, ◌<◌, List, [], ◌∷◌, ◌++◌, length, map, take, get_or}
use Rattle.std.proofs.Common.{append-nil, sym, ap, ◌∙◌, arith}
use Rattle.std.specs.List.{enumerate_from, flat_map, range_with_len}
use Rattle.std.proofs.lemmas.Grind.{flat_map-append, take_at_read}
use Rattle.std.proofs.lemmas.List.{get_or-map, length-map}
use Rattle.sanlp.proofs.Lists.{flat_map-range_with_len_more}
use Rattle.text_out.specs.Wrote.{Given, Wrote}
use Rattle.text_out.proofs.ItemNumbers.{numbered_at_read}
use Rattle.text_out.proofs.Wrote.{Wrote-append}
use Rattle.vhdl_text.specs.Pieces.{entries_from, entry_comma}

-- the texts of some items, and of one more
text_more : {X : Type 0} (f : X → List ℕ) (xs : List X) (x : X) → flat_map f (xs ++ x ∷ []) ≡ flat_map f xs ++ f x
text_more f xs x = flat_map-append f xs (x ∷ []) ∙ ap (λ (text : List ℕ). flat_map f xs ++ text) (append-nil (f x))

-- the items before a place, and the item there
pub one_more_item : {W : Type 0} (given : W → Given) {old mid new : W} {X : Type 0} (f : X → List ℕ) (xs : List X)
    (i : ℕ) (x : X) → i < length xs → x ≡ get_or xs i x
    → Wrote given old mid (flat_map f (take i xs)) → Wrote given mid new (f x)
    → Wrote given old new (flat_map f (take (i + 1) xs))
one_more_item given f xs i x inside is before now =
    rw ((take_at_read xs i x inside).1, ← is, text_more f (take i xs) x) (Wrote-append given _ _ before now)

-- the items before a place, each with its number, and the item there
pub one_more : {W : Type 0} (given : W → Given) {old mid new : W} {X : Type 0} (f : ℕ × X → List ℕ) (xs : List X)
    (i : ℕ) (d : X) → i < length xs
    → Wrote given old mid (flat_map f (enumerate_from 0 (take i xs))) → Wrote given mid new (f (i, get_or xs i d))
    → Wrote given old new (flat_map f (enumerate_from 0 (take (i + 1) xs)))
one_more given f xs i d inside before now =
    rw ((numbered_at_read xs i d inside).1, text_more f (enumerate_from 0 (take i xs)) _)
    (Wrote-append given _ _ before now)

-- the numbers below one, and that number
pub one_more_number : {W : Type 0} (given : W → Given) {old mid new : W} (f : ℕ → List ℕ) (i : ℕ)
    → Wrote given old mid (flat_map f (range_with_len 0 i)) → Wrote given mid new (f i)
    → Wrote given old new (flat_map f (range_with_len 0 (i + 1)))
one_more_number given f i before now =
    let texts : flat_map f (range_with_len 0 (i + 1)) ≡ flat_map f (range_with_len 0 i) ++ f i =
    flat_map-range_with_len_more f 0 i i (omega arith) in
    rw texts (Wrote-append given _ _ before now)

-- the entries before a place, and the entry there
pub entry_more : {W : Type 0} (given : W → Given) {old mid new : W} {X : Type 0} (f : X → List ℕ) (xs : List X) (i : ℕ)
    (x : X) (text : List ℕ) → i < length xs → x ≡ get_or xs i x → text ≡ f x
    → Wrote given old mid (entries_from 0 (take i (map f xs))) → Wrote given mid new (entry_comma (i, text))
    → Wrote given old new (entries_from 0 (take (i + 1) (map f xs)))
entry_more given f xs i x text lt at is before now =
    let found : get_or (map f xs) i (f x) ≡ f x = get_or-map f xs i x (f x) lt ∙ ap f (sym at) in
    one_more given entry_comma (map f xs) i (f x) (omega (arith, length-map xs f, lt)) before
    (rw (found, ← is) now)

-- a text that is the last of a `concat`
pub Wrote-last : {W : Type 0} (given : W → Given) {old new : W} (text : List ℕ) → Wrote given old new text
    → Wrote given old new (text ++ [])
Wrote-last given {old} text one = (one.0, one.1 ∙ ap (λ (t : List ℕ). (given old).text ++ t) (sym (append-nil text)))
