-- Lists of lists, one of which grows.
use Rattle.std.proofs.Common.{◌≡◌, ◌<◌, ◌+◌, ◌-◌, ℕ, zero, suc, List, [], ◌∷◌, ◌++◌, map, length, take, set, get_or}
use Rattle.std.proofs.Common.{refl, sym, ap, ◌∙◌, arith, add-one}
use Rattle.std.specs.Prelude.{Option, Some, slice_get}
use Rattle.std.specs.List.{range_with_len}
use Rattle.std.proofs.lemmas.List.{get_or-append-add, length-map, length-set, map-append, set-append_right}
use Rattle.std.proofs.lemmas.Option.{slice_get_read}
use Rattle.plain_data.proofs.Lists.{take-suc_some}
use Rattle.sanlp.specs.declared.nest.Tag.{Tag}
use Rattle.sanlp.proofs.Lists.{split_at}
use Rattle.shadow_sweep.specs.LastWrites.{with_source, with_sources}

-- what g says at the places of a list is what f says of its elements
pub map_places : {X Y : Type 0} (g : ℕ → Y) (f : X → Y) (a : ℕ) (xs : List X)
    → ((k : ℕ) (x : X) → slice_get xs k ≡ Some x → g (a + k) ≡ f x)
    → map g (range_with_len a (length xs)) ≡ map f xs
map_places g f a [] same = refl
map_places g f a (x ∷ xs) same =
    let first : a ≡ a + 0 = omega arith in
    ap (λ y. y ∷ map g (range_with_len (a + 1) (length xs))) (ap g first ∙ same 0 x refl)
    ∙ ap (λ ys. f x ∷ ys)
    (map_places g f (a + 1) xs
    (λ k y e. let later : a + 1 + k ≡ a + suc k = omega arith in ap g later ∙ same (suc k) y e))

-- lists, each with one of these sources at its end
abbrev pub longer : List (List (Option Tag)) → List (Option Tag) → List (List (Option Tag))
longer [] sources = []
longer (list ∷ lists) [] = list ∷ lists
longer (list ∷ lists) (source ∷ sources) = (list ++ source ∷ []) ∷ longer lists sources

pub longer_counted : (f : ℕ → List (Option Tag)) (g : ℕ → Option Tag) (a m : ℕ)
    → longer (map f (range_with_len a m)) (map g (range_with_len a m)) ≡ map (λ k. f k ++ g k ∷ []) (range_with_len a m)
longer_counted f g a zero = refl
longer_counted f g a (suc m) = ap (λ ls. (f a ++ g a ∷ []) ∷ ls) (longer_counted f g (a + 1) m)

-- a source in a list after others
source_after : (front lists : List (List (Option Tag))) (i : ℕ) (source : Option Tag)
    → with_source (front ++ lists) (length front + i) source ≡ front ++ with_source lists i source
source_after front lists i source =
    let left : length front + i - length front ≡ i = omega arith in
    ap (λ list. set (front ++ lists) (length front + i) (list ++ source ∷ [])) (get_or-append-add front lists i [])
    ∙ set-append_right front lists (length front) (length front + i) (get_or lists i [] ++ source ∷ []) refl
    (omega arith)
    ∙ ap (λ j. front ++ set lists j (get_or lists i [] ++ source ∷ [])) left

pub sources_after : (front lists : List (List (Option Tag))) (i : ℕ) (sources : List (Option Tag))
    → with_sources (front ++ lists) (length front + i) sources ≡ front ++ with_sources lists i sources
sources_after front lists i [] = refl
sources_after front lists i (source ∷ sources) =
    let next : length front + i + 1 ≡ length front + (i + 1) = omega arith in
    ap (λ ls. with_sources ls (length front + i + 1) sources) (source_after front lists i source)
    ∙ ap (λ j. with_sources (front ++ with_source lists i source) j sources) next
    ∙ sources_after front (with_source lists i source) (i + 1) sources

-- one source for each list of a front
pub sources_in_front : (front lists : List (List (Option Tag))) (sources : List (Option Tag))
    → length front ≡ length sources
    → with_sources (front ++ lists) 0 sources ≡ longer front sources ++ lists
sources_in_front [] lists [] e = refl
sources_in_front [] lists (source ∷ sources) e = absurd (omega arith)
sources_in_front (list ∷ front) lists [] e = absurd (omega arith)
sources_in_front (list ∷ front) lists (source ∷ sources) e =
    sources_after ((list ++ source ∷ []) ∷ []) (front ++ lists) 0 sources
    ∙ ap (λ ls. (list ++ source ∷ []) ∷ ls) (sources_in_front front lists sources (omega arith))

-- one source more
pub sources_more : (lists : List (List (Option Tag))) (i : ℕ) (sources : List (Option Tag)) (source : Option Tag)
    → with_sources lists i (sources ++ source ∷ [])
    ≡ with_source (with_sources lists i sources) (i + length sources) source
sources_more lists i [] source = let e : i ≡ i + 0 = omega arith in ap (λ j. with_source lists j source) e
sources_more lists i (first ∷ sources) source =
    let e : i + 1 + length sources ≡ i + suc (length sources) = omega arith in
    sources_more (with_source lists i first) (i + 1) sources source
    ∙ ap (λ j. with_source (with_sources (with_source lists i first) (i + 1) sources) j source) e

pub length-with_sources : (lists : List (List (Option Tag))) (i : ℕ) (sources : List (Option Tag))
    → length (with_sources lists i sources) ≡ length lists
length-with_sources lists i [] = refl
length-with_sources lists i (source ∷ sources) =
    length-with_sources (with_source lists i source) (i + 1) sources
    ∙ length-set lists i (get_or lists i [] ++ source ∷ [])

-- one read more
pub sources_step : {X Y : Type 0} (w : Y → Option Tag) (c : X → Y) (lists before after : List (List (Option Tag)))
    (first i : ℕ) (xs : List X) (x : X) (source : Option Tag)
    → i < length xs → x ≡ get_or xs i x → source ≡ w (c x)
    → before ≡ with_sources lists first (map w (map c (take i xs))) → after ≡ with_source before (first + i) source
    → after ≡ with_sources lists first (map w (map c (take (i + 1) xs)))
sources_step w c lists before after first i xs x source lt is e was f =
    let here = slice_get_read xs (length xs) i x refl lt is in
    let sources : List (Option Tag) = map w (map c (take i xs)) in
    let number : i ≡ length sources =
    sym (length-map (map c (take i xs)) w ∙ length-map (take i xs) c ∙ (split_at xs i x here).1) in
    f ∙ ap (λ ls. with_source ls (first + i) source) was
    ∙ ap (λ s. with_source (with_sources lists first sources) (first + i) s) e
    ∙ ap (λ j. with_source (with_sources lists first sources) (first + j) (w (c x))) number
    ∙ sym (sources_more lists first sources (w (c x)))
    ∙ ap (with_sources lists first)
    (sym (ap (map w)
    (ap (map c) (ap (λ k. take k xs) (add-one i) ∙ take-suc_some xs i x here) ∙ map-append c (take i xs) (x ∷ []))
    ∙ map-append w (map c (take i xs)) (c x ∷ [])))
