-- The uses of each process's tokens, as they are counted.
--
-- The invariant of the walk over a read's fires is that the count of process w is how often the fires
-- before use a token of w. It holds at first, where no fire is before. A source of a process raises the
-- count of that process by 1 and no other, and a fire without a source raises none (`counts_more`); for
-- this each source must be of a process that has a count. So the number of a fire's use is the count of its
-- source's process (`used_here`), and it is no more than the number of the fires before (`before_few`).
use Rattle.std.proofs.Common.{◌≡◌, ◌<◌, ◌≤◌, ◌+◌, ℕ, zero, suc, List, [], ◌∷◌, map, length, take, set}
use Rattle.std.proofs.Common.{get_or, refl, sym, ap, ◌∙◌, arith, add-one, length-append}
use Rattle.std.specs.Prelude.{Option, Some, None, slice_get, replicate}
use Rattle.std.specs.List.{cons_option, range_with_len}
use Rattle.std.specs.Option.{option_and_then}
use Rattle.std.proofs.lemmas.List.Elements.{filter_map-append}
use Rattle.std.proofs.lemmas.List.FromFn.{get_or-map-range_with_len}
use Rattle.sanlp.specs.declared.nest.Tag.{Tag}
use Rattle.sanlp.proofs.Lists.{map-range_with_len_same, map-range_with_len_replicate, set_counted}
use Rattle.channel_plan.specs.Tokens.{turn_of, turns_used}
use Rattle.channel_plan.proofs.OneSlot.{turn_of-own, turn_of-foreign}
use Rattle.plain_data.proofs.Lists.{take-suc_some}
use Rattle.process_derive.specs.declared.incoming.Incoming.{Incoming}
use Rattle.process_derive.specs.Uses.{CountsBelow, OnlyBelow, counted, use_at, use_from, uses_before}

pub before_more : (sources : List (Option Tag)) (i w : ℕ) (source : Option Tag) → slice_get sources i ≡ Some source
    → uses_before sources (i + 1) w ≡ uses_before sources i w + length (cons_option (turn_of w source) [])
before_more sources i w source e =
    ap (λ k. length (turns_used w (take k sources))) (add-one i)
    ∙ ap (λ xs. length (turns_used w xs)) (take-suc_some sources i source e)
    ∙ ap length (filter_map-append (turn_of w) (take i sources) (source ∷ []))
    ∙ length-append (turns_used w (take i sources)) (cons_option (turn_of w source) [])

pub few_kept : (o : Option ℕ) (xs : List ℕ) → length (cons_option o xs) ≤ suc (length xs)
few_kept None xs = omega arith
few_kept (Some x) xs = omega arith

few_used : (w : ℕ) (sources : List (Option Tag)) → length (turns_used w sources) ≤ length sources
few_used w [] = omega arith
few_used w (source ∷ sources) = omega (arith, few_kept (turn_of w source) (turns_used w sources), few_used w sources)

length_take_le : (t : ℕ) (xs : List (Option Tag)) → length (take t xs) ≤ t
length_take_le zero xs = omega arith
length_take_le (suc t) [] = omega arith
length_take_le (suc t) (x ∷ xs) = omega (arith, length_take_le t xs)

pub before_few : (sources : List (Option Tag)) (i w : ℕ) → uses_before sources i w ≤ i
before_few sources i w = omega (arith, few_used w (take i sources), length_take_le i sources)

-- no fire stands before the first
pub none_before : (sources : List (Option Tag)) (processes : ℕ)
    → replicate processes 0 ≡ map (uses_before sources 0) (range_with_len 0 processes)
none_before sources processes = sym (map-range_with_len_replicate (uses_before sources 0) 0 0 processes (λ w. refl))

-- one fire more
pub counts_more : (sources : List (Option Tag)) (i processes : ℕ) (source : Option Tag) (counts : List ℕ)
    → slice_get sources i ≡ Some source → OnlyBelow processes source
    → counts ≡ map (uses_before sources i) (range_with_len 0 processes)
    → counted counts source ≡ map (uses_before sources (i + 1)) (range_with_len 0 processes)
counts_more sources i processes None counts e below was =
    was ∙ map-range_with_len_same (uses_before sources i) (uses_before sources (i + 1)) 0 processes
    (λ w h l. sym (before_more sources i w None e ∙ omega arith))
counts_more sources i processes (Some t) counts e below was =
    let f : ℕ → ℕ = uses_before sources i in
    let g : ℕ → ℕ = uses_before sources (i + 1) in
    let p = t.process in
    let here : get_or counts p 0 ≡ f p =
    ap (λ xs. get_or xs p 0) was ∙ get_or-map-range_with_len f 0 processes p p 0 below (omega arith) in
    ap (λ n. set counts p (n + 1)) here
    ∙ ap (λ xs. set xs p (f p + 1)) was
    ∙ set_counted f g p (before_more sources i p (Some t) e ∙ ap (λ xs. f p + length xs) (turn_of-own p t refl))
    (λ w other. sym
    (before_more sources i w (Some t) e ∙ ap (λ xs. f w + length xs) (turn_of-foreign w t (λ same. other (sym same)))
    ∙ omega arith))
    0 processes p (omega arith)

pub counts_few : (sources : List (Option Tag)) (i processes limit : ℕ) (source : Option Tag) (counts : List ℕ)
    → OnlyBelow processes source → i < limit
    → counts ≡ map (uses_before sources i) (range_with_len 0 processes) → CountsBelow limit counts source
counts_few sources i processes limit None counts below few was = tt
counts_few sources i processes limit (Some t) counts below few was =
    let here : get_or counts t.process 0 ≡ uses_before sources i t.process =
    ap (λ xs. get_or xs t.process 0) was
    ∙ get_or-map-range_with_len (uses_before sources i) 0 processes t.process t.process 0 below (omega arith) in
    omega (arith, here, before_few sources i t.process)

-- what fire i uses, from the counts before it
pub used_here : (incoming : List Incoming) (k : ℕ) (sources : List (Option Tag)) (i processes : ℕ) (source : Option Tag)
    (counts : List ℕ) → slice_get sources i ≡ Some source → OnlyBelow processes source
    → counts ≡ map (uses_before sources i) (range_with_len 0 processes)
    → option_and_then (λ t. use_from incoming k t.process (get_or counts t.process 0)) source
    ≡ use_at incoming k sources i
used_here incoming k sources i processes None counts e below was =
    sym (ap (λ o.
    option_and_then
    (λ source. option_and_then
    (λ t. use_from incoming k t.process (uses_before sources i t.process)) source) o) e)
used_here incoming k sources i processes (Some t) counts e below was =
    ap (use_from incoming k t.process)
    (ap (λ xs. get_or xs t.process 0) was
    ∙ get_or-map-range_with_len (uses_before sources i) 0 processes t.process t.process 0 below (omega arith))
    ∙ sym (ap (λ o.
    option_and_then
    (λ source. option_and_then
    (λ t. use_from incoming k t.process (uses_before sources i t.process)) source) o) e)
