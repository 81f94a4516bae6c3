-- What the events of blocks do, part by part and copy by copy.
--
-- The invariant is that behind `first`, what the list held before, stand the effects of the events so far, in
-- their order. A part adds those of its own expansion, and a copy those of its body once more, so what stands
-- there are the effects of an expansion again (`part_added`, `copy_added`). Equal events have equal effects: so
-- from the second copy on nothing is worked out, and what the first copy added, between where the list ended
-- before it and behind it, is put at the end once more (`first_copied`). What effects do to queues doesn't come
-- in.
use Rattle.std.proofs.Common.{◌≡◌, ◌+◌, ◌-◌, ◌<◌, ℕ, suc, List, [], ◌∷◌, ◌++◌, length, map, take, drop, get_or, sym, ap}
use Rattle.std.proofs.Common.{◌∙◌, arith, append_assoc, append-nil}
use Rattle.std.proofs.lemmas.Grind.{flat_map-append}
use Rattle.std.proofs.lemmas.List.{drop_at, length-map, map-append, take_at, take_more}
use Rattle.net_core.specs.declared.network.Event.{Event}
use Rattle.script_blocks.specs.declared.blocks.BlockPart.{BlockPart}
use Rattle.script_blocks.specs.Expansion.{part_expansion, parts_expansion, repeated}
use Rattle.script_blocks.proofs.Repetitions.{repeated_more, repeated_next}
use Rattle.witness_plan.specs.Effects.{effect_of}
use Rattle.witness_plan.specs.declared.effects.Effect.{Effect}

-- some events more
effects_more : (first old new : List Effect) (es more : List Event) → old ≡ first ++ map effect_of es
    → new ≡ old ++ map effect_of more → new ≡ first ++ map effect_of (es ++ more)
effects_more first old new es more before added =
    added ∙ ap (λ xs. xs ++ map effect_of more) before
    ∙ append_assoc first (map effect_of es) (map effect_of more)
    ∙ ap (λ xs. first ++ xs) (sym (map-append effect_of es more))

-- none
pub effects_none : (first : List Effect) (es : List Event) → es ≡ [] → first ≡ first ++ map effect_of es
effects_none first es none = sym (ap (λ xs. first ++ map effect_of xs) none ∙ append-nil first)

-- those of one part more
pub part_added : (first old new : List Effect) (parts : List (BlockPart Event)) (i : ℕ) (part : BlockPart Event)
    → i < length parts → part ≡ get_or parts i part
    → old ≡ first ++ map effect_of (parts_expansion (take i parts))
    → new ≡ old ++ map effect_of (part_expansion part)
    → new ≡ first ++ map effect_of (parts_expansion (take (i + 1) parts))
part_added first old new parts i part lt is before added =
    let all : parts_expansion (take (i + 1) parts) ≡ parts_expansion (take i parts) ++ part_expansion part =
    ap parts_expansion (take_more parts i part lt ∙ ap (λ p. take i parts ++ p ∷ []) (sym is))
    ∙ flat_map-append part_expansion (take i parts) (part ∷ [])
    ∙ ap (λ ys. parts_expansion (take i parts) ++ ys) (append-nil (part_expansion part)) in
    effects_more first old new (parts_expansion (take i parts)) (part_expansion part) before added
    ∙ ap (λ es. first ++ map effect_of es) (sym all)

-- those of one copy more
pub copy_added : (first old new : List Effect) (i : ℕ) (es : List Event)
    → old ≡ first ++ map effect_of (repeated i es) → new ≡ old ++ map effect_of es
    → new ≡ first ++ map effect_of (repeated (i + 1) es)
copy_added first old new i es before added =
    effects_more first old new (repeated i es) es before added
    ∙ ap (λ xs. first ++ map effect_of xs) (sym (repeated_more i es))

-- the same of events under another name
pub effects_as : (old new : List Effect) (es same : List Event) → es ≡ same → new ≡ old ++ map effect_of es
    → new ≡ old ++ map effect_of same
effects_as old new es same is added = added ∙ ap (λ xs. old ++ map effect_of xs) is

-- Some copies stand behind others. What the first one does is cut out of the list and put at its end.
pub first_copied : (first old new : List Effect) (n : ℕ) (es : List Event) (start end : ℕ) → 0 < n
    → old ≡ first ++ map effect_of (repeated n es) → start ≡ length first → end ≡ start + length es
    → new ≡ old ++ take (end - start) (drop start old) → new ≡ old ++ map effect_of es
first_copied first old new n es start end some are begins ends copied =
    let one : n ≡ suc (n - 1) = omega arith in
    let long : end - start ≡ length (map effect_of es) = omega (arith, length-map es effect_of) in
    let rest = map effect_of (repeated (n - 1) es) in
    let behind : drop start old ≡ map effect_of es ++ rest =
    ap (drop start) are ∙ drop_at first (map effect_of (repeated n es)) start (sym begins)
    ∙ ap (λ k. map effect_of (repeated k es)) one
    ∙ ap (map effect_of) (repeated_next (n - 1) es) ∙ map-append effect_of es (repeated (n - 1) es) in
    let cut : take (end - start) (drop start old) ≡ map effect_of es =
    ap (take (end - start)) behind ∙ take_at (map effect_of es) rest (end - start) (sym long) in
    copied ∙ ap (λ more. old ++ more) cut
