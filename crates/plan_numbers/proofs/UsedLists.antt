-- The turns of each process among the sources of a read, as their lists grow.
--
-- The invariant is that the list of process w has the turns of w among the sources passed so far. The next source, where it is
-- a turn, is at the end of its turn_of-own process's list, and no other process has it (`lists_more`); for this each source must be of
-- one of the processes. A list is empty exactly where no source is of its process (`none_used`, and channel_plan's
-- `turns_used-some`). In what order processes stand is no question here.
use Rattle.std.proofs.Common.{◌≡◌, ◌<◌, ◌+◌, ◌==◌, ◌||◌, ℕ, Bool, true, false, cond, List, [], ◌∷◌, ◌++◌, map, length, take, set, get_or}
use Rattle.std.proofs.Common.{refl, sym, ap, ◌∙◌, arith}
use Rattle.std.specs.Prelude.{Option, Some, None}
use Rattle.std.specs.List.{cons_option, list_any, range_with_len}
use Rattle.std.proofs.lemmas.List.{append-nil}
use Rattle.std.proofs.lemmas.List.FromFn.{get_or-map-range_with_len}
use Rattle.channel_plan.specs.Reads.{IsTurnAmong}
use Rattle.channel_plan.specs.Tokens.{is_from, turn_of, turns_used}
use Rattle.channel_plan.proofs.Counts.{set_mapped}
use Rattle.channel_plan.proofs.Marks.{filter_map_more}
use Rattle.channel_plan.proofs.OneSlot.{turn_of-own, turn_of-foreign}
use Rattle.plan_numbers.specs.Turns.{IsOfOne, with_turn}
use Rattle.sanlp.proofs.Lists.{map-range_with_len_same}
use Rattle.sanlp.specs.declared.nest.Tag.{Tag}

-- one source more
pub lists_more : (m i : ℕ) (sources : List (Option Tag)) (source d : Option Tag) (lists : List (List ℕ))
    → i < length sources → source ≡ get_or sources i d → IsOfOne m source
    → lists ≡ map (λ w. turns_used w (take i sources)) (range_with_len 0 m)
    → with_turn lists source ≡ map (λ w. turns_used w (take (i + 1) sources)) (range_with_len 0 m)
lists_more m i sources None d lists lt e of was =
    was
    ∙ map-range_with_len_same (λ w. turns_used w (take i sources)) (λ w. turns_used w (take (i + 1) sources)) 0 m
    (λ w from below. sym
    (filter_map_more (turn_of w) sources i d None lt (ap (turn_of w) e) ∙ append-nil (turns_used w (take i sources))))
lists_more m i sources (Some t) d lists lt e of was =
    let f : ℕ → List ℕ = λ w. turns_used w (take i sources) in
    let g : ℕ → List ℕ = λ w. turns_used w (take (i + 1) sources) in
    let p = t.process in
    let more : (w : ℕ) → g w ≡ f w ++ cons_option (turn_of w (Some t)) [] = λ w.
    filter_map_more (turn_of w) sources i d (turn_of w (Some t)) lt (ap (turn_of w) e) in
    let here : get_or lists p [] ≡ f p =
    ap (λ xs. get_or xs p []) was ∙ get_or-map-range_with_len f 0 m p p [] of (omega arith) in
    ap (λ xs. set lists p (xs ++ t.turn ∷ [])) here
    ∙ ap (λ xs. set xs p (f p ++ t.turn ∷ [])) was
    ∙ set_mapped f g p (f p ++ t.turn ∷ []) (more p ∙ ap (λ xs. f p ++ xs) (turn_of-own p t refl))
    (λ w other. sym
    (more w ∙ ap (λ xs. f w ++ xs) (turn_of-foreign w t (λ same. other (sym same))) ∙ append-nil (f w)))
    0 m p (omega arith)

-- a turn among these is of one of the processes
pub of_one : (turns : List ℕ) (m : ℕ) (source : Option Tag) → length turns ≡ m → IsTurnAmong turns source → IsOfOne m source
of_one turns m None e among = tt
of_one turns m (Some t) e among = omega (arith, among.0)

none_first : (b rest : Bool) (turn : ℕ) (used : List ℕ) → (b || rest) ≡ false → (rest ≡ false → used ≡ [])
    → cons_option (cond b (Some turn) None) used ≡ []
none_first true rest turn used h later = absurd (cc)
none_first false rest turn used h later = later h

-- where no source is of a process it has no turn among them
pub none_used : (w : ℕ) (sources : List (Option Tag)) → list_any (is_from w) sources ≡ false → turns_used w sources ≡ []
none_used w [] h = refl
none_used w (None ∷ sources) h = none_used w sources h
none_used w (Some t ∷ sources) h =
    none_first (t.process == w) (list_any (is_from w) sources) t.turn (turns_used w sources) h (none_used w sources)
