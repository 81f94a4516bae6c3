-- The turns of a writer that sources want, source by source and all at once.
--
-- Each source wants the turns up to itself, so the greatest of what some sources want is what they need together, however many
-- were wanted before (`folded`, by induction along the sources). What two lists of sources want together is the greater of
-- what each wants (`joined`), so a front of the sources and the sources behind it make a longer front (`behind`). Which turns
-- are tokens is no question here.
use Rattle.std.proofs.Common.{◌≡◌, ◌≤◌, ◌<◌, ◌+◌, ℕ, max, List, [], ◌∷◌, ◌++◌, map, length, take, drop, get_or}
use Rattle.std.proofs.Common.{refl, ap, ◌∙◌, arith, take-add}
use Rattle.std.specs.Prelude.{Option, Some, None}
use Rattle.std.specs.List.{cons_option, fold, range_with_len}
use Rattle.std.specs.Option.{option_map_or}
use Rattle.std.proofs.lemmas.List.{map-append, take-append-drop, take_more}
use Rattle.std.proofs.lemmas.List.Sums.{fold-append}
use Rattle.channel_plan.specs.Tokens.{turn_of, turns_used}
use Rattle.network_numbers.specs.Entries.{turns_wanted}
use Rattle.reorder_slots.specs.Slots.{gets_for}
use Rattle.sanlp.proofs.Lists.{range_with_len_more}
use Rattle.sanlp.specs.declared.nest.Tag.{Tag}

-- how many turns these need: 1 and the greatest of them
abbrev pub turns_for : List ℕ → ℕ
turns_for turns = gets_for turns

module _ (w : ℕ) where
  -- how many turns these sources need
  abbrev pub needed : List (Option Tag) → ℕ
  needed sources = turns_for (turns_used w sources)

  first_needed : (o : Option ℕ) (turns : List ℕ)
      → turns_for (cons_option o turns) ≡ max (option_map_or (λ turn. turn + 1) o 0) (turns_for turns)
  first_needed None turns = omega arith
  first_needed (Some turn) turns = refl

  pub folded : (sources : List (Option Tag)) (before : ℕ)
      → fold max before (map (turns_wanted w) sources) ≡ max before (needed sources)
  folded [] before = omega arith
  folded (source ∷ sources) before =
      omega (
        arith,
        folded sources (max before (turns_wanted w source)),
        first_needed (turn_of w source) (turns_used w sources),
      )

  joined : (front rest : List (Option Tag)) → needed (front ++ rest) ≡ max (needed front) (needed rest)
  joined [] rest = omega arith
  joined (source ∷ front) rest =
      omega (
        arith,
        first_needed (turn_of w source) (turns_used w (front ++ rest)),
        joined front rest,
        first_needed (turn_of w source) (turns_used w front),
      )

  -- behind the first f sources so many more
  pub behind : (f m : ℕ) (sources : List (Option Tag)) (before : ℕ) → before ≡ needed (take f sources)
      → fold max before (map (turns_wanted w) (take m (drop f sources))) ≡ needed (take (f + m) sources)
  behind f m sources before e =
      let all = ap needed (take-add f m sources) in
      omega (arith, folded (take m (drop f sources)) before, joined (take f sources) (take m (drop f sources)), all, e)

  -- a front needs no more than all
  pub front_needed : (f : ℕ) (sources : List (Option Tag)) → needed (take f sources) ≤ needed sources
  front_needed f sources =
      omega (arith, ap needed (take-append-drop f sources), joined (take f sources) (drop f sources))

-- one element more of a list that is folded
pub folded_next : {X : Type 0} (f : X → ℕ) (xs : List X) (k g : ℕ) (d : X) → k < length xs
    → fold max g (map f (take (k + 1) xs)) ≡ max (fold max g (map f (take k xs))) (f (get_or xs k d))
folded_next f xs k g d lt =
    ap (λ ys. fold max g (map f ys)) (take_more xs k d lt)
    ∙ ap (fold max g) (map-append f (take k xs) (get_or xs k d ∷ []))
    ∙ fold-append max g (map f (take k xs)) (f (get_or xs k d) ∷ [])

-- one number more, of which the greatest is told
pub greatest_next : (f : ℕ → ℕ) (g count : ℕ)
    → fold max g (map f (range_with_len 0 (count + 1))) ≡ max (fold max g (map f (range_with_len 0 count))) (f count)
greatest_next f g count =
    ap (λ ks. fold max g (map f ks)) (range_with_len_more 0 count count (omega arith))
    ∙ ap (fold max g) (map-append f (range_with_len 0 count) (count ∷ []))
    ∙ fold-append max g (map f (range_with_len 0 count)) (f count ∷ [])
