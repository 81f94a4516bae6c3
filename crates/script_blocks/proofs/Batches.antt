-- A batch is a short list that is kept in place: an array of cells and a count. Its items are the
-- values of the first cells, as many as the count. Putting one behind them sets the next cell and
-- raises the count, so the items before it stay. Cells from the count on mean nothing.
use Rattle.std.proofs.Common.{◌≡◌, ◌+◌, ◌<◌, ℕ, Option, List, [], ◌∷◌, ◌++◌, map, set, take, length}
use Rattle.std.proofs.Common.{sym, ap, ◌∙◌, arith}
use Rattle.std.specs.Prelude.{Some}
use Rattle.std.proofs.lemmas.List.{length-map, length-set, length-take-le, map-append, take_more_set}
use Rattle.std.proofs.lemmas.List.Elements.{filter_map-append}
use Rattle.script_blocks.specs.Batches.{IsFront, present}

module _ {T : Type 0} (places : List (Option T)) (len : ℕ) (front : IsFront places len) where
  pub front_len : length (present (take len places)) ≡ len
  front_len =
      sym (length-map (present (take len places)) Some) ∙ ap length front.filled
      ∙ length-take-le len places (omega (arith, front.within, front.whole))

  -- one item more
  module _ (item : T) (lt : len < 16) where
    more : take (len + 1) (set places len (Some item)) ≡ take len places ++ Some item ∷ []
    more = take_more_set places len (Some item) (omega (arith, front.whole))

    pub present_more : present (take (len + 1) (set places len (Some item))) ≡ present (take len places) ++ item ∷ []
    present_more = ap present more ∙ filter_map-append (λ place. place) (take len places) (Some item ∷ [])

    pub front_more : IsFront (set places len (Some item)) (len + 1)
    front_more = record {
      within = omega arith;
      whole = length-set places len (Some item) ∙ front.whole;
      filled =
          ap (map Some) present_more ∙ map-append Some (present (take len places)) (item ∷ [])
          ∙ ap (λ xs. xs ++ Some item ∷ []) front.filled ∙ sym more;
    }

pub front_room : {T : Type 0} (places : List (Option T)) (len : ℕ) (front : IsFront places len) (items : List T)
    → present (take len places) ≡ items → length items < 16 → len < 16
front_room places len front items is few = omega (arith, front_len places len front, ap length is)
