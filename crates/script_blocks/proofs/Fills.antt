-- A walk that adds items to a batch.
--
-- What the batch has, followed by what the walk has left, is the same list at each moment: an item that the walk comes
-- by goes from the front of the one to the end of the other. So a step within a part says all of the parts behind it
-- too, and a step within a repetition all of the later ones. The equations are kept with both batches, and nothing is
-- said of what was added: only at the end, where the batch had nothing, is it what was left.
use Rattle.std.proofs.Common.{◌≡◌, ◌+◌, ◌<◌, ◌-◌, ◌≢◌, ℕ, true, false, List, [], ◌∷◌, ◌++◌, drop}
use Rattle.std.proofs.Common.{length, get_or, refl, sym, ap, ◌∙◌, arith, append_assoc}
use Rattle.std.proofs.lemmas.List.{length-append}
use Rattle.script_blocks.specs.declared.blocks.BlockPart.{BlockPart}
use Rattle.script_blocks.specs.declared.cursor.Frame.{Frame}
use Rattle.script_blocks.specs.Expansion.{parts_expansion, repeated}
use Rattle.script_blocks.specs.Places.{Left, left_of_part, left_of_parts, left_of_repeat, left_of_turns}
use Rattle.script_blocks.proofs.Repetitions.{repeated_none, repeated_nothing}
use Rattle.script_blocks.proofs.Walks.{inside_is, left_from_part, left_outside, outside_is}

-- what stands behind both
pub behind : {T : Type 0} (before after xs ys others : List T) → before ++ xs ≡ after ++ ys
    → before ++ (xs ++ others) ≡ after ++ (ys ++ others)
behind before after xs ys others is =
    sym (append_assoc before xs others) ∙ ap (λ zs. zs ++ others) is ∙ append_assoc after ys others

module _ {T : Type 0} (before after : List T) where
  -- a step within the part that the walk is at
  module _ (f g : Frame) (inner inner_after : Left T) (parts : List (BlockPart T)) (part : BlockPart T)
      (lt : f.part < length parts) (e : part ≡ get_or parts f.part part)
      (same : g.part ≡ f.part)
      (moved : before ++ left_of_part f inner part ≡ after ++ left_of_part g inner_after part) where
    pub within_part : before ++ left_of_parts f inner (drop f.part parts)
        ≡ after ++ left_of_parts g inner_after (drop g.part parts)
    within_part =
        ap (λ xs. before ++ xs) (left_from_part f inner parts f.part part lt e)
        ∙ behind before after (left_of_part f inner part) (left_of_part g inner_after part)
        (parts_expansion (drop (f.part + 1) parts)) moved
        ∙ ap (λ xs. after ++ xs) (sym (
        ap (λ i. left_of_parts g inner_after (drop i parts)) same
        ∙ left_from_part g inner_after parts f.part part lt e))

    -- the part is done, and the next one was not entered
    pub past_part : left_of_part g inner_after part ≡ [] → (next : Frame) → next.part ≡ g.part + 1
        → next.inside ≡ false
        → before ++ left_of_parts f inner (drop f.part parts)
        ≡ after ++ left_of_parts next inner_after (drop next.part parts)
    past_part none next at outside =
        within_part
        ∙ ap (λ xs. after ++ xs) (
        ap (λ i. left_of_parts g inner_after (drop i parts)) same
        ∙ left_from_part g inner_after parts f.part part lt e
        ∙ ap (λ xs. xs ++ parts_expansion (drop (f.part + 1) parts)) none
        ∙ sym (left_outside next inner_after (drop (f.part + 1) parts) outside)
        ∙ ap (λ i. left_of_parts next inner_after (drop i parts)) (ap (λ i. i + 1) (sym same) ∙ sym at))

  -- a step within a repetition
  module _ (f : Frame) (inner inner_after : Left T) (body : List (BlockPart T))
      (moved : before ++ inner body ≡ after ++ inner_after body) where
    pub within_turn : before ++ left_of_turns f inner body ≡ after ++ left_of_turns f inner_after body
    within_turn = behind before after (inner body) (inner_after body) (repeated f.later (parts_expansion body)) moved

    -- the repetition is done, and the next one has begun
    pub next_turn : (g : Frame) (begun : Left T) → inner_after body ≡ [] → f.later ≢ 0
        → left_of_turns g begun body ≡ repeated (f.later - 1 + 1) (parts_expansion body)
        → before ++ left_of_turns f inner body ≡ after ++ left_of_turns g begun body
    next_turn g begun none some is =
        within_turn
        ∙ ap (λ xs. after ++ (xs ++ repeated f.later (parts_expansion body))) none
        ∙ ap (λ xs. after ++ xs) (
        ap (λ n. repeated n (parts_expansion body)) (omega arith) ∙ sym is)

  -- where a repetition has nothing from its beginning on
  pub nothing_added : (xs : List T) → before ++ xs ≡ after ++ [] → length after ≡ length before → xs ≡ []
  nothing_added xs is same =
      none xs (omega (arith, ap length is, length-append before xs, length-append after [])) where
        none : (ys : List T) → length ys ≡ 0 → ys ≡ []
        none [] e = refl
        none (y ∷ ys) e = absurd (omega arith)

-- the last repetition is done
pub turns_done : {T : Type 0} (f : Frame) (inner : Left T) (body : List (BlockPart T)) → inner body ≡ []
    → f.later ≡ 0 → left_of_turns f inner body ≡ []
turns_done f inner body none last =
    ap (λ xs. xs ++ repeated f.later (parts_expansion body)) none
    ∙ ap (λ n. repeated n (parts_expansion body)) last ∙ repeated_none (parts_expansion body)

-- the later ones have nothing
pub turns_nothing : {T : Type 0} (f : Frame) (inner : Left T) (body : List (BlockPart T)) → inner body ≡ []
    → parts_expansion body ≡ [] → left_of_turns f inner body ≡ []
turns_nothing f inner body none empty =
    ap (λ xs. xs ++ repeated f.later (parts_expansion body)) none
    ∙ ap (repeated f.later) empty ∙ repeated_nothing f.later

-- the same of a repeat, whether it was entered or not
module _ {T : Type 0} (before after last : List T) (f : Frame) (inner inner_after : Left T) (count : ℕ)
    (body : List (BlockPart T)) where
  pub repeat_within : f.inside ≡ true → before ++ inner body ≡ after ++ inner_after body
      → before ++ left_of_repeat f inner count body ≡ after ++ left_of_repeat f inner_after count body
  repeat_within entered moved =
      ap (λ xs. before ++ xs) (inside_is f inner count body entered)
      ∙ within_turn before after f inner inner_after body moved
      ∙ ap (λ xs. after ++ xs) (sym (inside_is f inner_after count body entered))

  module _ (g h : Frame) (begun inner_last : Left T) (entered_last : h.inside ≡ true) where
    -- the repetition is done, and later ones have begun
    pub repeat_later : f.inside ≡ true → before ++ inner body ≡ after ++ inner_after body → inner_after body ≡ []
        → f.later ≢ 0 → left_of_turns g begun body ≡ repeated (f.later - 1 + 1) (parts_expansion body)
        → after ++ left_of_turns g begun body ≡ last ++ left_of_turns h inner_last body
        → before ++ left_of_repeat f inner count body ≡ last ++ left_of_repeat h inner_last count body
    repeat_later entered moved none some is moved_on =
        ap (λ xs. before ++ xs) (inside_is f inner count body entered)
        ∙ next_turn before after f inner inner_after body moved g begun none some is
        ∙ moved_on
        ∙ ap (λ xs. last ++ xs) (sym (inside_is h inner_last count body entered_last))

    -- the first repetition has begun
    pub repeat_begun : f.inside ≡ false → count ≢ 0
        → left_of_turns g begun body ≡ repeated (count - 1 + 1) (parts_expansion body)
        → before ++ left_of_turns g begun body ≡ last ++ left_of_turns h inner_last body
        → before ++ left_of_repeat f inner count body ≡ last ++ left_of_repeat h inner_last count body
    repeat_begun outside some is moved_on =
        ap (λ xs. before ++ xs) (
        outside_is f inner count body outside
        ∙ ap (λ n. repeated n (parts_expansion body)) (omega arith) ∙ sym is)
        ∙ moved_on
        ∙ ap (λ xs. last ++ xs) (sym (inside_is h inner_last count body entered_last))

module _ {T : Type 0} (f : Frame) (inner : Left T) (count : ℕ) (body : List (BlockPart T)) where
  pub repeat_done : f.inside ≡ true → inner body ≡ [] → f.later ≡ 0 → left_of_repeat f inner count body ≡ []
  repeat_done entered none last = inside_is f inner count body entered ∙ turns_done f inner body none last

  pub repeat_all_done : f.inside ≡ true → left_of_turns f inner body ≡ [] → left_of_repeat f inner count body ≡ []
  repeat_all_done entered none = inside_is f inner count body entered ∙ none

  pub repeat_never : f.inside ≡ false → count ≡ 0 → left_of_repeat f inner count body ≡ []
  repeat_never outside zero_times =
      outside_is f inner count body outside
      ∙ ap (λ n. repeated n (parts_expansion body)) zero_times ∙ repeated_none (parts_expansion body)

pub ruleset fills = (repeat_within, repeat_later, repeat_begun, repeat_done, repeat_all_done, repeat_never)
