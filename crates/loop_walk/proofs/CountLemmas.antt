-- Steps of the count, over plain variables.
use Rattle.std.proofs.Common.{◌≡◌, ℕ, ℤ, pos, ◌+ℤ◌, ◌≤ℤ◌, ◌<ℤ◌, List, sym, ap, ◌∙◌}
use Rattle.std.specs.Prelude.{Result, Ok, Err}
use Rattle.sanlp.specs.Loops.{interval}
use Rattle.loop_walk.specs.Counting.{Count, and_then, counted_turn, counted_turns}
use Rattle.loop_walk.specs.declared.count.SizeError.{SizeError}
use Rattle.sanlp.proofs.Intervals.{interval_step, interval_end}

module _ (body : List (List ℤ → Count)) (at : List ℤ) (value last : ℤ) (count : ℕ) (all : Result ℕ SizeError) where
  -- the first of the turns that are left
  first_turn : value ≤ℤ last → counted_turns body at (interval value last) count
      ≡ and_then (counted_turn body at value count) (counted_turns body at (interval (value +ℤ pos 1) last))
  first_turn le = ap (λ values. counted_turns body at values count) (interval_step value last le)

  pub turn_counted : (next : ℕ) → value ≤ℤ last → Ok next ≡ counted_turn body at value count
      → counted_turns body at (interval value last) count ≡ all
      → counted_turns body at (interval (value +ℤ pos 1) last) next ≡ all
  turn_counted next le turn before =
      ap (λ r. and_then r (counted_turns body at (interval (value +ℤ pos 1) last))) turn ∙ sym (first_turn le) ∙ before

  pub turn_refused : (refusal : SizeError) → value ≤ℤ last → Err refusal ≡ counted_turn body at value count
      → counted_turns body at (interval value last) count ≡ all → Err refusal ≡ all
  turn_refused refusal le turn before =
      ap (λ r. and_then r (counted_turns body at (interval (value +ℤ pos 1) last))) turn ∙ sym (first_turn le) ∙ before

  pub turns_counted : last <ℤ value → counted_turns body at (interval value last) count ≡ all → Ok count ≡ all
  turns_counted lt before =
      ap (λ values. counted_turns body at values count) (sym (interval_end value last lt)) ∙ before
