-- The numbers of a channel are those of its plan, and a read's channels are those of the writers that have turns.
--
-- The token of a turn is told by how many used turns stand before it. A plan counts marks that are set, and here
-- turns are tested, which is the same count (`tokens_told`), so each field is the plan's (`numbers_told`). Along the
-- processes the invariant is that the channels so far are those of the writers below this process: a process of which
-- some source is a turn adds its own channel (`numbers_more`), and any other adds none (`numbers_same`). A process
-- that fires without being read is no writer here.
use Rattle.std.proofs.Common.{◌≡◌, ◌+◌, ℕ, Bool, true, false, cond, List, [], ◌∷◌, ◌++◌, map, length, take, count_by}
use Rattle.std.proofs.Common.{sym, ap, ◌∙◌, inl, inr, arith}
use Rattle.std.specs.Prelude.{Option}
use Rattle.std.specs.List.{filter, list_any, range_with_len}
use Rattle.std.proofs.lemmas.Bool.{cases_Bool, cond-true, cond-false}
use Rattle.std.proofs.lemmas.List.{append-nil, map-append}
use Rattle.std.proofs.lemmas.List.FromFn.{length-map-range_with_len, take-map-range_with_len}
use Rattle.channel_class.specs.Classes.{class_of}
use Rattle.channel_class.specs.declared.ChannelClass.{ChannelClass}
use Rattle.channel_plan.specs.declared.plans.ChannelPlan.{ChannelPlan}
use Rattle.channel_plan.specs.Reads.{channel_of}
use Rattle.channel_plan.specs.Tokens.{is_from, is_used, tokens_among, tokens_below, turns_used, uses_of}
use Rattle.channel_plan.proofs.OneSlot.{turns_used-some}
use Rattle.channel_plan.proofs.Counts.{filter-range_with_len_more}
use Rattle.channel_plan.proofs.Uses.{count_by-map}
use Rattle.plan_numbers.specs.Numbers.{numbers_of, tokens_before}
use Rattle.plan_numbers.specs.Used.{numbers_by}
use Rattle.plan_numbers.specs.declared.numbers.PlanNumbers.{PlanNumbers}
use Rattle.plan_numbers.proofs.UsedLists.{none_used}
use Rattle.reorder_slots.specs.Slots.{hold_of}
use Rattle.sanlp.proofs.Lists.{map-range_with_len_same}
use Rattle.sanlp.specs.declared.nest.Tag.{Tag}

pub tokens_told : (turns : ℕ) (used : List ℕ)
    → tokens_before (tokens_among turns used) ≡ map (tokens_below used) (range_with_len 0 (turns + 1))
tokens_told turns used =
    let marks : List Bool = tokens_among turns used in
    let below : ℕ → ℕ = λ turn. count_by (λ mark. mark) (take turn marks) in
    ap (λ m. map below (range_with_len 0 (m + 1))) (length-map-range_with_len (is_used used) 0 turns)
    ∙ map-range_with_len_same below (tokens_below used) 0 (turns + 1)
    (λ turn from lt. ap (count_by (λ mark. mark))
    (take-map-range_with_len (is_used used) 0 turns turn (omega arith))
    ∙ count_by-map (is_used used) (range_with_len 0 turn))

-- the numbers of a channel, from their parts
pub numbers_are : (p k w turns : ℕ) (used before : List ℕ) (tokens : ℕ) (class : ChannelClass) (hold : ℕ)
    → before ≡ map (tokens_below used) (range_with_len 0 (turns + 1)) → tokens ≡ tokens_below used turns
    → class ≡ class_of (uses_of used) → hold ≡ hold_of (uses_of used)
    → ◌≡◌ {A = PlanNumbers}
    (record { reader = p; read = k; writer = w; tokens_before = before; tokens = tokens; class = class; hold = hold })
    (numbers_by p k w turns used)
numbers_are p k w turns used before tokens class hold e f g h =
    λ i. record { reader = p; read = k; writer = w; tokens_before = e i; tokens = f i; class = g i; hold = h i }

pub numbers_told : (p k turns w : ℕ) (sources : List (Option Tag))
    → numbers_by p k w turns (turns_used w sources) ≡ numbers_of (channel_of p k sources turns w)
unfolding channel_of
numbers_told p k turns w sources =
    let used : List ℕ = turns_used w sources in
    λ i. record {
      reader = p;
      read = k;
      writer = w;
      tokens_before = sym (tokens_told turns used) i;
      tokens = (numbers_by p k w turns used).tokens;
      class = (numbers_by p k w turns used).class;
      hold = (numbers_by p k w turns used).hold;
    }

-- a process with a turn among the sources, and one with none
pub is_writer : (w : ℕ) (sources : List (Option Tag)) → (turns_used w sources ≡ [] → ⊥)
    → list_any (is_from w) sources ≡ true
is_writer w sources some =
    elim (cases_Bool (list_any (is_from w) sources)) [
      | inl from ↦ from
      | inr none ↦ absurd (some (none_used w sources none))
    ]

pub no_writer : (w : ℕ) (sources : List (Option Tag)) → turns_used w sources ≡ []
    → list_any (is_from w) sources ≡ false
no_writer w sources none =
    elim (cases_Bool (list_any (is_from w) sources)) [
      | inl from ↦ absurd (omega (arith, turns_used-some w sources from, ap length none))
      | inr left ↦ left
    ]

module _ (channel : ℕ → ChannelPlan) (keep : ℕ → Bool) (w : ℕ) where
  more : map numbers_of (map channel (filter keep (range_with_len 0 (w + 1))))
      ≡ map numbers_of (map channel (filter keep (range_with_len 0 w)))
      ++ map numbers_of (map channel (cond (keep w) (w ∷ []) []))
  more =
      let before = filter keep (range_with_len 0 w) in
      let next = cond (keep w) (w ∷ []) [] in
      ap (λ ws. map numbers_of (map channel ws)) (filter-range_with_len_more keep w)
      ∙ ap (map numbers_of) (map-append channel before next)
      ∙ map-append numbers_of (map channel before) (map channel next)

  -- one writer more
  pub numbers_more : keep w ≡ true
      → map numbers_of (map channel (filter keep (range_with_len 0 (w + 1))))
      ≡ map numbers_of (map channel (filter keep (range_with_len 0 w))) ++ numbers_of (channel w) ∷ []
  numbers_more kept =
      more ∙ ap (λ ws. map numbers_of (map channel (filter keep (range_with_len 0 w)))
      ++ map numbers_of (map channel ws)) (cond-true (keep w) (w ∷ []) [] kept)

  -- a process that is no writer
  pub numbers_same : keep w ≡ false
      → map numbers_of (map channel (filter keep (range_with_len 0 (w + 1))))
      ≡ map numbers_of (map channel (filter keep (range_with_len 0 w)))
  numbers_same left =
      more ∙ ap (λ ws. map numbers_of (map channel (filter keep (range_with_len 0 w)))
      ++ map numbers_of (map channel ws)) (cond-false (keep w) (w ∷ []) [] left)
      ∙ append-nil (map numbers_of (map channel (filter keep (range_with_len 0 w))))
