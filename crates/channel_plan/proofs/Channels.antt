-- A channel, from its parts.
use Rattle.std.proofs.Common.{◌≡◌, ◌<◌, ℕ, List, [], ◌∷◌, Bool, true, false, cond, Some, None}
use Rattle.std.proofs.Common.{get_or, refl, ap, arith, ◌==◌, Ok, Err, IfOk, Result}
use Rattle.std.specs.Prelude.{Option}
use Rattle.std.specs.List.{All, cons_option, list_any, range_with_len}
use Rattle.std.proofs.lemmas.Bool.{eqb-true}
use Rattle.std.proofs.lemmas.List.Elements.{All-cons, All-filter, All-head, All-nil, All-tail}
use Rattle.channel_class.specs.declared.ChannelClass.{ChannelClass}
use Rattle.channel_class.specs.Classes.{class_of}
use Rattle.reorder_slots.specs.Slots.{gets_before, hold_of, slots_of_gets, slots_of_uses}
use Rattle.reorder_slots.specs.declared.slots.SlotPlan.{SlotPlan}
use Rattle.sanlp.specs.declared.nest.Tag.{Tag}
use Rattle.channel_plan.specs.declared.plans.ChannelPlan.{ChannelPlan}
use Rattle.channel_plan.specs.Plans.{slot_plan}
use Rattle.channel_plan.specs.Reads.{IsTurnAmong, channel_of}
use Rattle.channel_plan.specs.Tokens.{is_from, tokens_among, tokens_below, turns_used, uses_of, writers_of}
use Rattle.plain_data.proofs.Lists.{All-range_with_len}

pub slots_are : (slots : SlotPlan) (uses : List ℕ) → slots.gets_before ≡ gets_before uses
    → slots.slot_of_get ≡ slots_of_gets uses
    → slots.slot_of_use ≡ slots_of_uses uses → slots.hold ≡ hold_of uses → slots ≡ slot_plan uses
slots_are slots uses e f g h = λ i. record { gets_before = e i; slot_of_get = f i; slot_of_use = g i; hold = h i }

-- the same of slots that are there unless memory is wanting
pub slots_if : {E : Type 0} (slots : Result SlotPlan E) (uses : List ℕ)
    → IfOk slots (λ plan. plan.gets_before ≡ gets_before uses)
    → IfOk slots (λ plan. plan.slot_of_get ≡ slots_of_gets uses)
    → IfOk slots (λ plan. plan.slot_of_use ≡ slots_of_uses uses)
    → IfOk slots (λ plan. plan.hold ≡ hold_of uses)
    → IfOk slots (λ plan. plan ≡ slot_plan uses)
slots_if (Ok slots) uses e f g h = slots_are slots uses e f g h
slots_if (Err error) uses e f g h = tt

pub channel_is : (p k : ℕ) (sources : List (Option Tag)) (turns w : ℕ) (is_token : List Bool) (tokens : ℕ)
    (class : ChannelClass) (slots : SlotPlan)
    → is_token ≡ tokens_among turns (turns_used w sources)
    → tokens ≡ tokens_below (turns_used w sources) turns
    → class ≡ class_of (uses_of (turns_used w sources))
    → slots ≡ slot_plan (uses_of (turns_used w sources))
    → ◌≡◌ {A = ChannelPlan}
    (record { reader = p; read = k; writer = w; is_token = is_token; tokens = tokens; class = class; slots = slots })
    (channel_of p k sources turns w)
unfolding channel_of
channel_is p k sources turns w is_token tokens class slots e f g h =
    λ i. record { reader = p; read = k; writer = w; is_token = e i; tokens = f i; class = g i; slots = h i }

-- The turns that are used exist, and so do the writers.
within_more : (b : Bool) (turn n : ℕ) (used : List ℕ) → (b ≡ true → turn < n) → All (λ t. t < n) used
    → All (λ t. t < n) (cons_option (cond b (Some turn) None) used)
within_more true turn n used h within = All-cons (λ t. t < n) turn used (h refl) within
within_more false turn n used h within = within

pub turns_within : (turns : List ℕ) (w : ℕ) (sources : List (Option Tag)) → All (IsTurnAmong turns) sources
    → All (λ t. t < get_or turns w 0) (turns_used w sources)
turns_within turns w [] among = All-nil (λ t. t < get_or turns w 0)
turns_within turns w (None ∷ sources) among =
    turns_within turns w sources (All-tail (IsTurnAmong turns) None sources among)
turns_within turns w (Some tag ∷ sources) among =
    let first = All-head (IsTurnAmong turns) (Some tag) sources among in
    within_more (tag.process == w) tag.turn (get_or turns w 0) (turns_used w sources)
    (λ same. omega (arith, first.1, ap (λ p. get_or turns p 0) (eqb-true tag.process w same)))
    (turns_within turns w sources (All-tail (IsTurnAmong turns) (Some tag) sources among))

pub writers_exist : (processes : ℕ) (sources : List (Option Tag))
    → All (λ w. w < processes) (writers_of processes sources)
writers_exist processes sources =
    All-filter (λ w. list_any (is_from w) sources) (λ w. w < processes) (range_with_len 0 processes)
    (All-range_with_len 0 processes processes (omega arith))
