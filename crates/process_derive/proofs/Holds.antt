-- The slots of a process: no more than the Gets of its channels, so at most eight for each of its points, and their
-- numbers fit 32 bits.
--
-- A channel makes a slot for a Get alone, so it holds no more than its Gets (`hold_by`). In the sum over all channels
-- those of other readers count nothing (`none_held`). That leaves one sum for each read; there are at most eight reads,
-- and none has more Gets than the process has turns. That these are below 2^32 rests on the limit of the nest's size. A
-- slot's number is at most where its channel's slots begin and the hold together, so it fits too (`slots_fit`).
use Rattle.std.proofs.Common.{◌≡◌, ◌<◌, ◌≤◌, ◌+◌, ◌*◌, ◌^◌, ℕ, zero, suc, false, cond, eqb, List, [], ◌∷◌, length, take}
use Rattle.std.proofs.Common.{refl, sym, ap, ◌∙◌, subst, arith}
use Rattle.std.specs.Prelude.{Option, Some, slice_get}
use Rattle.std.specs.List.{flat_map, list_any, sum_by, range_with_len}
use Rattle.std.proofs.lemmas.Bool.{eq-eqb}
use Rattle.std.proofs.lemmas.List.{length-map}
use Rattle.std.proofs.lemmas.List.Sums.{sum_by-cons, sum_by-le-sum_by}
use Rattle.std.proofs.lemmas.List.FromFn.{length-range_with_len}
use Rattle.std.proofs.Math.Seq.{take-length}
use Rattle.sanlp.specs.Access.{read_count}
use Rattle.sanlp.specs.declared.nest.Nest.{Nest}
use Rattle.sanlp.specs.declared.nest.Tag.{Tag}
use Rattle.sanlp.specs.Size.{SizeIsOk}
use Rattle.sanlp.proofs.Each.{Each}
use Rattle.sanlp.proofs.Members.{at_in, each_in}
use Rattle.sanlp.proofs.NestFacts.{few_read_count}
use Rattle.reorder_slots.specs.Slots.{gets_for, hold_of}
use Rattle.channel_plan.specs.declared.plans.ChannelPlan.{ChannelPlan}
use Rattle.channel_plan.specs.Plans.{plan_of, plans_at, plans_of, sources_at, turn_count}
use Rattle.channel_plan.specs.Tokens.{is_from, tokens_below, turns_used, uses_of, writers_of}
use Rattle.channel_plan.proofs.PlanEnds.{plans_at-reader}
use Rattle.process_derive.specs.Scripts.{slot_base, slots_of}
use Rattle.process_derive.specs.Uses.{SlotsFit, uses_before}
use Rattle.process_derive.proofs.Bounds.{few_entries}
use Rattle.process_derive.proofs.Numbers.{IsPlanned, all_planned, gets_by, gets_here, gets_until, until_few}
use Rattle.process_derive.proofs.Shares.{used}
use Rattle.process_derive.proofs.Slots.{IsHeld, hold_made, plan_held}
use Rattle.process_derive.proofs.Sums.{sum_at, sum_filter, sum_joined, sum_map, sum_one, sum_within}
use Rattle.process_derive.proofs.Tags.{few_turns, length-sources}

-- the hold of a channel is no more than its Gets
hold_by : (uses : List ℕ) (q : ℕ) → q ≡ length uses → hold_of uses ≤ gets_by uses q
hold_by uses zero e = omega (arith, hold_made uses 0 (none_of uses (sym e))) where
  none_of : (uses : List ℕ) → length uses ≡ 0 → gets_for uses ≤ 0
  none_of [] e = omega arith
  none_of (token ∷ uses) e = absurd (omega arith)
hold_by uses (suc q) e =
    let next : q + 1 ≡ length uses = omega (arith, e) in
    let whole : take (q + 1) uses ≡ uses = ap (λ k. take k uses) next ∙ take-length uses in
    omega (arith, hold_made uses (gets_for uses) (omega arith), gets_here uses q (omega (arith, e)), ap gets_for whole)

all_used : (n : Nest) (p k w : ℕ) → uses_before (sources_at n p k) (turn_count n p) w ≡ length (uses_of (used n p k w))
all_used n p k w =
    let sources : List (Option Tag) = sources_at n p k in
    ap (λ m. length (turns_used w (take m sources))) (sym (length-sources n p k))
    ∙ ap (λ xs. length (turns_used w xs)) (take-length sources)
    ∙ sym (length-map (used n p k w) (tokens_below (used n p k w)))

abbrev weight : ℕ → ChannelPlan → ℕ
weight p plan = cond (eqb plan.reader p) plan.slots.hold 0

-- the slots of the channels to read k are no more than its Gets
read_holds : (n : Nest) (p k : ℕ) → sum_by (weight p) (plans_at n p k) ≤ gets_until n p k (turn_count n p)
read_holds n p k =
    let ws : List ℕ = writers_of (length n.statements) (sources_at n p k) in
    let hold : ℕ → ℕ = λ w. hold_of (uses_of (used n p k w)) in
    let uses : ℕ → ℕ = λ w. uses_before (sources_at n p k) (turn_count n p) w in
    let own : (w : ℕ) → weight p (plan_of n p k w) ≤ hold w = λ w.
    omega (arith, ap (λ b. cond {A = ℕ} b (hold w) 0) (eq-eqb p p refl)) in
    omega (
      arith,
      sum_map (weight p) (plan_of n p k) ws,
      sum_by-le-sum_by (λ w. weight p (plan_of n p k w)) hold ws own,
      sum_filter hold (λ w. list_any (is_from w) (sources_at n p k)) (range_with_len 0 (length n.statements)),
      sum_by-le-sum_by hold (λ w. gets_by (uses_of (used n p k w)) (uses w)) (range_with_len 0 (length n.statements)) (λ w. hold_by (uses_of (used n p k w)) (uses w) (all_used n p k w)),
    )

none_held : (p q : ℕ) (plans : List ChannelPlan) → eqb q p ≡ false → Each (λ plan. plan.reader ≡ q) plans
    → sum_by (weight p) plans ≡ 0
none_held p q [] other h = refl
none_held p q (plan ∷ plans) other h =
    let none : weight p plan ≡ 0 =
    ap (λ r. cond {A = ℕ} (eqb r p) plan.slots.hold 0) h.0 ∙ ap (λ b. cond {A = ℕ} b plan.slots.hold 0) other in
    omega (arith, sum_by-cons (weight p) plan plans, none, none_held p q plans other h.1)

pub process_holds : (n : Nest) (p : ℕ)
    → slots_of (plans_of n) p ≤ sum_by (λ k. gets_until n p k (turn_count n p)) (range_with_len 0 (read_count n p))
unfolding plans_of
process_holds n p =
    let all : ℕ → List ChannelPlan = λ q. flat_map (plans_at n q) (range_with_len 0 (read_count n q)) in
    let reads : List ℕ = range_with_len 0 (read_count n p) in
    let gets : ℕ → ℕ = λ k. gets_until n p k (turn_count n p) in
    subst (λ m. m ≤ sum_by gets reads) (sym (sum_joined (weight p) all (range_with_len 0 (length n.statements))))
    (sum_one (λ q. sum_by (weight p) (all q)) p (sum_by gets reads) 0 (length n.statements)
    (λ q other. none_held p q (all q) other (plans_at-reader n q))
    (subst (λ m. m ≤ sum_by gets reads) (sym (sum_joined (weight p) (plans_at n p) reads))
    (sum_by-le-sum_by (λ k. sum_by (weight p) (plans_at n p k)) gets reads (read_holds n p))))

-- at most eight slots for each point of a process
pub few_slots : (n : Nest) (p : ℕ) → slots_of (plans_of n) p ≤ 8 * turn_count n p
few_slots n p =
    omega (
      arith,
      process_holds n p,
      sum_within (λ k. gets_until n p k (turn_count n p)) (turn_count n p) 8 (range_with_len 0 (read_count n p))
          (λ k. until_few n p k (turn_count n p))
          (omega (arith, length-range_with_len 0 (read_count n p), few_read_count n p)),
    )

pub slots_within : (n : Nest) (p : ℕ) → SizeIsOk n → slots_of (plans_of n) p < 2 ^ 32
slots_within n p ok = omega (arith, few_slots n p, few_turns n p, few_entries n ok)

-- the slots of a channel of process p fit
pub slots_fit : (n : Nest) (p c : ℕ) (plan : ChannelPlan) → SizeIsOk n
    → slice_get (plans_of n) c ≡ Some plan → plan.reader ≡ p → SlotsFit (slot_base (plans_of n) p c) plan.slots
slots_fit n p c plan ok e own =
    let planned = each_in (IsPlanned n) plan (plans_of n) (all_planned n) (at_in plan (plans_of n) c e) in
    let uses : List ℕ = uses_of (used n plan.reader plan.read plan.writer) in
    let held : IsHeld plan.slots = subst IsHeld (sym planned) (plan_held uses) in
    let whole = sum_at (weight p) (plans_of n) c plan e in
    let counted : weight p plan ≡ plan.slots.hold = ap (λ b. cond b plan.slots.hold 0) (eq-eqb plan.reader p own) in
    let few = slots_within n p ok in
    record {
      gets = λ m. omega (arith, held.gets m, whole, counted, few);
      uses = λ q. omega (arith, held.uses q, whole, counted, few);
    }
