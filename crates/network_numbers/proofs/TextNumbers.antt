-- The numbers that the text tells of a nest's network are those of its plans, its turns and its capacities.
--
-- The processes are one for each statement, with the slots of their incoming channels. The channels are those of the plans,
-- in order, with the capacities beside them, so the numbers are compared channel by channel (`channels_told`, by induction
-- along the plans). That the Puts of a channel are its plan's tokens, and the span of the slots that are got its hold, are
-- laws of the text of derived networks; capacities change neither. How capacities are found isn't a question here.
use Rattle.std.proofs.Common.{◌≡◌, ℕ, zero, suc, ◌+◌, ◌<◌, ◌==◌, cond, Some, List, [], ◌∷◌, length, map, slice_get, get_or}
use Rattle.std.proofs.Common.{refl, sym, ap, ap₂, ◌∙◌, arith}
use Rattle.std.specs.Prelude.{ℤ, count_by, slice_index, slice_index_or}
use Rattle.std.specs.List.{enumerate_from, range_with_len, sum_by}
use Rattle.std.proofs.lemmas.List.FromFn.{get_or-map-range_with_len}
use Rattle.std.proofs.lemmas.Simd.{map-map}
use Rattle.channel_plan.specs.declared.plans.ChannelPlan.{ChannelPlan}
use Rattle.channel_plan.specs.Plans.{plans_of, turn_count}
use Rattle.channel_plan.proofs.Nests.{turns_are}
use Rattle.derived_text.proofs.Holds.{hold_planned}
use Rattle.derived_text.proofs.TokenCounts.{puts_planned}
use Rattle.net_core.specs.declared.network.Channel.{Channel}
use Rattle.net_core.specs.declared.network.Process.{Process}
use Rattle.net_core.specs.Machine.{Net, net_of}
use Rattle.net_core.specs.Shape.{events_below, is_fire, put_count, turns}
use Rattle.net_text.specs.NetworkText.{event_count, hold}
use Rattle.network_numbers.specs.PlanNumbers.{channel_by_plan, channels_by_plans, event_total, process_by_plans}
use Rattle.network_numbers.specs.PlanNumbers.{processes_by_plans, slots_in}
use Rattle.net_text.specs.declared.numbers.ChannelNumbers.{ChannelNumbers}
use Rattle.number_text.specs.declared.numbers.NetworkNumbers.{NetworkNumbers}
use Rattle.net_text.specs.declared.numbers.ProcessNumbers.{ProcessNumbers}
use Rattle.net_text.specs.NetworkText.{channel_numbers, process_numbers}
use Rattle.number_text.specs.Numbers.{network_numbers}
use Rattle.plan_numbers.specs.Numbers.{numbers_of}
use Rattle.plan_numbers.specs.declared.numbers.PlanNumbers.{PlanNumbers}
use Rattle.process_derive.specs.Derived.{channel_of, net, process_of}
use Rattle.process_derive.specs.Scripts.{script, slots_of}
use Rattle.process_derive.proofs.NetworkShape.{fits_nest}
use Rattle.process_derive.proofs.Numbers.{script_at}
use Rattle.process_derive.proofs.Sums.{sum_map}
use Rattle.sanlp.specs.Points.{points_of}
use Rattle.sanlp.specs.declared.nest.Nest.{Nest}
use Rattle.sanlp.proofs.Lists.{map-range_with_len_same}
use Rattle.witness_plan.specs.Sequential.{channels_with, with_capacities}
use Rattle.witness_plan.proofs.OtherCapacities.{net_kept}
use Rattle.network_numbers.proofs.EventsOfNet.{events_counted, same_sums}

-- Processes

length_at : (points : List (List (List ℤ))) (p : ℕ)
    → slice_index (map length points) p ≡ length (slice_index_or points p [])
length_at [] p = refl
length_at (vectors ∷ points) zero = refl
length_at (vectors ∷ points) (suc p) = length_at points p

-- the turns of a process, by the list of all turns
turns_at : (n : Nest) (counts : List ℕ) (p : ℕ) → counts ≡ map length (points_of n)
    → slice_index counts p ≡ turns (points_of n) p
turns_at n counts p e = ap (λ xs. slice_index xs p) e ∙ length_at (points_of n) p

fires_at : (n : Nest) (p : ℕ) → p < length n.statements → count_by is_fire (script n p) ≡ turn_count n p
fires_at n p lt =
    ap (count_by is_fire) (sym (script_at n p lt)) ∙ (fits_nest n).shaped.turns p
    ∙ sym (turns_at n (map length (points_of n)) p refl) ∙ ap (λ xs. slice_index xs p) (turns_are n)
    ∙ get_or-map-range_with_len (turn_count n) 0 (length n.statements) p p 0 lt (omega arith)

pub numbered_range : {X Y : Type 0} (g : ℕ → X → Y) (f : ℕ → X) (a m : ℕ)
    → map (λ numbered. g numbered.0 numbered.1) (enumerate_from a (map f (range_with_len a m)))
    ≡ map (λ p. g p (f p)) (range_with_len a m)
numbered_range g f a zero = refl
numbered_range g f a (suc m) = ap (λ ys. g a (f a) ∷ ys) (numbered_range g f (a + 1) m)

same_process : (fires fires' slots slots' : ℕ) → fires ≡ fires' → slots ≡ slots'
    → (let a : ProcessNumbers = record { fires = fires; slots = slots } in a) ≡ record { fires = fires'; slots = slots' }
same_process fires fires' slots slots' e f = cc

-- the slots of a process, by the numbers of plans
pub slots_told : (plans : List ChannelPlan) (p : ℕ) → slots_in (map numbers_of plans) p ≡ slots_of plans p
slots_told plans p = sum_map (λ (plan : PlanNumbers). cond (plan.reader == p) plan.hold 0) numbers_of plans

numbered_mapped : {X Y Z : Type 0} (g : ℕ → Y → Z) (h : X → Y) (a : ℕ) (xs : List X)
    → map (λ numbered. g numbered.0 numbered.1) (enumerate_from a (map h xs))
    ≡ map (λ numbered. g numbered.0 (h numbered.1)) (enumerate_from a xs)
numbered_mapped g h a [] = refl
numbered_mapped g h a (x ∷ xs) = ap (λ ys. g a (h x) ∷ ys) (numbered_mapped g h (a + 1) xs)

processes_told : (n : Nest) (processes : List Process) (counts : List ℕ) → processes ≡ (net n).processes
    → counts ≡ map length (points_of n)
    → map process_numbers processes ≡ processes_by_plans (map numbers_of (plans_of n)) counts
unfolding net
processes_told n processes counts same e =
    ap (map process_numbers) same
    ∙ map-map process_numbers (process_of n) (range_with_len 0 (length n.statements))
    ∙ map-range_with_len_same (λ p. process_numbers (process_of n p))
    (λ p. process_by_plans (map numbers_of (plans_of n)) p (turn_count n p)) 0 (length n.statements)
    (λ p from below. same_process _ _ _ _ (fires_at n p (omega arith)) (sym (slots_told (plans_of n) p)))
    ∙ sym (numbered_range (process_by_plans (map numbers_of (plans_of n))) (turn_count n) 0 (length n.statements))
    ∙ ap (processes_by_plans (map numbers_of (plans_of n))) (sym (e ∙ turns_are n))

-- Channels

same_channel : (plan : ChannelPlan) (tokens tokens' capacity capacity' hold hold' : ℕ) → tokens ≡ tokens'
    → capacity ≡ capacity' → hold ≡ hold'
    → (let a : ChannelNumbers = record {
      writer = plan.writer;
      reader = plan.reader;
      read = plan.read;
      tokens = tokens;
      capacity = capacity;
      hold = hold;
      class = plan.class;
    } in a)
    ≡ record {
      writer = plan.writer;
      reader = plan.reader;
      read = plan.read;
      tokens = tokens';
      capacity = capacity';
      hold = hold';
      class = plan.class;
    }
same_channel plan tokens tokens' capacity capacity' hold hold' e f g = cc

abbrev told : (ℕ → ℕ) → (ℕ → ℕ) → ℕ → Channel → ChannelNumbers
told tokens holds c channel = record {
  writer = channel.writer;
  reader = channel.reader;
  read = channel.read;
  tokens = tokens c;
  capacity = channel.capacity;
  hold = holds c;
  class = channel.class;
}

abbrev by_plan : (ℕ → ℕ) → ℕ → ChannelPlan → ChannelNumbers
by_plan capacity c plan = record {
  writer = plan.writer;
  reader = plan.reader;
  read = plan.read;
  tokens = plan.tokens;
  capacity = capacity c;
  hold = plan.slots.hold;
  class = plan.class;
}

channels_told : (tokens holds capacity : ℕ → ℕ) (a : ℕ) (plans : List ChannelPlan) (capacities : List ℕ)
    → ((j : ℕ) (plan : ChannelPlan) → slice_get plans j ≡ Some plan → tokens (a + j) ≡ plan.tokens)
    → ((j : ℕ) (plan : ChannelPlan) → slice_get plans j ≡ Some plan → holds (a + j) ≡ plan.slots.hold)
    → ((j : ℕ) → get_or capacities j 0 ≡ capacity (a + j))
    → map (λ numbered. told tokens holds numbered.0 numbered.1)
    (enumerate_from a (channels_with (map channel_of plans) capacities))
    ≡ map (λ numbered. by_plan capacity numbered.0 numbered.1) (enumerate_from a plans)
channels_told tokens holds capacity a [] capacities e f g = refl
channels_told tokens holds capacity a (plan ∷ plans) [] e f g =
    let place : a ≡ a + 0 = omega arith in
    let next : (j : ℕ) → a + 1 + j ≡ a + suc j = λ j. omega arith in
    ap₂ (λ x xs. x ∷ xs)
    (same_channel plan _ _ _ _ _ _ (ap tokens place ∙ e 0 plan refl) (g 0 ∙ ap capacity (sym place))
    (ap holds place ∙ f 0 plan refl))
    (channels_told tokens holds capacity (a + 1) plans [] (λ j x is. ap tokens (next j) ∙ e (suc j) x is)
    (λ j x is. ap holds (next j) ∙ f (suc j) x is) (λ j. none j ∙ g (suc j) ∙ ap capacity (sym (next j)))) where
      none : (j : ℕ) → get_or {A = ℕ} [] j 0 ≡ get_or {A = ℕ} [] (suc j) 0
      none zero = refl
      none (suc j) = refl
channels_told tokens holds capacity a (plan ∷ plans) (x ∷ capacities) e f g =
    let place : a ≡ a + 0 = omega arith in
    let next : (j : ℕ) → a + 1 + j ≡ a + suc j = λ j. omega arith in
    ap₂ (λ x xs. x ∷ xs)
    (same_channel plan _ _ _ _ _ _ (ap tokens place ∙ e 0 plan refl) (g 0 ∙ ap capacity (sym place))
    (ap holds place ∙ f 0 plan refl))
    (channels_told tokens holds capacity (a + 1) plans capacities (λ j x is. ap tokens (next j) ∙ e (suc j) x is)
    (λ j x is. ap holds (next j) ∙ f (suc j) x is) (λ j. g (suc j) ∙ ap capacity (sym (next j))))

-- Events

events_same : (a b : Net) → ((p : ℕ) → length (a.script p) ≡ length (b.script p)) → (k : ℕ)
    → events_below a k ≡ events_below b k
events_same a b same zero = refl
events_same a b same (suc k) = omega (arith, events_same a b same k, same k)

turns_summed : (n : Nest) (counts : List ℕ) → counts ≡ map length (points_of n)
    → sum_by (λ count. count) counts ≡ sum_by (λ p. turns (points_of n) p) (range_with_len 0 (length n.statements))
turns_summed n counts e =
    ap (sum_by (λ count. count)) (e ∙ turns_are n)
    ∙ sum_map (λ count. count) (turn_count n) (range_with_len 0 (length n.statements))
    ∙ same_sums (turn_count n) (λ p. turns (points_of n) p) (length n.statements)
    (λ p lt. sym (get_or-map-range_with_len (turn_count n) 0 (length n.statements) p p 0 lt (omega arith))
    ∙ ap (λ xs. slice_index xs p) (sym (turns_are n))
    ∙ turns_at n (map length (points_of n)) p refl)

-- the turns and twice the tokens are the events
pub events_told : (n : Nest) (counts : List ℕ) → counts ≡ map length (points_of n)
    → event_total counts (map numbers_of (plans_of n)) ≡ event_count (net n)
events_told n counts e =
    omega (
      arith,
      turns_summed n counts e,
      events_counted n,
      sum_map (λ (plan : PlanNumbers). plan.tokens) numbers_of (plans_of n),
    )

-- The network

same_numbers : (processes processes' : List ProcessNumbers) (channels channels' : List ChannelNumbers)
    (events events' : ℕ) → processes ≡ processes' → channels ≡ channels' → events ≡ events'
    → (let a : NetworkNumbers = record { processes = processes; channels = channels; events = events } in a)
    ≡ record { processes = processes'; channels = channels'; events = events' }
same_numbers processes processes' channels channels' events events' e f g = cc

module _ (n : Nest) (counts capacities : List ℕ) (e : counts ≡ map length (points_of n)) where
  planned_channels : map (λ numbered. channel_numbers (with_capacities (net n) capacities) numbered.0 numbered.1)
      (enumerate_from 0 (with_capacities (net n) capacities).channels)
      ≡ channels_by_plans (map numbers_of (plans_of n)) capacities
  unfolding net
  planned_channels =
      channels_told (put_count (net_of (with_capacities (net n) capacities)))
      (hold (net_of (with_capacities (net n) capacities))) (slice_index capacities) 0 (plans_of n) capacities
      (λ j plan is. (let front : 0 + j ≡ j = omega arith in
      ap (put_count (net_of (with_capacities (net n) capacities))) front
      ∙ ap (λ (m : Net). put_count m j) (net_kept (net n) capacities) ∙ puts_planned n j plan is))
      (λ j plan is. (let front : 0 + j ≡ j = omega arith in
      ap (hold (net_of (with_capacities (net n) capacities))) front
      ∙ ap (λ (m : Net). hold m j) (net_kept (net n) capacities) ∙ hold_planned n j plan is))
      (λ j. (let front : j ≡ 0 + j = omega arith in ap (slice_index capacities) front))
      ∙ sym (numbered_mapped (λ k (x : PlanNumbers). channel_by_plan x (slice_index capacities k)) numbers_of 0 (plans_of n))

  planned_events : event_total counts (map numbers_of (plans_of n)) ≡ event_count (with_capacities (net n) capacities)
  planned_events =
      events_told n counts e
      ∙ events_same (net_of (net n)) (net_of (with_capacities (net n) capacities)) (λ p. refl) (length (net n).processes)

  -- the numbers that are told
  pub numbers_told : (processes : List ProcessNumbers) (channels : List ChannelNumbers) (events : ℕ)
      → processes ≡ processes_by_plans (map numbers_of (plans_of n)) counts
      → channels ≡ channels_by_plans (map numbers_of (plans_of n)) capacities
      → events ≡ event_total counts (map numbers_of (plans_of n))
      → (let a : NetworkNumbers = record { processes = processes; channels = channels; events = events } in a)
      ≡ network_numbers (with_capacities (net n) capacities)
  numbers_told processes channels events f g h =
      same_numbers _ _ _ _ _ _ (f ∙ sym (processes_told n (net n).processes counts refl e)) (g ∙ sym planned_channels)
      (h ∙ planned_events)
