-- A run that is made point by point, at first and after so many points more of a process.
--
-- The invariant is `IsPointRun`: each process stands where the schedule so far leads, and each queue has had what it has along
-- that schedule. With the effects of points passed, as many entries of their process more lead to where it stands then, and no
-- other process has moved; what the queues have had is QueuesAlong's matter. It says nothing of which points these are: that they
-- are the next ones of the trace is TraceSteps' matter.
use Rattle.std.proofs.Common.{◌≡◌, ◌+◌, ◌-◌, ◌<◌, ◌≤◌, ℕ, zero, suc, Some, List, [], ◌∷◌, ◌++◌, length, map, take, drop, set}
use Rattle.std.proofs.Common.{get_or, replicate, refl}
use Rattle.std.proofs.Common.{slice_get, sym, ap, ◌∙◌, subst, inl, inr, arith, get_or-set_other, get_or-set_same, length-set}
use Rattle.std.specs.List.{All, range_with_len}
use Rattle.std.specs.Option.{option_map_or}
use Rattle.std.specs.Prelude.{slice_index}
use Rattle.std.proofs.lemmas.Bool.{cases_eq}
use Rattle.std.proofs.lemmas.List.{drop-map, get_or_read, length-drop, length-map, length-replicate, take_all}
use Rattle.std.proofs.lemmas.List.Elements.{All-drop}
use Rattle.std.proofs.lemmas.List.FromFn.{fill_by_all, get_or-map-range_with_len, length-map-range_with_len}
use mathlib.Core.Path.{fun_ext}
use Rattle.sanlp.proofs.Lists.{map-range_with_len_replicate}
use Rattle.net_core.specs.declared.network.Event.{Event}
use Rattle.net_core.specs.declared.network.Event.TheVariants.{Get, Fire, Put}
use Rattle.net_core.specs.declared.network.Network.{Network}
use Rattle.net_core.specs.declared.network.Process.{Process}
use Rattle.net_core.specs.Cuts.{Cut, cut_after, opening}
use Rattle.net_core.specs.Machine.{Net, net_of}
use Rattle.net_core.specs.Shape.{FitsNumbers, IsWired}
use Rattle.net_core.proofs.CutOrder.{cut_after-append}
use Rattle.net_core.proofs.ProgressLemmas.{no_places}
use Rattle.witness_plan.specs.Effects.{HasQueue, after_effects, effect_of, effects_of, no_totals, queue_at}
use Rattle.witness_plan.specs.PointRuns.{IsPointRun}
use Rattle.witness_plan.specs.Records.{left_after}
use Rattle.witness_plan.specs.Sequential.{greatest_length}
use Rattle.witness_plan.specs.declared.effects.Effect.{Effect}
use Rattle.witness_plan.specs.declared.points.PointRun.{PointRun}
use Rattle.witness_plan.specs.declared.queues.QueueTotals.{QueueTotals}
use Rattle.witness_plan.proofs.AlongCuts.{cut_here, cut_there}
use Rattle.witness_plan.proofs.QueuesAlong.{queues_passed}

-- What is read

module _ (net : Net) (run : PointRun) (is : IsPointRun net run) (p : ℕ) (there : p < net.processes) where
  -- what the events of a process do
  effects_found : (es : List Effect) → es ≡ get_or run.effects.items p es → es ≡ effects_of net p
  effects_found es read =
      let long = ap length is.effects ∙ length-map-range_with_len (effects_of net) 0 net.processes in
      get_or_read run.effects.items p es (omega (arith, there, long)) read []
      ∙ ap (λ (lists : List (List Effect)). get_or lists p []) is.effects
      ∙ get_or-map-range_with_len (effects_of net) 0 net.processes p p [] there (omega arith)

  pub position_found : (position : ℕ) → position ≡ get_or run.positions.items p position
      → position ≡ get_or run.positions.items p 0
  position_found position read =
      get_or_read run.positions.items p position (omega (arith, there, is.number)) read 0

  -- it has made no more events than there are
  pub position_inside : (position : ℕ) → position ≡ get_or run.positions.items p position
      → (es slice : List Effect) → es ≡ get_or run.effects.items p es → slice ≡ es → position ≤ length slice
  position_inside position at es slice read same =
      omega (
        arith,
        position_found position at,
        is.inside p,
        ap length (same ∙ effects_found es read),
        length-map (net.script p) effect_of,
      )

  -- those that it has left
  pub left_found : (position : ℕ) → position ≡ get_or run.positions.items p position
      → (es slice left : List Effect) → es ≡ get_or run.effects.items p es → slice ≡ es → left ≡ drop position slice
      → left ≡ map effect_of (left_after net run.schedule.items p)
  left_found position at es slice left read same behind =
      behind ∙ ap (λ k. drop k slice) (position_found position at ∙ ap (λ (k : Cut). k p) is.cut)
      ∙ ap (drop (cut_after opening run.schedule.items p)) (same ∙ effects_found es read)
      ∙ drop-map effect_of (cut_after opening run.schedule.items p) (net.script p)

-- Points more

module _ (net : Net) (old : PointRun) (is : IsPointRun net old) (p : ℕ) (there : p < net.processes) (passed : ℕ) where
  cut_further : (value : ℕ) → value ≡ get_or old.positions.items p 0 + passed
      → slice_index (set old.positions.items p value) ≡ cut_after opening (old.schedule.items ++ replicate passed p)
  cut_further value more =
      let inside : p < length old.positions.items = omega (arith, there, is.number) in
      let whole = cut_after-append opening old.schedule.items (replicate passed p) in
      fun_ext (λ q. elim (cases_eq q p) [
        | inl same ↦
            let here : get_or (set old.positions.items p value) q 0 ≡ value =
            ap (λ r. get_or (set old.positions.items p value) r 0) same
            ∙ get_or-set_same old.positions.items p value 0 inside in
            let long = cut_here (cut_after opening old.schedule.items) passed p in
            omega (
              arith,
              here,
              more,
              long,
              ap (λ (k : Cut). k p) is.cut,
              ap (λ (k : Cut). k q) whole,
              ap (cut_after (cut_after opening old.schedule.items) (replicate passed p)) same,
            )
        | inr other ↦
            get_or-set_other old.positions.items p q value 0 other ∙ ap (λ (k : Cut). k q) is.cut
            ∙ sym (ap (λ (k : Cut). k q) whole ∙ cut_there (cut_after opening old.schedule.items) passed p q other)
      ])

  pub points_run : (new : PointRun) (es : List Effect) → es ≡ map effect_of (left_after net old.schedule.items p)
      → passed ≤ length es → (value : ℕ) → value ≡ get_or old.positions.items p 0 + passed
      → new.positions.items ≡ set old.positions.items p value
      → new.schedule.items ≡ old.schedule.items ++ replicate passed p → new.effects.items ≡ old.effects.items
      → new.queues.items ≡ after_effects old.queues.items (take passed es) → IsPointRun net new
  points_run new es left within value more positions entries effects queues =
      let few : passed ≤ length (left_after net old.schedule.items p) =
      omega (arith, within, ap length left, length-map (left_after net old.schedule.items p) effect_of) in
      record {
        wired = is.wired;
        numbers = is.numbers;
        effects = effects ∙ is.effects;
        number = ap length positions ∙ length-set old.positions.items p value ∙ is.number;
        inside = λ q. elim (cases_eq q p) [
          | inl same ↦
              let here : get_or (set old.positions.items p value) q 0 ≡ value =
              ap (λ r. get_or (set old.positions.items p value) r 0) same
              ∙ get_or-set_same old.positions.items p value 0 (omega (arith, there, is.number)) in
              omega (
                arith,
                here,
                more,
                few,
                length-drop (cut_after opening old.schedule.items p) (net.script p),
                is.inside p,
                ap (λ (k : Cut). k p) is.cut,
                ap (λ xs. slice_index xs q) positions,
                ap (λ r. length (net.script r)) same,
              )
          | inr other ↦
              omega (
                arith,
                get_or-set_other old.positions.items p q value 0 other,
                ap (λ xs. slice_index xs q) positions,
                is.inside q,
              )
        ];
        cut = ap slice_index positions ∙ cut_further value more ∙ sym (ap (cut_after opening) entries);
        queues = queues
            ∙ ap (λ (es : List Effect). after_effects old.queues.items (take passed es)) left
            ∙ ap (λ (qs : List QueueTotals).
            after_effects qs (take passed (map effect_of (left_after net old.schedule.items p)))) is.queues
            ∙ queues_passed net is.wired is.numbers p passed old.schedule.items few
            ∙ ap (λ s. map (queue_at net s) (range_with_len 0 net.channels)) (sym entries);
      }

-- the entries of a schedule, and so many of one process more
pub entries_added : (entries : List ℕ) (len more passed p : ℕ) → len ≡ length entries → more ≡ len + passed
    → take more entries ++ replicate (more - len) p ≡ entries ++ replicate passed p
entries_added entries len more passed p long is =
    let rest : more - len ≡ passed = omega arith in
    ap (λ xs. xs ++ replicate (more - len) p) (take_all more entries (omega arith))
    ∙ ap (λ k. entries ++ replicate k p) rest

-- At first

script_at : (processes : List Process) (p : ℕ)
    → get_or (map (λ process. map effect_of process.script) processes) p []
    ≡ map effect_of (option_map_or (λ (process : Process). process.script) (slice_get processes p) [])
script_at [] p = refl
script_at (process ∷ processes) zero = refl
script_at (process ∷ processes) (suc p) = script_at processes p

pub run_first : (network : Network) → IsWired (net_of network) → FitsNumbers (net_of network) → (run : PointRun)
    → run.schedule.items ≡ []
    → run.effects.items ≡ map (λ process. map effect_of process.script) network.processes
    → run.positions.items ≡ replicate (length network.processes) 0
    → run.queues.items ≡ replicate (length network.channels) no_totals → IsPointRun (net_of network) run
run_first network wired numbers run none effects positions queues =
    let net = net_of network in
    record {
      wired = wired;
      numbers = numbers;
      effects = effects
          ∙ fill_by_all (effects_of net) (map (λ process. map effect_of process.script) network.processes)
          (length network.processes) [] (length-map network.processes (λ process. map effect_of process.script))
          (λ p lt. script_at network.processes p);
      number = ap length positions ∙ length-replicate (length network.processes) 0;
      inside = λ p. omega (
        arith,
        ap (λ xs. slice_index xs p) positions,
        ap (λ (k : Cut). k p) (no_places (length network.processes)),
      );
      cut = ap slice_index positions ∙ no_places (length network.processes) ∙ sym (ap (cut_after opening) none);
      queues = queues
          ∙ sym (map-range_with_len_replicate (queue_at net []) no_totals 0 net.channels (λ c. refl))
          ∙ ap (λ s. map (queue_at net s) (range_with_len 0 net.channels)) (sym none);
    }

-- The channels of a process's effects

there_is : (net : Net) → IsWired net → (p k : ℕ) (e : Event) → slice_get (net.script p) k ≡ Some e
    → HasQueue net.channels (effect_of e)
there_is net wired p k (Get c slot) is = wired.get_channel p k c slot is
there_is net wired p k (Fire refs) is = tt
there_is net wired p k (Put c) is = wired.put_channel p k c is

all_there : (channels : ℕ) (es : List Event)
    → ((k : ℕ) (e : Event) → slice_get es k ≡ Some e → HasQueue channels (effect_of e))
    → (k : ℕ) (d : Effect) → k < length (map effect_of es) → HasQueue channels (get_or (map effect_of es) k d)
all_there channels [] those k d lt = absurd (omega (arith, lt))
all_there channels (e ∷ es) those zero d lt = those 0 e refl
all_there channels (e ∷ es) those (suc k) d lt =
    all_there channels es (λ j x is. those (suc j) x is) k d (omega (arith, lt))

pub queues_there : (net : Net) → IsWired net → (schedule : List ℕ) (p : ℕ)
    → All (HasQueue net.channels) (map effect_of (left_after net schedule p))
queues_there net wired schedule p =
    let k = cut_after opening schedule p in
    subst (All (HasQueue net.channels)) (drop-map effect_of k (net.script p))
    (All-drop (HasQueue net.channels) k (effects_of net p)
    (all_there net.channels (net.script p) (there_is net wired p)))

-- At the end

pub lengths_are : (net : Net) (run : PointRun) → IsPointRun net run
    → map (λ queue. queue.greatest) run.queues.items
    ≡ map (greatest_length net run.schedule.items) (range_with_len 0 net.channels)
lengths_are net run is =
    ap (map (λ (queue : QueueTotals). queue.greatest)) is.queues
    ∙ greatest_of (queue_at net run.schedule.items) (range_with_len 0 net.channels)
  where
    greatest_of : (f : ℕ → QueueTotals) (xs : List ℕ)
        → map (λ (queue : QueueTotals). queue.greatest) (map f xs) ≡ map (λ c. (f c).greatest) xs
    greatest_of f [] = refl
    greatest_of f (x ∷ xs) = ap (λ ys. (f x).greatest ∷ ys) (greatest_of f xs)
