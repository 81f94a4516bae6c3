-- Runs that heed no capacity, and the capacities at which they are runs.
--
-- A channel with room for all its tokens is never full, so there only Gets can wait. Take such a run that ends all,
-- and for each channel the greatest length of its queue along it: with these capacities it is a run again, since a Put
-- leads to a length that was counted. By induction on the run, with what it has done and what is left. The capacities
-- are those of this one run: in another order a process may find a queue full and wait, and by EveryOrder the network
-- goes on. They are not the least: less may do for another schedule.
use Rattle.std.proofs.Common.{◌≡◌, ℕ, zero, suc, ◌+◌, ◌<◌, ◌≤◌, true, cond, Option, Some, None, List, [], ◌∷◌, ◌++◌}
use Rattle.std.proofs.Common.{length, take, slice_get, count_by, get_or, refl, sym, ap, ◌∙◌, subst, arith, append_assoc}
use Rattle.std.proofs.Common.{append-nil, lt-ltb, eq-eqb}
use Rattle.std.specs.Option.{option_map_or}
use Rattle.std.proofs.lemmas.List.{take_all}
use Rattle.std.proofs.lemmas.List.FromFn.{get_or-map-range_with_len, length-map-range_with_len}
use Rattle.std.proofs.lemmas.Option.{slice_get_within}
use Rattle.net_core.specs.declared.network.Channel.{Channel}
use Rattle.net_core.specs.declared.network.Event.{Event}
use Rattle.net_core.specs.declared.network.Event.TheVariants.{Get, Fire, Put}
use Rattle.net_core.specs.declared.network.Network.{Network}
use Rattle.net_core.specs.Cuts.{Cut, IsCutRun, advanced, can_come_at, cut_after, enabled_at, gets_at, opening, puts_at}
use Rattle.net_core.specs.Machine.{IsRun, Net, State, net_of, start, step}
use Rattle.net_core.specs.Orders.{EndsAll, reached}
use Rattle.net_core.specs.Rules.{tags}
use Rattle.net_core.specs.Shape.{IsWired, is_get, is_put, put_count}
use Rattle.net_core.proofs.EventCounts.{count_past}
use Rattle.net_core.proofs.Positions.{cut_run, gets_advanced, puts_advanced, run_counted, run_ends, start_counted}
use Rattle.sanlp.specs.declared.nest.Tag.{Tag}
use Rattle.witness_plan.specs.Schedules.{could_come_at, is_ready}
use Rattle.witness_plan.specs.Sequential.{capacities, channels_with, greatest_length, queue_length, with_capacities}
use Rattle.witness_plan.proofs.GreatestLengths.{greatest_more, now_within}
use Rattle.witness_plan.proofs.OtherCapacities.{net_kept, reader_kept, wired_kept, writer_kept}
use Rattle.net_core.proofs.CutOrder.{cut_after-append}

-- the network with room for all its tokens in each channel
abbrev pub never_full : Net → Net
never_full n = record n { capacity = put_count n }

-- before a Put not all tokens of its channel are put
put_left : (n : Net) (wired : IsWired n) (k : Cut) (p c : ℕ) → slice_get (n.script p) (k p) ≡ Some (Put c)
    → puts_at n k c < put_count n c
put_left n wired k p c is =
    let writer = wired.put_writer p (k p) c is in
    let less : count_by (is_put c) (take (k p) (n.script p)) < count_by (is_put c)
    (take (length (n.script p)) (n.script p)) =
    count_past (is_put c) (n.script p) (k p) (length (n.script p)) (Put c) is (eq-eqb c c refl)
    (slice_get_within (n.script p) (k p) (Put c) is) in
    let all : take (length (n.script p)) (n.script p) ≡ n.script p =
    take_all (length (n.script p)) (n.script p) (omega arith) in
    let total : count_by (is_put c) (take (length (n.script p)) (n.script p)) ≡ put_count n c =
    ap (count_by (is_put c)) all ∙ ap (λ q. count_by (is_put c) (n.script q)) (sym writer) in
    let here : puts_at n k c ≡ count_by (is_put c) (take (k p) (n.script p)) =
    ap (λ q. count_by (is_put c) (take (k q) (n.script q))) writer in
    omega arith

comes : (n : Net) (wired : IsWired n) (k : Cut) (p : ℕ) (o : Option Event) → slice_get (n.script p) (k p) ≡ o
    → could_come_at n k o ≡ true → can_come_at (never_full n) k o ≡ true
comes n wired k p None is h = h
comes n wired k p (Some (Get c slot)) is h = h
comes n wired k p (Some (Fire refs)) is h = refl
comes n wired k p (Some (Put c)) is h = lt-ltb _ _ (omega (arith, put_left n wired k p c is))

-- a ready process may go on where no channel is ever full
pub ready_comes : (n : Net) (wired : IsWired n) (k : Cut) (p : ℕ) → is_ready n k p ≡ true
    → enabled_at (never_full n) k p ≡ true
ready_comes n wired k p h = comes n wired k p (slice_get (n.script p) (k p)) refl h

-- whatever the capacities, an event that may come could come
pub could_come : (n : Net) (room : ℕ → ℕ) (k : Cut) (o : Option Event)
    → can_come_at (record n { capacity = room }) k o ≡ true → could_come_at n k o ≡ true
could_come n room k None h = h
could_come n room k (Some (Get c slot)) h = h
could_come n room k (Some (Fire refs)) h = refl
could_come n room k (Some (Put c)) h = refl

-- the lengths along a longer schedule are no less
greatest_front : (net : Net) (schedule : List ℕ) (p c : ℕ)
    → greatest_length net schedule c ≤ greatest_length net (schedule ++ p ∷ []) c
greatest_front net schedule p c = omega (arith, greatest_more net schedule p c)

greatest_grows : (net : Net) (more schedule : List ℕ) (c : ℕ)
    → greatest_length net schedule c ≤ greatest_length net (schedule ++ more) c
greatest_grows net [] schedule c = omega (arith, ap (λ s. greatest_length net s c) (append-nil schedule))
greatest_grows net (p ∷ more) schedule c =
    let whole = append_assoc schedule (p ∷ []) more in
    omega (
      arith,
      greatest_front net schedule p c,
      greatest_grows net more (schedule ++ p ∷ []) c,
      ap (λ s. greatest_length net s c) whole,
    )

-- A run is one at all capacities that no queue along it is longer than.
module _ (n : Net) (wired : IsWired n) (all : List ℕ) (room : ℕ → ℕ)
    (wide : (c : ℕ) → c < n.channels → greatest_length n all c ≤ room c) where
  fits_event : (before more : List ℕ) (p : ℕ) (o : Option Event) → all ≡ before ++ p ∷ more
      → slice_get (n.script p) (cut_after opening before p) ≡ o
      → could_come_at n (cut_after opening before) o ≡ true
      → can_come_at (record n { capacity = room }) (cut_after opening before) o ≡ true
  fits_event before more p None whole is h = h
  fits_event before more p (Some (Get c slot)) whole is h = h
  fits_event before more p (Some (Fire refs)) whole is h = refl
  fits_event before more p (Some (Put c)) whole is h =
      let puts : puts_at n (advanced (cut_after opening before) p) c ≡ puts_at n (cut_after opening before) c + 1 =
      puts_advanced n wired (cut_after opening before) p (Put c) c is
      ∙ ap (λ b. puts_at n (cut_after opening before) c + cond b 1 0) (eq-eqb c c refl) in
      let gets : gets_at n (advanced (cut_after opening before) p) c ≡ gets_at n (cut_after opening before) c + 0 =
      gets_advanced n wired (cut_after opening before) p (Put c) c is in
      let queued = ap (λ k. queue_length n k c) (cut_after-append opening before (p ∷ [])) in
      let now = now_within n (before ++ p ∷ []) c in
      let grown = greatest_grows n more (before ++ p ∷ []) c in
      let same = ap (λ s. greatest_length n s c) (whole ∙ sym (append_assoc before (p ∷ []) more)) in
      let wide_here = wide c (wired.put_channel p (cut_after opening before p) c is) in
      lt-ltb _ _ (omega arith)

  fits_from : (before more : List ℕ) → all ≡ before ++ more → IsCutRun (never_full n) (cut_after opening before) more
      → IsCutRun (record n { capacity = room }) (cut_after opening before) more
  fits_from before [] whole run = tt
  fits_from before (p ∷ more) whole run =
      let next : cut_after opening (before ++ p ∷ []) ≡ advanced (cut_after opening before) p =
      cut_after-append opening before (p ∷ []) in
      let later =
      fits_from (before ++ p ∷ []) more (whole ∙ sym (append_assoc before (p ∷ []) more))
      (subst (λ k. IsCutRun (never_full n) k more) (sym next) run.1) in (
        fits_event before more p (slice_get (n.script p) (cut_after opening before p)) whole refl
            (could_come n (put_count n) (cut_after opening before)
            (slice_get (n.script p) (cut_after opening before p)) run.0),
        subst (λ k. IsCutRun (record n { capacity = room }) k more) next later,
      )

  fits : IsCutRun (never_full n) opening all → IsCutRun (record n { capacity = room }) opening all
  fits run = fits_from [] all refl run

-- what a run begins with is a run
front_runs : (n : Net) (s : State Tag) (run : List ℕ) (count : ℕ) → IsRun n tags s run → IsRun n tags s (take count run)
front_runs n s [] zero is = tt
front_runs n s [] (suc count) is = tt
front_runs n s (p ∷ run) zero is = tt
front_runs n s (p ∷ run) (suc count) is = (is.0, front_runs n (step n tags s p) run count is.1)

pub capacity_given : (channels : List Channel) (capacities : List ℕ) (c : ℕ) → c < length channels → c < length capacities
    → option_map_or (λ (x : Channel). x.capacity) (slice_get (channels_with channels capacities) c) 0
    ≡ get_or capacities c 0
capacity_given [] capacities c lt within = absurd (omega arith)
capacity_given (x ∷ channels) [] c lt within = absurd (omega arith)
capacity_given (x ∷ channels) (y ∷ capacities) zero lt within = refl
capacity_given (x ∷ channels) (y ∷ capacities) (suc c) lt within =
    capacity_given channels capacities c (omega arith) (omega arith)

-- The network with the capacities that a schedule needs, where the schedule is a run that ends all and heeds no
-- capacity.
module _ (network : Network) (schedule : List ℕ) (wired : IsWired (net_of network))
    (run : IsCutRun (never_full (net_of network)) opening schedule)
    (ends : (p : ℕ) → cut_after opening schedule p ≡ length ((net_of network).script p)) where
  abbrev fitted : Net
  fitted = net_of (with_capacities network (capacities network schedule))

  capacity_is : (c : ℕ) → c < (net_of network).channels
      → fitted.capacity c ≡ greatest_length (net_of network) schedule c
  capacity_is c lt =
      capacity_given network.channels (capacities network schedule) c lt
      (omega (
        arith,
        lt,
        length-map-range_with_len (greatest_length (net_of network) schedule) 0 (length network.channels),
      ))
      ∙ get_or-map-range_with_len (greatest_length (net_of network) schedule) 0 (length network.channels) c c 0 lt
      (omega arith)

  -- each entry of the schedule is enabled in turn
  fitted_runs : IsCutRun fitted opening schedule
  fitted_runs =
      subst (λ n. IsCutRun n opening schedule) (sym (net_kept network (capacities network schedule)))
      (fits (net_of network) wired schedule fitted.capacity (λ c lt. omega (arith, capacity_is c lt)) run)

  fitted_wired : IsWired fitted
  fitted_wired = wired_kept network (capacities network schedule) wired

  is_run : IsRun fitted tags (start fitted) schedule
  is_run = cut_run fitted tags fitted_wired schedule (start fitted) (start_counted fitted) fitted_runs

  -- and in the end each process has made all its events
  pub ends_all : EndsAll fitted tags schedule
  ends_all = (is_run, λ p. ap (λ k. k p) (run_ends fitted tags schedule (start fitted) is_run) ∙ ends p)

  gets_kept : (k : Cut) (c : ℕ) → gets_at fitted k c ≡ gets_at (net_of network) k c
  gets_kept k c =
      ap (λ r. count_by (is_get c) (take (k r) ((net_of network).script r)))
      (reader_kept network.channels (capacities network schedule) c)

  puts_kept : (k : Cut) (c : ℕ) → puts_at fitted k c ≡ puts_at (net_of network) k c
  puts_kept k c =
      ap (λ r. count_by (is_put c) (take (k r) ((net_of network).script r)))
      (writer_kept network.channels (capacities network schedule) c)

  -- the lengths of which a capacity is the greatest are those of the machine's queue
  pub queue_lengths : (many c : ℕ)
      → length ((reached fitted tags (take many schedule)).queue c)
      ≡ queue_length (net_of network) (cut_after opening (take many schedule)) c
  queue_lengths many c =
      let front = take many schedule in
      let front_run = front_runs fitted (start fitted) schedule many is_run in
      let counted = run_counted fitted tags fitted_wired front (start fitted) (start_counted fitted) front_run in
      let at = run_ends fitted tags front (start fitted) front_run in
      let queue = counted.queues c in
      let gets = ap (λ k. gets_at fitted k c) at ∙ gets_kept (cut_after opening front) c in
      let puts = ap (λ k. puts_at fitted k c) at ∙ puts_kept (cut_after opening front) c in
      omega arith
