-- What the processes of a sound network have kept in the end are the arrays after the nest.
--
-- A sound network has an ended state, and in it each process has kept the values of its points. Whoever keeps the same
-- lists, threads in their rooms or the machine along its schedule, gives the same arrays: they are a function of what
-- the sinks kept. So nothing is compared between the two ways of running, and no order of the threads' work occurs.
use Rattle.std.proofs.Common.{◌≡◌, ◌≤◌, ◌-◌, ℕ, ℤ, List, [], length, get_or, sym, ap, ◌∙◌, arith, inl, inr}
use Rattle.std.specs.Option.{option_map_or}
use Rattle.std.proofs.lemmas.Bool.{cases_lt}
use Rattle.std.proofs.lemmas.Option.{slice_get-get_or, slice_get_past}
use mathlib.Core.Path.{fun_ext}
use Rattle.sanlp.specs.declared.nest.Inputs.{Inputs}
use Rattle.sanlp.specs.declared.nest.Nest.{Nest}
use Rattle.sanlp.specs.Laws.{values_of, entries_of}
use Rattle.sanlp.specs.Meaning.{arrays}
use Rattle.sanlp.specs.Points.{points_of}
use Rattle.sanlp.specs.Trace.{trace}
use Rattle.sanlp.specs.Writers.{value_at}
use Rattle.sanlp.specs.WellFormed.{output_numbers}
use Rattle.sanlp.proofs.NestFacts.{points_length}
use Rattle.std.proofs.lemmas.List.{length-map}
use Rattle.net_core.specs.declared.network.Network.{Network}
use Rattle.net_core.specs.Machine.{State, net_of, start, after}
use Rattle.net_core.specs.Names.{fired}
use Rattle.net_core.specs.Orders.{EndsAll, reached}
use Rattle.net_core.specs.Rules.{tags, values}
use Rattle.net_core.specs.Shape.{fires, turns}
use Rattle.net_core.specs.Sound.{IsSound, tag_value, sink_lists_from}
use Rattle.net_core.proofs.EveryOrder.{same_ends}
use Rattle.net_core.proofs.PlaceValues.{ended_kept}
use Rattle.net_core.proofs.FireValues.{gives_values, all_fired_values, entry_count}
use Rattle.net_core.specs.Rooms.{Store}
use Rattle.thread_runner.specs.Benches.{kept_in}
use Rattle.thread_runner.specs.Runs.{HaveKept}

-- as many values as points
pub values_number : (n : Nest) (d : Inputs) (p : ℕ) → length (values_of n d p) ≡ turns (points_of n) p
values_number n d p = length-map (entries_of (trace n) p) (value_at n d (trace n)) ∙ entry_count n p

module _ (n : Nest) (network : Network) (d : Inputs) (sound : IsSound n network) where
  -- in an ended state each process has kept the values of its points
  pub ended_values : (run : List ℕ) → EndsAll (net_of network) (values n d) run → (p : ℕ)
      → ((reached (net_of network) (values n d) run).local p).kept ≡ values_of n d p
  ended_values run whole p =
      ended_kept (net_of network) (values n d) sound.fits.shaped.wired (tag_value n d) run
      (gives_values n network sound.fits sound.names d) whole.0 whole.1 p
      ∙ all_fired_values n network sound.fits d p

  -- along a schedule that ends all
  pub scheduled_values : (run : List ℕ) (begun last : State ℤ) → EndsAll (net_of network) tags run
      → begun ≡ start (net_of network) → last ≡ after (net_of network) (values n d) begun run
      → (p : ℕ) → (last.local p).kept ≡ values_of n d p
  scheduled_values run begun last whole opening stepped p =
      ap (λ (s : State ℤ). (s.local p).kept)
      (stepped ∙ ap (λ (s : State ℤ). after (net_of network) (values n d) s run) opening)
      ∙ ended_values run (same_ends (net_of network) tags (values n d) sound.fits.shaped.wired run whole) p

  pub gives_arrays : (f : ℕ → List ℤ) → ((p : ℕ) → f p ≡ values_of n d p)
      → sink_lists_from f (length n.statements - length (output_numbers n.arrays)) n.arrays ≡ arrays n d
  gives_arrays f are =
      let all = (sound.ends d).ends [] tt in
      let whole : EndsAll (net_of network) (values n d) all.0 = (all.1, all.2) in
      ap (λ kept. sink_lists_from kept (length n.statements - length (output_numbers n.arrays)) n.arrays)
      (fun_ext (λ p. are p ∙ sym (ended_values all.0 whole p))) ∙ sound.arrays d all.0 whole

  -- a process that isn't there has nothing
  no_values : (p : ℕ) → length network.processes ≤ p → values_of n d p ≡ []
  no_values p past =
      let none : (net_of network).script p ≡ [] = sound.fits.shaped.wired.bounded p past in
      sym (all_fired_values n network sound.fits d p)
      ∙ ap (λ s. fired (tag_value n d) p (fires (net_of network) p (length s))) none

  pub rooms_values : (rooms : List (Store ℤ)) → length rooms ≡ length network.processes → HaveKept n d rooms → (p : ℕ)
      → kept_in rooms p ≡ values_of n d p
  rooms_values rooms many kept p =
      let other : Store ℤ = record { left = []; slots = []; kept = []; space = 0 } in
      elim (cases_lt p (length rooms)) [
        | inl lt ↦
            let found = slice_get-get_or rooms p other lt in
            ap (λ o. option_map_or (λ (s : Store ℤ). s.kept) o []) found ∙ kept p (get_or rooms p other) found
        | inr past ↦
            ap (λ o. option_map_or (λ (s : Store ℤ). s.kept) o []) (slice_get_past rooms p past)
            ∙ sym (no_values p (omega arith))
      ]

  pub processes_are : (net_of network).processes ≡ length n.statements
  processes_are = sound.fits.shaped.processes ∙ points_length n
