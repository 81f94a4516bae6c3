-- More room does no harm: ending is monotone in the capacities.
--
-- A cut doesn't know of capacities, and of the events only a Put asks for room, of a channel that is there. What it asks
-- for at a cut is fewer Puts than Gets and capacity together, so it comes at the same cut where the capacity is greater.
-- Hence a run is a run where no channel has less room, step by step with the same cuts (`run_roomier`), and it ends at
-- the same positions. So a run of the roomier network that ends all is there wherever one was, and a channel's least
-- capacity is found by going up from 0, each time on from where the one before stuck. Nothing is said of less room:
-- there a run may stick.
use Rattle.std.proofs.Common.{◌≡◌, ◌<◌, ◌≤◌, ℕ, true, Option, Some, None, List, [], ◌∷◌, slice_get, refl, sym, ap, ◌∙◌}
use Rattle.std.proofs.Common.{arith, ltb-true, lt-ltb}
use Rattle.net_core.specs.declared.network.Event.{Event}
use Rattle.net_core.specs.declared.network.Event.TheVariants.{Get, Fire, Put}
use Rattle.net_core.specs.Cuts.{Cut, IsCutRun, advanced, can_come_at, enabled_at, opening}
use Rattle.net_core.specs.Machine.{Net, Rule, start, IsRun}
use Rattle.net_core.specs.Orders.{EndsAll}
use Rattle.net_core.specs.Shape.{IsWired}
use Rattle.net_core.proofs.Positions.{cut_run, run_cut, run_ends, start_counted}
use Rattle.witness_plan.proofs.OtherCapacities.{wired_at}

module _ (n : Net) (wired : IsWired n) (room : ℕ → ℕ) (more : (c : ℕ) → c < n.channels → n.capacity c ≤ room c) where
  come_roomier : (k : Cut) (p : ℕ) (o : Option Event) → slice_get (n.script p) (k p) ≡ o → can_come_at n k o ≡ true
      → can_come_at (record n { capacity = room }) k o ≡ true
  come_roomier k p None is h = h
  come_roomier k p (Some (Get c slot)) is h = h
  come_roomier k p (Some (Fire refs)) is h = refl
  come_roomier k p (Some (Put c)) is h =
      let had = ltb-true _ _ h in lt-ltb _ _ (omega (arith, had, more c (wired.put_channel p (k p) c is)))

  pub enabled_roomier : (k : Cut) (p : ℕ) → enabled_at n k p ≡ true
      → enabled_at (record n { capacity = room }) k p ≡ true
  enabled_roomier k p h = come_roomier k p (slice_get (n.script p) (k p)) refl h

  -- a run on cuts is one with more room
  pub run_roomier : (run : List ℕ) (k : Cut) → IsCutRun n k run → IsCutRun (record n { capacity = room }) k run
  run_roomier [] k is = tt
  run_roomier (p ∷ run) k is = (enabled_roomier k p is.0, run_roomier run (advanced k p) is.1)

  -- and so is a run of the machine
  pub runs_roomier : {T : Type 0} (rule : Rule T) (run : List ℕ) → IsRun n rule (start n) run
      → IsRun (record n { capacity = room }) rule (start (record n { capacity = room })) run
  runs_roomier {T} rule run is =
      let roomier : Net = record n { capacity = room } in
      cut_run roomier rule (wired_at n room wired) run (start roomier) (start_counted roomier)
      (run_roomier run opening (run_cut n rule wired run (start n) (start_counted n) is))

  -- which ends all where it ended all
  pub ends_roomier : {T : Type 0} (rule : Rule T) (run : List ℕ) → EndsAll n rule run
      → EndsAll (record n { capacity = room }) rule run
  ends_roomier {T} rule run whole =
      let roomier : Net = record n { capacity = room } in
      let is = runs_roomier rule run whole.0 in (
        is,
        λ p. ap (λ (k : Cut). k p) (run_ends roomier rule run (start roomier) is)
            ∙ sym (ap (λ (k : Cut). k p) (run_ends n rule run (start n) whole.0)) ∙ whole.1 p,
      )
