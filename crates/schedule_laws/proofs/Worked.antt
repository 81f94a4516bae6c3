-- The words of the laws on a network of one process without events, and on refusals.
--
-- A channel that no script names needs no place: there capacity 0 is least, and 1 is too large, since with 0 the empty run
-- ends all. And what is refused wrote neither capacities nor a run. These are examples: they show what the words mean.
use Rattle.std.proofs.Common.{◌<◌, ℕ, zero, suc, false, List, [], ◌∷◌, Err, refl, arith}
use Rattle.std.specs.Prelude.{slice_index}
use Rattle.channel_class.specs.declared.UseOrder.TheVariants.{InOrder}
use Rattle.net_core.specs.declared.network.Network.{Network}
use Rattle.net_core.specs.Machine.{net_of, HasEnded}
use Rattle.net_core.specs.Orders.{reached}
use Rattle.net_core.specs.Rules.{tags}
use Rattle.cap_trim.specs.Capacities.{NoneEndsBelow, with_room}
use Rattle.command_answers.specs.declared.refusal.Refusal.TheVariants.{TooLong}
use Rattle.command_line.specs.declared.words.Order.{Order}
use Rattle.call_endings.specs.Outcomes.{outcome_of}
use Rattle.compaan_top.proofs.Acceptance.{too_long}
use Rattle.schedule_laws.specs.Calls.{WritesRun}
use Rattle.schedule_laws.specs.LeastCapacities.{WritesCapacities}

spare : ℕ → Network
spare capacity = record {
  processes = record { slots = 0; script = [] } ∷ [];
  channels =
      record {
        writer = 0;
        reader = 0;
        read = 0;
        capacity = capacity;
        class = record { order = InOrder; multiplicity = false };
      } ∷ [];
}

a_place_that_is_not_used_is_too_much : NoneEndsBelow (net_of (spare 1)) (slice_index (1 ∷ [])) → ⊥
unfolding spare
a_place_that_is_not_used_is_too_much none =
    none (λ c. 0) 0 [] (omega arith) (λ d lt. omega arith) (omega arith) (tt, ended)
  where
    ended : HasEnded (with_room (net_of (spare 1)) (λ c. 0)) (reached (with_room (net_of (spare 1)) (λ c. 0)) tags [])
    ended zero = refl
    ended (suc p) = refl

no_place_is_least : NoneEndsBelow (net_of (spare 0)) (slice_index (0 ∷ []))
unfolding spare
no_place_is_least lesser zero run there within below whole = let none : lesser 0 < 0 = below in omega arith
no_place_is_least lesser (suc c) run there within below whole =
    let first : suc c < 1 = there in omega arith

refused_writes_no_capacities : (order : Order) (bundle : List ℕ)
    → WritesCapacities order bundle (outcome_of (Err TooLong)) → ⊥
refused_writes_no_capacities order bundle writes = too_long writes.done

refused_writes_no_run : (order : Order) (bundle : List ℕ) → WritesRun order bundle (outcome_of (Err TooLong)) → ⊥
refused_writes_no_run order bundle writes = too_long writes.done
