-- Answers of a board of two processes, computed from the definitions.
--
-- A maker fires and puts twice, and a taker gets and fires twice, over a channel with one place. With two lanes the
-- maker is the process of lane 0 and the taker that of lane 1; with one lane both are of lane 0. The states are written
-- out: where both processes stand in their scripts, and which tokens wait. That a run leads there is shown for two of
-- them.
use Rattle.std.proofs.Common.{◌≡◌, ◌<◌, ◌%◌, ℕ, zero, suc, false, List, [], ◌∷◌, map, refl, sym, subst, arith, lit<}
use Rattle.std.specs.Prelude.{slice_index_or}
use Rattle.sanlp.specs.declared.nest.Tag.{Tag}
use Rattle.net_core.specs.declared.network.Event.{Event}
use Rattle.net_core.specs.declared.network.Event.TheVariants.{Get, Fire, Put}
use Rattle.net_core.specs.declared.network.Network.{Network}
use Rattle.net_core.specs.declared.refs.Ref.TheVariants.{Slot}
use Rattle.net_core.specs.Cuts.{positions}
use Rattle.net_core.specs.Machine.{Net, State, net_of, start, enabled, IsRun}
use Rattle.net_core.specs.Names.{tag}
use Rattle.net_core.specs.Orders.{reached}
use Rattle.net_core.specs.Rules.{tags}
use Rattle.trace_board.specs.declared.lanes.Advance.TheVariants.{Stepped, Idle, Done}
use Rattle.trace_board.specs.Advances.{Tells, history_after}
use Rattle.trace_board.specs.Boards.{IsRunFromStart, network_run}
use Rattle.trace_board.specs.Lanes.{HasLaneEnded, IsLaneStuck}

abbrev maker : List Event
maker = Fire [] ∷ Put 0 ∷ Fire [] ∷ Put 0 ∷ []

abbrev taker : List Event
taker = Get 0 0 ∷ Fire (Slot 0 ∷ []) ∷ Get 0 0 ∷ Fire (Slot 0 ∷ []) ∷ []

abbrev pair : Net
pair = record {
  processes = 2;
  channels = 1;
  script = λ p. slice_index_or (maker ∷ taker ∷ []) p [];
  slots = λ p. slice_index_or (0 ∷ 1 ∷ []) p 0;
  writer = λ c. 0;
  reader = λ c. slice_index_or (1 ∷ []) c 0;
  capacity = λ c. slice_index_or (1 ∷ []) c 0;
}

-- the maker and the taker stand at these places, and these tokens wait
abbrev at : ℕ → ℕ → List Tag → State Tag
at made taken waiting = record {
  local = λ p. record { position = slice_index_or (made ∷ taken ∷ []) p 0; slots = []; kept = [] };
  queue = λ c. waiting;
}

-- At the start the maker may fire, and the taker waits for a token.

one_lane_starts : Tells pair (at 0 0 []) 0 1 (Stepped 0)
one_lane_starts = (refl, refl, λ q below of_lane. absurd (omega (arith, below)))

first_lane_starts : Tells pair (at 0 0 []) 0 2 (Stepped 0)
first_lane_starts = (refl, refl, λ q below of_lane. absurd (omega (arith, below)))

second_lane_waits : Tells pair (at 0 0 []) 1 2 Idle
second_lane_waits = (waits, (1, (refl, lit< tt)))
  where
    waits : IsLaneStuck pair (at 0 0 []) 1 2
    waits zero of_lane = absurd (omega (arith, of_lane))
    waits (suc zero) of_lane = refl
    waits (suc (suc p)) of_lane = refl

-- After F P F of the maker the channel is full: the maker waits, and of one lane the taker is the least that may go on.

abbrev full : State Tag
full = at 3 0 (tag 0 0 ∷ [])

first_lane_waits : Tells pair full 0 2 Idle
first_lane_waits = (waits, (0, (refl, lit< tt)))
  where
    waits : IsLaneStuck pair full 0 2
    waits zero of_lane = refl
    waits (suc zero) of_lane = absurd (omega (arith, of_lane))
    waits (suc (suc p)) of_lane = refl

one_lane_passes_on : Tells pair full 0 1 (Stepped 1)
one_lane_passes_on = (refl, refl, below)
  where
    below : (q : ℕ) → q < 1 → q % 1 ≡ 0 → enabled pair full q ≡ false
    below zero less of_lane = refl
    below (suc q) less of_lane = absurd (omega (arith, less))

full_after : map (positions (reached pair tags (0 ∷ 0 ∷ 0 ∷ []))) (0 ∷ 1 ∷ []) ≡ 3 ∷ 0 ∷ []
full_after = refl

token_waits : (reached pair tags (0 ∷ 0 ∷ 0 ∷ [])).queue 0 ≡ tag 0 0 ∷ []
token_waits = refl

-- The maker has ended, and the taker hasn't got its second token: lane 0 has ended, and lane 1 goes on.

first_lane_is_done : Tells pair (at 4 2 (tag 0 1 ∷ [])) 0 2 Done
first_lane_is_done = ended
  where
    ended : HasLaneEnded pair (at 4 2 (tag 0 1 ∷ [])) 0 2
    ended zero of_lane = refl
    ended (suc zero) of_lane = absurd (omega (arith, of_lane))
    ended (suc (suc p)) of_lane = refl

second_lane_goes_on : Tells pair (at 4 2 (tag 0 1 ∷ [])) 1 2 (Stepped 1)
second_lane_goes_on = (refl, refl, below)
  where
    below : (q : ℕ) → q < 1 → q % 2 ≡ 1 → enabled pair (at 4 2 (tag 0 1 ∷ [])) q ≡ false
    below zero less of_lane = refl
    below (suc q) less of_lane = absurd (omega (arith, less))

-- Both have ended.

one_lane_is_done : Tells pair (at 4 4 []) 0 1 Done
one_lane_is_done = ended
  where
    ended : HasLaneEnded pair (at 4 4 []) 0 1
    ended zero of_lane = refl
    ended (suc zero) of_lane = refl
    ended (suc (suc p)) of_lane = refl

ended_after : map (positions (reached pair tags (0 ∷ 0 ∷ 0 ∷ 1 ∷ 0 ∷ 1 ∷ 1 ∷ 1 ∷ []))) (0 ∷ 1 ∷ []) ≡ 4 ∷ 4 ∷ []
ended_after = refl

-- Histories

stepped : history_after (0 ∷ 0 ∷ []) (Stepped 1) ≡ 0 ∷ 0 ∷ 1 ∷ []
stepped = refl

idle : history_after (0 ∷ 0 ∷ []) Idle ≡ 0 ∷ 0 ∷ []
idle = refl

done : history_after (0 ∷ 0 ∷ []) Done ≡ 0 ∷ 0 ∷ []
done = refl

-- the board of a network of which the machine sees this pair, after three events of the maker and one of the taker
is_run : (network : Network) → net_of network ≡ pair → IsRunFromStart (network_run network (0 ∷ 0 ∷ 0 ∷ 1 ∷ []))
is_run network is =
    subst (λ (n : Net). IsRun n tags (start n) (0 ∷ 0 ∷ 0 ∷ 1 ∷ [])) (sym is) (refl, (refl, (refl, (refl, tt))))
