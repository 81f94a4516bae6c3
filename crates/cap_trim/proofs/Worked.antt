-- Rests and least capacities of small networks, computed from the definitions. All was reckoned by hand.
--
-- A position counts the events that a process has made. Where a channel has one place less than it needs, its writer
-- stands at a Put, and the others go on as far as tokens reach them. They are examples: that each run rests at the same
-- positions is a law, and isn't shown here.
use Rattle.std.proofs.Common.{◌≡◌, ℕ, false, List, [], ◌∷◌, ◌++◌, refl}
use Rattle.std.specs.Prelude.{Some, None}
use Rattle.net_core.specs.declared.network.Event.TheVariants.{Get, Fire, Put}
use Rattle.net_core.specs.declared.refs.Ref.TheVariants.{Slot}
use Rattle.net_core.specs.Machine.{Net}
use Rattle.net_core.specs.Orders.{reached}
use Rattle.net_core.specs.Rules.{tags}
use Rattle.net_core.proofs.SmallNetworks.{increments_within, network, times}
use Rattle.cap_trim.specs.Capacities.{capacity_list, least_capacity, lowered_network, lowered_rests, trimmed_network}
use Rattle.cap_trim.specs.Rests.{can_end, least_enabled, least_run, rest}

-- One place each: at the fourth step the source waits before its second Put, and at the twelfth the assignment does.
each_step : least_run (increments_within 3 (1 ∷ 1 ∷ []))
    ≡ 0 ∷ 0 ∷ 0 ∷ 1 ∷ 0 ∷ 0 ∷ 1 ∷ 1 ∷ 1 ∷ 0 ∷ 1 ∷ 2 ∷ 1 ∷ 1 ∷ 1 ∷ 2 ∷ 2 ∷ 1 ∷ 2 ∷ 2 ∷ 2 ∷ []
unfolding least_run
each_step = refl

ends : rest (increments_within 3 (1 ∷ 1 ∷ [])) ≡ 6 ∷ 9 ∷ 6 ∷ []
unfolding least_run
ends = refl

-- the source fires twice and waits to put; the assignment is the only one that can go on
fourth_step : least_enabled (increments_within 3 (1 ∷ 1 ∷ []))
    (reached (increments_within 3 (1 ∷ 1 ∷ [])) tags (0 ∷ 0 ∷ 0 ∷ [])) ≡ Some 1
fourth_step = refl

-- without a place in channel 0 nothing goes on once the source has fired
stuck : least_enabled (increments_within 3 (0 ∷ 1 ∷ []))
    (reached (increments_within 3 (0 ∷ 1 ∷ [])) tags (0 ∷ [])) ≡ None
stuck = refl

-- with three places in each channel one is enough
enough : least_capacity (increments_within 3 (3 ∷ 3 ∷ [])) 0 ≡ 1
unfolding least_run
enough = refl

least : capacity_list (trimmed_network (increments_within 3 (3 ∷ 3 ∷ []))) ≡ 1 ∷ 1 ∷ []
unfolding trimmed_network least_run
least = refl

-- Without a place in channel 0 the source stands at its first Put. Without one in channel 1 the assignment stands at
-- its first Put; it has got one token, a second one waits, and the source stands at its third Put.
rests : lowered_rests (increments_within 3 (1 ∷ 1 ∷ [])) ≡ (1 ∷ 0 ∷ 0 ∷ []) ∷ (5 ∷ 2 ∷ 0 ∷ []) ∷ []
unfolding least_run
rests = refl

unended : can_end (lowered_network (increments_within 3 (1 ∷ 1 ∷ [])) 1) ≡ false
unfolding least_run
unended = refl

-- for i < 4 b[i] = a[i]; for i < 4 c[i] = a[i] + b[3]: channel 1 hands a to the second assignment, which waits for the
-- last b
abbrev last_added : List ℕ → Net
last_added capacities =
    network
    (times 4 (Fire [] ∷ Put 0 ∷ Put 1 ∷ [])
    ∷ (times 4 (Get 0 0 ∷ Fire (Slot 0 ∷ []) ∷ []) ++ Put 2 ∷ [])
    ∷ (Get 1 0 ∷ Get 2 1 ∷ Fire (Slot 0 ∷ Slot 1 ∷ []) ∷ Put 3
    ∷ times 3 (Get 1 0 ∷ Fire (Slot 0 ∷ Slot 1 ∷ []) ∷ Put 3 ∷ []))
    ∷ times 4 (Get 3 0 ∷ Fire (Slot 0 ∷ []) ∷ []) ∷ [])
    (0 ∷ 1 ∷ 2 ∷ 1 ∷ []) (0 ∷ 0 ∷ 1 ∷ 2 ∷ []) (1 ∷ 2 ∷ 2 ∷ 3 ∷ []) capacities

-- With one place in channel 1 the source stands at its third Put to it, after 8 events: one token was got and one
-- waits. So three values were copied, and the second assignment waits for the copy of the fourth.
one_place : rest (last_added (1 ∷ 1 ∷ 1 ∷ 1 ∷ [])) ≡ 8 ∷ 6 ∷ 1 ∷ 0 ∷ []
unfolding least_run
one_place = refl

-- with two places all ends
two_places : rest (last_added (1 ∷ 2 ∷ 1 ∷ 1 ∷ [])) ≡ 12 ∷ 9 ∷ 13 ∷ 8 ∷ []
unfolding least_run
two_places = refl

-- with two places there, and one place less in another channel
no_copy_in : rest (lowered_network (last_added (1 ∷ 2 ∷ 1 ∷ 1 ∷ [])) 0) ≡ 1 ∷ 0 ∷ 0 ∷ 0 ∷ []
unfolding least_run
no_copy_in = refl

-- the fourth value fills channel 1 once more, and the copy isn't put
no_copy_out : rest (lowered_network (last_added (1 ∷ 2 ∷ 1 ∷ 1 ∷ [])) 2) ≡ 11 ∷ 8 ∷ 1 ∷ 0 ∷ []
unfolding least_run
no_copy_out = refl

no_sum_out : rest (lowered_network (last_added (1 ∷ 2 ∷ 1 ∷ 1 ∷ [])) 3) ≡ 11 ∷ 9 ∷ 3 ∷ 0 ∷ []
unfolding least_run
no_sum_out = refl
