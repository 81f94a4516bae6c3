-- Small networks, computed from the definitions: their schedules and their capacities.
--
-- The networks are written out, and their downward schedules and the greatest lengths of their queues
-- are computed. In the first two the order of the trace has each process end before the next one begins,
-- so the queues between them hold all tokens, and with the downward schedule no queue holds more than
-- one. In the third a copy is put only when all values were got, and two tokens of another channel have
-- to wait for it. They are examples: that the downward schedule never needs more room isn't shown.
use Rattle.std.proofs.Common.{◌≡◌, ℕ, false, Some, None, List, [], ◌∷◌, ◌++◌, replicate, refl}
use Rattle.channel_class.specs.declared.UseOrder.TheVariants.{InOrder}
use Rattle.net_core.specs.declared.network.Channel.{Channel}
use Rattle.net_core.specs.declared.network.Event.{Event}
use Rattle.net_core.specs.declared.network.Event.TheVariants.{Get, Fire, Put}
use Rattle.net_core.specs.declared.network.Network.{Network}
use Rattle.net_core.specs.declared.refs.Ref.TheVariants.{Zero, Slot}
use Rattle.net_core.specs.Cuts.{cut_after, opening}
use Rattle.net_core.specs.Machine.{net_of}
use Rattle.witness_plan.specs.Schedules.{downward_schedule, highest_ready}
use Rattle.witness_plan.specs.Sequential.{capacities, with_capacities}
use Rattle.witness_plan.specs.Steps.{point_length}

values : List Event
values = Fire [] ∷ Put 1 ∷ Fire [] ∷ Put 1 ∷ Fire [] ∷ Put 1 ∷ []

-- each point adds a value to the sum before it, which it gets from itself
sums : List Event
sums =
    Get 1 1 ∷ Fire (Zero ∷ Slot 1 ∷ []) ∷ Put 0 ∷ Put 2
    ∷ Get 0 0 ∷ Get 1 1 ∷ Fire (Slot 0 ∷ Slot 1 ∷ []) ∷ Put 0 ∷ Put 2
    ∷ Get 0 0 ∷ Get 1 1 ∷ Fire (Slot 0 ∷ Slot 1 ∷ []) ∷ Put 2 ∷ []

sink : List Event
sink = Get 2 0 ∷ Fire (Slot 0 ∷ []) ∷ Get 2 0 ∷ Fire (Slot 0 ∷ []) ∷ Get 2 0 ∷ Fire (Slot 0 ∷ []) ∷ []

channel : ℕ → ℕ → ℕ → ℕ → Channel
channel writer reader read capacity = record {
  writer = writer;
  reader = reader;
  read = read;
  capacity = capacity;
  class = record { order = InOrder; multiplicity = false };
}

running_sums : Network
unfolding values sums sink channel
running_sums = record {
  processes =
      record { slots = 0; script = values } ∷ record { slots = 2; script = sums } ∷ record { slots = 1; script = sink }
      ∷ [];
  channels = channel 1 1 0 2 ∷ channel 0 1 1 3 ∷ channel 1 2 0 3 ∷ [];
}

-- in the order of the trace each sum is got before the next one is put, and the other channels are filled first
in_trace_order : capacities running_sums (replicate 6 0 ++ (replicate 13 1 ++ replicate 6 2)) ≡ 1 ∷ 3 ∷ 3 ∷ []
unfolding running_sums values sums sink channel
in_trace_order = refl

-- the downward schedule goes point by point
downward_sums : capacities running_sums (downward_schedule (net_of running_sums)) ≡ 1 ∷ 1 ∷ 1 ∷ []
unfolding running_sums values sums sink channel downward_schedule
downward_sums = refl

-- point by point through all processes no queue has more than one token
point_by_point : capacities running_sums
    (replicate 2 0
    ++ (replicate 4 1
    ++ (replicate 2 2
    ++ (replicate 2 0
    ++ (replicate 5 1 ++ (replicate 2 2 ++ (replicate 2 0 ++ (replicate 4 1 ++ replicate 2 2))))))))
    ≡ 1 ∷ 1 ∷ 1 ∷ []
unfolding running_sums values sums sink channel
point_by_point = refl

first_point : point_length sums ≡ 4
unfolding sums
first_point = refl

changed : (with_capacities running_sums (1 ∷ 3 ∷ 3 ∷ [])).channels
    ≡ channel 1 1 0 1 ∷ channel 0 1 1 3 ∷ channel 1 2 0 3 ∷ []
unfolding running_sums channel
changed = refl

-- Three values, to each of which one is added.

adder : List Event
adder = Get 0 0 ∷ Fire (Slot 0 ∷ []) ∷ Put 1 ∷ Get 0 0 ∷ Fire (Slot 0 ∷ []) ∷ Put 1 ∷ Get 0 0 ∷ Fire
    (Slot 0 ∷ []) ∷ Put 1 ∷ []

one_added : Network
unfolding adder channel
one_added = record {
  processes =
      record { slots = 0; script = Fire [] ∷ Put 0 ∷ Fire [] ∷ Put 0 ∷ Fire [] ∷ Put 0 ∷ [] }
      ∷ record { slots = 1; script = adder }
      ∷ record {
        slots = 1;
        script = Get 1 0 ∷ Fire (Slot 0 ∷ []) ∷ Get 1 0 ∷ Fire (Slot 0 ∷ []) ∷ Get 1 0
            ∷ Fire (Slot 0 ∷ []) ∷ [];
      } ∷ [];
  channels = channel 0 1 0 3 ∷ channel 1 2 0 3 ∷ [];
}

-- the source alone is ready at first, and after its first Put its reader is
first_ready : highest_ready (net_of one_added) opening 3 ≡ Some 0
unfolding one_added adder channel
first_ready = refl

next_ready : highest_ready (net_of one_added) (cut_after opening (0 ∷ 0 ∷ [])) 3 ≡ Some 1
unfolding one_added adder channel
next_ready = refl

added_downward : downward_schedule (net_of one_added)
    ≡ 0 ∷ 0 ∷ 1 ∷ 1 ∷ 1 ∷ 2 ∷ 2 ∷ 0 ∷ 0 ∷ 1 ∷ 1 ∷ 1 ∷ 2 ∷ 2 ∷ 0 ∷ 0 ∷ 1 ∷ 1 ∷ 1 ∷ 2 ∷ 2 ∷ []
unfolding one_added adder channel downward_schedule
added_downward = refl

added_ends : highest_ready (net_of one_added) (cut_after opening (downward_schedule (net_of one_added))) 3 ≡ None
unfolding one_added adder channel downward_schedule
added_ends = refl

added_capacities : capacities one_added (downward_schedule (net_of one_added)) ≡ 1 ∷ 1 ∷ []
unfolding one_added adder channel downward_schedule
added_capacities = refl

added_in_trace_order : capacities one_added (replicate 6 0 ++ (replicate 9 1 ++ replicate 6 2)) ≡ 3 ∷ 3 ∷ []
unfolding one_added adder channel
added_in_trace_order = refl

-- Four values, to each of which the last one is added, by way of a copy.

copied : List Event
copied =
    Get 0 0 ∷ Fire (Slot 0 ∷ []) ∷ Get 0 0 ∷ Fire (Slot 0 ∷ []) ∷ Get 0 0 ∷ Fire (Slot 0 ∷ []) ∷ Get 0 0 ∷ Fire
    (Slot 0 ∷ []) ∷ Put 2 ∷ []

last_added : Network
unfolding copied channel
last_added = record {
  processes =
      record {
        slots = 0;
        script = Fire [] ∷ Put 0 ∷ Put 1 ∷ Fire [] ∷ Put 0 ∷ Put 1 ∷ Fire [] ∷ Put 0 ∷ Put 1 ∷ Fire []
            ∷ Put 0 ∷ Put 1 ∷ [];
      }
      ∷ record { slots = 1; script = copied }
      ∷ record {
        slots = 2;
        script =
            Get 1 0 ∷ Get 2 1 ∷ Fire (Slot 0 ∷ Slot 1 ∷ []) ∷ Put 3
            ∷ Get 1 0 ∷ Fire (Slot 0 ∷ Slot 1 ∷ []) ∷ Put 3 ∷ Get 1 0 ∷ Fire
            (Slot 0 ∷ Slot 1 ∷ []) ∷ Put 3 ∷ Get 1 0 ∷ Fire (Slot 0 ∷ Slot 1 ∷ []) ∷ Put 3 ∷ [];
      }
      ∷ record {
        slots = 1;
        script = Get 3 0 ∷ Fire (Slot 0 ∷ []) ∷ Get 3 0 ∷ Fire (Slot 0 ∷ []) ∷ Get 3 0
            ∷ Fire (Slot 0 ∷ []) ∷ Get 3 0 ∷ Fire (Slot 0 ∷ []) ∷ [];
      } ∷ [];
  channels = channel 0 1 0 4 ∷ channel 0 2 0 4 ∷ channel 1 2 1 1 ∷ channel 2 3 0 4 ∷ [];
}

-- the adder waits for the last copy, and meanwhile two values wait for it
last_capacities : capacities last_added (downward_schedule (net_of last_added)) ≡ 1 ∷ 2 ∷ 1 ∷ 1 ∷ []
unfolding last_added copied channel downward_schedule
last_capacities = refl
