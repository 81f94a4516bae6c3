-- Small networks for tests.
use Rattle.std.specs.Prelude.{ℤ, List, false, [], ◌∷◌}
use Rattle.channel_class.specs.declared.UseOrder.TheVariants.{InOrder}
use Rattle.net_core.specs.declared.network.Event.TheVariants.{Get, Fire, Put}
use Rattle.net_core.specs.declared.network.Network.{Network}
use Rattle.net_core.specs.declared.refs.Ref.TheVariants.{Slot}

-- a process that fires once, and another that waits for a token which the first never puts
abbrev pub starved : Network
starved = record {
  processes =
      record { slots = 0; script = Fire [] ∷ [] }
      ∷ record { slots = 1; script = Get 0 0 ∷ [] } ∷ [];
  channels = record {
    writer = 0;
    reader = 1;
    read = 0;
    capacity = 1;
    class = record { order = InOrder; multiplicity = false };
  } ∷ [];
}

-- its points: one of the first process, none of the second
abbrev pub starved_points : List (List (List ℤ))
starved_points = ([] ∷ []) ∷ [] ∷ []

-- a process that hands its value on to another
abbrev pub hand_on : Network
hand_on = record {
  processes =
      record { slots = 0; script = Fire [] ∷ Put 0 ∷ [] }
      ∷ record { slots = 1; script = Get 0 0 ∷ Fire (Slot 0 ∷ []) ∷ [] } ∷ [];
  channels =
      record { writer = 0; reader = 1; read = 0; capacity = 1; class = record { order = InOrder; multiplicity = false } } ∷ [];
}
