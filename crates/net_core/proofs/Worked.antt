-- A network of three processes, computed from the definitions: the second uses the tokens of the first in the order 0,
-- 2, 1, 3.
use Rattle.std.proofs.Common.{◌≡◌, false, List, [], ◌∷◌, refl}
use Rattle.std.specs.Prelude.{slice_index_or}
use Rattle.sanlp.specs.declared.nest.Tag.{Tag}
use Rattle.net_core.specs.declared.refs.Ref.TheVariants.{Zero, Slot}
use Rattle.net_core.specs.declared.network.Event.{Event}
use Rattle.net_core.specs.declared.network.Event.TheVariants.{Get, Fire, Put}
use Rattle.net_core.specs.Machine.{Net, start, enabled}
use Rattle.net_core.specs.Names.{tag, tokens, name_at}
use Rattle.net_core.specs.Names.Name.{zero_name, empty_name, token_name}
use Rattle.net_core.specs.Orders.{reached}
use Rattle.net_core.specs.Rules.{tags}
use Rattle.net_core.specs.Shape.{events_below}
use Rattle.net_core.specs.Uses.{uses}

source : List Event
source = Fire [] ∷ Put 0 ∷ Fire [] ∷ Put 0 ∷ Fire [] ∷ Put 0 ∷ Fire [] ∷ Put 0 ∷ []

turned : List Event
turned =
    Get 0 0 ∷ Fire (Slot 0 ∷ []) ∷ Put 1 ∷ Get 0 0 ∷ Get 0 1 ∷ Fire (Slot 1 ∷ []) ∷ Put 1 ∷ Fire
    (Slot 0 ∷ []) ∷ Put 1 ∷ Get 0 0 ∷ Fire (Slot 0 ∷ []) ∷ Put 1 ∷ []

sink : List Event
sink =
    Get 1 0 ∷ Fire (Slot 0 ∷ []) ∷ Get 1 0 ∷ Fire (Slot 0 ∷ []) ∷ Get 1 0 ∷ Fire (Slot 0 ∷ []) ∷ Get 1 0 ∷ Fire
    (Slot 0 ∷ []) ∷ []

corner : Net
unfolding source turned sink
corner = record {
  processes = 3;
  channels = 2;
  script = λ p. slice_index_or (source ∷ turned ∷ sink ∷ []) p [];
  slots = λ p. slice_index_or (0 ∷ 2 ∷ 1 ∷ []) p 0;
  writer = λ c. slice_index_or (0 ∷ 1 ∷ []) c 0;
  reader = λ c. slice_index_or (1 ∷ 2 ∷ []) c 0;
  capacity = λ c. slice_index_or (4 ∷ 4 ∷ []) c 0;
}

corner_uses : uses corner 0 ≡ 0 ∷ 2 ∷ 1 ∷ 3 ∷ []
unfolding corner source turned sink
corner_uses = refl

corner_tokens : tokens corner 1 ≡ tag 1 0 ∷ tag 1 1 ∷ tag 1 2 ∷ tag 1 3 ∷ []
unfolding corner source turned sink
corner_tokens = refl

corner_names : name_at corner 1 5 (Slot 1) ≡ token_name (tag 0 2)
unfolding corner source turned sink
corner_names = refl

corner_empty : name_at corner 1 1 (Slot 1) ≡ empty_name
unfolding corner source turned sink
corner_empty = refl

corner_zero : name_at corner 1 1 Zero ≡ zero_name
unfolding corner source turned sink
corner_zero = refl

corner_events : events_below corner 3 ≡ 28
unfolding corner source turned sink
corner_events = refl

corner_waits : enabled corner (start {T = Tag} corner) 1 ≡ false
unfolding corner source turned sink
corner_waits = refl

corner_moves : (reached corner tags (0 ∷ 0 ∷ 1 ∷ 1 ∷ [])).queue 0 ≡ []
unfolding corner source turned sink
corner_moves = refl
