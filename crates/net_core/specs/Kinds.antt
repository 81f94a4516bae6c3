-- The kinds of events that are counted.
use Rattle.std.specs.Prelude.{Bool}
use Rattle.net_core.specs.declared.network.Event.{Event}
use Rattle.net_core.specs.declared.event_counts.Kind.{Kind}
use Rattle.net_core.specs.declared.event_counts.Kind.TheVariants.{Get, Fire, PutTo}
use Rattle.net_core.specs.Shape.{is_any_get, is_fire, is_put}

-- whether an event is of a kind
abbrev pub is_of_kind : Kind → Event → Bool
is_of_kind Get e = is_any_get e
is_of_kind Fire e = is_fire e
is_of_kind (PutTo channel) e = is_put channel e
