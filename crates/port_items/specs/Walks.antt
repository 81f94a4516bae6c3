-- The items that a walk along a script still owes.
use Rattle.std.specs.Prelude.{ℕ, Bool, true, false, Option, Some, None, List, ◌∷◌}
use Rattle.port_items.specs.declared.items.GetItem.{GetItem}
use Rattle.port_items.specs.declared.items.PutItem.{PutItem}
use Rattle.port_items.specs.Items.{begins_with_fire, begins_with_put, without_fire, without_put}

-- these items, behind the Get into a slot that was found last and is no item yet, if there is one
abbrev pub behind_get : Option ℕ → List GetItem → List GetItem
behind_get None items = items
behind_get (Some slot) items =
    record { get = Some slot; fire = begins_with_fire items } ∷ without_fire items

-- these items, behind the Fire that was found last and is no item yet, if there is one
abbrev pub behind_fire : Bool → List PutItem → List PutItem
behind_fire false items = items
behind_fire true items =
    record { fire = true; put = begins_with_put items } ∷ without_put items

-- these items, where a walk is yet to skip a Fire in front of them or not
abbrev pub left_of_gets : Bool → Option ℕ → List GetItem → List GetItem
left_of_gets true waiting items = without_fire items
left_of_gets false waiting items = behind_get waiting items
