-- The items of a process's ports: what each of them does in turn, where all go each at its own pace and meet at the fires.
use Rattle.std.specs.Prelude.{ℕ, Bool, true, false, ◌==◌, if◌then◌else◌, is_none, Option, Some, None, List, [], ◌∷◌, not, filter_map}
use Rattle.net_core.specs.declared.refs.Ref.{Ref}
use Rattle.net_core.specs.declared.network.Event.{Event}
use Rattle.net_core.specs.declared.network.Event.TheVariants.{Get, Fire, Put}
use Rattle.port_items.specs.declared.items.GetItem.{GetItem}
use Rattle.port_items.specs.declared.items.PutItem.{PutItem}

-- Fires

-- the references of a Fire
abbrev pub refs_of : Event → Option (List Ref)
refs_of (Get channel slot) = None
refs_of (Fire refs) = Some refs
refs_of (Put channel) = None

-- the references of each Fire of a script, in order
abbrev pub fire_items : List Event → List (List Ref)
fire_items script = filter_map refs_of script

-- Gets of a channel

-- a Fire before which there is no Get
abbrev pub only_fire : GetItem
only_fire = record { get = None; fire = true }

-- whether the first item is such a Fire, and the items but for it
abbrev pub begins_with_fire : List GetItem → Bool
begins_with_fire [] = false
begins_with_fire (item ∷ items) = is_none item.get

abbrev pub without_fire : List GetItem → List GetItem
without_fire [] = []
without_fire (item ∷ items) = if is_none item.get then items else item ∷ items

-- an event before the items of those behind it: a Get takes in the Fire that is next, if there is no Get between
abbrev pub get_event : ℕ → Event → List GetItem → List GetItem
get_event c (Get channel slot) items =
    if c == channel
    then record { get = Some slot; fire = begins_with_fire items } ∷ without_fire items
    else items
get_event c (Fire refs) items = only_fire ∷ items
get_event c (Put channel) items = items

-- the items of a script, before those of what comes behind it
abbrev pub get_items_before : ℕ → List GetItem → List Event → List GetItem
get_items_before c behind [] = behind
get_items_before c behind (e ∷ script) = get_event c e (get_items_before c behind script)

-- the Gets of a channel and all Fires of a script, in order, of which a Get and the Fire next to it are one item
abbrev pub get_items : ℕ → List Event → List GetItem
get_items c script = get_items_before c [] script

-- a Fire, or nothing
abbrev pub fire_if : Bool → List GetItem
fire_if false = []
fire_if true = only_fire ∷ []

-- What a port gives that begins behind a Fire before which there is no Get, and where this comes once more at the end. Round and
-- round it is the same as the items of the script.
abbrev pub port_gets : ℕ → List Event → List GetItem
port_gets c script =
    without_fire (get_items_before c (fire_if (begins_with_fire (get_items c script))) script)

-- Puts of a channel

-- a Put that isn't next to a Fire
abbrev pub only_put : PutItem
only_put = record { fire = false; put = true }

-- whether the first item is such a Put, and the items but for it
abbrev pub begins_with_put : List PutItem → Bool
begins_with_put [] = false
begins_with_put (item ∷ items) = not item.fire

abbrev pub without_put : List PutItem → List PutItem
without_put [] = []
without_put (item ∷ items) = if item.fire then item ∷ items else items

-- an event before the items of those behind it: a Fire takes in the Put that is next, if there is no Fire between
abbrev pub put_event : ℕ → Event → List PutItem → List PutItem
put_event c (Get channel slot) items = items
put_event c (Fire refs) items =
    record { fire = true; put = begins_with_put items } ∷ without_put items
put_event c (Put channel) items = if c == channel then only_put ∷ items else items

-- the Puts of a channel and all Fires of a script, in order, of which a Fire and the Put next to it are one item
abbrev pub put_items : ℕ → List Event → List PutItem
put_items c [] = []
put_items c (e ∷ script) = put_event c e (put_items c script)
