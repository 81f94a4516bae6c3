-- What suffices for the fires of a process to be right, and does not depend on the order of its Fires.
use Rattle.std.specs.Prelude.{ℕ, Bool, true, false, ◌==◌, ◌&&◌, not, List, length, count_by, find}
use Rattle.std.specs.Option.{option_map_or}
use Rattle.std.specs.List.{list_all}
use Rattle.sanlp.specs.Access.{read_count}
use Rattle.sanlp.specs.declared.nest.Nest.{Nest}
use Rattle.sanlp.specs.Points.{points_of}
use Rattle.net_core.specs.declared.network.Event.{Event}
use Rattle.net_core.specs.declared.network.Event.TheVariants.{Get, Fire, Put}
use Rattle.net_core.specs.Machine.{Net}
use Rattle.net_core.specs.Shape.{is_any_get, is_fire, turns}
use Rattle.net_checker.specs.Firings.{is_within}

-- A Fire has one reference for each read, and no reference to a slot that isn't there.
abbrev pub fits_reads : Nest → Net → ℕ → Event → Bool
fits_reads n net p (Get c slot) = true
fits_reads n net p (Fire refs) =
    (length refs == read_count n p) && list_all (is_within (net.slots p)) refs
fits_reads n net p (Put c) = true

-- a Put, into whichever channel
abbrev pub is_any_put : Event → Bool
is_any_put (Get c slot) = false
is_any_put (Fire refs) = false
is_any_put (Put c) = true

-- the first of these events that is no Get is a Put
abbrev pub puts_first : List Event → Bool
puts_first events = option_map_or is_any_put (find (λ e. not (is_any_get e)) events) false

-- Every Fire of p fits its reads, there is one for each point, and no Put stands before the first Fire. Then each event of p
-- may stand where it does.
abbrev pub fires_fit : Nest → Net → ℕ → Bool
fires_fit n net p =
    list_all (fits_reads n net p) (net.script p)
    && (count_by is_fire (net.script p) == turns (points_of n) p) && not (puts_first (net.script p))
