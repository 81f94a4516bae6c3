-- What events do to the queues, and what a queue has had along a schedule.
use Rattle.std.specs.Prelude.{◌+◌, ◌-◌, ◌<◌, ℕ, zero, suc, max, min, List, [], ◌∷◌, drop, map, slice_index_or, slice_set}
use Rattle.std.specs.List.{fold}
use Rattle.net_core.specs.declared.network.Event.{Event}
use Rattle.net_core.specs.declared.network.Event.TheVariants.{Get, Fire, Put}
use Rattle.net_core.specs.Cuts.{cut_after, gets_at, opening, puts_at}
use Rattle.net_core.specs.Machine.{Net}
use Rattle.witness_plan.specs.Sequential.{greatest_length}
use Rattle.witness_plan.specs.declared.effects.Effect.{Effect}
use Rattle.witness_plan.specs.declared.effects.Effect.TheVariants.{Take, Nothing, Append}
use Rattle.witness_plan.specs.declared.queues.QueueTotals.{QueueTotals}

-- what an event does
abbrev pub effect_of : Event → Effect
effect_of (Get channel slot) = Take channel
effect_of (Fire refs) = Nothing
effect_of (Put channel) = Append channel

-- what the events of process p do, in order
abbrev pub effects_of : Net → ℕ → List Effect
effects_of net p = map effect_of (net.script p)

-- a queue with this number has its channel among so many
abbrev pub HasQueue : ℕ → Effect → Type 0
HasQueue queues (Take c) = c < queues
HasQueue queues Nothing = Unit {0}
HasQueue queues (Append c) = c < queues

-- nothing was put
abbrev pub no_totals : QueueTotals
no_totals = record { puts = 0; gets = 0; greatest = 0 }

-- one token more was got
abbrev pub with_get : QueueTotals → QueueTotals
with_get queue = record queue { gets = min (queue.gets + 1) 4294967295 }

-- one token more was put, so that the queue may be longer than before
abbrev pub with_put : QueueTotals → QueueTotals
with_put queue =
    let puts = min (queue.puts + 1) 4294967295 in
    record queue { puts = puts; greatest = max queue.greatest (puts - queue.gets) }

-- the queues after an effect
abbrev pub after_effect : List QueueTotals → Effect → List QueueTotals
after_effect queues (Take c) = slice_set queues c (with_get (slice_index_or queues c no_totals))
after_effect queues Nothing = queues
after_effect queues (Append c) = slice_set queues c (with_put (slice_index_or queues c no_totals))

-- the queues after these effects
abbrev pub after_effects : List QueueTotals → List Effect → List QueueTotals
after_effects queues effects = fold after_effect queues effects

-- what channel c's queue has had along a schedule
abbrev pub queue_at : Net → List ℕ → ℕ → QueueTotals
queue_at net schedule c =
    let cut = cut_after opening schedule in
    record { puts = puts_at net cut c; gets = gets_at net cut c; greatest = greatest_length net schedule c }

-- Points

-- how many Puts stand in front
abbrev pub puts_in_front : List Effect → ℕ
puts_in_front [] = 0
puts_in_front (Take c ∷ effects) = 0
puts_in_front (Nothing ∷ effects) = 0
puts_in_front (Append c ∷ effects) = suc (puts_in_front effects)

-- how many events the first point has: all up to its Fire, and the Puts behind it
abbrev pub first_point : List Effect → ℕ
first_point [] = 0
first_point (Take c ∷ effects) = suc (first_point effects)
first_point (Nothing ∷ effects) = suc (puts_in_front effects)
first_point (Append c ∷ effects) = suc (first_point effects)

-- how many events the first so many points have
abbrev pub first_points : ℕ → List Effect → ℕ
first_points zero effects = 0
first_points (suc count) effects =
    let before = first_points count effects in before + first_point (drop before effects)
