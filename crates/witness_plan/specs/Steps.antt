-- The events of one point, found in a script.
use Rattle.std.specs.Prelude.{ℕ, zero, suc, List, [], ◌∷◌, ◌++◌, replicate}
use Rattle.net_core.specs.declared.network.Event.{Event}
use Rattle.net_core.specs.declared.network.Event.TheVariants.{Get, Fire, Put}
use Rattle.net_core.specs.Machine.{Net}
use Rattle.witness_plan.specs.Records.{left_after}

-- how many Puts stand in front
abbrev pub put_length : List Event → ℕ
put_length [] = 0
put_length (Get channel slot ∷ events) = 0
put_length (Fire refs ∷ events) = 0
put_length (Put channel ∷ events) = suc (put_length events)

-- how many events the first point of these has: all up to its Fire, and the Puts behind it
abbrev pub point_length : List Event → ℕ
point_length [] = 0
point_length (Get channel slot ∷ events) = suc (point_length events)
point_length (Fire refs ∷ events) = suc (put_length events)
point_length (Put channel ∷ events) = suc (point_length events)

-- the schedule with the events of so many points more of process p
abbrev pub with_points : Net → List ℕ → ℕ → ℕ → List ℕ
with_points net schedule p zero = schedule
with_points net schedule p (suc count) =
    let before = with_points net schedule p count in
    before ++ replicate (point_length (left_after net before p)) p
