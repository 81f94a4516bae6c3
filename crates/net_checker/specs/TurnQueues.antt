-- Queues of turns in which equal turns that follow each other are kept with their number.
use Rattle.std.specs.Prelude.{◌<◌, ℕ, List, ◌++◌, replicate}
use Rattle.std.specs.List.{flat_map}
use Rattle.net_checker.specs.declared.turn_queue.Stretch.{Stretch}

-- the turns of one stretch
abbrev pub stretch_turns : Stretch → List ℕ
stretch_turns stretch = replicate stretch.count stretch.turn

-- a stretch has a token
abbrev pub HasToken : Stretch → Type 0
HasToken stretch = 0 < stretch.count

-- the turns of the front, of the stretches behind it, and of the back
abbrev pub turns_in : Stretch → List Stretch → Stretch → List ℕ
turns_in front middle back =
    stretch_turns front ++ (flat_map stretch_turns middle ++ stretch_turns back)
