-- Clocked runs of small networks, computed from the definitions. The clocks were counted by hand.
--
-- Each process makes one event a clock, if it is enabled at the clock's beginning. So a token that is put at one clock
-- is got at the next one at the earliest, and a place that a Get leaves at one clock is taken at the next one. Above
-- the rows of a network stands at which clocks each process makes its Gets (G), Fires (F) and Puts (P), as it was
-- reckoned. They are examples: no law follows from them.
use Rattle.std.proofs.Common.{◌≡◌, ℕ, false, List, [], ◌∷◌, map, refl}
use Rattle.net_core.specs.Cuts.{positions}
use Rattle.net_core.specs.Machine.{Net}
use Rattle.net_core.specs.Rules.{tags}
use Rattle.net_core.proofs.SmallNetworks.{corner, increments, sums}
use Rattle.clock_sim.specs.Clocks.{after_clocks, clocked_run, clocks, enabled_processes, is_stuck_after}

-- where three processes stand after so many clocks
abbrev standing : Net → ℕ → List ℕ
standing n k = map (positions (after_clocks n tags k)) (0 ∷ 1 ∷ 2 ∷ [])

-- One turn: each event waits for the one before it.
-- source F1 P2, assignment G3 F4 P5, sink G6 F7

one_turn : clocks (increments 1 1) ≡ 7
unfolding clocks
one_turn = refl

one_turn_run : clocked_run (increments 1 1) tags 7 ≡ 0 ∷ 0 ∷ 1 ∷ 1 ∷ 1 ∷ 2 ∷ 2 ∷ []
one_turn_run = refl

-- no turn, and so no event and no clock
no_turn : clocks (increments 0 1) ≡ 0
unfolding clocks
no_turn = refl

-- Three turns with one place: at clock 6 the source waits, though the place that it waits for is left at that clock.
-- source F1 P2 F3 P4 F5 P7, assignment G3 F4 P5 G6 F7 P8 G9 F10 P11, sink G6 F7 G9 F10 G12 F13

sixth_clock : enabled_processes (increments 3 1) (after_clocks (increments 3 1) tags 5) ≡ 1 ∷ 2 ∷ []
sixth_clock = refl

seventh_clock : enabled_processes (increments 3 1) (after_clocks (increments 3 1) tags 6) ≡ 0 ∷ 1 ∷ 2 ∷ []
seventh_clock = refl

three_turns : clocks (increments 3 1) ≡ 13
unfolding clocks
three_turns = refl

-- With three places the source puts at clock 6, and the assignment still sets the pace.
more_room : clocks (increments 3 3) ≡ 13
unfolding clocks
more_room = refl

-- for i < 3 s[i] = s[i - 1] + x[i]: the assignment is the reader and the writer of channel 0
-- source F1 P2 F3 P4 F5 P6, assignment G3 F4 P5 P6 G7 G8 F9 P10 P11 G12 G13 F14 P15, sink G7 F8 G12 F13 G16 F17

sums_clocks : clocks sums ≡ 17
unfolding clocks
sums_clocks = refl

sums_at_ten : standing sums 10 ≡ 6 ∷ 8 ∷ 2 ∷ []
sums_at_ten = refl

sums_before_the_end : is_stuck_after sums 16 ≡ false
sums_before_the_end = refl

-- for j < 2 for i < 2 b[j][i] = a[i][j]: the processes end at the clocks 8, 14 and 16
-- source F1 P2 F3 P4 F5 P6 F7 P8, assignment G3 F4 P5 G6 G7 F8 P9 F10 P11 G12 F13 P14,
-- sink G6 F7 G10 F11 G12 F13 G15 F16

corner_at_seven : standing corner 7 ≡ 7 ∷ 5 ∷ 2 ∷ []
corner_at_seven = refl

corner_at_eight : standing corner 8 ≡ 8 ∷ 6 ∷ 2 ∷ []
corner_at_eight = refl

corner_at_thirteen : standing corner 13 ≡ 8 ∷ 11 ∷ 6 ∷ []
corner_at_thirteen = refl

corner_at_fourteen : standing corner 14 ≡ 8 ∷ 12 ∷ 6 ∷ []
corner_at_fourteen = refl

corner_at_sixteen : standing corner 16 ≡ 8 ∷ 12 ∷ 8 ∷ []
corner_at_sixteen = refl

corner_clocks : clocks corner ≡ 16
unfolding clocks
corner_clocks = refl
