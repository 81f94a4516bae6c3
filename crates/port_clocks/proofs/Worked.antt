-- Clocked runs of the ports of small networks, computed from the definitions. The clocks were counted by hand.
--
-- Above the rows of a network stands at which clocks each process makes its Gets (G), Fires (F) and Puts (P), as
-- it was reckoned. A token that is put at one clock is got at the next one at the earliest, and a place that a Get
-- leaves at one clock is taken at the next one. A process puts a value, fires the next and gets operands for the
-- one after at one clock. They are examples: no law follows from them.
use Rattle.std.proofs.Common.{◌≡◌, ℕ, [], ◌∷◌, refl}
use Rattle.net_core.specs.declared.network.Event.TheVariants.{Get, Fire, Put}
use Rattle.net_core.specs.declared.refs.Ref.TheVariants.{Slot}
use Rattle.net_core.specs.Machine.{Net}
use Rattle.net_core.specs.Rules.{tags}
use Rattle.net_core.proofs.SmallNetworks.{increments, network, sums, times}
use Rattle.port_clocks.specs.PortClocks.{after_port_clocks, events_of_clock, port_clocks}

-- One turn: each event waits for the one before it.
-- source F1 P2, assignment G3 F4 P5, sink G6 F7

one_turn : port_clocks (increments 1 1) ≡ 7
unfolding port_clocks
one_turn = refl

-- no turn, and so no event and no clock
no_turn : port_clocks (increments 0 1) ≡ 0
unfolding port_clocks
no_turn = refl

-- Three turns with three places: after the first each process fires at every clock.
-- source F1 F2 F3, P2 P3 P4; assignment G3 G4 G5, F4 F5 F6, P5 P6 P7; sink G6 G7 G8, F7 F8 F9

more_room : port_clocks (increments 3 3) ≡ 9
unfolding port_clocks
more_room = refl

-- at clock 5 the assignment puts, fires and gets
fifth_clock : events_of_clock (increments 3 3) tags (after_port_clocks (increments 3 3) tags 4)
    ≡ (1, 2) ∷ (1, 4) ∷ (1, 6) ∷ []
fifth_clock = refl

-- Three turns with one place: each channel has a token or room, but never both, so it carries a token at every other clock.
-- source F1 P2 F2 P4 F4 P6, assignment G3 F4 G5 P5 F6 G7 P7 F8 P9, sink G6 F7 G8 F9 G10 F11

three_turns : port_clocks (increments 3 1) ≡ 11
unfolding port_clocks
three_turns = refl

-- a source that gives two values to a sink, over a channel of this capacity
abbrev copies : ℕ → Net
copies capacity =
    network
    (times 2 (Fire [] ∷ Put 0 ∷ []) ∷ times 2 (Get 0 0 ∷ Fire (Slot 0 ∷ []) ∷ []) ∷ [])
    (0 ∷ 1 ∷ []) (0 ∷ []) (1 ∷ []) (capacity ∷ [])

-- source F1 P2 F2 P4, sink G3 F4 G5 F6
two_elements : port_clocks (copies 1) ≡ 6
unfolding port_clocks
two_elements = refl

-- With a second place the second Put needs no room that a Get leaves, and one clock is saved.
-- source F1 P2 F2 P3, sink G3 F4 G4 F5

second_place : port_clocks (copies 2) ≡ 5
unfolding port_clocks
second_place = refl

-- at clock 3 the source waits, though the place that it waits for is left at that clock
third_clock : events_of_clock (increments 3 1) tags (after_port_clocks (increments 3 1) tags 2) ≡ (1, 0) ∷ []
third_clock = refl

-- for i < 3 s[i] = s[i - 1] + x[i]: the assignment is the reader and the writer of channel 0, so it fires at every third clock
-- source F1 P2 F2 P3 F3 P4, assignment G3 F4 G4 P5 P5 G6 F7 G7 P8 P8 G9 F10 P11, sink G6 F7 G9 F10 G12 F13

sums_clocks : port_clocks sums ≡ 13
unfolding port_clocks
sums_clocks = refl
