-- Designs of small networks, edge by edge, computed from the definitions.
--
-- The numbers are those of the clocked runs, which were counted by hand: each node makes one event at an edge, if
-- what it needs was there before. So a token that is given at one edge is taken at the next one at the earliest,
-- and a place that is left at one edge is filled at the next one. Written out, an edge asks the one before it for
-- the same registers again and again, so here they are kept in lists, which changes nothing (ListedRuns). They are
-- examples: no law follows from them.
use Rattle.std.proofs.Common.{◌≡◌, ℕ, ◌+◌, Bool, true, false, is_none, List, [], ◌∷◌, map}
use Rattle.std.proofs.Common.{◌++◌, slice_get, refl, sym, ap, ◌∙◌, arith}
use Rattle.std.specs.Prelude.{slice_index_or}
use Rattle.std.specs.List.{range_with_len}
use mathlib.Core.Path.{fun_ext}
use Rattle.sanlp.specs.declared.nest.Tag.{Tag}
use Rattle.net_core.specs.declared.network.Event.{Event}
use Rattle.net_core.specs.declared.network.Event.TheVariants.{Get, Fire, Put}
use Rattle.net_core.specs.declared.refs.Ref.TheVariants.{Slot}
use Rattle.net_core.specs.Machine.{Net}
use Rattle.net_core.specs.Names.{tag}
use Rattle.net_core.specs.Rules.{tags}
use Rattle.net_core.proofs.SmallNetworks.{corner, increments, sums}
use Rattle.repeat_sequencer.specs.declared.sequencer.Sequencer.{Sequencer}
use Rattle.repeat_sequencer.specs.Steps.{past_ends}
use Rattle.design_clocks.specs.Registers.{Controls, Design, Registers, after_edges, behind_reset, edge, event_at}
use Rattle.design_clocks.specs.Plain.{plain}
use Rattle.design_clocks.proofs.ListedRuns.{listed_from, listed_or, listed_run, listed_run_is}

-- Registers in lists

abbrev in_lists : List (Registers Tag) → List (List Tag) → Design Tag → Design Tag
in_lists nodes fifos d = record {
  node = λ p. listed_or (slice_get nodes p) d.node p;
  fifo = λ c. listed_or (slice_get fifos c) d.fifo c;
}

abbrev listed : Net → Design Tag → Design Tag
listed n d = in_lists (map d.node (range_with_len 0 n.processes)) (map d.fifo (range_with_len 0 n.channels)) d

listed_is : (n : Net) (d : Design Tag) → listed n d ≡ d
listed_is n d =
    let nodes = fun_ext (λ p. listed_from d.node n.processes 0 p p (omega arith)) in
    let fifos = fun_ext (λ c. listed_from d.fifo n.channels 0 c c (omega arith)) in
    λ i. record { node = nodes i; fifo = fifos i }

abbrev run : Net → Controls → ℕ → Design Tag
run n controls k = listed_run (listed n) (behind_reset n controls) (edge n controls tags (λ p. true)) k

after_run : {X : Type 0} (f : Design Tag → X) (n : Net) (controls : Controls) (k : ℕ) (x : X)
    → f (run n controls k) ≡ x
    → f (after_edges n controls tags k) ≡ x
after_run f n controls k x e =
    ap f (sym (listed_run_is (listed n) (behind_reset n controls) (edge n controls tags (λ p. true)) (listed_is n)
    (λ j. after_edges n controls tags j) refl (λ j. refl) k))
    ∙ e

-- Networks

-- a counter over the events of each script
abbrev counters : Net → Controls
counters n = λ p. plain (n.script p)

-- the number of the instruction at which each of three nodes stands, and whether it is at its script's end
abbrev places : Design Tag → List ℕ
places d = map (λ p. (d.node p).control.at) (0 ∷ 1 ∷ 2 ∷ [])

abbrev done : Controls → Design Tag → List Bool
done controls d = map (λ p. is_none (event_at controls d p)) (0 ∷ 1 ∷ 2 ∷ [])

-- one turn: source F1 P2, assignment G3 F4 P5, sink G6 F7
one_turn : done (counters (increments 1 1)) (after_edges (increments 1 1) (counters (increments 1 1)) tags 7)
    ≡ true ∷ true ∷ true ∷ []
unfolding past_ends
one_turn = after_run (done (counters (increments 1 1))) (increments 1 1) (counters (increments 1 1)) 7 _ refl

one_turn_before : done (counters (increments 1 1)) (after_edges (increments 1 1) (counters (increments 1 1)) tags 6)
    ≡ true ∷ true ∷ false ∷ []
unfolding past_ends
one_turn_before = after_run (done (counters (increments 1 1))) (increments 1 1) (counters (increments 1 1)) 6 _ refl

-- Three turns with one place: at edge 6 the source waits, though the place that it waits for is left at that edge.
-- source F1 P2 F3 P4 F5 P7, assignment G3 F4 P5 G6 F7 P8 G9 F10 P11, sink G6 F7 G9 F10 G12 F13

abbrev tokens : Design Tag → List (List Tag)
tokens d = map d.fifo (0 ∷ 1 ∷ [])

full_before : tokens (after_edges (increments 3 1) (counters (increments 3 1)) tags 5)
    ≡ (tag 0 1 ∷ []) ∷ (tag 1 0 ∷ []) ∷ []
unfolding past_ends
full_before = after_run tokens (increments 3 1) (counters (increments 3 1)) 5 _ refl

left_alone : tokens (after_edges (increments 3 1) (counters (increments 3 1)) tags 6) ≡ [] ∷ [] ∷ []
unfolding past_ends
left_alone = after_run tokens (increments 3 1) (counters (increments 3 1)) 6 _ refl

-- With three places the source gives at edge 6: that channel loses its front and gains another token at one edge.
wide_before : tokens (after_edges (increments 3 3) (counters (increments 3 3)) tags 5)
    ≡ (tag 0 1 ∷ []) ∷ (tag 1 0 ∷ []) ∷ []
unfolding past_ends
wide_before = after_run tokens (increments 3 3) (counters (increments 3 3)) 5 _ refl

left_and_filled : tokens (after_edges (increments 3 3) (counters (increments 3 3)) tags 6)
    ≡ (tag 0 2 ∷ []) ∷ [] ∷ []
unfolding past_ends
left_and_filled = after_run tokens (increments 3 3) (counters (increments 3 3)) 6 _ refl

-- The same with sequencers: two instructions or three for each node, behind the last of which a repeat of three turns
-- ends.

abbrev repeated : List Event → Event → Sequencer Event
repeated first last = record {
  levels = 1;
  instructions = map (λ e. record { item = e; ends = [] }) first
      ++ record { item = last; ends = record { level = 0; first = 0; count = 3 } ∷ [] } ∷ [];
}

abbrev repeats : Controls
repeats p =
    slice_index_or
    (repeated (Fire [] ∷ []) (Put 0)
    ∷ repeated (Get 0 0 ∷ Fire (Slot 0 ∷ []) ∷ []) (Put 1)
    ∷ repeated (Get 1 0 ∷ []) (Fire (Slot 0 ∷ [])) ∷ [])
    p (record { levels = 0; instructions = [] })

repeats_before : done repeats (after_edges (increments 3 1) repeats tags 12) ≡ true ∷ true ∷ false ∷ []
unfolding past_ends
repeats_before = after_run (done repeats) (increments 3 1) repeats 12 _ refl

repeats_done : done repeats (after_edges (increments 3 1) repeats tags 13) ≡ true ∷ true ∷ true ∷ []
unfolding past_ends
repeats_done = after_run (done repeats) (increments 3 1) repeats 13 _ refl

-- for i < 3 s[i] = s[i - 1] + x[i]: the assignment is the reader and the writer of channel 0
-- source F1 P2 F3 P4 F5 P6, assignment G3 F4 P5 P6 G7 G8 F9 P10 P11 G12 G13 F14 P15, sink G7 F8 G12 F13 G16 F17

sums_at_ten : places (after_edges sums (counters sums) tags 10) ≡ 6 ∷ 8 ∷ 2 ∷ []
unfolding past_ends
sums_at_ten = after_run places sums (counters sums) 10 _ refl

sums_before : done (counters sums) (after_edges sums (counters sums) tags 16) ≡ true ∷ true ∷ false ∷ []
unfolding past_ends
sums_before = after_run (done (counters sums)) sums (counters sums) 16 _ refl

sums_done : done (counters sums) (after_edges sums (counters sums) tags 17) ≡ true ∷ true ∷ true ∷ []
unfolding past_ends
sums_done = after_run (done (counters sums)) sums (counters sums) 17 _ refl

-- for j < 2 for i < 2 b[j][i] = a[i][j]: the nodes are done at the edges 8, 14 and 16
-- source F1 P2 F3 P4 F5 P6 F7 P8, assignment G3 F4 P5 G6 G7 F8 P9 F10 P11 G12 F13 P14,
-- sink G6 F7 G10 F11 G12 F13 G15 F16

corner_at_seven : done (counters corner) (after_edges corner (counters corner) tags 7) ≡ false ∷ false ∷ false ∷ []
unfolding past_ends
corner_at_seven = after_run (done (counters corner)) corner (counters corner) 7 _ refl

corner_at_eight : done (counters corner) (after_edges corner (counters corner) tags 8) ≡ true ∷ false ∷ false ∷ []
unfolding past_ends
corner_at_eight = after_run (done (counters corner)) corner (counters corner) 8 _ refl

corner_at_thirteen : done (counters corner) (after_edges corner (counters corner) tags 13) ≡ true ∷ false ∷ false ∷ []
unfolding past_ends
corner_at_thirteen = after_run (done (counters corner)) corner (counters corner) 13 _ refl

corner_at_fourteen : done (counters corner) (after_edges corner (counters corner) tags 14) ≡ true ∷ true ∷ false ∷ []
unfolding past_ends
corner_at_fourteen = after_run (done (counters corner)) corner (counters corner) 14 _ refl

corner_at_fifteen : done (counters corner) (after_edges corner (counters corner) tags 15) ≡ true ∷ true ∷ false ∷ []
unfolding past_ends
corner_at_fifteen = after_run (done (counters corner)) corner (counters corner) 15 _ refl

corner_at_sixteen : done (counters corner) (after_edges corner (counters corner) tags 16) ≡ true ∷ true ∷ true ∷ []
unfolding past_ends
corner_at_sixteen = after_run (done (counters corner)) corner (counters corner) 16 _ refl
