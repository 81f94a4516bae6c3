-- Designs of small networks whose ports go each at its own pace, edge by edge, computed from the definitions.
--
-- The numbers are those of the clocked runs of the ports, which were counted by hand. Above the rows of a network
-- stands at which edges each process makes its Gets (G), Fires (F) and Puts (P). Written out, an edge asks the one
-- before it for the same registers again and again, so here they are kept in lists, which changes nothing
-- (ListedRuns). They are examples: no law follows from them.
use Rattle.std.proofs.Common.{◌≡◌, ℕ, true, List, [], ◌∷◌, map, length, slice_get, refl}
use Rattle.std.proofs.Common.{sym, ap, ◌∙◌, arith}
use Rattle.std.specs.List.{range_with_len}
use mathlib.Core.Path.{fun_ext}
use Rattle.sanlp.specs.declared.nest.Tag.{Tag}
use Rattle.net_core.specs.Machine.{Net}
use Rattle.net_core.specs.Rules.{tags}
use Rattle.net_core.proofs.SmallNetworks.{increments, sums}
use Rattle.repeat_sequencer.specs.Steps.{past_ends}
use Rattle.design_clocks.specs.Plain.{plain}
use Rattle.design_clocks.proofs.ListedRuns.{listed_from, listed_or, listed_run, listed_run_is}
use Rattle.port_items.specs.Items.{fire_items, port_gets, put_items}
use Rattle.port_design.specs.Registers.{Controls, Design, Node, Port, after_edges, behind_reset, edge}

-- Registers in lists

abbrev in_lists : List (Node Tag) → List Port → List Port → List (List Tag) → Design Tag → Design Tag
in_lists nodes getters putters fifos d = record {
  node = λ p. listed_or (slice_get nodes p) d.node p;
  getter = λ c. listed_or (slice_get getters c) d.getter c;
  putter = λ c. listed_or (slice_get putters c) d.putter c;
  fifo = λ c. listed_or (slice_get fifos c) d.fifo c;
}

abbrev listed : Net → Design Tag → Design Tag
listed n d =
    in_lists (map d.node (range_with_len 0 n.processes)) (map d.getter (range_with_len 0 n.channels))
    (map d.putter (range_with_len 0 n.channels)) (map d.fifo (range_with_len 0 n.channels)) d

listed_is : (n : Net) (d : Design Tag) → listed n d ≡ d
listed_is n d =
    let nodes = fun_ext (λ p. listed_from d.node n.processes 0 p p (omega arith)) in
    let getters = fun_ext (λ c. listed_from d.getter n.channels 0 c c (omega arith)) in
    let putters = fun_ext (λ c. listed_from d.putter n.channels 0 c c (omega arith)) in
    let fifos = fun_ext (λ c. listed_from d.fifo n.channels 0 c c (omega arith)) in
    λ i. record { node = nodes i; getter = getters i; putter = putters i; fifo = fifos i }

abbrev run : Net → Controls → ℕ → Design Tag
run n controls k = listed_run (listed n) (behind_reset n controls) (edge n controls tags (λ p. true)) k

after_run : {X : Type 0} (f : Design Tag → X) (n : Net) (controls : Controls) (k : ℕ) (x : X)
    → f (run n controls k) ≡ x
    → f (after_edges n controls tags k) ≡ x
after_run f n controls k x e =
    ap f (sym (listed_run_is (listed n) (behind_reset n controls) (edge n controls tags (λ p. true)) (listed_is n)
    (λ j. after_edges n controls tags j) refl (λ j. refl) k))
    ∙ e

-- What is looked at

-- a counter over the items of each port
abbrev counters : Net → Controls
counters n = record {
  fires = λ p. plain (fire_items (n.script p));
  gets = λ c. plain (port_gets c (n.script (n.reader c)));
  puts = λ c. plain (put_items c (n.script (n.writer c)));
}

-- how often each process has fired
abbrev turns : Net → Design Tag → List ℕ
turns n d = map (λ p. (d.node p).turn) (range_with_len 0 n.processes)

-- how many tokens each channel holds
abbrev held : Net → Design Tag → List ℕ
held n d = map (λ c. length (d.fifo c)) (range_with_len 0 n.channels)

-- Three turns with three places: after the first each process fires at every edge.
-- source F1 F2 F3, P2 P3 P4; assignment G3 G4 G5, F4 F5 F6, P5 P6 P7; sink G6 G7 G8, F7 F8 F9

fires_at_five : turns (increments 3 3) (after_edges (increments 3 3) (counters (increments 3 3)) tags 5) ≡ 3 ∷ 2 ∷ 0 ∷ []
unfolding past_ends
fires_at_five = after_run (turns (increments 3 3)) (increments 3 3) (counters (increments 3 3)) 5 _ refl

held_at_five : held (increments 3 3) (after_edges (increments 3 3) (counters (increments 3 3)) tags 5) ≡ 0 ∷ 1 ∷ []
unfolding past_ends
held_at_five = after_run (held (increments 3 3)) (increments 3 3) (counters (increments 3 3)) 5 _ refl

fires_at_eight : turns (increments 3 3) (after_edges (increments 3 3) (counters (increments 3 3)) tags 8) ≡ 3 ∷ 3 ∷ 2 ∷ []
unfolding past_ends
fires_at_eight = after_run (turns (increments 3 3)) (increments 3 3) (counters (increments 3 3)) 8 _ refl

fires_at_nine : turns (increments 3 3) (after_edges (increments 3 3) (counters (increments 3 3)) tags 9) ≡ 3 ∷ 3 ∷ 3 ∷ []
unfolding past_ends
fires_at_nine = after_run (turns (increments 3 3)) (increments 3 3) (counters (increments 3 3)) 9 _ refl

-- for i < 3 s[i] = s[i - 1] + x[i]: the assignment is the reader and the writer of channel 0, whose Get port begins behind a Fire
-- source F1 P2 F2 P3 F3 P4, assignment G3 F4 G4 P5 P5 G6 F7 G7 P8 P8 G9 F10 P11, sink G6 F7 G9 F10 G12 F13

sums_at_seven : turns sums (after_edges sums (counters sums) tags 7) ≡ 3 ∷ 2 ∷ 1 ∷ []
unfolding past_ends
sums_at_seven = after_run (turns sums) sums (counters sums) 7 _ refl

sums_at_twelve : turns sums (after_edges sums (counters sums) tags 12) ≡ 3 ∷ 3 ∷ 2 ∷ []
unfolding past_ends
sums_at_twelve = after_run (turns sums) sums (counters sums) 12 _ refl

sums_at_thirteen : turns sums (after_edges sums (counters sums) tags 13) ≡ 3 ∷ 3 ∷ 3 ∷ []
unfolding past_ends
sums_at_thirteen = after_run (turns sums) sums (counters sums) 13 _ refl
