-- No sequencer of a unit is longer than the list that it gives.
--
-- Its instructions are the items of proper blocks that stand for the list, and these are at most as many as they stand for
-- (`repeat_sequencer.proofs.Lengths`). So it is for the control and the script; what a loop gains is one number for each point,
-- and along the counters the greatest stays within the points. How short a sequencer is isn't said: a list may be kept unfolded.
use Rattle.std.proofs.Common.{◌≡◌, ◌≤◌, ◌∙◌, ℕ, suc, ℤ, List, [], ◌∷◌, All, length, map, ap, arith}
use Rattle.std.specs.List.{range_with_len}
use Rattle.std.proofs.lemmas.List.{length-map}
use Rattle.std.proofs.lemmas.List.FromFn.{length-map-range_with_len}
use Rattle.script_blocks.specs.Nesting.{greatest}
use Rattle.repeat_sequencer.specs.declared.sequencer.Sequencer.{Sequencer}
use Rattle.repeat_sequencer.proofs.Lengths.{all_more}
use Rattle.repeat_sequencer.proofs.Sizes.{as_many}
use Rattle.node_automata.specs.declared.node.NodeAuto.{NodeAuto}
use Rattle.unit_text.specs.declared.unit.LoopCounter.{LoopCounter}
use Rattle.unit_text.specs.declared.unit.Unit.{Unit}
use Rattle.unit_text.specs.Limits.{gain_instructions}
use Rattle.unit_text.specs.Units.{IsCounterOf, IsSequencerOf, IsUnitOf, gain, gains_round, loop_values}

within : {T : Type 0} (items : List T) (s : Sequencer T) → IsSequencerOf items s → length s.instructions ≤ length items
within {T} items s is =
    omega (
      arith,
      ap (λ (s : Sequencer T). length s.instructions) is.sequencer_is,
      as_many is.blocks,
      all_more is.blocks is.proper,
      ap length is.stands,
    )

-- as many gains as points
gain_count : (n : ℕ) (points : List (List ℤ)) → length (gains_round (loop_values n points)) ≡ length points
gain_count n points =
    length-map-range_with_len (gain (loop_values n points)) 0 (length (loop_values n points)) ∙ length-map points _

each_within : (points : List (List ℤ)) (loops : List LoopCounter) → All (IsCounterOf points) loops
    → greatest (map gain_instructions loops) ≤ length points
each_within points [] all = omega arith
each_within points (counter ∷ loops) all =
    let first = all 0 counter (omega arith) in
    let here = within (gains_round (loop_values counter.number points)) counter.gains first.gains_are in
    let later = each_within points loops (λ k d lt. all (suc k) d (omega arith)) in
    omega (arith, here, gain_count counter.number points, later)

pub control_within : (auto : NodeAuto) (unit : Unit) → IsUnitOf auto unit
    → length unit.control.instructions ≤ length auto.events
control_within auto unit is = within auto.events unit.control is.control_is

pub loops_within : (auto : NodeAuto) (unit : Unit) → IsUnitOf auto unit
    → greatest (map gain_instructions unit.loops) ≤ length auto.values
loops_within auto unit is = each_within auto.values unit.loops is.counters_are
