-- The hardware of a process: its automaton with a sequencer for its script, and a counter for each loop that its expression
-- names.
use Rattle.std.specs.Prelude.{◌≡◌, ◌+◌, ◌≤◌, ℕ, ℤ, pos, Bool, true, false, ◌==◌, ◌||◌, List, All, length, map, slice_index_or}
use Rattle.std.specs.List.{filter, range_with_len}
use Rattle.std.specs.Int.{w64, int_wrapping_sub}
use Rattle.wrap_expr.specs.declared.expr.Expr.{Expr}
use Rattle.wrap_expr.specs.declared.expr.Expr.TheOpen.{Expr-F, Const, Var, Read, Given, Add, Sub, Mul, Min, Max, Neg}
use Rattle.wrap_expr.specs.declared.expr.Expr.TheFolds.{fold-Expr}
use Rattle.script_blocks.specs.declared.blocks.Blocks.{Blocks}
use Rattle.script_blocks.specs.Expansion.{expansion}
use Rattle.script_blocks.specs.Nesting.{is_proper, nesting}
use Rattle.repeat_sequencer.specs.declared.sequencer.Sequencer.{Sequencer}
use Rattle.repeat_sequencer.specs.Instructions.{sequencer_of}
use Rattle.node_automata.specs.declared.node.NodeAuto.{NodeAuto}
use Rattle.unit_text.specs.declared.unit.LoopCounter.{LoopCounter}
use Rattle.unit_text.specs.declared.unit.Unit.{Unit}

-- whether an expression names the loop of this number
abbrev pub names_step : ℕ → Expr-F Bool → Bool
names_step n (Const c) = false
names_step n (Var v) = v == n
names_step n (Read k) = false
names_step n Given = false
names_step n (Add a b) = a || b
names_step n (Sub a b) = a || b
names_step n (Mul a b) = a || b
names_step n (Min a b) = a || b
names_step n (Max a b) = a || b
names_step n (Neg a) = a

abbrev pub names_loop : ℕ → Expr → Bool
names_loop n = fold-Expr Bool (names_step n)

-- the loops that the expression of an automaton names, ascending
abbrev pub named_loops : NodeAuto → List ℕ
named_loops a = filter (λ n. names_loop n a.expr) (range_with_len 0 a.depth)

-- the values of a loop, point by point
abbrev pub loop_values : ℕ → List (List ℤ) → List ℤ
loop_values n points = map (λ at. slice_index_or at n (pos 0)) points

-- the value at the first point, or 0 where there is no point
abbrev pub first_of : List ℤ → ℤ
first_of values = slice_index_or values 0 (pos 0)

-- what values gain at a place, to the next, or behind the last to the first, with wrapping
abbrev pub gain : List ℤ → ℕ → ℤ
gain values place =
    int_wrapping_sub w64 (slice_index_or values (place + 1) (first_of values))
    (slice_index_or values place (pos 0))

-- what a loop gains at each point, and behind the last to the first again
abbrev pub gains_round : List ℤ → List ℤ
gains_round values = map (gain values) (range_with_len 0 (length values))

-- a sequencer of blocks that stand for this list
pub record IsSequencerOf {T : Type 0} (items : List T) (sequencer : Sequencer T) : Type 0 where
  pub blocks : Blocks T
  pub proper : is_proper blocks ≡ true
  pub shallow : nesting blocks ≤ 31
  pub stands : expansion blocks ≡ items
  pub sequencer_is : sequencer ≡ sequencer_of blocks

-- a counter begins at the loop's value at the first point, and gains at each fire what leads to the next
pub record IsCounterOf (points : List (List ℤ)) (counter : LoopCounter) : Type 0 where
  pub first_is : counter.first ≡ first_of (loop_values counter.number points)
  pub gains_are : IsSequencerOf (gains_round (loop_values counter.number points)) counter.gains

-- the unit of an automaton: a sequencer of its events, and a counter for each loop that its expression names
pub record IsUnitOf (a : NodeAuto) (unit : Unit) : Type 0 where
  pub auto_is : unit.auto ≡ a
  pub control_is : IsSequencerOf a.events unit.control
  pub loops_are : map (λ counter. counter.number) unit.loops ≡ named_loops a
  pub counters_are : All (IsCounterOf a.values) unit.loops
