-- The design of a network beside its clocked run.
use Rattle.std.specs.Prelude.{◌≡◌, ◌≤◌, ◌↔◌, ℕ, zero, suc, ◌-◌, ℤ, Bool, true, false, Some, None, List, length, slice_get}
use Rattle.sanlp.specs.declared.nest.Nest.{Nest}
use Rattle.sanlp.specs.WellFormed.{output_numbers}
use Rattle.net_core.specs.declared.refs.Ref.{Ref}
use Rattle.net_core.specs.declared.refs.Ref.TheVariants.{Slot}
use Rattle.net_core.specs.declared.network.Event.{Event}
use Rattle.net_core.specs.declared.network.Event.TheVariants.{Fire}
use Rattle.net_core.specs.Machine.{Net, Rule, Local, State, front, last_of}
use Rattle.net_core.specs.Sound.{sink_lists_from}
use Rattle.repeat_sequencer.specs.declared.sequencer.Sequencer.{Sequencer}
use Rattle.repeat_sequencer.specs.Steps as sequencer
use Rattle.clock_sim.specs.Clocks.{after_clocks, clocks}
use Rattle.design_clocks.specs.Registers.{Controls, Registers, Design, after_edges, event_at, fires_of, token_for, offers, steps, no_stalls}

-- each sequencer gives from its start its process's script, an event at each step, and then stands at its end
abbrev pub GiveScripts : Net → Controls → Type 0
GiveScripts n controls =
    (p : ℕ) → sequencer.Gives (controls p) (sequencer.step (controls p))
    (sequencer.at_start (controls p)) (n.script p) (sequencer.at_end (controls p))

-- the counters of a sequencer after so many steps
abbrev pub after_steps : Sequencer Event → ℕ → sequencer.State
after_steps control zero = sequencer.at_start control
after_steps control (suc k) = sequencer.step control (after_steps control k)

-- The registers that stand for a process's part of a state: its sequencer has made as many steps as the process has made events,
-- and of all that it fired they have the number and the last.
abbrev pub registers_of : {T : Type 0} → Sequencer Event → Local T → Registers T
registers_of control l = record {
  control = after_steps control l.position;
  slots = l.slots;
  turn = length l.kept;
  fired = front (last_of l.kept);
}

-- the design that stands for a state of the machine
abbrev pub design_of : {T : Type 0} → Controls → State T → Design T
design_of controls s = record {
  node = λ p. registers_of (controls p) (s.local p);
  fifo = s.queue;
}

-- The design does at each edge what the clocked run does at each clock, where no node is held back.
pub record RunsByClock {T : Type 0} (n : Net) (controls : Controls) (rule : Rule T)
    : Type 0 where
  -- after so many edges it stands for the state after so many clocks
  pub design : (k : ℕ)
      → after_edges n controls rule k ≡ design_of controls (after_clocks n rule k)
  -- each node has fired what its process has kept
  pub fires : (k p : ℕ)
      → fires_of n controls rule no_stalls p k ≡ ((after_clocks n rule k).local p).kept
  -- what is offered to a channel is there
  pub defined : (k c : ℕ)
      → offers n (event_at controls (after_edges n controls rule k)) c ≡ true
      → (x : T) × (token_for n (after_edges n controls rule k) c ≡ Some x)

-- The design takes as many clocks as the clocked run, where no node is held back.
pub record TakesClocks {T : Type 0} (n : Net) (controls : Controls) (rule : Rule T)
    : Type 0 where
  -- some node steps at each edge before so many, and none at a later one
  pub stands : (k : ℕ)
      → (clocks n ≤ k) ↔ ((p : ℕ) → steps n controls (after_edges n controls rule k) p ≡ false)
  -- exactly from then on every node is at its script's end
  pub done : (k : ℕ)
      → (clocks n ≤ k) ↔ ((p : ℕ) → event_at controls (after_edges n controls rule k) p ≡ None)
  -- and nothing changes any more
  pub still : (k : ℕ) → clocks n ≤ k
      → after_edges n controls rule k ≡ after_edges n controls rule (clocks n)
  -- at no time does a channel hold more tokens than its capacity
  pub fits : (k c : ℕ) → length ((after_edges n controls rule k).fifo c) ≤ n.capacity c

-- A node that stands at a Fire finds a value in each slot that this reads. So no value is wanted of a slot that was never filled,
-- of which hardware has something undefined.
abbrev pub FiresFindValues : {T : Type 0} → Net → Controls → Rule T → Type 0
FiresFindValues {T} n controls rule =
    (k p read slot : ℕ) (refs : List Ref)
    → event_at controls (after_edges n controls rule k) p ≡ Some (Fire refs)
    → slice_get refs read ≡ Some (Slot slot)
    → (x : T) × (slice_get ((after_edges n controls rule k).node p).slots slot ≡ Some (Some x))

-- what the sinks have fired at the first so many edges, one list for each declared array, empty where it is no output
abbrev pub results_of : Nest → Net → Controls → Rule ℤ → (ℕ → ℕ → Bool) → ℕ → List (List ℤ)
results_of nest n controls rule may k =
    sink_lists_from (λ p. fires_of n controls rule may p k)
    (length nest.statements - length (output_numbers nest.arrays)) nest.arrays
