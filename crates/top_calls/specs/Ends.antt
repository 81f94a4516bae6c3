-- How a call of the program on devices in memory ends.
use Rattle.std.specs.Prelude.{◌≡◌, ◌<◌, ◌≤◌, ℕ, List, [], ◌∷◌, Some, codes}
use Rattle.command_line.specs.Words.{order_of}
use Rattle.call_endings.specs.Changes.{Change}
use Rattle.compaan_top.specs.Calls.{IsCallOf}
use Rattle.io_edge.specs.InMemory.{SinkState}

-- what a call did to a sink that was empty and without a fault before it
abbrev pub change_of_sink : SinkState → Change
change_of_sink sink = record {
  old = Some [];
  new = Some sink.held;
  faults_old = 0;
  faults_new = sink.faults;
}

-- a call of the program with these words, and a source of these bytes, ended with this number and left these two sinks
pub record IsEnd (words : List (List ℕ)) (bundle : List ℕ) (number : ℕ)
    (output complaint : SinkState) : Type 0 where
  pub input : Change
  pub bundle_is : input.old ≡ Some bundle
  pub call :
      IsCallOf (order_of words) input (change_of_sink output) (change_of_sink complaint) number

-- such a call ended with this number, and its two sinks hold this
pub record EndsWith (words : List (List ℕ)) (bundle : List ℕ) (number : ℕ)
    (output complaint : List ℕ) : Type 0 where
  pub output_sink : SinkState
  pub complaint_sink : SinkState
  pub end : IsEnd words bundle number output_sink complaint_sink
  pub output_is : output_sink.held ≡ output
  pub complaint_is : complaint_sink.held ≡ complaint

-- such a call ended with this number and wrote this text: to the output with the numbers 0 and 1, and else to the complaint sink
abbrev pub Says : List (List ℕ) → List ℕ → ℕ → List ℕ → Type 0
Says words bundle number text =
    (number < 2 → EndsWith words bundle number text [])
    × (2 ≤ number → EndsWith words bundle number [] text)

-- calls of `run` and of `seq` with these values of parameters ended with this number and wrote this text
abbrev pub BothSay : List (List ℕ) → List ℕ → ℕ → List ℕ → Type 0
BothSay params bundle number text =
    Says (codes "run" ∷ params) bundle number text × Says (codes "seq" ∷ params) bundle number text
