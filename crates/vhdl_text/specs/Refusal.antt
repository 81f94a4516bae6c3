-- Which scripts are too long for a node, and what a call that writes the text answers.
use Rattle.std.specs.Prelude.{◌≡◌, ℕ, Bool, nat_lt, Option, List, length, Result, Err, OnOk, OnErr, IfErr}
use Rattle.std.specs.List.{find}
use Rattle.std.specs.Io.KnownBytes.{Appends}
use Rattle.io_edge.specs.Causes.{AppendsFront, Rose}
use Rattle.vhdl_text.specs.declared.error.VhdlError.{VhdlError}
use Rattle.vhdl_text.specs.declared.error.VhdlError.TheVariants.{ScriptTooLong, WriteFault}
use Rattle.node_automata.specs.declared.node.NodeAuto.{NodeAuto}

-- so many events are too many for a node
abbrev pub are_too_many : ℕ → Bool
are_too_many events = nat_lt 65536 events

-- a script has more than 65,536 events
abbrev pub is_too_long : NodeAuto → Bool
is_too_long a = are_too_many (length a.events)

-- the process of an automaton, and the number of its events
abbrev pub process_and_length : NodeAuto → ℕ × ℕ
process_and_length a = (a.process, length a.events)

-- the first automaton whose script is too long
abbrev pub first_too_long : List NodeAuto → Option NodeAuto
first_too_long autos = find is_too_long autos

-- The script of this automaton is too long: that was answered, and nothing was written.
pub record IsRefused (result : Result (Unit {0}) VhdlError) (held_before held_now : Option (List ℕ))
    (faults_before faults_now : ℕ) (a : NodeAuto) : Type 0 where
  pub answer : result ≡ Err (ScriptTooLong a.process (length a.events))
  pub held : held_now ≡ held_before
  pub faults : faults_now ≡ faults_before

-- The whole text was appended, or a front of it and the sink's count rose.
pub record IsWritten (result : Result (Unit {0}) VhdlError) (held_before held_now : Option (List ℕ))
    (faults_before faults_now : ℕ) (text : List ℕ) : Type 0 where
  pub ok : OnOk result (Appends held_before held_now text)
  pub quiet : OnOk result (faults_now ≡ faults_before)
  pub error : IfErr result (λ error. error ≡ WriteFault)
  pub front : OnErr result (AppendsFront held_before held_now text)
  pub cause : OnErr result (Rose faults_before faults_now)
