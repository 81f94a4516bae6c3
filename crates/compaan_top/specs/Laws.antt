-- What follows of the definitions alone.
use Rattle.std.specs.Prelude.{◌≡◌, ◌⊎◌, ◌≤◌, ℕ, true, List, [], ◌∷◌, ◌++◌, length, Option, Some, None, Ok}
use Rattle.bundle.specs.Parts.{certificate_part, data_part, source_part}
use Rattle.command_line.specs.declared.words.Command.{Command}
use Rattle.command_line.specs.declared.words.Command.TheVariants.{Deps, Vhdl}
use Rattle.command_line.specs.declared.words.Order.{Order}
use Rattle.matrix_load.specs.Product.{IsMatrixNest}
use Rattle.sanlp.specs.declared.nest.Inputs.{Inputs}
use Rattle.sanlp.specs.declared.nest.Nest.{Nest}
use Rattle.loop_walk.specs.Counting.{counted}
use Rattle.vhdl_text.specs.Refusal.{first_too_long}
use Rattle.witness_plan.specs.declared.schedules.Policy.{Policy}
use Rattle.call_endings.specs.Changes.{Change, HasFault}
use Rattle.call_endings.specs.Outcomes.{Outcome}
use Rattle.call_endings.specs.Reads.{Reads, source_alone, source_and_data, source_and_certificate, nothing, bundle_limit}
use Rattle.compaan_top.specs.Answers.{Ends}
use Rattle.compaan_top.specs.Commands.{read_by, reads_of}
use Rattle.command_answers.specs.Describing.{planned_automata}
use Rattle.command_answers.specs.Load.{load_limit}
use Rattle.compaan_top.specs.Outcome.{IsOutcome}
use Rattle.command_answers.specs.Run.{IsInputs}
use Rattle.command_answers.specs.Source.{Gives}
use Rattle.command_answers.specs.Statuses.{is_one_of}
use Rattle.compaan_top.specs.DepsOutcomes.{IsSmallWhereSwept}
use Rattle.command_answers.specs.declared.status.Status.{Status}
use Rattle.command_answers.specs.declared.status.Status.TheVariants.{BundleRefused, CertificateRefused, ClassRefused, DataRefused, Done, InputFailed, LimitPassed, NoMemory, OutputFailed, TextRefused, WordsRefused}

-- the order and the bundle determine the status
abbrev pub DetermineStatus : Option Order → List ℕ → Type 0
DetermineStatus wanted bundle = (a b : Outcome) → IsOutcome wanted bundle a
    → IsOutcome wanted bundle b → a.status ≡ b.status

-- the statuses of what a command comes to
abbrev pub command_statuses : Reads → List Status
command_statuses source_alone =
    Done ∷ BundleRefused ∷ TextRefused ∷ ClassRefused ∷ LimitPassed ∷ []
command_statuses source_and_data =
    Done ∷ BundleRefused ∷ TextRefused ∷ ClassRefused ∷ LimitPassed ∷ DataRefused ∷ []
command_statuses source_and_certificate =
    Done ∷ CertificateRefused ∷ BundleRefused ∷ TextRefused ∷ ClassRefused ∷ LimitPassed ∷ []
command_statuses nothing = Done ∷ LimitPassed ∷ []

-- the statuses of outcomes: a failed read, a failed write and want of memory have others
abbrev pub outcome_statuses : Option Order → List Status
outcome_statuses None = WordsRefused ∷ []
outcome_statuses (Some order) = command_statuses (reads_of order.command)

-- each outcome of this order and bundle has one of the statuses that its order may come to
abbrev pub HaveOwnStatuses : Option Order → List ℕ → Type 0
HaveOwnStatuses wanted bundle = (outcome : Outcome) → IsOutcome wanted bundle outcome
    → is_one_of (outcome_statuses wanted) outcome.status ≡ true

-- a failed read has a status where something is read
abbrev pub read_statuses : Reads → List Status
read_statuses source_alone = InputFailed ∷ []
read_statuses source_and_data = InputFailed ∷ []
read_statuses source_and_certificate = InputFailed ∷ []
read_statuses nothing = []

-- the statuses of calls: those of a failed write, of want of memory, of a failed read and of outcomes
abbrev pub call_statuses : Option Order → List Status
call_statuses wanted =
    OutputFailed ∷ NoMemory ∷ (read_statuses (read_by wanted) ++ outcome_statuses wanted)

-- the status is one that a call with this order may have: what the order comes to, a failed write, want of memory, and
-- a failed read where something is read
abbrev pub HasStatusOf : Option Order → Status → Type 0
HasStatusOf wanted status = is_one_of (call_statuses wanted) status ≡ true

-- a call for this order may end with this status, where neither sink had a fault
pub record MayEndWith (wanted : Option Order) (status : Status) : Type 0 where
  pub input : Change
  pub output : Change
  pub complaint : Change
  pub ends : Ends wanted input output complaint status
  pub output_sound : HasFault output → ⊥
  pub complaint_sound : HasFault complaint → ⊥

-- the bundle has what is read of it besides the source: a data part that gives these inputs, or a certificate part
abbrev pub HasParts : Reads → Nest → List ℕ → Inputs → Type 0
HasParts source_alone nest bundle inputs = Unit {0}
HasParts source_and_data nest bundle inputs = IsInputs nest (data_part bundle) (Ok inputs)
HasParts source_and_certificate nest bundle inputs =
    (part : List ℕ) × (certificate_part bundle ≡ Some part)
HasParts nothing nest bundle inputs = Unit {0}

-- The nest that an order is about: that of the bundle's source, and for `load`, which reads nothing, the product of matrices
-- with so many rows.
abbrev pub IsNestFor : Reads → Order → List ℕ → Nest → Type 0
IsNestFor source_alone order bundle nest = Gives (source_part bundle) order.params (Ok nest)
IsNestFor source_and_data order bundle nest = Gives (source_part bundle) order.params (Ok nest)
IsNestFor source_and_certificate order bundle nest =
    Gives (source_part bundle) order.params (Ok nest)
IsNestFor nothing order bundle nest = (order.load ≤ load_limit) × IsMatrixNest order.load nest

-- the nest is within the limit on its size, where the command asks for it: `deps` does where some read has no tree
abbrev pub IsWithinSizeFor : Command → Nest → ℕ → Type 0
IsWithinSizeFor Deps nest total = IsSmallWhereSwept nest total
IsWithinSizeFor command nest total = counted nest ≡ Ok total

-- the nest is within the command's own limit: for `vhdl` no script is too long
abbrev pub IsWithinOwnLimit : Command → Policy → Nest → Type 0
IsWithinOwnLimit Vhdl policy nest = first_too_long (planned_automata policy nest) ≡ None
IsWithinOwnLimit command policy nest = Unit {0}

-- an order and a bundle at which nothing is refused
pub record IsValid (wanted : Option Order) (bundle : List ℕ) : Type 0 where
  pub order : Order
  pub nest : Nest
  pub total : ℕ
  pub inputs : Inputs
  pub ordered : wanted ≡ Some order
  pub within : length bundle ≤ bundle_limit
  pub gives : IsNestFor (reads_of order.command) order bundle nest
  pub counts : IsWithinSizeFor order.command nest total
  pub limited : IsWithinOwnLimit order.command order.policy nest
  pub has : HasParts (reads_of order.command) nest bundle inputs

-- the command was done, or a certificate that it read was refused on the output
abbrev pub IsDone : Reads → Status → Type 0
IsDone source_alone status = status ≡ Done
IsDone source_and_data status = status ≡ Done
IsDone source_and_certificate status = (status ≡ Done) ⊎ (status ≡ CertificateRefused)
IsDone nothing status = status ≡ Done

-- with this order and this bundle the command is done
abbrev pub Succeeds : Option Order → List ℕ → Type 0
Succeeds wanted bundle =
    (valid : IsValid wanted bundle) (outcome : Outcome) → IsOutcome wanted bundle outcome
    → IsDone (reads_of valid.order.command) outcome.status
