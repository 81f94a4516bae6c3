-- What the commands that run a source on its data come to on a bundle: one case for each cause, in the order in which they
-- decide.
use Rattle.std.specs.Prelude.{◌≡◌, ℕ, ℤ, List, Some, Result, Ok, Err}
use Rattle.bundle.specs.Parts.{source_part, data_part}
use Rattle.sanlp.specs.Meaning.{arrays}
use Rattle.sanlp.specs.declared.nest.Inputs.{Inputs}
use Rattle.sanlp.specs.declared.nest.Nest.{Nest}
use Rattle.array_data.specs.Answer.{answer_text}
use Rattle.array_data.specs.Data.{inputs_of, records_of}
use Rattle.array_data.specs.declared.error.DataError.{DataError}
use Rattle.command_answers.specs.Refusals.{data_refusal}
use Rattle.command_answers.specs.Replies.{Reply, done}
use Rattle.command_answers.specs.Source.{GivesWithinSize}
use Rattle.command_answers.specs.declared.refusal.Refusal.{Refusal}

-- the inputs that the records of a data part give a nest, or why they are refused
abbrev pub IsInputs : Nest → List ℕ → Result Inputs Refusal → Type 0
IsInputs nest bytes (Ok inputs) = inputs_of nest (records_of bytes) ≡ Ok inputs
IsInputs nest bytes (Err refusal) =
    (fault : DataError) × (inputs_of nest (records_of bytes) ≡ Err fault)
    × (data_refusal nest.arrays fault ≡ Some refusal)

-- what `run` and `seq` write of a nest and its inputs: the arrays after the nest
abbrev pub run_text : Nest → Inputs → List ℕ
run_text nest inputs = answer_text nest.arrays (arrays nest inputs)

-- The source gives no nest within the limit, the data part is refused, or the text of the nest and its inputs is written.
pub data Runs (text : Nest → Inputs → List ℕ) (params : List (List ℕ × ℤ))
    (bundle : List ℕ) : Result Reply Refusal → Type 0 where
  source_refused : (refusal : Refusal) → GivesWithinSize (source_part bundle) params (Err refusal)
      → Runs text params bundle (Err refusal)
  data_refused : (nest : Nest) (refusal : Refusal)
      → GivesWithinSize (source_part bundle) params (Ok nest)
      → IsInputs nest (data_part bundle) (Err refusal) → Runs text params bundle (Err refusal)
  answered : (nest : Nest) (inputs : Inputs) → GivesWithinSize (source_part bundle) params (Ok nest)
      → IsInputs nest (data_part bundle) (Ok inputs)
      → Runs text params bundle (Ok (done (text nest inputs)))
