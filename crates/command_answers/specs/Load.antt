-- What the command `load` comes to: one case for each cause, in the order in which they decide.
use Rattle.std.specs.Prelude.{◌≡◌, ◌≤◌, ◌<◌, ℕ, ℤ, List, [], length, slice_index_or, Result, Ok, Err}
use Rattle.loop_walk.specs.Counting.{counted}
use Rattle.loop_walk.specs.declared.count.SizeError.{SizeError}
use Rattle.matrix_load.specs.Cells.{matrix_inputs}
use Rattle.matrix_load.specs.Product.{IsMatrixNest}
use Rattle.matrix_load.specs.Summary.{summary_text, wrapping_sum}
use Rattle.net_core.specs.declared.network.Network.{Network}
use Rattle.net_text.specs.NetworkText.{event_count}
use Rattle.sanlp.specs.Meaning.{arrays}
use Rattle.sanlp.specs.Trace.{trace}
use Rattle.sanlp.specs.declared.nest.Inputs.{Inputs}
use Rattle.sanlp.specs.declared.nest.Nest.{Nest}
use Rattle.witness_plan.specs.Schedules.{planned_network}
use Rattle.witness_plan.specs.declared.schedules.Policy.{Policy}
use Rattle.command_answers.specs.Refusals.{size_refusal, too_many_rows}
use Rattle.command_answers.specs.Replies.{Reply, done}
use Rattle.command_answers.specs.declared.refusal.Refusal.{Refusal}

-- the most rows that the matrices may have, as a parameter may
abbrev pub load_limit : ℕ
load_limit = 2_147_483_647

-- the cells of the product, which is the third array
abbrev pub product_cells : List (List ℤ) → List ℤ
product_cells lists = slice_index_or lists 2 []

-- the summary of a run of this network of a nest
abbrev pub run_summary : Network → Nest → Inputs → List ℕ
run_summary network nest inputs =
    summary_text (length (trace nest)) (length network.channels) (event_count network)
    (wrapping_sum (product_cells (arrays nest inputs)))

-- There are too many rows, the nest is too large, or its network is run and the summary written.
pub data Loads (policy : Policy) (rows : ℕ) : Result Reply Refusal → Type 0 where
  too_large : load_limit < rows → Loads policy rows (Err too_many_rows)
  size_refused : (nest : Nest) (error : SizeError) → rows ≤ load_limit → IsMatrixNest rows nest
      → counted nest ≡ Err error
      → Loads policy rows (Err (size_refusal error))
  summed : (nest : Nest) (total : ℕ) (inputs : Inputs) → rows ≤ load_limit → IsMatrixNest rows nest
      → counted nest ≡ Ok total
      → inputs.arrays ≡ matrix_inputs rows
      → Loads policy rows (Ok (done (run_summary (planned_network nest policy) nest inputs)))
