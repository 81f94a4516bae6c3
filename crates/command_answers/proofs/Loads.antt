-- What the command `load` comes to, from what its steps come to.
use Rattle.std.proofs.Common.{◌≡◌, ◌≤◌, ◌<◌, ℕ, ℤ, List, length, Result, Ok, Err, sym, subst}
use Rattle.loop_walk.specs.Counting.{counted}
use Rattle.matrix_load.specs.Cells.{matrix_inputs}
use Rattle.matrix_load.specs.Product.{IsMatrixNest}
use Rattle.matrix_load.specs.Summary.{summary_text, wrapping_sum}
use Rattle.matrix_load.specs.declared.summary.Summary.{Summary}
use Rattle.net_core.specs.declared.network.Network.{Network}
use Rattle.net_text.specs.NetworkText.{event_count}
use Rattle.sanlp.specs.Meaning.{arrays}
use Rattle.sanlp.specs.Trace.{trace}
use Rattle.sanlp.specs.declared.nest.Inputs.{Inputs}
use Rattle.sanlp.specs.declared.nest.Nest.{Nest}
use Rattle.witness_plan.specs.Schedules.{planned_network}
use Rattle.witness_plan.specs.declared.schedules.Policy.{Policy}
use Rattle.command_answers.specs.Judging.{Judges}
use Rattle.command_answers.specs.Load.{Loads, load_limit, product_cells, too_large, size_refused, summed}
use Rattle.command_answers.specs.Replying.{as_reply}
use Rattle.command_answers.specs.Refusals.{too_many_rows}
use Rattle.command_answers.specs.Replies.{done}
use Rattle.command_answers.specs.Steps.{HasSize}
use Rattle.command_answers.specs.declared.answer.Answer.{Answer}
use Rattle.command_answers.specs.declared.refusal.Refusal.{Refusal}
use Rattle.command_answers.specs.declared.refusal.Stop.{Stop}
use Rattle.command_answers.proofs.Stops.{Judges-Err}

abbrev pub JudgesLoad : Policy → ℕ → Result Answer Stop → Type 0
JudgesLoad policy rows result = Judges (λ answer. Loads policy rows (as_reply answer)) result

pub loads_too_many : (policy : Policy) (rows : ℕ) (refusal : Refusal) → load_limit < rows → refusal ≡ too_many_rows
    → Loads policy rows (Err refusal)
loads_too_many policy rows refusal many is =
    subst (λ (r : Refusal). Loads policy rows (Err r)) (sym is) (too_large many)

pub loads_without_size : (policy : Policy) (rows : ℕ) (nest : Nest) (stop : Stop) → rows ≤ load_limit
    → IsMatrixNest rows nest
    → Judges (HasSize nest) (Err stop) → JudgesLoad policy rows (Err stop)
loads_without_size policy rows nest stop few is =
    Judges-Err (HasSize nest) (λ answer. Loads policy rows (as_reply answer)) stop
    (λ refusal step.
    subst (λ (r : Refusal). Loads policy rows (Err r)) (sym step.2) (size_refused nest step.0 few is step.1))

pub loads_summed : (policy : Policy) (rows : ℕ) (nest : Nest) (total : ℕ) (inputs : Inputs) (network : Network)
    (outputs : List (List ℤ)) (summary : Summary)
    → rows ≤ load_limit → IsMatrixNest rows nest → counted nest ≡ Ok total → inputs.arrays ≡ matrix_inputs rows
    → network ≡ planned_network nest policy → outputs ≡ arrays nest inputs
    → summary.points ≡ length (trace nest) → summary.channels ≡ length network.channels
    → summary.events ≡ event_count network
    → summary.sum ≡ wrapping_sum (product_cells outputs)
    → Loads policy rows (Ok (done (summary_text summary.points summary.channels summary.events summary.sum)))
loads_summed policy rows nest total inputs network outputs summary few is counts cells planned computed points channels
    events sum =
    rw (points, channels, events, sum, computed, planned) (summed nest total inputs few is counts cells)
