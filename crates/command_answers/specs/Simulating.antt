-- What the command `sim` writes where nothing is refused.
use Rattle.std.specs.Prelude.{ℕ, ℤ, List, [], ◌∷◌, ◌++◌, codes, decimal}
use Rattle.array_data.specs.Answer.{answer_text}
use Rattle.clock_sim.specs.Clocks.{clocks}
use Rattle.net_core.specs.Machine.{net_of}
use Rattle.sanlp.specs.Meaning.{arrays}
use Rattle.sanlp.specs.declared.nest.ArrayDecl.{ArrayDecl}
use Rattle.sanlp.specs.declared.nest.Inputs.{Inputs}
use Rattle.sanlp.specs.declared.nest.Nest.{Nest}
use Rattle.text_out.specs.Words.{line_text}
use Rattle.witness_plan.specs.Schedules.{planned_network}
use Rattle.witness_plan.specs.declared.schedules.Policy.{Policy}

-- the line that tells a number of clocks
abbrev pub clocks_line : ℕ → List ℕ
clocks_line count = line_text (codes "clocks" ∷ decimal count ∷ [])

-- the answer text of these arrays, and a number of clocks after it
abbrev pub clocked_text : List ArrayDecl → List (List ℤ) → ℕ → List ℕ
clocked_text declared lists count = answer_text declared lists ++ clocks_line count

-- what `sim` writes of a nest and its inputs: the arrays after the nest, and the number of clocks of the clocked run of the
-- nest's network, with the capacities that its schedule needs
abbrev pub simulation_text : Policy → Nest → Inputs → List ℕ
simulation_text policy nest inputs =
    clocked_text nest.arrays (arrays nest inputs) (clocks (net_of (planned_network nest policy)))
