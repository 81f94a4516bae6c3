-- The text of a run.
use Rattle.std.specs.Prelude.{ℕ, List, [], ◌∷◌, ◌++◌, codes, decimal}
use Rattle.std.specs.List.{flat_map}
use Rattle.text_out.specs.Words.{line_text}

-- an event of a run: the number of its process
abbrev pub entry_line : ℕ → List ℕ
entry_line process = line_text (decimal process ∷ [])

-- the events of a run in order, between the first line and the last
abbrev pub trace_text : List ℕ → List ℕ
trace_text run =
    line_text (codes "trace" ∷ codes "1" ∷ [])
    ++ (flat_map entry_line run
    ++ line_text (codes "end" ∷ []))
