-- The text of a network's least capacities.
use Rattle.std.specs.Prelude.{ℕ, List, [], ◌∷◌, ◌++◌, codes, decimal, map, slice_index_or}
use Rattle.std.specs.List.{enumerate_from, flat_map}
use Rattle.text_out.specs.Words.{line_text}

-- channel c with its capacity, and the position of each process where the network sticks with one place less there
abbrev pub channel_line : ℕ → ℕ → List ℕ → List ℕ
channel_line c capacity positions = line_text (
    codes "channel" ∷ decimal c ∷ codes "capacity" ∷ decimal capacity
    ∷ codes "rest" ∷ map decimal positions)

-- a line for each of these capacities, the first being that of channel 0
abbrev pub channel_lines : List ℕ → List (List ℕ) → List ℕ
channel_lines capacities rests =
    flat_map (λ numbered. channel_line numbered.0 numbered.1 (slice_index_or rests numbered.0 []))
    (enumerate_from 0 capacities)

-- the version of the text, and the channels
abbrev pub trim_text : List ℕ → List (List ℕ) → List ℕ
trim_text capacities rests =
    line_text (codes "trim" ∷ codes "1" ∷ [])
    ++ (channel_lines capacities rests ++ line_text (codes "end" ∷ []))
