-- The tokens of a channel, and how its reader uses them. The sources of a read are the tags of its last writers, one for each fire.
use Rattle.std.specs.Prelude.{ℕ, Bool, false, ◌==◌, if◌then◌else◌, Option, Some, None, List, map, count_by}
use Rattle.std.specs.List.{filter, filter_map, list_any, range_with_len}
use Rattle.sanlp.specs.declared.nest.Tag.{Tag}

-- whether a source is a point of process w, and which turn of it
abbrev pub is_from : ℕ → Option Tag → Bool
is_from w None = false
is_from w (Some t) = t.process == w

abbrev pub turn_of : ℕ → Option Tag → Option ℕ
turn_of w None = None
turn_of w (Some t) = if t.process == w then Some t.turn else None

-- the turns of process w among these sources, in their order
abbrev pub turns_used : ℕ → List (Option Tag) → List ℕ
turns_used w sources = filter_map (turn_of w) sources

-- the processes, of so many, of which some source is a point, ascending
abbrev pub writers_of : ℕ → List (Option Tag) → List ℕ
writers_of processes sources =
    filter (λ w. list_any (is_from w) sources) (range_with_len 0 processes)

-- a turn of the writer is a token where some fire of the reader names it
abbrev pub is_used : List ℕ → ℕ → Bool
is_used used turn = list_any (λ other. other == turn) used

-- for each of so many turns of the writer, whether it is a token
abbrev pub tokens_among : ℕ → List ℕ → List Bool
tokens_among turns used = map (is_used used) (range_with_len 0 turns)

-- how many of the first so many turns are tokens: the number of the token of the next turn
abbrev pub tokens_below : List ℕ → ℕ → ℕ
tokens_below used turns = count_by (is_used used) (range_with_len 0 turns)

-- the uses: for each turn that is named, the number of its token
abbrev pub uses_of : List ℕ → List ℕ
uses_of used = map (tokens_below used) used
