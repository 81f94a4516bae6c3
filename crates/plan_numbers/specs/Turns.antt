-- Lists of turns, one for each process, as they grow.
use Rattle.std.specs.Prelude.{ℕ, ◌<◌, List, [], ◌∷◌, ◌++◌, Option, Some, None, slice_set, slice_index_or}
use Rattle.sanlp.specs.declared.nest.Tag.{Tag}

-- a source, if there is one, is of one of so many processes
abbrev pub IsOfOne : ℕ → Option Tag → Type 0
IsOfOne processes None = Unit {0}
IsOfOne processes (Some t) = t.process < processes

-- the lists with the turn that a source is at the end of its process's list
abbrev pub with_turn : List (List ℕ) → Option Tag → List (List ℕ)
with_turn lists None = lists
with_turn lists (Some t) =
    slice_set lists t.process (slice_index_or lists t.process [] ++ t.turn ∷ [])
