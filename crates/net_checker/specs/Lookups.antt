-- What a table of sources says of the references of a fire.
use Rattle.std.specs.Prelude.{ℕ, Option, Some, None, List, slice_get, ℤ, ◌+◌}
use Rattle.std.specs.Option.{option_and_then}
use Rattle.sanlp.specs.declared.nest.Tag.{Tag}
use Rattle.net_core.specs.declared.refs.Ref.{Ref}
use Rattle.net_core.specs.Names.{name_of}
use Rattle.net_checker.specs.declared.verdict.Refusal.{Refusal}
use Rattle.net_checker.specs.Entries.{name_refusal}

-- the source of a read at a turn, or none where the table has no such entry
abbrev pub source_in : List (List (Option Tag)) → ℕ → ℕ → Option Tag
source_in table read turn =
    option_and_then (λ source. source)
    (option_and_then (λ turns. slice_get turns turn) (slice_get table read))

-- why reference j of a fire of this turn is refused at entry i, by a table in which the first read has this number
abbrev pub refused_reference : List (List (List ℤ)) → List (List (Option Tag)) → ℕ → ℕ
    → List (Option Tag) → ℕ → ℕ → Option Ref → Option Refusal
refused_reference points table read turn slots i j None = None
refused_reference points table read turn slots i j (Some r) =
    name_refusal points i (name_of slots r) (source_in table (read + j) turn)
