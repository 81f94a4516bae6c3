-- The sources of reads: the tags of their last writers (Feautrier 1991).
use Rattle.std.specs.Prelude.{◌≡◌, ◌<◌, ℕ, ◌+◌, List, [], ◌∷◌, ◌++◌, map, length, take, Option, Some, slice_get}
use Rattle.std.specs.List.{range_with_len, sum_by}
use Rattle.std.specs.Option.{option_and_then}
use Rattle.sanlp.specs.Access.{read_count}
use Rattle.sanlp.specs.declared.nest.Nest.{Nest}
use Rattle.sanlp.specs.declared.nest.Point.{Point}
use Rattle.sanlp.specs.declared.nest.Statement.{Statement}
use Rattle.sanlp.specs.declared.nest.Tag.{Tag}
use Rattle.sanlp.specs.Laws.{entries_of}
use Rattle.sanlp.specs.Tags.{tag_at}
use Rattle.sanlp.specs.Trace.{trace}
use Rattle.sanlp.specs.Writers.{last_before, last_writer, cell_read}

-- the tag of the last writer of what entry t has as its read k, or none
abbrev pub source_at : Nest → List Point → ℕ → ℕ → Option Tag
source_at n points k t =
    option_and_then (tag_at points)
    (option_and_then (last_before n points t) (cell_read n points t k))

-- for each entry of statement p, in order, the source of its read k
abbrev pub read_sources : Nest → List Point → ℕ → ℕ → List (Option Tag)
read_sources n points p k = map (source_at n points k) (entries_of points p)

-- for each of these statements and each of its reads, in order, the sources; the first statement has number p
abbrev pub sources_from : Nest → List Point → ℕ → List Statement → List (List (Option Tag))
sources_from n points p [] = []
sources_from n points p (s ∷ statements) =
    map (read_sources n points p) (range_with_len 0 (length s.reads))
    ++ sources_from n points (p + 1) statements

-- the exact table: for each statement, each of its reads and each of its entries in the trace, in order, the tag of the
-- last writer of what the entry reads there, or none
unfoldable pub sources_of : Nest → List (List (Option Tag))
sources_of n = sources_from n (trace n) 0 n.statements

-- the number of read k of statement p among all reads: after those of the statements before it
abbrev pub read_number : Nest → ℕ → ℕ → ℕ
read_number n p k = sum_by (λ s. length s.reads) (take p n.statements) + k

-- what a table has for the f-th fire of read k of statement p, if it has anything
abbrev pub entry_of : Nest → List (List (Option Tag)) → ℕ → ℕ → ℕ → Option (Option Tag)
entry_of n table p k f =
    option_and_then (λ sources. slice_get sources f) (slice_get table (read_number n p k))

-- The exact table has for each fire of each read the tag of the last writer, or none.
abbrev pub GivesLastWriters : Nest → Type 0
GivesLastWriters n =
    (p k f t : ℕ) → k < read_count n p → slice_get (entries_of (trace n) p) f ≡ Some t
    → entry_of n (sources_of n) p k f
    ≡ Some (option_and_then (tag_at (trace n)) (last_writer n t k))
