-- The tags of the entries of the trace.
use Rattle.std.specs.Prelude.{ℕ, ◌==◌, List, take, count_by, Option, slice_get}
use Rattle.std.specs.Option.{option_map}
use Rattle.sanlp.specs.declared.nest.Point.{Point}
use Rattle.sanlp.specs.declared.nest.Tag.{Tag}

-- the tag of entry t: its process, and how many earlier entries are of that process
abbrev pub tag_at : List Point → ℕ → Option Tag
tag_at points t =
    option_map
    (λ p. record {
      process = p.statement;
      turn = count_by (λ q. q.statement == p.statement)
          (take t points);
    }) (slice_get points t)
