use Rattle.std.proofs.Common.{◌≡◌, drop}
use Rattle.array_data.specs.Data.{array_named}
use Rattle.std.specs.List.{position_from}
use Rattle.std.specs.Prelude.{◌&&◌, bytes_eq}
use Rattle.sanlp.specs.Cells.{is_input}
use Rattle.array_data.proofs.record.array_named.Given as goal

-- the search goes on from this array
abbrev pub invariant-loop-number : goal.invariant-loop-number
invariant-loop-number l =
    position_from (λ array. is_input array.kind && bytes_eq array.name l.name) l.number (drop l.number l.arrays)
    ≡ array_named l.arrays l.name
