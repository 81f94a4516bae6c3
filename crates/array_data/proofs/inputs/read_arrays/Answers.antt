use Rattle.std.proofs.Common.{List, ℤ, length, map, ◌≡◌}
use Rattle.sanlp.specs.Cells.{input_count}
use Rattle.array_data.specs.Data.{records_of}
use Rattle.array_data.specs.Judging.{collected}
use Rattle.array_data.proofs.RecordVerdicts.{collected_are, collected_lengths, gives_if_ok, length-given}
use Rattle.array_data.proofs.inputs.read_arrays.Goals as goal

pub collect-requires : goal.collect-requires
collect-requires c =
    let given = c.in_ok-given.ensures in
    length-given c.args.arrays.now (records_of c.args.bytes.now) c.in_ok-given.given
    (record { no_fault = given.0; after = (given.1, given.2) })

pub returns-clause-exact : goal.returns-clause-exact
returns-clause-exact c =
    let given = c.in_ok-given.ensures in
    rw (collected_are c.args.arrays.now (records_of c.args.bytes.now) c.in_ok-given.given
    (record { no_fault = given.0; after = (given.1, given.2) })) at c.collect.ensures

pub returns-clause-lengths : goal.returns-clause-lengths
returns-clause-lengths c =
    let lengths = collected_lengths 0 c.args.arrays.now c.in_ok-given.given c.in_ok-given.ensures.2 in
    gives_if_ok (λ (lists : List (List ℤ)). map length lists ≡ map input_count c.args.arrays.now) c.collect.result
    (collected 0 c.args.arrays.now c.in_ok-given.given) c.collect.ensures lengths
