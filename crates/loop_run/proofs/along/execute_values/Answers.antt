use Rattle.std.proofs.Common.{rules, ◌≡◌, ◌+◌, ℕ, ℤ, pos, ◌+ℤ◌, ◌≤ℤ◌, ◌<ℤ◌, length, take, ap, ◌∙◌, sym, subst, to_z}
use Rattle.std.proofs.Common.{List, of_z, arith, FitsSigned, length-append}
use Rattle.std.specs.Prelude.{IsTrue, true}
use Rattle.std.specs.List.{list_all}
use Rattle.std.specs.Option.{option_map_or}
use Rattle.std.specs.Int.{w64}
use Rattle.std.proofs.Math.Seq.{take-append_seam}
use Rattle.std.proofs.lemmas.Int.{ints, to_z-of_z}
use Rattle.sanlp.specs.Loops.{interval}
use Rattle.sanlp.specs.Meaning.{Action, execute, turns}
use Rattle.sanlp.specs.Memory.{Memory}
use Rattle.loop_run.specs.CellMemory.{memory_of}
use Rattle.cell_rows.specs.declared.narrow_access.NarrowStatement.{NarrowStatement}
use Rattle.cell_rows.specs.ShortAccesses.{access_short, statement_short}
use Rattle.loop_run.proofs.RunLemmas.{turn_done, turns_done}
use Rattle.cell_rows.proofs.NarrowStatements.{narrow_of}
use Rattle.cell_rows.proofs.ShortStatements.{short_reads, short_statement, short_write}
use Rattle.loop_run.proofs.StatementPlaces.{depth_is}
use Rattle.loop_run.proofs.along.execute_values.Goals as goal

pub lines_along-lines-requires-clause-reads_fit : goal.lines_along-lines-requires-clause-reads_fit
lines_along-lines-requires-clause-reads_fit c =
    let n = c.args.nest.now in
    let s = c.statement-statement.result.now in
    let same =
    narrow_of n.statements c.args.accesses.now c.args.number s c.index-accesses-number.result c.requires.same
    c.statement-statement.ensures.value c.index-accesses-number.is in
    let short =
    subst (λ (depth : ℕ). IsTrue (statement_short depth s))
    (depth_is n.statements
    (length c.args.at.now + 1) c.args.number s c.requires.depth c.statement-statement.ensures.value)
    (short_statement n.arrays n.well_formed.few_extents s c.statement-statement.ensures.fits) in
    ap (λ (outer : List ℤ). list_all (access_short (length outer + 1)) c.index-accesses-number.result.reads)
    c.as_slice.ensures.value
    ∙ ap (λ (accesses : NarrowStatement). list_all (access_short (length c.args.at.now + 1)) accesses.reads) same
    ∙ short_reads (length c.args.at.now + 1) s short

pub lines_along-lines-requires-clause-write_fits : goal.lines_along-lines-requires-clause-write_fits
lines_along-lines-requires-clause-write_fits c =
    let n = c.args.nest.now in
    let s = c.statement-statement.result.now in
    let same =
    narrow_of n.statements c.args.accesses.now c.args.number s c.index-accesses-number.result c.requires.same
    c.statement-statement.ensures.value c.index-accesses-number.is in
    let short =
    subst (λ (depth : ℕ). IsTrue (statement_short depth s))
    (depth_is n.statements
    (length c.args.at.now + 1) c.args.number s c.requires.depth c.statement-statement.ensures.value)
    (short_statement n.arrays n.well_formed.few_extents s c.statement-statement.ensures.fits) in
    ap (λ (outer : List ℤ).
    option_map_or (access_short (length outer + 1)) c.index-accesses-number.result.write true) c.as_slice.ensures.value
    ∙ ap (λ (accesses : NarrowStatement).
    option_map_or (access_short (length c.args.at.now + 1)) accesses.write true) same
    ∙ short_write (length c.args.at.now + 1) s short

pub execute_value-requires-clause-short : goal.execute_value-requires-clause-short
execute_value-requires-clause-short c =
    let n = c.args.nest.now in
    let s = c.statement-statement.result.now in
    subst (λ (depth : ℕ). IsTrue (statement_short depth s))
    (depth_is n.statements
    (length c.args.at.now + 1) c.args.number s c.requires.depth c.statement-statement.ensures.value)
    (short_statement n.arrays n.well_formed.few_extents s c.statement-statement.ensures.fits)

pub execute_value-requires-clause-same : goal.execute_value-requires-clause-same
execute_value-requires-clause-same c =
    let n = c.args.nest.now in
    let s = c.statement-statement.result.now in
    narrow_of n.statements c.args.accesses.now c.args.number s c.index-accesses-number.result c.requires.same
    c.statement-statement.ensures.value c.index-accesses-number.is

pub loop-value-preserved : goal.loop-value-preserved
loop-value-preserved c =
    let value : ℤ = to_z w64 c.loop-value.value-bits in
    let last : ℤ = to_z w64 (of_z w64 c.args.last) in
    let le : to_z w64 c.loop-value.value-bits ≤ℤ to_z w64 (of_z w64 c.args.last) = search rules in
    let next : to_z w64 (of_z w64 (to_z w64 c.loop-value.value-bits +ℤ pos 1))
    ≡ to_z w64 c.loop-value.value-bits +ℤ pos 1 = omega (arith, ints) in
    let body : Action =
    λ at m. execute c.args.nest.now c.args.inputs.now m (record { statement = c.args.number; at = at }) in
    let all : Memory =
    turns body (interval (to_z w64 (of_z w64 c.args.first)) last) c.args.at.now (memory_of c.args.cells.now) in
    let more =
    turn_done body value last c.args.at.now (memory_of c.loop-value.cells) all
    (memory_of c.execute_value.new.cells) le c.in_ok-execute_value.ensures.memory c.loop-value.invariant.memory in
    let inner = c.in_ok-execute_value.ensures.inner in
    record {
      memory =
          subst (λ v. turns body (interval v last) c.args.at.now (memory_of c.execute_value.new.cells) ≡ all)
          (sym next) more;
      from = omega (arith, ints);
      lines = c.in_ok-execute_value.ensures.lines;
      deeper = ap length inner ∙ length-append c.args.at.now _;
      outer = ap (take (length c.args.at.now)) inner ∙ take-append_seam c.args.at.now _;
    }

pub returns : goal.returns
returns c =
    let f : FitsSigned w64 c.args.first = c.ranges.first in
    let g : FitsSigned w64 c.args.last = c.ranges.last in
    let lt : to_z w64 (of_z w64 c.args.last) <ℤ to_z w64 c.loop-value.value-bits = search rules in
    let last : ℤ = to_z w64 (of_z w64 c.args.last) in
    let body : Action =
    λ at m. execute c.args.nest.now c.args.inputs.now m (record { statement = c.args.number; at = at }) in
    let all : Memory =
    turns body (interval (to_z w64 (of_z w64 c.args.first)) last) c.args.at.now (memory_of c.args.cells.now) in
    let done : memory_of c.loop-value.cells ≡ all =
    turns_done body _ last c.args.at.now (memory_of c.loop-value.cells) all lt c.loop-value.invariant.memory in
    simp to_z-of_z at done

pub returns-in_ok-execute_value : goal.returns-in_ok-execute_value
returns-in_ok-execute_value c =
    let f : FitsSigned w64 c.args.first = c.ranges.first in
    let g : FitsSigned w64 c.args.last = c.ranges.last in
    let value : ℤ = to_z w64 c.loop-value.value-bits in
    let last : ℤ = to_z w64 (of_z w64 c.args.last) in
    let le : to_z w64 c.loop-value.value-bits ≤ℤ to_z w64 (of_z w64 c.args.last) = search rules in
    let past : to_z w64 (of_z w64 c.args.last) <ℤ (to_z w64 c.loop-value.value-bits +ℤ pos 1) = omega (arith, ints) in
    let body : Action =
    λ at m. execute c.args.nest.now c.args.inputs.now m (record { statement = c.args.number; at = at }) in
    let all : Memory =
    turns body (interval (to_z w64 (of_z w64 c.args.first)) last) c.args.at.now (memory_of c.args.cells.now) in
    let more =
    turn_done body value last c.args.at.now (memory_of c.loop-value.cells) all
    (memory_of c.execute_value.new.cells) le c.in_ok-execute_value.ensures.memory c.loop-value.invariant.memory in
    let done : memory_of c.execute_value.new.cells ≡ all =
    turns_done body (value +ℤ pos 1) last c.args.at.now (memory_of c.execute_value.new.cells) all past more in
    simp to_z-of_z at done
