-- Of the statements that are left each that writes the array is asked, and what is told of them is told of the writes
-- from their number on: a statement that does not write it adds no write, and one that does adds the first. It's told
-- for every first number, since the class does not depend on the numbers.
use Rattle.std.proofs.Common.{◌≡◌, ◌∷◌, ◌+◌, ◌&&◌, [], true, false, sym, ap, ◌∙◌, rules, arith}
use Rattle.std.specs.List.{list_all}
use Rattle.std.proofs.lemmas.Bool.{eq-eqb}
use Rattle.std.proofs.lemmas.List.{nil_from_length}
use Rattle.tree_graphs.specs.Class.{writes_differences}
use Rattle.last_writer.proofs.ReadClass.{differences_none, differences_some}
use Rattle.source_tree.specs.Systems.{writes_from, Occurrence}
use Rattle.last_writer.proofs.class.+all_write_differences.Goals as goal
use Rattle.tree_cuts.proofs.ReadClass.{writes_here, writes_elsewhere, writes_nothing}

pub returns-in_default : goal.returns-in_default
returns-in_default t c u =
    let none : c.args.statements.now ≡ [] = nil_from_length c.args.statements.now c.in_default.ensures.cases in
    sym (ap (λ statements. list_all writes_differences (writes_from c.args.array u statements)) none)

pub returns-in_default-write : goal.returns-in_default-write
returns-in_default-write t c u =
    let s = c.in-Some.statement.now in
    let statements = c.in-Some.statements.now in
    let first : c.args.statements.now ≡ s ∷ statements = search rules in
    c.all_write_differences.ensures (u + 1)
    ∙ sym (ap (λ statements. list_all writes_differences (writes_from c.args.array u statements)) first
    ∙ differences_none c.args.array u s statements (writes_nothing c.args.array u s (search rules)))

pub returns-then-access-array : goal.returns-then-access-array
returns-then-access-array t c u =
    let s = c.in-Some.statement.now in
    let statements = c.in-Some.statements.now in
    let access = c.in-Some-write.access in
    let first : c.args.statements.now ≡ s ∷ statements = search rules in
    c.all_write_differences-then-access-array.ensures (u + 1)
    ∙ sym (ap (λ statements. list_all writes_differences (writes_from c.args.array u statements)) first
    ∙ differences_none c.args.array u s statements
    (writes_elsewhere c.args.array u s access c.in-Some-write.is (search rules)))

pub returns-then-not-writes_differences : goal.returns-then-not-writes_differences
returns-then-not-writes_differences t c u =
    let s = c.in-Some.statement.now in
    let statements = c.in-Some.statements.now in
    let access = c.in-Some-write.access in
    let first : c.args.statements.now ≡ s ∷ statements = search rules in
    let own : Occurrence = record { number = u; statement = s; access = access } in
    let not : writes_differences own ≡ false = sym (c.writes_differences.ensures u) ∙ (search rules) in
    sym (ap (λ statements. list_all writes_differences (writes_from c.args.array u statements)) first
    ∙ differences_some c.args.array u s statements own (writes_here c.args.array u s access c.in-Some-write.is
    (eq-eqb access.array c.args.array (omega (arith, c.if-access-array.false))))
    ∙ ap (λ b. b && list_all writes_differences (writes_from c.args.array (u + 1) statements)) not)

pub returns : goal.returns
returns t c u =
    let s = c.in-Some.statement.now in
    let statements = c.in-Some.statements.now in
    let access = c.in-Some-write.access in
    let first : c.args.statements.now ≡ s ∷ statements = search rules in
    let own : Occurrence = record { number = u; statement = s; access = access } in
    let is : writes_differences own ≡ true = sym (c.writes_differences.ensures u) ∙ (search rules) in
    c.all_write_differences-2.ensures (u + 1)
    ∙ sym (ap (λ statements. list_all writes_differences (writes_from c.args.array u statements)) first
    ∙ differences_some c.args.array u s statements own (writes_here c.args.array u s access c.in-Some-write.is
    (eq-eqb access.array c.args.array (omega (arith, c.if-access-array.false))))
    ∙ ap (λ b. b && list_all writes_differences (writes_from c.args.array (u + 1) statements)) is)
