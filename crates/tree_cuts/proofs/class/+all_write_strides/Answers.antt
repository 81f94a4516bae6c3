-- Of the statements that are left each that writes the array is asked, and what is told of them is told of the writes
-- from their number on: a statement that does not write it adds no write, and one that does adds the first, whose
-- strides are taken off those that are left. It's told for every first number, since the class does not depend on the
-- numbers.
use Rattle.std.proofs.Common.{◌≡◌, ◌∷◌, ◌+◌, ◌-◌, ◌<◌, ℕ, [], true, false, sym, ap, ◌∙◌, rules, arith}
use Rattle.std.specs.Prelude.{nat_le}
use Rattle.std.proofs.lemmas.Bool.{eq-eqb, le-leb}
use Rattle.std.proofs.lemmas.List.{nil_from_length}
use Rattle.source_tree.specs.Systems.{writes_from, Occurrence}
use Rattle.tree_cuts.specs.Class.{stride_count, writes_strides}
use Rattle.tree_cuts.proofs.ReadClass.{fails_first, fails_many, passes, passes_first, passes_none, passes_some}
use Rattle.tree_cuts.proofs.ReadClass.{writes_elsewhere, writes_here, writes_nothing}
use Rattle.tree_cuts.proofs.class.+all_write_strides.Goals as goal

pub returns-in_default : goal.returns-in_default
returns-in_default t c u =
    let none : c.args.statements.now ≡ [] = nil_from_length c.args.statements.now c.in_default.ensures.cases in
    sym (ap (λ statements. passes c.args.left (writes_from c.args.array u statements)) none
    ∙ le-leb 0 c.args.left (omega arith))

pub returns-in_default-write : goal.returns-in_default-write
returns-in_default-write t c u =
    let s = c.in-Some.statement.now in
    let statements = c.in-Some.statements.now in
    let first : c.args.statements.now ≡ s ∷ statements = search rules in
    c.all_write_strides.ensures (u + 1)
    ∙ sym (ap (λ statements. passes c.args.left (writes_from c.args.array u statements)) first
    ∙ passes_none c.args.left c.args.array u s statements (writes_nothing c.args.array u s (search rules)))

pub returns-then-access-array : goal.returns-then-access-array
returns-then-access-array t c u =
    let s = c.in-Some.statement.now in
    let statements = c.in-Some.statements.now in
    let access = c.in-Some-write.access in
    let first : c.args.statements.now ≡ s ∷ statements = search rules in
    c.all_write_strides-then-access-array.ensures (u + 1)
    ∙ sym (ap (λ statements. passes c.args.left (writes_from c.args.array u statements)) first
    ∙ passes_none c.args.left c.args.array u s statements
    (writes_elsewhere c.args.array u s access c.in-Some-write.is (search rules)))

pub returns-then-not-writes_strides : goal.returns-then-not-writes_strides
returns-then-not-writes_strides t c u =
    let s = c.in-Some.statement.now in
    let statements = c.in-Some.statements.now in
    let access = c.in-Some-write.access in
    let first : c.args.statements.now ≡ s ∷ statements = search rules in
    let own : Occurrence = record { number = u; statement = s; access = access } in
    let not : writes_strides own ≡ false = sym (c.writes_strides.ensures u) ∙ (search rules) in
    sym (ap (λ statements. passes c.args.left (writes_from c.args.array u statements)) first
    ∙ passes_some c.args.left c.args.array u s statements own (writes_here c.args.array u s access c.in-Some-write.is
    (eq-eqb access.array c.args.array (omega (arith, c.if-access-array.false))))
    ∙ fails_first c.args.left own (writes_from c.args.array (u + 1) statements) not)

pub returns : goal.returns
returns t c u =
    let s = c.in-Some.statement.now in
    let statements = c.in-Some.statements.now in
    let access = c.in-Some-write.access in
    let first : c.args.statements.now ≡ s ∷ statements = search rules in
    let own : Occurrence = record { number = u; statement = s; access = access } in
    let is : writes_strides own ≡ true = sym (c.writes_strides.ensures u) ∙ (search rules) in
    let strides : ℕ = c.stride_count-strides.result in
    let count : stride_count own ≡ strides = search rules in
    let even : stride_count own + (c.args.left - strides) ≡ c.args.left =
    omega (arith, count, c.if-strides-left.false) in
    c.all_write_strides-2.ensures (u + 1)
    ∙ sym (ap (λ statements. passes c.args.left (writes_from c.args.array u statements)) first
    ∙ passes_some c.args.left c.args.array u s statements own (writes_here c.args.array u s access c.in-Some-write.is
    (eq-eqb access.array c.args.array (omega (arith, c.if-access-array.false))))
    ∙ passes_first c.args.left own (writes_from c.args.array (u + 1) statements) (c.args.left - strides) is even)

pub returns-then-strides-left : goal.returns-then-strides-left
returns-then-strides-left t c u =
    let s = c.in-Some.statement.now in
    let statements = c.in-Some.statements.now in
    let access = c.in-Some-write.access in
    let first : c.args.statements.now ≡ s ∷ statements = search rules in
    let own : Occurrence = record { number = u; statement = s; access = access } in
    let count : stride_count own ≡ c.stride_count-strides.result = search rules in
    sym (ap (λ statements. passes c.args.left (writes_from c.args.array u statements)) first
    ∙ passes_some c.args.left c.args.array u s statements own (writes_here c.args.array u s access c.in-Some-write.is
    (eq-eqb access.array c.args.array (omega (arith, c.if-access-array.false))))
    ∙ fails_many c.args.left own (writes_from c.args.array (u + 1) statements)
    (past (stride_count own) c.args.left (omega (arith, count, c.if-strides-left.true)))) where
      past : (a left : ℕ) → left < a → nat_le a left ≡ false
      past a left lt = grind arith
