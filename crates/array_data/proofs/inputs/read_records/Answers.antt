use Rattle.std.proofs.Common.{List, ℕ, Err, Ok, ◌≡◌, ◌∙◌, ◌+◌, ◌++◌, ◌∷◌, [], sym, refl, ap, arith, length}
use Rattle.std.proofs.lemmas.List.{length_push}
use Rattle.std.proofs.lemmas.Result.{err_from_is_err_and}
use Rattle.csv.specs.Reading.{Reached, default_config, strip_bom}
use Rattle.csv.specs.declared.parser.State.TheVariants as st
use Rattle.array_data.specs.Judging.{taken}
use Rattle.array_data.specs.Reading.{Text, text_of}
use Rattle.array_data.proofs.Readings.{reached_behind}
use Rattle.array_data.proofs.RecordVerdicts.{first_refused, length-given, more_given, none_given}
use Rattle.array_data.proofs.Records.{reached_all, reached_length, reached_more}
use Rattle.array_data.proofs.inputs.read_records.Goals as goal

pub loop-field-init : goal.loop-field-init
unfolding Reached
loop-field-init c =
    let start = c.new-reader.ensures in (
      [],
      (sym (ap (λ (t : Text). t.state) start), sym (ap (λ (t : Text). t.bytes) start)),
      refl,
      rw c.in_ok-given.ensures (none_given c.args.arrays.now),
    )

pub overflow_add-number : goal.overflow_add-number
overflow_add-number c =
    let inv = c.loop-field.invariant in
    let few = reached_length c.args.bytes.now inv.0 _ _ inv.1 in
    omega (arith, few, inv.2)

pub loop-field-smaller : goal.loop-field-smaller
loop-field-smaller c =
    let inv = c.loop-field.invariant in
    let few = reached_length c.args.bytes.now inv.0 _ _ inv.1 in
    omega (arith, few, inv.2)

pub take_record-requires : goal.take_record-requires
take_record-requires c =
    length-given c.args.arrays.now c.loop-field.invariant.0 c.loop-field.given c.loop-field.invariant.3

pub loop-field-preserved : goal.loop-field-preserved
loop-field-preserved c =
    let inv = c.loop-field.invariant in
    let took = rw c.if-branch.true at c.in_ok-take_record.ensures in
    let new = text_of c.take_record.new.reader in
    let taken_so : taken c.args.arrays.now (length inv.0 + 1) took.0 c.loop-field.given ≡ Ok c.take_record.new.given =
    ap (λ (n : ℕ). taken c.args.arrays.now n took.0 c.loop-field.given) (sym inv.2) ∙ took.2 in (
      inv.0 ++ took.0 ∷ [],
      reached_behind default_config st.StartRecord (strip_bom c.args.bytes.now) inv.0 _ _
          (took.0, new.state, new.bytes) inv.1 took.1,
      omega (arith, inv.2, length_push inv.0 took.0),
      more_given c.args.arrays.now inv.0 took.0 c.loop-field.given c.take_record.new.given inv.3 taken_so,
    )

pub returns-in_err-take_record : goal.returns-in_err-take_record
returns-in_err-take_record c =
    let inv = c.loop-field.invariant in
    let arrays = c.args.arrays.now in
    let fault = c.in_err-take_record.field-0.0 in
    let answer =
    err_from_is_err_and c.from_residual-in_err-take_record.result c.from_residual-in_err-take_record.ensures.1 in
    rw (answer.1, answer.2) (λ known.
    let next = c.in_err-take_record.ensures known in
    let rest = reached_more c.args.bytes.now inv.0 next.0.0 next.0.1 next.0.2
    (reached_behind default_config st.StartRecord (strip_bom c.args.bytes.now) inv.0 _ _ next.0 inv.1 next.1) in
    let refused : taken arrays (length inv.0 + 1) next.0.0 c.loop-field.given ≡ Err fault = rw inv.2 at next.2 in
    rw (rest.1, first_refused arrays inv.0 next.0.0 rest.0 c.loop-field.given fault inv.3 refused) refl)

pub returns : goal.returns
returns c =
    let inv = c.loop-field.invariant in
    let none = rw c.if-branch.false at c.in_ok-take_record.ensures in
    let all = reached_all c.args.bytes.now inv.0 _ _ inv.1 none.0 in
    rw (all, none.1) (inv.3.no_fault, inv.3.after.0, inv.3.after.1)
