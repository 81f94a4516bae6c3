use Rattle.std.proofs.Common.{arith, sym, []}
use Rattle.std.proofs.lemmas.Option.{get_or_from_slice_get}
use Rattle.net_core.specs.declared.refs.Ref.TheVariants.{Zero, Slot}
use Rattle.net_core.proofs.PackingLemmas.{IsPacked-place, IsPacked-slot, IsPacked-zero}
use Rattle.net_core.proofs.refs.Refs.at.Goals as goal

pub overflow_cast-number : goal.overflow_cast-number
overflow_cast-number c =
    let place = IsPacked-place c.self.inside c.args.self.now c.args.number c.self.invariant c.self.view_is c.requires in
    omega arith

pub overflow_shr-self-inside : goal.overflow_shr-self-inside
overflow_shr-self-inside c =
    IsPacked-place c.self.inside c.args.self.now c.args.number c.self.invariant c.self.view_is c.requires

pub offset_bounds-self-inside-number : goal.offset_bounds-self-inside-number
offset_bounds-self-inside-number c =
    let place = IsPacked-place c.self.inside c.args.self.now c.args.number c.self.invariant c.self.view_is c.requires in
    omega arith

pub bounds-self-inside-number : goal.bounds-self-inside-number
bounds-self-inside-number c =
    IsPacked-place c.self.inside c.args.self.now c.args.number c.self.invariant c.self.view_is c.requires

pub returns-then-self-number-eq1 : goal.returns-then-self-number-eq1
returns-then-self-number-eq1 c =
    let item =
    IsPacked-zero c.self.inside c.args.self.now c.args.number c.self.invariant c.self.view_is c.requires
    c.if-self-number-eq1.true in
    record { item = item; value = sym (get_or_from_slice_get c.args.self.now c.args.number Zero Zero item) }

pub returns-else-self-number-eq1 : goal.returns-else-self-number-eq1
returns-else-self-number-eq1 c =
    let slot = c.from_le_bytes.result in
    let item =
    IsPacked-slot c.self.inside c.args.self.now c.args.number slot [] c.self.invariant c.self.view_is
    c.requires c.if-self-number-eq1.false c.from_le_bytes.ensures in
    record { item = item; value = sym (get_or_from_slice_get c.args.self.now c.args.number (Slot slot) (Slot slot) item) }
