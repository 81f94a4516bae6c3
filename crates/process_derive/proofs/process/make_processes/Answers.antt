use Rattle.std.proofs.Common.{◌≡◌, ◌∙◌, ◌++◌, ◌∷◌, [], refl, ap, sym, arith, length, map}
use Rattle.std.specs.Prelude.{Some, slice_get}
use Rattle.std.specs.List.{range_with_len}
use Rattle.std.proofs.lemmas.Option.{slice_get_read}
use Rattle.std.proofs.lemmas.List.FromFn.{map-range_with_len_more}
use Rattle.process_derive.specs.Derived.{process_of}
use Rattle.process_derive.proofs.Parts.{all_sources, later_sources, own_sources, reads_within}
use Rattle.process_derive.proofs.Parts.{turns_exist, turns_there}
use Rattle.process_derive.proofs.process.make_processes.Goals as goal

pub loop-number-init : goal.loop-number-init
loop-number-init c = record {
  made = c.new-processes.ensures.items;
  left = all_sources c.args.nest.now c.as_slice-rest.result.now c.args.sources.now.of c.as_slice-rest.ensures
      c.requires.sources;
}

pub split_at-requires : goal.split_at-requires
split_at-requires c =
    let n = c.args.nest.now in
    let s = c.statement-item.result in
    let here : slice_get n.statements c.loop-number.number ≡ Some s =
    ap (λ xs. slice_get xs c.loop-number.number) (sym c.as_slice-statement-items.ensures)
    ∙ slice_get_read c.as_slice-statement-items.result.now _ c.loop-number.number s refl c.loop-number-test.true
    c.statement-item.is in
    reads_within n c.loop-number.number c.len.result s c.loop-number.rest.now here c.len.ensures
    c.loop-number.invariant.left

pub bounds-turns-number : goal.bounds-turns-number
bounds-turns-number c =
    turns_exist c.args.nest.now c.loop-number.number c.args.turns.now c.requires.turns
    (omega (arith, ap length c.as_slice-statement-items.ensures, c.loop-number-test.true))

pub make_process-requires-clause-fires : goal.make_process-requires-clause-fires
make_process-requires-clause-fires c =
    turns_there c.args.nest.now c.loop-number.number c.args.turns.now c.requires.turns
    (omega (arith, ap length c.as_slice-statement-items.ensures, c.loop-number-test.true))

pub make_process-requires-clause-sources : goal.make_process-requires-clause-sources
make_process-requires-clause-sources c =
    let n = c.args.nest.now in
    let s = c.statement-item.result in
    let here : slice_get n.statements c.loop-number.number ≡ Some s =
    ap (λ xs. slice_get xs c.loop-number.number) (sym c.as_slice-statement-items.ensures)
    ∙ slice_get_read c.as_slice-statement-items.result.now _ c.loop-number.number s refl c.loop-number-test.true
    c.statement-item.is in
    own_sources n c.loop-number.number c.len.result s c.loop-number.rest.now c.split_at.result.0.now here c.len.ensures
    c.loop-number.invariant.left c.split_at.ensures.front

pub loop-number-preserved : goal.loop-number-preserved
loop-number-preserved c =
    let n = c.args.nest.now in
    let s = c.statement-item.result in
    let here : slice_get n.statements c.loop-number.number ≡ Some s =
    ap (λ xs. slice_get xs c.loop-number.number) (sym c.as_slice-statement-items.ensures)
    ∙ slice_get_read c.as_slice-statement-items.result.now _ c.loop-number.number s refl c.loop-number-test.true
    c.statement-item.is in
    record {
      made = c.in_ok-push.ensures.items
          ∙ ap (λ xs. xs ++ c.in_ok-make_process.field-0 ∷ []) c.loop-number.invariant.made
          ∙ ap (λ process.
          map (process_of n) (range_with_len 0 c.loop-number.number) ++ process ∷ []) c.in_ok-make_process.ensures
          ∙ sym (map-range_with_len_more (process_of n) 0 c.loop-number.number c.loop-number.number (omega arith));
      left = later_sources n c.loop-number.number c.len.result s c.loop-number.rest.now c.split_at.result.1.now here
          c.len.ensures c.loop-number.invariant.left c.split_at.ensures.back;
    }
