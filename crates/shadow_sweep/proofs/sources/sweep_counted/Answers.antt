use Rattle.std.proofs.Common.{◌≡◌, ◌<◌, ◌-◌, drop, length, refl, arith, sym, ap, ◌∙◌, subst}
use Rattle.std.specs.Prelude.{replicate}
use Rattle.std.proofs.lemmas.List.{get_or_read, length-map}
use Rattle.std.proofs.lemmas.List.FromFn.{length-map-range_with_len}
use Rattle.plain_data.proofs.Lists.{left-later}
use Rattle.sanlp.specs.Trace.{trace}
use Rattle.sanlp.proofs.ReadCounts.{trace-next_statement}
use Rattle.loop_walk.specs.Walks.{rest}
use Rattle.cell_rows.specs.CellMap.{places_in}
use Rattle.cell_rows.specs.Narrow.{narrowed}
use Rattle.cell_rows.specs.declared.narrow_access.NarrowStatement.{NarrowStatement}
use Rattle.shadow_sweep.specs.LastWrites.{writes_in}
use Rattle.source_tree.specs.Sources.{read_number}
use Rattle.shadow_sweep.proofs.Accesses.{accesses_of, reads_are, reads_fit, write_fits, write_is}
use Rattle.shadow_sweep.proofs.StretchPlaces.{none_known, one_more}
use Rattle.shadow_sweep.proofs.SweepState.{IsSwept, first_is, reads_have_lists, swept_all}
use Rattle.shadow_sweep.proofs.SweepState.{swept_later, swept_none, turn_exists, turn_is_small, turns_all}
use Rattle.shadow_sweep.proofs.sources.sweep_counted.Goals as goal

pub loop-point-init : goal.loop-point-init
loop-point-init c =
    let n = c.args.nest.now in
    let started : length (trace n) - length (rest n c.in_ok-walk.walk) ≡ 0 =
    omega (arith, ap length c.in_ok-walk.ensures.rest) in
    record {
      stretches = none_known (places_in c.in_ok-cells.cells) c.as_slice-accesses.result.now
          c.in_ok-stretches.stretches.items _ refl c.in_ok-stretches.ensures;
      walk = c.in_ok-walk.ensures.walk;
      left = ap (λ k. drop k (trace n)) started ∙ sym c.in_ok-walk.ensures.rest;
      swept = subst
          (λ t. IsSwept n t c.in_ok-turns.turns.items (writes_in c.in_ok-cells.cells) c.first_reads.new.lists.items)
          (sym started)
          (swept_none n c.in_ok-turns.turns.items (writes_in c.in_ok-cells.cells) c.first_reads.new.lists.items
          (c.in_ok-turns.ensures.items_if_clones_equal (λ y h. h) ∙ ap (λ k. replicate k 0) c.len.ensures)
          c.in_ok-cells.ensures c.in_ok-firsts.ensures.lists);
    }

pub next_turn-turn-requires-clause-exists : goal.next_turn-turn-requires-clause-exists
next_turn-turn-requires-clause-exists c =
    let n = c.args.nest.now in
    omega (
      arith,
      c.loop-point.turns.ok.0,
      turn_exists n
          (rest n c.loop-point.walk) _ c.in-Some.point c.loop-point.invariant.left c.in-Some.ensures.next _ _ _
          c.loop-point.invariant.swept,
    )

pub next_turn-turn-requires-clause-few : goal.next_turn-turn-requires-clause-few
next_turn-turn-requires-clause-few c =
    let n = c.args.nest.now in
    turn_is_small n
    (rest n c.loop-point.walk) _ c.in-Some.point c.loop-point.invariant.left c.in-Some.ensures.next _ _ _
    c.loop-point.invariant.swept c.requires.size_within

pub bounds-accesses-process : goal.bounds-accesses-process
bounds-accesses-process c =
    let n = c.args.nest.now in
    omega (
      arith,
      ap length (c.as_slice-accesses.ensures ∙ c.in_ok-narrow.ensures) ∙ length-map n.statements narrowed,
      trace-next_statement n
          (rest n c.loop-point.walk) _ c.in-Some.point c.loop-point.invariant.left c.in-Some.ensures.next,
    )

pub index-first-requires : goal.index-first-requires
index-first-requires c =
    let n = c.args.nest.now in
    omega (
      arith,
      c.in_ok-firsts.firsts.ok.0,
      ap length c.in_ok-firsts.ensures.firsts,
      length-map-range_with_len (λ p. read_number n p 0) 0 (length n.statements),
      trace-next_statement n
          (rest n c.loop-point.walk) _ c.in-Some.point c.loop-point.invariant.left c.in-Some.ensures.next,
    )

pub index_mut-stretch-requires : goal.index_mut-stretch-requires
index_mut-stretch-requires c =
    let n = c.args.nest.now in
    omega (
      arith,
      c.loop-point.stretches.ok.0,
      c.loop-point.invariant.stretches.many,
      ap length (c.as_slice-accesses.ensures ∙ c.in_ok-narrow.ensures) ∙ length-map n.statements narrowed,
      trace-next_statement n
          (rest n c.loop-point.walk) _ c.in-Some.point c.loop-point.invariant.left c.in-Some.ensures.next,
    )

pub pass_along-requires-clause-few : goal.pass_along-requires-clause-few
pass_along-requires-clause-few c =
    let n = c.args.nest.now in
    let here =
    accesses_of n (rest n c.loop-point.walk) _ c.in-Some.point c.loop-point.invariant.left c.in-Some.ensures.next
    c.as_slice-accesses.result.now c.index-accesses-process.result
    (c.as_slice-accesses.ensures ∙ c.in_ok-narrow.ensures) c.index-accesses-process.is in
    here.few_reads

pub pass_along-requires-clause-known : goal.pass_along-requires-clause-known
pass_along-requires-clause-known c =
    let n = c.args.nest.now in
    let within : c.in-Some.point.statement < length c.as_slice-accesses.result.now =
    omega (
      arith,
      ap length (c.as_slice-accesses.ensures ∙ c.in_ok-narrow.ensures) ∙ length-map n.statements narrowed,
      trace-next_statement n
          (rest n c.loop-point.walk) _ c.in-Some.point c.loop-point.invariant.left c.in-Some.ensures.next,
    ) in
    c.loop-point.invariant.stretches.known c.in-Some.point.statement within c.index-accesses-process.result
    c.index-accesses-process.is c.index_mut-stretch.result.now c.index_mut-stretch.ensures.value

pub pass_along-requires-clause-reads_fit : goal.pass_along-requires-clause-reads_fit
pass_along-requires-clause-reads_fit c =
    let n = c.args.nest.now in
    let here =
    accesses_of n (rest n c.loop-point.walk) _ c.in-Some.point c.loop-point.invariant.left c.in-Some.ensures.next
    c.as_slice-accesses.result.now c.index-accesses-process.result
    (c.as_slice-accesses.ensures ∙ c.in_ok-narrow.ensures) c.index-accesses-process.is in
    reads_fit n c.in-Some.point c.index-accesses-process.result c.as_slice-at.result.now here
    c.as_slice-at.ensures.value

pub pass_along-requires-clause-write_fits : goal.pass_along-requires-clause-write_fits
pass_along-requires-clause-write_fits c =
    let n = c.args.nest.now in
    let here =
    accesses_of n (rest n c.loop-point.walk) _ c.in-Some.point c.loop-point.invariant.left c.in-Some.ensures.next
    c.as_slice-accesses.result.now c.index-accesses-process.result
    (c.as_slice-accesses.ensures ∙ c.in_ok-narrow.ensures) c.index-accesses-process.is in
    write_fits n c.in-Some.point c.index-accesses-process.result c.as_slice-at.result.now here
    c.as_slice-at.ensures.value

pub pass_along-requires-clause-room : goal.pass_along-requires-clause-room
pass_along-requires-clause-room c =
    let n = c.args.nest.now in
    let here =
    accesses_of n (rest n c.loop-point.walk) _ c.in-Some.point c.loop-point.invariant.left c.in-Some.ensures.next
    c.as_slice-accesses.result.now c.index-accesses-process.result
    (c.as_slice-accesses.ensures ∙ c.in_ok-narrow.ensures) c.index-accesses-process.is in
    let exists =
    trace-next_statement n
    (rest n c.loop-point.walk) _ c.in-Some.point c.loop-point.invariant.left c.in-Some.ensures.next in
    let count =
    ap length c.in_ok-firsts.ensures.firsts
    ∙ length-map-range_with_len (λ p. read_number n p 0) 0 (length n.statements) in
    let first = get_or_read c.in_ok-firsts.firsts.items _ _ (omega (arith, count, exists)) c.index-first.ensures 0 in
    omega (
      arith,
      c.loop-point.lists.ok.0,
      first,
      first_is n c.in_ok-firsts.firsts.items c.in-Some.point.statement c.in_ok-firsts.ensures.firsts exists,
      ap (λ (accesses : NarrowStatement). length accesses.reads) here.same,
      reads_have_lists n _ c.in-Some.point here.statement _ _ _ here.found c.loop-point.invariant.swept,
    )

pub loop-point-preserved : goal.loop-point-preserved
loop-point-preserved c =
    let n = c.args.nest.now in
    let here =
    accesses_of n (rest n c.loop-point.walk) _ c.in-Some.point c.loop-point.invariant.left c.in-Some.ensures.next
    c.as_slice-accesses.result.now c.index-accesses-process.result
    (c.as_slice-accesses.ensures ∙ c.in_ok-narrow.ensures) c.index-accesses-process.is in
    let exists =
    trace-next_statement n
    (rest n c.loop-point.walk) _ c.in-Some.point c.loop-point.invariant.left c.in-Some.ensures.next in
    let count =
    ap length c.in_ok-firsts.ensures.firsts
    ∙ length-map-range_with_len (λ p. read_number n p 0) 0 (length n.statements) in
    let first = get_or_read c.in_ok-firsts.firsts.items _ _ (omega (arith, count, exists)) c.index-first.ensures 0 in
    let within : c.in-Some.point.statement < length c.as_slice-accesses.result.now =
    omega (
      arith,
      ap length (c.as_slice-accesses.ensures ∙ c.in_ok-narrow.ensures) ∙ length-map n.statements narrowed,
      trace-next_statement n
          (rest n c.loop-point.walk) _ c.in-Some.point c.loop-point.invariant.left c.in-Some.ensures.next,
    ) in
    let same = c.as_slice-at.ensures.value in
    record {
      stretches = one_more
          (places_in c.loop-point.cells)
          (places_in c.pass_along.new.cells) c.as_slice-accesses.result.now c.loop-point.stretches.items _
          c.in-Some.point.statement c.index-accesses-process.result c.pass_along.new.stretch
          c.in_ok-pass_along.ensures.places c.loop-point.invariant.stretches within c.index-accesses-process.is
          c.in_ok-pass_along.ensures.known refl;
      walk = c.in-Some.ensures.walk;
      left = left-later (trace n)
          (rest n c.loop-point.walk) _ c.in-Some.point c.loop-point.invariant.left c.in-Some.ensures.next;
      swept = swept_later n
          (rest n c.loop-point.walk) _ c.in-Some.point c.loop-point.invariant.left c.in-Some.ensures.next _ _ _
          c.loop-point.invariant.swept here.statement _ _ _
          c.next_turn-turn.result c.index-first.result.now here.found c.next_turn-turn.ensures.turn
          (first ∙ first_is n c.in_ok-firsts.firsts.items c.in-Some.point.statement c.in_ok-firsts.ensures.firsts
          exists)
          c.next_turn-turn.ensures.counted
          (c.in_ok-pass_along.ensures.write
          ∙ write_is n c.in-Some.point c.index-accesses-process.result c.as_slice-at.result.now here same
          (writes_in c.loop-point.cells) _)
          (c.in_ok-pass_along.ensures.sources
          ∙ reads_are n c.in-Some.point c.index-accesses-process.result c.as_slice-at.result.now here same
          c.loop-point.lists.items c.index-first.result.now (writes_in c.loop-point.cells));
    }

pub returns-clause-sources : goal.returns-clause-sources
returns-clause-sources c =
    let n = c.args.nest.now in
    let whole : length (trace n) - length (rest n c.loop-point.walk) ≡ length (trace n) =
    omega (arith, ap length c.in_default.ensures.next.0) in
    c.from_vec.ensures
    ∙ swept_all n c.loop-point.turns.items (writes_in c.loop-point.cells) c.loop-point.lists.items
    (subst (λ t.
    IsSwept n t c.loop-point.turns.items
    (writes_in c.loop-point.cells) c.loop-point.lists.items) whole c.loop-point.invariant.swept)

pub returns-clause-turns : goal.returns-clause-turns
returns-clause-turns c =
    let n = c.args.nest.now in
    let whole : length (trace n) - length (rest n c.loop-point.walk) ≡ length (trace n) =
    omega (arith, ap length c.in_default.ensures.next.0) in
    turns_all n c.loop-point.turns.items (writes_in c.loop-point.cells) c.loop-point.lists.items
    (subst (λ t.
    IsSwept n t c.loop-point.turns.items
    (writes_in c.loop-point.cells) c.loop-point.lists.items) whole c.loop-point.invariant.swept)
