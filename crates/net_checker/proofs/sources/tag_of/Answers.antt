use Rattle.std.proofs.Common.{Some, length, sym, ap, ◌∙◌, arith}
use Rattle.std.proofs.lemmas.Option.{same_Some}
use Rattle.std.specs.Option.{option_and_then}
use Rattle.sanlp.specs.Tags.{tag_at}
use Rattle.sanlp.specs.Trace.{trace}
use Rattle.sanlp.proofs.NestFacts.{points_length}
use Rattle.sanlp.proofs.ReadCounts.{trace-statement}
use Rattle.net_checker.proofs.Turns.{entry_found, tag_of_entry, turn_is, turn_small}
use Rattle.net_checker.proofs.sources.tag_of.Goals as goal

pub vectors_of-vectors-requires : goal.vectors_of-vectors-requires
vectors_of-vectors-requires c =
    let n = c.args.candidate.now.nest.now in
    let entry = entry_found n c.requires.0 c.args.found.now c.in-At.point (sym c.in-At.is) c.requires.1 in
    omega (
      arith,
      trace-statement n entry.0 c.in-At.point entry.2,
      points_length n,
      ap length
          c.args.candidate.now.points_of_nest,
    )

pub returns-in_err-turn-in-At : goal.returns-in_err-turn-in-At
returns-in_err-turn-in-At c writer h =
    let n = c.args.candidate.now.nest.now in
    let p = c.in-At.point in
    let entry = entry_found n writer c.args.found.now p (sym c.in-At.is) h in
    let turn = turn_is n entry.0 p entry.2 c.args.candidate.now.points.now.of c.vectors_of-vectors.result.now
    c.args.candidate.now.points_of_nest
    c.vectors_of-vectors.ensures c.turn_of.result c.turn_of.ensures in
    let none = c.in_err-turn-in-At.was in
    absurd (cc)

pub overflow_cast-result : goal.overflow_cast-result
overflow_cast-result c =
    let n = c.args.candidate.now.nest.now in
    let p = c.in-At.point in
    let entry = entry_found n c.requires.0 c.args.found.now p (sym c.in-At.is) c.requires.1 in
    let turn = turn_is n entry.0 p entry.2 c.args.candidate.now.points.now.of c.vectors_of-vectors.result.now
    c.args.candidate.now.points_of_nest
    c.vectors_of-vectors.ensures c.turn_of.result c.turn_of.ensures in
    omega (
      arith,
      same_Some _ _ (sym c.in_ok-turn-in-At.was ∙ turn),
      turn_small n entry.0 p entry.2
          c.args.candidate.now.size,
    )

pub returns-in_ok-turn-in-At : goal.returns-in_ok-turn-in-At
returns-in_ok-turn-in-At c writer h =
    let n = c.args.candidate.now.nest.now in
    let p = c.in-At.point in
    let entry = entry_found n writer c.args.found.now p (sym c.in-At.is) h in
    let turn = turn_is n entry.0 p entry.2 c.args.candidate.now.points.now.of c.vectors_of-vectors.result.now
    c.args.candidate.now.points_of_nest
    c.vectors_of-vectors.ensures c.turn_of.result c.turn_of.ensures in
    ap (λ t. Some (record { process = p.statement; turn = t })) (same_Some _ _ (sym c.in_ok-turn-in-At.was ∙ turn))
    ∙ tag_of_entry n entry.0 p entry.2 ∙ sym (ap (option_and_then (tag_at (trace n))) entry.1)
