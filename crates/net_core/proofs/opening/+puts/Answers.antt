use Rattle.std.proofs.Common.{◌≡◌, ◌+◌, ◌*◌, ◌<◌, ◌≤◌, count_by, length, min, rules, slice_index, take, refl, ap}
use Rattle.std.proofs.Common.{◌∙◌, arith}
use Rattle.net_core.specs.Shape.{is_put}
use Rattle.script_blocks.specs.declared.blocks.BlockPart.TheViews.{the_lemmas}
use Rattle.script_blocks.specs.Expansion.{part_expansion, parts_expansion}
use Rattle.net_core.proofs.BlockCounts.{count_item, count_repeat, cut_times, part_more, part_within, some_counted}
use Rattle.net_core.proofs.BlockCounts.{times_within}
use Rattle.net_core.proofs.opening.+puts.Goals as goal

pub count_puts_of_part-count_put-requires-clause-channels :
    goal.count_puts_of_part-count_put-requires-clause-channels
count_puts_of_part-count_put-requires-clause-channels t c b more =
    let same = count_item (is_put b) c.in-Item.event c.args.part.now c.in-Item.is in
    c.requires.channels b (omega (arith, same, more))

pub count_puts_of_part-returns-then-count-eq0 : goal.count_puts_of_part-returns-then-count-eq0
count_puts_of_part-returns-then-count-eq0 t c b lt =
    let counted = count_by (is_put b) (parts_expansion c.in-Repeat.body.parts) in
    let whole =
    count_repeat (is_put b) c.in-Repeat.count c.in-Repeat.body c.args.part.now c.in-Repeat.body.parts c.in-Repeat.is refl
    in
    let none : c.in-Repeat.count * counted ≡ 0 = omega (arith, ap (λ n. n * counted) c.if-count-eq0.true) in
    let product : c.args.times * count_by (is_put b) (part_expansion c.args.part.now) ≡ c.args.times * 0 =
    ap (λ n. c.args.times * n) (whole ∙ none) in
    omega (arith, product)

pub count_puts_of_part-count_puts_of_parts-requires :
    goal.count_puts_of_part-count_puts_of_parts-requires
count_puts_of_part-count_puts_of_parts-requires t c = (
  search (rules, the_lemmas),
  (
    λ b more.
        let whole =
        count_repeat (is_put b) c.in-Repeat.count c.in-Repeat.body c.args.part.now c.as_slice.result.now c.in-Repeat.is
        c.as_slice.ensures in
        let counted =
        some_counted c.in-Repeat.count (count_by (is_put b) (parts_expansion c.as_slice.result.now))
        c.if-count-eq0.false more in
        c.requires.channels b (omega (arith, whole, counted)),
    λ b lt.
        let counted = count_by (is_put b) (parts_expansion c.as_slice.result.now) in
        let whole =
        count_repeat (is_put b) c.in-Repeat.count c.in-Repeat.body c.args.part.now c.as_slice.result.now c.in-Repeat.is
        c.as_slice.ensures in
        let product : c.args.times * count_by (is_put b) (part_expansion c.args.part.now)
        ≡ c.args.times * (c.in-Repeat.count * counted) = ap (λ n. c.args.times * n) whole in
        let room : c.args.times * (c.in-Repeat.count * counted) ≤ 4294967295 =
        omega (arith, product, c.requires.room b lt) in
        let cut = cut_times c.args.times c.in-Repeat.count counted 4294967295 room in
        let same : c.saturating_mul.result * counted
        ≡ min (c.args.times * c.in-Repeat.count) 4294967295 * counted =
        ap (λ n. n * counted) c.saturating_mul.ensures in
        omega (arith, product, same, cut, c.requires.room b lt),
  ),
)

pub count_puts_of_part-returns-else-count-eq0 : goal.count_puts_of_part-returns-else-count-eq0
count_puts_of_part-returns-else-count-eq0 t c b lt =
    let counted = count_by (is_put b) (parts_expansion c.as_slice.result.now) in
    let whole =
    count_repeat (is_put b) c.in-Repeat.count c.in-Repeat.body c.args.part.now c.as_slice.result.now c.in-Repeat.is
    c.as_slice.ensures in
    let product : c.args.times * count_by (is_put b) (part_expansion c.args.part.now)
    ≡ c.args.times * (c.in-Repeat.count * counted) = ap (λ n. c.args.times * n) whole in
    let room : c.args.times * (c.in-Repeat.count * counted) ≤ 4294967295 =
    omega (arith, product, c.requires.room b lt) in
    let cut = cut_times c.args.times c.in-Repeat.count counted 4294967295 room in
    let same : c.saturating_mul.result * counted
    ≡ min (c.args.times * c.in-Repeat.count) 4294967295 * counted =
    ap (λ n. n * counted) c.saturating_mul.ensures in
    omega (arith, product, same, cut, c.count_puts_of_parts.ensures b lt)

pub count_puts_of_parts-count_puts_of_part-requires :
    goal.count_puts_of_parts-count_puts_of_part-requires
count_puts_of_parts-count_puts_of_part-requires t c = (
  search (rules, the_lemmas),
  (
    λ b more.
        let within =
        part_within (is_put b) c.args.parts.now c.loop-part.part-index c.part-item.result c.loop-part-test.true
        c.part-item.is in
        let there = c.requires.channels b (omega (arith, within, more)) in
        omega (arith, there, c.loop-part.auto.counts),
    λ b lt.
        let there : b < length c.args.counts.now = omega (arith, lt, c.loop-part.auto.counts) in
        let within =
        part_within (is_put b) c.args.parts.now c.loop-part.part-index c.part-item.result c.loop-part-test.true
        c.part-item.is in
        let room =
        times_within 4294967296 (slice_index c.args.counts.now b) c.args.times
        (count_by (is_put b) (parts_expansion (take c.loop-part.part-index c.args.parts.now)))
        (count_by (is_put b) (part_expansion c.part-item.result))
        (count_by (is_put b) (parts_expansion c.args.parts.now)) within (c.requires.room b there) in
        omega (arith, room, c.loop-part.invariant b lt),
  ),
)

pub count_puts_of_parts-loop-part-preserved : goal.count_puts_of_parts-loop-part-preserved
count_puts_of_parts-loop-part-preserved t c b lt =
    let there : b < length c.loop-part.counts = omega (arith, lt, c.count_puts_of_part.auto.counts) in
    let before = count_by (is_put b) (parts_expansion (take c.loop-part.part-index c.args.parts.now)) in
    let here = count_by (is_put b) (part_expansion c.part-item.result) in
    let more =
    part_more (is_put b) c.args.parts.now c.loop-part.part-index c.part-item.result c.loop-part-test.true c.part-item.is
    in
    let product : c.args.times
    * count_by (is_put b) (parts_expansion (take (c.loop-part.part-index + 1) c.args.parts.now))
    ≡ c.args.times * (before + here) = ap (λ n. c.args.times * n) more in
    omega (arith, product, c.loop-part.invariant b there, c.count_puts_of_part.ensures b there)
