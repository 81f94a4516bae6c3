use Rattle.std.proofs.Common.{◌+◌, ◌-◌, ◌++◌, FitsSigned, length, sym, ap, ◌∙◌, subst, arith}
use Rattle.std.specs.Int.{w128}
use Rattle.std.proofs.lemmas.Int.{to_z-of_z}
use Rattle.std.proofs.lemmas.List.{append-nil}
use Rattle.std.proofs.lemmas.Result.{on_ok_weaker}
use Rattle.tree_order.specs.Positions.{own_sums}
use Rattle.tree_order.proofs.PlacesBehind.{place_behind, place_past, products_once}
use Rattle.tree_order.proofs.PointSystems.{placed_left}
use Rattle.tree_order.proofs.carry.push_place.Goals as goal
use Rattle.tree_sums.specs.Carried.{ProductsFit}
use Rattle.tree_sums.specs.Parts.{term_products}

pub append_place-requires : goal.append_place-requires
append_place-requires c =
    let fits : FitsSigned w128 c.args.by = c.ranges.by in
    record {
      fit = simp to_z-of_z (subst (ProductsFit c.args.by)
          (placed_left c.args.rows.now (own_sums c.args.here c.args.further) c.args.row (omega (arith, c.if-at-rows)))
          c.requires.fit);
    }

pub returns-then-at-rows : goal.returns-then-at-rows
returns-then-at-rows c =
    let fits : FitsSigned w128 c.args.by = c.ranges.by in
    on_ok_weaker c.append_place.result
    (λ is. is ∙ ap (λ ts. c.args.out.now ++ term_products c.args.by ts)
    (sym (placed_left c.args.rows.now (own_sums c.args.here c.args.further) c.args.row (omega (arith, c.if-at-rows)))))
    (simp to_z-of_z at c.append_place.ensures)

pub returns-then-behind-further : goal.returns-then-behind-further
returns-then-behind-further c =
    let fits : FitsSigned w128 c.args.by = c.ranges.by in
    let rows = c.args.rows.now in
    let here = c.args.here in
    let further = c.args.further in
    let by = c.args.by in
    let row = c.args.row in
    on_ok_weaker c.push.result
    (λ is. is ∙ ap (λ ts. c.args.out.now ++ ts)
    (sym (ap (term_products by)
    (place_behind rows here further row (omega (arith, c.if-at-rows)) (omega (arith, c.if-behind-further)))
    ∙ products_once by (here + (row - length rows))))) (simp to_z-of_z at c.push.ensures.ok)

pub returns : goal.returns
returns c =
    let rows = c.args.rows.now in
    let here = c.args.here in
    let further = c.args.further in
    sym (ap (λ ts. c.args.out.now ++ term_products c.args.by ts)
    (place_past rows here further c.args.row (omega (arith, c.if-at-rows)) (omega (arith, c.if-behind-further)))
    ∙ append-nil c.args.out.now)
