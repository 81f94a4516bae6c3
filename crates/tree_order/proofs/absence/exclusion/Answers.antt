use Rattle.std.proofs.Common.{◌++◌, length, sym, ap, subst, arith}
use Rattle.std.specs.Prelude.{All, IfSome}
use Rattle.std.proofs.lemmas.List.Elements.{All-nil}
use Rattle.std.proofs.lemmas.Option.{IfSome_then}
use Rattle.std.proofs.lemmas.Result.{IfOk-weaker}
use Rattle.tree_order.specs.Absence.{AddsOrderEdges, IsContradicted, IsNearEdge}
use Rattle.tree_order.proofs.Absent.{between_by_orders, between_refuted, path_of}
use Rattle.tree_order.proofs.absence.exclusion.Goals as goal

pub returns-in_default-clause-some : goal.returns-in_default-clause-some
returns-in_default-clause-some c =
    let context = c.args.context.now in
    let candidate = c.args.candidate.now in
    IfOk-weaker c.absence_of.result _ _
    (λ found h. IfSome_then found h
    (λ ts told r w is point within. between_refuted r context candidate ts w c.args.place.now c.args.level is
    (path_of r context 0 candidate is c.requires.context) point told)) c.absence_of.ensures.some

pub push_order_edges-requires-clause-forms : goal.push_order_edges-requires-clause-forms
push_order_edges-requires-clause-forms c = let p = c.requires.place in (c.args.context.now.vars, p.1.forms)

pub push_order_edges-requires-clause-few : goal.push_order_edges-requires-clause-few
push_order_edges-requires-clause-few c = let p = c.requires.place
    in omega (arith, p.1.deep, p.1.few_loops)

pub by_orders-requires-clause-orders : goal.by_orders-requires-clause-orders
by_orders-requires-clause-orders c =
    let p = c.requires.place in
    subst (All (IsNearEdge c.args.candidate.now.writes.vars)) (sym c.as_slice.ensures)
    (subst (λ v. All (IsNearEdge v) c.push_order_edges.new.edges) c.requires.context.vars_are
    (c.in_ok-push_order_edges.ensures.each c.args.context.now.vars p.1.forms
    (subst (All (IsNearEdge c.args.context.now.vars)) (sym c.new-orders.ensures) (All-nil _))))

pub by_orders-requires-clause-few : goal.by_orders-requires-clause-few
by_orders-requires-clause-few c = omega (
  arith,
  ap length c.as_slice.ensures,
  c.in_ok-push_order_edges.ensures.count,
  ap length c.new-orders.ensures,
  c.requires.level,
)

pub returns-in-Some-clause-some : goal.returns-in-Some-clause-some
returns-in-Some-clause-some c = λ r w is point within.
    let context = c.args.context.now in
    let candidate = c.args.candidate.now in
    let orders = c.push_order_edges.new.edges in
    let adds = subst (λ old. AddsOrderEdges c.args.place.now 0 c.depth-zero.result c.args.level c.args.within old
    orders) c.new-orders.ensures c.in_ok-push_order_edges.ensures.rows in
    let told = subst (λ o. IfSome o (IsContradicted context (candidate.edges ++ c.as_slice.result.now))) c.in-Some.is
    c.in_ok-found.ensures in
    between_by_orders r context candidate c.in-Some.terms w c.args.place.now c.args.level c.depth-zero.result
    c.args.within orders is (path_of r context 0 candidate is c.requires.context) point
    c.depth-zero.ensures within adds
    (subst (λ orders. IsContradicted context (candidate.edges ++ orders) c.in-Some.terms) c.as_slice.ensures told)

pub returns-clause-some : goal.returns-clause-some
returns-clause-some c =
    let context = c.args.context.now in
    let candidate = c.args.candidate.now in
    IfOk-weaker c.absence_of-in-None.result _ _
    (λ found h. IfSome_then found h
    (λ ts told r w is point within. between_refuted r context candidate ts w c.args.place.now c.args.level is
    (path_of r context 0 candidate is c.requires.context) point told)) c.absence_of-in-None.ensures.some
