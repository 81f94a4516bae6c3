-- The terms of a candidate without a point refute that it writes the cell. They are carried to the joined system, where
-- the rows of its own context have terms in their places and the rows on the point stand behind the joined context.
use Rattle.std.proofs.Common.{◌∷◌, ◌++◌, [], ◌^◌, length, refl, ap, ◌∙◌, sym, subst, arith}
use Rattle.int_polyhedra.specs.declared.system.Proof.TheVariants.{Sum}
use Rattle.tree_order.specs.Positions.{own_sums}
use Rattle.tree_order.specs.Seen.{absent_at}
use Rattle.tree_order.proofs.PointSystems.{AreLightSums}
use Rattle.tree_join.proofs.Between.{carry_fits}
use Rattle.tree_join.proofs.NoCandidate.{light_places, light_terms, refutes_between, refutes_writes}
use Rattle.tree_sums.specs.Carried.{carried_terms, sum_in_place}
use Rattle.tree_sums.specs.Parts.{weight}
use Rattle.tree_join.proofs.leaf.without.Goals as goal

pub carried_behind-requires-clause-few : goal.carried_behind-requires-clause-few
carried_behind-requires-clause-few c =
    let a = c.requires in
    omega (arith, a.4, a.3.few, c.len-further.ensures, a.2.candidate.graph.graph.few)

pub carried_behind-requires-clause-fit : goal.carried_behind-requires-clause-fit
carried_behind-requires-clause-fit c =
    let a = c.requires in
    let at = absent_at c.args.absence.now in
    carry_fits (c.as_slice-rows.result.now ++ own_sums c.args.here c.len-further.result) c.as_slice.result.now
    (omega (arith, ap weight c.as_slice.ensures, light_terms a.0 a.1 a.3 c.args.absence.now a.2))
    (subst (λ rows. AreLightSums (2 ^ 26) (rows ++ own_sums c.args.here c.len-further.result))
    (sym c.as_slice-rows.ensures)
    (light_places a.0 a.1 at a.2 c.args.here c.len-further.result))

pub returns-clause-alone : goal.returns-clause-alone
returns-clause-alone c = λ r context is path here_is.
    let absence = c.args.absence.now in
    let at = absent_at absence in
    let ts = absence.terms in
    let rows = c.as_slice-rows.result.now in
    let further = c.len-further.result in
    let carried_is = ap Sum (c.in_ok-terms.ensures
    ∙ ap (carried_terms (sum_in_place (rows ++ own_sums c.args.here further))) c.as_slice.ensures
    ∙ ap (λ sums. carried_terms (sum_in_place sums) ts)
    (ap (λ rows. rows ++ own_sums c.args.here further) c.as_slice-rows.ensures
    ∙ ap (λ n. at.rows ++ own_sums n further) here_is
    ∙ ap (λ n. at.rows ++ own_sums (length context.rows) n) c.len-further.ensures)) in
    refutes_writes r context path at is (Sum ts ∷ []) refl (Sum ts) (Sum c.in_ok-terms.terms) ts refl refl
    (light_terms r context path absence is) carried_is

pub returns-clause-after : goal.returns-clause-after
returns-clause-after c = λ r context w place q is path here_is point.
    let absence = c.args.absence.now in
    let at = absent_at absence in
    let ts = absence.terms in
    let rows = c.as_slice-rows.result.now in
    let further = c.len-further.result in
    let carried_is = ap Sum (c.in_ok-terms.ensures
    ∙ ap (carried_terms (sum_in_place (rows ++ own_sums c.args.here further))) c.as_slice.ensures
    ∙ ap (λ sums. carried_terms (sum_in_place sums) ts)
    (ap (λ rows. rows ++ own_sums c.args.here further) c.as_slice-rows.ensures
    ∙ ap (λ n. at.rows ++ own_sums n further) here_is
    ∙ ap (λ n. at.rows ++ own_sums (length context.rows) n) c.len-further.ensures)) in
    refutes_between r context path at is (Sum ts ∷ []) refl (Sum ts) (Sum c.in_ok-terms.terms) ts w place q refl refl
    (light_terms r context path absence is) carried_is point

pub returns-clause-sum : goal.returns-clause-sum
returns-clause-sum c = (c.in_ok-terms.terms, refl)
