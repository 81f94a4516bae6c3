use Rattle.std.proofs.Common.{rules, ◌≡◌, ◌∷◌, to_z, of_z, arith, pos, ◌+ℤ◌, ◌<ℤ◌, ℤ, List, sym, ap, ◌∙◌}
use Rattle.std.specs.Prelude.{FitsSigned}
use Rattle.std.specs.Int.{w64}
use Rattle.std.proofs.lemmas.Int.{ints}
use Rattle.sanlp.specs.declared.nest.Point.{Point}
use Rattle.sanlp.specs.Loops.{interval}
use Rattle.loop_walk.specs.Runs.{assignment_points}
use Rattle.loop_walk.proofs.RunLemmas.{run_step}
use Rattle.loop_walk.proofs.run.Run.next.Goals as goal

pub returns : goal.returns
returns c =
    let run = c.self.inside in
    let f : FitsSigned w64 run.value = search rules in
    let g : FitsSigned w64 run.last = search rules in
    let next : ℤ = to_z w64 (of_z w64 (to_z w64 (of_z w64 run.value) +ℤ pos 1)) in
    let is : to_z w64 (of_z w64 (to_z w64 (of_z w64 run.value) +ℤ pos 1)) ≡ run.value +ℤ pos 1 =
    omega (arith, ints) in
    let lt : run.value <ℤ run.last = omega (arith, ints) in
    let later = assignment_points run.statement (interval (next +ℤ pos 1) run.last) run.outer in
    let point =
    c.point_of.ensures
    ∙ ap (λ (at : List ℤ). record { statement = run.statement; at = at }) c.extended.ensures in
    sym c.self.view_is
    ∙ run_step run.statement run.value next run.last run.outer is lt
    ∙ ap (λ (p : Point). p ∷ later) (sym point)
