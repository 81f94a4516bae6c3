use Rattle.std.proofs.Common.{[], length, sym, ap, ◌∙◌, subst}
use Rattle.std.proofs.lemmas.List.{length-replicate}
use Rattle.std.specs.Prelude.{replicate}
use Rattle.std.specs.List.{fold}
use Rattle.loop_walk.specs.PointLists.{with_point}
use Rattle.loop_walk.specs.Walks.{rest}
use Rattle.loop_walk.proofs.PointLists.{all_exist, points_added, trace_exists}
use Rattle.loop_walk.proofs.process_points.points.Goals as goal

pub loop-point-init : goal.loop-point-init
loop-point-init c =
    let n = c.args.nest.now in
    let empty = c.in_ok-lists.ensures ∙ ap (λ k. replicate k []) c.len.ensures in
    record {
      walk = c.in_ok-walk.ensures.walk;
      count = c.in_ok-lists.lists.ok.0 ∙ ap length empty ∙ length-replicate (length n.statements) [];
      exist = subst (all_exist n) (sym c.in_ok-walk.ensures.rest) (trace_exists n);
      added = ap (λ lists. fold with_point lists (rest n c.in_ok-walk.walk)) empty
          ∙ ap (fold with_point (replicate (length n.statements) [])) c.in_ok-walk.ensures.rest;
    }

pub returns : goal.returns
returns c =
    c.from_vec.ensures
    ∙ ap (fold with_point c.loop-point.lists.items) (sym c.in_default.ensures.next.0)
    ∙ c.loop-point.invariant.added
    ∙ points_added c.args.nest.now
