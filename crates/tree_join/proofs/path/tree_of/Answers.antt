use Rattle.std.proofs.Common.{◌≡◌, ◌*◌, [], length, refl, sym, ap, ◌∙◌, subst}
use Rattle.std.specs.Prelude.{None}
use Rattle.tree_order.specs.Seen.{best_in, sightings_of}
use Rattle.tree_join.specs.Joining.{IsPathOf}
use Rattle.tree_join.specs.Walking.{none}
use Rattle.tree_join.proofs.path.tree_of.Goals as goal

pub walked-requires : goal.walked-requires
walked-requires c =
    let task = c.args.task.now in (
      none c.args.context c.new.result c.new-2.result c.new-2.ensures c.requires.context,
      (
        subst (λ seen. IsPathOf task.read.now task.candidates.now c.args.context (best_in seen) (sightings_of seen) c.args.left
            (70000 * length c.args.left) None) (sym c.new.ensures) c.requires.path,
        tt,
      ),
    )
