use Rattle.std.proofs.Common.{◌==◌, ◌++◌, ap, ◌∙◌}
use Rattle.std.specs.List.{filter}
use Rattle.std.specs.Prelude.{not}
use Rattle.tree_join.proofs.path.others.Goals as goal

pub returns : goal.returns
returns c = c.in_ok-push_others.ensures
    ∙ ap (λ old. old ++ filter (λ other. not (other == c.args.number)) c.args.left.now) c.new-rest.ensures
