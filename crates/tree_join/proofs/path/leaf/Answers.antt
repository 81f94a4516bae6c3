use Rattle.std.proofs.Common.{◌≡◌, [], ap, subst}
use Rattle.std.specs.Prelude.{MatchOption}
use Rattle.std.specs.Option.{option_copied}
use Rattle.tree_join.specs.Joining.{AllAreExcluded}
use Rattle.tree_join.proofs.path.leaf.Goals as goal

pub writer_leaf-requires : goal.writer_leaf-requires
writer_leaf-requires c =
    let state = c.args.state.now in
    let best_is = ap option_copied c.in-Some.is in
    record {
      path = c.requires.path;
      best_is = best_is;
      excluded_are = subst (λ o. MatchOption o (state.left.now ≡ [])
          (λ best. AllAreExcluded state best state.left.now c.args.excluded.now)) best_is c.requires.end;
    }

pub zero_leaf-requires : goal.zero_leaf-requires
zero_leaf-requires c =
    let state = c.args.state.now in
    let none = ap option_copied c.in-None.is in
    record {
      path = c.requires.path;
      none_left = subst (λ o. MatchOption o (state.left.now ≡ [])
          (λ best. AllAreExcluded state best state.left.now c.args.excluded.now)) none c.requires.end;
      no_best = none;
    }
