use Rattle.std.proofs.Common.{sym, ap, ◌∙◌}
use Rattle.std.specs.Prelude.{Some}
use Rattle.source_tree.specs.declared.tree.Found.TheVariants as found
use Rattle.net_checker.proofs.sources.guessed_tag.Goals as goal

pub returns-then-tells : goal.returns-then-tells
returns-then-tells c =
    λ tree known. record {
      point = c.in_ok-there.there.now;
      there = sym c.in_ok-there.ensures;
      is = ((c.tells.ensures tree known).0 c.if-tells.true).1
          ∙ ap (λ point. Some (found.At (record { statement = c.args.pace.now.statement; at = point })))
          c.as_slice.ensures.value;
    }
