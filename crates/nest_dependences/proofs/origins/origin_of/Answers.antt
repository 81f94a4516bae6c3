use Rattle.std.proofs.Common.{sym, subst}
use Rattle.deps_text.specs.Dependences.{IsOriginOf}
use Rattle.source_tree.specs.declared.cert.Origin.TheVariants.{Tree}
use Rattle.nest_dependences.proofs.origins.origin_of.Goals as goal

pub source_of-requires : goal.source_of-requires
source_of-requires c = c.has_tree.ensures.0 c.if-has_tree.true

pub returns-in_ok-new : goal.returns-in_ok-new
returns-in_ok-new c =
    subst (λ tree. IsOriginOf c.args.nest.now c.args.statement c.args.read (Tree tree)) (sym c.in_ok-new.ensures)
    (c.has_tree.ensures.0 c.if-has_tree.true, c.in_ok-source_of.ensures.checked, c.in_ok-source_of.ensures.exact)
