use Rattle.std.proofs.Common.{sym, subst}
use Rattle.net_checker.specs.Sources.{IsUsable}
use Rattle.net_maker.specs.Origins.{IsUsableOrigin}
use Rattle.source_tree.specs.declared.cert.Origin.TheVariants.{Tree}
use Rattle.net_maker.proofs.origins.origin.Goals as goal

pub source_of-requires : goal.source_of-requires
source_of-requires c =
    c.differences_are_strides.ensures c.args.nest.now c.args.statement c.args.read
    (c.in_difference_class.ensures.0 c.if-not-in_difference_class.false)

pub returns-in_ok-new-clause-origin : goal.returns-in_ok-new-clause-origin
returns-in_ok-new-clause-origin c =
    let n = c.args.nest.now in
    let stands = c.if-stands.true in
    let usable : IsUsable n c.args.statement c.args.read c.in_ok-tree.tree = record {
      checked = c.in_ok-tree.ensures.checked;
      fits = c.in_ok-stands.ensures.fits stands;
    } in
    subst (λ tree. IsUsableOrigin n c.args.statement c.args.read (Tree tree)) (sym c.in_ok-new.ensures)
    (usable, c.in_ok-stands.ensures.text stands)
