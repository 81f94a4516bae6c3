use Rattle.std.proofs.Common.{ap, ◌∙◌, ◌++◌, ◌∷◌, []}
use Rattle.net_core.proofs.PackingLemmas.{IsPacked-more, IsPacked-short, refs_in-more}
use Rattle.net_core.proofs.refs.Refs.push.Goals as goal

pub invariant_of-self : goal.invariant_of-self
invariant_of-self c =
    let short = IsPacked-short c.self.inside c.args.self.now c.self.invariant c.self.view_is c.requires in
    let kept = c.parts_of-zero.ensures in
    IsPacked-more c.self.inside c.args.reference c.from.result c.parts_of-zero.result.0 c.parts_of-zero.result.1
    c.self.invariant short c.from.ensures (kept.bit, kept.bytes, kept.back)

pub returns : goal.returns
returns c =
    let short = IsPacked-short c.self.inside c.args.self.now c.self.invariant c.self.view_is c.requires in
    let kept = c.parts_of-zero.ensures in
    refs_in-more c.self.inside c.args.reference c.from.result c.parts_of-zero.result.0 c.parts_of-zero.result.1
    c.self.invariant short c.from.ensures (kept.bit, kept.bytes, kept.back)
    ∙ ap (λ refs. refs ++ c.args.reference ∷ []) c.self.view_is
