use Rattle.std.proofs.Common.{◌≡◌, ◌++◌, ◌∙◌, List, [], sym, ap}
use Rattle.std.proofs.lemmas.Bool.{false≢true}
use Rattle.script_blocks.specs.Expansion.{expansion, parts_expansion, repeated}
use Rattle.cert_text.proofs.PartLists.{grown_by_repeat, nothing_repeated, proper_by_repeat}
use Rattle.cert_text.proofs.folded.FoldedList.push_repeated.Goals as goal

pub returns-then-is_empty : goal.returns-then-is_empty
returns-then-is_empty g c =
    let none : c.list.inside.blocks.parts ≡ [] = c.is_empty.ensures.0 c.if-is_empty.true in
    let list : c.args.list ≡ expansion c.list.inside.blocks = cc in
    nothing_repeated c.args.times c.list.inside.blocks c.args.self.now none
    ∙ ap (λ (xs : List _). c.args.self.now ++ repeated c.args.times xs) (sym list)

pub invariant_of-self : goal.invariant_of-self
invariant_of-self g c =
    proper_by_repeat c.push.result c.self.inside.blocks.parts c.push.new.self c.args.times c.list.inside.blocks
    c.push.ensures.ok c.push.ensures.err c.requires
    (λ none. false≢true (sym c.if-is_empty.false ∙ c.is_empty.ensures.1 none)) c.self.invariant c.list.invariant

pub returns : goal.returns
returns g c =
    let before : c.args.self.now ≡ parts_expansion c.self.inside.blocks.parts = cc in
    let list : c.args.list ≡ expansion c.list.inside.blocks = cc in
    grown_by_repeat c.push.result c.self.inside.blocks.parts c.push.new.self c.args.times c.list.inside.blocks
    c.args.self.now c.args.list before list c.push.ensures.ok
