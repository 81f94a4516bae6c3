use Rattle.std.proofs.Common.{◌≡◌, ◌-◌, suc, arith}
use Rattle.net_checker.proofs.TagRows.{later_told, next_told}
use Rattle.net_checker.proofs.sources.ToldTags.take.Goals as goal

pub returns-then-self-eq0-clause-left : goal.returns-then-self-eq0-clause-left
returns-then-self-eq0-clause-left c points tree vectors turn told i at lt is = absurd (omega (arith, lt))

pub returns-in-Some-clause-tag : goal.returns-in-Some-clause-tag
returns-in-Some-clause-tag c points tree vectors turn at told is =
    next_told points tree vectors turn c.args.self.now.next c.args.self.now.step c.args.self.now.left
    c.args.self.now.statement told (omega arith) at is

pub returns-in-Some-clause-left : goal.returns-in-Some-clause-left
returns-in-Some-clause-left c points tree vectors turn told =
    let fewer : c.args.self.now.left ≡ suc (c.args.self.now.left - 1) = omega arith in
    later_told points tree vectors turn c.args.self.now.next c.args.self.now.step c.args.self.now.left
    c.args.self.now.statement told c.in-Some.next (c.args.self.now.left - 1) c.in-Some.ensures.1 fewer

pub returns-in-None-clause-tag : goal.returns-in-None-clause-tag
returns-in-None-clause-tag c points tree vectors turn at told is =
    next_told points tree vectors turn c.args.self.now.next c.args.self.now.step c.args.self.now.left
    c.args.self.now.statement told (omega arith) at is

pub returns-in-None-clause-left : goal.returns-in-None-clause-left
returns-in-None-clause-left c points tree vectors turn told i at lt is = absurd (omega (arith, lt))
