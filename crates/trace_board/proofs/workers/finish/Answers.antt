use Rattle.std.proofs.Common.{List, ℕ, sym, subst}
use Rattle.net_core.specs.Machine.{net_of}
use Rattle.net_core.specs.Orders.{EndsAll}
use Rattle.net_core.specs.Rules.{tags}
use Rattle.trace_board.proofs.BoardEnd.{finished, fewer_left}
use Rattle.trace_board.proofs.workers.finish.Goals as goal

pub loop-smaller : goal.loop-smaller
loop-smaller c =
    fewer_left c.args.board.network c.requires.wired c.loop.board c.advance.new.self c.advance.result
    c.in-Stepped.field-0
    c.in-Stepped.is c.loop.invariant c.advance.ensures.network c.advance.ensures.history c.advance.ensures.run

pub returns : goal.returns
returns c =
    subst (λ (history : List ℕ). EndsAll (net_of c.args.board.network) tags history)
    (sym c.into_history.ensures.history)
    (finished c.args.board.network c.requires.ends c.loop.board c.advance.new.self c.advance.result
    c.in_default.not-Stepped
    c.loop.invariant c.advance.ensures.network c.advance.ensures.history c.advance.ensures.run c.advance.ensures.idle
    c.advance.ensures.done)
