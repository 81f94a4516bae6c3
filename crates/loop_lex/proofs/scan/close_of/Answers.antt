use Rattle.std.proofs.Common.{◌≡◌, suc, arith, add-one, false, get_or, rules, ◌∷◌, []}
use Rattle.loop_lex.proofs.CommentEnds.{begins_close, close_found, close_goes, none_more, close_none, no_close}
use Rattle.loop_lex.proofs.scan.close_of.Goals as goal
use Rattle.loop_lex.proofs.scan.close_of.Goals.{else-body-i-eq42-via-then-body-i-eq42+else-body-i-eq47}
use Rattle.loop_lex.proofs.scan.close_of.Goals.{else-body-i-eq42-via-else-body-i-eq42}

pub returns-then-body-i-eq47 : goal.returns-then-body-i-eq47
returns-then-body-i-eq47 c =
    close_found c.args.body.now c.loop-i.i (omega arith) c.loop-i.invariant.0 (search (rules, add-one))
    (search (rules, add-one))

pub loop-i-preserved : goal.loop-i-preserved
loop-i-preserved c =
    let none : begins_close (get_or c.args.body.now c.loop-i.i 0 ∷ get_or c.args.body.now (suc c.loop-i.i) 0 ∷ [])
    ≡ false
    = no_close _ _ [] (elim c.else-body-i-eq42.branch [
      | else-body-i-eq42-via-then-body-i-eq42+else-body-i-eq47 w ↦ λ a b. w.if-body-i-eq47.false (rw add-one b)
      | else-body-i-eq42-via-else-body-i-eq42 w ↦ λ a b. w.if-body-i-eq42.false a
    ]) in
    rw (add-one) (
      close_goes c.args.body.now c.loop-i.i (omega arith) c.loop-i.invariant.0 none,
      none_more c.args.body.now c.loop-i.i c.loop-i.invariant.0 c.loop-i.invariant.1,
    )

pub returns : goal.returns
returns c = close_none c.args.body.now c.loop-i.i (omega arith) c.loop-i.invariant.0 c.loop-i.invariant.1
