use Rattle.std.proofs.Common.{◌≡◌, ◌+◌, List, [], ◌∷◌, ◌++◌, take, sym, ap, subst, ◌∙◌, arith}
use Rattle.std.proofs.lemmas.List.{take_all, take_more}
use Rattle.cert_text.specs.Writing.{WritesProcesses}
use Rattle.cert_text.proofs.TextPieces.{none_wrote, process_wrote}
use Rattle.cert_text.proofs.writing.write_processes.Goals as goal

pub loop-process-init : goal.loop-process-init
loop-process-init g c = none_wrote g.W.TextWriter.given g.P.HasBlocks.gives c.args.out.now

pub loop-process-preserved : goal.loop-process-preserved
loop-process-preserved g c =
    let gives = g.P.HasBlocks.gives in
    let ps = c.args.processes.now in
    let i = c.loop-process.process-index in
    let p = c.process-item.result in
    let next : take (i + 1) ps ≡ take i ps ++ p ∷ [] =
    take_more ps i p (omega arith) ∙ ap (λ q. take i ps ++ q ∷ []) (sym c.process-item.is) in
    subst (λ (qs : List _). WritesProcesses g.W.TextWriter.given gives c.args.out.now c.write_process.new.out qs)
    (sym next)
    (process_wrote g.W.TextWriter.given gives c.args.out.now c.loop-process.out c.write_process.new.out
    (take i ps) p c.loop-process.invariant c.write_process.ensures)

pub returns : goal.returns
returns g c =
    let ps = c.args.processes.now in
    subst (λ (qs : List _). WritesProcesses g.W.TextWriter.given g.P.HasBlocks.gives c.args.out.now c.loop-process.out qs)
    (take_all c.loop-process.process-index ps (omega arith)) c.loop-process.invariant
