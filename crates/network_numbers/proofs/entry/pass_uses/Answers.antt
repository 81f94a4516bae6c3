use Rattle.std.proofs.Common.{max, ap, ap₂, sym, ◌∙◌, arith}
use Rattle.std.proofs.lemmas.List.{take_all}
use Rattle.network_numbers.specs.declared.queues.QueueCounts.{QueueCounts}
use Rattle.network_numbers.specs.Entries.{wanted_after, turns_wanted}
use Rattle.network_numbers.proofs.EntryCounts.{counts_are}
use Rattle.network_numbers.proofs.WantedTurns.{folded_next}
use Rattle.network_numbers.proofs.entry.pass_uses.Goals as goal

pub loop-source-preserved : goal.loop-source-preserved
loop-source-preserved c =
    let plan = c.args.plan.now in
    record {
      wanted = ap (λ (q : QueueCounts). q.wanted) c.note_use.ensures
          ∙ ap₂ max c.loop-source.invariant.wanted c.turns_wanted.ensures
          ∙ sym (folded_next (turns_wanted plan.writer) c.args.sources.now c.loop-source.source-index c.args.queue.now.wanted _
          c.loop-source-test.true);
      greatest = ap (λ (q : QueueCounts). q.greatest) c.note_use.ensures ∙ c.loop-source.invariant.greatest;
    }

pub returns : goal.returns
returns c =
    let all = take_all c.loop-source.source-index c.args.sources.now (omega arith) in
    counts_are _ _ _ _
    (c.loop-source.invariant.wanted ∙ ap (λ xs. wanted_after c.args.plan.now xs c.args.queue.now.wanted) all)
    c.loop-source.invariant.greatest
