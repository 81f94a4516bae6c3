use Rattle.std.proofs.Common.{◌≡◌, ◌+◌, ◌-◌, ◌∷◌, [], ℕ, max, cond, take, get_or, ap, ap₂, sym, ◌∙◌, arith}
use Rattle.std.specs.Prelude.{None}
use Rattle.std.specs.List.{fold}
use Rattle.std.proofs.lemmas.Bool.{eq-eqb}
use Rattle.std.proofs.lemmas.List.{take_all}
use Rattle.network_numbers.specs.declared.queues.QueueCounts.{QueueCounts}
use Rattle.network_numbers.specs.Entries.{lengths, tokens_among, wanted_by}
use Rattle.network_numbers.proofs.EntryCounts.{counts_are, wanted_more}
use Rattle.network_numbers.proofs.WantedTurns.{greatest_next}
use Rattle.network_numbers.proofs.entry.pass_ends.Goals as goal

pub loop-place-preserved : goal.loop-place-preserved
loop-place-preserved c =
    let plan = c.args.plan.now in
    let p = c.args.process in
    let sources = c.args.sources.now in
    let k = c.loop-place.place in
    let old = c.args.queue.now in
    let wanted =
    ap (λ (q : QueueCounts). q.wanted) c.pass_use.ensures
    ∙ ap (λ s. wanted_by plan p (s ∷ []) c.loop-place.queue.wanted) c.source_at.ensures
    ∙ ap (wanted_by plan p (get_or sources k None ∷ [])) c.loop-place.invariant.wanted
    ∙ wanted_more plan p sources k old.wanted in
    let length_at : ℕ → ℕ = λ j.
    tokens_among plan (c.args.first + j + 1) - tokens_among plan (wanted_by plan p (take (j + 1) sources) old.wanted) in
    record {
      wanted = ap (λ (q : QueueCounts). q.wanted) c.note_end.ensures ∙ wanted;
      greatest = ap (λ (q : QueueCounts). q.greatest) c.note_end.ensures
          ∙ ap₂ max
          (ap (λ (q : QueueCounts). q.greatest) c.pass_use.ensures ∙ c.loop-place.invariant.greatest)
          (c.saturating_sub.ensures
          ∙ ap₂ (λ a b. a - b) c.tokens_among-put.ensures
          (c.tokens_among-got.ensures ∙ ap (tokens_among plan) wanted))
          ∙ sym (greatest_next length_at old.greatest k);
    }

pub returns : goal.returns
returns c =
    let plan = c.args.plan.now in
    let p = c.args.process in
    let sources = c.args.sources.now in
    let old = c.args.queue.now in
    let count = c.args.count in
    let last : c.loop-place.place ≡ count = omega arith in
    let all = take_all count sources c.requires.many in
    let those = fold max old.greatest (lengths plan p sources old.wanted c.args.first count) in
    counts_are _ _ _ _
    (c.loop-place.invariant.wanted ∙ ap (λ k. wanted_by plan p (take k sources) old.wanted) last
    ∙ ap (λ xs. wanted_by plan p xs old.wanted) all)
    (c.loop-place.invariant.greatest
    ∙ ap (λ k. fold max old.greatest (lengths plan p sources old.wanted c.args.first k)) last
    ∙ sym (ap (λ b. cond b those old.greatest) (eq-eqb plan.writer p c.requires.writer)))
