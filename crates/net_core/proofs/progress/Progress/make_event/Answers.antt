use Rattle.std.proofs.Common.{◌<◌, ◌+◌, ℕ, List, Some, drop, length, slice_get, refl, sym, ap, ◌∙◌, arith}
use Rattle.std.proofs.lemmas.List.{get_or_read, take_at, length-drop}
use Rattle.net_core.specs.declared.network.Event.{Event}
use Rattle.net_core.specs.declared.progress.TokenCounts.{TokenCounts}
use Rattle.net_core.specs.Machine.{net_of}
use Rattle.net_core.specs.Progress.{counts_after, cut_of}
use Rattle.net_core.proofs.ProgressLemmas.{advanced_list, can_count, event_found, left_found, left_long, progress_more}
use Rattle.net_core.proofs.Ready.{script_short}
use Rattle.net_core.proofs.progress.Progress.make_event.Goals as goal

pub index_mut-requires : goal.index_mut-requires
index_mut-requires c =
    omega (
      arith,
      c.args.self.now.cursors.ok.0,
      c.requires.process,
      left_long (net_of c.args.network.now) c.args.self.now c.requires.progress,
    )

pub unreachable-requires : goal.unreachable-requires
unreachable-requires c =
    let n = net_of c.args.network.now in
    let self = c.args.self.now in
    let p = c.args.process in
    let left = left_found n self c.requires.progress p c.requires.process c.index_mut.result.now
    c.index_mut.ensures.value in
    omega (
      arith,
      length-drop (cut_of self p) (n.script p),
      ap length (sym left ∙ c.in_default.ensures.0),
      c.requires.left,
    )

pub returns-clause-event : goal.returns-clause-event
returns-clause-event c =
    let n = net_of c.args.network.now in
    let self = c.args.self.now in
    let p = c.args.process in
    let left = left_found n self c.requires.progress p c.requires.process c.index_mut.result.now
    c.index_mut.ensures.value in
    event_found n (cut_of self) p c.index_mut.result.now (Some c.in-Some.event) left
    (sym (ap (λ (l : List Event). slice_get l 0) c.in-Some.ensures))

pub overflow_add-index_mut : goal.overflow_add-index_mut
overflow_add-index_mut c =
    let n = net_of c.args.network.now in
    let self = c.args.self.now in
    let p = c.args.process in
    let read = get_or_read self.positions.items p c.index_mut-2.result.now
    (omega (arith, c.requires.process, c.requires.progress.number)) c.index_mut-2.ensures.value 0 in
    omega (
      arith,
      c.requires.left,
      read,
      script_short n c.requires.progress.wired c.requires.progress.numbers p,
    )

pub count_token-requires : goal.count_token-requires
count_token-requires c =
    let n = net_of c.args.network.now in
    let self = c.args.self.now in
    let p = c.args.process in
    let left = left_found n self c.requires.progress p c.requires.process c.index_mut.result.now
    c.index_mut.ensures.value in
    let event = event_found n (cut_of self) p c.index_mut.result.now (Some c.in-Some.event) left
    (sym (ap (λ (l : List Event). slice_get l 0) c.in-Some.ensures)) in
    can_count n c.requires.progress.wired c.requires.progress.numbers (cut_of self) p c.in-Some.event
    c.deref_mut.result.now (c.deref_mut.ensures.value ∙ c.requires.progress.counts) event

pub returns-clause-cut : goal.returns-clause-cut
returns-clause-cut c =
    let self = c.args.self.now in
    let there : c.args.process < length self.positions.items =
    omega (arith, c.requires.process, c.requires.progress.number) in
    let read = get_or_read self.positions.items c.args.process c.index_mut-2.result.now there
    c.index_mut-2.ensures.value 0 in
    advanced_list self.positions.items c.args.process (c.index_mut-2.result.now + 1) there
    (ap (λ (value : ℕ). value + 1) read)

pub returns-clause-progress : goal.returns-clause-progress
returns-clause-progress c =
    let n = net_of c.args.network.now in
    let self = c.args.self.now in
    let p = c.args.process in
    let left = left_found n self c.requires.progress p c.requires.process c.index_mut.result.now
    c.index_mut.ensures.value in
    let event = event_found n (cut_of self) p c.index_mut.result.now (Some c.in-Some.event) left
    (sym (ap (λ (l : List Event). slice_get l 0) c.in-Some.ensures)) in
    let read = get_or_read self.positions.items p c.index_mut-2.result.now
    (omega (arith, c.requires.process, c.requires.progress.number)) c.index_mut-2.ensures.value 0 in
    progress_more n self _ c.requires.progress p c.requires.process c.in-Some.event event
    (c.index_mut-2.result.now + 1) (ap (λ (value : ℕ). value + 1) read) refl c.next.new.self
    (sym c.in-Some.ensures ∙ left) refl
    (take_at c.count_token.new.counts (drop (length c.count_token.new.counts) self.counts.items) self.counts.len
    (omega (arith, c.count_token.auto.counts, c.deref_mut.ensures.len, self.counts.ok.0))
    ∙ c.count_token.ensures
    ∙ ap (λ (counts : List TokenCounts). counts_after counts c.in-Some.event) c.deref_mut.ensures.value)
