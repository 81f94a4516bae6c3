use Rattle.std.proofs.Common.{◌<◌, ◌∙◌, ℕ, List, drop, length, slice_get, sym, ap, subst, arith}
use Rattle.std.proofs.lemmas.List.{take_at}
use Rattle.std.proofs.lemmas.List.FromFn.{length-map-range_with_len}
use Rattle.net_core.specs.Cuts.{Cut}
use Rattle.net_core.specs.Machine.{net_of}
use Rattle.net_core.specs.Progress.{cut_of}
use Rattle.witness_plan.specs.Records.{lengths_after}
use Rattle.witness_plan.specs.Sequential.{greatest_length}
use Rattle.witness_plan.proofs.OwnChannels.{put_there}
use Rattle.witness_plan.proofs.RecordLemmas.{cut_then, lengths_more}
use Rattle.witness_plan.proofs.recorder.Recorder.make_event.Goals as goal

pub make_event-event-requires-clause-left : goal.make_event-event-requires-clause-left
make_event-event-requires-clause-left c =
    subst (λ (k : Cut). k c.args.process < length ((net_of c.args.network.now).script c.args.process))
    (sym c.requires.recorder.cut) c.requires.left

pub note_event-requires-clause-channels : goal.note_event-requires-clause-channels
note_event-requires-clause-channels c =
    let n = net_of c.args.network.now in
    ap length (c.deref_mut.ensures.value ∙ c.requires.recorder.greatest)
    ∙ length-map-range_with_len (greatest_length n c.args.self.now.schedule) 0 n.channels

pub note_event-requires-clause-there : goal.note_event-requires-clause-there
note_event-requires-clause-there c =
    put_there (net_of c.args.network.now) c.requires.recorder.progress.wired c.args.process
    (cut_of c.args.self.now.progress c.args.process) c.make_event-event.result c.make_event-event.ensures.event

pub returns-clause-recorder : goal.returns-clause-recorder
returns-clause-recorder c =
    let n = net_of c.args.network.now in
    let p = c.args.process in
    let self = c.args.self.now in
    let e = c.make_event-event.result in
    let new : Cut = cut_of c.make_event-event.new.self in
    let grown = c.in_ok-push.ensures.ok in
    let event = sym (ap (λ (k : Cut). slice_get (n.script p) (k p)) c.requires.recorder.cut)
    ∙ c.make_event-event.ensures.event in
    let at = cut_then self.schedule c.push.new.self p (cut_of self.progress) new grown c.requires.recorder.cut
    c.make_event-event.ensures.cut in
    record {
      progress = c.make_event-event.ensures.progress;
      cut = at;
      greatest =
          take_at c.note_event.new.greatest (drop (length c.note_event.new.greatest) self.greatest.items)
          self.greatest.len
          (omega (arith, c.note_event.auto.greatest, c.deref_mut.ensures.len, self.greatest.ok.0))
          ∙ c.note_event.ensures
          ∙ ap (λ (lengths : List ℕ). lengths_after n new lengths e) c.deref_mut.ensures.value
          ∙ lengths_more n c.requires.recorder.progress.wired self.schedule c.push.new.self p e event grown new at
          self.greatest.items c.requires.recorder.greatest;
    }
