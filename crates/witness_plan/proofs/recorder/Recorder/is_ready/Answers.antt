use Rattle.std.proofs.Common.{Some, sym, ap, ◌∙◌}
use Rattle.std.specs.Prelude.{nat_lt}
use Rattle.net_core.specs.Cuts.{Cut, cut_after, gets_at, opening, puts_at}
use Rattle.net_core.specs.Machine.{net_of}
use Rattle.witness_plan.specs.Schedules.{could_come_at}
use Rattle.witness_plan.proofs.recorder.Recorder.is_ready.Goals as goal

pub has_token-requires-clause-channel : goal.has_token-requires-clause-channel
has_token-requires-clause-channel c =
    let event = sym c.in-Some-Get.ensures ∙ ap Some c.in-Some-Get.field-0-is in
    c.requires.recorder.progress.wired.get_channel c.args.process
    (cut_after opening c.args.self.now.schedule c.args.process) _ _ event

pub returns-in-Some-Get : goal.returns-in-Some-Get
returns-in-Some-Get c =
    let n = net_of c.args.network.now in
    let event = sym c.in-Some-Get.ensures ∙ ap Some c.in-Some-Get.field-0-is in
    c.has_token.ensures
    ∙ ap (λ (k : Cut). nat_lt (gets_at n k c.in-Some-Get.channel) (puts_at n k c.in-Some-Get.channel))
    c.requires.recorder.cut
    ∙ sym (ap (could_come_at n (cut_after opening c.args.self.now.schedule)) event)
