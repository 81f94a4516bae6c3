use Rattle.std.proofs.Common.{Some, sym, ap, ◌∙◌, arith, eq-eqb}
use Rattle.net_core.specs.Machine.{net_of}
use Rattle.net_core.specs.Progress.{cut_of}
use Rattle.cap_trim.specs.Rings.{other_end, waits_at}
use Rattle.cap_trim.proofs.needed_places.waits_for.Goals as goal

pub returns-in-Some-Get-clause-there : goal.returns-in-Some-Get-clause-there
returns-in-Some-Get-clause-there c =
    let n = net_of c.args.network.now in
    let event = sym c.in-Some-Get.ensures ∙ ap Some c.in-Some-Get.field-0-is in
    let wired = c.requires.progress.wired in
    omega (
      arith,
      c.writer_of.ensures,
      wired.writers _ (wired.get_channel c.args.process (cut_of c.args.progress.now c.args.process) _ _ event),
    )

pub returns-in-Some-Get-clause-other : goal.returns-in-Some-Get-clause-other
returns-in-Some-Get-clause-other c =
    let n = net_of c.args.network.now in
    let event = sym c.in-Some-Get.ensures ∙ ap Some c.in-Some-Get.field-0-is in
    c.writer_of.ensures ∙ sym (ap (other_end n c.args.process) event)

pub returns-in-Some-Get-clause-waits : goal.returns-in-Some-Get-clause-waits
returns-in-Some-Get-clause-waits c =
    let event = sym c.in-Some-Get.ensures ∙ ap Some c.in-Some-Get.field-0-is in
    ap (waits_at c.args.channel) event

pub returns-then-to-channel-clause-there : goal.returns-then-to-channel-clause-there
returns-then-to-channel-clause-there c =
    let n = net_of c.args.network.now in
    let event = sym c.in-Some-Put.ensures ∙ ap Some c.in-Some-Put.field-0-is in
    let wired = c.requires.progress.wired in
    omega (
      arith,
      c.reader_of.ensures,
      wired.readers _ (wired.put_channel c.args.process (cut_of c.args.progress.now c.args.process) _ event),
    )

pub returns-then-to-channel-clause-other : goal.returns-then-to-channel-clause-other
returns-then-to-channel-clause-other c =
    let n = net_of c.args.network.now in
    let event = sym c.in-Some-Put.ensures ∙ ap Some c.in-Some-Put.field-0-is in
    c.reader_of.ensures ∙ sym (ap (other_end n c.args.process) event)

pub returns-then-to-channel-clause-waits : goal.returns-then-to-channel-clause-waits
returns-then-to-channel-clause-waits c =
    let event = sym c.in-Some-Put.ensures ∙ ap Some c.in-Some-Put.field-0-is in
    ap (waits_at c.args.channel) event ∙ eq-eqb c.args.channel c.in-Some-Put.to (omega arith)
