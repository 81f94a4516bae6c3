use Rattle.std.proofs.Common.{Some, sym, ap, ◌∙◌, arith}
use Rattle.std.proofs.lemmas.Bool.{OnTrue_at}
use Rattle.std.specs.Prelude.{slice_index}
use Rattle.net_core.specs.Machine.{net_of}
use Rattle.net_core.specs.Progress.{cut_of}
use Rattle.cap_trim.proofs.NeededPlaces.{place_needed}
use Rattle.cap_trim.proofs.Rings.{needs_one_more}
use Rattle.cap_trim.proofs.needed_places.needing_place.Goals as goal

pub bounds-places-channel : goal.bounds-places-channel
bounds-places-channel c =
    let event = sym c.in-Some-Put.ensures ∙ ap Some c.in-Some-Put.field-0-is in
    let wired = c.requires.progress.wired in
    omega (
      arith,
      c.requires.places,
      wired.put_channel c.loop-process.process (cut_of c.args.progress.now c.loop-process.process) _ event,
    )

-- a first place
pub returns-then-places-channel-eq0-clause-needed : goal.returns-then-places-channel-eq0-clause-needed
returns-then-places-channel-eq0-clause-needed c =
    let n = net_of c.args.network.now in
    let p = c.loop-process.process in
    let k = cut_of c.args.progress.now in
    let event = sym c.in-Some-Put.ensures ∙ ap Some c.in-Some-Put.field-0-is in
    λ can. omega (
      arith,
      place_needed n c.requires.progress.wired c.in-Some-Put.channel p (k p) event can,
    )

-- a place more for the ring
pub returns-then-is_ring-clause-needed : goal.returns-then-is_ring-clause-needed
returns-then-is_ring-clause-needed c =
    let n = net_of c.args.network.now in
    needs_one_more n c.requires.progress.wired (cut_of c.args.progress.now) c.in-Some-Put.channel
    c.loop-process.process (OnTrue_at c.if-is_ring.true c.is_ring.ensures) (slice_index c.args.places.now)
    c.requires.stuck
