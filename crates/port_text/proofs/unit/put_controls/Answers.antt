use Rattle.std.proofs.Common.{◌≡◌, ◌++◌, ◌∷◌, [], ◌+◌, take, slice_index, sym, subst}
use Rattle.std.specs.List.{AllZip}
use Rattle.std.proofs.lemmas.Grind.{take_at_read}
use Rattle.std.proofs.lemmas.Slice.Zip.{all_zipped_more}
use Rattle.port_text.specs.Units.{IsPutControlOf}
use Rattle.port_text.proofs.unit.put_controls.Goals as goal

pub loop-channel-preserved : goal.loop-channel-preserved
loop-channel-preserved c =
    let channels = c.args.channels.now in
    let k = c.loop-channel.channel-index in
    let controls = c.loop-channel.controls in
    let one = c.in_ok-put_control.field-0 in
    let R = IsPutControlOf c.args.script.now in
    let next : take (k + 1) channels ≡ take k channels ++ slice_index channels k ∷ [] =
    (take_at_read channels k 0 c.loop-channel-test.true).1 in
    subst (AllZip R (take (k + 1) channels)) (sym c.in_ok-push.ensures.ok)
    (subst (λ xs. AllZip R xs (controls ++ one ∷ [])) (sym next)
    (all_zipped_more R (take k channels) controls (slice_index channels k) one c.loop-channel.invariant
    c.in_ok-put_control.ensures))
