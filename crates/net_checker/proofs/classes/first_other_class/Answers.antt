use Rattle.std.proofs.Common.{◌≡◌, ◌<◌, false, length, get_or, ap, sym, ◌∙◌, arith, below_more}
use Rattle.channel_class.specs.Classes.{class_of}
use Rattle.channel_class.specs.declared.UseOrder.TheVariants.{InOrder}
use Rattle.net_core.specs.declared.network.Channel.{Channel}
use Rattle.net_checker.specs.Classes.{used_class}
use Rattle.net_checker.proofs.FirstFault.{channel_fine, channel_wrong, classes_fine, list_used}
use Rattle.net_checker.proofs.Lists.{read_or}
use Rattle.net_checker.proofs.classes.first_other_class.Goals as goal

abbrev nothing : Channel
nothing =
    record { writer = 0; reader = 0; read = 0; capacity = 0; class = record { order = InOrder; multiplicity = false } }

pub returns-then-not-is_class : goal.returns-then-not-is_class
returns-then-not-is_class c =
    let network = c.args.network.now in
    let at = c.loop-at.at in
    let items = c.as_slice-channel-items.result.now in
    let is = read_or network.channels items at nothing c.as_slice-channel-items.ensures (omega arith) in
    let there : at < length c.args.lists.now =
    omega (arith, ap length c.as_slice-channel-items.ensures, c.requires.length) in
    let used : c.in_ok-class.class ≡ used_class network at =
    c.in_ok-class.ensures
    ∙ ap class_of
    (c.as_slice.ensures ∙ list_used c.args.lists.now at c.index-lists-at.result there c.index-lists-at.is
    ∙ c.requires.uses at (omega arith)) in
    channel_wrong network at (get_or items at nothing) c.in_ok-class.class is used
    (sym c.is_class.ensures ∙ c.if-not-is_class.true) c.loop-at.invariant

pub loop-at-preserved : goal.loop-at-preserved
loop-at-preserved c =
    let network = c.args.network.now in
    let at = c.loop-at.at in
    let items = c.as_slice-channel-items.result.now in
    let is = read_or network.channels items at nothing c.as_slice-channel-items.ensures (omega arith) in
    let there : at < length c.args.lists.now =
    omega (arith, ap length c.as_slice-channel-items.ensures, c.requires.length) in
    let used : c.in_ok-class.class ≡ used_class network at =
    c.in_ok-class.ensures
    ∙ ap class_of
    (c.as_slice.ensures ∙ list_used c.args.lists.now at c.index-lists-at.result there c.index-lists-at.is
    ∙ c.requires.uses at (omega arith)) in
    below_more _ _ c.loop-at.invariant
    (channel_fine network at (get_or items at nothing) c.in_ok-class.class is used
    (sym c.is_class.ensures ∙ c.if-not-is_class.false))

pub returns : goal.returns
returns c =
    let many = ap length c.as_slice-channel-items.ensures in
    classes_fine c.args.network.now (λ d lt. c.loop-at.invariant d (omega arith))
