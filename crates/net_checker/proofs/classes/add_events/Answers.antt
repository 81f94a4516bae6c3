use Rattle.std.proofs.Common.{◌≡◌, [], ap, ◌∙◌, append-nil}
use Rattle.std.proofs.lemmas.Result.{on_ok_weaker}
use Rattle.script_blocks.specs.Expansion.{parts_expansion}
use Rattle.net_core.specs.Machine.{net_of}
use Rattle.net_checker.specs.SlotRows.{slots_in}
use Rattle.net_checker.proofs.ChannelUses.{collected_gets, collected_none, collected_uses}
use Rattle.net_checker.proofs.classes.add_events.Goals as goal

pub add_parts-requires : goal.add_parts-requires
add_parts-requires c =
    let net = net_of c.args.fitting.now.network.now in
    let p = c.args.process in
    let all : parts_expansion c.as_slice-parts.result.now ≡ net.script p =
    ap parts_expansion c.as_slice-parts.ensures ∙ c.blocks-2.ensures.stands ∙ c.script_of.ensures in
    record {
      first_gets = c.args.gets.now;
      first_uses = c.args.uses.now;
      before = [];
      after = [];
      whole = append-nil (parts_expansion c.as_slice-parts.result.now) ∙ all;
      fresh = c.requires.fresh;
      collected = collected_none net p c.args.gets.now c.args.uses.now (slots_in c.args.slots.now) c.requires.gets
          c.requires.uses c.requires.slots;
    }

pub returns-clause-gets : goal.returns-clause-gets
returns-clause-gets c =
    let net = net_of c.args.fitting.now.network.now in
    let p = c.args.process in
    let all : parts_expansion c.as_slice-parts.result.now ≡ net.script p =
    ap parts_expansion c.as_slice-parts.ensures ∙ c.blocks-2.ensures.stands ∙ c.script_of.ensures in
    on_ok_weaker c.add_parts.result
    (λ collects d lt.
    collected_gets net p c.args.gets.now c.args.uses.now c.add_parts.new.gets c.add_parts.new.uses
    (slots_in c.add_parts.new.slots) (parts_expansion c.as_slice-parts.result.now)
    (collects (record {
      first_gets = c.args.gets.now;
      first_uses = c.args.uses.now;
      before = [];
      after = [];
      whole = append-nil (parts_expansion c.as_slice-parts.result.now) ∙ all;
      fresh = c.requires.fresh;
      collected = collected_none net p c.args.gets.now c.args.uses.now (slots_in c.args.slots.now) c.requires.gets
          c.requires.uses c.requires.slots;
    })) all d lt) c.add_parts.ensures

pub returns-clause-uses : goal.returns-clause-uses
returns-clause-uses c =
    let net = net_of c.args.fitting.now.network.now in
    let p = c.args.process in
    let all : parts_expansion c.as_slice-parts.result.now ≡ net.script p =
    ap parts_expansion c.as_slice-parts.ensures ∙ c.blocks-2.ensures.stands ∙ c.script_of.ensures in
    on_ok_weaker c.add_parts.result
    (λ collects d lt.
    collected_uses net p c.args.gets.now c.args.uses.now c.add_parts.new.gets c.add_parts.new.uses
    (slots_in c.add_parts.new.slots) (parts_expansion c.as_slice-parts.result.now)
    (collects (record {
      first_gets = c.args.gets.now;
      first_uses = c.args.uses.now;
      before = [];
      after = [];
      whole = append-nil (parts_expansion c.as_slice-parts.result.now) ∙ all;
      fresh = c.requires.fresh;
      collected = collected_none net p c.args.gets.now c.args.uses.now (slots_in c.args.slots.now) c.requires.gets
          c.requires.uses c.requires.slots;
    })) all d lt) c.add_parts.ensures
