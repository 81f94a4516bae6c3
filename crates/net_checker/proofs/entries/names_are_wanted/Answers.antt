use Rattle.std.proofs.Common.{◌≡◌, ◌+◌, false, refl, ap, sym, ◌∙◌, arith, below_more}
use Rattle.net_core.specs.Names.{name_of}
use Rattle.net_checker.specs.Entries.{is_wanted}
use Rattle.net_checker.specs.Lookups.{source_in}
use Rattle.net_checker.proofs.FireVerdicts.{reference_judged, reference_refused, reference_wanted}
use Rattle.net_checker.proofs.FireVerdicts.{references_fine}
use Rattle.net_checker.specs.SlotRows.{slots_in}
use Rattle.net_checker.proofs.entries.names_are_wanted.Goals as goal

pub loop-read-preserved : goal.loop-read-preserved
loop-read-preserved c = λ points entry.
    let refs = c.args.refs.now in
    let r = c.at.result in
    below_more _ _ (c.loop-read.invariant points entry)
    (sym (reference_judged points c.args.table.now.of
    c.args.first_read c.args.turn (slots_in c.args.slots.now) entry refs c.loop-read.read r c.at.ensures.item)
    ∙ reference_wanted points entry (name_of (slots_in c.args.slots.now) r)
    (source_in c.args.table.now.of (c.args.first_read + c.loop-read.read) c.args.turn)
    (ap (is_wanted (name_of (slots_in c.args.slots.now) r)) (sym c.source_in-source.ensures) ∙ sym c.is_wanted.ensures
    ∙ c.if-not-is_wanted.false))

pub returns-then-not-is_wanted : goal.returns-then-not-is_wanted
returns-then-not-is_wanted c = λ points entry.
    let slots = slots_in c.args.slots.now in
    let refs = c.args.refs.now in
    let r = c.at.result in
    let source = source_in c.args.table.now.of (c.args.first_read + c.loop-read.read) c.args.turn in
    let wrong : is_wanted (name_of slots r) source ≡ false =
    ap (is_wanted (name_of slots r)) (sym c.source_in-source.ensures) ∙ sym c.is_wanted.ensures
    ∙ c.if-not-is_wanted.true in (
      λ yes. cc,
      λ none. absurd (reference_refused points c.args.table.now.of c.args.first_read c.args.turn slots entry refs
          c.loop-read.read r c.at.ensures.item wrong none),
    )

pub returns : goal.returns
returns c = λ points entry. (
  λ _.
      sym (references_fine points c.args.table.now.of c.args.first_read c.args.turn (slots_in c.args.slots.now) entry
      c.args.refs.now (λ k lt. c.loop-read.invariant points entry k (omega arith))),
  λ _. refl,
)
