use Rattle.std.proofs.Common.{◌<◌, ℕ, length, count_by, subst, sym, ap, ◌∙◌, arith}
use Rattle.std.specs.List.{All}
use Rattle.std.proofs.lemmas.List.Elements.{All-same}
use Rattle.channel_class.specs.Classes.{class_of}
use Rattle.reorder_slots.specs.Slots.{NamesAllBelow}
use Rattle.channel_plan.specs.Plans.{slot_plan}
use Rattle.channel_plan.specs.Tokens.{tokens_among, turns_used, uses_of}
use Rattle.channel_plan.proofs.Channels.{channel_is}
use Rattle.channel_plan.proofs.Uses.{few_uses, long_marks, marks_all, names_all_below, uses_found}
use Rattle.channel_plan.proofs.read.channel_of.Goals as goal

pub token_count-tokens-requires : goal.token_count-tokens-requires
token_count-tokens-requires c =
    let marks = c.deref-2.ensures.value ∙ c.in_ok-is_token.ensures in
    omega (arith, long_marks c.args.turns c.deref.result.now c.deref-2.result.now marks, c.requires.few)

pub uses_of-requires-clause-few : goal.uses_of-requires-clause-few
uses_of-requires-clause-few c =
    let marks = c.deref-3.ensures.value ∙ c.in_ok-is_token.ensures in
    omega (arith, long_marks c.args.turns c.deref.result.now c.deref-3.result.now marks, c.requires.few)

pub uses_of-requires-clause-within : goal.uses_of-requires-clause-within
uses_of-requires-clause-within c =
    let used = turns_used c.args.writer c.args.sources.now in
    let marks = c.deref-3.ensures.value ∙ c.in_ok-is_token.ensures in
    All-same (λ turn. turn < length c.deref-3.result.now) c.in_ok-used.used.items used c.in_ok-used.ensures
    (subst (λ (n : ℕ). All (λ turn. turn < n) used)
    (sym (long_marks c.args.turns c.deref.result.now c.deref-3.result.now marks)) c.requires.within)

pub slots_of-requires-clause-dense : goal.slots_of-requires-clause-dense
slots_of-requires-clause-dense c =
    let used = turns_used c.args.writer c.args.sources.now in
    let marks =
    c.deref-3.ensures.value ∙ c.in_ok-is_token.ensures ∙ ap (tokens_among c.args.turns) c.deref.ensures.value in
    let uses = uses_found c.args.turns used c.in_ok-used.used.items c.in_ok-uses.uses.items c.deref-3.result.now
    c.in_ok-used.ensures marks c.in_ok-uses.ensures c.requires.within in
    subst (λ us. NamesAllBelow us) (sym (c.deref-5.ensures.value ∙ uses)) (names_all_below used)

pub slots_of-requires-clause-small : goal.slots_of-requires-clause-small
slots_of-requires-clause-small c =
    let used = turns_used c.args.writer c.args.sources.now in
    let marks =
    c.deref-3.ensures.value ∙ c.in_ok-is_token.ensures ∙ ap (tokens_among c.args.turns) c.deref.ensures.value in
    let uses = uses_found c.args.turns used c.in_ok-used.used.items c.in_ok-uses.uses.items c.deref-3.result.now
    c.in_ok-used.ensures marks c.in_ok-uses.ensures c.requires.within in
    All-same (λ named. named < 4294967295) c.deref-5.result.now (uses_of used) (c.deref-5.ensures.value ∙ uses)
    (few_uses c.args.turns used (omega (arith, c.requires.few)) c.requires.within)

pub slots_of-requires-clause-class : goal.slots_of-requires-clause-class
slots_of-requires-clause-class c =
    c.in_ok-class.ensures ∙ ap class_of (c.deref-4.ensures.value ∙ sym c.deref-5.ensures.value)

pub returns : goal.returns
returns c =
    let turns = c.args.turns in
    let used = turns_used c.args.writer c.args.sources.now in
    let marks = c.in_ok-is_token.ensures ∙ ap (tokens_among turns) c.deref.ensures.value in
    let uses = uses_found turns used c.in_ok-used.used.items c.in_ok-uses.uses.items c.deref-3.result.now
    c.in_ok-used.ensures (c.deref-3.ensures.value ∙ marks) c.in_ok-uses.ensures c.requires.within in
    let tokens = marks ∙ ap (tokens_among turns) c.in_ok-used.ensures in
    let planned = c.deref-5.ensures.value ∙ uses in
    channel_is c.args.reader c.args.read c.args.sources.now turns c.args.writer
    c.in_ok-marks.marks c.token_count-tokens.result c.in_ok-class.class c.in_ok-slots.slots
    (c.in_ok-marks.ensures ∙ c.deref-6.ensures.value ∙ tokens)
    (c.token_count-tokens.ensures ∙ ap (count_by (λ mark. mark)) (c.deref-2.ensures.value ∙ tokens)
    ∙ marks_all turns used)
    (c.in_ok-class.ensures ∙ ap class_of (c.deref-4.ensures.value ∙ uses))
    (c.in_ok-slots.ensures ∙ ap slot_plan planned)
