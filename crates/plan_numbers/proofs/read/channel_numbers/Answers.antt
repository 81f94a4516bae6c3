use Rattle.std.proofs.Common.{◌≡◌, ◌<◌, ◌+◌, map, length, get_or, sym, ap, ◌∙◌, arith}
use Rattle.std.specs.List.{range_with_len}
use Rattle.std.proofs.lemmas.List.{get_or_read}
use Rattle.std.proofs.lemmas.List.Elements.{All-weaker}
use Rattle.std.proofs.lemmas.List.FromFn.{get_or-map-range_with_len, length-map-range_with_len}
use Rattle.channel_plan.specs.Tokens.{is_used, tokens_below}
use Rattle.plan_numbers.specs.Numbers.{tokens_before}
use Rattle.plan_numbers.proofs.Channels.{numbers_are, tokens_told}
use Rattle.plan_numbers.proofs.Classes.{class_alike}
use Rattle.plan_numbers.proofs.read.channel_numbers.Goals as goal

pub tokens_before-requires : goal.tokens_before-requires
tokens_before-requires c =
    omega (
      arith,
      ap length (c.deref.ensures.value ∙ c.in_ok-marked.ensures.tokens),
      length-map-range_with_len (is_used c.args.used.now) 0 c.args.turns,
      c.requires.few,
    )

pub index-tokens-requires : goal.index-tokens-requires
index-tokens-requires c =
    let used = c.args.used.now in
    let turns = c.args.turns in
    let told =
    c.in_ok-before.ensures
    ∙ ap tokens_before (c.deref.ensures.value ∙ c.in_ok-marked.ensures.tokens)
    ∙ tokens_told turns used in
    omega (
      arith,
      c.in_ok-before.before.ok.0,
      ap length told,
      length-map-range_with_len (tokens_below used) 0 (turns + 1),
    )

pub slots_held-requires-clause-few : goal.slots_held-requires-clause-few
slots_held-requires-clause-few c =
    let used = c.args.used.now in
    let turns = c.args.turns in
    let told =
    c.deref-2.ensures.value ∙ c.in_ok-before.ensures
    ∙ ap tokens_before (c.deref.ensures.value ∙ c.in_ok-marked.ensures.tokens)
    ∙ tokens_told turns used in
    omega (arith, ap length told, length-map-range_with_len (tokens_below used) 0 (turns + 1), c.requires.few)

pub slots_held-requires-clause-within : goal.slots_held-requires-clause-within
slots_held-requires-clause-within c =
    let used = c.args.used.now in
    let turns = c.args.turns in
    let told =
    c.deref-2.ensures.value ∙ c.in_ok-before.ensures
    ∙ ap tokens_before (c.deref.ensures.value ∙ c.in_ok-marked.ensures.tokens)
    ∙ tokens_told turns used in
    let many = ap length told ∙ length-map-range_with_len (tokens_below used) 0 (turns + 1) in
    All-weaker (λ turn. turn < turns) (λ turn. turn < length c.deref-2.result.now) (λ turn below. omega (arith, many))
    used c.requires.within

pub slots_held-requires-clause-numbered : goal.slots_held-requires-clause-numbered
slots_held-requires-clause-numbered c =
    let used = c.args.used.now in
    let turns = c.args.turns in
    let told =
    c.deref-2.ensures.value ∙ c.in_ok-before.ensures
    ∙ ap tokens_before (c.deref.ensures.value ∙ c.in_ok-marked.ensures.tokens)
    ∙ tokens_told turns used in
    let many = ap length told ∙ length-map-range_with_len (tokens_below used) 0 (turns + 1) in
    told ∙ ap (λ m. map (tokens_below used) (range_with_len 0 m)) (sym many)

pub slots_held-requires-clause-class : goal.slots_held-requires-clause-class
slots_held-requires-clause-class c = c.in_ok-marked.ensures.class ∙ class_alike c.args.used.now

pub returns : goal.returns
returns c =
    let used = c.args.used.now in
    let turns = c.args.turns in
    let told =
    c.in_ok-before.ensures
    ∙ ap tokens_before (c.deref.ensures.value ∙ c.in_ok-marked.ensures.tokens)
    ∙ tokens_told turns used in
    let many = ap length told ∙ length-map-range_with_len (tokens_below used) 0 (turns + 1) in
    let tokens : c.index-tokens.result.now ≡ tokens_below used turns =
    get_or_read c.in_ok-before.before.items turns c.index-tokens.result.now (omega (arith, many)) c.index-tokens.ensures 0
    ∙ ap (λ xs. get_or xs turns 0) told
    ∙ get_or-map-range_with_len (tokens_below used) 0 (turns + 1) turns turns 0 (omega arith) (omega arith) in
    numbers_are c.args.reader c.args.read c.args.writer turns used _ _ _ _ (c.from_vec.ensures ∙ told) tokens
    (c.in_ok-marked.ensures.class ∙ class_alike used) c.in_ok-hold.ensures
