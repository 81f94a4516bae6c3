use Rattle.std.proofs.Common.{◌≡◌, ℕ, List, Bool, IfOk, length, subst, ap, ◌∙◌, arith}
use Rattle.std.proofs.lemmas.List.FromFn.{length-map-range_with_len}
use Rattle.std.specs.List.{list_any}
use Rattle.channel_plan.specs.Tokens.{is_from}
use Rattle.channel_plan.proofs.Marks.{places_are}
use Rattle.channel_plan.proofs.writers.writers_of.Goals as goal

pub places-requires : goal.places-requires
places-requires c =
    let present : ℕ → Bool = λ w. list_any (is_from w) c.args.sources.now in
    let count : length c.in_ok-marks.marks.items ≡ length c.args.turns.now =
    ap length c.in_ok-marks.ensures ∙ length-map-range_with_len present 0 (length c.args.turns.now) in
    omega (arith, ap length c.deref.ensures.value, count, c.requires.few.processes)

pub returns : goal.returns
returns c =
    let present : ℕ → Bool = λ w. list_any (is_from w) c.args.sources.now in
    let found =
    places_are present c.deref.result.now (length c.args.turns.now) (c.deref.ensures.value ∙ c.in_ok-marks.ensures) in
    subst (λ (writers : List ℕ). IfOk c.places.result (λ places. places.items ≡ writers)) found c.places.ensures
