-- Each channel of a nest's network has a Put: it is there only for a writer of which some source of the read is a turn,
-- and that turn is a token.
--
-- The channels of a read are picked by that test, so each has a source of its writer (`IsPlanOf` of derived_names). The
-- source is a turn that the writer has, and it is used, so there is a token at least (`token_below` of witness_plan); and
-- the writer's whole script has no fewer Puts to the channel than tokens (`tokens_put`). It holds for the network of a
-- nest: that a network is wired doesn't say that anybody puts to each of its channels.
use Rattle.std.proofs.Common.{◌≡◌, ℕ, ◌<◌, ◌≤◌, true, Option, Some, None, List}
use Rattle.std.proofs.Common.{length, slice_get, get_or, count_by, refl, ap, ◌∙◌}
use Rattle.std.proofs.Common.{arith}
use Rattle.std.specs.List.{list_any}
use Rattle.std.proofs.lemmas.Bool.{eqb-true}
use Rattle.std.proofs.lemmas.List.FromFn.{get_or-map-range_with_len, length-map-range_with_len}
use Rattle.channel_plan.specs.declared.plans.ChannelPlan.{ChannelPlan}
use Rattle.channel_plan.specs.Plans.{plans_of, sources_at, turn_count}
use Rattle.channel_plan.specs.Reads.{IsTurnAmong}
use Rattle.channel_plan.specs.Tokens.{is_from, tokens_below, turns_used}
use Rattle.channel_plan.proofs.Nests.{sources_among, turns_of_all}
use Rattle.derived_names.proofs.UsesOfReads.{IsPlanOf, any_found, plans_are, turn_is_used}
use Rattle.net_core.specs.Machine.{net_of}
use Rattle.net_core.specs.Shape.{is_put, put_count}
use Rattle.plain_data.proofs.Lists.{slice_get-some, All-slice_get}
use Rattle.process_derive.specs.Derived.{net}
use Rattle.process_derive.specs.Scripts.{script}
use Rattle.process_derive.proofs.Numbers.{count_channels, script_at}
use Rattle.process_derive.proofs.ScriptNames.{writer_at}
use Rattle.sanlp.specs.declared.nest.Nest.{Nest}
use Rattle.sanlp.specs.declared.nest.Tag.{Tag}
use Rattle.sanlp.proofs.Members.{at_in, each_in}
use Rattle.witness_plan.proofs.TokensPut.{tokens_put}
use Rattle.witness_plan.proofs.SourcesBefore.{token_below}

-- Sources

own_source : (w : ℕ) (source : Option Tag) → is_from w source ≡ true
    → (t : Tag) × (source ≡ Some t) × (t.process ≡ w)
own_source w None h = absurd (cc)
own_source w (Some t) h = (t, refl, eqb-true t.process w h)

-- the place of a source that is a turn of w
pub source_from : (w : ℕ) (sources : List (Option Tag)) → list_any (is_from w) sources ≡ true
    → (f : ℕ) × (t : Tag) × (slice_get sources f ≡ Some (Some t)) × (t.process ≡ w)
source_from w sources h =
    let at = any_found (is_from w) sources h in
    let own = own_source w at.1 at.3 in
    (at.0, own.0, at.2 ∙ ap Some own.1, own.2)

-- Channels

pub channel_puts : (n : Nest) (c : ℕ) → c < (net_of (net n)).channels → 0 < put_count (net_of (net n)) c
channel_puts n c lt =
    let found = slice_get-some (plans_of n) c (omega (arith, count_channels n)) in
    let plan : ChannelPlan = found.0 in
    let w = plan.writer in
    let sources = sources_at n plan.reader plan.read in
    let source =
    source_from w sources (each_in (IsPlanOf n) plan (plans_of n) (plans_are n) (at_in plan (plans_of n) c found.1)).is_read in
    let t : Tag = source.1 in
    let among : IsTurnAmong (turns_of_all n) (Some t) =
    All-slice_get (IsTurnAmong (turns_of_all n)) sources source.0 (Some t) (sources_among n plan.reader plan.read) source.2 in
    let process : t.process < length n.statements =
    omega (arith, among.0, length-map-range_with_len (turn_count n) 0 (length n.statements)) in
    let turns : get_or (turns_of_all n) t.process 0 ≡ turn_count n t.process =
    get_or-map-range_with_len (turn_count n) 0 (length n.statements) t.process t.process 0 process (omega arith) in
    let early : t.turn < turn_count n w = omega (arith, among.1, turns, ap (turn_count n) source.3) in
    let one =
    token_below (turns_used w sources) t.turn (turn_count n w) early
    (turn_is_used w sources source.0 t source.2 source.3) in
    let puts : tokens_below (turns_used w sources) (turn_count n w) ≤ count_by (is_put c) (script n w) =
    tokens_put n c plan found.1 (turn_count n w) (omega arith) in
    let whole : put_count (net_of (net n)) c ≡ count_by (is_put c) (script n w) =
    ap (λ p. count_by (is_put c) ((net_of (net n)).script p)) (writer_at n c plan found.1)
    ∙ ap (count_by (is_put c)) (script_at n w (omega (arith, process, source.3))) in
    omega (arith, one, puts, whole)
