use Rattle.std.proofs.Common.{◌≡◌, ◌+◌, ◌<◌, ◌≤◌, List, ℕ, true, length, replicate, set, get_or, sym, ap, ◌∙◌, subst, arith}
use Rattle.std.specs.Prelude.{slice_index}
use Rattle.std.proofs.lemmas.List.{get_or_read}
use Rattle.net_core.specs.Cuts.{enabled_at}
use Rattle.net_core.specs.Machine.{net_of}
use Rattle.net_core.specs.Progress.{at_capacities, cut_of}
use Rattle.cap_trim.specs.Capacities.{trimmed_network}
use Rattle.cap_trim.specs.LeastRuns.{LeadsTo}
use Rattle.cap_trim.specs.Rests.{can_end}
use Rattle.cap_trim.proofs.NeededPlaces.{IsRaised, raised_all, raised_more, raised_none, raised_on}
use Rattle.cap_trim.proofs.needed_places.needed_places.Goals as goal

pub loop-init : goal.loop-init
loop-init c =
    let n = net_of c.args.wired.now.network.now in
    let none : c.in_ok-places.places.items ≡ replicate n.channels 0 =
    c.in_ok-places.ensures.items_if_clones_equal (λ y h. h) ∙ ap (λ k. replicate k 0) c.len.ensures in
    subst (λ (xs : List ℕ). IsRaised n xs c.in_ok-progress.progress) (sym none)
    (raised_none n c.in_ok-progress.progress c.in_ok-progress.ensures.progress c.in_ok-progress.ensures.opening)

pub returns-then-has_ended : goal.returns-then-has_ended
returns-then-has_ended c =
    let n = net_of c.args.wired.now.network.now in
    let run = subst (λ (xs : List ℕ). LeadsTo (at_capacities n xs) (cut_of c.loop.progress) (cut_of c.go_on.new.progress))
    c.deref.ensures.value c.go_on.ensures.run in
    let on = raised_on n c.loop.places.items c.loop.progress c.go_on.new.progress c.loop.invariant
    c.go_on.ensures.progress run in
    raised_all n c.args.wired.now.wired c.loop.places.items c.go_on.new.progress on (c.has_ended.ensures.0 c.if-has_ended.true)

pub needing_place-requires-clause-stuck : goal.needing_place-requires-clause-stuck
needing_place-requires-clause-stuck c =
    let n = net_of c.args.wired.now.network.now in
    let same : c.deref-in-loop.result.now ≡ c.deref.result.now = c.deref-in-loop.ensures.value ∙ sym c.deref.ensures.value in
    λ p. ap (λ (xs : List ℕ). enabled_at (at_capacities n xs) (cut_of c.go_on.new.progress) p) same
    ∙ c.go_on.ensures.stuck p

pub loop-preserved : goal.loop-preserved
loop-preserved c =
    let n = net_of c.args.wired.now.network.now in
    let places = c.loop.places.items in
    let channel = c.in-Some.channel in
    let run = subst (λ (xs : List ℕ). LeadsTo (at_capacities n xs) (cut_of c.loop.progress) (cut_of c.go_on.new.progress))
    c.deref.ensures.value c.go_on.ensures.run in
    let on = raised_on n places c.loop.progress c.go_on.new.progress c.loop.invariant c.go_on.ensures.progress run in
    let needed = subst
    (λ (xs : List ℕ). can_end n ≡ true → slice_index xs channel + 1 ≤ (trimmed_network n).capacity channel)
    c.deref-in-loop.ensures.value c.in-Some.ensures.needed in
    let there : channel < length places = omega (arith, c.in-Some.ensures.there, on.long) in
    let before : c.index.result.now ≡ get_or places channel 0 =
    get_or_read places channel c.index.result.now there c.index.ensures 0 in
    let changed : c.index_mut.result.now ≡ get_or places channel 0 =
    get_or_read places channel c.index_mut.result.now there c.index_mut.ensures.value 0 in
    subst (λ (x : ℕ). IsRaised n (set places channel (x + 1)) c.go_on.new.progress) (sym changed)
    (raised_more n c.args.wired.now.wired places c.go_on.new.progress on channel c.in-Some.ensures.there
    (omega (arith, c.capacity_of.ensures, before)) needed)
