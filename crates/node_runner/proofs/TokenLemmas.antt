-- The tokens of a channel, one for each of its Puts.
use Rattle.std.proofs.Common.{◌≡◌, ◌≤◌, ◌+◌, ◌-◌, ◌==◌, ℕ, zero, suc, pred, true, cond, Option, Some, None, List, []}
use Rattle.std.proofs.Common.{◌∷◌, ◌++◌, length, take, slice_get, count_by, refl, sym, ap, ◌∙◌, arith, zero-add}
use Rattle.std.proofs.Common.{suc-add, inl, inr, eq-eqb, take_all}
use Rattle.std.proofs.lemmas.Bool.{cases_Bool}
use Rattle.std.proofs.lemmas.Option.{slice_get_within}
use Rattle.sanlp.specs.declared.nest.Inputs.{Inputs}
use Rattle.sanlp.specs.declared.nest.Nest.{Nest}
use Rattle.sanlp.specs.declared.nest.Tag.{Tag}
use Rattle.net_core.specs.declared.network.Event.{Event}
use Rattle.net_core.specs.declared.network.Event.TheVariants.{Get, Fire, Put}
use Rattle.net_core.specs.declared.network.Network.{Network}
use Rattle.net_core.specs.Machine.{Net, net_of, start, after}
use Rattle.net_core.specs.Cuts.{positions}
use Rattle.net_core.specs.Names.{tag, with_token, tokens_before, tokens}
use Rattle.net_core.specs.Rules.{values}
use Rattle.net_core.specs.Shape.{is_get, is_put, fires}
use Rattle.net_core.specs.Sound.{IsSound}
use Rattle.net_core.proofs.PlaceValues.{tokens_length}
use Rattle.net_core.proofs.Positions.{run_counted, start_counted}
use Rattle.plain_data.proofs.Lists.{slice_get_push, slice_get-append_left}

with_token_keeps : (n : Net) (c k : ℕ) (o : Option Event) (ts : List Tag) (m : ℕ) (t : Tag) → slice_get ts m ≡ Some t
    → slice_get (with_token n c k o ts) m ≡ Some t
with_token_keeps n c k None ts m t at = at
with_token_keeps n c k (Some (Get d slot)) ts m t at = at
with_token_keeps n c k (Some (Fire refs)) ts m t at = at
with_token_keeps n c k (Some (Put d)) ts m t at =
    elim (cases_Bool (c == d)) [
      | inl same ↦ rw same (slice_get-append_left ts _ m (slice_get_within ts m t at) ∙ at)
      | inr other ↦ rw other at
    ]

-- a Put's token stands behind those of the Puts before, from its Put on
put_stays : (n : Net) (c k more : ℕ) → slice_get (n.script (n.writer c)) k ≡ Some (Put c)
    → slice_get (tokens_before n c (more + suc k)) (length (tokens_before n c k))
    ≡ Some (tag (n.writer c) (pred (fires n (n.writer c) k)))
put_stays n c k zero is =
    let ts = tokens_before n c k in
    let new = tag (n.writer c) (pred (fires n (n.writer c) k)) in
    let itself : (c == c) ≡ true = eq-eqb c c refl in
    let put : tokens_before n c (suc k) ≡ ts ++ new ∷ [] =
    ap (λ o. with_token n c k o ts) is ∙ ap (λ b. cond b (ts ++ new ∷ []) ts) itself in
    rw (zero-add (suc k)) (ap (λ l. slice_get l (length ts)) put ∙ slice_get_push ts new)
put_stays n c k (suc more) is =
    rw (suc-add more (suc k))
    (
    with_token_keeps n c (more + suc k) (slice_get (n.script (n.writer c)) (more + suc k))
    (tokens_before n c (more + suc k)) (length (tokens_before n c k))
    (tag (n.writer c) (pred (fires n (n.writer c) k))) (put_stays n c k more is)
    )

pub token_of_put : (n : Net) (c k : ℕ) → slice_get (n.script (n.writer c)) k ≡ Some (Put c)
    → slice_get (tokens n c) (count_by (is_put c) (take k (n.script (n.writer c))))
    ≡ Some (tag (n.writer c) (pred (fires n (n.writer c) k)))
token_of_put n c k is =
    let len = length (n.script (n.writer c)) in
    let lt = slice_get_within (n.script (n.writer c)) k (Put c) is in
    let whole : (len - suc k) + suc k ≡ len = omega arith in
    ap (slice_get (tokens n c)) (sym (tokens_length n c k))
    ∙ ap (λ j. slice_get (tokens_before n c j) (length (tokens_before n c k))) (sym whole)
    ∙ put_stays n c k (len - suc k) is

-- in a sound network no channel has more Gets than tokens
pub enough_tokens : (nest : Nest) (network : Network) (d : Inputs) → IsSound nest network → (c : ℕ)
    → count_by (is_get c) ((net_of network).script ((net_of network).reader c)) ≤ length (tokens (net_of network) c)
enough_tokens nest network d sound c =
    let n = net_of network in
    let rule = values nest d in
    let all = (sound.ends d).ends [] tt in
    let end = after n rule (start n) all.0 in
    let counted = run_counted n rule sound.fits.shaped.wired all.0 (start n) (start_counted n) all.1 in
    let got : count_by (is_get c) (take (positions end (n.reader c)) (n.script (n.reader c)))
    ≡ count_by (is_get c) (n.script (n.reader c)) =
    ap (λ k. count_by (is_get c) (take k (n.script (n.reader c)))) (all.2 (n.reader c))
    ∙ ap (count_by (is_get c)) (take_all (length (n.script (n.reader c))) (n.script (n.reader c)) (omega arith)) in
    let put : count_by (is_put c) (take (positions end (n.writer c)) (n.script (n.writer c))) ≡ length (tokens n c) =
    ap (λ k. count_by (is_put c) (take k (n.script (n.writer c)))) (all.2 (n.writer c))
    ∙ sym (tokens_length n c (length (n.script (n.writer c)))) in
    omega (arith, counted.queues c, got, put)
