-- The stream of a channel, from what its writer has kept.
use Rattle.std.proofs.Common.{◌≡◌, ◌<◌, ◌≤◌, ◌+◌, ◌-◌, ℕ, zero, suc, pred, true, false, true≢false, cond, ℤ}
use Rattle.std.proofs.Common.{Some, List, [], ◌∷◌, ◌++◌, length, map, slice_get, refl, sym, ap, ◌∙◌}
use Rattle.std.proofs.Common.{arith, inl, inr, sub-one}
use Rattle.std.proofs.lemmas.Bool.{cases_lt, cases_eq}
use Rattle.std.proofs.lemmas.List.{map-append}
use Rattle.std.specs.Option.{option_map_or}
use Rattle.std.specs.declared.vec.Vec.{Vec}
use Rattle.std.specs.Global.{Global}
use Rattle.sanlp.specs.declared.nest.Inputs.{Inputs}
use Rattle.sanlp.specs.declared.nest.Nest.{Nest}
use Rattle.sanlp.specs.declared.nest.Tag.{Tag}
use Rattle.net_core.specs.declared.network.Event.{Event}
use Rattle.net_core.specs.declared.network.Event.TheVariants.{Get, Fire, Put}
use Rattle.net_core.specs.declared.network.Network.{Network}
use Rattle.net_core.specs.Machine.{Net, State, net_of, start, after}
use Rattle.net_core.specs.Names.{tag, with_token, tokens_before, fired}
use Rattle.net_core.specs.Orders.{EndsAll}
use Rattle.net_core.specs.Rules.{tags, values}
use Rattle.net_core.specs.Shape.{fires, is_put}
use Rattle.net_core.specs.Sound.{IsSound, tag_value}
use Rattle.net_core.proofs.EveryOrder.{same_ends}
use Rattle.net_core.proofs.PlaceValues.{ended_kept}
use Rattle.net_core.proofs.FireValues.{gives_values}
use Rattle.node_runner.specs.Logs.{nth_stream}
use Rattle.node_runner.specs.Nodes.{incoming, outgoing}
use Rattle.node_runner.proofs.LogLemmas.{incoming_past, outgoing_past}
use Rattle.node_runner.proofs.EventSteps.{length_fired}
use Rattle.plain_data.proofs.Lists.{slice_get_push, slice_get-append_left}

-- along a schedule that ends all, each process keeps the values of its fires
pub kept_along : (nest : Nest) (network : Network) (d : Inputs) → IsSound nest network
    → (run : List ℕ) (begun last : State ℤ) → EndsAll (net_of network) tags run → begun ≡ start (net_of network)
    → last ≡ after (net_of network) (values nest d) begun run → (p : ℕ)
    → (last.local p).kept ≡ fired (tag_value nest d) p (fires (net_of network) p (length ((net_of network).script p)))
kept_along nest network d sound run begun last whole opening stepped p =
    let n = net_of network in
    let wired = sound.fits.shaped.wired in
    let ended = same_ends n tags (values nest d) wired run whole in
    ap (λ (s : State ℤ). (s.local p).kept) (stepped ∙ ap (λ (s : State ℤ). after n (values nest d) s run) opening)
    ∙ ended_kept n (values nest d) wired (tag_value nest d) run
    (gives_values nest network sound.fits sound.names d) ended.0 ended.1 p

-- One value of what was fired

at_end : {T : Type 0} (xs : List T) (y : T) (m : ℕ) (x : T) → length xs ≤ m → slice_get (xs ++ y ∷ []) m ≡ Some x
    → (m ≡ length xs) × (x ≡ y)
at_end [] y zero x le e = (refl, cc)
at_end [] y (suc m) x le e = absurd (cc)
at_end (z ∷ xs) y zero x le e = absurd (omega arith)
at_end (z ∷ xs) y (suc m) x le e = let r = at_end xs y m x (omega arith) e in (ap suc r.0, r.1)

fired_at : {T : Type 0} (v : Tag → T) (p f m : ℕ) (x : T) → slice_get (fired v p f) m ≡ Some x → x ≡ v (tag p m)
fired_at v p zero m x is = absurd (cc)
fired_at v p (suc f) m x is =
    elim (cases_lt m (length (fired v p f))) [
      | inl lt ↦ fired_at v p f m x (sym (slice_get-append_left (fired v p f) (v (tag p f) ∷ []) m lt) ∙ is)
      | inr le ↦
          let last = at_end (fired v p f) (v (tag p f)) m x le is in
          last.1 ∙ ap (λ i. v (tag p i)) (sym (last.0 ∙ length_fired v p f))
    ]

-- One event

with_put : (n : Net) (c k : ℕ) (e : Event) (ts : List Tag) → is_put c e ≡ true
    → with_token n c k (Some e) ts ≡ ts ++ tag (n.writer c) (pred (fires n (n.writer c) k)) ∷ []
with_put n c k (Get d slot) ts is = absurd (true≢false (sym is))
with_put n c k (Fire refs) ts is = absurd (true≢false (sym is))
with_put n c k (Put d) ts is = ap (λ b. cond b (ts ++ tag (n.writer c) (pred (fires n (n.writer c) k)) ∷ []) ts) is

without_put : (n : Net) (c k : ℕ) (e : Event) (ts : List Tag) → is_put c e ≡ false → with_token n c k (Some e) ts ≡ ts
without_put n c k (Get d slot) ts is = refl
without_put n c k (Fire refs) ts is = refl
without_put n c k (Put d) ts is = ap (λ b. cond b (ts ++ tag (n.writer c) (pred (fires n (n.writer c) k)) ∷ []) ts) is

module _ (n : Net) (v : Tag → ℤ) (c k : ℕ) (e : Event) (at : slice_get (n.script (n.writer c)) k ≡ Some e)
    (old : List ℤ) (was : old ≡ map v (tokens_before n c k)) where
  pub put_more : (kept new : List ℤ) (total many : ℕ) (x : ℤ) → is_put c e ≡ true → kept ≡ fired v (n.writer c) total
      → many ≡ fires n (n.writer c) k → slice_get kept (many - 1) ≡ Some x
      → new ≡ old ++ x ∷ [] → new ≡ map v (tokens_before n c (suc k))
  put_more kept new total many x put kept_is many_is here grown =
      let w = n.writer c in
      let ts = tokens_before n c k in
      let t = tag w (pred (fires n w k)) in
      let token : tokens_before n c (suc k) ≡ ts ++ t ∷ [] =
      ap (λ o. with_token n c k o ts) at ∙ with_put n c k e ts put in
      let value : x ≡ v t =
      fired_at v w total (many - 1) x (ap (λ l. slice_get l (many - 1)) (sym kept_is) ∙ here)
      ∙ ap (λ i. v (tag w i)) (sub-one many ∙ ap pred many_is) in
      grown ∙ ap (λ l. l ++ x ∷ []) was ∙ ap (λ y. map v ts ++ y ∷ []) value ∙ sym (map-append v ts (t ∷ []))
      ∙ ap (map v) (sym token)

  pub put_none : is_put c e ≡ false → old ≡ map v (tokens_before n c (suc k))
  put_none none =
      was ∙ ap (map v)
      (sym (ap (λ o. with_token n c k o (tokens_before n c k)) at ∙ without_put n c k e (tokens_before n c k) none))

-- Ends over the same streams

pub same_incoming : (s t : ℕ → List ℤ) (network : Network) (p : ℕ) → ((c : ℕ) → c < length network.channels → s c ≡ t c)
    → (c : ℕ) → incoming s network p c ≡ incoming t network p c
same_incoming s t network p same c =
    elim (cases_lt c (length network.channels)) [
      | inl lt ↦ ap (λ (stream : List ℤ). incoming (λ _. stream) network p c) (same c lt)
      | inr past ↦ incoming_past s network p c past ∙ sym (incoming_past t network p c past)
    ]

pub same_outgoing : (s t : ℕ → List ℤ) (network : Network) (p : ℕ) → ((c : ℕ) → c < length network.channels → s c ≡ t c)
    → (c : ℕ) → outgoing s network p c ≡ outgoing t network p c
same_outgoing s t network p same c =
    elim (cases_lt c (length network.channels)) [
      | inl lt ↦ ap (λ (stream : List ℤ). outgoing (λ _. stream) network p c) (same c lt)
      | inr past ↦ outgoing_past s network p c past ∙ sym (outgoing_past t network p c past)
    ]

-- Lists of streams that grow by one

pub more_streams : (streams streams' : List (Vec ℤ Global)) (x : Vec ℤ Global) (at : ℕ) (f : ℕ → List ℤ)
    → streams' ≡ streams ++ x ∷ [] → length streams ≡ at
    → ((c : ℕ) → c < at → nth_stream streams c ≡ f c) → x.items ≡ f at → (c : ℕ) → c < at + 1
    → nth_stream streams' c ≡ f c
more_streams streams streams' x at f grown many before here c lt =
    ap (λ l. nth_stream l c) grown
    ∙ elim (cases_eq c at) [
      | inl same ↦
          ap (λ i. nth_stream (streams ++ x ∷ []) i) (same ∙ sym many)
          ∙ ap (λ o. option_map_or (λ (s : Vec ℤ Global). s.items) o []) (slice_get_push streams x)
          ∙ here ∙ ap f (sym same)
      | inr other ↦
          let lower : c < at = omega arith in
          ap (λ o. option_map_or (λ (s : Vec ℤ Global). s.items) o [])
          (slice_get-append_left streams (x ∷ []) c (omega (arith, many)))
          ∙ before c lower
    ]
