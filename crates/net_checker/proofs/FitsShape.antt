-- Nothing is wrong with shape and fires exactly where the network fits the nest's points and reads.
--
-- Both ways, process by process and event by event: a test that answers nothing is the fact that it tests, and a fact
-- makes its test answer nothing. The one step that isn't by a single event is the number of fires: each fire's turn is
-- below the points, so there are never more fires than points (`fires_bounded`, by induction on the place), and the
-- test at the script's end says that there are no fewer. `first` tells the least process; that it is the least is a
-- matter of Choices and not of this file.
use Rattle.std.proofs.Common.{◌≡◌, ℕ, zero, suc, ◌<◌, ◌≤◌, true, false, cond, eqb, ltb, leb, ◌&&◌, Option, Some, None}
use Rattle.std.proofs.Common.{List, [], ◌∷◌, length, take, slice_get, count_by, refl, sym, ap, ◌∙◌, inl, inr, arith}
use Rattle.std.proofs.Common.{ltb-true, lt-ltb, eqb-true, eq-eqb}
use Rattle.std.proofs.lemmas.Bool.{and_parts, and_from, cases_lt, le-ltb, leb-true, le-leb, ltb-false}
use Rattle.std.proofs.lemmas.List.{get_or_past}
use Rattle.std.proofs.lemmas.List.Elements.{All-nil, All-cons, All-head, All-tail}
use Rattle.std.proofs.lemmas.List.Sums.{sum_by-take-le}
use Rattle.std.proofs.lemmas.Option.{slice_get_past, slice_get_within}
use Rattle.std.specs.List.{list_all, All}
use Rattle.std.proofs.Math.Seq.{take-length}
use Rattle.sanlp.specs.Access.{read_count}
use Rattle.sanlp.specs.declared.nest.Nest.{Nest}
use Rattle.sanlp.specs.Points.{points_of}
use Rattle.source_tree.specs.declared.cert.Cert.{Cert}
use Rattle.net_core.specs.declared.network.Channel.{Channel}
use Rattle.net_core.specs.declared.network.Event.{Event}
use Rattle.net_core.specs.declared.network.Event.TheVariants.{Get, Fire, Put}
use Rattle.net_core.specs.declared.network.Network.{Network}
use Rattle.net_core.specs.declared.refs.Ref.{Ref}
use Rattle.net_core.specs.declared.refs.Ref.TheVariants.{Zero, Slot}
use Rattle.net_core.specs.Machine.{Net, net_of}
use Rattle.net_core.specs.Shape.{fires, is_fire, is_any_get, turns, IsWithin, IsWired}
use Rattle.net_core.specs.Sound.{FitsNest}
use Rattle.net_core.proofs.EventCounts.{count_next}
use Rattle.net_checker.specs.declared.verdict.Refusal.TheVariants as refusal
use Rattle.net_checker.specs.Choice.{first_below}
use Rattle.net_checker.specs.Shapes.{read_total, channel_agrees, agrees, is_own_event, process_shape, shape_refusal}
use Rattle.net_checker.specs.Firings.{is_within, may_stand, event_firing, process_firing, firing_refusal}
use Rattle.sanlp.proofs.NestFacts.{points_length}
use Rattle.net_checker.proofs.Choices.{or_none, first_none, none_first}
use Rattle.net_checker.proofs.Lists.{passes_where_none, fails_where_none, all_at, each_all}
use Rattle.plain_data.proofs.Lists.{slice_get-some}

-- Numbers of a nest's points

turns_past : (n : Nest) (p : ℕ) → length n.statements ≤ p → turns (points_of n) p ≡ 0
turns_past n p le = ap length (get_or_past (points_of n) p [] (omega (arith, points_length n)))

-- Fires of one process

count_take : (xs : List Event) (k : ℕ) → count_by is_fire (take k xs) ≤ count_by is_fire xs
count_take xs k = sum_by-take-le (λ e. cond (is_fire e) 1 0) xs k

-- every event may stand where it does
abbrev AllMayStand : Nest → Net → ℕ → Type 0
AllMayStand n net p =
    (k : ℕ) (e : Event) → slice_get (net.script p) k ≡ Some e → may_stand n net p (fires net p k) e ≡ true

-- what a fire that may stand keeps to
pub record StandsAsFire (n : Nest) (net : Net) (p before : ℕ) (refs : List Ref) : Type 0 where
  pub turn : before < turns (points_of n) p
  pub references : length refs ≡ read_count n p
  pub slots : list_all (is_within (net.slots p)) refs ≡ true

fire_stands : (n : Nest) (net : Net) (p before : ℕ) (refs : List Ref) → may_stand n net p before (Fire refs) ≡ true
    → StandsAsFire n net p before refs
fire_stands n net p before refs may =
    let a = ltb before (turns (points_of n) p) in
    let b = eqb (length refs) (read_count n p) in
    let c = list_all (is_within (net.slots p)) refs in
    let outer = and_parts (a && b) c may in
    let inner = and_parts a b outer.0 in
    record { turn = ltb-true _ _ inner.0; references = eqb-true _ _ inner.1; slots = outer.1 }

stands_fire : (n : Nest) (net : Net) (p before : ℕ) (refs : List Ref) → StandsAsFire n net p before refs
    → may_stand n net p before (Fire refs) ≡ true
stands_fire n net p before refs h =
    and_from _ _ (and_from _ _ (lt-ltb _ _ h.turn) (eq-eqb _ _ h.references)) h.slots

-- so there are no more fires than points
fires_step : (n : Nest) (net : Net) (p k : ℕ) (e : Event) → slice_get (net.script p) k ≡ Some e
    → may_stand n net p (fires net p k) e ≡ true → fires net p k ≤ turns (points_of n) p
    → fires net p (suc k) ≤ turns (points_of n) p
fires_step n net p k (Get c slot) is may before = omega (arith, count_next is_fire (net.script p) k (Get c slot) is)
fires_step n net p k (Put c) is may before = omega (arith, count_next is_fire (net.script p) k (Put c) is)
fires_step n net p k (Fire refs) is may before =
    let stands = fire_stands n net p (fires net p k) refs may in
    omega (arith, count_next is_fire (net.script p) k (Fire refs) is, stands.turn)

fires_bounded : (n : Nest) (net : Net) (p : ℕ) → AllMayStand n net p → (k : ℕ) → k ≤ length (net.script p)
    → fires net p k ≤ turns (points_of n) p
fires_bounded n net p stand zero le = omega arith
fires_bounded n net p stand (suc k) le =
    let item = slice_get-some (net.script p) k (omega arith) in
    fires_step n net p k item.0 item.1 (stand k item.0 item.1) (fires_bounded n net p stand k (omega arith))

-- a process whose fires are right
pub record FiresRightly (n : Nest) (net : Net) (p : ℕ) : Type 0 where
  pub stand : AllMayStand n net p
  pub turns : count_by is_fire (net.script p) ≡ turns (points_of n) p

none_stands : (n : Nest) (net : Net) (p k : ℕ) (o : Option Event) (e : Event) → o ≡ Some e
    → event_firing n net p k o ≡ None → may_stand n net p (fires net p k) e ≡ true
none_stands n net p k None e is h = cc
none_stands n net p k (Some d) e is h =
    let same : d ≡ e = cc in
    rw (← same) (passes_where_none (may_stand n net p (fires net p k) d) (refusal.Fires p k) h)

pub none_fires : (n : Nest) (net : Net) (p : ℕ) → process_firing n net p ≡ None → FiresRightly n net p
none_fires n net p h =
    let script = net.script p in
    let short = ltb (count_by is_fire script) (turns (points_of n) p) in
    let parts =
    or_none (first_below (λ k. event_firing n net p k (slice_get script k)) (length script))
    (cond short (Some (refusal.Fires p (length script))) None) h in
    let stand : AllMayStand n net p =
    λ k e is. none_stands n net p k (slice_get script k) e is
    (none_first (λ k. event_firing n net p k (slice_get script k)) (length script) parts.0 k
    (slice_get_within script k e is)) in
    let high : turns (points_of n) p ≤ count_by is_fire script =
    ltb-false _ _ (fails_where_none short (refusal.Fires p (length script)) parts.1) in
    let low : fires net p (length script) ≤ turns (points_of n) p =
    fires_bounded n net p stand (length script) (omega arith) in
    let all : fires net p (length script) ≡ count_by is_fire script = ap (count_by is_fire) (take-length script) in
    record { stand = stand; turns = omega arith }

event_stands : (n : Nest) (net : Net) (p k : ℕ) (o : Option Event)
    → ((e : Event) → o ≡ Some e → may_stand n net p (fires net p k) e ≡ true) → event_firing n net p k o ≡ None
event_stands n net p k None h = refl
event_stands n net p k (Some e) h = rw (h e refl) refl

pub fires_none : (n : Nest) (net : Net) (p : ℕ) → FiresRightly n net p → process_firing n net p ≡ None
fires_none n net p right =
    let script = net.script p in
    let each : first_below (λ k. event_firing n net p k (slice_get script k)) (length script) ≡ None =
    first_none _ _ (λ k lt. event_stands n net p k (slice_get script k) (right.stand k)) in
    let long : ltb (count_by is_fire script) (turns (points_of n) p) ≡ false =
    le-ltb _ _ (omega (arith, right.turns)) in
    rw (each, long) refl

-- The shape of one process

-- an event that is its process's own
pub record KeepsShape (net : Net) (p : ℕ) : Type 0 where
  pub own : (k : ℕ) (e : Event) → slice_get (net.script p) k ≡ Some e → is_own_event net p e ≡ true
  pub few_slots : net.slots p ≤ count_by is_any_get (net.script p)

pub none_shape : (net : Net) (p : ℕ) → process_shape net p ≡ None → KeepsShape net p
none_shape net p h =
    let a = list_all (is_own_event net p) (net.script p) in
    let b = leb (net.slots p) (count_by is_any_get (net.script p)) in
    let parts = and_parts a b (passes_where_none (a && b) (refusal.Shape p) h) in
    record {
      own = λ k e is. all_at (is_own_event net p) (net.script p) k e parts.0 is;
      few_slots =
          leb-true _ _ parts.1;
    }

pub shape_none : (net : Net) (p : ℕ) → KeepsShape net p → process_shape net p ≡ None
shape_none net p keeps =
    let own = each_all (is_own_event net p) (net.script p) keeps.own in
    let few = le-leb (net.slots p) (count_by is_any_get (net.script p)) keeps.few_slots in
    rw (own, few) refl

pub record IsOwnGet (net : Net) (p c slot : ℕ) : Type 0 where
  pub channel : c < net.channels
  pub reader : net.reader c ≡ p
  pub within : slot < net.slots p

own_get : (net : Net) (p c slot : ℕ) → is_own_event net p (Get c slot) ≡ true → IsOwnGet net p c slot
own_get net p c slot h =
    let a = ltb c net.channels in
    let b = eqb (net.reader c) p in
    let outer = and_parts (a && b) (ltb slot (net.slots p)) h in
    let inner = and_parts a b outer.0 in
    record { channel = ltb-true _ _ inner.0; reader = eqb-true _ _ inner.1; within = ltb-true _ _ outer.1 }

own_put : (net : Net) (p c : ℕ) → is_own_event net p (Put c) ≡ true → (c < net.channels) × (net.writer c ≡ p)
own_put net p c h =
    let parts = and_parts (ltb c net.channels) (eqb (net.writer c) p) h in
    (ltb-true _ _ parts.0, eqb-true _ _ parts.1)

-- The network as a whole

pub record Agrees (n : Nest) (network : Network) (cert : Cert) : Type 0 where
  pub processes : length network.processes ≡ length n.statements
  pub sources : length cert.sources ≡ read_total n
  pub channels : (c : ℕ) (channel : Channel) → slice_get network.channels c ≡ Some channel
      → channel_agrees n channel ≡ true

agrees_parts : (n : Nest) (network : Network) (cert : Cert) → agrees n network cert ≡ true → Agrees n network cert
agrees_parts n network cert h =
    let a = eqb (length network.processes) (length n.statements) in
    let b = eqb (length cert.sources) (read_total n) in
    let outer = and_parts (a && b) (list_all (channel_agrees n) network.channels) h in
    let inner = and_parts a b outer.0 in
    record {
      processes = eqb-true _ _ inner.0;
      sources = eqb-true _ _ inner.1;
      channels = λ c channel is. all_at (channel_agrees n) network.channels c channel outer.1 is;
    }

parts_agree : (n : Nest) (network : Network) (cert : Cert) → Agrees n network cert → agrees n network cert ≡ true
parts_agree n network cert h =
    and_from _ _ (and_from _ _ (eq-eqb _ _ h.processes) (eq-eqb _ _ h.sources))
    (each_all (channel_agrees n) network.channels h.channels)

pub record ChannelAgrees (n : Nest) (channel : Channel) : Type 0 where
  pub writer : channel.writer < length n.statements
  pub reader : channel.reader < length n.statements
  pub read : channel.read < read_count n channel.reader

channel_parts : (n : Nest) (channel : Channel) → channel_agrees n channel ≡ true → ChannelAgrees n channel
channel_parts n channel h =
    let a = ltb channel.writer (length n.statements) in
    let b = ltb channel.reader (length n.statements) in
    let outer = and_parts (a && b) (ltb channel.read (read_count n channel.reader)) h in
    let inner = and_parts a b outer.0 in
    record { writer = ltb-true _ _ inner.0; reader = ltb-true _ _ inner.1; read = ltb-true _ _ outer.1 }

parts_channel : (n : Nest) (channel : Channel) → ChannelAgrees n channel → channel_agrees n channel ≡ true
parts_channel n channel h = and_from _ _ (and_from _ _ (lt-ltb _ _ h.writer) (lt-ltb _ _ h.reader)) (lt-ltb _ _ h.read)

-- All together

-- a reference that passes the test is within
within_true : (slots : ℕ) (r : Ref) → is_within slots r ≡ true → IsWithin slots r
within_true slots Zero h = tt
within_true slots (Slot k) h = ltb-true _ _ h

true_within : (slots : ℕ) (r : Ref) → IsWithin slots r → is_within slots r ≡ true
true_within slots Zero h = refl
true_within slots (Slot k) h = lt-ltb _ _ h

module _ (n : Nest) (network : Network) where
  abbrev net : Net
  net = net_of network

  -- a process that isn't there has no event and no slot
  no_script : (p : ℕ) → length network.processes ≤ p → net.script p ≡ []
  no_script p le = rw (slice_get_past network.processes p le) refl

  no_slots : (p : ℕ) → length network.processes ≤ p → net.slots p ≡ 0
  no_slots p le = rw (slice_get_past network.processes p le) refl

  wired : (cert : Cert) → Agrees n network cert → ((p : ℕ) → p < length network.processes → KeepsShape net p)
      → ((p : ℕ) → p < length network.processes → FiresRightly n net p) → IsWired net
  wired cert agree shapes rights = record {
    bounded = no_script;
    writers =
        λ c lt. (let ch = slice_get-some network.channels c lt in let w =
        (channel_parts n ch.0 (agree.channels c ch.0 ch.1)).writer in let e : net.writer c
        ≡ ch.0.writer = rw ch.1 refl in omega (arith, agree.processes));
    readers =
        λ c lt. (let ch = slice_get-some network.channels c lt in let r =
        (channel_parts n ch.0 (agree.channels c ch.0 ch.1)).reader in let e : net.reader c
        ≡ ch.0.reader = rw ch.1 refl in omega (arith, agree.processes));
    get_channel = λ p k c slot is. (get p k c slot is).channel;
    get_reader = λ p k c slot is. (get p k c slot is).reader;
    get_slot = λ p k c slot is. (get p k c slot is).within;
    put_channel = λ p k c is. (put p k c is).0;
    put_writer = λ p k c is. (put p k c is).1;
    put_fired = λ p k c is. ltb-true _ _ ((rights p (there p k (Put c) is)).stand k (Put c) is);
    reference_slots =
        λ p k refs is. refs_within p (net.slots p) refs
        ((fire_stands n net p (fires net p k) refs
        ((rights p (there p k (Fire refs) is)).stand k (Fire refs) is)).slots);
  }
    where
      -- an event is one of a process that is there
      there : (p k : ℕ) (e : Event) → slice_get (net.script p) k ≡ Some e → p < length network.processes
      there p k e is =
          elim (cases_lt p (length network.processes)) [
            | inl lt ↦ lt
            | inr past ↦
                let lt = slice_get_within (net.script p) k e is in
                absurd (omega (arith, ap length (no_script p past)))
          ]

      get : (p k c slot : ℕ) → slice_get (net.script p) k ≡ Some (Get c slot) → IsOwnGet net p c slot
      get p k c slot is = own_get net p c slot ((shapes p (there p k (Get c slot) is)).own k (Get c slot) is)

      put : (p k c : ℕ) → slice_get (net.script p) k ≡ Some (Put c) → (c < net.channels) × (net.writer c ≡ p)
      put p k c is = own_put net p c ((shapes p (there p k (Put c) is)).own k (Put c) is)

      refs_within : (p slots : ℕ) (refs : List Ref) → list_all (is_within slots) refs ≡ true → All (IsWithin slots) refs
      refs_within p slots [] h = All-nil (IsWithin slots)
      refs_within p slots (r ∷ refs) h =
          let parts = and_parts (is_within slots r) (list_all (is_within slots) refs) h in
          All-cons (IsWithin slots) r refs (within_true slots r parts.0) (refs_within p slots refs parts.1)

  -- the network fits the nest where nothing is wrong with its shape and its fires
  fits : (cert : Cert) → Agrees n network cert → ((p : ℕ) → p < length network.processes → KeepsShape net p)
      → ((p : ℕ) → p < length network.processes → FiresRightly n net p) → FitsNest n network
  fits cert agree shapes rights = record {
    shaped = record {
      processes = agree.processes ∙ sym (points_length n);
      wired = wired cert agree shapes rights;
      turns = λ p. elim (cases_lt p (length network.processes)) [
        | inl lt ↦ (rights p lt).turns
        | inr past ↦ ap (count_by is_fire) (no_script p past) ∙ sym (turns_past n p (omega (arith, agree.processes)))
      ];
      few_slots =
          λ p. elim (cases_lt p
          (length network.processes)) [ inl lt ↦ (shapes p lt).few_slots | inr past ↦ omega (arith, no_slots p past) ];
    };
    references = λ p k refs is. (stands p k refs is).references;
    reads = λ c channel is. (channel_parts n channel (agree.channels c channel is)).read;
  }
    where
      stands : (p k : ℕ) (refs : List Ref) → slice_get (net.script p) k ≡ Some (Fire refs)
          → StandsAsFire n net p (fires net p k) refs
      stands p k refs is =
          elim (cases_lt p (length network.processes)) [
            | inl lt ↦ fire_stands n net p (fires net p k) refs ((rights p lt).stand k (Fire refs) is)
            | inr past ↦
                let lt = slice_get_within (net.script p) k (Fire refs) is in
                absurd (omega (arith, ap length (no_script p past)))
          ]

  -- and the other way round
  fits_agree : (cert : Cert) → FitsNest n network → length cert.sources ≡ read_total n → Agrees n network cert
  fits_agree cert fit sources = record {
    processes = fit.shaped.processes ∙ points_length n;
    sources = sources;
    channels = λ c channel is. parts_channel n channel (parts c channel is);
  }
    where
      parts : (c : ℕ) (channel : Channel) → slice_get network.channels c ≡ Some channel → ChannelAgrees n channel
      parts c channel is =
          let lt = slice_get_within network.channels c channel is in
          let writer : net.writer c ≡ channel.writer = rw is refl in
          let reader : net.reader c ≡ channel.reader = rw is refl in
          let many = fit.shaped.processes ∙ points_length n in
          record {
            writer = omega (arith, fit.shaped.wired.writers c lt);
            reader = omega (arith, fit.shaped.wired.readers c lt);
            read = fit.reads c channel is;
          }

  own_event : FitsNest n network → (p k : ℕ) (e : Event) → slice_get (net.script p) k ≡ Some e
      → is_own_event net p e ≡ true
  own_event fit p k (Get c slot) is =
      let w = fit.shaped.wired in
      and_from _ _ (and_from _ _ (lt-ltb _ _ (w.get_channel p k c slot is)) (eq-eqb _ _ (w.get_reader p k c slot is)))
      (lt-ltb _ _ (w.get_slot p k c slot is))
  own_event fit p k (Fire refs) is = refl
  own_event fit p k (Put c) is =
      let w = fit.shaped.wired in
      and_from _ _ (lt-ltb _ _ (w.put_channel p k c is)) (eq-eqb _ _ (w.put_writer p k c is))

  fits_shapes : FitsNest n network → (p : ℕ) → KeepsShape net p
  fits_shapes fit p = record { own = own_event fit p; few_slots = fit.shaped.few_slots p }

  -- a fire has a point left
  pub turn_left : FitsNest n network → (p k : ℕ) (refs : List Ref) → slice_get (net.script p) k ≡ Some (Fire refs)
      → fires net p k < turns (points_of n) p
  turn_left fit p k refs is =
      omega (
        arith,
        fit.shaped.turns p,
        count_next is_fire (net.script p) k (Fire refs) is,
        count_take (net.script p) (suc k),
      )

  event_may_stand : FitsNest n network → (p k : ℕ) (e : Event) → slice_get (net.script p) k ≡ Some e
      → may_stand n net p (fires net p k) e ≡ true
  event_may_stand fit p k (Get c slot) is = refl
  event_may_stand fit p k (Put c) is = lt-ltb _ _ (fit.shaped.wired.put_fired p k c is)
  event_may_stand fit p k (Fire refs) is =
      stands_fire n net p (fires net p k) refs
      (record {
        turn = turn_left fit p k refs is;
        references = fit.references p k refs is;
        slots =
            slots refs (fit.shaped.wired.reference_slots p k refs is);
      })
    where
      slots : (refs : List Ref) → All (IsWithin (net.slots p)) refs → list_all (is_within (net.slots p)) refs ≡ true
      slots [] h = refl
      slots (r ∷ refs) h =
          and_from _ _ (true_within (net.slots p) r (All-head (IsWithin (net.slots p)) r refs h))
          (slots refs (All-tail (IsWithin (net.slots p)) r refs h))

  fits_fires : FitsNest n network → (p : ℕ) → FiresRightly n net p
  fits_fires fit p = record { stand = event_may_stand fit p; turns = fit.shaped.turns p }

  -- nothing is wrong with shape and fires: the network fits the nest
  pub none_fits : (cert : Cert) → shape_refusal n network cert ≡ None → firing_refusal n network ≡ None
      → FitsNest n network × (length cert.sources ≡ read_total n)
  unfolding shape_refusal firing_refusal
  none_fits cert h g =
      let whole = cond (agrees n network cert) None (Some (refusal.Shape (length n.statements))) in
      let parts = or_none whole (first_below (process_shape net) (length network.processes)) h in
      let agree =
      agrees_parts n network cert
      (passes_where_none (agrees n network cert) (refusal.Shape (length n.statements)) parts.0) in
      let shapes : (p : ℕ) → p < length network.processes → KeepsShape net p =
      λ p lt. none_shape net p (none_first (process_shape net) (length network.processes) parts.1 p lt) in
      let rights : (p : ℕ) → p < length network.processes → FiresRightly n net p =
      λ p lt. none_fires n net p (none_first (process_firing n net) (length network.processes) g p lt) in
      (fits cert agree shapes rights, agree.sources)

  pub fits_no_shape : (cert : Cert) → FitsNest n network → length cert.sources ≡ read_total n
      → shape_refusal n network cert ≡ None
  unfolding shape_refusal
  fits_no_shape cert fit sources =
      let agree = parts_agree n network cert (fits_agree cert fit sources) in
      rw agree (first_none (process_shape net) (length network.processes)
      (λ p lt. shape_none net p (fits_shapes fit p)))

  pub fits_no_firing : FitsNest n network → firing_refusal n network ≡ None
  unfolding firing_refusal
  fits_no_firing fit =
      first_none (process_firing n net) (length network.processes) (λ p lt. fires_none n net p (fits_fires fit p))
