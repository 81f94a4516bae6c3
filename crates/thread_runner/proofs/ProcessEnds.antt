-- The ends of all processes are made channel by channel.
--
-- The invariant (`AreMade`) is that each process has ends of just those channels below k that it reads
-- or writes, each end with its channel's stream and room, and that two ends of one channel are of one
-- line. One channel more sets one end in its writer's row and one in its reader's, which may be the
-- same process, and leaves all else as it was (`placed`). At place k no row had an end before, so an
-- end that is found there is the one just set (`joined_more`). When all channels are made, each process
-- has the ends that a run asks for (`made_all`). No value goes through an end here.
use Rattle.std.proofs.Common.{◌≡◌, ◌==◌, ◌<◌, ◌≤◌, ◌⊎◌, inl, inr, ⊎_elim, ℕ, zero, suc, ◌+◌, Bool, true, false, cond}
use Rattle.std.proofs.Common.{max, ℤ, Option, Some, None, List, [], ◌∷◌, length, slice_get, get_or, option_map, refl}
use Rattle.std.proofs.Common.{sym, ap, ◌∙◌, subst, arith, length-set, zero-add, eq-eqb, ne_eqb, lt-ltb, get_or-set_same}
use Rattle.std.specs.Prelude.{slice_index_or, slice_set, nat_lt}
use Rattle.std.specs.Option.{option_map_or, option_and_then}
use Rattle.std.proofs.lemmas.Bool.{cases_eq, cases_lt, le-ltb, cond-true, cond-false}
use Rattle.std.proofs.lemmas.List.FromFn.{get_or-map-range_with_len, length-map-range_with_len}
use Rattle.std.proofs.lemmas.Option.{slice_get_read, slice_get_within, slice_get-get_or, same_Some, none-some}
use Rattle.sanlp.specs.declared.nest.Inputs.{Inputs}
use Rattle.sanlp.specs.declared.nest.Nest.{Nest}
use Rattle.net_core.specs.declared.network.Channel.{Channel}
use Rattle.net_core.specs.declared.network.Network.{Network}
use Rattle.net_core.specs.Machine.{net_of}
use Rattle.net_core.specs.Shape.{IsWired}
use Rattle.ruled_links.specs.Ports.{Port, LinkEnd, link_end, fresh, AreOfOneLine, stream_at}
use Rattle.node_runner.specs.Nodes.{Ports, stream, incoming, outgoing}
use Rattle.node_runner.proofs.LogLemmas.{incoming_past, outgoing_past}
use Rattle.thread_runner.specs.declared.ends.NodeEnds.{NodeEnds}
use Rattle.thread_runner.specs.Runs.{AreEndsOf}
use Rattle.thread_runner.specs.Made.{port_at, all_streams, AreOfCapacity, AreOfCapacities, AreJoined, AreMade, IsPlaced}

-- Lists of which one item was set

set_off : {X : Type 0} (xs : List X) (k c : ℕ) (x d : X) → (c ≡ k → ⊥)
    → slice_index_or (slice_set xs k x) c d ≡ slice_index_or xs c d
set_off [] k c x d other = refl
set_off (y ∷ xs) zero zero x d other = absurd (other refl)
set_off (y ∷ xs) zero (suc c) x d other = refl
set_off (y ∷ xs) (suc k) zero x d other = refl
set_off (y ∷ xs) (suc k) (suc c) x d other = set_off xs k c x d (λ e. other (ap suc e))

one_set : {X : Type 0} (xs : List X) (k : ℕ) (y : X) (p : ℕ) (e : X) → slice_get (slice_set xs k y) p ≡ Some e
    → ((k ≡ p) × (y ≡ e)) ⊎ ((k ≡ p → ⊥) × (slice_get xs p ≡ Some e))
one_set [] k y p e h = absurd (cc)
one_set (x ∷ xs) zero y zero e h = inl (refl, same_Some y e h)
one_set (x ∷ xs) zero y (suc p) e h = inr ((λ s. absurd (omega (arith, s))), h)
one_set (x ∷ xs) (suc k) y zero e h = inr ((λ s. absurd (omega (arith, s))), h)
one_set {X} (x ∷ xs) (suc k) y (suc p) e h =
    ⊎_elim (λ (a : (k ≡ p) × (y ≡ e)). inl (ap suc a.0, a.1))
    (λ (b : (k ≡ p → ⊥) × (slice_get xs p ≡ Some e)). inr ((λ s. b.0 (omega (arith, s))), b.1))
    (one_set xs k y p e h)

-- One channel's ends are set

abbrev AfterPut : ℕ → ℕ → LinkEnd → List NodeEnds → ℕ → NodeEnds → Type 0
AfterPut c w put old q e =
    (o : NodeEnds) × (slice_get old q ≡ Some o)
    × (e.puts.items ≡ cond (w == q) (slice_set o.puts.items c (Some put)) o.puts.items)
    × (e.gets.items ≡ o.gets.items)

there_is : (xs : List NodeEnds) (k : ℕ) (x : NodeEnds) → k < length xs → x ≡ slice_index_or xs k x
    → slice_get xs k ≡ Some x
there_is xs k x lt is = slice_get_read xs (length xs) k x refl lt is

after_put : (c w : ℕ) (put : LinkEnd) (old : List NodeEnds) (was row : NodeEnds) → w < length old
    → was ≡ slice_index_or old w was → row.puts.items ≡ slice_set was.puts.items c (Some put)
    → row.gets.items ≡ was.gets.items
    → (q : ℕ) (e : NodeEnds) → slice_get (slice_set old w row) q ≡ Some e → AfterPut c w put old q e
after_put c w put old was row lt is puts gets q e h =
    ⊎_elim
    (λ (a : (w ≡ q) × (row ≡ e)). (
      was,
      ap (λ k. slice_get old k) (sym a.0) ∙ there_is old w was lt is,
      ap (λ (x : NodeEnds). x.puts.items) (sym a.1) ∙ puts
          ∙ sym (cond-true (w == q) (slice_set was.puts.items c (Some put)) was.puts.items (eq-eqb w q a.0)),
      ap (λ (x : NodeEnds). x.gets.items) (sym a.1) ∙ gets,
    ))
    (λ (b : (w ≡ q → ⊥) × (slice_get old q ≡ Some e)).
    (e, b.1, sym (cond-false (w == q) (slice_set e.puts.items c (Some put)) e.puts.items (ne_eqb w q b.0)), refl))
    (one_set old w row q e h)

pub placed : (c w r : ℕ) (put get : LinkEnd) (old : List NodeEnds) (was row was' row' : NodeEnds) → w < length old
    → r < length old → was ≡ slice_index_or old w was → row.puts.items ≡ slice_set was.puts.items c (Some put)
    → row.gets.items ≡ was.gets.items
    → was' ≡ slice_index_or (slice_set old w row) r was' → row'.gets.items ≡ slice_set was'.gets.items c (Some get)
    → row'.puts.items ≡ was'.puts.items → IsPlaced c w r put get old (slice_set (slice_set old w row) r row')
placed c w r put get old was row was' row' lt lt' is puts gets is' gets' puts' =
    let mid = slice_set old w row in
    let n : length mid ≡ length old = length-set old w row in
    record {
      number = length-set mid r row' ∙ n;
      rows = λ q e h.
          ⊎_elim
          (λ (a : (r ≡ q) × (row' ≡ e)).
          let f = after_put c w put old was row lt is puts gets q was'
          (ap (λ k. slice_get mid k) (sym a.0) ∙ there_is mid r was' (omega (arith, n)) is') in (
            f.0,
            f.1,
            (
              ap (λ (x : NodeEnds). x.puts.items) (sym a.1) ∙ puts' ∙ f.2,
              ap (λ (x : NodeEnds). x.gets.items) (sym a.1) ∙ gets' ∙ ap (λ l. slice_set l c (Some get)) f.3
                  ∙ sym (cond-true (r == q) (slice_set f.0.gets.items c (Some get)) f.0.gets.items (eq-eqb r q a.0)),
            ),
          ))
          (λ (b : (r ≡ q → ⊥) × (slice_get mid q ≡ Some e)).
          let f = after_put c w put old was row lt is puts gets q e b.1 in (
            f.0,
            f.1,
            (
              f.2,
              f.3
                  ∙ sym (cond-false (r == q) (slice_set f.0.gets.items c (Some get)) f.0.gets.items (ne_eqb r q b.0)),
            ),
          ))
          (one_set mid r row' q e h);
    }

-- One channel more is made

below_next : (c k : ℕ) → (c ≡ k → ⊥) → nat_lt c k ≡ nat_lt c (k + 1)
below_next c k other =
    elim (cases_lt c k) [
      | inl lt ↦ lt-ltb c k lt ∙ sym (lt-ltb c (k + 1) (omega arith))
      | inr le ↦ le-ltb c k le
          ∙ sym (le-ltb c (k + 1) (let past : (c ≡ k → ⊥) → k ≤ c → k + 1 ≤ c = λ n l. omega arith in past other le))
    ]

row_number : (b : Bool) (old new : List (Option LinkEnd)) (k : ℕ) (x : Option LinkEnd)
    → new ≡ cond b (slice_set old k x) old → length new ≡ length old
row_number true old new k x is = ap length is ∙ length-set old k x
row_number false old new k x is = ap length is

row_port : (b : Bool) (old new : List (Option LinkEnd)) (k : ℕ) (end : LinkEnd) (f : Ports)
    → new ≡ cond b (slice_set old k (Some end)) old → k < length old
    → ((c : ℕ) → port_at old c ≡ cond (nat_lt c k) (f c) None) → f k ≡ cond b (Some end.port) None → (c : ℕ)
    → port_at new c ≡ cond (nat_lt c (k + 1)) (f c) None
row_port b old new k end f is long before here c =
    elim (cases_eq c k) [
      | inl same ↦
          ap (λ i. port_at new i) same ∙ at_k b is here
          ∙ sym (cond-true (nat_lt c (k + 1)) (f k) None (lt-ltb c (k + 1) (omega arith)))
          ∙ ap (λ i. cond (nat_lt c (k + 1)) (f i) None) (sym same)
      | inr other ↦
          off_k b is other ∙ before c ∙ ap (λ t. cond t (f c) None) (below_next c k other)
    ]
  where
    at_k : (b : Bool) → new ≡ cond b (slice_set old k (Some end)) old → f k ≡ cond b (Some end.port) None
        → port_at new k ≡ f k
    at_k true is here =
        ap (λ l. port_at l k) is ∙ ap (option_map (λ (e : LinkEnd). e.port)) (get_or-set_same old k (Some end) None long)
        ∙ sym here
    at_k false is here =
        ap (λ l. port_at l k) is ∙ before k ∙ ap (λ t. cond t (f k) None) (le-ltb k k (omega arith)) ∙ sym here

    off_k : (b : Bool) → new ≡ cond b (slice_set old k (Some end)) old → (c ≡ k → ⊥) → port_at new c ≡ port_at old c
    off_k true is other =
        ap (λ l. port_at l c) is ∙ ap (option_map (λ (e : LinkEnd). e.port)) (set_off old k c (Some end) None other)
    off_k false is other = ap (λ l. port_at l c) is

row_holds : (network : Network) (b : Bool) (old new : List (Option LinkEnd)) (k : ℕ) (end : LinkEnd)
    → new ≡ cond b (slice_set old k (Some end)) old → end.capacity ≡ max ((net_of network).capacity k) 1
    → AreOfCapacity network old → AreOfCapacity network new
row_holds network false old new k end is room before c x h = before c x (ap (λ l. slice_get l c) (sym is) ∙ h)
row_holds network true old new k end is room before c x h =
    ⊎_elim
    (λ (a : (k ≡ c) × (Some end ≡ Some x)). ap (λ (e : LinkEnd). e.capacity) (sym (same_Some end x a.1)) ∙ room
    ∙ ap (λ i. max ((net_of network).capacity i) 1) a.0)
    (λ (a : (k ≡ c → ⊥) × (slice_get old c ≡ Some (Some x))). before c x a.1)
    (one_set old k (Some end) c (Some x) (ap (λ l. slice_get l c) (sym is) ∙ h))

-- The ends of a channel are joined

none_yet : (ends : List (Option LinkEnd)) (k : ℕ) (port : Option Port) → port_at ends k ≡ cond (nat_lt k k) port None
    → slice_index_or ends k None ≡ None
none_yet ends k port is =
    no_port (slice_index_or ends k None) (is ∙ ap (λ b. cond b port None) (le-ltb k k (omega arith)))
  where
    no_port : (o : Option LinkEnd) → option_map (λ (e : LinkEnd). e.port) o ≡ None → o ≡ None
    no_port None e = refl
    no_port (Some x) e = absurd (cc)

-- an end at channel c is the one that was just set, or it was there before
end_from : (b : Bool) (old new : List (Option LinkEnd)) (k c : ℕ) (end x : LinkEnd)
    → new ≡ cond b (slice_set old k (Some end)) old → k < length old
    → slice_index_or old k None ≡ None → slice_index_or new c None ≡ Some x
    → ((c ≡ k) × (end ≡ x)) ⊎ ((c ≡ k → ⊥) × (slice_index_or old c None ≡ Some x))
end_from b old new k c end x is long none here =
    elim (cases_eq c k) [
      | inl same ↦ inl (same, at_k b is (ap (λ i. slice_index_or new i None) (sym same) ∙ here))
      | inr other ↦ inr (other, off_k b is other)
    ]
  where
    at_k : (b : Bool) → new ≡ cond b (slice_set old k (Some end)) old → slice_index_or new k None ≡ Some x → end ≡ x
    at_k true is at =
        same_Some end x (sym (get_or-set_same old k (Some end) None long) ∙ sym (ap (λ l. slice_index_or l k None) is) ∙ at)
    at_k false is at = absurd (none-some x (sym none ∙ sym (ap (λ l. slice_index_or l k None) is) ∙ at))

    off_k : (b : Bool) → new ≡ cond b (slice_set old k (Some end)) old → (c ≡ k → ⊥)
        → slice_index_or old c None ≡ Some x
    off_k true is other =
        sym (set_off old k c (Some end) None other) ∙ sym (ap (λ l. slice_index_or l c None) is) ∙ here
    off_k false is other = sym (ap (λ l. slice_index_or l c None) is) ∙ here

module _ (nest : Nest) (network : Network) (d : Inputs) where
  incoming_at : (p c : ℕ) (channel : Channel) (end : LinkEnd) → slice_get network.channels c ≡ Some channel
      → end.port ≡ fresh (stream nest network d c)
      → incoming (stream nest network d) network p c ≡ cond (channel.reader == p) (Some end.port) None
  incoming_at p c channel end found is =
      ap (λ o. option_and_then
      (λ (ch : Channel). cond (ch.reader == p) (Some (fresh (stream nest network d c))) None) o) found
      ∙ ap (λ port. cond (channel.reader == p) (Some port) None) (sym is)

  outgoing_at : (p c : ℕ) (channel : Channel) (end : LinkEnd) → slice_get network.channels c ≡ Some channel
      → end.port ≡ fresh (stream nest network d c)
      → outgoing (stream nest network d) network p c ≡ cond (channel.writer == p) (Some end.port) None
  outgoing_at p c channel end found is =
      ap (λ o. option_and_then
      (λ (ch : Channel). cond (ch.writer == p) (Some (fresh (stream nest network d c))) None) o) found
      ∙ ap (λ port. cond (channel.writer == p) (Some port) None) (sym is)

  joined_more : (k w r : ℕ) (put get : LinkEnd) (old new : List NodeEnds) → k < length network.channels
      → AreOfOneLine put get
      → AreMade nest network d k old → IsPlaced k w r put get old new → AreJoined new
  joined_more k w r put get old new lt one made place c p q put' get' puts gets =
      let a = place.rows p puts.0 puts.1 in
      let b = place.rows q gets.0 gets.1 in
      let of_p = made.rows p a.0 a.1 in
      let of_q = made.rows q b.0 b.1 in
      ⊎_elim
      (λ (x : (c ≡ k) × (put ≡ put')).
      ⊎_elim
      (λ (y : (c ≡ k) × (get ≡ get')). ap (λ (e : LinkEnd). e.line) (sym x.1) ∙ one ∙ ap (λ (e : LinkEnd). e.line) y.1)
      (λ (y : (c ≡ k → ⊥) × (slice_index_or b.0.gets.items c None ≡ Some get')). absurd (y.0 x.0))
      (end_from (r == q) b.0.gets.items gets.0.gets.items k c get get' b.2.1 (omega (arith, lt, of_q.gets_number))
      (none_yet b.0.gets.items k _ (of_q.gets k)) gets.2))
      (λ (x : (c ≡ k → ⊥) × (slice_index_or a.0.puts.items c None ≡ Some put')).
      ⊎_elim
      (λ (y : (c ≡ k) × (get ≡ get')). absurd (x.0 y.0))
      (λ (y : (c ≡ k → ⊥) × (slice_index_or b.0.gets.items c None ≡ Some get')). made.joined c p q put' get'
      (a.0, a.1, x.1) (b.0, b.1, y.1))
      (end_from (r == q) b.0.gets.items gets.0.gets.items k c get get' b.2.1 (omega (arith, lt, of_q.gets_number))
      (none_yet b.0.gets.items k _ (of_q.gets k)) gets.2))
      (end_from (w == p) a.0.puts.items puts.0.puts.items k c put put' a.2.0 (omega (arith, lt, of_p.puts_number))
      (none_yet a.0.puts.items k _ (of_p.puts k)) puts.2)

  pub made_more : (k : ℕ) (channel : Channel) (values : List ℤ) (capacity : ℕ) (put get : LinkEnd)
      (old new : List NodeEnds) → slice_get network.channels k ≡ Some channel → values ≡ stream nest network d k
      → capacity ≡ max channel.capacity 1
      → put ≡ link_end put.line (fresh values) capacity → get ≡ link_end get.line (fresh values) capacity
      → AreOfOneLine put get
      → AreMade nest network d k old → IsPlaced k channel.writer channel.reader put get old new
      → AreMade nest network d (k + 1) new
  made_more k channel values capacity put get old new found values_are room put_is get_is one made place = record {
    number = place.number ∙ made.number;
    joined =
        joined_more k channel.writer channel.reader put get old new
        (slice_get_within network.channels k channel found) one made place;
    rows = λ p e h.
        let w = place.rows p e h in
        let r = made.rows p w.0 w.1 in
        let lt = slice_get_within network.channels k channel found in
        let room_is : capacity ≡ max ((net_of network).capacity k) 1 =
        room ∙ ap (λ n. max n 1) (sym (ap (λ o. option_map_or (λ (ch : Channel). ch.capacity) o 0) found)) in
        record {
          gets_hold =
              row_holds network (channel.reader == p) w.0.gets.items e.gets.items k get w.2.1
              (ap (λ (x : LinkEnd). x.capacity) get_is ∙ room_is) r.gets_hold;
          puts_hold =
              row_holds network (channel.writer == p) w.0.puts.items e.puts.items k put w.2.0
              (ap (λ (x : LinkEnd). x.capacity) put_is ∙ room_is) r.puts_hold;
          gets_number = row_number (channel.reader == p) w.0.gets.items e.gets.items k (Some get) w.2.1 ∙ r.gets_number;
          puts_number = row_number (channel.writer == p) w.0.puts.items e.puts.items k (Some put) w.2.0 ∙ r.puts_number;
          gets = row_port (channel.reader == p) w.0.gets.items e.gets.items k get
              (incoming (stream nest network d) network p) w.2.1 (omega (arith, lt, r.gets_number)) r.gets
              (incoming_at p k channel get found (ap (λ (x : LinkEnd). x.port) get_is ∙ ap fresh values_are));
          puts = row_port (channel.writer == p) w.0.puts.items e.puts.items k put
              (outgoing (stream nest network d) network p) w.2.0 (omega (arith, lt, r.puts_number)) r.puts
              (outgoing_at p k channel put found (ap (λ (x : LinkEnd). x.port) put_is ∙ ap fresh values_are));
        };
  }

  pub made_all : (k : ℕ) (ends : List NodeEnds) → length network.channels ≤ k → AreMade nest network d k ends
      → AreEndsOf (λ (e : NodeEnds) c. port_at e.gets.items c)
      (λ (e : NodeEnds) c. port_at e.puts.items c) nest network d ends
  made_all k ends le made = record {
    number = made.number;
    each = λ p e h.
        let r = made.rows p e h in
        record {
          incoming = λ c. r.gets c ∙ elim (cases_lt c k) [
            | inl lt ↦ ap (λ t. cond t (incoming (stream nest network d) network p c) None) (lt-ltb c k lt)
            | inr past ↦ ap (λ t. cond t (incoming (stream nest network d) network p c) None) (le-ltb c k past)
                ∙ sym (incoming_past (stream nest network d) network p c (omega arith))
          ];
          outgoing = λ c. r.puts c ∙ elim (cases_lt c k) [
            | inl lt ↦ ap (λ t. cond t (outgoing (stream nest network d) network p c) None) (lt-ltb c k lt)
            | inr past ↦ ap (λ t. cond t (outgoing (stream nest network d) network p c) None) (le-ltb c k past)
                ∙ sym (outgoing_past (stream nest network d) network p c (omega arith))
          ];
        };
  }

  pub made_capacities : (k : ℕ) (ends : List NodeEnds) → AreMade nest network d k ends → AreOfCapacities network ends
  made_capacities k ends made p e h = ((made.rows p e h).gets_hold, (made.rows p e h).puts_hold)

  -- The plan's streams

  pub streams_number : length (all_streams nest network d) ≡ length network.channels
  streams_number = length-map-range_with_len (stream nest network d) 0 (length network.channels)

  pub stream_is : (c : ℕ) → c < length network.channels
      → stream_at (all_streams nest network d) c ≡ stream nest network d c
  stream_is c lt = get_or-map-range_with_len (stream nest network d) 0 (length network.channels) c c [] lt (zero-add c)

-- a channel that the code reads, with its writer and its reader
pub channel_read : (network : Network) (channels : List Channel) (other : Channel) (c : ℕ) → channels ≡ network.channels
    → c < length channels → slice_get network.channels c ≡ Some (get_or channels c other)
channel_read network channels other c same lt =
    ap (λ l. slice_get l c) (sym same) ∙ slice_get-get_or channels c other lt

pub writer_read : (network : Network) (channels : List Channel) (other : Channel) (c k : ℕ)
    → channels ≡ network.channels → c < length channels → IsWired (net_of network) → k ≡ length network.processes
    → (get_or channels c other).writer < k
writer_read network channels other c k same lt wired processes =
    let there = wired.writers c (subst (λ l. c < length l) same lt) in
    subst (λ n. (get_or channels c other).writer < n) (sym processes)
    (subst (λ w. w < length network.processes)
    (ap (λ o. option_map_or (λ (ch : Channel). ch.writer) o 0)
    (channel_read network channels other c same lt)) there)

pub reader_read : (network : Network) (channels : List Channel) (other : Channel) (c k : ℕ)
    → channels ≡ network.channels → c < length channels → IsWired (net_of network) → k ≡ length network.processes
    → (get_or channels c other).reader < k
reader_read network channels other c k same lt wired processes =
    let there = wired.readers c (subst (λ l. c < length l) same lt) in
    subst (λ n. (get_or channels c other).reader < n) (sym processes)
    (subst (λ w. w < length network.processes)
    (ap (λ o. option_map_or (λ (ch : Channel). ch.reader) o 0)
    (channel_read network channels other c same lt)) there)
