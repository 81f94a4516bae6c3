-- One event takes a process a place further in its script.
--
-- The invariant is `Stands`, after k events: each end has moved by the channel's Gets or Puts among them, and the room
-- holds the values of what it names, as in the machine (`IsLocalNamed` of net_core). At a Get the stream isn't used
-- up, since a sound network has no more Gets than tokens; the value that comes is the next of the stream, and the
-- stream is the values of the tokens, so it is the one that the slot names. A Put sends the last fired value, which is
-- the stream's next. So each process, by itself and without any state of the others, keeps the values of its points.
-- That a Get or a Put returns is assumed, not shown.
use Rattle.std.proofs.Common.{◌≡◌, ◌<◌, ◌≤◌, ◌+◌, ◌==◌, ℕ, zero, suc, pred, Bool, All, get_or, true, false, cond, ℤ}
use Rattle.std.proofs.Common.{Option, Some, None, List, [], ◌∷◌, ◌++◌, length, take, drop, slice_get, count_by}
use Rattle.std.proofs.Common.{option_map, refl, sym, ap, ap₂, ◌∙◌, subst, inl, inr, arith, eq-eqb, add-zero}
use Rattle.std.proofs.Common.{append_assoc, take_all, length-append, length-set}
use Rattle.std.specs.Option.{option_and_then, option_map_or}
use Rattle.std.proofs.lemmas.List.{length-map, length-replicate}
use Rattle.std.proofs.lemmas.List.Sums.{count_by-le-length}
use Rattle.std.proofs.lemmas.Bool.{cases_lt}
use Rattle.std.proofs.lemmas.Option.{slice_get-get_or, slice_get-map}
use Rattle.sanlp.specs.declared.nest.Inputs.{Inputs}
use Rattle.sanlp.specs.declared.nest.Nest.{Nest}
use Rattle.sanlp.specs.declared.nest.Tag.{Tag}
use Rattle.sanlp.specs.Laws.{values_of}
use Rattle.net_core.specs.declared.network.Channel.{Channel}
use Rattle.net_core.specs.declared.network.Event.{Event}
use Rattle.net_core.specs.declared.network.Event.TheVariants.{Get, Fire, Put}
use Rattle.net_core.specs.declared.network.Network.{Network}
use Rattle.net_core.specs.Machine.{Net, Rule, net_of, last_of}
use Rattle.net_core.specs.Rooms.{Store, fresh_store, local_of, store_past_event}
use Rattle.net_core.specs.Names.{tag, tokens, fired, IsLocalNamed}
use Rattle.net_core.specs.Rules.{values, value_limits}
use Rattle.net_core.specs.Shape.{is_get, is_put, is_fire, fires, IsWithin, FitsNumbers}
use Rattle.net_core.specs.Sound.{IsSound, tag_value}
use Rattle.net_core.proofs.EventCounts.{count_next}
use Rattle.net_core.proofs.PlaceValues.{named_get, named_fire, named_put, last_fired, start_named}
use Rattle.net_core.proofs.Ready.{count_all, drop_next, script_short}
use Rattle.net_core.proofs.FireValues.{gives_values, all_fired_values, turn_there}
use Rattle.ruled_links.specs.Ports.{Port, fresh}
use Rattle.ruled_links.specs.Channels.{CanGet, IsNext, advanced}
use Rattle.ruled_links.specs.declared.ends.Call.{Call}
use Rattle.node_runner.specs.Nodes.{Ports, stream, incoming, outgoing, calls_of, CanTurn, Turns}
use Rattle.node_runner.proofs.PortLemmas.{can_get, is_next, next_is, one_more}
use Rattle.node_runner.proofs.TokenLemmas.{token_of_put, enough_tokens}
use Rattle.plain_data.proofs.Lists.{slice_get-drop, take-suc_some}

-- The channels of a process

channel_there : (network : Network) (c : ℕ) → c < length network.channels
    → (channel : Channel) × (slice_get network.channels c ≡ Some channel)
channel_there network c lt = found (slice_get network.channels c) (slice_get_there network.channels c lt)
  where
    found : (o : Option Channel) → (o ≡ None → ⊥) → (channel : Channel) × (o ≡ Some channel)
    found None some = absurd (some refl)
    found (Some channel) some = (channel, refl)

    slice_get_there : {X : Type 0} (xs : List X) (i : ℕ) → i < length xs → slice_get xs i ≡ None → ⊥
    slice_get_there [] i lt none = omega arith
    slice_get_there (x ∷ xs) zero lt none = cc
    slice_get_there (x ∷ xs) (suc i) lt none = slice_get_there xs i (omega arith) none

pub incoming_is : (streams : ℕ → List ℤ) (network : Network) (p c : ℕ) → c < length network.channels
    → (net_of network).reader c ≡ p → incoming streams network p c ≡ Some (fresh (streams c))
incoming_is streams network p c lt reader =
    let found = channel_there network c lt in
    let is : found.0.reader ≡ p =
    sym (ap (λ o. option_map_or (λ (channel : Channel). channel.reader) o 0) found.1) ∙ reader in
    ap (λ o. option_and_then
    (λ (channel : Channel). cond (channel.reader == p) (Some (fresh (streams c))) None) o) found.1
    ∙ ap (λ b. cond b (Some (fresh (streams c))) None) (eq-eqb found.0.reader p is)

pub outgoing_is : (streams : ℕ → List ℤ) (network : Network) (p c : ℕ) → c < length network.channels
    → (net_of network).writer c ≡ p → outgoing streams network p c ≡ Some (fresh (streams c))
outgoing_is streams network p c lt writer =
    let found = channel_there network c lt in
    let is : found.0.writer ≡ p =
    sym (ap (λ o. option_map_or (λ (channel : Channel). channel.writer) o 0) found.1) ∙ writer in
    ap (λ o. option_and_then
    (λ (channel : Channel). cond (channel.writer == p) (Some (fresh (streams c))) None) o) found.1
    ∙ ap (λ b. cond b (Some (fresh (streams c))) None) (eq-eqb found.0.writer p is)

-- The state of a process

pub length_fired : {T : Type 0} (v : Tag → T) (p f : ℕ) → length (fired v p f) ≡ f
length_fired v p zero = refl
length_fired v p (suc f) = omega (arith, length-append (fired v p f) (v (tag p f) ∷ []), length_fired v p f)

-- after the first k events of its script, which began at the ports from₀ and to₀
pub record Stands (n : Net) (v : Tag → ℤ) (p : ℕ) (from₀ to₀ : Ports) (k : ℕ) (from to : Ports)
    (s : Store ℤ) : Type 0 where
  pub gets : (c : ℕ) → from c ≡ advanced (from₀ c) (count_by (is_get c) (take k (n.script p)))
  pub puts : (c : ℕ) → to c ≡ advanced (to₀ c) (count_by (is_put c) (take k (n.script p)))
  pub named : IsLocalNamed n v p (local_of k s)
  pub many : length s.slots ≡ n.slots p
  pub space : s.space ≡ count_by is_fire (n.script p)

module _ (nest : Nest) (network : Network) (d : Inputs) (sound : IsSound nest network)
    (numbers : FitsNumbers (net_of network)) (p : ℕ) (from₀ to₀ : Ports)
    (comes : (c : ℕ) → from₀ c ≡ incoming (stream nest network d) network p c)
    (goes : (c : ℕ) → to₀ c ≡ outgoing (stream nest network d) network p c) where
  kept_count : (k : ℕ) (s : Store ℤ) → IsLocalNamed (net_of network) (tag_value nest d) p (local_of k s)
      → length s.kept ≡ fires (net_of network) p k
  kept_count k s named = ap length named.kept ∙ length_fired (tag_value nest d) p (fires (net_of network) p k)

  -- how far a channel got is within its stream
  gets_within : (k c slot : ℕ) → slice_get ((net_of network).script p) k ≡ Some (Get c slot)
      → count_by (is_get c) (take k ((net_of network).script p)) < length (stream nest network d c)
  gets_within k c slot is =
      let n = net_of network in
      let reader : n.reader c ≡ p = sound.fits.shaped.wired.get_reader p k c slot is in
      let enough : count_by (is_get c) (n.script p) ≤ length (tokens n c) =
      subst (λ q. count_by (is_get c) (n.script q) ≤ length (tokens n c)) reader
      (enough_tokens nest network d sound c) in
      omega (
        arith,
        count_all (is_get c) (n.script p) k (Get c slot) is (eq-eqb c c refl),
        enough,
        length-map (tokens n c) (tag_value nest d),
      )

  from_is : (k c slot : ℕ) (from to : Ports) (s : Store ℤ) → slice_get ((net_of network).script p) k ≡ Some (Get c slot)
      → Stands (net_of network) (tag_value nest d) p from₀ to₀ k from to s
      → from c
      ≡ advanced (Some (fresh (stream nest network d c))) (count_by (is_get c) (take k ((net_of network).script p)))
  from_is k c slot from to s is st =
      let wired = sound.fits.shaped.wired in
      st.gets c
      ∙ ap (λ o. advanced o (count_by (is_get c) (take k ((net_of network).script p))))
      (comes c ∙ incoming_is (stream nest network d) network p c (wired.get_channel p k c slot is)
      (wired.get_reader p k c slot is))

  to_is : (k c : ℕ) (from to : Ports) (s : Store ℤ) → slice_get ((net_of network).script p) k ≡ Some (Put c)
      → Stands (net_of network) (tag_value nest d) p from₀ to₀ k from to s
      → to c ≡ advanced (Some (fresh (stream nest network d c)))
      (count_by (is_put c) (take k ((net_of network).script p)))
  to_is k c from to s is st =
      let wired = sound.fits.shaped.wired in
      st.puts c
      ∙ ap (λ o. advanced o (count_by (is_put c) (take k ((net_of network).script p))))
      (goes c ∙ outgoing_is (stream nest network d) network p c (wired.put_channel p k c is)
      (wired.put_writer p k c is))

  -- the value that was fired last is the next one of the stream
  next_put : (k c : ℕ) (s : Store ℤ) (x : ℤ) → slice_get ((net_of network).script p) k ≡ Some (Put c)
      → IsLocalNamed (net_of network) (tag_value nest d) p (local_of k s) → last_of s.kept ≡ x ∷ []
      → slice_get (stream nest network d c) (count_by (is_put c) (take k ((net_of network).script p))) ≡ Some x
  next_put k c s x is named last =
      let n = net_of network in
      let v = tag_value nest d in
      let f = fires n p k in
      let writer : n.writer c ≡ p = sound.fits.shaped.wired.put_writer p k c is in
      let some : 0 < f = sound.fits.shaped.wired.put_fired p k c is in
      let same : x ∷ [] ≡ v (tag p (pred f)) ∷ [] = sym last ∙ ap last_of named.kept ∙ last_fired v p f some in
      let value : x ≡ v (tag p (pred f)) = cc in
      let token : slice_get (tokens n c) (count_by (is_put c) (take k (n.script p))) ≡ Some (tag p (pred f)) =
      subst (λ w. slice_get (n.script w) k ≡ Some (Put c)
      → slice_get (tokens n c) (count_by (is_put c) (take k (n.script w)))
      ≡ Some (tag w (pred (fires n w k)))) writer (token_of_put n c k) is in
      slice_get-map v (tokens n c) (count_by (is_put c) (take k (n.script p))) ∙ ap (option_map v) token
      ∙ ap Some (sym value)

  -- each event may come
  pub can_turn : (k : ℕ) (e : Event) (from to : Ports) (s : Store ℤ) → slice_get ((net_of network).script p) k ≡ Some e
      → Stands (net_of network) (tag_value nest d) p from₀ to₀ k from to s → CanTurn (value_limits nest) p e from to s
  can_turn k (Get c slot) from to s is st = (
    subst CanGet (sym (from_is k c slot from to s is st))
        (can_get (stream nest network d c) _ (gets_within k c slot is)),
    let lt = sound.fits.shaped.wired.get_slot p k c slot is in omega (arith, st.many),
  )
  can_turn k (Fire refs) from to s is st =
      let n = net_of network in
      let count = kept_count k s st.named in
      let few = count_all is_fire (n.script p) k (Fire refs) is refl in (
        (omega (arith, count, turn_there nest network sound.fits p k refs is), sound.fits.references p k refs is),
        subst (λ m. All (IsWithin m) refs) (sym st.many) (sound.fits.shaped.wired.reference_slots p k refs is),
        omega (arith, count, few, st.space),
        omega (
          arith,
          count,
          few,
          count_by-le-length is_fire (n.script p),
          script_short n sound.fits.shaped.wired numbers p,
        ),
      )
  can_turn k (Put c) from to s is st = (
    (let some = sound.fits.shaped.wired.put_fired p k c is in omega (arith, kept_count k s st.named)),
    λ x last. subst (λ (o : Option Port). IsNext o x) (sym (to_is k c from to s is st))
        (is_next (stream nest network d c) _ x (next_put k c s x is st.named last)),
  )

  same_port : (f' f o : Option Port) (g g' : ℕ) → f' ≡ f → f ≡ advanced o g → g' ≡ g + 0 → f' ≡ advanced o g'
  same_port f' f o g g' a b e = a ∙ b ∙ ap (advanced o) (sym (e ∙ add-zero g))

  pub turned : (k : ℕ) (e : Event) (from to from' to' : Ports) (s s' : Store ℤ)
      → slice_get ((net_of network).script p) k ≡ Some e
      → Stands (net_of network) (tag_value nest d) p from₀ to₀ k from to s
      → Turns (values nest d) p e from to s from' to' s'
      → Stands (net_of network) (tag_value nest d) p from₀ to₀ (suc k) from' to' s'
  turned k (Get c slot) from to from' to' s s' is st t =
      let n = net_of network in
      let v = tag_value nest d in
      let g = count_by (is_get c) (take k (n.script p)) in
      let within = gets_within k c slot is in
      let next : slice_get (stream nest network d c) g ≡ Some t.0 =
      next_is (stream nest network d c) g t.0 (omega (arith, within))
      (subst (λ (o : Option Port). IsNext o t.0) (from_is k c slot from to s is st) t.1) in
      record {
        gets = λ b. t.2 b ∙ one_more from (from₀ b) c b _ t.0 (st.gets b) t.1
            ∙ ap (advanced (from₀ b)) (sym (count_next (is_get b) (n.script p) k (Get c slot) is));
        puts = λ b. same_port _ _ (to₀ b) _ _ (t.3 b) (st.puts b)
            (count_next (is_put b) (n.script p) k (Get c slot) is);
        named = subst (λ (r : Store ℤ). IsLocalNamed n v p (local_of (suc k) r)) (sym t.4)
            (named_get n v p (local_of k s) st.named c slot (Some t.0) is (sym next ∙ slice_get-map v (tokens n c) g));
        many = ap (λ (r : Store ℤ). length r.slots) t.4 ∙ length-set s.slots slot (Some t.0) ∙ st.many;
        space = ap (λ (r : Store ℤ). r.space) t.4 ∙ st.space;
      }
  turned k (Fire refs) from to from' to' s s' is st t =
      let n = net_of network in
      let v = tag_value nest d in
      let value : values nest d p (length s.kept) refs s.slots ≡ v (tag p (fires n p k)) =
      ap₂ (λ f xs. values nest d p f refs xs) (kept_count k s st.named) (st.named.slots)
      ∙ gives_values nest network sound.fits sound.names d p k refs is in
      record {
        gets = λ b. same_port _ _ (from₀ b) _ _ (t.0 b) (st.gets b)
            (count_next (is_get b) (n.script p) k (Fire refs) is);
        puts = λ b. same_port _ _ (to₀ b) _ _ (t.1 b) (st.puts b) (count_next (is_put b) (n.script p) k (Fire refs) is);
        named = subst (λ (r : Store ℤ). IsLocalNamed n v p (local_of (suc k) r)) (sym t.2)
            (named_fire n v p (local_of k s) st.named refs (values nest d p (length s.kept) refs s.slots) is value);
        many = ap (λ (r : Store ℤ). length r.slots) t.2 ∙ st.many;
        space = ap (λ (r : Store ℤ). r.space) t.2 ∙ st.space;
      }
  turned k (Put c) from to from' to' s s' is st t =
      let n = net_of network in
      let v = tag_value nest d in
      let can = can_turn k (Put c) from to s is st in
      record {
        gets = λ b. same_port _ _ (from₀ b) _ _ (t.2 b) (st.gets b) (count_next (is_get b) (n.script p) k (Put c) is);
        puts = λ b. t.3 b ∙ one_more to (to₀ b) c b _ t.0 (st.puts b) (can.1 t.0 t.1)
            ∙ ap (advanced (to₀ b)) (sym (count_next (is_put b) (n.script p) k (Put c) is));
        named = subst (λ (r : Store ℤ). IsLocalNamed n v p (local_of (suc k) r)) (sym t.4)
            (named_put n v p (local_of k s) st.named c is);
        many = ap (λ (r : Store ℤ). length r.slots) t.4 ∙ st.many;
        space = ap (λ (r : Store ℤ). r.space) t.4 ∙ st.space;
      }

  -- the ends of a process's own channels, none of whose values has passed
  none_passed : (own : Channel → Bool) (c : ℕ) (o : Option Channel)
      → option_and_then (λ (channel : Channel). cond (own channel) (Some (fresh (stream nest network d c))) None) o
      ≡ advanced (option_and_then
      (λ (channel : Channel). cond (own channel) (Some (fresh (stream nest network d c))) None) o) 0
  none_passed own c None = refl
  none_passed own c (Some channel) = pick (own channel)
    where
      pick : (b : Bool) → cond b (Some (fresh (stream nest network d c))) None
          ≡ advanced (cond b (Some (fresh (stream nest network d c))) None) 0
      pick true = refl
      pick false = refl

  incoming_fresh : (c : ℕ) → from₀ c ≡ advanced (from₀ c) 0
  incoming_fresh c =
      comes c ∙ none_passed (λ channel. channel.reader == p) c (slice_get network.channels c)
      ∙ ap (λ o. advanced o 0) (sym (comes c))

  outgoing_fresh : (c : ℕ) → to₀ c ≡ advanced (to₀ c) 0
  outgoing_fresh c =
      goes c ∙ none_passed (λ channel. channel.writer == p) c (slice_get network.channels c)
      ∙ ap (λ o. advanced o 0) (sym (goes c))

  pub begins : (s : Store ℤ) → s ≡ fresh_store (net_of network) p
      → Stands (net_of network) (tag_value nest d) p from₀ to₀ 0 from₀ to₀ s
  begins s is =
      let n = net_of network in
      let v = tag_value nest d in
      record {
        gets = incoming_fresh;
        puts = outgoing_fresh;
        named = subst (λ (r : Store ℤ). IsLocalNamed n v p (local_of 0 r)) (sym is) ((start_named n v).locals p);
        many = ap (λ (r : Store ℤ). length r.slots) is ∙ length-replicate (n.slots p) None;
        space = ap (λ (r : Store ℤ). r.space) is;
      }

  -- at the script's end the process has kept the values of its points
  pub ends : (k : ℕ) (from to : Ports) (s : Store ℤ) → k ≡ length ((net_of network).script p)
      → Stands (net_of network) (tag_value nest d) p from₀ to₀ k from to s → s.kept ≡ values_of nest d p
  ends k from to s is st =
      st.named.kept ∙ ap (λ j. fired (tag_value nest d) p (fires (net_of network) p j)) is
      ∙ all_fired_values nest network sound.fits d p

-- What is told

calls_append : (xs ys : List Event) → calls_of (xs ++ ys) ≡ calls_of xs ++ calls_of ys
calls_append [] ys = refl
calls_append (Get c slot ∷ xs) ys = ap (λ l. calls_of (Get c slot ∷ []) ++ l) (calls_append xs ys)
calls_append (Fire refs ∷ xs) ys = calls_append xs ys
calls_append (Put c ∷ xs) ys = ap (λ l. calls_of (Put c ∷ []) ++ l) (calls_append xs ys)

-- one event more is told
pub told_more : (script : List Event) (k : ℕ) (e : Event) (before calls calls' : List Call)
    → slice_get script k ≡ Some e → calls ≡ before ++ calls_of (take k script) → calls' ≡ calls ++ calls_of (e ∷ [])
    → calls' ≡ before ++ calls_of (take (suc k) script)
told_more script k e before calls calls' at was is =
    is ∙ ap (λ l. l ++ calls_of (e ∷ [])) was ∙ append_assoc before (calls_of (take k script)) (calls_of (e ∷ []))
    ∙ ap (λ l. before ++ l) (sym (ap calls_of (take-suc_some script k e at) ∙ calls_append (take k script) (e ∷ [])))

-- Where the walk over the script stands

-- so many events are made, the others are left, and the calls of those that were made are told
pub record Goes (n : Net) (v : Tag → ℤ) (p : ℕ) (from₀ to₀ from to : Ports) (s : Store ℤ) (tells : Bool)
    (calls₀ calls : List Call) : Type 0 where
  pub made : ℕ
  pub inside : made ≤ length (n.script p)
  pub left : s.left ≡ drop made (n.script p)
  pub stands : Stands n v p from₀ to₀ made from to s
  pub told : tells ≡ true → calls ≡ calls₀ ++ calls_of (take made (n.script p))

-- the next event is passed over
pub stands_passed : (n : Net) (v : Tag → ℤ) (p : ℕ) (from₀ to₀ : Ports) (k : ℕ) (from to : Ports) (s : Store ℤ)
    → Stands n v p from₀ to₀ k from to s → Stands n v p from₀ to₀ k from to (store_past_event s)
stands_passed n v p from₀ to₀ k from to s st =
    record {
      gets = st.gets;
      puts = st.puts;
      named = record { slots = st.named.slots; kept = st.named.kept };
      many =
          st.many;
      space = st.space;
    }

-- an event leaves what is left
turned_left : (rule : Rule ℤ) (p : ℕ) (e : Event) (from to from' to' : Ports) (s s' : Store ℤ)
    → Turns rule p e from to s from' to' s' → s'.left ≡ s.left
turned_left rule p (Get c slot) from to from' to' s s' t = ap (λ (r : Store ℤ). r.left) t.4
turned_left rule p (Fire refs) from to from' to' s s' t = ap (λ (r : Store ℤ). r.left) t.2
turned_left rule p (Put c) from to from' to' s s' t = ap (λ (r : Store ℤ). r.left) t.4

-- what is left after the event at place k
pub left_then : (rule : Rule ℤ) (p : ℕ) (e : Event) (from to from' to' : Ports) (s before s' : Store ℤ)
    (script : List Event) (k : ℕ) → before ≡ store_past_event s → Turns rule p e from to before from' to' s'
    → s.left ≡ drop k script → s'.left ≡ drop (suc k) script
left_then rule p e from to from' to' s before s' script k is t left =
    turned_left rule p e from to from' to' before s' t ∙ ap (λ (r : Store ℤ). r.left) is ∙ ap (drop 1) left
    ∙ drop_next k script

pub event_is : (script left : List Event) (k : ℕ) (o : Option Event) → left ≡ drop k script → o ≡ slice_get left 0
    → slice_get script k ≡ o
event_is script left k o is first = sym (first ∙ ap (λ l. slice_get l 0) is ∙ slice_get-drop k script)

-- where no event is left all were made
pub all_made : (script : List Event) (k : ℕ) → k ≤ length script → slice_get script k ≡ None
    → (k ≡ length script) × (take k script ≡ script)
all_made script k inside none =
    elim (cases_lt k (length script)) [
      | inl lt ↦ absurd
          (let some = slice_get-get_or script k (Put 0) lt in let clash : None
          ≡ Some (get_or script k (Put 0)) = sym none ∙ some in cc)
      | inr past ↦ (omega arith, take_all k script past)
    ]
