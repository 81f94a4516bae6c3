-- The opening state is made piece by piece.
--
-- The processes below a number have their fresh states, and the channels below one have empty queues with their room
-- (`AreFresh`, `AreEmpty`). One more at the end keeps both, since what stood there stays at its place. When all are
-- made, the state is the machine's start: what isn't there has no event, no slot and nothing in its queue, as the
-- network is shaped (`run_is_start`). So the held state is for this network (`start_is_for`).
use Rattle.std.proofs.Common.{◌≡◌, ℕ, ◌+◌, ◌<◌, ◌≤◌, ℤ, min, Some, None, List, [], ◌∷◌, ◌++◌, length, take}
use Rattle.std.proofs.Common.{drop, replicate, slice_get, count_by, get_or, sym, ap, ◌∙◌, subst, inl, inr, arith}
use Rattle.std.proofs.Common.{length-append, take_all, drop_of_length-le, append-nil}
use mathlib.Core.Path.{fun_ext}
use Rattle.std.specs.VecDeque.{deque_capacity}
use Rattle.std.specs.declared.collections.VecDeque.{VecDeque}
use Rattle.std.specs.Global.{Global}
use Rattle.std.proofs.lemmas.Bool.{cases_eq, cases_lt}
use Rattle.std.proofs.lemmas.List.{length-replicate}
use Rattle.std.proofs.lemmas.Option.{slice_get_past, slice_get-get_or}
use Rattle.std.specs.Option.{option_map_or}
use Rattle.net_core.specs.declared.machine.Local.{Local}
use Rattle.net_core.specs.declared.network.Channel.{Channel}
use Rattle.net_core.specs.declared.network.Network.{Network}
use Rattle.net_core.specs.Machine as machine
use Rattle.net_core.specs.Machine.{Net, State, net_of, start}
use Rattle.net_core.specs.Shape.{is_any_get, is_fire, put_count, IsShaped, FitsNumbers}
use Rattle.net_core.specs.Cuts.{IsCounted}
use Rattle.net_core.specs.Held.{Queues, held, fresh_local, left_at, local_at, queue_at, IsFor, AreFresh, AreEmpty}
use Rattle.net_core.specs.Rooms.{local_of}
use Rattle.net_core.proofs.Positions.{start_counted}
use Rattle.plain_data.proofs.Lists.{slice_get_push_at, slice_get-append_left}

-- what was written through a slice of the whole list
pub written_back : {X : Type 0} (new items : List X) (len : ℕ) → len ≡ length items → length new ≡ length items
    → take len (new ++ drop (length new) items) ≡ new
written_back new items len e f =
    ap (λ rest. take len (new ++ rest)) (drop_of_length-le items (omega arith)) ∙ ap (take len) (append-nil new)
    ∙ take_all len new (omega arith)

module _ {T : Type 0} (n : Net) where
  pub fresh_more : (locals more : List (Local T)) (x : Local T) (at : ℕ) → AreFresh n locals at
      → more ≡ locals ++ x ∷ []
      → x ≡ fresh_local n at → AreFresh n more (at + 1)
  fresh_more locals more x at fresh grown made =
      subst (λ list. AreFresh n list (at + 1)) (sym grown) (
      record {
        number = length-append locals (x ∷ []) ∙ ap (λ k. k + 1) fresh.number;
        fresh = λ p lt. elim (cases_eq p at) [
          | inl same ↦ slice_get_push_at locals x p (same ∙ sym fresh.number) ∙ ap Some (made ∙ ap (fresh_local n) (sym same))
          | inr other ↦
              let lower : p < at = omega arith in
              slice_get-append_left locals (x ∷ []) p (omega (arith, fresh.number)) ∙ fresh.fresh p lower
        ];
      }
      )

  pub empty_more : (queues more : Queues T) (x : VecDeque T Global) (at : ℕ) → AreEmpty n queues at
      → more ≡ queues ++ x ∷ []
      → x.items ≡ [] → deque_capacity x ≡ min (n.capacity at) (put_count n at) → AreEmpty n more (at + 1)
  empty_more queues more x at empty grown items room =
      subst (λ list. AreEmpty n list (at + 1)) (sym grown) (
      record {
        number = length-append queues (x ∷ []) ∙ ap (λ k. k + 1) empty.number;
        empty = λ c lt. elim (cases_eq c at) [
          | inl same ↦ ap (λ o. option_map_or (λ (q : VecDeque T Global). q.items) o [])
              (slice_get_push_at queues x c (same ∙ sym empty.number)) ∙ items
          | inr other ↦
              let lower : c < at = omega arith in
              ap (λ o. option_map_or (λ (q : VecDeque T Global). q.items) o [])
              (slice_get-append_left queues (x ∷ []) c (omega (arith, empty.number))) ∙ empty.empty c lower
        ];
        room = λ c lt. elim (cases_eq c at) [
          | inl same ↦
              ap (λ o. option_map_or (λ (q : VecDeque T Global). deque_capacity q) o 0)
              (slice_get_push_at queues x c (same ∙ sym empty.number)) ∙ room
              ∙ ap (λ d. min (n.capacity d) (put_count n d)) (sym same)
          | inr other ↦
              let lower : c < at = omega arith in
              ap (λ o. option_map_or (λ (q : VecDeque T Global). deque_capacity q) o 0)
              (slice_get-append_left queues (x ∷ []) c (omega (arith, empty.number))) ∙ empty.room c lower
        ];
      }
      )

  -- what a process has that isn't there
  abbrev none_local : machine.Local T
  none_local = record { position = 0; slots = []; kept = [] }

  run_is_start : (points : List (List (List ℤ))) (locals : List (Local T)) (queues : Queues T) → IsShaped n points
      → AreFresh n locals n.processes → AreEmpty n queues n.channels → (held locals queues).run ≡ start n
  run_is_start points locals queues shaped fresh empty =
      let ls = fun_ext local_is in
      let qs = fun_ext queue_is in
      λ i. record { local = ls i; queue = qs i }
    where
      local_is : (p : ℕ) → local_at locals p ≡ record { position = 0; slots = replicate (n.slots p) None; kept = [] }
      local_is p =
          elim (cases_lt p n.processes) [
            | inl lt ↦ ap (λ o. option_map_or (λ (l : Local T). local_of l.position l.room) o none_local)
                (fresh.fresh p lt)
            | inr past ↦
                let no_gets : count_by is_any_get (n.script p) ≡ 0 =
                ap (count_by is_any_get) (shaped.wired.bounded p past) in
                let none : n.slots p ≡ 0 = omega (arith, shaped.few_slots p) in
                ap (λ o. option_map_or (λ (l : Local T). local_of l.position l.room) o none_local)
                (slice_get_past locals p (omega (arith, fresh.number)))
                ∙ ap (λ k. record { position = 0; slots = replicate k None; kept = [] }) (sym none)
          ]

      queue_is : (c : ℕ) → queue_at queues c ≡ []
      queue_is c =
          elim (cases_lt c n.channels) [
            | inl lt ↦ empty.empty c lt
            | inr past ↦ ap (λ o. option_map_or (λ (q : VecDeque T Global). q.items) o [])
                (slice_get_past queues c (omega (arith, empty.number)))
          ]

  left_is : (points : List (List (List ℤ))) (locals : List (Local T)) → IsShaped n points
      → AreFresh n locals n.processes → (p : ℕ) → left_at locals p ≡ n.script p
  left_is points locals shaped fresh p =
      elim (cases_lt p n.processes) [
        | inl lt ↦ ap (λ o. option_map_or (λ (l : Local T). l.room.left) o []) (fresh.fresh p lt)
        | inr past ↦
            ap (λ o. option_map_or (λ (l : Local T). l.room.left) o [])
            (slice_get_past locals p (omega (arith, fresh.number)))
            ∙ sym (shaped.wired.bounded p past)
      ]

  pub start_is_for : (points : List (List (List ℤ))) (locals : List (Local T)) (queues : Queues T) → IsShaped n points
      → FitsNumbers n → ((c : ℕ) → n.channels ≤ c → n.capacity c ≡ 0)
      → AreFresh n locals n.processes → AreEmpty n queues n.channels → IsFor n (held locals queues)
  start_is_for points locals queues shaped numbers no_room fresh empty =
      let run = run_is_start points locals queues shaped fresh empty in
      let at_start : (p : ℕ)
      → local_at locals p ≡ record { position = 0; slots = replicate (n.slots p) None; kept = [] } =
      λ p. ap (λ (s : State T). s.local p) run in
      record {
        wired = shaped.wired;
        numbers = numbers;
        processes = fresh.number;
        channels = empty.number;
        counted = subst (IsCounted n) (sym run) (start_counted n);
        inside = λ p. (let e = ap (λ (l : machine.Local T). l.position) (at_start p) in omega arith);
        left = λ p. left_is points locals shaped fresh p
            ∙ ap (λ (l : machine.Local T). drop l.position (n.script p)) (sym (at_start p));
        slots = λ p. ap (λ (l : machine.Local T). length l.slots) (at_start p) ∙ length-replicate (n.slots p) None;
        kept_room = λ p. elim (cases_lt p n.processes) [
          | inl lt ↦ ap (λ o. option_map_or (λ (l : Local T). l.room.space) o 0) (fresh.fresh p lt)
          | inr past ↦
              ap (λ o. option_map_or (λ (l : Local T). l.room.space) o 0)
              (slice_get_past locals p (omega (arith, fresh.number)))
              ∙ sym (ap (count_by is_fire) (shaped.wired.bounded p past))
        ];
        queue_room = λ c. elim (cases_lt c n.channels) [
          | inl lt ↦ empty.room c lt
          | inr past ↦
              let none : min (n.capacity c) (put_count n c) ≡ 0 = omega (arith, no_room c past) in
              ap (λ o. option_map_or (λ (q : VecDeque T Global). deque_capacity q) o 0)
              (slice_get_past queues c (omega (arith, empty.number))) ∙ sym none
        ];
      }

-- a channel that isn't there has no room
pub no_capacity : (network : Network) (c : ℕ) → length network.channels ≤ c → (net_of network).capacity c ≡ 0
no_capacity network c past =
    ap (λ o. option_map_or (λ (channel : Channel). channel.capacity) o 0) (slice_get_past network.channels c past)

-- the room that a queue is made with
pub queue_room_is : (network : Network) (items : List Channel) (c : ℕ) (d : Channel) (room puts : ℕ)
    → items ≡ network.channels → c < length items
    → room ≡ min puts (get_or items c d).capacity → puts ≡ put_count (net_of network) c
    → room ≡ min ((net_of network).capacity c) (put_count (net_of network) c)
queue_room_is network items c d room puts same lt made counted =
    let found : slice_get network.channels c ≡ Some (get_or items c d) =
    ap (λ list. slice_get list c) (sym same) ∙ slice_get-get_or items c d lt in
    let capacity : (net_of network).capacity c ≡ (get_or items c d).capacity =
    ap (λ o. option_map_or (λ (channel : Channel). channel.capacity) o 0) found in
    omega arith
