-- The greatest length that a queue has had along a schedule, after one event more.
--
-- It is a maximum over the cuts so far. The queue as it stands is within it (`now_within`), and an event other than a Put of
-- the channel makes the queue no longer: so only a Put can raise the maximum, to the length that it leads to, and no earlier
-- cut need be looked at again (`greatest_other`, `greatest_put`). A Get takes nothing back: the maximum is of all cuts.
use Rattle.std.proofs.Common.{◌≡◌, ℕ, ◌+◌, ◌≤◌, max, false, cond, Some, List, [], ◌∷◌, ◌++◌, map}
use Rattle.std.proofs.Common.{set, length, take, slice_get, get_or, sym, ap, ◌∙◌, arith, length-append}
use Rattle.std.specs.List.{fold, range_with_len}
use Rattle.std.proofs.lemmas.Bool.{ne_eqb}
use Rattle.std.proofs.lemmas.List.{take-append-le, take_all}
use Rattle.std.proofs.lemmas.List.FromFn.{get_or-map-range_with_len, map-range_with_len_more}
use Rattle.std.proofs.lemmas.List.Sums.{fold-append}
use mathlib.Core.Path.{fun_ext}
use Rattle.net_core.specs.declared.network.Event.{Event}
use Rattle.net_core.specs.declared.network.Event.TheVariants.{Put}
use Rattle.net_core.specs.Cuts.{advanced, cut_after, opening, puts_at}
use Rattle.net_core.specs.Machine.{Net}
use Rattle.net_core.specs.Shape.{IsWired, is_put}
use Rattle.net_core.proofs.CountedLists.{set_at}
use Rattle.net_core.proofs.Positions.{gets_advanced, puts_advanced}
use Rattle.sanlp.proofs.Lists.{map-range_with_len_same}
use Rattle.witness_plan.specs.Sequential.{greatest_length, queue_length}
use Rattle.net_core.proofs.CutOrder.{cut_after-append}

-- The greatest length

-- the length of channel c's queue after the first k events
abbrev queued : Net → List ℕ → ℕ → ℕ → ℕ
queued net schedule c k = queue_length net (cut_after opening (take k schedule)) c

queued_before : (net : Net) (schedule : List ℕ) (p c k : ℕ) → k ≤ length schedule
    → queued net (schedule ++ p ∷ []) c k ≡ queued net schedule c k
queued_before net schedule p c k le =
    ap (λ s. queue_length net (cut_after opening s) c) (take-append-le k schedule (p ∷ []) le)

queued_all : (net : Net) (schedule : List ℕ) (c : ℕ)
    → queued net schedule c (length schedule) ≡ queue_length net (cut_after opening schedule) c
queued_all net schedule c =
    ap (λ s. queue_length net (cut_after opening s) c) (take_all (length schedule) schedule (omega arith))

one_more : (f : ℕ → ℕ) (m : ℕ)
    → fold max 0 (map f (range_with_len 0 (m + 1))) ≡ max (fold max 0 (map f (range_with_len 0 m))) (f m)
one_more f m =
    ap (fold max 0) (map-range_with_len_more f 0 m m (omega arith))
    ∙ fold-append max 0 (map f (range_with_len 0 m)) (f m ∷ [])

pub greatest_more : (net : Net) (schedule : List ℕ) (p c : ℕ)
    → greatest_length net (schedule ++ p ∷ []) c
    ≡ max (greatest_length net schedule c) (queue_length net (advanced (cut_after opening schedule) p) c)
greatest_more net schedule p c =
    let long : length (schedule ++ p ∷ []) ≡ length schedule + 1 = length-append schedule (p ∷ []) in
    ap (λ m. fold max 0 (map (queued net (schedule ++ p ∷ []) c) (range_with_len 0 (m + 1)))) long
    ∙ one_more (queued net (schedule ++ p ∷ []) c) (length schedule + 1)
    ∙ ap (λ xs. max (fold max 0 xs) (queued net (schedule ++ p ∷ []) c (length schedule + 1)))
    (map-range_with_len_same (queued net (schedule ++ p ∷ []) c) (queued net schedule c) 0 (length schedule + 1)
    (λ k h l. queued_before net schedule p c k (omega arith)))
    ∙ ap (max (greatest_length net schedule c))
    (ap (queued net (schedule ++ p ∷ []) c) (sym long) ∙ queued_all net (schedule ++ p ∷ []) c
    ∙ ap (λ k. queue_length net k c) (cut_after-append opening schedule (p ∷ [])))

-- the queue is no longer now than it has been
pub now_within : (net : Net) (schedule : List ℕ) (c : ℕ)
    → queue_length net (cut_after opening schedule) c ≤ greatest_length net schedule c
now_within net schedule c = omega (arith, one_more (queued net schedule c) (length schedule), queued_all net schedule c)

-- One event more

module _ (net : Net) (wired : IsWired net) (schedule : List ℕ) (p : ℕ) (e : Event)
    (is : slice_get (net.script p) (cut_after opening schedule p) ≡ Some e) where
  -- a channel to which the event puts nothing
  pub greatest_other : (c : ℕ) → is_put c e ≡ false
      → greatest_length net schedule c ≡ greatest_length net (schedule ++ p ∷ []) c
  greatest_other c none =
      let puts = puts_advanced net wired (cut_after opening schedule) p e c is
      ∙ ap (λ b. puts_at net (cut_after opening schedule) c + cond b 1 0) none in
      let gets = gets_advanced net wired (cut_after opening schedule) p e c is in
      omega (arith, puts, gets, greatest_more net schedule p c, now_within net schedule c)

  -- no Put
  pub greatest_kept : ((c : ℕ) → is_put c e ≡ false) → (more : List ℕ) → more ≡ schedule ++ p ∷ []
      → map (greatest_length net schedule) (range_with_len 0 net.channels)
      ≡ map (greatest_length net more) (range_with_len 0 net.channels)
  greatest_kept none more grown =
      let same : greatest_length net schedule ≡ greatest_length net (schedule ++ p ∷ []) =
      fun_ext (λ c. greatest_other c (none c)) in
      ap (λ (f : ℕ → ℕ). map f (range_with_len 0 net.channels)) same
      ∙ ap (λ s. map (greatest_length net s) (range_with_len 0 net.channels)) (sym grown)

-- a Put
pub greatest_put : (net : Net) (wired : IsWired net) (schedule : List ℕ) (p d : ℕ)
    → slice_get (net.script p) (cut_after opening schedule p) ≡ Some (Put d)
    → (more : List ℕ) → more ≡ schedule ++ p ∷ [] → (greatest : List ℕ)
    → greatest ≡ map (greatest_length net schedule) (range_with_len 0 net.channels)
    → (now : ℕ) → now ≡ queue_length net (advanced (cut_after opening schedule) p) d
    → set greatest d (max (get_or greatest d 0) now)
    ≡ map (greatest_length net more) (range_with_len 0 net.channels)
greatest_put net wired schedule p d is more grown greatest are now length_is =
    let there = wired.put_channel p (cut_after opening schedule p) d is in
    let f = greatest_length net schedule in
    let g = greatest_length net (schedule ++ p ∷ []) in
    let read : get_or greatest d 0 ≡ f d =
    ap (λ xs. get_or xs d 0) are ∙ get_or-map-range_with_len f 0 net.channels d d 0 there (omega arith) in
    ap (λ xs. set xs d (max (get_or greatest d 0) now)) are
    ∙ set_at f g net.channels d (max (get_or greatest d 0) now) there
    (greatest_more net schedule p d ∙ sym (ap (λ l. max (f d) l) length_is) ∙ sym (ap (λ l. max l now) read))
    (λ c ne. greatest_other net wired schedule p (Put d) is c (ne_eqb c d ne))
    ∙ ap (λ s. map (greatest_length net s) (range_with_len 0 net.channels)) (sym grown)
