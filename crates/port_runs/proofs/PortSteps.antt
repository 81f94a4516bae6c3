-- One event of a run of the ports: what it needs, and that the events of one port and the fires come in the
-- script's order.
--
-- The invariant is `IsOrdered`: with an event all earlier ones on which it depends have come. Each event that may
-- come keeps it, since it is due. So at an event that may come, of the kinds on which it depends just those before
-- it have come (`made_here`).
use Rattle.std.proofs.Common.{◌≡◌, ℕ, ◌+◌, ◌<◌, ◌≤◌, Bool, true, false, not, ◌&&◌, cond, Option, Some, None}
use Rattle.std.proofs.Common.{length, take, slice_get, count_by, ap, sym, subst, ◌∙◌, refl, inl, inr, arith}
use Rattle.std.proofs.lemmas.Bool.{and_from, and_parts, both_ways, cases_Bool, cases_eq, cases_lt, false_from_ne_true}
use Rattle.std.proofs.lemmas.Bool.{not-true, not_from_false}
use Rattle.std.proofs.lemmas.Option.{slice_get_within}
use Rattle.net_core.specs.declared.network.Event.{Event}
use Rattle.net_core.specs.Machine.{Net, Rule, can_come, after_event}
use Rattle.net_core.specs.Shape.{is_fire, is_get, is_put, IsWired}
use Rattle.net_core.proofs.TwoSteps.{get_reader, put_writer}
use Rattle.port_runs.specs.Ports.{PortState, are_dependent, is_due, may_come, may_come_at, port_step, with_place}
use Rattle.port_runs.specs.PortNames.{come_count, gets_so_far, event_count, puts_so_far}
use Rattle.port_runs.proofs.DueEvents.{due_before, fire_after, fire_before, place_apart, place_grows, place_here, place_other}
use Rattle.port_runs.proofs.ComeCounts.{count_here, count_place}

-- An event that may come

pub record Coming {T : Type 0} (n : Net) (s : PortState T) (p k : ℕ) : Type 0 where
  pub event : Event
  pub is : slice_get (n.script p) k ≡ Some event
  pub new : s.has_come p k ≡ false
  pub due : is_due (n.script p) (s.has_come p) event k ≡ true
  pub can : can_come n s.run (Some event) ≡ true

coming_at : {T : Type 0} (n : Net) (s : PortState T) (p k : ℕ) (o : Option Event) → slice_get (n.script p) k ≡ o
    → may_come n s (p, k) o ≡ true → Coming n s p k
coming_at n s p k None is on = absurd (cc)
coming_at n s p k (Some e) is on =
    let first =
    and_parts (not (s.has_come p k)) (is_due (n.script p) (s.has_come p) e k && can_come n s.run (Some e)) on in
    let second = and_parts (is_due (n.script p) (s.has_come p) e k) (can_come n s.run (Some e)) first.1 in
    record {
      event = e;
      is = is;
      new = not-true (s.has_come p k) first.0;
      due = second.0;
      can = second.1;
    }

pub coming : {T : Type 0} (n : Net) (s : PortState T) (p k : ℕ) → may_come_at n s (p, k) ≡ true → Coming n s p k
coming n s p k on = coming_at n s p k (slice_get (n.script p) k) refl on

pub may_from : {T : Type 0} (n : Net) (s : PortState T) (p k : ℕ) → Coming n s p k → may_come_at n s (p, k) ≡ true
may_from n s p k c =
    ap (may_come n s (p, k)) c.is
    ∙ and_from (not (s.has_come p k)) (is_due (n.script p) (s.has_come p) c.event k && can_come n s.run (Some c.event))
    (not_from_false (s.has_come p k) c.new)
    (and_from (is_due (n.script p) (s.has_come p) c.event k) (can_come n s.run (Some c.event)) c.due c.can)

-- the machine's part of the state after it
pub run_after : {T : Type 0} (n : Net) (rule : Rule T) (s : PortState T) (p k : ℕ) (c : Coming n s p k)
    → (port_step n rule s (p, k)).run ≡ after_event rule s.run p (Some c.event)
run_after n rule s p k c = ap (after_event rule s.run p) c.is

-- Order

abbrev pub IsOrdered : Net → (ℕ → ℕ → Bool) → Type 0
IsOrdered n come =
    (p k j : ℕ) (e f : Event) → slice_get (n.script p) k ≡ Some e → slice_get (n.script p) j ≡ Some f → j < k
    → are_dependent e f ≡ true → come p k ≡ true → come p j ≡ true

pub ordered_step : {T : Type 0} (n : Net) (s : PortState T) (p k : ℕ) → IsOrdered n s.has_come → Coming n s p k
    → IsOrdered n (with_place s.has_come (p, k))
ordered_step n s p k ordered c q i j e f ise isf lt dep on =
    elim (cases_eq q p) [
      | inl sp ↦
          elim (cases_eq i k) [
            | inl sk ↦
                let this : slice_get (n.script p) k ≡ Some e =
                ap (λ r. slice_get (n.script r) k) (sym sp) ∙ ap (slice_get (n.script q)) (sym sk) ∙ ise in
                let both : Some c.event ≡ Some e = sym c.is ∙ this in
                let same : c.event ≡ e = cc in
                let that : slice_get (n.script p) j ≡ Some f = ap (λ r. slice_get (n.script r) j) (sym sp) ∙ isf in
                let came : s.has_come p j ≡ true =
                due_before (n.script p) (s.has_come p) c.event k c.due j f (omega arith) that
                (ap (λ x. are_dependent x f) same ∙ dep) in
                place_grows s.has_come p k q j (ap (λ r. s.has_come r j) sp ∙ came)
            | inr dk ↦ before (λ _ same. dk same)
          ]
      | inr dp ↦ before (λ same _. dp same)
    ]
  where
    before : (q ≡ p → i ≡ k → ⊥) → with_place s.has_come (p, k) q j ≡ true
    before d =
        place_grows s.has_come p k q j
        (ordered q i j e f ise isf lt dep (sym (place_other s.has_come p k q i d) ∙ on))

-- Counts

-- of a kind that depends on the event at a place, just those before it have come, where none of them is missing
pub made_at : {T : Type 0} (n : Net) (s : PortState T) (p k : ℕ) (e : Event) (kind : Event → Bool)
    → IsOrdered n s.has_come
    → slice_get (n.script p) k ≡ Some e → s.has_come p k ≡ false
    → ((j : ℕ) (f : Event) → j < k → slice_get (n.script p) j ≡ Some f → kind f ≡ true → s.has_come p j ≡ true)
    → ((f : Event) → kind f ≡ true → are_dependent f e ≡ true)
    → event_count n s kind p ≡ count_by kind (take k (n.script p))
made_at n s p k e kind ordered is new all depend =
    let inside = slice_get_within (n.script p) k e is in
    count_here kind (s.has_come p) (n.script p) k (omega arith) all none
  where
    none : (j : ℕ) (f : Event) → k ≤ j → slice_get (n.script p) j ≡ Some f → kind f ≡ true → s.has_come p j ≡ false
    none j f ge isf on =
        false_from_ne_true (s.has_come p j)
        (λ came.
        elim (cases_lt k j) [
          | inl lt ↦ both_ways (s.has_come p k) new (ordered p j k f e isf is lt (depend f on) came)
          | inr le ↦
              let same : j ≡ k = omega arith in
              both_ways (s.has_come p k) new (ap (s.has_come p) (sym same) ∙ came)
        ])

pub made_here : {T : Type 0} (n : Net) (s : PortState T) (p k : ℕ) (kind : Event → Bool) → IsOrdered n s.has_come
    → (c : Coming n s p k) → ((f : Event) → kind f ≡ true → are_dependent c.event f ≡ true)
    → ((f : Event) → kind f ≡ true → are_dependent f c.event ≡ true)
    → event_count n s kind p ≡ count_by kind (take k (n.script p))
made_here n s p k kind ordered c after before =
    made_at n s p k c.event kind ordered c.is c.new
    (λ j f lt isf on. due_before (n.script p) (s.has_come p) c.event k c.due j f lt isf (after f on)) before

-- at any event that may come, just the fires before it have come
pub fires_here : {T : Type 0} (n : Net) (s : PortState T) (p k : ℕ) → IsOrdered n s.has_come → Coming n s p k
    → event_count n s is_fire p ≡ count_by is_fire (take k (n.script p))
fires_here n s p k ordered c =
    made_here n s p k is_fire ordered c (λ f t. fire_after c.event f t) (λ f t. fire_before f c.event t)

-- what one event adds to the counts
module _ {T : Type 0} (n : Net) (rule : Rule T) (s : PortState T) (p k : ℕ) (c : Coming n s p k) where
  abbrev after : PortState T
  after = port_step n rule s (p, k)

  pub made_more : (kind : Event → Bool) → event_count n after kind p ≡ event_count n s kind p + cond (kind c.event) 1 0
  made_more kind =
      count_place kind (s.has_come p) (n.script p) (with_place s.has_come (p, k) p) k c.event c.is c.new
      (λ j same. place_here s.has_come p k p j refl same)
      (λ j other. place_other s.has_come p k p j (λ _ same. other same)) (length (n.script p))
      (slice_get_within (n.script p) k c.event c.is)

  pub made_same : (kind : Event → Bool) (q : ℕ) → (q ≡ p → ⊥) → event_count n after kind q ≡ event_count n s kind q
  made_same kind q d =
      ap (λ (come : ℕ → Bool). come_count kind come (n.script q) (length (n.script q)))
      (place_apart s.has_come p k q d)

  pub gets_more : IsWired n → (ch : ℕ) → gets_so_far n after ch ≡ gets_so_far n s ch + cond (is_get ch c.event) 1 0
  gets_more wired ch =
      elim (cases_eq (n.reader ch) p) [
        | inl same ↦
            subst (λ q. event_count n after (is_get ch) q
            ≡ event_count n s (is_get ch) q + cond (is_get ch c.event) 1 0)
            (sym same)
            (made_more (is_get ch))
        | inr d ↦
            elim (cases_Bool (is_get ch c.event)) [
              | inl t ↦ absurd (d (get_reader n wired p k ch c.event c.is t))
              | inr f ↦ rw f (omega (arith, made_same (is_get ch) (n.reader ch) d))
            ]
      ]

  pub puts_more : IsWired n → (ch : ℕ) → puts_so_far n after ch ≡ puts_so_far n s ch + cond (is_put ch c.event) 1 0
  puts_more wired ch =
      elim (cases_eq (n.writer ch) p) [
        | inl same ↦
            subst (λ q. event_count n after (is_put ch) q
            ≡ event_count n s (is_put ch) q + cond (is_put ch c.event) 1 0)
            (sym same)
            (made_more (is_put ch))
        | inr d ↦
            elim (cases_Bool (is_put ch c.event)) [
              | inl t ↦ absurd (d (put_writer n wired p k ch c.event c.is t))
              | inr f ↦ rw f (omega (arith, made_same (is_put ch) (n.writer ch) d))
            ]
      ]
