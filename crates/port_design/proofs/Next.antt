-- The events that come in a part of a clock, as the ports see them: each is the next one at its port.
--
-- An event that may come is due: all before it on which it depends have come. A Put depends on the Puts of its
-- channel and on the Fires, a Get on those of its channel and on the Fires, and a Fire on all. So it is next among
-- these (`next_from`), and as only one is next, of each kind at most one comes in a part; the place of a port is
-- then behind it (`part_passes`), or where it was (`part_stays`).
use Rattle.std.proofs.Common.{◌≡◌, ℕ, suc, Bool, true, false, ◌&&◌, eqb, Some, List, length, slice_get}
use Rattle.std.proofs.Common.{ap, sym, ◌∙◌, refl, inl, inr, arith, eq-eqb, eqb-true}
use Rattle.std.specs.Option.{option_map_or}
use Rattle.std.proofs.lemmas.Bool.{and_from, and_parts, both_ways, cases_Bool, cases_lt, or_cases, or_left, or_right}
use Rattle.std.proofs.lemmas.Option.{slice_get_within}
use Rattle.net_core.specs.declared.refs.Ref.{Ref}
use Rattle.net_core.specs.declared.network.Event.{Event}
use Rattle.net_core.specs.declared.network.Event.TheVariants.{Get, Fire, Put}
use Rattle.net_core.specs.Machine.{Net, Rule, can_come}
use Rattle.net_core.specs.Shape.{is_any_get, is_fire, is_get, is_put, IsWired}
use Rattle.port_runs.specs.Ports.{IsPortRun, EventPlace, PortState, are_dependent, event_at, may_come_at, port_after}
use Rattle.port_runs.proofs.DueEvents.{due_before, fire_after, gets_depend, puts_depend}
use Rattle.port_runs.proofs.PortSteps.{Coming, coming, may_from}
use Rattle.port_clocks.specs.PortClocks.{comes, is_any_put, part_of_clock, places}
use Rattle.port_clocks.proofs.OneClock.{the_part}
use Rattle.port_design.specs.Clocked.{HasPassed, is_get_or_fire, is_put_or_fire}
use Rattle.port_design.proofs.Effects.{Each, come_other, each_passes}
use Rattle.port_design.proofs.Places.{NextIs, next_one, passed_on, passed_same}

-- On what events depend

pub put_needs : (c : ℕ) (e f : Event) → is_put c e ≡ true → is_put_or_fire c f ≡ true → are_dependent e f ≡ true
put_needs c e f put on =
    elim (or_cases (is_put c f) (is_fire f) on) [
      | inl other ↦ puts_depend c e f put other
      | inr fire ↦ fire_after e f fire
    ]

pub get_needs : (c : ℕ) (e f : Event) → is_get c e ≡ true → is_get_or_fire c f ≡ true → are_dependent e f ≡ true
get_needs c e f get on =
    elim (or_cases (is_get c f) (is_fire f) on) [
      | inl other ↦ gets_depend c e f get other
      | inr fire ↦ fire_after e f fire
    ]

pub put_needs_only : (c : ℕ) (e f : Event) → is_put c e ≡ true → are_dependent e f ≡ true → is_put_or_fire c f ≡ true
put_needs_only c (Get d slot) f put dep = absurd (cc)
put_needs_only c (Fire refs) f put dep = absurd (cc)
put_needs_only c (Put d) (Get d' slot) put dep = absurd (cc)
put_needs_only c (Put d) (Fire refs) put dep = refl
put_needs_only c (Put d) (Put d') put dep = or_left (eqb c d') false (eq-eqb c d' (eqb-true c d put ∙ eqb-true d d' dep))

-- Kinds

pub fire_no_put : (e : Event) → is_fire e ≡ true → is_any_put e ≡ false
fire_no_put (Get c slot) t = refl
fire_no_put (Fire refs) t = refl
fire_no_put (Put c) t = absurd (cc)

pub put_any : (c : ℕ) (e : Event) → is_put c e ≡ true → is_any_put e ≡ true
put_any c (Get d slot) t = absurd (cc)
put_any c (Fire refs) t = absurd (cc)
put_any c (Put d) t = refl

pub put_of : (c : ℕ) (e : Event) → is_put_or_fire c e ≡ true → is_any_put e ≡ true → is_put c e ≡ true
put_of c (Get d slot) on any = absurd (cc)
put_of c (Fire refs) on any = absurd (cc)
put_of c (Put d) on any = elim (or_cases (eqb c d) false on) [ inl here ↦ here | inr wrong ↦ absurd (cc) ]

pub get_of : (c : ℕ) (e : Event) → is_get_or_fire c e ≡ true → is_any_get e ≡ true
    → (slot : ℕ) × (e ≡ Get c slot)
get_of c (Get d slot) on any =
    elim (or_cases (eqb c d) false on) [
      | inl here ↦ (slot, ap (λ x. Get x slot) (sym (eqb-true c d here)))
      | inr wrong ↦ absurd (cc)
    ]
get_of c (Fire refs) on any = absurd (cc)
get_of c (Put d) on any = absurd (cc)

-- an event that a port sees: a Fire, or one of its channel
pub fire_is : (e : Event) → is_fire e ≡ true → (refs : List Ref) × (e ≡ Fire refs)
fire_is (Get d slot) t = absurd (cc)
fire_is (Fire refs) t = (refs, refl)
fire_is (Put d) t = absurd (cc)

pub fire_at_putter : (c : ℕ) (e : Event) → is_fire e ≡ true → is_put_or_fire c e ≡ true
fire_at_putter c e t = or_right (is_put c e) (is_fire e) t

-- What comes is next

pub next_from : {T : Type 0} (n : Net) (s : PortState T) (p k : ℕ) (kind : Event → Bool) (c : Coming n s p k)
    → kind c.event ≡ true → ((f : Event) → kind f ≡ true → are_dependent c.event f ≡ true)
    → NextIs kind (n.script p) (s.has_come p) k c.event
next_from n s p k kind c on needs = record {
  is = c.is;
  on = on;
  new = c.new;
  before = λ j f lt at onf. due_before (n.script p) (s.has_come p) c.event k c.due j f lt at (needs f onf);
}

module _ {T : Type 0} (n : Net) (rule : Rule T) (wired : IsWired n) (kind : Event → Bool) (clock part : PortState T)
  where
    abbrev pub test : EventPlace → Bool
    test = comes n kind clock part

    abbrev pub behind : PortState T
    behind = port_after n rule part (part_of_clock n kind clock part)

    -- what is known of an event that comes
    pub test_coming : (p k : ℕ) → test (p, k) ≡ true → Coming n part p k
    test_coming p k on =
        let first =
        and_parts (option_map_or kind (event_at n (p, k)) false)
        (can_come n clock.run (event_at n (p, k)) && may_come_at n part (p, k)) on in
        coming n part p k (and_parts (can_come n clock.run (event_at n (p, k))) (may_come_at n part (p, k)) first.1).1

    pub test_kind : (p k : ℕ) (e : Event) → test (p, k) ≡ true → slice_get (n.script p) k ≡ Some e → kind e ≡ true
    test_kind p k e on is =
        let first =
        and_parts (option_map_or kind (event_at n (p, k)) false)
        (can_come n clock.run (event_at n (p, k)) && may_come_at n part (p, k)) on in
        sym (ap (λ o. option_map_or kind o false) is) ∙ first.0

    pub test_can : (p k : ℕ) (e : Event) → test (p, k) ≡ true → slice_get (n.script p) k ≡ Some e
        → can_come n clock.run (Some e) ≡ true
    test_can p k e on is =
        let first =
        and_parts (option_map_or kind (event_at n (p, k)) false)
        (can_come n clock.run (event_at n (p, k)) && may_come_at n part (p, k)) on in
        sym (ap (can_come n clock.run) is)
        ∙ (and_parts (can_come n clock.run (event_at n (p, k))) (may_come_at n part (p, k)) first.1).0

    pub test_from : (p k : ℕ) (c : Coming n part p k) → kind c.event ≡ true → can_come n clock.run (Some c.event) ≡ true
        → test (p, k) ≡ true
    test_from p k c on can =
        and_from (option_map_or kind (event_at n (p, k)) false)
        (can_come n clock.run (event_at n (p, k)) && may_come_at n part (p, k))
        (ap (λ o. option_map_or kind o false) c.is ∙ on)
        (and_from (can_come n clock.run (event_at n (p, k))) (may_come_at n part (p, k)) (ap (can_come n clock.run) c.is ∙ can)
        (may_from n part p k c))

    -- the part is a run of such events
    pub part_run : IsPortRun n rule part (part_of_clock n kind clock part)
    part_run = (the_part n rule wired clock kind part).is

    pub part_each : Each (λ at. test at ≡ true) (part_of_clock n kind clock part)
    part_each = each_passes test (places n)

    -- what has come behind it
    pub come_now : (p k : ℕ) → test (p, k) ≡ true → behind.has_come p k ≡ true
    come_now p k on =
        let c = test_coming p k on in
        let inside = slice_get_within (n.script p) k c.event c.is in
        elim (cases_lt p n.processes) [
          | inl lt ↦ (the_part n rule wired clock kind part).come p k (omega arith) (omega arith) inside on
          | inr past ↦
              let nothing : length (n.script p) ≡ 0 = ap length (wired.bounded p past) in
              absurd (omega (arith, inside, nothing))
        ]

    pub come_not : (p k : ℕ) → test (p, k) ≡ false → behind.has_come p k ≡ part.has_come p k
    come_not p k off = come_other n rule test p k off (places n) part

    -- events of another kind
    pub come_apart : (p k : ℕ) (e : Event) → slice_get (n.script p) k ≡ Some e → kind e ≡ false
        → behind.has_come p k ≡ part.has_come p k
    come_apart p k e is off =
        elim (cases_Bool (test (p, k))) [
          | inl on ↦ absurd (both_ways (kind e) off (test_kind p k e on is))
          | inr none ↦ come_not p k none
        ]

    module _ (seen : Event → Bool) (p place : ℕ) (passed : HasPassed seen (n.script p) (part.has_come p) place) where
      -- where one of those that a port sees comes, and each that comes is next
      pub part_passes : (i : ℕ) (e : Event) → NextIs seen (n.script p) (part.has_come p) i e → test (p, i) ≡ true
          → ((k : ℕ) (f : Event) → slice_get (n.script p) k ≡ Some f → seen f ≡ true → test (p, k) ≡ true
          → NextIs seen (n.script p) (part.has_come p) k f)
          → HasPassed seen (n.script p) (behind.has_come p) (suc i)
      part_passes i e x on next =
          passed_on seen (n.script p) (part.has_come p) place passed i e x (behind.has_come p) (come_now p i on)
          (λ k f is onf other.
          elim (cases_Bool (test (p, k))) [
            | inl also ↦
                absurd (other (next_one seen (n.script p) (part.has_come p) k i f e (next k f is onf also) x))
            | inr none ↦ come_not p k none
          ])

      -- where none comes
      pub part_stays : ((k : ℕ) (f : Event) → slice_get (n.script p) k ≡ Some f → seen f ≡ true → test (p, k) ≡ true → ⊥)
          → HasPassed seen (n.script p) (behind.has_come p) place
      part_stays none =
          passed_same seen (n.script p) (part.has_come p) place passed (behind.has_come p)
          (λ k f is onf.
          elim (cases_Bool (test (p, k))) [
            | inl on ↦ absurd (none k f is onf on)
            | inr off ↦ come_not p k off
          ])
