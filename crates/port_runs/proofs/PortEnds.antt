-- Every run of the ports can go on until all events have come, where one run of the scripts ends all.
--
-- The full run of the scripts is gone through as a list of events, beside a state of the ports in which all before
-- the present one have come (`finish`). If the present one has come too, it is passed over. If not, its process's
-- earlier events have come, so it is due; of its own port just those before it have come, and of the other end at
-- least those before it; so its channel has the token or the room that it had in the full run, and it may come
-- (`may_from_cut`). No order of the ports is fixed beforehand: a fixed one might stick. Nothing is said of how
-- soon an event comes.
use Rattle.std.proofs.Common.{◌≡◌, ◌⊎◌, ℕ, ◌+◌, ◌<◌, ◌≤◌, Bool, true, false, Option, Some, None, List, [], ◌∷◌}
use Rattle.std.proofs.Common.{length, take, slice_get, count_by, ap, sym, subst, ◌∙◌, refl, inl, inr, arith, ltb-true}
use Rattle.std.proofs.Common.{eq-eqb, lt-ltb}
use Rattle.std.proofs.lemmas.Bool.{cases_Bool, cases_eq, cases_lt}
use Rattle.net_core.specs.declared.network.Event.{Event}
use Rattle.net_core.specs.declared.network.Event.TheVariants.{Get, Fire, Put}
use Rattle.net_core.specs.Cuts.{Cut, IsCutRun, advanced, can_come_at, cut_after, enabled_at, gets_at, opening, puts_at}
use Rattle.net_core.specs.Machine.{Net, Rule, can_come, start}
use Rattle.net_core.specs.Orders.{EndsAlways}
use Rattle.net_core.specs.Shape.{is_get, is_put, IsWired}
use Rattle.net_core.proofs.CutOrder.{advanced_here, advanced_there}
use Rattle.net_core.proofs.Positions.{enabled_inside, run_cut, run_ends, start_counted}
use Rattle.port_runs.specs.Ports.{AllHaveCome, IsPortRun, EventPlace, PortState, PortsEndAlways, may_come_at}
use Rattle.port_runs.specs.Ports.{port_after, port_reached, port_start, port_step}
use Rattle.port_runs.specs.PortNames.{gets_so_far, event_count, puts_so_far}
use Rattle.port_runs.proofs.ComeCounts.{count_least}
use Rattle.port_runs.proofs.DueEvents.{due_from, gets_depend, place_grows, place_here, puts_depend}
use Rattle.port_runs.proofs.PortSteps.{Coming, coming, made_at, may_from}
use Rattle.port_runs.proofs.PortCounts.{PortCounted, counted_step, port_counted, port_fits}
use Rattle.port_runs.proofs.PortCounts as counts

-- all events before a cut have come
abbrev pub HaveComeTo : Cut → (ℕ → ℕ → Bool) → Type 0
HaveComeTo cut come = (p k : ℕ) → k < cut p → come p k ≡ true

-- no position of a cut is past its script's end
abbrev pub IsInside : Net → Cut → Type 0
IsInside n cut = (p : ℕ) → cut p ≤ length (n.script p)

module _ {T : Type 0} (n : Net) (wired : IsWired n) (s : PortState T) (h : PortCounted n s) (cut : Cut)
    (inside : IsInside n cut)
    (came : HaveComeTo cut s.has_come) (p : ℕ) (new : s.has_come p (cut p) ≡ false) where
  -- at the other end of a channel there are at least those before the cut
  least : (kind : Event → Bool) (q : ℕ) → count_by kind (take (cut q) (n.script q)) ≤ event_count n s kind q
  least kind q =
      count_least kind (s.has_come q) (n.script q) (cut q) (inside q) (λ j f lt isf on. came q j lt)

  can_from_cut : (e : Event) → slice_get (n.script p) (cut p) ≡ Some e → can_come_at n cut (Some e) ≡ true
      → can_come n s.run (Some e) ≡ true
  can_from_cut (Get c slot) is on =
      let r : n.reader c ≡ p = wired.get_reader p (cut p) c slot is in
      let mine : event_count n s (is_get c) p ≡ count_by (is_get c) (take (cut p) (n.script p)) =
      made_at n s p (cut p) (Get c slot) (is_get c) h.ordered is new (λ j f lt isf t. came p j lt)
      (λ f t. gets_depend c f (Get c slot) t (own c)) in
      let gets : gets_so_far n s c ≡ gets_at n cut c =
      subst (λ q. event_count n s (is_get c) q ≡ count_by (is_get c) (take (cut q) (n.script q))) (sym r) mine in
      let puts : puts_at n cut c ≤ puts_so_far n s c = least (is_put c) (n.writer c) in
      let had : gets_at n cut c < puts_at n cut c = ltb-true _ _ on in
      lt-ltb _ _ (omega (arith, h.queues c, gets, puts, had))
    where
      own : (c : ℕ) → is_get c (Get c slot) ≡ true
      own c = eq-eqb c c refl
  can_from_cut (Fire refs) is on = refl
  can_from_cut (Put c) is on =
      let r : n.writer c ≡ p = wired.put_writer p (cut p) c is in
      let mine : event_count n s (is_put c) p ≡ count_by (is_put c) (take (cut p) (n.script p)) =
      made_at n s p (cut p) (Put c) (is_put c) h.ordered is new (λ j f lt isf t. came p j lt)
      (λ f t. puts_depend c f (Put c) t (own c)) in
      let puts : puts_so_far n s c ≡ puts_at n cut c =
      subst (λ q. event_count n s (is_put c) q ≡ count_by (is_put c) (take (cut q) (n.script q))) (sym r) mine in
      let gets : gets_at n cut c ≤ gets_so_far n s c = least (is_get c) (n.reader c) in
      let room : puts_at n cut c < gets_at n cut c + n.capacity c = ltb-true _ _ on in
      lt-ltb _ _ (omega (arith, h.queues c, gets, puts, room))
    where
      own : (c : ℕ) → is_put c (Put c) ≡ true
      own c = eq-eqb c c refl

  from_cut : (o : Option Event) → slice_get (n.script p) (cut p) ≡ o → can_come_at n cut o ≡ true
      → Coming n s p (cut p)
  from_cut None is on = absurd (cc)
  from_cut (Some e) is on = record {
    event = e;
    is = is;
    new = new;
    due = due_from (n.script p) (s.has_come p) e (cut p) (λ j f lt isf dep. came p j lt);
    can = can_from_cut e is on;
  }

  -- an event that may come at a cut up to which all have come may come here too
  pub may_from_cut : enabled_at n cut p ≡ true → may_come_at n s (p, cut p) ≡ true
  may_from_cut on = may_from n s p (cut p) (from_cut (slice_get (n.script p) (cut p)) refl on)

-- The rest of a run

advanced_inside : (n : Net) (cut : Cut) (p : ℕ) → IsInside n cut → enabled_at n cut p ≡ true
    → IsInside n (advanced cut p)
advanced_inside n cut p inside on q =
    elim (cases_eq q p) [
      | inl same ↦
          let low : cut q < length (n.script q) = rw same (enabled_inside n cut p on) in
          omega (arith, advanced_here cut p q same)
      | inr d ↦ omega (arith, advanced_there cut p q d, inside q)
    ]

-- the event at the cut has come as well
advanced_come : (cut : Cut) (come : ℕ → ℕ → Bool) (p : ℕ) → HaveComeTo cut come → come p (cut p) ≡ true
    → HaveComeTo (advanced cut p) come
advanced_come cut come p came on q k lt =
    elim (cases_eq q p) [
      | inl same ↦
          elim (cases_lt k (cut q)) [
            | inl low ↦ came q k low
            | inr high ↦
                let last : k ≡ cut q = omega (arith, lt, advanced_here cut p q same) in
                rw (last, same) on
          ]
      | inr d ↦ came q k (omega (arith, lt, advanced_there cut p q d))
    ]

pub finish : {T : Type 0} (n : Net) (rule : Rule T) → IsWired n → (run : List ℕ) (cut : Cut) (s : PortState T)
    → PortCounted n s
    → IsInside n cut → HaveComeTo cut s.has_come → IsCutRun n cut run
    → (rest : List EventPlace) × IsPortRun n rule s rest
    × HaveComeTo (cut_after cut run) (port_after n rule s rest).has_come
finish n rule wired [] cut s h inside came is = ([], tt, came)
finish n rule wired (p ∷ run) cut s h inside came is =
    let further = advanced_inside n cut p inside is.0 in
    elim (cases_Bool (s.has_come p (cut p))) [
      | inl on ↦ finish n rule wired run (advanced cut p) s h further (advanced_come cut s.has_come p came on) is.1
      | inr new ↦
          let may = may_from_cut n wired s h cut inside came p new is.0 in
          let t = port_step n rule s (p, cut p) in
          let grown : HaveComeTo cut t.has_come = λ q k lt. place_grows s.has_come p (cut p) q k (came q k lt) in
          let later =
          finish n rule wired run (advanced cut p) t
          (counted_step n rule wired s p (cut p) (coming n s p (cut p) may) h) further
          (advanced_come cut t.has_come p grown (place_here s.has_come p (cut p) p (cut p) refl refl)) is.1 in
          ((p, cut p) ∷ later.0, (may, later.1), later.2)
    ]

-- Every run

module _ {T : Type 0} (n : Net) (rule : Rule T) (wired : IsWired n) (always : EndsAlways n rule) where
  whole : List ℕ
  whole = (always.ends [] tt).0

  pub ends_from : (s : PortState T) → PortCounted n s
      → (rest : List EventPlace) × IsPortRun n rule s rest × AllHaveCome n (port_after n rule s rest)
  unfolding whole
  ends_from s h =
      let full = always.ends [] tt in
      let cuts : IsCutRun n opening whole = run_cut n rule wired whole (start n) (start_counted n) full.1 in
      let last : (p : ℕ) → cut_after opening whole p ≡ length (n.script p) =
      λ p. sym (ap (λ (k : Cut). k p) (run_ends n rule whole (start n) full.1)) ∙ full.2 p in
      let rest =
      finish n rule wired whole opening s h (λ p. omega arith) (λ p k lt. absurd (omega arith)) cuts in
      (rest.0, rest.1, λ p k lt. rest.2 p k (omega (arith, lt, last p)))

  goes_on_from : (s : PortState T) (rest : List EventPlace) → IsPortRun n rule s rest
      → AllHaveCome n (port_after n rule s rest)
      → AllHaveCome n s ⊎ ((at : EventPlace) × (may_come_at n s at ≡ true))
  goes_on_from s [] is all = inl all
  goes_on_from s (at ∷ rest) is all = inr (at, is.0)

  counted_at : (run : List EventPlace) → IsPortRun n rule (port_start n) run → PortCounted n (port_reached n rule run)
  counted_at run is = port_counted n rule wired run (port_start n) (counts.start_counted n) is

  pub ports_end : PortsEndAlways n rule
  ports_end = record {
    goes_on = λ run is.
        let rest = ends_from (port_reached n rule run) (counted_at run is) in
        goes_on_from (port_reached n rule run) rest.0 rest.1 rest.2;
    ends = λ run is. ends_from (port_reached n rule run) (counted_at run is);
    fits = λ run is c.
        port_fits n rule wired run (port_start n) (counts.start_counted n) is c (omega arith);
  }
