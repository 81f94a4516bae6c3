-- One part of a clock: events that may all come at its beginning come one after the other.
--
-- Of two events that may come neither hinders the other (`stays`): what is due stays due, and the two aren't at
-- one port, since of two of one port in a script only the earlier is due. So of a list in which each place stands
-- once all that may come at the beginning still may when their turn comes. The list is gone through process by
-- process and place by place (`process_part`, `net_part`), beside what holds of the events that aren't in it: they
-- still may come. Fires of any values are meant.
use Rattle.std.proofs.Common.{◌≡◌, ℕ, zero, suc, ◌+◌, ◌<◌, ◌≤◌, Bool, true, false, Some, List, [], ◌∷◌, ◌++◌}
use Rattle.std.proofs.Common.{length, map, slice_get, ap, ap₂, sym, subst, ◌∙◌, refl, inl, inr, arith, ltb-true, lt-ltb}
use Rattle.std.proofs.Common.{eq-eqb}
use Rattle.std.specs.List.{filter, flat_map, range_with_len}
use Rattle.std.proofs.lemmas.Bool.{both_ways, cases_Bool, cases_eq, cases_lt, cond-true, cond-false}
use Rattle.std.proofs.lemmas.List.Elements.{filter-append}
use Rattle.net_core.specs.declared.network.Event.{Event}
use Rattle.net_core.specs.declared.network.Event.TheVariants.{Get, Fire, Put}
use Rattle.net_core.specs.Machine.{Net, Rule, State, can_come, queue_after}
use Rattle.net_core.specs.Shape.{is_get, is_put, IsWired}
use Rattle.net_core.proofs.TwoSteps.{get_reader, grows, put_writer, shrinks}
use Rattle.port_runs.specs.Ports.{IsPortRun, EventPlace, PortState, are_dependent, port_after, port_step, with_place}
use Rattle.port_runs.proofs.DueEvents.{due_before, due_from, gets_depend, place_grows, place_here, place_other, puts_depend}
use Rattle.port_runs.proofs.PortSteps.{Coming, may_from, run_after}
use Rattle.port_clocks.specs.PortClocks.{places_of}

-- Two events

-- an event can still come after one that is at no port of its own
can_after : {T : Type 0} (n : Net) (s t : State T) (kept : List T) (e f : Event)
    → ((c : ℕ) → is_get c e ≡ true → is_get c f ≡ true → ⊥)
    → ((c : ℕ) → is_put c e ≡ true → is_put c f ≡ true → ⊥)
    → ((c : ℕ) → t.queue c ≡ queue_after kept f c (s.queue c)) → can_come n s (Some e) ≡ true
    → can_come n t (Some e) ≡ true
can_after n s t kept (Get c slot) f gets puts is h =
    let had = ltb-true _ _ h in
    rw (is c) (lt-ltb _ _ (omega (arith, grows kept f c (s.queue c) (λ g. gets c (eq-eqb c c refl) g))))
can_after n s t kept (Fire refs) f gets puts is h = refl
can_after n s t kept (Put c) f gets puts is h =
    let had = ltb-true _ _ h in
    rw (is c) (lt-ltb _ _ (omega (arith, shrinks kept f c (s.queue c) (λ g. puts c (eq-eqb c c refl) g))))

module _ {T : Type 0} (n : Net) (rule : Rule T) (wired : IsWired n) (s : PortState T) (p k q j : ℕ)
    (other : q ≡ p → j ≡ k → ⊥)
    (x : Coming n s q j) (y : Coming n s p k) where
  -- of two dependent events of one process only one may come
  apart : are_dependent x.event y.event ≡ true → are_dependent y.event x.event ≡ true → q ≡ p → ⊥
  apart xy yx same =
      elim (cases_lt j k) [
        | inl lt ↦
            let at : slice_get (n.script p) j ≡ Some x.event = ap (λ r. slice_get (n.script r) j) (sym same) ∙ x.is in
            let came : s.has_come p j ≡ true =
            due_before (n.script p) (s.has_come p) y.event k y.due j x.event lt at yx in
            both_ways (s.has_come q j) x.new (ap (λ r. s.has_come r j) same ∙ came)
        | inr ge ↦
            elim (cases_eq j k) [
              | inl here ↦ other same here
              | inr there ↦
                  let at : slice_get (n.script q) k ≡ Some y.event = ap (λ r. slice_get (n.script r) k) same ∙ y.is in
                  let lt : k < j = later ge there in
                  let came : s.has_come q k ≡ true =
                  due_before (n.script q) (s.has_come q) x.event j x.due k y.event lt at xy in
                  both_ways (s.has_come p k) y.new (ap (λ r. s.has_come r k) (sym same) ∙ came)
            ]
      ]
    where
      later : k ≤ j → (j ≡ k → ⊥) → k < j
      later ge there = elim (cases_lt k j) [ inl lt ↦ lt | inr le ↦ absurd (there (omega arith)) ]

  not_both_gets : (c : ℕ) → is_get c x.event ≡ true → is_get c y.event ≡ true → ⊥
  not_both_gets c mine yours =
      apart (gets_depend c x.event y.event mine yours) (gets_depend c y.event x.event yours mine)
      (sym (get_reader n wired q j c x.event x.is mine) ∙ get_reader n wired p k c y.event y.is yours)

  not_both_puts : (c : ℕ) → is_put c x.event ≡ true → is_put c y.event ≡ true → ⊥
  not_both_puts c mine yours =
      apart (puts_depend c x.event y.event mine yours) (puts_depend c y.event x.event yours mine)
      (sym (put_writer n wired q j c x.event x.is mine) ∙ put_writer n wired p k c y.event y.is yours)

  -- an event that may come still may after another one that may
  pub stays : Coming n (port_step n rule s (p, k)) q j
  stays = record {
    event = x.event;
    is = x.is;
    new = place_other s.has_come p k q j other ∙ x.new;
    due = due_from (n.script q) (with_place s.has_come (p, k) q) x.event j
        (λ i f lt at dep.
        place_grows s.has_come p k q i (due_before (n.script q) (s.has_come q) x.event j x.due i f lt at dep));
    can = can_after n s.run (port_step n rule s (p, k)).run (s.run.local p).kept x.event y.event not_both_gets
        not_both_puts
        (λ c. ap (λ (t : State T). t.queue c) (run_after n rule s p k y)) x.can;
  }

-- Runs one after another

pub port_after_append : {T : Type 0} (n : Net) (rule : Rule T) (run more : List EventPlace) (s : PortState T)
    → port_after n rule s (run ++ more) ≡ port_after n rule (port_after n rule s run) more
port_after_append n rule [] more s = refl
port_after_append n rule (at ∷ run) more s = port_after_append n rule run more (port_step n rule s at)

pub port_run_append : {T : Type 0} (n : Net) (rule : Rule T) (run more : List EventPlace) (s : PortState T)
    → IsPortRun n rule s run
    → IsPortRun n rule (port_after n rule s run) more → IsPortRun n rule s (run ++ more)
port_run_append n rule [] more s first later = later
port_run_append n rule (at ∷ run) more s first later =
    (first.0, port_run_append n rule run more (port_step n rule s at) first.1 later)

-- what has come stays so
pub come_grows : {T : Type 0} (n : Net) (rule : Rule T) (run : List EventPlace) (s : PortState T) (q j : ℕ)
    → s.has_come q j ≡ true → (port_after n rule s run).has_come q j ≡ true
come_grows n rule [] s q j on = on
come_grows n rule (at ∷ run) s q j on =
    come_grows n rule run (port_step n rule s at) q j (place_grows s.has_come at.0 at.1 q j on)

-- A part

-- of the places of process p from a on, m in number, those that pass a test come, and the others still may come
pub record ProcessPart {T : Type 0} (n : Net) (rule : Rule T) (test : EventPlace → Bool) (p a m : ℕ) (s : PortState T)
    (run : List EventPlace) : Type 0 where
  pub is : IsPortRun n rule s run
  pub others : (q j : ℕ) → (test (q, j) ≡ true → q ≡ p → ⊥) → Coming n s q j
      → Coming n (port_after n rule s run) q j
  pub come : (k : ℕ) → a ≤ k → k < a + m → test (p, k) ≡ true → (port_after n rule s run).has_come p k ≡ true

-- the same of the processes from a on, m in number
pub record NetPart {T : Type 0} (n : Net) (rule : Rule T) (test : EventPlace → Bool) (a m : ℕ) (s : PortState T)
    (run : List EventPlace) : Type 0 where
  pub is : IsPortRun n rule s run
  pub others : (q j : ℕ) → test (q, j) ≡ false → Coming n s q j → Coming n (port_after n rule s run) q j
  pub come : (q j : ℕ) → a ≤ q → q < a + m → j < length (n.script q) → test (q, j) ≡ true
      → (port_after n rule s run).has_come q j ≡ true

module _ {T : Type 0} (n : Net) (rule : Rule T) (wired : IsWired n) (test : EventPlace → Bool) where
  -- those places of a process that pass
  abbrev passing : ℕ → ℕ → ℕ → List EventPlace
  passing p a m = filter test (map (λ k. (p, k)) (range_with_len a m))

  process_part : (p m a : ℕ) (s : PortState T)
      → ((k : ℕ) → a ≤ k → test (p, k) ≡ true → Coming n s p k)
      → ProcessPart n rule test p a m s (passing p a m)
  process_part p zero a s are = record {
    is = tt;
    others = λ q j out c. c;
    come = λ k low high on. absurd (omega arith);
  }
  process_part p (suc m) a s are =
      elim (cases_Bool (test (p, a))) [
        | inl on ↦
            let here = are a (omega arith) on in
            let t = port_step n rule s (p, a) in
            let rest =
            process_part p m (a + 1) t
            (λ k low on'. stays n rule wired s p a p k (λ _ same. omega arith) (are k (omega arith) on') here) in
            subst (λ run. ProcessPart n rule test p a (suc m) s run)
            (sym (cond-true (test (p, a)) ((p, a) ∷ passing p (a + 1) m) (passing p (a + 1) m) on))
            (
            record {
              is = (may_from n s p a here, rest.is);
              others = λ q j out c.
                  rest.others q j out
                  (stays n rule wired s p a q j
                  (λ sp sj. out (ap₂ (λ u w. test (u, w)) sp sj ∙ on) sp) c here);
              come = λ k low high on'.
                  elim (cases_eq k a) [
                    | inl same ↦
                        come_grows n rule (passing p (a + 1) m) t p k (place_here s.has_come p a p k refl same)
                    | inr d ↦ rest.come k (above a k low d) (omega arith) on'
                  ];
            }
            )
        | inr off ↦
            let rest = process_part p m (a + 1) s (λ k low on'. are k (omega arith) on') in
            subst (λ run. ProcessPart n rule test p a (suc m) s run)
            (sym (cond-false (test (p, a)) ((p, a) ∷ passing p (a + 1) m) (passing p (a + 1) m) off))
            (
            record {
              is = rest.is;
              others = rest.others;
              come = λ k low high on'.
                  elim (cases_eq k a) [
                    | inl same ↦ absurd (both_ways (test (p, a)) off (ap (λ i. test (p, i)) (sym same) ∙ on'))
                    | inr d ↦ rest.come k (above a k low d) (omega arith) on'
                  ];
            }
            )
      ]
    where
      above : (a k : ℕ) → a ≤ k → (k ≡ a → ⊥) → a + 1 ≤ k
      above a k low d = elim (cases_lt a k) [ inl lt ↦ omega arith | inr ge ↦ absurd (d (omega arith)) ]

  -- those places of some processes that pass
  abbrev pub passing_all : ℕ → ℕ → List EventPlace
  passing_all a m = filter test (flat_map (places_of n) (range_with_len a m))

  pub net_part : (m a : ℕ) (s : PortState T)
      → ((q j : ℕ) → a ≤ q → test (q, j) ≡ true → Coming n s q j)
      → NetPart n rule test a m s (passing_all a m)
  net_part zero a s are = record {
    is = tt;
    others = λ q j off c. c;
    come = λ q j low high inside on. absurd (omega arith);
  }
  net_part (suc m) a s are =
      let many = length (n.script a) in
      let first = process_part a many 0 s (λ k low on. are a k (omega arith) on) in
      let mine = passing a 0 many in
      let yours = passing_all (a + 1) m in
      let t = port_after n rule s mine in
      let rest =
      net_part m (a + 1) t
      (λ q j low on. first.others q j (λ _ same. omega arith) (are q j (omega arith) on)) in
      let whole = port_after_append n rule mine yours s in
      subst (λ run. NetPart n rule test a (suc m) s run)
      (sym (filter-append test (places_of n a) (flat_map (places_of n) (range_with_len (a + 1) m))))
      (
      record {
        is = port_run_append n rule mine yours s first.is rest.is;
        others = λ q j off c.
            subst (λ (u : PortState T). Coming n u q j) (sym whole)
            (rest.others q j off (first.others q j (λ on _. both_ways (test (q, j)) off on) c));
        come = λ q j low high inside on.
            subst (λ (u : PortState T). u.has_come q j ≡ true) (sym whole)
            (elim (cases_eq q a) [
              | inl same ↦
                  come_grows n rule yours t q j
                  (subst (λ r. t.has_come r j ≡ true) (sym same)
                  (first.come j (omega arith) (omega (arith, inside, ap (λ r. length (n.script r)) same))
                  (ap (λ r. test (r, j)) (sym same) ∙ on)))
              | inr d ↦ rest.come q j (beyond a q low d) (omega arith) inside on
            ]);
      }
      )
    where
      beyond : (a q : ℕ) → a ≤ q → (q ≡ a → ⊥) → a + 1 ≤ q
      beyond a q low d = elim (cases_lt a q) [ inl lt ↦ omega arith | inr ge ↦ absurd (d (omega arith)) ]
