-- The events of a part of a clock, listed process by process: of each process those of its window that come.
--
-- The invariant of the listing is that those up to a place are listed; the next place adds its event or nothing
-- (`first_more`), and the next process those of its script (`all_more`). An event before a window has come, and
-- none behind it is due, so neither comes (`none_before`, `none_behind`): of all places of a script just those of
-- the window are looked at. That the listed events can come one after the other isn't said here.
use Rattle.std.proofs.Common.{◌≡◌, ℕ, zero, suc, ◌+◌, ◌-◌, ◌<◌, ◌≤◌, Bool, true, false, not, ◌&&◌, cond, Option, Some, None, List}
use Rattle.std.proofs.Common.{[], ◌∷◌, ◌++◌, length, map, slice_get, ap, sym, ◌∙◌, refl, arith, add-zero, zero-add}
use Rattle.std.proofs.Common.{append-nil}
use Rattle.std.specs.List.{filter, flat_map, range_with_len}
use Rattle.std.specs.Option.{option_map_or}
use Rattle.std.proofs.lemmas.Bool.{and_left, and_right, not_from_true}
use Rattle.std.proofs.lemmas.List.{flat_map_more}
use Rattle.std.proofs.lemmas.List.Elements.{filter-append}
use Rattle.std.proofs.lemmas.List.FromFn.{filter_of_map_range_with_len_more}
use Rattle.sanlp.proofs.Lists.{range_with_len_more}
use Rattle.net_core.specs.declared.network.Event.{Event}
use Rattle.net_core.specs.Machine.{Net, can_come}
use Rattle.port_runs.specs.Ports.{EventPlace, PortState, event_at, is_due, may_come, may_come_at}
use Rattle.port_sim.specs.declared.window.Window.{Window}
use Rattle.port_clocks.specs.PortClocks.{comes, places_of}
use Rattle.port_sim.specs.Windows.{IsWindow}
use Rattle.port_sim.proofs.Rounds.{not_behind}

-- Lists

module _ (test : EventPlace → Bool) (p : ℕ) where
  -- those of the first so many places of the process that pass
  abbrev pub passing_first : ℕ → List EventPlace
  passing_first m = filter test (map (λ k. (p, k)) (range_with_len 0 m))

  pub first_more : (m : ℕ) → passing_first (m + 1) ≡ passing_first m ++ cond (test (p, m)) ((p, m) ∷ []) []
  first_more m = filter_of_map_range_with_len_more test (λ k. (p, k)) 0 m m (omega arith)

  pub none_more : (a d : ℕ) → ((k : ℕ) → a ≤ k → k < a + d → test (p, k) ≡ false)
      → passing_first (a + d) ≡ passing_first a
  none_more a zero none = ap passing_first (add-zero a)
  none_more a (suc d) none =
      let next : a + suc d ≡ a + d + 1 = omega arith in
      ap passing_first next ∙ first_more (a + d)
      ∙ ap (λ b. passing_first (a + d) ++ cond b ((p, a + d) ∷ []) []) (none (a + d) (omega arith) (omega arith))
      ∙ append-nil (passing_first (a + d))
      ∙ none_more a d (λ k low high. none k low (omega arith))

  pub none_first : (a : ℕ) → ((k : ℕ) → k < a → test (p, k) ≡ false) → passing_first a ≡ []
  none_first a none =
      ap passing_first (sym (zero-add a)) ∙ none_more 0 a (λ k low high. none k (omega (arith, high)))

-- one process more
pub all_more : (n : Net) (test : EventPlace → Bool) (p : ℕ)
    → filter test (flat_map (places_of n) (range_with_len 0 (p + 1)))
    ≡ filter test (flat_map (places_of n) (range_with_len 0 p)) ++ filter test (places_of n p)
all_more n test p =
    ap (λ ps. filter test (flat_map (places_of n) ps)) (range_with_len_more 0 p p (omega arith))
    ∙ ap (filter test) (sym (flat_map_more (places_of n) [] (range_with_len 0 p) p))
    ∙ filter-append test (flat_map (places_of n) (range_with_len 0 p)) (places_of n p)

-- Places outside a window

module _ {T : Type 0} (n : Net) (kind : Event → Bool) (clock s : PortState T) (p : ℕ) where
  may_not : (k : ℕ) (o : Option Event) → s.has_come p k ≡ true → may_come n s (p, k) o ≡ false
  may_not k None on = refl
  may_not k (Some e) on =
      and_left (not (s.has_come p k)) (is_due (n.script p) (s.has_come p) e k && can_come n s.run (Some e))
      (not_from_true (s.has_come p k) on)

  not_due : (k : ℕ) (o : Option Event) → slice_get (n.script p) k ≡ o
      → ((e : Event) → slice_get (n.script p) k ≡ Some e → is_due (n.script p) (s.has_come p) e k ≡ false)
      → may_come n s (p, k) o ≡ false
  not_due k None is off = refl
  not_due k (Some e) is off =
      and_right (not (s.has_come p k)) (is_due (n.script p) (s.has_come p) e k && can_come n s.run (Some e))
      (and_left (is_due (n.script p) (s.has_come p) e k) (can_come n s.run (Some e)) (off e is))

  -- what may not come doesn't
  never : (k : ℕ) → may_come_at n s (p, k) ≡ false → comes n kind clock s (p, k) ≡ false
  never k off =
      and_right (option_map_or kind (event_at n (p, k)) false)
      (can_come n clock.run (event_at n (p, k)) && may_come_at n s (p, k))
      (and_right (can_come n clock.run (event_at n (p, k))) (may_come_at n s (p, k)) off)

  module _ (w : Window) (is : IsWindow (n.script p) (s.has_come p) w) where
    pub none_before : passing_first (comes n kind clock s) p w.first ≡ []
    none_before =
        none_first (comes n kind clock s) p w.first
        (λ k lt. never k (may_not k (event_at n (p, k)) (is.before k lt)))

    pub none_behind : passing_first (comes n kind clock s) p (w.first + length w.events.items)
        ≡ filter (comes n kind clock s) (places_of n p)
    none_behind =
        let test = comes n kind clock s in
        let last = w.first + length w.events.items in
        let many = length (n.script p) in
        let rest : last + (many - last) ≡ many = omega (arith, is.inside) in
        sym (none_more test p last (many - last)
        (λ k low high. never k (not_due k (event_at n (p, k)) refl
        (λ e at. not_behind (n.script p) (s.has_come p) w is k e low at))))
        ∙ ap (passing_first test p) rest
