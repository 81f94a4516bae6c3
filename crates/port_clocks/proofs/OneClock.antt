-- One clock of the ports: it is a run, and each event that may come at its beginning comes in it.
--
-- A Put comes in the first part. A Fire isn't among the Puts, so it still may come behind them, and a Get still
-- may behind the fires. So a clock without events is one at whose beginning nothing may come (`nothing_may`).
-- Which events come is a matter of those that have come, whatever fires give (`same_clock`).
use Rattle.std.proofs.Common.{◌≡◌, ◌⊎◌, ℕ, ◌+◌, ◌<◌, Bool, true, false, ◌&&◌, List, []}
use Rattle.std.proofs.Common.{◌∷◌, ◌++◌, length, ap, ap₂, sym, subst, ◌∙◌, refl, inl, inr, arith}
use Rattle.std.specs.Option.{option_map_or}
use Rattle.std.proofs.lemmas.Bool.{and_from, and_left, and_parts, both_ways, cases_lt}
use Rattle.std.proofs.lemmas.List.Elements.{filter_agree}
use Rattle.std.proofs.lemmas.Option.{slice_get_within}
use Rattle.net_core.specs.declared.network.Event.{Event}
use Rattle.net_core.specs.declared.network.Event.TheVariants.{Get, Fire, Put}
use Rattle.net_core.specs.Machine.{Net, Rule, can_come}
use Rattle.net_core.specs.Shape.{is_any_get, is_fire, IsWired}
use Rattle.port_runs.specs.Ports.{AllHaveCome, IsPortRun, EventPlace, PortState, event_at, may_come_at, port_after}
use Rattle.port_runs.specs.Ports.{port_step, with_place}
use Rattle.port_runs.proofs.PortCounts.{PortCounted, port_counted, same_can, same_may}
use Rattle.port_runs.proofs.PortSteps.{Coming, coming, may_from}
use Rattle.port_clocks.specs.PortClocks.{after_fires, after_puts, comes, events_of_clock, fires_of_clock, gets_of_clock}
use Rattle.port_clocks.specs.PortClocks.{is_any_put, part_of_clock, places, puts_of_clock}
use Rattle.port_clocks.proofs.PortParts.{NetPart, come_grows, net_part, port_after_append, port_run_append}

kinds : (e : Event) → (is_any_put e ≡ true) ⊎ ((is_fire e ≡ true) ⊎ (is_any_get e ≡ true))
kinds (Get c slot) = inr (inr refl)
kinds (Fire refs) = inr (inl refl)
kinds (Put c) = inl refl

fire_no_put : (e : Event) → is_fire e ≡ true → is_any_put e ≡ false
fire_no_put (Get c slot) t = refl
fire_no_put (Fire refs) t = refl
fire_no_put (Put c) t = absurd (cc)

get_no_put : (e : Event) → is_any_get e ≡ true → is_any_put e ≡ false
get_no_put (Get c slot) t = refl
get_no_put (Fire refs) t = refl
get_no_put (Put c) t = absurd (cc)

get_no_fire : (e : Event) → is_any_get e ≡ true → is_fire e ≡ false
get_no_fire (Get c slot) t = refl
get_no_fire (Fire refs) t = absurd (cc)
get_no_fire (Put c) t = refl

module _ {T : Type 0} (n : Net) (rule : Rule T) (wired : IsWired n) (s : PortState T) where
  -- Parts

  pub the_part : (kind : Event → Bool) (part : PortState T)
      → NetPart n rule (comes n kind s part) 0 n.processes part (part_of_clock n kind s part)
  the_part kind part =
      net_part n rule wired (comes n kind s part) n.processes 0 part
      (λ q j low on.
      let first =
      and_parts (option_map_or kind (event_at n (q, j)) false)
      (can_come n s.run (event_at n (q, j)) && may_come_at n part (q, j)) on in
      coming n part q j (and_parts (can_come n s.run (event_at n (q, j))) (may_come_at n part (q, j)) first.1).1)

  passes : (kind : Event → Bool) (part : PortState T) (p k : ℕ) → (c : Coming n s p k) → Coming n part p k
      → kind c.event ≡ true → comes n kind s part (p, k) ≡ true
  passes kind part p k c d on =
      and_from (option_map_or kind (event_at n (p, k)) false)
      (can_come n s.run (event_at n (p, k)) && may_come_at n part (p, k))
      (ap (λ o. option_map_or kind o false) c.is ∙ on)
      (and_from (can_come n s.run (event_at n (p, k))) (may_come_at n part (p, k)) (ap (can_come n s.run) c.is ∙ c.can)
      (may_from n part p k d))

  fails : (kind : Event → Bool) (part : PortState T) (p k : ℕ) → (c : Coming n s p k) → kind c.event ≡ false
      → comes n kind s part (p, k) ≡ false
  fails kind part p k c off =
      and_left (option_map_or kind (event_at n (p, k)) false)
      (can_come n s.run (event_at n (p, k)) && may_come_at n part (p, k))
      (ap (λ o. option_map_or kind o false) c.is ∙ off)

  abbrev puts_part : NetPart n rule (comes n is_any_put s s) 0 n.processes s (puts_of_clock n s)
  puts_part = the_part is_any_put s

  abbrev fires_part : NetPart n rule (comes n is_fire s (after_puts n rule s)) 0 n.processes (after_puts n rule s)
      (fires_of_clock n rule s)
  fires_part = the_part is_fire (after_puts n rule s)

  abbrev gets_part : NetPart n rule (comes n is_any_get s (after_fires n rule s)) 0 n.processes
      (after_fires n rule s) (gets_of_clock n rule s)
  gets_part = the_part is_any_get (after_fires n rule s)

  -- The clock

  pub clock_run : IsPortRun n rule s (events_of_clock n rule s)
  clock_run =
      port_run_append n rule (puts_of_clock n s) (fires_of_clock n rule s ++ gets_of_clock n rule s) s puts_part.is
      (port_run_append n rule (fires_of_clock n rule s) (gets_of_clock n rule s) (after_puts n rule s) fires_part.is
      gets_part.is)

  pub behind_clock : port_after n rule s (events_of_clock n rule s)
      ≡ port_after n rule (after_fires n rule s) (gets_of_clock n rule s)
  behind_clock =
      port_after_append n rule (puts_of_clock n s) (fires_of_clock n rule s ++ gets_of_clock n rule s) s
      ∙ port_after_append n rule (fires_of_clock n rule s) (gets_of_clock n rule s) (after_puts n rule s)

  -- a process with an event is there
  there : (p k : ℕ) → Coming n s p k → (p < n.processes) × (k < length (n.script p))
  there p k c =
      let inside = slice_get_within (n.script p) k c.event c.is in
      elim (cases_lt p n.processes) [
        | inl lt ↦ (lt, inside)
        | inr past ↦
            let nothing : length (n.script p) ≡ 0 = ap length (wired.bounded p past) in
            absurd (omega (arith, inside, nothing))
      ]

  -- each event that may come at the clock's beginning comes
  pub clock_comes : (p k : ℕ) → Coming n s p k → (port_after n rule s (events_of_clock n rule s)).has_come p k ≡ true
  clock_comes p k c =
      let at = there p k c in
      subst (λ (t : PortState T). t.has_come p k ≡ true) (sym behind_clock)
      (elim (kinds c.event) [
        | inl put ↦
            come_grows n rule (gets_of_clock n rule s) (after_fires n rule s) p k
            (come_grows n rule (fires_of_clock n rule s) (after_puts n rule s) p k
            (puts_part.come p k (omega arith) (omega (arith, at.0)) at.1 (passes is_any_put s p k c c put)))
        | inr other ↦
            elim other [
              | inl fire ↦
                  let d = puts_part.others p k (fails is_any_put s p k c (fire_no_put c.event fire)) c in
                  come_grows n rule (gets_of_clock n rule s) (after_fires n rule s) p k
                  (fires_part.come p k (omega arith) (omega (arith, at.0)) at.1
                  (passes is_fire (after_puts n rule s) p k c d fire))
              | inr get ↦
                  let d = puts_part.others p k (fails is_any_put s p k c (get_no_put c.event get)) c in
                  let e =
                  fires_part.others p k (fails is_fire (after_puts n rule s) p k c (get_no_fire c.event get)) d in
                  gets_part.come p k (omega arith) (omega (arith, at.0)) at.1
                  (passes is_any_get (after_fires n rule s) p k c e get)
            ]
      ])

  -- where no event comes none may
  pub nothing_may : events_of_clock n rule s ≡ [] → (at : EventPlace) → may_come_at n s at ≡ true → ⊥
  nothing_may none at on =
      let c = coming n s at.0 at.1 on in
      both_ways (s.has_come at.0 at.1) c.new
      (ap (λ (run : List EventPlace). (port_after n rule s run).has_come at.0 at.1) (sym none)
      ∙ clock_comes at.0 at.1 c)

  -- where all have come none comes
  pub none_comes : AllHaveCome n s → events_of_clock n rule s ≡ []
  none_comes all = none (events_of_clock n rule s) clock_run
    where
      none : (run : List EventPlace) → IsPortRun n rule s run → run ≡ []
      none [] is = refl
      none (at ∷ run) is =
          let c = coming n s at.0 at.1 is.0 in
          absurd (both_ways (s.has_come at.0 at.1) c.new
          (all at.0 at.1 (slice_get_within (n.script at.0) at.1 c.event c.is)))

-- What comes, whatever fires give

pub same_come : {T U : Type 0} (n : Net) (rule : Rule T) (other : Rule U) (run : List EventPlace) (s : PortState T)
    (t : PortState U) → s.has_come ≡ t.has_come
    → (port_after n rule s run).has_come ≡ (port_after n other t run).has_come
same_come n rule other [] s t same = same
same_come n rule other (at ∷ run) s t same =
    same_come n rule other run (port_step n rule s at) (port_step n other t at)
    (ap (λ (come : ℕ → ℕ → Bool). with_place come at) same)

module _ {T U : Type 0} (n : Net) (rule : Rule T) (other : Rule U) (wired : IsWired n) (s : PortState T)
    (t : PortState U)
    (h : PortCounted n s) (g : PortCounted n t) (same : s.has_come ≡ t.has_come) where
  same_part : (kind : Event → Bool) (a : PortState T) (b : PortState U) → PortCounted n a → PortCounted n b
      → a.has_come ≡ b.has_come
      → part_of_clock n kind s a ≡ part_of_clock n kind t b
  same_part kind a b ha hb alike =
      filter_agree (comes n kind s a) (comes n kind t b)
      (λ at. ap₂ (λ x y. option_map_or kind (event_at n at) false && (x && y)) (same_can n s t h g same (event_at n at))
      (same_may n a b ha hb alike at (event_at n at))) (places n)

  abbrev s_puts : PortState T
  s_puts = after_puts n rule s

  abbrev t_puts : PortState U
  t_puts = after_puts n other t

  same_puts : puts_of_clock n s ≡ puts_of_clock n t
  same_puts = same_part is_any_put s t h g same

  counted_s : PortCounted n s_puts
  counted_s = port_counted n rule wired (puts_of_clock n s) s h (the_part n rule wired s is_any_put s).is

  counted_t : PortCounted n t_puts
  counted_t = port_counted n other wired (puts_of_clock n t) t g (the_part n other wired t is_any_put t).is

  come_puts : s_puts.has_come ≡ t_puts.has_come
  come_puts =
      same_come n rule other (puts_of_clock n s) s t same
      ∙ ap (λ (run : List EventPlace). (port_after n other t run).has_come) same_puts

  same_fires : fires_of_clock n rule s ≡ fires_of_clock n other t
  same_fires = same_part is_fire s_puts t_puts counted_s counted_t come_puts

  same_gets : gets_of_clock n rule s ≡ gets_of_clock n other t
  same_gets =
      same_part is_any_get (after_fires n rule s) (after_fires n other t)
      (port_counted n rule wired (fires_of_clock n rule s) s_puts counted_s (the_part n rule wired s is_fire s_puts).is)
      (port_counted n other wired (fires_of_clock n other t) t_puts counted_t
      (the_part n other wired t is_fire t_puts).is)
      (same_come n rule other (fires_of_clock n rule s) s_puts t_puts come_puts
      ∙ ap (λ (run : List EventPlace). (port_after n other t_puts run).has_come) same_fires)

  pub same_clock : events_of_clock n rule s ≡ events_of_clock n other t
  same_clock =
      ap₂ (λ x y. x ++ y) same_puts (ap₂ (λ (x y : List EventPlace). x ++ y) same_fires same_gets)
