-- A window after an event of it.
--
-- `IsWindow` says that all before the window have come, that none behind it has, and of each event in it whether
-- it has. A fire that is due comes behind all others of its window, so the next window begins behind it, with what
-- was left of the script, and nothing in that one has come (`after_fire`). Any other event is noted in its place
-- as one that has come (`after_other`). Whether the event might come is a premise.
use Rattle.std.proofs.Common.{◌≡◌, ℕ, zero, suc, ◌+◌, ◌-◌, ◌<◌, ◌≤◌, Bool, true, false, Some, List, [], ◌∷◌}
use Rattle.std.proofs.Common.{length, map, drop, slice_get, slice_set, ap, sym, ◌∙◌, refl, inl, inr, arith}
use Rattle.std.proofs.Common.{length-drop, length-set}
use Rattle.std.proofs.lemmas.Bool.{both_ways, cases_eq, cases_lt}
use Rattle.std.proofs.Math.Seq.{map-set_same}
use Rattle.std.proofs.lemmas.List.{drop-drop, length-map}
use Rattle.std.proofs.lemmas.Option.{get_or_from_slice_get, same_Some, slice_get_within}
use Rattle.net_core.specs.declared.network.Event.{Event}
use Rattle.net_core.specs.Machine.{replaced}
use Rattle.net_core.specs.Shape.{is_fire}
use Rattle.net_core.proofs.EventCounts.{replaced_same, replaced_other}
use Rattle.port_runs.specs.Ports.{is_due}
use Rattle.port_runs.proofs.DueEvents.{due_before, fire_before}
use Rattle.port_sim.specs.declared.window.Pending.{Pending}
use Rattle.port_sim.specs.declared.window.Window.{Window}
use Rattle.port_sim.specs.Windows.{IsWindow, round, waiting}
use Rattle.port_sim.proofs.Rounds.{event_here, fire_last, round_short}
use Rattle.plain_data.proofs.Lists.{slice_get-set_other, slice_get-set_same, slice_get-some}

-- Events that wait

pub waiting_events : (es : List Event) → map (λ (x : Pending). x.event) (map waiting es) ≡ es
waiting_events [] = refl
waiting_events (e ∷ es) = ap (λ fs. e ∷ fs) (waiting_events es)

pub waiting_waits : (es : List Event) (i : ℕ) (x : Pending) → slice_get (map waiting es) i ≡ Some x
    → x.has_come ≡ false
waiting_waits [] i x at = absurd (cc)
waiting_waits (e ∷ es) zero x at =
    let same : waiting e ≡ x = cc in
    ap (λ (y : Pending). y.has_come) (sym same)
waiting_waits (e ∷ es) (suc i) x at = waiting_waits es i x at

-- At first

pub first_window : (script : List Event) (w : Window) → w.first ≡ 0 → w.events.items ≡ map waiting (round script)
    → w.rest ≡ drop (length (round script)) script → IsWindow script (λ k. false) w
first_window script w first events rest =
    let many : length w.events.items ≡ length (round script) =
    ap length events ∙ length-map (round script) waiting in
    record {
      events = ap (map (λ (x : Pending). x.event)) events ∙ waiting_events (round script)
          ∙ ap (λ m. round (drop m script)) (sym first);
      rest =
          let same : length (round script) ≡ w.first + length w.events.items = omega (arith, first, many) in
          rest ∙ ap (λ m. drop m script) same;
      before = λ k lt. absurd (omega (arith, lt, first));
      here = λ i x at.
          let none : x.has_come ≡ false =
          waiting_waits (round script) i x (ap (λ (l : List Pending). slice_get l i) (sym events) ∙ at) in
          sym none;
      behind = λ k le. refl;
      fire = λ i x at on.
          waiting_waits (round script) i x (ap (λ (l : List Pending). slice_get l i) (sym events) ∙ at);
      inside = omega (arith, first, many, round_short script);
    }

-- After an event

module _ (script : List Event) (come : ℕ → Bool) (w w' : Window) (at place : ℕ) (x : Pending)
    (is : IsWindow script come w) (found : slice_get w.events.items at ≡ Some x) (here : w.first + at ≡ place)
    (new : come place ≡ false) where
  abbrev come' : ℕ → Bool
  come' = replaced come place true

  there : (k : ℕ) → (k ≡ place → ⊥) → come' k ≡ come k
  there k d = replaced_other come place true k d

  pub after_fire : is_fire x.event ≡ true → is_due script come x.event place ≡ true
      → w'.first ≡ w.first + length w.events.items → w'.events.items ≡ map waiting (round w.rest)
      → w'.rest ≡ drop (length (round w.rest)) w.rest → IsWindow script come' w'
  after_fire fire due first events rest =
      let left : w.rest ≡ drop w'.first script = is.rest ∙ ap (λ m. drop m script) (sym first) in
      let last : suc at ≡ length w.events.items = fire_last script come w is at x found fire in
      let many : length w'.events.items ≡ length (round w.rest) =
      ap length events ∙ length-map (round w.rest) waiting in
      let long : length w.rest ≡ length script - w'.first = ap length left ∙ length-drop w'.first script in
      let wait : (i : ℕ) (y : Pending) → slice_get w'.events.items i ≡ Some y → y.has_come ≡ false =
      λ i y read. waiting_waits (round w.rest) i y (ap (λ (l : List Pending). slice_get l i) (sym events) ∙ read) in
      record {
        events = ap (map (λ (y : Pending). y.event)) events ∙ waiting_events (round w.rest) ∙ ap round left;
        rest =
            let sum : w'.first + length (round w.rest) ≡ w'.first + length w'.events.items = omega (arith, many) in
            rest ∙ ap (drop (length (round w.rest))) left ∙ drop_sum (length (round w.rest)) w'.first
            ∙ ap (λ m. drop m script) sum;
        before = λ k lt.
            elim (cases_eq k place) [
              | inl same ↦ replaced_same come place true k same
              | inr d ↦
                  let low : k < place = below k (omega (arith, lt, first, here, last)) d in
                  let within = slice_get_within script place x.event (here_is) in
                  let f = slice_get-some script k (omega (arith, low, within)) in
                  there k d
                  ∙ due_before script come x.event place due k f.0 low f.1 (fire_before x.event f.0 fire)
            ];
        here = λ i y read.
            there (w'.first + i) (λ same. omega (arith, same, first, here, last))
            ∙ is.behind (w'.first + i) (omega (arith, first)) ∙ sym (wait i y read);
        behind = λ k le.
            there k (λ same. omega (arith, same, le, first, here, last)) ∙ is.behind k (omega (arith, le, first));
        fire = λ i y read on. wait i y read;
        inside = omega (arith, many, long, round_short w.rest, first, is.inside);
      }
    where
      here_is : slice_get script place ≡ Some x.event
      here_is = ap (slice_get script) (sym here) ∙ event_here script come w is at x found

      below : (k : ℕ) → k ≤ place → (k ≡ place → ⊥) → k < place
      below k le d = elim (cases_lt k place) [ inl lt ↦ lt | inr ge ↦ absurd (d (omega arith)) ]

      drop_sum : (a b : ℕ) → drop a (drop b script) ≡ drop (b + a) script
      drop_sum a b = drop-drop a b script

  pub after_other : is_fire x.event ≡ false → w'.first ≡ w.first
      → w'.events.items ≡ slice_set w.events.items at (record { event = x.event; has_come = true })
      → w'.rest ≡ w.rest → IsWindow script come' w'
  after_other other first events rest =
      let done : Pending = record { event = x.event; has_come = true } in
      let many : length w'.events.items ≡ length w.events.items =
      ap length events ∙ length-set w.events.items at done in
      let event_of : Pending → Event = λ y. y.event in
      let inside : at < length w.events.items = slice_get_within w.events.items at x found in
      let mine : (y : Pending) → slice_get w'.events.items at ≡ Some y → y ≡ done =
      λ y read.
      same_Some y done
      (sym read ∙ ap (λ (l : List Pending). slice_get l at) events ∙ slice_get-set_same w.events.items at done inside) in
      let others : (i : ℕ) (y : Pending) → (i ≡ at → ⊥) → slice_get w'.events.items i ≡ Some y
      → slice_get w.events.items i ≡ Some y =
      λ i y d read.
      sym (slice_get-set_other w.events.items at i done d) ∙ ap (λ (l : List Pending). slice_get l i) (sym events)
      ∙ read in
      record {
        events = ap (map event_of) events
            ∙ map-set_same event_of w.events.items at done x
            (ap event_of (sym (get_or_from_slice_get w.events.items at x x found)))
            ∙ is.events ∙ ap (λ m. round (drop m script)) (sym first);
        rest =
            let sum : w.first + length w.events.items ≡ w'.first + length w'.events.items =
            omega (arith, first, many) in
            rest ∙ is.rest ∙ ap (λ m. drop m script) sum;
        before = λ k lt.
            there k (λ same. omega (arith, same, lt, first, here)) ∙ is.before k (omega (arith, lt, first));
        here = λ i y read.
            elim (cases_eq i at) [
              | inl same ↦
                  let this : w'.first + i ≡ place = omega (arith, first, same, here) in
                  let read' : slice_get w'.events.items at ≡ Some y =
                  ap (slice_get w'.events.items) (sym same) ∙ read in
                  replaced_same come place true (w'.first + i) this
                  ∙ ap (λ (z : Pending). z.has_come) (sym (mine y read'))
              | inr d ↦
                  there (w'.first + i) (λ same. d (cancel i (omega (arith, same, first, here))))
                  ∙ ap (λ m. come (m + i)) first
                  ∙ is.here i y (others i y d read)
            ];
        behind = λ k le.
            there k (λ same. omega (arith, same, le, first, many, here, inside))
            ∙ is.behind k (omega (arith, le, first, many));
        fire = λ i y read on.
            elim (cases_eq i at) [
              | inl same ↦
                  let read' : slice_get w'.events.items at ≡ Some y =
                  ap (slice_get w'.events.items) (sym same) ∙ read in
                  absurd (both_ways (is_fire x.event) other
                  (ap (λ (z : Pending). is_fire z.event) (sym (mine y read')) ∙ on))
              | inr d ↦ is.fire i y (others i y d read) on
            ];
        inside = omega (arith, first, many, is.inside);
      }
    where
      cancel : (i : ℕ) → w.first + i ≡ w.first + at → i ≡ at
      cancel i e = omega (arith, e)
