-- The design stands for the clocked run of the ports, edge by edge and clock by clock, so it rests where that one
-- ends.
--
-- The invariant is that after so many edges the design stands for the state after so many clocks. A reset gives
-- that of the start: a Get port that begins behind a Fire waits for it, and no Put stands before a Fire. An edge
-- leads on (`edge_stands`). Where a port moves at an edge an event of its process comes in the clock, one that
-- hasn't come; so from the end of the clocked run on nothing moves, and each sequencer is at its end, as nothing is
-- left (`done_then`). Before, some event comes in each clock, and with it a port moves or a process fires.
use Rattle.std.proofs.Common.{◌≡◌, ℕ, zero, suc, ◌+◌, ◌-◌, ◌<◌, ◌≤◌, ℤ, Bool, true, false, is_some, Option, Some}
use Rattle.std.proofs.Common.{None, List, [], ◌∷◌, ◌++◌, length, map, take, drop, slice_get, count_by, option_map, option_to_list}
use Rattle.std.proofs.Common.{ap, ap₂, sym, subst, ◌∙◌, refl, inl, inr, arith, eqb, eq-eqb, ◌&&◌, cond}
use Rattle.std.specs.List.{filter}
use Rattle.std.specs.Option.{option_map_or}
use Rattle.std.proofs.lemmas.Bool.{and_from, and_left, and_parts, both_ways, cases_Bool, cases_lt, cond-false, false_from_ne_true, or_cases, or_left}
use Rattle.std.proofs.lemmas.Option.{slice_get-map, slice_get_within}
use mathlib.Core.Path.{fun_ext}
use Rattle.sanlp.specs.declared.nest.Inputs.{Inputs}
use Rattle.sanlp.specs.declared.nest.Nest.{Nest}
use Rattle.sanlp.specs.WellFormed.{output_numbers}
use Rattle.net_core.specs.declared.refs.Ref.{Ref}
use Rattle.net_core.specs.declared.refs.Ref.TheVariants.{Slot}
use Rattle.net_core.specs.declared.network.Event.{Event}
use Rattle.net_core.specs.declared.network.Event.TheVariants.{Get, Fire, Put}
use Rattle.net_core.specs.declared.network.Network.{Network}
use Rattle.net_core.specs.Machine.{Net, Rule, net_of}
use Rattle.net_core.specs.Names.{slot_names}
use Rattle.net_core.specs.Rules.{values}
use Rattle.net_core.specs.Shape.{fires as fires_before, is_any_get, is_fire, is_put, IsWired}
use Rattle.net_core.specs.Sound.{IsSound, sink_lists, sink_lists_from, source_tag, tag_value}
use Rattle.design_clocks.proofs.FilledSlots.{is_token}
use Rattle.repeat_sequencer.specs.Steps.{at_start}
use Rattle.port_items.specs.declared.items.GetItem.{GetItem}
use Rattle.port_items.specs.declared.items.PutItem.{PutItem}
use Rattle.port_items.specs.Items.{begins_with_fire, begins_with_put, fire_if, fire_items, get_items_before, put_items}
use Rattle.port_items.specs.Items.{without_fire, without_put}
use Rattle.port_items.proofs.Lengths.{begins_alike}
use Rattle.port_runs.specs.Ports.{AllHaveCome, IsPortRun, EventPlace, PortState, PortsEndAlways, port_after, port_reached, port_start}
use Rattle.port_runs.specs.PortNames.{HoldsNames}
use Rattle.port_runs.proofs.PortSteps.{may_from}
use Rattle.port_clocks.specs.PortClocks.{PortClocksEnd, after_port_clocks, clocked_port_run, events_of_clock, fires_of_clock}
use Rattle.port_clocks.specs.PortClocks.{is_any_put, places, port_clocks, puts_of_clock}
use Rattle.port_clocks.proofs.NotBehind.{clocked_ports, counted_after}
use Rattle.port_clocks.proofs.OneClock.{behind_clock}
use Rattle.port_clocks.proofs.PortParts.{come_grows, port_after_append, port_run_append}
use Rattle.port_design.specs.Registers.{Controls, Design, after_edges, asks, begins_behind_fire, behind_reset, edge, fires, fires_of, gets}
use Rattle.port_design.specs.Registers.{get_at, is_free, is_ready, is_valid, may_fire, no_stalls, puts, refs_at, refs_fired}
use Rattle.port_design.specs.Registers.{slot_asked, value_of}
use Rattle.port_design.specs.Clocked.{FiresFindValues, GiveItems, GivesFrom, HasPassed, HasSlotsApart, IsAtRest, IsDone}
use Rattle.port_design.specs.Clocked.{RunsByPortClock, StandsFor, TakesPortClocks, gets_from, is_get_or_fire, is_put_or_fire}
use Rattle.port_design.specs.Clocked.{puts_from, results_of}
use Rattle.port_design.proofs.Ahead.{at_next, at_none, fires_skip, gets_skip, puts_skip}
use Rattle.port_design.proofs.Edge.{edge_stands, kept_edge}
use Rattle.port_design.proofs.FirePart.{all, after1, fire_comes, fire_found, fire_test}
use Rattle.port_design.proofs.Fronts.{fire_front, same_without_put}
use Rattle.port_design.proofs.GetPart.{after2, fire_between, get_any, get_comes, get_found, get_test, some_of}
use Rattle.port_design.proofs.Next.{fire_is, part_run, test_coming, test_kind}
use Rattle.port_design.proofs.Given.{item_none}
use Rattle.port_design.proofs.Places.{NextIs, NoneLeft, find_next}
use Rattle.port_design.proofs.Offers.{offered_is_there}
use Rattle.port_design.proofs.PutPart.{put_comes, put_found, put_test, values_behind}

-- nothing comes of nothing, whichever way is taken
module _ {X : Type 0} where
  none_either : (b : Bool) (o : Option X) → o ≡ None → is_some (cond b o None) ≡ false
  none_either true o none = ap (λ (x : Option X). is_some x) none
  none_either false o none = refl

-- behind the script no item is left but a Fire that is waited for
nothing_behind : (b : Bool) → without_fire (fire_if b) ≡ []
nothing_behind true = refl
nothing_behind false = refl

-- where no place passes a test
none_passes : (test : EventPlace → Bool) → ((at : EventPlace) → test at ≡ true → ⊥) → (xs : List EventPlace)
    → filter test xs ≡ []
none_passes test none [] = refl
none_passes test none (at ∷ xs) =
    cond-false (test at) (at ∷ filter test xs) (filter test xs) (false_from_ne_true (test at) (none at))
    ∙ none_passes test none xs

-- The start

none_passed : (seen : Event → Bool) (script : List Event) → HasPassed seen script (λ k. false) 0
none_passed seen script = record {
  before = λ k e lt is on. absurd (omega arith);
  behind = λ k e ge is on. refl;
}

module _ (n : Net) (wired : IsWired n) where
  -- no Put stands before a Fire
  no_put_first : (c : ℕ) → begins_with_put (put_items c (n.script (n.writer c))) ≡ false
  no_put_first c =
      let w = n.writer c in
      let script = n.script w in
      elim (find_next (is_put_or_fire c) script (λ k. false) 0 (none_passed (is_put_or_fire c) script)) [
        | inl x ↦
            let ahead =
            at_next (put_items c) (is_put_or_fire c) (puts_skip c) script (λ k. false) 0 x.0 x.1
            (none_passed (is_put_or_fire c) script) x.2 in
            elim (or_cases (is_put c x.1) (is_fire x.1) x.2.on) [
              | inl put ↦ absurd (too_early c x.0 x.1 x.2 put)
              | inr fire ↦ ap begins_with_put (ahead ∙ fire_front c x.1 (drop (suc x.0) script) fire)
            ]
        | inr none ↦ ap begins_with_put (at_none (put_items c) (is_put_or_fire c) (puts_skip c) script 0 none)
      ]
    where
      too_early : (c i : ℕ) (e : Event) → NextIs (is_put_or_fire c) (n.script (n.writer c)) (λ k. false) i e
          → is_put c e ≡ true
          → ⊥
      too_early c i (Get d slot) x put = absurd (cc)
      too_early c i (Fire refs) x put = absurd (cc)
      too_early c i (Put d) x put =
          let fired : 0 < count_by is_fire (take i (n.script (n.writer c))) = wired.put_fired (n.writer c) i d x.is in
          elim (fire_between (n.script (n.writer c)) i 0 i (omega arith)) [
            | inl same ↦ omega (arith, fired, same)
            | inr y ↦ let wrong : false ≡ true = x.before y.0 (Fire y.1) y.3 y.4 refl in cc
          ]

  -- a Get port that begins behind a Fire waits for it
  begins_so : (c : ℕ) → begins_behind_fire n c ≡ begins_with_fire (gets_from n c 0)
  begins_so c =
      let script = n.script (n.reader c) in
      elim (cases_Bool (begins_behind_fire n c)) [
        | inl t ↦ t ∙ sym (begins_alike c (fire_if (begins_behind_fire n c)) script t)
        | inr f ↦ sym (ap (λ b. begins_with_fire (get_items_before c (fire_if b) script)) f)
      ]

  start_stands : {T : Type 0} (controls : Controls) → GiveItems n controls
      → StandsFor {T = T} n controls (port_start n) (behind_reset n controls)
  start_stands controls give = record {
    nodes = λ p. record {
      place = 0;
      passed = none_passed is_fire (n.script p);
      gives = give.fires p;
      slots = refl;
      turn = refl;
      fired = refl;
    };
    getters = λ c. record {
      place = 0;
      passed = none_passed (is_get_or_fire c) (n.script (n.reader c));
      waits = begins_so c;
      gives = give.gets c;
    };
    putters = λ c. record {
      place = 0;
      passed = none_passed (is_put_or_fire c) (n.script (n.writer c));
      waits = sym (no_put_first c);
      gives = subst (λ (items : List PutItem). GivesFrom (controls.puts c) (at_start (controls.puts c)) items)
          (sym (same_without_put (put_items c (n.script (n.writer c))) (no_put_first c))) (give.puts c);
    };
    queues = λ c. refl;
  }

-- Edge by edge

module _ {T : Type 0} (n : Net) (controls : Controls) (rule : Rule T) (wired : IsWired n) (apart : HasSlotsApart n)
    (give : GiveItems n controls) where
  after_clock : (k : ℕ)
      → after_port_clocks n rule (suc k)
      ≡ port_after n rule (after_port_clocks n rule k) (events_of_clock n rule (after_port_clocks n rule k))
  after_clock k =
      port_after_append n rule (clocked_port_run n rule k) (events_of_clock n rule (after_port_clocks n rule k))
      (port_start n)

  pub stands_for : (k : ℕ) → StandsFor n controls (after_port_clocks n rule k) (after_edges n controls rule k)
  stands_for zero = start_stands n wired controls give
  stands_for (suc k) =
      let s = after_port_clocks n rule k in
      let d = after_edges n controls rule k in
      subst (λ (t : PortState T). StandsFor n controls t (edge n controls rule all d))
      (sym (after_clock k ∙ behind_clock n rule wired s))
      (edge_stands n controls rule wired s d (stands_for k) apart (counted_after n rule wired k))

  pub fires_alike : (k p : ℕ) → fires_of n controls rule no_stalls p k ≡ ((after_port_clocks n rule k).run.local p).kept
  fires_alike zero p = refl
  fires_alike (suc k) p =
      let s = after_port_clocks n rule k in
      let d = after_edges n controls rule k in
      ap (λ (l : List T). l ++ map (value_of rule d p) (option_to_list (refs_fired n controls all d p))) (fires_alike k p)
      ∙ sym (kept_edge n controls rule wired s d (stands_for k) apart (counted_after n rule wired k) p)
      ∙ sym (ap (λ (t : PortState T). (t.run.local p).kept) (after_clock k ∙ behind_clock n rule wired s))

  pub runs_by_clock : RunsByPortClock n controls rule
  runs_by_clock = record {
    design = stands_for;
    fires = fires_alike;
    defined = λ k c on.
        offered_is_there n controls wired (after_port_clocks n rule k) (after_edges n controls rule k) (stands_for k)
        (counted_after n rule wired k) c on;
  }

  -- Rest

  module _ (k : ℕ) where
    abbrev s : PortState T
    s = after_port_clocks n rule k

    abbrev d : Design T
    d = after_edges n controls rule k

    abbrev here : StandsFor n controls s d
    here = stands_for k

    -- where all have come nothing moves
    pub rests : AllHaveCome n s → IsAtRest n controls d
    rests come = record {
      fires = λ p. false_from_ne_true (fires n controls all d p) (λ on. no_fire p (refs_fired n controls all d p) refl on);
      puts = λ c. false_from_ne_true (puts n d c)
          (λ on.
          let x = put_found n controls rule wired s d here c on in
          both_ways (s.has_come (n.writer c) x.0) x.2.new (come (n.writer c) x.0 (slice_get_within _ x.0 x.1 x.2.is)));
      gets = λ c. false_from_ne_true (gets n controls all d c)
          (λ on.
          let both = and_parts (asks n controls all d c) (is_valid d c) on in
          let slot = some_of (slot_asked n controls all d c) both.0 in
          let x =
          get_found n controls rule wired s d here apart (counted_after n rule wired k) c slot.0 slot.1 both.1 in
          both_ways ((after2 n controls rule wired s d here apart (counted_after n rule wired k)).has_come (n.reader c) x.0)
          x.1.new
          (come_grows n rule (fires_of_clock n rule s) (after1 n controls rule wired s d here) (n.reader c) x.0
          (come_grows n rule (puts_of_clock n s) s (n.reader c) x.0
          (come (n.reader c) x.0 (slice_get_within _ x.0 (Get c slot.0) x.1.is)))));
    }
      where
        no_fire : (p : ℕ) → (o : Option (List Ref)) → refs_fired n controls all d p ≡ o
            → fires n controls all d p ≡ true
            → ⊥
        no_fire p None is on =
            let wrong : false ≡ true = sym (ap (λ (o : Option (List Ref)). is_some o) is) ∙ on in cc
        no_fire p (Some refs) is on =
            let x = fire_found n controls rule wired s d here p refs is in
            both_ways ((after1 n controls rule wired s d here).has_come p x.0) x.1.new
            (come_grows n rule (puts_of_clock n s) s p x.0 (come p x.0 (slice_get_within _ x.0 (Fire refs) x.1.is)))

    -- and each sequencer is at its end
    pub done_then : AllHaveCome n s → IsDone controls d
    done_then come = record {
      fires = λ p.
          let at = here.nodes p in
          item_none (controls.fires p) (d.node p).control
          (subst (λ (items : List (List Ref)). GivesFrom (controls.fires p) (d.node p).control items)
          (at_none fire_items is_fire fires_skip (n.script p) at.place (none_left is_fire p at.place at.passed)) at.gives);
      gets = λ c.
          let at = here.getters c in
          item_none (controls.gets c) (d.getter c).control
          (subst (λ (items : List GetItem). GivesFrom (controls.gets c) (d.getter c).control items)
          (ap without_fire (gets_ended c) ∙ nothing_behind (begins_behind_fire n c)) at.gives);
      puts = λ c.
          let at = here.putters c in
          item_none (controls.puts c) (d.putter c).control
          (subst (λ (items : List PutItem). GivesFrom (controls.puts c) (d.putter c).control items)
          (ap without_put (puts_ended c)) at.gives);
      clear = λ c. (here.putters c).waits ∙ ap begins_with_put (puts_ended c);
    }
      where
        none_left : (kind : Event → Bool) (p place : ℕ) → HasPassed kind (n.script p) (s.has_come p) place
            → NoneLeft kind (n.script p) place
        none_left kind p place passed =
            elim (find_next kind (n.script p) (s.has_come p) place passed) [
              | inl x ↦
                  absurd (both_ways (s.has_come p x.0) x.2.new
                  (come p x.0 (slice_get_within (n.script p) x.0 x.1 x.2.is)))
              | inr none ↦ none
            ]

        gets_ended : (c : ℕ) → gets_from n c (here.getters c).place ≡ fire_if (begins_behind_fire n c)
        gets_ended c =
            let at = here.getters c in
            let behind = fire_if (begins_behind_fire n c) in
            at_none (get_items_before c behind) (is_get_or_fire c) (gets_skip c behind) (n.script (n.reader c)) at.place
            (none_left (is_get_or_fire c) (n.reader c) at.place at.passed)

        puts_ended : (c : ℕ) → puts_from n c (here.putters c).place ≡ []
        puts_ended c =
            let at = here.putters c in
            at_none (put_items c) (is_put_or_fire c) (puts_skip c) (n.script (n.writer c)) at.place
            (none_left (is_put_or_fire c) (n.writer c) at.place at.passed)

    -- a design that is done is at rest
    pub rest_if_done : IsDone controls d → IsAtRest n controls d
    rest_if_done done = record {
      fires = λ p. none_either (all p && may_fire n controls d p) (refs_at controls d p) (done.fires p);
      puts = λ c. and_left (d.putter c).waits (is_ready n d c) (done.clear c);
      gets = λ c.
          and_left (asks n controls all d c) (is_valid d c)
          (none_either (is_free n controls all d c) (option_map_or (λ (i : GetItem). i.get) (get_at controls d c) None)
          (ap (λ (o : Option GetItem). option_map_or (λ (i : GetItem). i.get) o None) (done.gets c)));
    }

    -- where nothing moves no event comes
    pub still_at_rest : IsAtRest n controls d → events_of_clock n rule s ≡ []
    still_at_rest rest =
        ap₂ (λ (x y : List EventPlace). x ++ y) (none_passes (put_test n controls rule wired s d here) no_put (places n))
        (ap₂ (λ (x y : List EventPlace). x ++ y)
        (none_passes (fire_test n controls rule wired s d here) no_fire (places n))
        (none_passes (get_test n controls rule wired s d here apart (counted_after n rule wired k)) no_get (places n)))
      where
        no_put : (at : EventPlace) → put_test n controls rule wired s d here at ≡ true → ⊥
        no_put at on =
            let c = test_coming n rule wired is_any_put s s at.0 at.1 on in
            by at c.event on c.is (test_kind n rule wired is_any_put s s at.0 at.1 c.event on c.is)
          where
            by : (at : EventPlace) (e : Event) → put_test n controls rule wired s d here at ≡ true
                → slice_get (n.script at.0) at.1 ≡ Some e → is_any_put e ≡ true → ⊥
            by at (Get c slot) on is put = absurd (cc)
            by at (Fire refs) on is put = absurd (cc)
            by at (Put c) on is put =
                let same : n.writer c ≡ at.0 = wired.put_writer at.0 at.1 c is in
                both_ways (puts n d c) (rest.puts c)
                (put_comes n controls rule wired s d here c at.1 (Put c) (ap (λ r. slice_get (n.script r) at.1) same ∙ is)
                (or_left (eqb c c) false (eq-eqb c c refl))
                (ap (λ r. put_test n controls rule wired s d here (r, at.1)) same ∙ on)).1

        no_fire : (at : EventPlace) → fire_test n controls rule wired s d here at ≡ true → ⊥
        no_fire at on =
            let one = after1 n controls rule wired s d here in
            let c = test_coming n rule wired is_fire s one at.0 at.1 on in
            let fire = fire_is c.event (test_kind n rule wired is_fire s one at.0 at.1 c.event on c.is) in
            both_ways (fires n controls all d at.0) (rest.fires at.0)
            (ap (λ (o : Option (List Ref)). is_some o)
            (fire_comes n controls rule wired s d here at.0 at.1 fire.0 (c.is ∙ ap Some fire.1) on))

        no_get : (at : EventPlace)
            → get_test n controls rule wired s d here apart (counted_after n rule wired k) at ≡ true
            → ⊥
        no_get at on =
            let two = after2 n controls rule wired s d here apart (counted_after n rule wired k) in
            let c = test_coming n rule wired is_any_get s two at.0 at.1 on in
            let get = get_any c.event (test_kind n rule wired is_any_get s two at.0 at.1 c.event on c.is) in
            let is = c.is ∙ ap Some get.2 in
            let same : n.reader get.0 ≡ at.0 = wired.get_reader at.0 at.1 get.0 get.1 is in
            let moves =
            get_comes n controls rule wired s d here apart (counted_after n rule wired k) get.0 at.1 get.1
            (ap (λ r. slice_get (n.script r) at.1) same ∙ is)
            (ap (λ r. get_test n controls rule wired s d here apart (counted_after n rule wired k) (r, at.1)) same ∙ on) in
            both_ways (gets n controls all d get.0) (rest.gets get.0)
            (and_from (asks n controls all d get.0) (is_valid d get.0) (ap (λ (o : Option ℕ). is_some o) moves.0) moves.1)

  -- The end

  module _ (ends : PortClocksEnd n rule) where
    come_later : (j : ℕ) → AllHaveCome n (after_port_clocks n rule (port_clocks n + j))
    come_later zero p i lt =
        let sum : port_clocks n + 0 ≡ port_clocks n = omega arith in
        ap (λ m. (after_port_clocks n rule m).has_come p i) sum ∙ ends.ends p i lt
    come_later (suc j) p i lt =
        let sum : port_clocks n + suc j ≡ suc (port_clocks n + j) = omega arith in
        let s = after_port_clocks n rule (port_clocks n + j) in
        ap (λ m. (after_port_clocks n rule m).has_come p i) sum
        ∙ ap (λ (t : PortState T). t.has_come p i) (after_clock (port_clocks n + j))
        ∙ come_grows n rule (events_of_clock n rule s) s p i (come_later j p i lt)

    all_come : (k : ℕ) → port_clocks n ≤ k → AllHaveCome n (after_port_clocks n rule k)
    all_come k late =
        let sum : port_clocks n + (k - port_clocks n) ≡ k = omega arith in
        subst (λ m. AllHaveCome n (after_port_clocks n rule m)) sum (come_later (k - port_clocks n))

    late_at_rest : (k : ℕ) → IsAtRest n controls (after_edges n controls rule k) → port_clocks n ≤ k
    late_at_rest k rest =
        elim (cases_lt k (port_clocks n)) [
          | inl early ↦
              let none : length (events_of_clock n rule (after_port_clocks n rule k)) ≡ 0 =
              ap length (still_at_rest k rest) in
              absurd (omega (arith, ends.events k early, none))
          | inr late ↦ late
        ]

    pub takes_clocks : PortsEndAlways n rule → TakesPortClocks n controls rule
    takes_clocks always = record {
      rests = λ k. (λ late. rests k (all_come k late), late_at_rest k);
      done = λ k. (λ late. done_then k (all_come k late), λ done. late_at_rest k (rest_if_done k done));
      fits = λ k c.
          subst (λ (q : List T). length q ≤ n.capacity c) (sym ((stands_for k).queues c))
          (always.fits (clocked_port_run n rule k) (ends.run k) c);
    }

-- Values

pub outputs_alike : (nest : Nest) (n : Net) (controls : Controls) (rule : Rule ℤ) → IsWired n → HasSlotsApart n
    → GiveItems n controls
    → (k : ℕ) → results_of nest n controls rule no_stalls k ≡ sink_lists nest (after_port_clocks n rule k).run
outputs_alike nest n controls rule wired apart give k =
    ap (λ (kept : ℕ → List ℤ).
    sink_lists_from kept (length nest.statements - length (output_numbers nest.arrays)) nest.arrays)
    (fun_ext (fires_alike n controls rule wired apart give k))

module _ (nest : Nest) (network : Network) (sound : IsSound nest network) (input : Inputs) (controls : Controls)
    (apart : HasSlotsApart (net_of network))
    (give : GiveItems (net_of network) controls) where
  abbrev n : Net
  n = net_of network

  abbrev rule : Rule ℤ
  rule = values nest input

  pub values_found
      : ((run : List EventPlace) → IsPortRun n rule (port_start n) run → HoldsNames n (tag_value nest input)
      (port_reached n rule run))
      → FiresFindValues n controls rule
  values_found named k p read slot refs fired there =
      let wired = sound.fits.shaped.wired in
      let s = after_port_clocks n rule k in
      let d = after_edges n controls rule k in
      let stands = stands_for n controls rule wired apart give k in
      let one = after1 n controls rule wired s d stands in
      let x = fire_found n controls rule wired s d stands p refs fired in
      let come = test_coming n rule wired is_fire s one p x.0 x.2 in
      let run = clocked_port_run n rule k ++ puts_of_clock n s in
      let is_run =
      port_run_append n rule (clocked_port_run n rule k) (puts_of_clock n s) (port_start n) (clocked_ports n rule wired k)
      (part_run n rule wired is_any_put s s) in
      let reached = port_after_append n rule (clocked_port_run n rule k) (puts_of_clock n s) (port_start n) in
      let holds : HoldsNames n (tag_value nest input) one =
      subst (λ (t : PortState ℤ). HoldsNames n (tag_value nest input) t) reached (named run is_run) in
      let slots = (holds.operands p x.0 refs x.1.is (may_from n one p x.0 come)).0 in
      let names = slot_names n p x.0 in
      let t =
      is_token (slice_get names slot) (source_tag nest p (fires_before n p x.0) read)
      (sound.names p x.0 refs x.1.is read (Slot slot) there) in (
        tag_value nest input t.0,
        ap (λ (l : List (Option ℤ)). slice_get l slot)
            ((stands.nodes p).slots
            ∙ sym (ap (λ (w : List (Option ℤ) × List ℤ). w.0) (values_behind n controls rule wired s d stands p)) ∙ slots)
            ∙ slice_get-map (option_map (tag_value nest input)) names slot
            ∙ ap (option_map (option_map (tag_value nest input))) t.1,
      )
