-- Steps of the walk over a schedule: the machine that the checker runs, beside the cuts that the definition counts on.
--
-- The invariant is `IsWalked`, after i entries: the state is one of the network, in which each place holds the tag that
-- it names, what the definition would still refuse from these positions on is what it would refuse of the whole
-- schedule, and i events were made. An entry that isn't refused is enabled, so the machine steps and all of it holds
-- again. Since events are fewer than 2^32, so are the entries that are ever judged, however long the schedule is.
use Rattle.std.proofs.Common.{◌≡◌, ℕ, zero, suc, ◌+◌, ◌<◌, ◌≤◌, ◌^◌, true, false, cond, Option, Some, None, List, []}
use Rattle.std.proofs.Common.{◌∷◌, length, drop, slice_get, refl, sym, ap, ◌∙◌}
use Rattle.std.proofs.Common.{drop_of_length-le, inl, inr, arith, lt-ltb}
use Rattle.std.proofs.lemmas.Bool.{cases_Bool, cases_lt, cases_eq, le-ltb}
use Rattle.std.proofs.lemmas.Option.{slice_get_within}
use Rattle.std.specs.Option.{option_or}
use Rattle.sanlp.specs.declared.nest.Nest.{Nest}
use Rattle.sanlp.specs.declared.nest.Tag.{Tag}
use Rattle.net_core.specs.declared.network.Event.{Event}
use Rattle.net_core.specs.declared.network.Network.{Network}
use Rattle.net_core.specs.Cuts.{Cut, advanced, cut_after, opening, positions, IsCounted}
use Rattle.net_core.specs.Machine.{Net, State, net_of, start, next, enabled}
use Rattle.net_core.specs.Shape.{events_below}
use Rattle.net_core.proofs.CutOrder.{advanced_here, advanced_there}
use Rattle.net_core.proofs.Positions.{enabled_as_cut, enabled_inside}
use Rattle.net_checker.specs.declared.verdict.Refusal.{Refusal}
use Rattle.net_checker.specs.declared.verdict.Refusal.TheVariants as refusal
use Rattle.net_checker.specs.Choice.{first_below}
use Rattle.net_checker.specs.Entries.{event_refusal, entry_refusal, entries_refusal, unended, schedule_refusal}
use Rattle.net_checker.specs.declared.tag_state.TagState.{TagState}
use Rattle.net_checker.specs.TagStates.{IsTagState, cut_in, state_of}
use Rattle.plain_data.proofs.Lists.{drop-some}

-- How many events a cut has made

abbrev pub events_made : Cut → ℕ → ℕ
events_made k zero = 0
events_made k (suc p) = events_made k p + k p

made_none : (m : ℕ) → events_made opening m ≡ 0
made_none zero = refl
made_none (suc m) = omega (arith, made_none m)

made_past : (k : Cut) (p m : ℕ) → m ≤ p → events_made (advanced k p) m ≡ events_made k m
made_past k p zero le = refl
made_past k p (suc m) le =
    let other : m ≡ p → ⊥ = λ e. omega arith in
    omega (arith, made_past k p m (omega arith), advanced_there k p m other)

made_advanced : (k : Cut) (p m : ℕ) → p < m → events_made (advanced k p) m ≡ suc (events_made k m)
made_advanced k p zero lt = absurd (omega arith)
made_advanced k p (suc m) lt =
    elim (cases_eq m p) [
      | inl e ↦ omega (arith, made_past k p m (omega arith), advanced_here k p m e)
      | inr d ↦ omega (arith, made_advanced k p m (below p m lt d), advanced_there k p m d)
    ]
  where
    below : (p m : ℕ) → p < suc m → (m ≡ p → ⊥) → p < m
    below p m lt d = elim (cases_lt p m) [ inl l ↦ l | inr g ↦ absurd (d (omega arith)) ]

made_within : (n : Net) (k : Cut) → ((p : ℕ) → k p ≤ length (n.script p)) → (m : ℕ) → events_made k m ≤ events_below n m
made_within n k inside zero = omega arith
made_within n k inside (suc m) = omega (arith, made_within n k inside m, inside m)

-- Entries

module _ (n : Nest) (net : Net) (s : State Tag) (counted : IsCounted net s) (p i : ℕ) where
  entry_on : enabled net s p ≡ true
      → entry_refusal n net (positions s) i p ≡ event_refusal n net i p (positions s p) (next net s p)
  entry_on on =
      ap (λ b. cond b (event_refusal n net i p (positions s p) (next net s p)) (Some (refusal.NotEnabled i)))
      (sym (enabled_as_cut net s counted p) ∙ on)

  pub entry_off : enabled net s p ≡ false → Some (refusal.NotEnabled i) ≡ entry_refusal n net (positions s) i p
  entry_off off =
      sym (ap (λ b. cond b (event_refusal n net i p (positions s p) (next net s p)) (Some (refusal.NotEnabled i)))
      (sym (enabled_as_cut net s counted p) ∙ off))

  -- an enabled event is judged
  pub entry_event : (e : Event) → enabled net s p ≡ true → next net s p ≡ Some e
      → entry_refusal n net (positions s) i p ≡ event_refusal n net i p (positions s p) (Some e)
  entry_event e on is = entry_on on ∙ ap (event_refusal n net i p (positions s p)) is

  -- an entry that isn't refused is enabled
  pub enabled_where_none : entry_refusal n net (positions s) i p ≡ None → enabled net s p ≡ true
  enabled_where_none fine =
      elim (cases_Bool (enabled net s p)) [
        | inl on ↦ on
        | inr off ↦ let wrong = entry_off off in cc
      ]

-- The walk

-- the state is where the first i entries of the schedule lead, none of which is refused
pub record IsWalked (n : Nest) (net : Net) (schedule : List ℕ) (s : TagState) (i : ℕ) : Type 0 where
  pub state : IsTagState net s
  pub walk : entries_refusal n net (cut_in s) i (drop i schedule) ≡ entries_refusal n net opening 0 schedule
  pub ends : cut_after (cut_in s) (drop i schedule) ≡ cut_after opening schedule
  pub made : events_made (cut_in s) net.processes ≡ i

-- the number of an entry is small
pub entry_short : (n : Nest) (net : Net) (schedule : List ℕ) (s : TagState) (i : ℕ) → IsWalked n net schedule s i
    → i < 2 ^ 32
entry_short n net schedule s i w =
    omega (
      arith,
      w.made,
      w.state.progress.numbers.events,
      made_within net (cut_in s) w.state.progress.inside net.processes,
    )

-- the walk goes on past an entry that isn't refused
pub walked_on : (n : Nest) (net : Net) (schedule : List ℕ) (s s' : TagState) (i p : ℕ) → IsWalked n net schedule s i
    → slice_get schedule i ≡ Some p → entry_refusal n net (cut_in s) i p ≡ None
    → cut_in s' ≡ advanced (cut_in s) p → IsTagState net s' → IsWalked n net schedule s' (suc i)
walked_on n net schedule s s' i p w at fine moves state =
    let on = enabled_where_none n net (state_of net s) w.state.counted p i fine in
    let there : p < net.processes =
    elim (cases_lt p net.processes) [
      | inl lt ↦ lt
      | inr past ↦
          let low =
          enabled_inside net (cut_in s) p (sym (enabled_as_cut net (state_of net s) w.state.counted p) ∙ on) in
          absurd (omega (arith, ap length (w.state.progress.wired.bounded p past)))
    ] in
    record {
      state = state;
      walk = ap (λ k. entries_refusal n net k (suc i) (drop (suc i) schedule)) moves
          ∙ sym (ap (λ o.
          option_or o (entries_refusal n net (advanced (cut_in s) p) (suc i) (drop (suc i) schedule))) fine)
          ∙ sym (ap (entries_refusal n net (cut_in s) i) (drop-some schedule i p at)) ∙ w.walk;
      ends = ap (λ k. cut_after k (drop (suc i) schedule)) moves
          ∙ sym (ap (cut_after (cut_in s)) (drop-some schedule i p at)) ∙ w.ends;
      made = ap (λ k. events_made k net.processes) moves ∙ made_advanced (cut_in s) p net.processes there
          ∙ ap suc w.made;
    }

pub walked_start : (n : Nest) (net : Net) (schedule : List ℕ) (s : TagState) → state_of net s ≡ start net
    → IsTagState net s → IsWalked n net schedule s 0
walked_start n net schedule s run state = record {
  state = state;
  walk = ap (λ t. entries_refusal n net (positions t) 0 schedule) run;
  ends = ap (λ t. cut_after (positions t) schedule) run;
  made = ap (λ t. events_made (positions t) net.processes) run ∙ made_none net.processes;
}

module _ (n : Nest) (network : Network) (schedule : List ℕ) (s : TagState) (i : ℕ)
    (w : IsWalked n (net_of network) schedule s i) where
  -- an entry is refused
  entry_found : (p : ℕ) (x : Refusal) → slice_get schedule i ≡ Some p
      → entry_refusal n (net_of network) (cut_in s) i p ≡ Some x → Some x ≡ schedule_refusal n network schedule
  unfolding schedule_refusal
  entry_found p x at is =
      let net = net_of network in
      let later = entries_refusal n net (advanced (cut_in s) p) (suc i) (drop (suc i) schedule) in
      let walk : entries_refusal n net opening 0 schedule ≡ Some x =
      sym w.walk ∙ ap (entries_refusal n net (cut_in s) i) (drop-some schedule i p at)
      ∙ ap (λ o. option_or o later) is in
      sym (ap (λ o.
      option_or o (first_below (unended net (cut_after opening schedule)) (length network.processes))) walk)

  -- an entry that can't be let pass
  pub entry_wrong : (p : ℕ) (o : Option Refusal) → slice_get schedule i ≡ Some p
      → o ≡ entry_refusal n (net_of network) (cut_in s) i p
      → (entry_refusal n (net_of network) (cut_in s) i p ≡ None → ⊥) → o ≡ schedule_refusal n network schedule
  entry_wrong p None at is wrong = absurd (wrong (sym is))
  entry_wrong p (Some x) at is wrong = entry_found p x at (sym is)

  -- at the schedule's end what is wrong is a process that hasn't ended
  pub at_end : length schedule ≤ i
      → first_below (unended (net_of network) (cut_in s)) (length network.processes)
      ≡ schedule_refusal n network schedule
  unfolding schedule_refusal
  at_end le =
      let net = net_of network in
      let none : drop i schedule ≡ [] = drop_of_length-le schedule le in
      let walk : entries_refusal n net opening 0 schedule ≡ None =
      sym w.walk ∙ ap (entries_refusal n net (cut_in s) i) none in
      let there : cut_after opening schedule ≡ cut_in s = sym w.ends ∙ ap (cut_after (cut_in s)) none in
      sym (ap (λ o.
      option_or o (first_below (unended net (cut_after opening schedule)) (length network.processes))) walk
      ∙ ap (λ k. first_below (unended net k) (length network.processes)) there)

-- The processes that haven't ended

-- a process that has no next event has ended
pub ended_there : (net : Net) (k : Cut) (p : ℕ) → k p ≤ length (net.script p) → slice_get (net.script p) (k p) ≡ None
    → unended net k p ≡ None
ended_there net k p inside none =
    ap (λ b. cond b (Some (refusal.Unended p)) None)
    (le-ltb (k p) (length (net.script p)) (past (net.script p) (k p) none))
  where
    past : {X : Type 0} (xs : List X) (i : ℕ) → slice_get xs i ≡ None → length xs ≤ i
    past [] i h = omega arith
    past (x ∷ xs) zero h = cc
    past (x ∷ xs) (suc i) h = omega (arith, past xs i h)

pub unended_there : (net : Net) (k : Cut) (p : ℕ) (e : Event) → slice_get (net.script p) (k p) ≡ Some e
    → unended net k p ≡ Some (refusal.Unended p)
unended_there net k p e is =
    ap (λ b. cond b (Some (refusal.Unended p)) None)
    (lt-ltb (k p) (length (net.script p)) (slice_get_within (net.script p) (k p) e is))
