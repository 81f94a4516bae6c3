-- No entry of a schedule is refused, and nothing is unended, exactly where it is a run that ends all and every
-- reference names what its read wants.
--
-- The entries are judged on cuts, which only count, so no machine runs in the definition; Positions turns a run on
-- cuts into one of the machine. By induction on the schedule: each fire that it passes names what it wants
-- (`none_entries`). In the end every process is at its script's end, so every fire of every script was passed, which
-- is why one schedule tells of all references. Names don't depend on the order, so whether any of them is wrong is the
-- same for every such schedule.
use Rattle.std.proofs.Common.{◌≡◌, ℕ, suc, ◌<◌, ◌≤◌, true, cond, ltb, eqb, Option, Some, None, List, [], ◌∷◌, length}
use Rattle.std.proofs.Common.{slice_get, refl, sym, ap, ap₂, ◌∙◌, inl, inr, arith, eqb-true, eq-eqb}
use Rattle.std.proofs.lemmas.Bool.{and_parts, and_from, cases_Bool, cases_lt, cases_eq, ltb-false, le-ltb}
use Rattle.std.proofs.lemmas.Option.{slice_get_within}
use Rattle.std.specs.Option.{option_or}
use Rattle.sanlp.specs.declared.nest.Nest.{Nest}
use Rattle.sanlp.specs.declared.nest.Tag.{Tag}
use Rattle.sanlp.specs.Points.{points_of}
use Rattle.net_core.specs.declared.network.Event.{Event}
use Rattle.net_core.specs.declared.network.Event.TheVariants.{Get, Fire, Put}
use Rattle.net_core.specs.declared.network.Network.{Network}
use Rattle.net_core.specs.declared.refs.Ref.{Ref}
use Rattle.net_core.specs.Cuts.{Cut, enabled_at, advanced, cut_after, opening, IsCutRun}
use Rattle.net_core.specs.Machine.{Net, net_of, start}
use Rattle.net_core.specs.Names.{Name, name_at}
use Rattle.net_core.specs.Names.Name.{zero_name, empty_name, token_name}
use Rattle.net_core.specs.Orders.{EndsAll}
use Rattle.net_core.specs.Rules.{tags}
use Rattle.net_core.specs.Shape.{fires, IsWired}
use Rattle.net_core.specs.Sound.{source_tag, name_of_source, NamesLastWriters}
use Rattle.net_core.proofs.CutOrder.{advanced_here, advanced_there}
use Rattle.net_core.proofs.Positions.{run_cut, cut_run, run_ends, start_counted, cut_inside}
use Rattle.net_checker.specs.declared.verdict.Refusal.TheVariants as refusal
use Rattle.net_checker.specs.Choice.{first_below}
use Rattle.net_checker.specs.Entries.{is_wanted, seen_of, wanted_of, reference_refusal, event_refusal, entry_refusal}
use Rattle.net_checker.specs.Entries.{entries_refusal, unended, schedule_refusal}
use Rattle.net_checker.proofs.Choices.{or_none, first_none, none_first}
use Rattle.net_checker.proofs.Lists.{passes_where_none, fails_where_none}

-- One reference

wanted_name : (name : Name) (source : Option Tag) → is_wanted name source ≡ true → name ≡ name_of_source source
wanted_name zero_name None h = refl
wanted_name zero_name (Some s) h = cc
wanted_name empty_name None h = cc
wanted_name empty_name (Some s) h = cc
wanted_name (token_name t) None h = cc
wanted_name (token_name t) (Some s) h =
    let parts = and_parts (eqb t.process s.process) (eqb t.turn s.turn) h in
    ap₂ (λ p f. token_name (record { process = p; turn = f })) (eqb-true _ _ parts.0) (eqb-true _ _ parts.1)

wanted_itself : (source : Option Tag) → is_wanted (name_of_source source) source ≡ true
wanted_itself None = refl
wanted_itself (Some s) = and_from _ _ (eq-eqb s.process s.process refl) (eq-eqb s.turn s.turn refl)

-- One entry

module _ (n : Nest) (net : Net) where
  -- where place k of p's script is a fire, each reference names what its read wants
  abbrev NamesWanted : ℕ → ℕ → Type 0
  NamesWanted p k =
      (refs : List Ref) → slice_get (net.script p) k ≡ Some (Fire refs) → (read : ℕ) (r : Ref)
      → slice_get refs read ≡ Some r → name_at net p k r ≡ name_of_source (source_tag n p (fires net p k) read)

  none_reference : (i p k j : ℕ) (o : Option Ref) (r : Ref) → o ≡ Some r → reference_refusal n net i p k j o ≡ None
      → name_at net p k r ≡ name_of_source (source_tag n p (fires net p k) j)
  none_reference i p k j None r is h = cc
  none_reference i p k j (Some s) r is h =
      let same : s ≡ r = cc in
      let source = source_tag n p (fires net p k) j in
      let name = name_at net p k s in
      rw (← same) (wanted_name name source
      (passes_where_none (is_wanted name source)
      (refusal.Tag i (seen_of (points_of n) name) (wanted_of (points_of n) source)) h))

  none_event : (i p k : ℕ) (o : Option Event) → slice_get (net.script p) k ≡ o → event_refusal n net i p k o ≡ None
      → NamesWanted p k
  none_event i p k None at h refs is read r there = cc
  none_event i p k (Some (Get c s)) at h refs is read r there = cc
  none_event i p k (Some (Put c)) at h refs is read r there = cc
  none_event i p k (Some (Fire refs')) at h refs is read r there =
      let same : refs' ≡ refs = fire_same refs' refs (sym at ∙ is) in
      let there' : slice_get refs' read ≡ Some r = rw same there in
      none_reference i p k read (slice_get refs' read) r there'
      (none_first (λ j. reference_refusal n net i p k j (slice_get refs' j)) (length refs') h read
      (slice_get_within refs' read r there'))
    where
      fire_same : (a b : List Ref) → ◌≡◌ {A = Option Event} (Some (Fire a)) (Some (Fire b)) → a ≡ b
      fire_same a b e = cc

  reference_none : (i p k j : ℕ) (o : Option Ref)
      → ((r : Ref) → o ≡ Some r → name_at net p k r ≡ name_of_source (source_tag n p (fires net p k) j))
      → reference_refusal n net i p k j o ≡ None
  reference_none i p k j None h = refl
  reference_none i p k j (Some r) h =
      let source = source_tag n p (fires net p k) j in
      let named : name_at net p k r ≡ name_of_source source = h r refl in
      let passes : is_wanted (name_at net p k r) source ≡ true =
      ap (λ name. is_wanted name source) named ∙ wanted_itself source in
      ap (λ b. cond b None
      (Some (refusal.Tag i (seen_of (points_of n) (name_at net p k r)) (wanted_of (points_of n) source)))) passes

  event_none : NamesLastWriters n net → (i p k : ℕ) (o : Option Event) → slice_get (net.script p) k ≡ o
      → event_refusal n net i p k o ≡ None
  event_none names i p k None at = refl
  event_none names i p k (Some (Get c s)) at = refl
  event_none names i p k (Some (Put c)) at = refl
  event_none names i p k (Some (Fire refs)) at =
      first_none (λ j. reference_refusal n net i p k j (slice_get refs j)) (length refs)
      (λ j lt. reference_none i p k j (slice_get refs j) (names p k refs at j))

  none_entry : (k : Cut) (i p : ℕ) → entry_refusal n net k i p ≡ None
      → (enabled_at net k p ≡ true) × NamesWanted p (k p)
  none_entry k i p h =
      elim (cases_Bool (enabled_at net k p)) [
        | inl on ↦
            let e : event_refusal n net i p (k p) (slice_get (net.script p) (k p)) ≡ None =
            sym (ap (λ b.
            cond b (event_refusal n net i p (k p) (slice_get (net.script p) (k p)))
            (Some (refusal.NotEnabled i))) on) ∙ h in
            (on, none_event i p (k p) (slice_get (net.script p) (k p)) refl e)
        | inr off ↦
            let wrong : Some (refusal.NotEnabled i) ≡ None =
            sym (ap (λ b.
            cond b (event_refusal n net i p (k p) (slice_get (net.script p) (k p)))
            (Some (refusal.NotEnabled i))) off) ∙ h in
            cc
      ]

  entry_none : NamesLastWriters n net → (k : Cut) (i p : ℕ) → enabled_at net k p ≡ true
      → entry_refusal n net k i p ≡ None
  entry_none names k i p on =
      ap (λ b. cond b (event_refusal n net i p (k p) (slice_get (net.script p) (k p))) (Some (refusal.NotEnabled i))) on
      ∙ event_none names i p (k p) (slice_get (net.script p) (k p)) refl

-- The whole schedule

-- a place that a cut passes with p's event is p's, or one that the rest passes
passed : (n : Nest) (net : Net) (k : Cut) (p q j : ℕ) → k q ≤ j → NamesWanted n net p (k p)
    → (advanced k p q ≤ j → NamesWanted n net q j) → NamesWanted n net q j
passed n net k p q j low here rest =
    elim (cases_lt j (advanced k p q)) [
      | inr later ↦ rest later
      | inl now ↦
          elim (cases_eq q p) [
            | inl same ↦
                let place : j ≡ k p = (let a : j ≡ k q = omega (arith, advanced_here k p q same) in a) ∙ ap k same in
                rw (place, same) here
            | inr other ↦ absurd (omega (arith, advanced_there k p q other))
          ]
    ]

-- no entry is refused: it is a run, and each fire that it passes names what it wants
none_entries : (n : Nest) (net : Net) (ps : List ℕ) (k : Cut) (i : ℕ) → entries_refusal n net k i ps ≡ None
    → IsCutRun net k ps × ((q j : ℕ) → k q ≤ j → j < cut_after k ps q → NamesWanted n net q j)
none_entries n net [] k i h = (tt, λ q j low high. absurd (omega arith))
none_entries n net (p ∷ ps) k i h =
    let parts = or_none (entry_refusal n net k i p) (entries_refusal n net (advanced k p) (suc i) ps) h in
    let here = none_entry n net k i p parts.0 in
    let rest = none_entries n net ps (advanced k p) (suc i) parts.1 in
    ((here.0, rest.0), λ q j low high. passed n net k p q j low here.1 (λ later. rest.1 q j later high))

entries_none : (n : Nest) (net : Net) → NamesLastWriters n net → (ps : List ℕ) (k : Cut) (i : ℕ) → IsCutRun net k ps
    → entries_refusal n net k i ps ≡ None
entries_none n net names [] k i run = refl
entries_none n net names (p ∷ ps) k i run =
    ap (λ o. option_or o (entries_refusal n net (advanced k p) (suc i) ps)) (entry_none n net names k i p run.0)
    ∙ entries_none n net names ps (advanced k p) (suc i) run.1

module _ (n : Nest) (network : Network) (schedule : List ℕ) (wired : IsWired (net_of network)) where
  abbrev net : Net
  net = net_of network

  pub none_ends : schedule_refusal n network schedule ≡ None → EndsAll net tags schedule × NamesLastWriters n net
  unfolding schedule_refusal
  none_ends h =
      let cut = cut_after opening schedule in
      let parts =
      or_none (entries_refusal n net opening 0 schedule) (first_below (unended net cut) (length network.processes)) h in
      let walked = none_entries n net schedule opening 0 parts.0 in
      let run = cut_run net tags wired schedule (start net) (start_counted net) walked.0 in
      let full : (q : ℕ) → cut q ≡ length (net.script q) =
      λ q.
      let high = cut_inside net schedule opening walked.0 (λ r. omega arith) q in
      elim (cases_lt q (length network.processes)) [
        | inl lt ↦
            let none = none_first (unended net cut) (length network.processes) parts.1 q lt in
            let low =
            ltb-false (cut q) (length (net.script q))
            (fails_where_none (ltb (cut q) (length (net.script q))) (refusal.Unended q) none) in
            omega arith
        | inr past ↦ omega (arith, ap length (wired.bounded q past))
      ] in (
        (run, λ q. ap (λ k. k q) (run_ends net tags schedule (start net) run) ∙ full q),
        λ p k refs is. walked.1 p k
            (omega arith) (let lt = slice_get_within (net.script p) k (Fire refs) is in omega (arith, full p)) refs is,
      )

  pub ends_none : EndsAll net tags schedule → NamesLastWriters n net → schedule_refusal n network schedule ≡ None
  unfolding schedule_refusal
  ends_none ends names =
      let cut = cut_after opening schedule in
      let run = run_cut net tags wired schedule (start net) (start_counted net) ends.0 in
      let full : (q : ℕ) → cut q ≡ length (net.script q) =
      λ q. sym (ap (λ k. k q) (run_ends net tags schedule (start net) ends.0)) ∙ ends.1 q in
      let all : first_below (unended net cut) (length network.processes) ≡ None =
      first_none (unended net cut) (length network.processes)
      (λ q lt. ap (λ b. cond b (Some (refusal.Unended q)) None)
      (le-ltb (cut q) (length (net.script q)) (omega (arith, full q)))) in
      ap (λ o. option_or o (first_below (unended net cut) (length network.processes)))
      (entries_none n net names schedule opening 0 run) ∙ all
