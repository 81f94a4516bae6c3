-- The clocked run is a run of the machine, and it ends all.
--
-- An enabled process stays enabled whatever another one does, and no process stands twice in a clock. So the enabled
-- processes of a clock are a run (`in_turn`, by induction on the numbers that are left, beside a state in which those
-- of them that were enabled still are), and the clocks are runs one after the other (`clocks_run`). Each clock before
-- the first stuck state has an event, and no run has more events than the scripts, so a stuck state comes in time
-- (`stops`); there all have ended, since every run goes on until then. Which processes are enabled is the same whatever
-- fires give (`same_clocks`), so the clocks may be counted over tags. Nothing is said of other orders: those are
-- net_core's matter.
use Rattle.std.proofs.Common.{◌≡◌, ℕ, zero, suc, ◌+◌, ◌<◌, ◌≤◌, Bool, true, false, not, List, [], ◌∷◌, ◌++◌, length}
use Rattle.std.proofs.Common.{slice_get, ap, sym, subst, ◌∙◌, refl, inl, inr, arith, length-append}
use Rattle.std.specs.List.{filter, range_with_len}
use Rattle.std.proofs.lemmas.Bool.{both_ways, cases_Bool, cases_lt, eqb-false, eqb-true, false_from_ne_true}
use Rattle.std.proofs.lemmas.List.Elements.{filter_agree}
use Rattle.std.proofs.lemmas.List.FromFn.{length-range_with_len}
use Rattle.std.proofs.lemmas.List.Sums.{fails_before_first, passes_at_first, prefix_len-le-length}
use Rattle.net_core.specs.declared.network.Event.{Event}
use Rattle.net_core.specs.Machine.{Net, State, Rule, start, can_come, enabled, step, after, IsRun, HasEnded, IsStuck}
use Rattle.net_core.specs.Orders.{EndsAlways, StaysEnabled, reached}
use Rattle.net_core.specs.Rules.{tags}
use Rattle.net_core.specs.Shape.{IsWired, events_below}
use Rattle.clock_sim.specs.Clocks.{ClockedRunEnds, after_clocks, clocked_run, clocks, enabled_processes, is_stuck_after}
use Rattle.clock_sim.proofs.NumberFilters.{none_passes, same_Bool, some_passes}
use Rattle.plain_data.proofs.Lists.{get_or-range_with_len_zero}

-- One run after another

pub after_append : {T : Type 0} (n : Net) (rule : Rule T) (run more : List ℕ) (s : State T)
    → after n rule s (run ++ more) ≡ after n rule (after n rule s run) more
after_append n rule [] more s = refl
after_append n rule (p ∷ run) more s = after_append n rule run more (step n rule s p)

run_append : {T : Type 0} (n : Net) (rule : Rule T) (run more : List ℕ) (s : State T) → IsRun n rule s run
    → IsRun n rule (after n rule s run) more → IsRun n rule s (run ++ more)
run_append n rule [] more s first later = later
run_append n rule (p ∷ run) more s first later = (first.0, run_append n rule run more (step n rule s p) first.1 later)

run_rest : {T : Type 0} (n : Net) (rule : Rule T) (run more : List ℕ) (s : State T) → IsRun n rule s (run ++ more)
    → IsRun n rule (after n rule s run) more
run_rest n rule [] more s is = is
run_rest n rule (p ∷ run) more s is = run_rest n rule run more (step n rule s p) is.1

-- no run has more events than the scripts
run_short : {T : Type 0} (n : Net) (rule : Rule T) → EndsAlways n rule → (run : List ℕ) → IsRun n rule (start n) run
    → length run ≤ events_below n n.processes
run_short {T} n rule ends run is =
    let rest = ends.ends run is in
    let ended : HasEnded n (reached n rule (run ++ rest.0)) =
    subst (λ (s : State T). HasEnded n s) (sym (after_append n rule run rest.0 (start n))) rest.2 in
    let many = ends.events (run ++ rest.0) (run_append n rule run rest.0 (start n) is rest.1, ended) in
    omega (arith, many, length-append run rest.0)

-- One clock

in_turn : {T : Type 0} (n : Net) (rule : Rule T) → StaysEnabled n rule → (test : ℕ → Bool) (m a : ℕ) (s : State T)
    → ((q : ℕ) → a ≤ q → test q ≡ true → enabled n s q ≡ true) → IsRun n rule s (filter test (range_with_len a m))
in_turn n rule stays test zero a s are = tt
in_turn n rule stays test (suc m) a s are =
    elim (cases_Bool (test a)) [
      | inl on ↦
          rw on (
            are a (omega arith) on,
            in_turn n rule stays test m (a + 1) (step n rule s a)
                (λ q low on'.
                (let other : q ≡ a → ⊥ = λ same. omega arith in stays s q a other (are q (omega arith) on'))),
          )
      | inr off ↦ rw off (in_turn n rule stays test m (a + 1) s (λ q low on'. are q (omega arith) on'))
    ]

pub clock_run : {T : Type 0} (n : Net) (rule : Rule T) → StaysEnabled n rule → (s : State T)
    → IsRun n rule s (enabled_processes n s)
clock_run n rule stays s = in_turn n rule stays (enabled n s) n.processes 0 s (λ q low on. on)

-- a process with an event is there
enabled_there : {T : Type 0} (n : Net) → IsWired n → (s : State T) (p : ℕ) → enabled n s p ≡ true → p < n.processes
enabled_there n wired s p on =
    elim (cases_lt p n.processes) [
      | inl lt ↦ lt
      | inr past ↦
          let off : enabled n s p ≡ false =
          ap (λ (script : List Event). can_come n s (slice_get script (s.local p).position)) (wired.bounded p past) in
          absurd (both_ways (enabled n s p) off on)
    ]

stuck_from : {T : Type 0} (n : Net) → IsWired n → (s : State T) → length (enabled_processes n s) ≡ 0 → IsStuck n s
stuck_from n wired s none p =
    false_from_ne_true (enabled n s p)
    (λ on. omega (
      arith,
      none,
      some_passes (enabled n s) n.processes 0 p (omega arith) (omega (arith, enabled_there n wired s p on)) on,
    ))

pub none_from_stuck : {T : Type 0} (n : Net) (s : State T) → IsStuck n s → enabled_processes n s ≡ []
none_from_stuck n s stuck = none_passes (enabled n s) stuck n.processes 0

-- The clocks

pub clocks_run : {T : Type 0} (n : Net) (rule : Rule T) → StaysEnabled n rule → (k : ℕ)
    → IsRun n rule (start n) (clocked_run n rule k)
clocks_run n rule stays zero = tt
clocks_run n rule stays (suc k) =
    run_append n rule (clocked_run n rule k) (enabled_processes n (after_clocks n rule k)) (start n)
    (clocks_run n rule stays k) (clock_run n rule stays (after_clocks n rule k))

-- a run is one whatever its fires give
abbrev pub SameRuns : {T U : Type 0} → Net → Rule T → Rule U → Type 0
SameRuns n rule other = (run : List ℕ) → IsRun n rule (start n) run → IsRun n other (start n) run

enabled_too : {T U : Type 0} (n : Net) (rule : Rule T) (other : Rule U) → SameRuns n rule other → (run : List ℕ)
    → IsRun n rule (start n) run → (p : ℕ) → enabled n (reached n rule run) p ≡ true
    → enabled n (reached n other run) p ≡ true
enabled_too n rule other same run is p on =
    let more : IsRun n other (start n) (run ++ p ∷ []) =
    same (run ++ p ∷ []) (run_append n rule run (p ∷ []) (start n) is (on, tt)) in
    (run_rest n other run (p ∷ []) (start n) more).0

same_clock : {T U : Type 0} (n : Net) (rule : Rule T) (other : Rule U) → SameRuns n rule other → SameRuns n other rule
    → (run : List ℕ) → IsRun n rule (start n) run
    → enabled_processes n (reached n rule run) ≡ enabled_processes n (reached n other run)
same_clock n rule other there back run is =
    filter_agree (enabled n (reached n rule run)) (enabled n (reached n other run))
    (λ p. same_Bool (enabled n (reached n rule run) p) (enabled n (reached n other run) p)
    (enabled_too n rule other there run is p) (enabled_too n other rule back run (there run is) p))
    (range_with_len 0 n.processes)

same_clocks : {T U : Type 0} (n : Net) (rule : Rule T) (other : Rule U) → StaysEnabled n rule → SameRuns n rule other
    → SameRuns n other rule → (k : ℕ) → clocked_run n rule k ≡ clocked_run n other k
same_clocks n rule other stays there back zero = refl
same_clocks n rule other stays there back (suc k) =
    ap (λ (l : List ℕ). clocked_run n rule k ++ l)
    (same_clock n rule other there back (clocked_run n rule k) (clocks_run n rule stays k))
    ∙ ap (λ (run : List ℕ). run ++ enabled_processes n (reached n other run))
    (same_clocks n rule other stays there back k)

-- what steps at the clock after the first k
same_after : {T U : Type 0} (n : Net) (rule : Rule T) (other : Rule U) → StaysEnabled n rule → SameRuns n rule other
    → SameRuns n other rule → (k : ℕ)
    → enabled_processes n (after_clocks n rule k) ≡ enabled_processes n (after_clocks n other k)
same_after n rule other stays there back k =
    same_clock n rule other there back (clocked_run n rule k) (clocks_run n rule stays k)
    ∙ ap (λ (run : List ℕ). enabled_processes n (reached n other run)) (same_clocks n rule other stays there back k)

-- The end

pub few_clocks : (n : Net) → clocks n ≤ events_below n n.processes
unfolding clocks
few_clocks n =
    let numbers = range_with_len 0 (events_below n n.processes) in
    omega (
      arith,
      prefix_len-le-length (λ k. not (is_stuck_after n k)) numbers,
      length-range_with_len 0 (events_below n n.processes),
    )

-- before the last clock some process is enabled
goes_on : (n : Net) (k : ℕ) → k < clocks n → is_stuck_after n k ≡ false
unfolding clocks
goes_on n k lt =
    let many = events_below n n.processes in
    let small : k < many = omega (arith, lt, few_clocks n) in
    ap (is_stuck_after n) (sym (get_or-range_with_len_zero many k small))
    ∙ fails_before_first (is_stuck_after n) (range_with_len 0 many) k 0 lt

-- as long as some process is enabled, each clock has an event
events_come : (n : Net) (k : ℕ) → ((j : ℕ) → j < k → is_stuck_after n j ≡ false) → k ≤ length (clocked_run n tags k)
events_come n zero on = omega arith
events_come n (suc k) on =
    let clock = enabled_processes n (after_clocks n tags k) in
    let some : length clock ≡ 0 → ⊥ = eqb-false (length clock) 0 (on k (omega arith)) in
    omega (arith, events_come n k (λ j lt. on j (omega arith)), length-append (clocked_run n tags k) clock)

stops : (n : Net) → StaysEnabled n tags → EndsAlways n tags → is_stuck_after n (clocks n) ≡ true
unfolding clocks
stops n stays ends =
    let many = events_below n n.processes in
    elim (cases_lt (clocks n) many) [
      | inl lt ↦
          let within : clocks n < length (range_with_len 0 many) = omega (arith, lt, length-range_with_len 0 many) in
          ap (is_stuck_after n) (sym (get_or-range_with_len_zero many (clocks n) lt))
          ∙ passes_at_first (is_stuck_after n) (range_with_len 0 many) 0 within
      | inr all ↦
          elim (cases_Bool (is_stuck_after n (clocks n))) [
            | inl on ↦ on
            | inr off ↦
                let each : (j : ℕ) → j < suc (clocks n) → is_stuck_after n j ≡ false =
                λ j lt. elim (cases_lt j (clocks n)) [
                  | inl low ↦ goes_on n j low
                  | inr high ↦ let last : j ≡ clocks n = omega arith in ap (is_stuck_after n) last ∙ off
                ] in
                let short =
                run_short n tags ends (clocked_run n tags (suc (clocks n)))
                (clocks_run n tags stays (suc (clocks n))) in
                absurd (omega (arith, events_come n (suc (clocks n)) each, short, all))
          ]
    ]

-- the law of the clocked run
pub clocked_run_ends : {T : Type 0} (n : Net) (rule : Rule T) → IsWired n → StaysEnabled n rule → StaysEnabled n tags
    → SameRuns n rule tags → SameRuns n tags rule → EndsAlways n rule → EndsAlways n tags → ClockedRunEnds n rule
clocked_run_ends n rule wired stays stays_tags there back ends ends_tags =
    let last = after_clocks n rule (clocks n) in
    let same : (k : ℕ)
    → length (enabled_processes n (after_clocks n rule k)) ≡ length (enabled_processes n (after_clocks n tags k)) =
    λ k. ap length (same_after n rule tags stays there back k) in
    let stuck : IsStuck n last =
    stuck_from n wired last
    (same (clocks n)
    ∙ eqb-true (length (enabled_processes n (after_clocks n tags (clocks n)))) 0
    (stops n stays_tags ends_tags)) in
    record {
      in_turn = λ k. clock_run n rule stays (after_clocks n rule k);
      run = clocks_run n rule stays;
      events = λ k lt.
          let some : length (enabled_processes n (after_clocks n tags k)) ≡ 0 → ⊥ =
          eqb-false (length (enabled_processes n (after_clocks n tags k))) 0 (goes_on n k lt) in
          omega (arith, same k);
      stuck = stuck;
      ends = (
        clocks_run n rule stays (clocks n),
        elim (ends.goes_on (clocked_run n rule (clocks n)) (clocks_run n rule stays (clocks n))) [
          | inl ended ↦ ended
          | inr on ↦ absurd (both_ways (enabled n last on.0) (stuck on.0) on.1)
        ],
      );
      few = few_clocks n;
    }
