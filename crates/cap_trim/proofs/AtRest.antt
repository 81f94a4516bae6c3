-- Where a network comes to rest: the least-process run is one that can't go on, and all such runs stand alike.
--
-- The run takes the least enabled process until none is enabled. It stops in time, since each event leaves one less
-- (`goes_least`, by induction on the events that are left). No run passes a cut at which nobody may go on, so a run
-- that can't go on and the least-process run can't pass each other (`cuts_at_rest`). Whether the network ends is read
-- off these positions: where some run ends all, nobody may go on there, so the network is at rest there. The order of
-- the processes matters for the run alone, and values don't matter at all.
use Rattle.std.proofs.Common.{◌≡◌, ℕ, zero, suc, ◌<◌, ◌≤◌, true, false, Some, None, List, []}
use Rattle.std.proofs.Common.{◌∷◌, map, length, take, slice_get, get_or, refl, sym, ap, ◌∙◌, subst, inl, inr, arith}
use Rattle.std.proofs.Common.{eqb-true, eq-eqb}
use Rattle.std.specs.Option.{option_map_or}
use Rattle.std.specs.List.{range_with_len}
use Rattle.std.proofs.lemmas.Bool.{cases_lt}
use Rattle.std.proofs.lemmas.List.{take_all}
use Rattle.std.proofs.lemmas.List.FromFn.{get_or-map-range_with_len}
use Rattle.std.proofs.lemmas.Option.{slice_get_past}
use Rattle.std.specs.Prelude.{◌==◌}
use mathlib.Core.Path.{fun_ext}
use Rattle.net_core.specs.Cuts.{Cut, IsCounted, IsCutRun, can_come_at, cut_after, enabled_at, opening}
use Rattle.net_core.specs.Cuts.{positions}
use Rattle.net_core.specs.Machine.{Net, Rule, State, start, enabled, step, after, IsRun}
use Rattle.net_core.specs.Orders.{EndsAll, reached}
use Rattle.net_core.specs.Rules.{tags}
use Rattle.net_core.specs.Shape.{IsWired, events_below}
use Rattle.net_core.proofs.CutOrder.{no_further}
use Rattle.net_core.proofs.Positions.{counted_after_step, cut_inside, enabled_as_cut, enabled_inside}
use Rattle.net_core.proofs.Positions.{positions_step, run_counted, run_cut, run_ends, start_counted}
use Rattle.witness_plan.proofs.Downward.{events_left, left_first, left_less}
use Rattle.witness_plan.proofs.OtherCapacities.{wired_at}
use Rattle.cap_trim.specs.Rests.{IsLeastRun, StopsAtRest, can_end, least_enabled, least_run, least_run_from}
use Rattle.cap_trim.specs.Rests.{rest}
use Rattle.cap_trim.proofs.FirstPass.{all_from, all_pass, find_is}
use Rattle.cap_trim.proofs.MoreRoom.{run_roomier}
use Rattle.plain_data.proofs.Options.{by_option}
use Rattle.plain_data.proofs.Lists.{find-range_with_len_none}

-- The least-process run

from_none : {T : Type 0} (n : Net) (rule : Rule T) (many : ℕ) (s : State T) → least_enabled n s ≡ None
    → least_run_from n rule many s ≡ []
from_none n rule zero s is = refl
from_none n rule (suc many) s is =
    ap (λ o. option_map_or (λ p. p ∷ least_run_from n rule many (step n rule s p)) o []) is

from_some : {T : Type 0} (n : Net) (rule : Rule T) (many : ℕ) (s : State T) (p : ℕ) → least_enabled n s ≡ Some p
    → least_run_from n rule (suc many) s ≡ p ∷ least_run_from n rule many (step n rule s p)
from_some n rule many s p is =
    ap (λ o. option_map_or (λ q. q ∷ least_run_from n rule many (step n rule s q)) o []) is

least_is : {T : Type 0} (n : Net) (s : State T) (p : ℕ) → least_enabled n s ≡ Some p
    → (p < n.processes) × (enabled n s p ≡ true)
least_is n s p is =
    let found = find_is (enabled n s) n.processes 0 p is in (omega (arith, found.1), found.2)

-- from this state on a run has the least enabled process at each of its places, and none is enabled at its end
abbrev GoesLeast : {T : Type 0} → Net → Rule T → State T → List ℕ → Type 0
GoesLeast n rule s run =
    (i : ℕ) → i ≤ length run → slice_get run i ≡ least_enabled n (after n rule s (take i run))

goes_nowhere : {T : Type 0} (n : Net) (rule : Rule T) (s : State T) → least_enabled n s ≡ None → GoesLeast n rule s []
goes_nowhere n rule s is zero le = sym is
goes_nowhere n rule s is (suc i) le = absurd (omega arith)

goes_further : {T : Type 0} (n : Net) (rule : Rule T) (s : State T) (p : ℕ) (run : List ℕ) → least_enabled n s ≡ Some p
    → GoesLeast n rule (step n rule s p) run → GoesLeast n rule s (p ∷ run)
goes_further n rule s p run is later zero le = sym is
goes_further n rule s p run is later (suc i) le = later i (omega arith)

-- one event of p leaves one less
left_after : {T : Type 0} (n : Net) (rule : Rule T) (s : State T) (p : ℕ) → IsCounted n s → p < n.processes
    → enabled n s p ≡ true
    → events_left n (positions s) n.processes ≡ suc (events_left n (positions (step n rule s p)) n.processes)
left_after n rule s p counted there on =
    let inside = enabled_inside n (positions s) p (sym (enabled_as_cut n s counted p) ∙ on) in
    left_less n (positions s) p n.processes there inside
    ∙ ap (λ (k : Cut). suc (events_left n k n.processes)) (sym (positions_step n rule s p on))

goes_least : {T : Type 0} (n : Net) (rule : Rule T) (wired : IsWired n) (many : ℕ) (s : State T) → IsCounted n s
    → events_left n (positions s) n.processes ≤ many → GoesLeast n rule s (least_run_from n rule many s)
goes_least n rule wired zero s counted few =
    by_option (least_enabled n s) (goes_nowhere n rule s)
    (λ p is. (let found = least_is n s p is in absurd (omega (arith, left_after n rule s p counted found.0 found.1))))
goes_least n rule wired (suc many) s counted few =
    by_option (least_enabled n s)
    (λ is. subst (GoesLeast n rule s) (sym (from_none n rule (suc many) s is)) (goes_nowhere n rule s is))
    (λ p is.
    (let found = least_is n s p is in
    let left = left_after n rule s p counted found.0 found.1 in
    subst (GoesLeast n rule s) (sym (from_some n rule many s p is))
    (goes_further n rule s p (least_run_from n rule many (step n rule s p)) is
    (goes_least n rule wired many (step n rule s p) (counted_after_step n rule wired s p counted found.1)
    (omega arith)))))

goes_runs : {T : Type 0} (n : Net) (rule : Rule T) (run : List ℕ) (s : State T) → GoesLeast n rule s run
    → IsRun n rule s run
goes_runs n rule [] s goes = tt
goes_runs n rule (p ∷ run) s goes =
    let first = least_is n s p (sym (goes 0 (omega arith))) in
    (first.1, goes_runs n rule run (step n rule s p) (λ i le. goes (suc i) (omega arith)))

module _ (n : Net) (wired : IsWired n) where
  goes : GoesLeast n tags (start n) (least_run n)
  unfolding least_run
  goes =
      goes_least n tags wired (events_below n n.processes) (start n) (start_counted n)
      (omega (arith, left_first n n.processes))

  pub is_least : IsLeastRun n (least_run n)
  is_least = record { is_run = goes_runs n tags (least_run n) (start n) goes; least = goes }

  -- as a run on cuts
  pub least_cuts : IsCutRun n opening (least_run n)
  least_cuts = run_cut n tags wired (least_run n) (start n) (start_counted n) is_least.is_run

  abbrev pub cut_at_rest : Cut
  cut_at_rest = cut_after opening (least_run n)

  none_enabled : least_enabled n (reached n tags (least_run n)) ≡ None
  none_enabled =
      let whole = take_all (length (least_run n)) (least_run n) (omega arith) in
      sym (ap (λ run. least_enabled n (reached n tags run)) whole)
      ∙ sym (goes (length (least_run n)) (omega arith))
      ∙ slice_get_past (least_run n) (length (least_run n)) (omega arith)

  at_rest : positions (reached n tags (least_run n)) ≡ cut_at_rest
  at_rest = run_ends n tags (least_run n) (start n) is_least.is_run

  rest_counted : IsCounted n (reached n tags (least_run n))
  rest_counted = run_counted n tags wired (least_run n) (start n) (start_counted n) is_least.is_run

  enabled_here : (q : ℕ) → enabled n (reached n tags (least_run n)) q ≡ enabled_at n cut_at_rest q
  enabled_here q =
      enabled_as_cut n (reached n tags (least_run n)) rest_counted q ∙ ap (λ (k : Cut). enabled_at n k q) at_rest

  -- at rest nobody may go on
  pub stuck_at_rest : (q : ℕ) → enabled_at n cut_at_rest q ≡ false
  stuck_at_rest q =
      elim (cases_lt q n.processes) [
        | inl lt ↦
            sym (enabled_here q)
            ∙ find-range_with_len_none (enabled n (reached n tags (least_run n))) 0 n.processes none_enabled q
            (omega arith) (omega arith)
        | inr le ↦
            let nothing : length (n.script q) ≡ 0 = ap length (wired.bounded q le) in
            ap (can_come_at n cut_at_rest) (slice_get_past (n.script q) (cut_at_rest q) (omega arith))
      ]

  -- a run on cuts that can't go on has come to rest
  pub cuts_at_rest : (run : List ℕ) → IsCutRun n opening run
      → ((q : ℕ) → enabled_at n (cut_after opening run) q ≡ false) → (q : ℕ)
      → cut_after opening run q ≡ cut_at_rest q
  cuts_at_rest run is stuck q =
      let low = no_further n wired run opening cut_at_rest (λ r. omega arith) stuck_at_rest is q in
      let high = no_further n wired (least_run n) opening (cut_after opening run) (λ r. omega arith) stuck least_cuts q
      in
      omega arith

  pub rest_is : rest n ≡ map cut_at_rest (range_with_len 0 n.processes)
  rest_is = ap (λ (k : Cut). map k (range_with_len 0 n.processes)) at_rest

  pub rest_from : (k : Cut) → ((q : ℕ) → k q ≡ cut_at_rest q) → map k (range_with_len 0 n.processes) ≡ rest n
  rest_from k same = ap (λ (j : Cut). map j (range_with_len 0 n.processes)) (fun_ext same) ∙ sym rest_is

  pub rest_at : (p : ℕ) → p < n.processes → get_or (rest n) p 0 ≡ cut_at_rest p
  rest_at p lt =
      ap (λ (places : List ℕ). get_or places p 0) rest_is
      ∙ get_or-map-range_with_len cut_at_rest 0 n.processes p p 0 lt (omega arith)

  -- each run of the machine that can't go on stands at rest
  pub stops_at_rest : {T : Type 0} (rule : Rule T) → StopsAtRest n rule
  stops_at_rest {T} rule run is stuck =
      let s = reached n rule run in
      let there : positions s ≡ cut_after opening run = run_ends n rule run (start n) is in
      let counted = run_counted n rule wired run (start n) (start_counted n) is in
      let shut : (q : ℕ) → enabled_at n (cut_after opening run) q ≡ false =
      λ q. ap (λ (k : Cut). enabled_at n k q) (sym there) ∙ sym (enabled_as_cut n s counted q) ∙ stuck q in
      rest_from (positions s)
      (λ q. ap (λ (k : Cut). k q) there
      ∙ cuts_at_rest run (run_cut n rule wired run (start n) (start_counted n) is) shut q)

  -- Ending

  -- where the network ends, each process is at its script's end at rest
  pub ends_at_rest : can_end n ≡ true → (p : ℕ) → cut_at_rest p ≡ length (n.script p)
  ends_at_rest can p =
      elim (cases_lt p n.processes) [
        | inl lt ↦
            let same = eqb-true (get_or (rest n) p 0) (length (n.script p))
            (all_pass (λ q. get_or (rest n) q 0 == length (n.script q)) n.processes 0 p can (omega arith) (omega arith))
            in
            sym (rest_at p lt) ∙ same
        | inr le ↦
            let nothing : length (n.script p) ≡ 0 = ap length (wired.bounded p le) in
            let inside = cut_inside n (least_run n) opening least_cuts (λ q. omega arith) p in
            omega arith
      ]

  pub can_end_from : ((p : ℕ) → cut_at_rest p ≡ length (n.script p)) → can_end n ≡ true
  can_end_from ended =
      all_from (λ q. get_or (rest n) q 0 == length (n.script q)) n.processes 0
      (λ q low lt. (let there : q < n.processes = omega arith in
      eq-eqb (get_or (rest n) q 0) (length (n.script q)) (rest_at q there ∙ ended q)))

  -- where every script is at its end, nobody may go on
  shut_at_end : (k : Cut) → ((p : ℕ) → k p ≡ length (n.script p)) → (q : ℕ) → enabled_at n k q ≡ false
  shut_at_end k ended q =
      let past = ended q in
      ap (can_come_at n k) (slice_get_past (n.script q) (k q) (omega arith))

  -- a run on cuts that ends all tells that the network ends
  pub can_end_by : (run : List ℕ) → IsCutRun n opening run
      → ((p : ℕ) → cut_after opening run p ≡ length (n.script p)) → can_end n ≡ true
  can_end_by run is ended =
      can_end_from (λ p. sym (cuts_at_rest run is (shut_at_end (cut_after opening run) ended) p) ∙ ended p)

  pub can_end_since : {T : Type 0} (rule : Rule T) (run : List ℕ) → EndsAll n rule run → can_end n ≡ true
  can_end_since {T} rule run whole =
      can_end_by run (run_cut n rule wired run (start n) (start_counted n) whole.0)
      (λ p. sym (ap (λ (k : Cut). k p) (run_ends n rule run (start n) whole.0)) ∙ whole.1 p)

  pub least_ends : can_end n ≡ true → EndsAll n tags (least_run n)
  least_ends can = (is_least.is_run, λ p. ap (λ (k : Cut). k p) at_rest ∙ ends_at_rest can p)

-- ending is monotone in the capacities
pub can_end_roomier : (n : Net) → IsWired n → (room : ℕ → ℕ) → ((c : ℕ) → c < n.channels → n.capacity c ≤ room c)
    → can_end n ≡ true → can_end (record n { capacity = room }) ≡ true
can_end_roomier n wired room more can =
    can_end_by (record n { capacity = room }) (wired_at n room wired) (least_run n)
    (run_roomier n wired room more (least_run n) opening (least_cuts n wired)) (ends_at_rest n wired can)
