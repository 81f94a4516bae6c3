-- The downward schedule of a network: it takes the highest-numbered ready process until none is ready.
--
-- It is a run that heeds no capacity, by its definition. That it ends all is no matter of the policy: where any such
-- run ends all, as the sequential one does, no run can stop before (`no_further`), and this one stops only where
-- nobody is ready. The second part is for the code: after an event of p no process past p and past the channel's
-- reader has become ready, so the search for the highest needn't begin at the top again (`quiet_after`).
use Rattle.std.proofs.Common.{◌≡◌, ℕ, zero, suc, ◌+◌, ◌-◌, ◌<◌, ◌≤◌, true, false, cond, Option, Some, None, List, []}
use Rattle.std.proofs.Common.{◌∷◌, length, take, slice_get, refl, sym, ap, ◌∙◌, subst, inl, inr, arith, ltb-false}
use Rattle.std.proofs.Common.{eqb-true}
use Rattle.std.specs.Option.{option_map_or}
use Rattle.std.proofs.lemmas.Bool.{cases_Bool, cases_eq, cases_lt, le-ltb}
use Rattle.std.proofs.lemmas.List.{take_all}
use Rattle.std.proofs.lemmas.Option.{slice_get_past}
use Rattle.net_core.specs.declared.network.Event.{Event}
use Rattle.net_core.specs.declared.network.Event.TheVariants.{Get, Fire, Put}
use Rattle.net_core.specs.Cuts.{Cut, IsCutRun, advanced, cut_after, enabled_at, gets_at, opening, puts_at}
use Rattle.net_core.specs.Machine.{Net}
use Rattle.net_core.specs.Shape.{IsWired, events_below, is_put}
use Rattle.net_core.proofs.CutOrder.{advanced_here, advanced_there, gets_mono, no_further}
use Rattle.net_core.proofs.Positions.{cut_inside, puts_advanced}
use Rattle.plain_data.proofs.Options.{by_option}
use Rattle.witness_plan.specs.Records.{bound_after}
use Rattle.witness_plan.specs.Schedules.{IsDownward, could_come_at, downward_from, downward_schedule, highest_ready}
use Rattle.witness_plan.specs.Schedules.{is_ready}
use Rattle.witness_plan.proofs.NeverFull.{could_come, never_full, ready_comes}
use Rattle.witness_plan.proofs.OtherCapacities.{wired_at}

-- Ready processes

pub ready_inside : (n : Net) (k : Cut) (p : ℕ) → is_ready n k p ≡ true → k p < length (n.script p)
ready_inside n k p ready =
    elim (cases_lt (k p) (length (n.script p))) [
      | inl lt ↦ lt
      | inr le ↦ let past : is_ready n k p ≡ false = ap (could_come_at n k) (slice_get_past (n.script p) (k p) le) in cc
    ]

highest_here : (n : Net) (k : Cut) (m : ℕ) → is_ready n k m ≡ true → highest_ready n k (suc m) ≡ Some m
highest_here n k m ready = ap (λ b. cond b (Some m) (highest_ready n k m)) ready

highest_below : (n : Net) (k : Cut) (m : ℕ) → is_ready n k m ≡ false → highest_ready n k (suc m) ≡ highest_ready n k m
highest_below n k m quiet = ap (λ b. cond b (Some m) (highest_ready n k m)) quiet

-- the highest ready process is there, and ready
pub highest_is : (n : Net) (k : Cut) (m p : ℕ) → highest_ready n k m ≡ Some p → (p < m) × (is_ready n k p ≡ true)
highest_is n k zero p is = cc
highest_is n k (suc m) p is =
    elim (cases_Bool (is_ready n k m)) [
      | inl ready ↦
          let found : Some m ≡ Some p = sym (highest_here n k m ready) ∙ is in
          let same : m ≡ p = cc in
          (omega arith, subst (λ q. is_ready n k q ≡ true) same ready)
      | inr quiet ↦ let lower = highest_is n k m p (sym (highest_below n k m quiet) ∙ is) in (omega arith, lower.1)
    ]

-- and no higher one is
pub highest_above : (n : Net) (k : Cut) (m p q : ℕ) → highest_ready n k m ≡ Some p → p < q → q < m
    → is_ready n k q ≡ false
highest_above n k zero p q is lt within = absurd (omega arith)
highest_above n k (suc m) p q is lt within =
    elim (cases_Bool (is_ready n k m)) [
      | inl ready ↦
          let found : Some m ≡ Some p = sym (highest_here n k m ready) ∙ is in
          let same : m ≡ p = cc in
          absurd (omega arith)
      | inr quiet ↦
          elim (cases_eq q m) [
            | inl same ↦ subst (λ r. is_ready n k r ≡ false) (sym same) quiet
            | inr other ↦ highest_above n k m p q (sym (highest_below n k m quiet) ∙ is) lt (lower q m within other)
          ]
    ]
  where
    lower : (q m : ℕ) → q < suc m → (q ≡ m → ⊥) → q < m
    lower q m lt d = elim (cases_lt q m) [ inl l ↦ l | inr g ↦ absurd (d (omega arith)) ]

-- where there is none, no process is ready
pub highest_none : (n : Net) (k : Cut) (m q : ℕ) → highest_ready n k m ≡ None → q < m → is_ready n k q ≡ false
highest_none n k zero q is lt = absurd (omega arith)
highest_none n k (suc m) q is lt =
    elim (cases_Bool (is_ready n k m)) [
      | inl ready ↦ let found : Some m ≡ None = sym (highest_here n k m ready) ∙ is in cc
      | inr quiet ↦
          elim (cases_eq q m) [
            | inl same ↦ subst (λ r. is_ready n k r ≡ false) (sym same) quiet
            | inr other ↦ highest_none n k m q (sym (highest_below n k m quiet) ∙ is) (lower q m lt other)
          ]
    ]
  where
    lower : (q m : ℕ) → q < suc m → (q ≡ m → ⊥) → q < m
    lower q m lt d = elim (cases_lt q m) [ inl l ↦ l | inr g ↦ absurd (d (omega arith)) ]

-- quiet processes at the top aren't searched
pub highest_from : (n : Net) (k : Cut) (below m : ℕ) → below ≤ m
    → ((q : ℕ) → below ≤ q → q < m → is_ready n k q ≡ false) → highest_ready n k m ≡ highest_ready n k below
highest_from n k below zero le quiet = let same : 0 ≡ below = omega arith in ap (highest_ready n k) same
highest_from n k below (suc m) le quiet =
    elim (cases_lt m below) [
      | inl lt ↦ let same : suc m ≡ below = omega arith in ap (highest_ready n k) same
      | inr ge ↦ highest_below n k m (quiet m ge (omega arith))
          ∙ highest_from n k below m ge (λ q h l. quiet q h (omega arith))
    ]

-- Events that are left

-- how many events the first so many processes have left at a cut
abbrev pub events_left : Net → Cut → ℕ → ℕ
events_left n k zero = 0
events_left n k (suc p) = events_left n k p + (length (n.script p) - k p)

left_past : (n : Net) (k : Cut) (p m : ℕ) → m ≤ p → events_left n (advanced k p) m ≡ events_left n k m
left_past n k p zero le = refl
left_past n k p (suc m) le =
    let other : m ≡ p → ⊥ = λ e. omega arith in
    omega (arith, left_past n k p m (omega arith), advanced_there k p m other)

-- each event leaves one less
pub left_less : (n : Net) (k : Cut) (p m : ℕ) → p < m → k p < length (n.script p)
    → events_left n k m ≡ suc (events_left n (advanced k p) m)
left_less n k p zero lt inside = absurd (omega arith)
left_less n k p (suc m) lt inside =
    elim (cases_eq m p) [
      | inl e ↦
          let here : k m < length (n.script m) = subst (λ q. k q < length (n.script q)) (sym e) inside in
          omega (arith, left_past n k p m (omega arith), advanced_here k p m e)
      | inr d ↦
          let low : p < m = lower p m lt d in
          omega (arith, left_less n k p m low inside, advanced_there k p m d)
    ]
  where
    lower : (p m : ℕ) → p < suc m → (m ≡ p → ⊥) → p < m
    lower p m lt d = elim (cases_lt p m) [ inl l ↦ l | inr g ↦ absurd (d (omega arith)) ]

pub left_first : (n : Net) (m : ℕ) → events_below n m ≡ events_left n opening m
left_first n zero = refl
left_first n (suc m) = omega (arith, left_first n m)

-- The schedule

pub from_none : (n : Net) (many : ℕ) (k : Cut) → highest_ready n k n.processes ≡ None → downward_from n many k ≡ []
from_none n zero k is = refl
from_none n (suc many) k is = ap (λ o. option_map_or (λ p. p ∷ downward_from n many (advanced k p)) o []) is

pub from_some : (n : Net) (many : ℕ) (k : Cut) (p : ℕ) → highest_ready n k n.processes ≡ Some p
    → downward_from n (suc many) k ≡ p ∷ downward_from n many (advanced k p)
from_some n many k p is = ap (λ o. option_map_or (λ p. p ∷ downward_from n many (advanced k p)) o []) is

-- from this cut on the schedule has the highest ready process at each of its places, and none is ready at its end
abbrev GoesDown : Net → Cut → List ℕ → Type 0
GoesDown n k run = (i : ℕ) → i ≤ length run → slice_get run i ≡ highest_ready n (cut_after k (take i run)) n.processes

goes_nowhere : (n : Net) (k : Cut) → highest_ready n k n.processes ≡ None → GoesDown n k []
goes_nowhere n k is zero le = sym is
goes_nowhere n k is (suc i) le = absurd (omega arith)

goes_further : (n : Net) (k : Cut) (p : ℕ) (run : List ℕ) → highest_ready n k n.processes ≡ Some p
    → GoesDown n (advanced k p) run → GoesDown n k (p ∷ run)
goes_further n k p run is later zero le = sym is
goes_further n k p run is later (suc i) le = later i (omega arith)

goes_down : (n : Net) (many : ℕ) (k : Cut) → events_left n k n.processes ≤ many → GoesDown n k (downward_from n many k)
goes_down n zero k few =
    by_option (highest_ready n k n.processes) (goes_nowhere n k)
    (λ p is. (let found = highest_is n k n.processes p is in absurd
    (omega (arith, left_less n k p n.processes found.0 (ready_inside n k p found.1)))))
goes_down n (suc many) k few =
    by_option (highest_ready n k n.processes)
    (λ is. subst (GoesDown n k) (sym (from_none n (suc many) k is)) (goes_nowhere n k is))
    (λ p is.
    (let found = highest_is n k n.processes p is in
    let less = left_less n k p n.processes found.0 (ready_inside n k p found.1) in
    subst (GoesDown n k) (sym (from_some n many k p is))
    (goes_further n k p (downward_from n many (advanced k p)) is (goes_down n many (advanced k p) (omega arith)))))

pub is_downward : (n : Net) → IsDownward n (downward_schedule n)
unfolding downward_schedule
is_downward n = goes_down n (events_below n n.processes) opening (omega (arith, left_first n n.processes))

-- A run that ends all

goes_runs : (n : Net) (wired : IsWired n) (run : List ℕ) (k : Cut) → GoesDown n k run → IsCutRun (never_full n) k run
goes_runs n wired [] k goes = tt
goes_runs n wired (p ∷ run) k goes =
    let first = highest_is n k n.processes p (sym (goes 0 (omega arith))) in
    (ready_comes n wired k p first.1, goes_runs n wired run (advanced k p) (λ i le. goes (suc i) (omega arith)))

pub downward_runs : (n : Net) → IsWired n → IsCutRun (never_full n) opening (downward_schedule n)
downward_runs n wired = goes_runs n wired (downward_schedule n) opening (is_downward n)

-- Where one run that heeds no capacity ends all, this one does.
module _ (n : Net) (wired : IsWired n) (all : List ℕ) (run : IsCutRun (never_full n) opening all)
    (ends : (p : ℕ) → cut_after opening all p ≡ length (n.script p)) where
  abbrev last : Cut
  last = cut_after opening (downward_schedule n)

  none_ready : highest_ready n last n.processes ≡ None
  none_ready =
      let whole = take_all (length (downward_schedule n)) (downward_schedule n) (omega arith) in
      sym (ap (λ s. highest_ready n (cut_after opening s) n.processes) whole)
      ∙ sym (is_downward n (length (downward_schedule n)) (omega arith))
      ∙ slice_get_past (downward_schedule n) (length (downward_schedule n)) (omega arith)

  quiet : (q : ℕ) → is_ready n last q ≡ false
  quiet q =
      elim (cases_lt q n.processes) [
        | inl lt ↦ highest_none n last n.processes q none_ready lt
        | inr le ↦
            let nothing : length (n.script q) ≡ 0 = ap length (wired.bounded q le) in
            ap (could_come_at n last) (slice_get_past (n.script q) (last q) (omega arith))
      ]

  stuck : (q : ℕ) → enabled_at (never_full n) last q ≡ false
  stuck q =
      elim (cases_Bool (enabled_at (never_full n) last q)) [
        | inl on ↦
            let ready = could_come n (never_full n).capacity last (slice_get (n.script q) (last q)) on in
            let still = quiet q in
            cc
        | inr off ↦ off
      ]

  pub downward_ends : (p : ℕ) → cut_after opening (downward_schedule n) p ≡ length (n.script p)
  downward_ends p =
      let inside =
      cut_inside (never_full n) (downward_schedule n) opening (downward_runs n wired) (λ q. omega arith) p in
      let far =
      no_further (never_full n) (wired_at n (never_full n).capacity wired) all opening last
      (λ q. omega arith) stuck run p in
      omega (arith, ends p)

-- The bound of the search

put_bound : (n : Net) (p c : ℕ) (e : Event) → is_put c e ≡ true → n.reader c < bound_after n p e
put_bound n p c (Get d slot) t = cc
put_bound n p c (Fire refs) t = cc
put_bound n p c (Put d) t = let same : c ≡ d = eqb-true c d t in omega (arith, ap n.reader same)

pub past_bound : (n : Net) (p : ℕ) (e : Event) → p < bound_after n p e
past_bound n p (Get d slot) = omega arith
past_bound n p (Fire refs) = omega arith
past_bound n p (Put d) = omega arith

stays_quiet : (n : Net) (wired : IsWired n) (k : Cut) (p : ℕ) (e : Event) → slice_get (n.script p) (k p) ≡ Some e
    → (q : ℕ) (o : Option Event) → bound_after n p e ≤ q
    → slice_get (n.script q) (k q) ≡ o → could_come_at n k o ≡ false → could_come_at n (advanced k p) o ≡ false
stays_quiet n wired k p e is q None past at h = h
stays_quiet n wired k p e is q (Some (Get c slot)) past at h =
    let reader : n.reader c ≡ q = wired.get_reader q (k q) c slot at in
    let other : n.reader c ≡ p → ⊥ = λ same. omega (arith, past_bound n p e) in
    let gets = gets_mono n k (advanced k p) c (omega (arith, advanced_there k p (n.reader c) other)) in
    let puts = puts_advanced n wired k p e c is in
    let none : is_put c e ≡ false =
    elim (cases_Bool (is_put c e)) [ inl put ↦ absurd (omega (arith, put_bound n p c e put)) | inr f ↦ f ] in
    let same = ap (λ b. puts_at n k c + cond b 1 0) none in
    let before = ltb-false (gets_at n k c) (puts_at n k c) h in
    le-ltb _ _ (omega arith)
stays_quiet n wired k p e is q (Some (Fire refs)) past at h = h
stays_quiet n wired k p e is q (Some (Put c)) past at h = h

-- after an event no process past its bound has become ready
pub quiet_after : (n : Net) (wired : IsWired n) (k : Cut) (p : ℕ) (e : Event) → slice_get (n.script p) (k p) ≡ Some e
    → (q : ℕ) → bound_after n p e ≤ q
    → is_ready n k q ≡ false → is_ready n (advanced k p) q ≡ false
quiet_after n wired k p e is q past quiet =
    let other : q ≡ p → ⊥ = λ same. omega (arith, past_bound n p e) in
    ap (λ i. could_come_at n (advanced k p) (slice_get (n.script q) i)) (advanced_there k p q other)
    ∙ stays_quiet n wired k p e is q (slice_get (n.script q) (k q)) past refl quiet
