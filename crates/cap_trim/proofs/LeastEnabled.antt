-- Going on with the least enabled process, where the search needn't begin at the first one again.
--
-- Below some number no process is enabled, and the least enabled one from there on makes its event. That event frees a
-- place of a channel or fills one, so of the processes below it only the channel's other end may have become enabled:
-- at a Get its writer, at a Put its reader (`stays_shut`). The events so far are a run from where the code began, and
-- each event leaves one less. Values and slots don't come in, nor does it matter that the process is the least: any
-- enabled one would lead to the same positions.
use Rattle.std.proofs.Common.{◌≡◌, ℕ, ◌+◌, ◌-◌, ◌<◌, ◌≤◌, true, false, cond, Option, Some, None}
use Rattle.std.proofs.Common.{[], ◌∷◌, ◌++◌, length, slice_get, refl, sym, ap, ◌∙◌, subst, inl, inr, arith, ltb-false}
use Rattle.std.proofs.Common.{eqb-true}
use Rattle.std.specs.List.{find, range_with_len}
use Rattle.std.proofs.lemmas.Bool.{cases_Bool, cases_lt, le-ltb}
use Rattle.std.proofs.lemmas.Option.{slice_get_past}
use Rattle.plain_data.proofs.Lists.{find-range_with_len_none}
use Rattle.net_core.specs.declared.network.Event.{Event}
use Rattle.net_core.specs.declared.network.Event.TheVariants.{Get, Fire, Put}
use Rattle.net_core.specs.Cuts.{Cut, IsCutRun, advanced, can_come_at, cut_after, enabled_at, gets_at, puts_at}
use Rattle.net_core.specs.Machine.{Net}
use Rattle.net_core.specs.Shape.{IsWired, is_get, is_put}
use Rattle.net_core.proofs.CutOrder.{advanced_there, gets_mono, puts_mono, cut_after-append}
use Rattle.net_core.proofs.Positions.{gets_advanced, puts_advanced}
use Rattle.witness_plan.proofs.AlongCuts.{IsCutRun-append}
use Rattle.cap_trim.specs.LeastRuns.{LeadsTo, least_after}
use Rattle.cap_trim.proofs.FirstPass.{find_is, find_least}
use Rattle.cap_trim.proofs.MoreRoom.{run_roomier}

-- Runs from one cut to another

pub leads_nowhere : (n : Net) (k : Cut) → LeadsTo n k k
leads_nowhere n k = ([], tt, refl)

-- one run after another
pub leads_on : (n : Net) (k m j : Cut) → LeadsTo n k m → LeadsTo n m j → LeadsTo n k j
leads_on n k m j first later = (
  first.0 ++ later.0,
  IsCutRun-append n first.0 later.0 k first.1
      (subst (λ (c : Cut). IsCutRun n c later.0) first.2 later.1),
  later.2 ∙ ap (λ (c : Cut). cut_after c later.0) first.2 ∙ sym (cut_after-append k first.0 later.0),
)

-- one event more
pub leads_more : (n : Net) (k m : Cut) (p : ℕ) → LeadsTo n k m → enabled_at n m p ≡ true → LeadsTo n k (advanced m p)
leads_more n k m p first on = leads_on n k m (advanced m p) first (p ∷ [], (on, tt), refl)

-- the same with more room
pub leads_roomier : (n : Net) → IsWired n → (room : ℕ → ℕ) → ((c : ℕ) → c < n.channels → n.capacity c ≤ room c)
    → (k m : Cut) → LeadsTo n k m → LeadsTo (record n { capacity = room }) k m
leads_roomier n wired room more k m first =
    (first.0, run_roomier n wired room more first.0 k first.1, first.2)

-- Processes that aren't enabled

pub below_self : (n : Net) (p : ℕ) (e : Event) → least_after n p e ≤ p
below_self n p (Get c slot) = omega arith
below_self n p (Fire refs) = omega arith
below_self n p (Put c) = omega arith

-- it doesn't depend on the capacities
pub least_after_kept : (n : Net) (room : ℕ → ℕ) (p : ℕ) (e : Event)
    → least_after (record n { capacity = room }) p e ≡ least_after n p e
least_after_kept n room p (Get c slot) = refl
least_after_kept n room p (Fire refs) = refl
least_after_kept n room p (Put c) = refl

get_writer : (n : Net) (p c : ℕ) (e : Event) → is_get c e ≡ true → least_after n p e ≤ n.writer c
get_writer n p c (Get d slot) t = let same : c ≡ d = eqb-true c d t in omega (arith, ap n.writer same)
get_writer n p c (Fire refs) t = cc
get_writer n p c (Put d) t = cc

put_reader : (n : Net) (p c : ℕ) (e : Event) → is_put c e ≡ true → least_after n p e ≤ n.reader c
put_reader n p c (Get d slot) t = cc
put_reader n p c (Fire refs) t = cc
put_reader n p c (Put d) t = let same : c ≡ d = eqb-true c d t in omega (arith, ap n.reader same)

module _ (n : Net) (wired : IsWired n) (k : Cut) (p : ℕ) (e : Event)
    (is : slice_get (n.script p) (k p) ≡ Some e) where
  still_shut : (q : ℕ) (o : Option Event) → q < least_after n p e → slice_get (n.script q) (k q) ≡ o
      → can_come_at n k o ≡ false → can_come_at n (advanced k p) o ≡ false
  still_shut q None low at shut = shut
  still_shut q (Some (Get c slot)) low at shut =
      let reader : n.reader c ≡ q = wired.get_reader q (k q) c slot at in
      let apart : n.reader c ≡ p → ⊥ = λ same. omega (arith, below_self n p e) in
      let gets = gets_mono n k (advanced k p) c (omega (arith, advanced_there k p (n.reader c) apart)) in
      let none : is_put c e ≡ false =
      elim (cases_Bool (is_put c e)) [ inl put ↦ absurd (omega (arith, put_reader n p c e put)) | inr f ↦ f ] in
      let same = ap (λ b. puts_at n k c + cond b 1 0) none in
      let before = ltb-false (gets_at n k c) (puts_at n k c) shut in
      le-ltb _ _ (omega (arith, puts_advanced n wired k p e c is))
  still_shut q (Some (Fire refs)) low at shut = shut
  still_shut q (Some (Put c)) low at shut =
      let writer : n.writer c ≡ q = wired.put_writer q (k q) c at in
      let apart : n.writer c ≡ p → ⊥ = λ same. omega (arith, below_self n p e) in
      let puts = puts_mono n k (advanced k p) c (omega (arith, advanced_there k p (n.writer c) apart)) in
      let none : is_get c e ≡ false =
      elim (cases_Bool (is_get c e)) [ inl get ↦ absurd (omega (arith, get_writer n p c e get)) | inr f ↦ f ] in
      let same = ap (λ b. gets_at n k c + cond b 1 0) none in
      let before = ltb-false (puts_at n k c) (gets_at n k c + n.capacity c) shut in
      le-ltb _ _ (omega (arith, gets_advanced n wired k p e c is))

  -- below the least process that the event may have left or made enabled, none has become enabled
  pub stays_shut : (q : ℕ) → q < least_after n p e → enabled_at n k q ≡ false → enabled_at n (advanced k p) q ≡ false
  stays_shut q low shut =
      let other : q ≡ p → ⊥ = λ same. omega (arith, below_self n p e) in
      ap (λ i. can_come_at n (advanced k p) (slice_get (n.script q) i)) (advanced_there k p q other)
      ∙ still_shut q (slice_get (n.script q) (k q)) low refl shut

-- One turn of the loop: the process that is found from some number on, below which none is enabled

module _ (n : Net) (wired : IsWired n) (k : Cut) (from : ℕ) (within : from ≤ n.processes)
    (shut : (q : ℕ) → q < from → enabled_at n k q ≡ false) where
  -- it is enabled, and there
  pub found_enabled : (p : ℕ) → find (enabled_at n k) (range_with_len from (n.processes - from)) ≡ Some p
      → (p < n.processes) × (enabled_at n k p ≡ true)
  found_enabled p is =
      let found = find_is (enabled_at n k) (n.processes - from) from p is in (omega (arith, found.1), found.2)

  -- below it none is
  pub shut_below : (p : ℕ) → find (enabled_at n k) (range_with_len from (n.processes - from)) ≡ Some p
      → (q : ℕ) → q < p → enabled_at n k q ≡ false
  shut_below p is q lt =
      elim (cases_lt q from) [
        | inl low ↦ shut q low
        | inr ge ↦ find_least (enabled_at n k) (n.processes - from) from p q is ge lt
      ]

  -- nor is any below the least one that its event may have left or made enabled
  pub shut_after : (p : ℕ) (e : Event) → find (enabled_at n k) (range_with_len from (n.processes - from)) ≡ Some p
      → slice_get (n.script p) (k p) ≡ Some e → (q : ℕ) → q < least_after n p e → enabled_at n (advanced k p) q ≡ false
  shut_after p e is at q low =
      stays_shut n wired k p e at q low (shut_below p is q (omega (arith, below_self n p e)))

  -- where none is found, no process is enabled
  pub shut_all : find (enabled_at n k) (range_with_len from (n.processes - from)) ≡ None → (q : ℕ)
      → enabled_at n k q ≡ false
  shut_all is q =
      elim (cases_lt q from) [
        | inl low ↦ shut q low
        | inr ge ↦
            elim (cases_lt q n.processes) [
              | inl lt ↦ find-range_with_len_none (enabled_at n k) from (n.processes - from) is q ge (omega arith)
              | inr past ↦
                  let nothing : length (n.script q) ≡ 0 = ap length (wired.bounded q past) in
                  ap (can_come_at n k) (slice_get_past (n.script q) (k q) (omega arith))
            ]
      ]
