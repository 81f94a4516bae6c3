-- The search for a channel's least capacity goes up, each time on from where the capacity before it stuck.
--
-- When a capacity's turn comes, the events so far are a run of the network with it, and no lesser capacity will do. The
-- network goes on until no process is enabled, so the positions are those at rest with this capacity. If all scripts
-- are at their ends, it is the least one. If not, the network doesn't end with it, and the run is one with the next
-- capacity too, since more room does no harm. All tries together are one run. Whether the network ends with the
-- channel's own capacity isn't asked: where no lesser one will do, that is kept.
use Rattle.std.proofs.Common.{◌≡◌, ℕ, zero, suc, ◌+◌, ◌<◌, ◌≤◌, true, false, List, [], ◌∷◌, set, length, get_or}
use Rattle.std.proofs.Common.{refl, sym, ap, ◌∙◌, subst, inl, inr, arith, get_or-set_other, get_or-set_same}
use Rattle.std.proofs.lemmas.Bool.{cases_Bool, cases_eq, cases_lt}
use mathlib.Core.Path.{fun_ext}
use Rattle.net_core.specs.Cuts.{Cut, enabled_at, opening}
use Rattle.net_core.specs.Machine.{Net, replaced}
use Rattle.net_core.specs.Shape.{IsWired}
use Rattle.net_core.proofs.EventCounts.{replaced_same, replaced_other}
use Rattle.witness_plan.proofs.OtherCapacities.{wired_at}
use Rattle.cap_trim.specs.Capacities.{least_capacity, with_capacity, with_room}
use Rattle.net_core.specs.Progress.{IsProgress, at_capacities, cut_of}
use Rattle.cap_trim.specs.LeastRuns.{LeadsTo}
use Rattle.net_core.specs.declared.progress.Progress.{Progress}
use Rattle.cap_trim.specs.Rests.{can_end}
use Rattle.cap_trim.proofs.AtRest.{can_end_by, cut_at_rest, cuts_at_rest, ends_at_rest}
use Rattle.cap_trim.proofs.LeastEnabled.{leads_nowhere, leads_on, leads_roomier}
use Rattle.cap_trim.proofs.LeastCapacities.{least_is, least_is_own}

pub set_twice : (xs : List ℕ) (i a b : ℕ) → set (set xs i a) i b ≡ set xs i b
set_twice [] i a b = refl
set_twice (x ∷ xs) zero a b = refl
set_twice (x ∷ xs) (suc i) a b = ap (λ (l : List ℕ). x ∷ l) (set_twice xs i a b)

-- a list of capacities with one replaced
pub list_replaced : (capacities : List ℕ) (c a : ℕ) → c < length capacities
    → (λ d. get_or (set capacities c a) d 0) ≡ replaced (λ d. get_or capacities d 0) c a
list_replaced capacities c a lt =
    fun_ext (λ d. elim (cases_eq d c) [
      | inl same ↦
          ap (λ i. get_or (set capacities c a) i 0) same ∙ get_or-set_same capacities c a 0 lt
          ∙ sym (replaced_same (λ i. get_or capacities i 0) c a d same)
      | inr other ↦
          get_or-set_other capacities c d a 0 other ∙ sym (replaced_other (λ i. get_or capacities i 0) c a d other)
    ])

pub at_replaced : (n : Net) (capacities : List ℕ) (c a : ℕ) → c < length capacities
    → at_capacities n (set capacities c a) ≡ with_capacity (at_capacities n capacities) c a
at_replaced n capacities c a lt = ap (with_room n) (list_replaced capacities c a lt)

-- Channel c's turn has come to capacity a: no lesser one will do, and the events so far are a run with a.
pub record IsTrying (n : Net) (capacities : List ℕ) (c a : ℕ) (progress : Progress) (now : List ℕ) : Type 0 where
  pub others : (b : ℕ) → set now c b ≡ set capacities c b
  pub kept : IsProgress n progress
  pub run : LeadsTo (with_capacity (at_capacities n capacities) c a) opening (cut_of progress)
  pub less : (b : ℕ) → b < a → can_end (with_capacity (at_capacities n capacities) c b) ≡ false

module _ (n : Net) (wired : IsWired n) (capacities : List ℕ) (c : ℕ) (there : c < length capacities) where
  abbrev base : Net
  base = at_capacities n capacities

  tried_wired : (a : ℕ) → IsWired (with_capacity base c a)
  tried_wired a = wired_at n (with_capacity base c a).capacity wired

  -- more room for c
  roomier : (a : ℕ) (d : ℕ) → (with_capacity base c a).capacity d ≤ (with_capacity base c (a + 1)).capacity d
  roomier a d =
      elim (cases_eq d c) [
        | inl same ↦ omega (arith, replaced_same base.capacity c a d same, replaced_same base.capacity c (a + 1) d same)
        | inr other ↦
            omega (arith, replaced_other base.capacity c a d other, replaced_other base.capacity c (a + 1) d other)
      ]

  -- nothing was tried yet
  pub trying_first : (progress : Progress) → IsProgress n progress → cut_of progress ≡ opening
      → IsTrying n capacities c 0 progress capacities
  trying_first progress good at = record {
    others = λ b. refl;
    kept = good;
    run = subst (λ (k : Cut). LeadsTo (with_capacity base c 0) opening k) (sym at)
        (leads_nowhere (with_capacity base c 0) opening);
    less = λ b lt. absurd (omega arith);
  }

  -- the network has gone on with capacity a until nobody may
  module _ (a : ℕ) (progress : Progress) (now : List ℕ) (trying : IsTrying n capacities c a progress now)
      (next : Progress) (run : LeadsTo (at_capacities n (set now c a)) (cut_of progress) (cut_of next))
      (stuck : (q : ℕ) → enabled_at (at_capacities n (set now c a)) (cut_of next) q ≡ false) where
    same : at_capacities n (set now c a) ≡ with_capacity base c a
    same = ap (at_capacities n) (trying.others a) ∙ at_replaced n capacities c a there

    whole : LeadsTo (with_capacity base c a) opening (cut_of next)
    whole =
        leads_on (with_capacity base c a) opening (cut_of progress) (cut_of next) trying.run
        (subst (λ (m : Net). LeadsTo m (cut_of progress) (cut_of next)) same run)

    shut : (q : ℕ) → enabled_at (with_capacity base c a) (cut_of next) q ≡ false
    shut q = ap (λ (m : Net). enabled_at m (cut_of next) q) (sym same) ∙ stuck q

    at_rest : (q : ℕ) → cut_of next q ≡ cut_at_rest (with_capacity base c a) (tried_wired a) q
    at_rest q =
        ap (λ (k : Cut). k q) whole.2
        ∙ cuts_at_rest (with_capacity base c a) (tried_wired a) whole.0 whole.1
        (λ r. ap (λ (k : Cut). enabled_at (with_capacity base c a) k r) (sym whole.2) ∙ shut r) q

    -- where a script isn't at its end, the network doesn't end with this capacity
    not_with : (((p : ℕ) → cut_of next p ≡ length (n.script p)) → ⊥) → can_end (with_capacity base c a) ≡ false
    not_with unended =
        elim (cases_Bool (can_end (with_capacity base c a))) [
          | inl on ↦
              absurd (unended (λ p. at_rest p ∙ ends_at_rest (with_capacity base c a) (tried_wired a) on p))
          | inr off ↦ off
        ]

    -- so it is the next one's turn
    pub trying_more : IsProgress n next → (((p : ℕ) → cut_of next p ≡ length (n.script p)) → ⊥)
        → IsTrying n capacities c (a + 1) next (set now c a)
    trying_more good unended = record {
      others = λ b. set_twice now c a b ∙ trying.others b;
      kept = good;
      run = leads_roomier (with_capacity base c a) (tried_wired a) (with_capacity base c (a + 1)).capacity
          (λ d lt. roomier a d) opening (cut_of next) whole;
      less = λ b lt. elim (cases_lt b a) [
        | inl low ↦ trying.less b low
        | inr ge ↦
            let here : b ≡ a = omega arith in
            ap (λ i. can_end (with_capacity base c i)) here ∙ not_with unended
      ];
    }

    -- where all are at their ends, it is the least capacity
    pub least_found : a < get_or capacities c 0 → ((p : ℕ) → cut_of next p ≡ length (n.script p))
        → set now c a ≡ set capacities c (least_capacity base c)
    least_found lt ended =
        let does : can_end (with_capacity base c a) ≡ true =
        can_end_by (with_capacity base c a) (tried_wired a) whole.0 whole.1
        (λ p. ap (λ (k : Cut). k p) (sym whole.2) ∙ ended p) in
        trying.others a ∙ ap (set capacities c) (sym (least_is base c a (omega arith) does trying.less))

  -- where no lesser one will do, its own is the least capacity
  pub least_own : (progress : Progress) (now : List ℕ) → IsTrying n capacities c (get_or capacities c 0) progress now
      → set now c (get_or capacities c 0) ≡ set capacities c (least_capacity base c)
  least_own progress now trying =
      trying.others (get_or capacities c 0) ∙ ap (set capacities c) (sym (least_is_own base c trying.less))
