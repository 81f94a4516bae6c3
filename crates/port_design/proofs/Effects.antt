-- What a run of events does to one thing in a state, where at most one event of the run changes it.
--
-- An event comes at most once. So where the one place whose event changes the thing has come before the run,
-- nothing does (`unchanged`), and where it comes in the run, the thing is changed once (`changed`), whatever comes
-- before or behind it. Where no event of the run changes it, it stays as it is (`still`).
use Rattle.std.proofs.Common.{◌≡◌, ℕ, Bool, true, false, List, [], ◌∷◌, ap, ap₂, sym, subst, ◌∙◌, refl, inl, inr}
use Rattle.std.specs.List.{filter}
use Rattle.std.proofs.lemmas.Bool.{both_ways, cases_Bool, cases_eq, cond-true, cond-false}
use Rattle.net_core.specs.Machine.{Net, Rule}
use Rattle.port_runs.specs.Ports.{IsPortRun, EventPlace, PortState, may_come_at, port_after, port_step}
use Rattle.port_runs.proofs.DueEvents.{place_grows, place_here, place_other}
use Rattle.port_runs.proofs.PortSteps.{coming}

-- something holds of each place of a run
abbrev pub Each : (EventPlace → Type 0) → List EventPlace → Type 0
Each P [] = Unit {0}
Each P (at ∷ run) = P at × Each P run

pub each_passes : (test : EventPlace → Bool) (run : List EventPlace) → Each (λ at. test at ≡ true) (filter test run)
each_passes test [] = tt
each_passes test (at ∷ run) =
    elim (cases_Bool (test at)) [
      | inl on ↦
          subst (λ r. Each (λ at. test at ≡ true) r) (sym (cond-true (test at) (at ∷ filter test run) (filter test run) on))
          (on, each_passes test run)
      | inr off ↦
          subst (λ r. Each (λ at. test at ≡ true) r) (sym (cond-false (test at) (at ∷ filter test run) (filter test run) off))
          (each_passes test run)
    ]

module _ {T X : Type 0} (n : Net) (rule : Rule T) (Ok : EventPlace → Type 0) (f : PortState T → X) where
  pub still : ((s : PortState T) (at : EventPlace) → Ok at → may_come_at n s at ≡ true → f (port_step n rule s at) ≡ f s)
      → (run : List EventPlace) (s : PortState T) → IsPortRun n rule s run → Each Ok run
      → f (port_after n rule s run) ≡ f s
  still same [] s is each = refl
  still same (at ∷ run) s is each = still same run (port_step n rule s at) is.1 each.1 ∙ same s at each.0 is.0

  module _ (p k : ℕ) (g : X → X)
      (there : (s : PortState T) (at : EventPlace) → Ok at → may_come_at n s at ≡ true
      → (at.0 ≡ p → at.1 ≡ k → ⊥) → f (port_step n rule s at) ≡ f s)
      (here : (s : PortState T) (at : EventPlace) → Ok at → may_come_at n s at ≡ true → at.0 ≡ p → at.1 ≡ k
      → f (port_step n rule s at) ≡ g (f s)) where
    pub unchanged : (run : List EventPlace) (s : PortState T) → IsPortRun n rule s run → Each Ok run
        → s.has_come p k ≡ true
        → f (port_after n rule s run) ≡ f s
    unchanged [] s is each came = refl
    unchanged (at ∷ run) s is each came =
        let c = coming n s at.0 at.1 is.0 in
        let other = λ (sp : at.0 ≡ p) (sk : at.1 ≡ k).
        both_ways (s.has_come at.0 at.1) c.new (ap₂ (λ u w. s.has_come u w) sp sk ∙ came) in
        unchanged run (port_step n rule s at) is.1 each.1 (place_grows s.has_come at.0 at.1 p k came)
        ∙ there s at each.0 is.0 other

    pub changed : (run : List EventPlace) (s : PortState T) → IsPortRun n rule s run → Each Ok run
        → s.has_come p k ≡ false
        → (port_after n rule s run).has_come p k ≡ true → f (port_after n rule s run) ≡ g (f s)
    changed [] s is each new came = absurd (both_ways (s.has_come p k) new came)
    changed (at ∷ run) s is each new came =
        let t = port_step n rule s at in
        let rest : t.has_come p k ≡ false → f (port_after n rule t run) ≡ g (f t) =
        λ new'. changed run t is.1 each.1 new' came in
        elim (cases_eq p at.0) [
          | inl sp ↦
              elim (cases_eq k at.1) [
                | inl sk ↦
                    unchanged run t is.1 each.1 (place_here s.has_come at.0 at.1 p k sp sk)
                    ∙ here s at each.0 is.0 (sym sp) (sym sk)
                | inr dk ↦ later rest (λ _ sk. dk sk)
              ]
          | inr dp ↦ later rest (λ sp _. dp sp)
        ]
      where
        later : ((port_step n rule s at).has_come p k ≡ false
            → f (port_after n rule (port_step n rule s at) run) ≡ g (f (port_step n rule s at)))
            → (p ≡ at.0 → k ≡ at.1 → ⊥) → f (port_after n rule s (at ∷ run)) ≡ g (f s)
        later rest other =
            rest (place_other s.has_come at.0 at.1 p k other ∙ new)
            ∙ ap g (there s at each.0 is.0 (λ sp sk. other (sym sp) (sym sk)))

-- what passes no test doesn't come
pub come_other : {T : Type 0} (n : Net) (rule : Rule T) (test : EventPlace → Bool) (p k : ℕ) → test (p, k) ≡ false
    → (run : List EventPlace) (s : PortState T)
    → (port_after n rule s (filter test run)).has_come p k ≡ s.has_come p k
come_other n rule test p k off [] s = refl
come_other n rule test p k off (at ∷ run) s =
    elim (cases_Bool (test at)) [
      | inl on ↦
          let other = λ (sp : p ≡ at.0) (sk : k ≡ at.1).
          both_ways (test (p, k)) off (ap₂ (λ u w. test (u, w)) sp sk ∙ on) in
          ap (λ (r : List EventPlace). (port_after n rule s r).has_come p k)
          (cond-true (test at) (at ∷ filter test run) (filter test run) on)
          ∙ come_other n rule test p k off run (port_step n rule s at)
          ∙ place_other s.has_come at.0 at.1 p k other
      | inr off' ↦
          ap (λ (r : List EventPlace). (port_after n rule s r).has_come p k)
          (cond-false (test at) (at ∷ filter test run) (filter test run) off')
          ∙ come_other n rule test p k off run s
    ]
