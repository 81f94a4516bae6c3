-- The latest Get of a slot: where Get m of a channel is into slot x, and no later Get before a place is, nor any of
-- another channel, that is the slot's latest Get there.
--
-- By induction on the place, down to Get m itself: a Get of another slot leaves what x has, and one into x would be m.
-- The three premises are what a plan of slots gives (`IsLastInto`), so nothing is known here of nests. `latest_gets`
-- is a table that goes along the script, and this reads one entry of it.
use Rattle.std.proofs.Common.{◌≡◌, ℕ, zero, suc, ◌<◌, ◌≤◌, cond, Option, Some, None, take, slice_get, count_by, refl}
use Rattle.std.proofs.Common.{sym, ap, ◌∙◌, inl, inr, arith}
use Rattle.std.specs.Prelude.{slice_set}
use Rattle.std.proofs.lemmas.Bool.{cases_eq, eq-eqb, ne_eqb}
use Rattle.net_core.specs.declared.network.Event.{Event}
use Rattle.net_core.specs.declared.network.Event.TheVariants.{Get}
use Rattle.net_core.specs.Machine.{Net}
use Rattle.net_core.specs.Names.{latest_gets, with_get}
use Rattle.net_core.specs.Shape.{is_get}
use Rattle.net_core.proofs.EventCounts.{count_next, count_none}
use Rattle.net_core.proofs.Latest.{length-latest_gets}
use Rattle.plain_data.proofs.Lists.{slice_get-set_other, slice_get-set_same}

-- Get number m of channel c is into slot x, and no later Get before place end is, nor is any of another channel.
pub record IsLastInto (n : Net) (p c m x end : ℕ) : Type 0 where
  pub there : x < n.slots p
  pub this : (k slot : ℕ) → slice_get (n.script p) k ≡ Some (Get c slot) → count_by (is_get c) (take k (n.script p)) ≡ m
      → slot ≡ x
  pub later : (k slot : ℕ) → k < end → slice_get (n.script p) k ≡ Some (Get c slot)
      → m < count_by (is_get c) (take k (n.script p)) → slot ≡ x → ⊥
  pub other : (k d slot : ℕ) → slice_get (n.script p) k ≡ Some (Get d slot) → (d ≡ c → ⊥) → slot ≡ x → ⊥

module _ (n : Net) (p c m x end : ℕ) (is : IsLastInto n p c m x end) where
  after : (k : ℕ) (e : Option Event) → k < end → slice_get (n.script p) k ≡ e
      → m < count_by (is_get c) (take (suc k) (n.script p))
      → (m < count_by (is_get c) (take k (n.script p)) → slice_get (latest_gets n p k) x ≡ Some (Some (c, m)))
      → slice_get (with_get n p k e (latest_gets n p k)) x ≡ Some (Some (c, m))
  after k None below e got before = before (omega (arith, count_none (is_get c) (n.script p) k e))
  after k (Some (Get d slot)) below e got before =
      let slots = latest_gets n p k in
      let new : Option (ℕ × ℕ) = Some (d, count_by (is_get d) (take k (n.script p))) in
      let counted = count_next (is_get c) (n.script p) k (Get d slot) e in
      elim (cases_eq c d) [
        | inl same ↦
            let this : slice_get (n.script p) k ≡ Some (Get c slot) = e ∙ ap (λ b. Some (Get b slot)) (sym same) in
            let one = ap (λ b. cond {A = ℕ} b 1 0) (eq-eqb c d same) in
            elim (cases_eq (count_by (is_get c) (take k (n.script p))) m) [
              | inl here ↦
                  let into : slot ≡ x = is.this k slot this here in
                  ap (λ s. slice_get (slice_set slots s new) x) into
                  ∙ slice_get-set_same slots x new (omega (arith, is.there, length-latest_gets n p k))
                  ∙ ap (λ b. Some (Some (b, count_by (is_get b) (take k (n.script p))))) (sym same)
                  ∙ ap (λ i. Some (Some (c, i))) here
              | inr past ↦
                  let more : m < count_by (is_get c) (take k (n.script p)) = omega (arith, counted, one) in
                  slice_get-set_other slots slot x new (λ into. is.later k slot below this more (sym into))
                  ∙ before more
            ]
        | inr apart ↦
            let none = ap (λ b. cond {A = ℕ} b 1 0) (ne_eqb c d apart) in
            slice_get-set_other slots slot x new (λ into. is.other k d slot e (λ same. apart (sym same)) (sym into))
            ∙ before (omega (arith, counted, none))
      ]
  after k (Some x) below e got before = before (omega (arith, count_next (is_get c) (n.script p) k x e))

  -- so it is the latest Get of the slot
  pub latest : (k : ℕ) → k ≤ end → m < count_by (is_get c) (take k (n.script p))
      → slice_get (latest_gets n p k) x ≡ Some (Some (c, m))
  latest zero le got = absurd (omega arith)
  latest (suc k) le got =
      after k (slice_get (n.script p) k) (omega arith) refl got (λ more. latest k (omega arith) more)
