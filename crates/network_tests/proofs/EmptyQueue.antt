-- The network of the tests is shaped for its points and fits its numbers.
--
-- It has two events, the fire of process 0 and the Get of process 1 (`event_at`), so what is said of every event is
-- said of these two.
use Rattle.std.proofs.Common.{◌≡◌, ◌⊎◌, ℕ, zero, suc, ◌<◌, ◌≤◌, List, [], Some, slice_get, count_by, refl, sym, ap, ◌∙◌}
use Rattle.std.proofs.Common.{subst, inl, inr, arith}
use Rattle.std.specs.Prelude.{All}
use Rattle.net_core.specs.declared.network.Event.{Event}
use Rattle.net_core.specs.declared.network.Event.TheVariants.{Get, Fire, Put}
use Rattle.net_core.specs.declared.refs.Ref.{Ref}
use Rattle.net_core.specs.Machine.{Net, net_of}
use Rattle.net_core.specs.Shape.{is_any_get, is_fire, turns, IsWithin, IsWired, IsShaped, FitsNumbers}
use Rattle.network_tests.specs.Examples.{starved, starved_points}

abbrev net : Net
net = net_of starved

event_at : (p k : ℕ) (e : Event) → slice_get (net.script p) k ≡ Some e
    → ((p ≡ 0) × (e ≡ Fire [])) ⊎ ((p ≡ 1) × (e ≡ Get 0 0))
event_at zero zero e is = inl (refl, cc)
event_at zero (suc k) e is = absurd (cc)
event_at (suc zero) zero e is = inr (refl, cc)
event_at (suc zero) (suc k) e is = absurd (cc)
event_at (suc (suc p)) k e is = absurd (cc)

bounded : (p : ℕ) → net.processes ≤ p → net.script p ≡ []
bounded zero le = absurd (omega arith)
bounded (suc zero) le = absurd (omega arith)
bounded (suc (suc p)) le = refl

writers : (c : ℕ) → c < net.channels → net.writer c < net.processes
writers zero lt = omega arith
writers (suc c) lt = absurd (omega arith)

readers : (c : ℕ) → c < net.channels → net.reader c < net.processes
readers zero lt = omega arith
readers (suc c) lt = absurd (omega arith)

module _ (p k c slot : ℕ) (is : slice_get (net.script p) k ≡ Some (Get c slot)) where
  the_get : (p ≡ 1) × (c ≡ 0) × (slot ≡ 0)
  the_get =
      elim (event_at p k (Get c slot) is) [
        | inl h ↦ (let other : Get c slot ≡ Fire [] = h.1 in absurd (cc))
        | inr h ↦ (let same : Get c slot ≡ Get 0 0 = h.1 in (h.0, cc, cc))
      ]

  get_channel : c < net.channels
  get_channel = omega (arith, the_get.1)

  get_reader : net.reader c ≡ p
  get_reader = ap net.reader the_get.1 ∙ sym the_get.0

  get_slot : slot < net.slots p
  get_slot =
      let last : slot < net.slots 1 = omega (arith, the_get.2) in
      subst (λ (q : ℕ). slot < net.slots q) (sym the_get.0) last

no_put : (p k c : ℕ) → slice_get (net.script p) k ≡ Some (Put c) → ⊥
no_put p k c is =
    elim (event_at p k (Put c) is) [
      | inl h ↦ (let other : Put c ≡ Fire [] = h.1 in cc)
      | inr h ↦ (let other : Put c ≡ Get 0 0 = h.1 in cc)
    ]

references : (p k : ℕ) (refs : List Ref) → slice_get (net.script p) k ≡ Some (Fire refs)
    → All (IsWithin (net.slots p)) refs
references p k refs is =
    elim (event_at p k (Fire refs) is) [
      | inl h ↦
          let same : Fire refs ≡ Fire [] = h.1 in
          let none : refs ≡ [] = cc in
          subst (λ (rs : List Ref). All (IsWithin (net.slots p)) rs) (sym none) (λ k d lt. absurd (omega arith))
      | inr h ↦ (let other : Fire refs ≡ Get 0 0 = h.1 in absurd (cc))
    ]

pub wired : IsWired net
wired = record {
  bounded = bounded;
  writers = writers;
  readers = readers;
  get_channel = get_channel;
  get_reader = get_reader;
  get_slot = get_slot;
  put_channel = λ p k c is. absurd (no_put p k c is);
  put_writer = λ p k c is. absurd (no_put p k c is);
  put_fired = λ p k c is. absurd (no_put p k c is);
  reference_slots = references;
}

fires : (p : ℕ) → count_by is_fire (net.script p) ≡ turns starved_points p
fires zero = refl
fires (suc zero) = refl
fires (suc (suc p)) = refl

few_slots : (p : ℕ) → net.slots p ≤ count_by is_any_get (net.script p)
few_slots zero = omega arith
few_slots (suc zero) = omega arith
few_slots (suc (suc p)) = omega arith

pub shaped : IsShaped net starved_points
shaped = record { processes = refl; wired = wired; turns = fires; few_slots = few_slots }

pub numbers : FitsNumbers net
numbers = record { processes = omega arith; channels = omega arith; events = omega arith }
