-- An edge of the design that stands for a state leads to the design that stands for the state after a clock.
--
-- A node reads the event that its process makes next, and steps where this is enabled: the wires say of a channel
-- what the machine asks of its queue. So each node's registers go as its process's part (`node_alike`), and a
-- channel is asked for its front or offered a token by a node that steps exactly where a process gets or puts
-- (`asked_alike`, `offered_alike`). It holds of every state, given that the sequencers read the scripts.
use Rattle.std.proofs.Common.{◌≡◌, ℕ, suc, Bool, true, false, ◌&&◌, eqb, nat_lt, Option, Some, None, List, [], ◌∷◌}
use Rattle.std.proofs.Common.{◌++◌, length, drop, if◌then◌else◌, option_to_list, refl, sym, ap, ap₂, ◌∙◌, inl, inr, arith}
use Rattle.std.proofs.Common.{append-nil, eqb-true, length-append}
use Rattle.std.proofs.lemmas.Bool.{cases_Bool}
use mathlib.Core.Path.{fun_ext}
use Rattle.plain_data.proofs.Tests.{and-true}
use Rattle.net_core.specs.declared.network.Event.{Event}
use Rattle.net_core.specs.declared.network.Event.TheVariants.{Get, Fire, Put}
use Rattle.net_core.specs.Machine.{Net, State, Rule, next, can_come, enabled, front, last_of}
use Rattle.net_core.specs.Shape.{is_get, is_put}
use Rattle.design_clocks.specs.Registers.{Controls, Design, edge, event_at, event_if, fire_at, node_after}
use Rattle.design_clocks.specs.Clocked.{GiveScripts, after_steps, design_of, registers_of}
use Rattle.design_clocks.proofs.Controls.{reads_script}
use Rattle.design_clocks.proofs.OneClock.{does, local_moved, made, moved}

-- the value fired last

pub last_append : {T : Type 0} (kept : List T) (x : T) → last_of (kept ++ x ∷ []) ≡ x ∷ []
last_append [] x = refl
last_append (y ∷ []) x = refl
last_append (y ∷ (z ∷ kept)) x = last_append (z ∷ kept) x

pub last_alike : {T : Type 0} (kept : List T) → option_to_list (front (last_of kept)) ≡ last_of kept
last_alike [] = refl
last_alike (x ∷ []) = refl
last_alike (x ∷ (y ∷ kept)) = last_alike (y ∷ kept)

-- Tests of an event

and_false : (b : Bool) → b && false ≡ false
and_false true = refl
and_false false = refl

-- an event that is made where this is true passes a test where both are
made_passes : (test : Event → Bool) (e : Event) (b : Bool)
    → test e && b ≡ does test (if b then Some e else None)
made_passes test e true = and-true (test e)
made_passes test e false = and_false (test e)

-- what holds of a number holds of the same one
same_number : (c d : ℕ) (test : ℕ → Bool) → eqb c d && test c ≡ eqb c d && test d
same_number c d test =
    elim (cases_Bool (eqb c d)) [
      | inl here ↦ ap (λ (x : ℕ). eqb c d && test x) (eqb-true c d here)
      | inr other ↦ ap (λ (b : Bool). b && test c) other ∙ sym (ap (λ (b : Bool). b && test d) other)
    ]

-- the event that a process makes, where this is its next one
abbrev made_of : {T : Type 0} → Net → State T → Option Event → Option Event
made_of n s o = if can_come n s o then o else None

module _ {T : Type 0} (n : Net) (controls : Controls) (rule : Rule T) (s : State T) where
  node_alike : (p : ℕ) (o : Option Event)
      → node_after n (controls p) rule (design_of controls s) p o
      ≡ registers_of (controls p) (local_moved rule s p (made_of n s o))
  node_alike p None = refl
  node_alike p (Some (Get c slot)) =
      elim (cases_Bool (nat_lt 0 (length (s.queue c)))) [ inl on ↦ rw on refl | inr off ↦ rw off refl ]
  node_alike p (Some (Fire refs)) =
      let l = s.local p in
      let x = rule p (length l.kept) refs l.slots in
      let counted : suc (length l.kept) ≡ length (l.kept ++ x ∷ []) = omega (arith, length-append l.kept (x ∷ [])) in
      let last : Some x ≡ front (last_of (l.kept ++ x ∷ [])) = ap front (sym (last_append l.kept x)) in
      λ i. record {
        control = after_steps (controls p) (suc l.position);
        slots = l.slots;
        turn = counted i;
        fired = last i;
      }
  node_alike p (Some (Put c)) =
      elim (cases_Bool (nat_lt (length (s.queue c)) (n.capacity c))) [ inl on ↦ rw on refl | inr off ↦ rw off refl ]

  asked_alike : (c : ℕ) (o : Option Event)
      → does (is_get c) o && nat_lt 0 (length (s.queue c)) ≡ does (is_get c) (made_of n s o)
  asked_alike c None = refl
  asked_alike c (Some (Get d slot)) =
      same_number c d (λ x. nat_lt 0 (length (s.queue x)))
      ∙ made_passes (is_get c) (Get d slot) (nat_lt 0 (length (s.queue d)))
  asked_alike c (Some (Fire refs)) = refl
  asked_alike c (Some (Put d)) = made_passes (is_get c) (Put d) (nat_lt (length (s.queue d)) (n.capacity d))

  offered_alike : (c : ℕ) (o : Option Event)
      → does (is_put c) o && nat_lt (length (s.queue c)) (n.capacity c) ≡ does (is_put c) (made_of n s o)
  offered_alike c None = refl
  offered_alike c (Some (Get d slot)) = made_passes (is_put c) (Get d slot) (nat_lt 0 (length (s.queue d)))
  offered_alike c (Some (Fire refs)) = refl
  offered_alike c (Some (Put d)) =
      same_number c d (λ x. nat_lt (length (s.queue x)) (n.capacity x))
      ∙ made_passes (is_put c) (Put d) (nat_lt (length (s.queue d)) (n.capacity d))

  -- what the process of a node has kept after a clock
  kept_alike : (p : ℕ) (o : Option Event)
      → (s.local p).kept ++ option_to_list (fire_at rule (design_of controls s) p o)
      ≡ (local_moved rule s p (made_of n s o)).kept
  kept_alike p None = append-nil (s.local p).kept
  kept_alike p (Some (Get c slot)) =
      append-nil (s.local p).kept
      ∙ elim (cases_Bool (nat_lt 0 (length (s.queue c)))) [ inl on ↦ rw on refl | inr off ↦ rw off refl ]
  kept_alike p (Some (Fire refs)) = refl
  kept_alike p (Some (Put c)) =
      append-nil (s.local p).kept
      ∙ elim (cases_Bool (nat_lt (length (s.queue c)) (n.capacity c))) [ inl on ↦ rw on refl | inr off ↦ rw off refl ]

-- the processes that step at a clock at which process p may step if `may p`
abbrev pub who_steps : {T : Type 0} → Net → (ℕ → Bool) → State T → ℕ → Bool
who_steps n may s p = may p && enabled n s p

module _ {T : Type 0} (n : Net) (controls : Controls) (give : GiveScripts n controls) (rule : Rule T) (s : State T)
  where
    -- a node stands at its process's next event
    pub event_alike : (p : ℕ) → event_at controls (design_of controls s) p ≡ next n s p
    event_alike p = reads_script n controls give p (s.local p).position

module _ {T : Type 0} (n : Net) (controls : Controls) (give : GiveScripts n controls) (rule : Rule T)
    (may : ℕ → Bool) (s : State T) where
  abbrev event_then : ℕ → Option Event
  event_then p = if may p then next n s p else None

  held_alike : (p : ℕ) → event_if controls may (design_of controls s) p ≡ event_then p
  held_alike p = ap (λ (o : Option Event). if may p then o else None) (event_alike n controls give rule s p)

  -- what is held back isn't made
  made_alike : (p : ℕ) → made_of n s (event_then p) ≡ made n s (who_steps n may s) p
  made_alike p =
      elim (cases_Bool (may p)) [
        | inl on ↦
            ap (λ (b : Bool). made_of n s (if b then next n s p else None)) on
            ∙ sym (ap (λ (b : Bool). if b && enabled n s p then next n s p else None) on)
        | inr off ↦
            ap (λ (b : Bool). made_of n s (if b then next n s p else None)) off
            ∙ sym (ap (λ (b : Bool). if b && enabled n s p then next n s p else None) off)
      ]

  abbrev behind_edge : Design T
  behind_edge = edge n controls rule may (design_of controls s)

  abbrev behind_clock : State T
  behind_clock = moved n rule s (made n s (who_steps n may s))

  node_edge : (p : ℕ) → behind_edge.node p ≡ registers_of (controls p) (behind_clock.local p)
  node_edge p =
      ap (node_after n (controls p) rule (design_of controls s) p) (held_alike p)
      ∙ node_alike n controls rule s p (event_then p)
      ∙ ap (λ (o : Option Event). registers_of (controls p) (local_moved rule s p o)) (made_alike p)

  fifo_edge : (c : ℕ) → behind_edge.fifo c ≡ behind_clock.queue c
  fifo_edge c =
      let kept = (s.local (n.writer c)).kept in
      let valid = nat_lt 0 (length (s.queue c)) in
      let ready = nat_lt (length (s.queue c)) (n.capacity c) in
      let got = does (is_get c) (made n s (who_steps n may s) (n.reader c)) in
      let put = does (is_put c) (made n s (who_steps n may s) (n.writer c)) in
      ap₂ (λ (asked offered : Bool).
      (if asked then drop 1 (s.queue c) else s.queue c)
      ++ (if offered then option_to_list (front (last_of kept)) else []))
      (ap (λ (o : Option Event). does (is_get c) o && valid) (held_alike (n.reader c))
      ∙ asked_alike n controls rule s c (event_then (n.reader c)) ∙ ap (does (is_get c)) (made_alike (n.reader c)))
      (ap (λ (o : Option Event). does (is_put c) o && ready) (held_alike (n.writer c))
      ∙ offered_alike n controls rule s c (event_then (n.writer c)) ∙ ap (does (is_put c)) (made_alike (n.writer c)))
      ∙ ap (λ (last : List T). (if got then drop 1 (s.queue c) else s.queue c) ++ (if put then last else []))
      (last_alike kept)

  pub edge_alike : behind_edge ≡ design_of controls behind_clock
  edge_alike =
      let nodes = fun_ext node_edge in
      let fifos = fun_ext fifo_edge in
      λ i. record { node = nodes i; fifo = fifos i }

  -- what a node fires at an edge its process keeps in the clock
  pub fire_alike : (p : ℕ)
      → (s.local p).kept
      ++ option_to_list (fire_at rule (design_of controls s) p (event_if controls may (design_of controls s) p))
      ≡ (behind_clock.local p).kept
  fire_alike p =
      ap (λ (o : Option Event). (s.local p).kept ++ option_to_list (fire_at rule (design_of controls s) p o))
      (held_alike p)
      ∙ kept_alike n controls rule s p (event_then p)
      ∙ ap (λ (o : Option Event). (local_moved rule s p o).kept) (made_alike p)
