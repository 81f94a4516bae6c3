-- A channel without room is never put to, so a network with a Put there doesn't end.
--
-- A Put comes only where its queue is shorter than the capacity, and no length is below 0 (`no_put`). So no step
-- of a run adds a Put to the channel, and there are none at its end, by induction on the run (`no_puts`). A run
-- that ends all has made each event of the writer's script, so its script has no such Put. That a channel with
-- room is put to isn't said.
use Rattle.std.proofs.Common.{◌≡◌, ℕ, ◌+◌, true, false, cond, eqb, Option, Some, None, List, [], ◌∷◌, length, take}
use Rattle.std.proofs.Common.{count_by, refl, sym, ap, ◌∙◌, inl, inr, arith, ltb-true, eqb-true}
use Rattle.std.proofs.lemmas.Bool.{cases_Bool}
use Rattle.std.proofs.lemmas.List.{take_all}
use Rattle.net_core.specs.declared.network.Event.{Event}
use Rattle.net_core.specs.declared.network.Event.TheVariants.{Get, Fire, Put}
use Rattle.net_core.specs.Cuts.{Cut, advanced, positions, puts_at}
use Rattle.net_core.specs.Machine.{Net, Rule, State, start, next, can_come, step, after, IsRun}
use Rattle.net_core.specs.Orders.{EndsAll, reached}
use Rattle.net_core.specs.Shape.{IsWired, is_put, put_count}
use Rattle.net_core.proofs.Positions.{positions_step, puts_advanced}

module _ {T : Type 0} (n : Net) (rule : Rule T) (wired : IsWired n) (c : ℕ) (full : n.capacity c ≡ 0) where
  no_put : (s : State T) (e : Event) → can_come n s (Some e) ≡ true → is_put c e ≡ false
  no_put s (Get d slot) on = refl
  no_put s (Fire refs) on = refl
  no_put s (Put d) on =
      elim (cases_Bool (eqb c d)) [
        | inl same ↦
            let this : c ≡ d = eqb-true c d same in
            let room = ltb-true (length (s.queue d)) (n.capacity d) on in
            absurd (omega (arith, ap n.capacity this, full, room))
        | inr other ↦ other
      ]

  same_puts : (s : State T) (p : ℕ) (o : Option Event) → next n s p ≡ o → can_come n s o ≡ true
      → puts_at n (advanced (positions s) p) c ≡ puts_at n (positions s) c
  same_puts s p None is on = absurd (cc)
  same_puts s p (Some e) is on =
      let none = ap (λ b. puts_at n (positions s) c + cond b 1 0) (no_put s e on) in
      omega (arith, puts_advanced n wired (positions s) p e c is, none)

  no_puts : (run : List ℕ) (s : State T) → IsRun n rule s run → puts_at n (positions s) c ≡ 0
      → puts_at n (positions (after n rule s run)) c ≡ 0
  no_puts [] s is none = none
  no_puts (p ∷ run) s is none =
      no_puts run (step n rule s p) is.1
      (ap (λ (k : Cut). puts_at n k c) (positions_step n rule s p is.0)
      ∙ same_puts s p (next n s p) refl is.0 ∙ none)

  -- a run that ends all has made each Put, and there is none
  pub no_room_no_puts : (run : List ℕ) → EndsAll n rule run → put_count n c ≡ 0
  no_room_no_puts run whole =
      let w = n.writer c in
      let k : Cut = positions (reached n rule run) in
      let ended : k w ≡ length (n.script w) = whole.1 w in
      let all : take (k w) (n.script w) ≡ n.script w = take_all (k w) (n.script w) (omega arith) in
      ap (count_by (is_put c)) (sym all) ∙ no_puts run (start n) whole.0 refl
