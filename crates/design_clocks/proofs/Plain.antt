-- A sequencer without repeats gives its items, of whatever kind, each at the step of its number.
--
-- The invariant is that after as many steps as items were given the state is that number, and what is left of the
-- list is still to be given (`gives_left`). A step keeps it: the instruction of that number has the next item and
-- ends no repeat, so it leads to the next number, and there is no counter. Where nothing is left the number is the
-- end's. It is said of whole lists from the start on. Of sequencers with repeats it says nothing.
use Rattle.std.proofs.Common.{◌≡◌, ℕ, ◌+◌, Option, Some, List, [], ◌∷◌, ◌++◌, length, slice_get, refl, sym, ap, ap₂, ◌∙◌}
use Rattle.std.proofs.Common.{subst, append-nil, append_assoc, arith, length-append}
use Rattle.std.specs.Option.{option_map}
use Rattle.std.proofs.lemmas.List.{length-map}
use Rattle.std.proofs.lemmas.Option.{slice_get-map}
use Rattle.net_core.specs.Machine.{Net}
use Rattle.plain_data.proofs.Lists.{slice_get-append_cons}
use Rattle.repeat_sequencer.specs.declared.sequencer.Instruction.{Instruction}
use Rattle.repeat_sequencer.specs.declared.sequencer.Sequencer.{Sequencer}
use Rattle.repeat_sequencer.specs.Steps.{State, Gives, at_end, at_start, past_ends, state_behind, step}
use Rattle.design_clocks.specs.Clocked.{GiveScripts}
use Rattle.design_clocks.specs.Plain.{plain}

-- a sequencer gives these items from its start, and then stands at its end
abbrev pub GivesOnce : {T : Type 0} → List T → Sequencer T → Type 0
GivesOnce items s = Gives s (step s) (at_start s) items (at_end s)

abbrev at_place : ℕ → State
at_place k = record { at = k; counters = [] }

module _ {T : Type 0} (items : List T) where
  abbrev instruction : T → Instruction T
  instruction e = record { item = e; ends = [] }

  instruction_at : (done left : List T) (e : T) (k : ℕ) → items ≡ done ++ e ∷ left → k ≡ length done
      → slice_get (plain items).instructions k ≡ Some (instruction e)
  instruction_at done left e k parts at =
      slice_get-map instruction items k
      ∙ ap (option_map instruction) (ap₂ slice_get parts at ∙ slice_get-append_cons done e left)

  next_place : (e : T) (k : ℕ) → slice_get (plain items).instructions k ≡ Some (instruction e)
      → step (plain items) (at_place k) ≡ at_place (k + 1)
  unfolding past_ends
  next_place e k is = ap (λ (o : Option (Instruction T)). state_behind o (at_place k)) is

  gives_left : (left done : List T) (k : ℕ) → items ≡ done ++ left → k ≡ length done
      → Gives (plain items) (step (plain items)) (at_place k) left (at_end (plain items))
  unfolding Gives
  gives_left [] done k parts at =
      let all : k ≡ length (plain items).instructions =
      at ∙ ap length (sym (parts ∙ append-nil done)) ∙ sym (length-map items instruction) in
      ap at_place all
  gives_left (e ∷ left) done k parts at =
      let is = instruction_at done left e k parts at in
      let parts' : items ≡ (done ++ e ∷ []) ++ left = parts ∙ sym (append_assoc done (e ∷ []) left) in
      let at' : k + 1 ≡ length (done ++ e ∷ []) = omega (arith, at, length-append done (e ∷ [])) in (
        ap (option_map (λ (i : Instruction T). i.item)) is,
        subst (λ (s : State). Gives (plain items) (step (plain items)) s left (at_end (plain items)))
            (sym (next_place e k is))
            (gives_left left (done ++ e ∷ []) (k + 1) parts' at'),
      )

  pub gives_plain : GivesOnce items (plain items)
  gives_plain = gives_left items [] 0 refl refl

pub plain_gives : (n : Net) → GiveScripts n (λ p. plain (n.script p))
plain_gives n p = gives_plain (n.script p)
