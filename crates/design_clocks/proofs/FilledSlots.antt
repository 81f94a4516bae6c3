-- A fire of a sound network's design finds a value in each slot that it reads.
--
-- In each state that a run reaches a slot holds the value of the token that it names, if it names one, and in a
-- sound network each reference of a fire names a last writer's token or is Zero. So where a slot is read it names
-- a token, and holds its value. It is said of slots that are read: another may have been filled by no Get yet.
use Rattle.std.proofs.Common.{◌≡◌, ℕ, ℤ, Option, Some, None, List, slice_get, option_map, refl, sym, ap, ◌∙◌}
use Rattle.std.proofs.lemmas.Option.{slice_get-map}
use Rattle.sanlp.specs.declared.nest.Inputs.{Inputs}
use Rattle.sanlp.specs.declared.nest.Nest.{Nest}
use Rattle.sanlp.specs.declared.nest.Tag.{Tag}
use Rattle.net_core.specs.declared.refs.Ref.{Ref}
use Rattle.net_core.specs.declared.refs.Ref.TheVariants.{Slot}
use Rattle.net_core.specs.declared.network.Event.TheVariants.{Fire}
use Rattle.net_core.specs.declared.network.Network.{Network}
use Rattle.net_core.specs.Machine.{State, net_of, next}
use Rattle.net_core.specs.Names.{IsNamed, name_in, slot_names}
use Rattle.net_core.specs.Rules.{values}
use Rattle.net_core.specs.Shape.{fires}
use Rattle.net_core.specs.Sound.{IsSound, name_of_source, source_tag, tag_value}
use Rattle.net_core.proofs.FireValues.{gives_values}
use Rattle.net_core.proofs.PlaceValues.{every_run_named}
use Rattle.clock_sim.specs.Clocks.{ClockedRunEnds, after_clocks, clocked_run}
use Rattle.design_clocks.specs.Registers.{Controls, Design}
use Rattle.design_clocks.specs.Clocked.{FiresFindValues, GiveScripts}
use Rattle.design_clocks.proofs.Clocked.{event_after, stands_for}

-- what names a last writer, or Zero, and is a slot, names a token
pub is_token : (name : Option (Option Tag)) (source : Option Tag) → name_in name ≡ name_of_source source
    → (t : Tag) × (name ≡ Some (Some t))
is_token None None e = absurd (cc)
is_token None (Some s) e = absurd (cc)
is_token (Some None) None e = absurd (cc)
is_token (Some None) (Some s) e = absurd (cc)
is_token (Some (Some t)) source e = (t, refl)

module _ (nest : Nest) (network : Network) (sound : IsSound nest network) (d : Inputs) where
  value_there : (s : State ℤ) → IsNamed (net_of network) (tag_value nest d) s → (p read slot : ℕ) (refs : List Ref)
      → next (net_of network) s p ≡ Some (Fire refs) → slice_get refs read ≡ Some (Slot slot)
      → (x : ℤ) × (slice_get (s.local p).slots slot ≡ Some (Some x))
  value_there s named p read slot refs is there =
      let n = net_of network in
      let at = (s.local p).position in
      let names = slot_names n p at in
      let v = tag_value nest d in
      let t =
      is_token (slice_get names slot) (source_tag nest p (fires n p at) read)
      (sound.names p at refs is read (Slot slot) there) in (
        v t.0,
        ap (λ (slots : List (Option ℤ)). slice_get slots slot) (named.locals p).slots
            ∙ slice_get-map (option_map v) names slot
            ∙ ap (option_map (option_map v)) t.1,
      )

  pub values_found : (controls : Controls) → GiveScripts (net_of network) controls
      → ClockedRunEnds (net_of network) (values nest d)
      → FiresFindValues (net_of network) controls (values nest d)
  values_found controls give ends k p read slot refs is there =
      let n = net_of network in
      let rule = values nest d in
      let wired = sound.fits.shaped.wired in
      let named =
      every_run_named n rule wired (tag_value nest d) (clocked_run n rule k)
      (gives_values nest network sound.fits sound.names d) (ends.run k) in
      let found =
      value_there (after_clocks n rule k) named p read slot refs
      (sym (event_after n controls rule wired give k p) ∙ is) there in (
        found.0,
        ap (λ (d : Design ℤ). slice_get (d.node p).slots slot) (stands_for n controls rule wired give k) ∙ found.1,
      )
