-- A network that names the last writers is sound for the nest, where one run over tags ends all.
--
-- Here all is joined. A run over tags is one over values too, for all inputs, since which process may go on doesn't
-- depend on what a fire gives; so EveryOrder speaks of the run of values. In each ended state a process has kept the
-- values of its fires (PlaceValues), which are those of its entries (FireValues), and of the sinks these are the arrays
-- after the nest (sanlp's Outputs). Of the capacities nothing is asked but that one run ends all.
use Rattle.std.proofs.Common.{◌≡◌, ℕ, ◌+◌, ◌-◌, List, [], ◌∷◌, length, ap, sym, ◌∙◌, refl}
use mathlib.Core.Path.{fun_ext}
use Rattle.sanlp.specs.declared.nest.ArrayDecl.{ArrayDecl}
use Rattle.sanlp.specs.declared.nest.Inputs.{Inputs}
use Rattle.sanlp.specs.declared.nest.Nest.{Nest}
use Rattle.sanlp.specs.Laws.{values_of, sink_values_from}
use Rattle.sanlp.specs.Cells.{is_output}
use Rattle.sanlp.specs.WellFormed.{output_numbers}
use Rattle.sanlp.proofs.Outputs.{arrays_are_sink_values}
use Rattle.std.proofs.lemmas.Bool.{cases_Bool}
use Rattle.std.proofs.Common.{inl, inr}
use Rattle.net_core.specs.declared.network.Network.{Network}
use Rattle.net_core.specs.Machine.{net_of}
use Rattle.net_core.specs.Orders.{EndsAll, reached}
use Rattle.net_core.specs.Rules.{tags, values}
use Rattle.net_core.specs.Sound.{FitsNest, IsSound, NamesLastWriters, sink_lists_from, tag_value}
use Rattle.net_core.proofs.EveryOrder.{ends_always, same_ends}
use Rattle.net_core.proofs.PlaceValues.{ended_kept}
use Rattle.net_core.proofs.FireValues.{gives_values, all_fired_values}

sinks_alike : (n : Nest) (d : Inputs) (s : ℕ) (declared : List ArrayDecl)
    → sink_lists_from (values_of n d) s declared ≡ sink_values_from n d s declared
sinks_alike n d s [] = refl
sinks_alike n d s (array ∷ declared) =
    elim (cases_Bool (is_output array.kind)) [
      | inl out ↦ rw out (ap (λ lists. values_of n d s ∷ lists) (sinks_alike n d (s + 1) declared))
      | inr other ↦ rw other (ap (λ lists. [] ∷ lists) (sinks_alike n d s declared))
    ]

module _ (n : Nest) (network : Network) (fits : FitsNest n network) (names : NamesLastWriters n (net_of network)) where
  -- in an ended state each process has kept the values of its entries
  kept_values : (d : Inputs) (run : List ℕ) → EndsAll (net_of network) (values n d) run → (s : ℕ)
      → ((reached (net_of network) (values n d) run).local s).kept ≡ values_of n d s
  kept_values d run whole s =
      ended_kept (net_of network) (values n d) fits.shaped.wired (tag_value n d) run
      (gives_values n network fits names d) whole.0 whole.1 s
      ∙ all_fired_values n network fits d s

  pub is_sound : (run : List ℕ) → EndsAll (net_of network) tags run → IsSound n network
  is_sound run whole = record {
    fits = fits;
    ends = λ d.
        let ends = same_ends (net_of network) tags (values n d) fits.shaped.wired run whole in
        ends_always (net_of network) (values n d) fits.shaped.wired run ends.0 ends.1;
    kept = λ d ended all s a role. kept_values d ended all s;
    arrays = λ d ended all.
        ap (λ kept. sink_lists_from kept (length n.statements - length (output_numbers n.arrays)) n.arrays)
        (fun_ext (kept_values d ended all))
        ∙ sinks_alike n d (length n.statements - length (output_numbers n.arrays)) n.arrays
        ∙ sym (arrays_are_sink_values n d);
    names = names;
  }
