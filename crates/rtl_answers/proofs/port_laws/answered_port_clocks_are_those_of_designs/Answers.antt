use Rattle.std.proofs.Common.{◌≡◌, ℕ, refl}
use Rattle.sanlp.specs.declared.nest.Nest.{Nest}
use Rattle.net_core.specs.Machine.{net_of}
use Rattle.process_derive.specs.Derived.{net}
use Rattle.port_design.specs.Clocked.{HasSlotsApart}
use Rattle.rtl_line.specs.declared.words.Policy.{Policy}
use Rattle.rtl_line.specs.declared.words.Policy.TheVariants.{Seq, Down, Least}
use Rattle.rtl_answers.specs.Networks.{network_for}
use Rattle.rtl_answers.proofs.port_laws.answered_port_clocks_are_those_of_designs.Goals as goal

-- the capacities alone are another policy's
same_scripts : (policy : Policy) (nest : Nest) (p : ℕ)
    → (net_of (network_for policy nest)).script p ≡ (net_of (net nest)).script p
same_scripts Seq nest p = refl
same_scripts Down nest p = refl
same_scripts Least nest p = refl

pub returns : goal.returns
returns c =
    let nest = c.args.nest.now in
    let sound = c.answered_clocks_are_those_of_designs.ensures.sound in
    let apart : (policy : Policy) → HasSlotsApart (net_of (network_for policy nest)) =
    λ policy. c.slots_lie_apart.ensures (net_of (network_for policy nest)) (same_scripts policy nest) in
    record {
      runs = λ policy text d design.
          c.port_designs_run_by_clock.ensures.runs nest (network_for policy nest) text d (sound policy).fits.shaped (apart policy)
          design;
      clocks = λ policy text d design.
          c.port_designs_run_by_clock.ensures.clocks nest (network_for policy nest) text d (sound policy) (apart policy)
          design;
      arrays = λ policy text d design.
          c.port_designs_run_by_clock.ensures.arrays nest (network_for policy nest) text d (sound policy) (apart policy)
          design;
      reads = λ policy text d design.
          c.port_designs_run_by_clock.ensures.reads nest (network_for policy nest) text d (sound policy) (apart policy)
          design;
    }
