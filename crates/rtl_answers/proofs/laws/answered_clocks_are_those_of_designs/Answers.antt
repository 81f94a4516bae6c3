use Rattle.std.proofs.Common.{refl}
use Rattle.sanlp.specs.declared.nest.Nest.{Nest}
use Rattle.net_core.specs.Sound.{IsSound}
use Rattle.witness_plan.specs.declared.schedules.Policy as schedules
use Rattle.witness_plan.specs.declared.schedules.Policy.TheVariants as schedule
use Rattle.witness_plan.specs.Schedules.{planned_network}
use Rattle.least_network.specs.Networks.{least_network}
use Rattle.rtl_line.specs.declared.words.Policy.{Policy}
use Rattle.rtl_line.specs.declared.words.Policy.TheVariants.{Seq, Down, Least}
use Rattle.rtl_answers.specs.Networks.{network_for}
use Rattle.rtl_answers.proofs.laws.answered_clocks_are_those_of_designs.Goals as goal

sound_for : (nest : Nest) → ((policy : schedules.Policy) → IsSound nest (planned_network nest policy))
    → IsSound nest (least_network nest) → (policy : Policy) → IsSound nest (network_for policy nest)
sound_for nest planned least Seq = planned schedule.Seq
sound_for nest planned least Down = planned schedule.Down
sound_for nest planned least Least = least

pub returns : goal.returns
returns c =
    let nest = c.args.nest.now in
    let sound : (policy : Policy) → IsSound nest (network_for policy nest) =
    sound_for nest
    (λ policy. c.is_sound.ensures nest (planned_network nest policy) _ (c.has_certificate.ensures policy).fits)
    (c.trimmed_network_is_sound.ensures.sound (planned_network nest schedule.Down) _ (schedule.Down, refl) refl) in
    record {
      sound = sound;
      clocks = λ policy text d design.
          c.designs_run_by_clock.ensures.clocks nest (network_for policy nest) text d (sound policy) design;
      arrays = λ policy text d design.
          c.designs_run_by_clock.ensures.arrays nest (network_for policy nest) text d (sound policy) design;
    }
