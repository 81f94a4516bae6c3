use Rattle.std.proofs.Common.{ap, sym, ◌∙◌}
use Rattle.number_text.specs.Numbers.{numbers_text}
use Rattle.witness_plan.specs.declared.schedules.Policy.TheVariants.{Seq}
use Rattle.witness_plan.specs.Schedules.{planned_network}
use Rattle.command_answers.specs.Replies.{done}
use Rattle.command_answers.proofs.printing.sequential_answer.Goals as goal

pub returns : goal.returns
returns c =
    ap done
    (ap (numbers_text c.args.nest) c.in_ok-numbers.ensures
    ∙ sym (c.text_tells_numbers.ensures (planned_network c.args.nest Seq)))
