use Rattle.std.proofs.Common.{ap, ◌∙◌}
use Rattle.script_blocks.specs.Expansion.{repeated}
use Rattle.unit_text.specs.Counting.{counted}
use Rattle.unit_text.specs.Units.{gains_round, loop_values}
use Rattle.unit_text.proofs.Counting.{counts_round, counts_rounds, counts_values}
use Rattle.unit_text.proofs.Sequences.{gives_rounds}
use Rattle.unit_text.proofs.laws.counters_give_loop_values.Goals as goal

pub returns : goal.returns
returns c = record {
  told = λ points counter count is.
      gives_rounds (gains_round (loop_values counter.number points)) counter.gains is.gains_are count;
  values = counts_values;
  round = counts_round;
  rounds = λ points counter count is fit.
      let values = loop_values counter.number points in (
        repeated count (gains_round values),
        gives_rounds (gains_round values) counter.gains is.gains_are count,
        ap (λ v. counted v (repeated count (gains_round values))) is.first_is ∙ counts_rounds values fit count,
      );
}
