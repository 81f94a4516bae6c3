use Rattle.std.proofs.Common.{rules}
use Rattle.array_data.specs.Answer.{answer_text}
use Rattle.plain_data.proofs.Options.{OnErr-any}
use Rattle.command_answers.specs.Simulating.{clocks_line}
use Rattle.compaan_top.proofs.TextFronts.{both_written, front_of_both, front_of_first, quiet_throughout, rose_later}
use Rattle.compaan_top.proofs.writing.write_clocked.Goals as goal

pub returns-in_err-write_answer : goal.returns-in_err-write_answer
returns-in_err-write_answer g c =
    record {
      ok = search rules;
      quiet = search rules;
      front = OnErr-any c.from_residual.result
          (front_of_first _ _ (answer_text c.args.answer.now.nest.arrays c.args.answer.now.clocked.arrays.arrays)
          (clocks_line c.args.answer.now.clocked.clocks) c.in_err-write_answer.ensures.front);
      cause = search rules;
    }

pub returns : goal.returns
returns g c =
    record {
      ok = both_written _ _ _ _ _ _ c.in_ok-write_answer.ensures.ok c.write_clocks.ensures.ok;
      quiet = quiet_throughout _ _ _ _ c.in_ok-write_answer.ensures.quiet c.write_clocks.ensures.quiet;
      front = front_of_both _ _ _ _ _ _ c.in_ok-write_answer.ensures.ok c.write_clocks.ensures.front;
      cause = rose_later _ _ _ _ c.in_ok-write_answer.ensures.quiet c.write_clocks.ensures.cause;
    }
