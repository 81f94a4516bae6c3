use Rattle.network_laws.proofs.EntryTexts.{stands_with_run}
use Rattle.network_laws.proofs.schedules.any_full_run_has_a_text.Goals as goal

pub returns : goal.returns
returns c =
    record {
      stands = λ n network cert text run stands fits whole.
          stands_with_run n network cert text run stands (c.any_full_run_is_a_schedule.ensures.tags n network cert run fits whole);
      before = λ network cert text stands. stands.is_text;
    }
