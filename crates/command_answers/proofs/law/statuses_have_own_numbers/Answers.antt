use Rattle.command_answers.proofs.StatusNumbers.{same_status}
use Rattle.command_answers.proofs.law.statuses_have_own_numbers.Goals as goal

pub returns : goal.returns
returns c = same_status
