use Rattle.compaan_top.proofs.OwnStatuses.{outcomes_own}
use Rattle.compaan_top.proofs.Statuses.{outcomes_alike, outcomes_succeed}
use Rattle.compaan_top.proofs.law.status_is_determined.Goals as goal

pub returns-clause-determined : goal.returns-clause-determined
returns-clause-determined c = λ words bundle a b x y. outcomes_alike c.one_tree.ensures words bundle x y

pub returns-clause-own : goal.returns-clause-own
returns-clause-own c = λ words bundle a x. outcomes_own words bundle x

pub returns-clause-success : goal.returns-clause-success
returns-clause-success c = λ words bundle v a x. outcomes_succeed c.one_tree.ensures words bundle v x
