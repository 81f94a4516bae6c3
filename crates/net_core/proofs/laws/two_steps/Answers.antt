use Rattle.net_core.proofs.TwoSteps.{enabled_stays, exchange}
use Rattle.net_core.proofs.laws.two_steps.Goals as goal

pub returns : goal.returns
returns g c =
    record {
      stays = λ n rule wired s p q other on. enabled_stays n rule wired s p q other on;
      commute = λ n rule wired s p q other on also. exchange n rule wired s p q other on also;
    }
