use Rattle.net_core.proofs.Soundness.{is_sound}
use Rattle.net_core.proofs.FireValues.{turn_there}
use Rattle.net_core.proofs.laws.sound.Goals as goal

pub returns : goal.returns
returns c =
    record {
      limits = λ nest network fits p k refs is. (turn_there nest network fits p k refs is, fits.references p k refs is);
      sound = λ nest network run fits names whole. is_sound nest network fits names run whole;
    }
