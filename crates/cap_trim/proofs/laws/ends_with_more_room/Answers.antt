use Rattle.cap_trim.proofs.AtRest.{can_end_roomier}
use Rattle.cap_trim.proofs.MoreRoom.{ends_roomier, runs_roomier}
use Rattle.cap_trim.proofs.laws.ends_with_more_room.Goals as goal

pub returns : goal.returns
returns g c =
    record {
      runs = λ n room rule run wired more is. runs_roomier n wired room (λ c lt. more c) rule run is;
      ends = λ n room rule run wired more whole. ends_roomier n wired room (λ c lt. more c) rule run whole;
      can = λ n room wired more can. can_end_roomier n wired room (λ c lt. more c) can;
    }
