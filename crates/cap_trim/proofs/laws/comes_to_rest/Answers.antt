use Rattle.cap_trim.proofs.AtRest.{can_end_since, is_least, least_ends, stops_at_rest}
use Rattle.cap_trim.proofs.laws.comes_to_rest.Goals as goal

pub returns : goal.returns
returns g c =
    record {
      least = λ n wired. is_least n wired;
      stops = λ n rule wired. stops_at_rest n wired rule;
      ends = λ n wired can. least_ends n wired can;
      some = λ n rule run wired whole. can_end_since n wired rule run whole;
    }
