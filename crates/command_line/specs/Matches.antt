-- What `clap` has found among the words.
use Rattle.std.specs.Prelude.{[], unwrap_or, option_map, codes}
use Rattle.std.specs.List.{cons_option}
use Rattle.clap.specs.Matches.{first_value, matched_of, raw_values}
use Rattle.clap.specs.declared.parser.matches.Found.{Found}
use Rattle.command_line.specs.Words.{Split}

-- the items and the value of the policy, as far as they were given
abbrev pub split_found : Found → Split
split_found found = record {
  items = unwrap_or (option_map raw_values (matched_of found (codes "items"))) [];
  policies = cons_option (first_value found (codes "policy")) [];
}
