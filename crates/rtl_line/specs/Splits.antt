-- The words that the program has taken apart.
use Rattle.std.specs.Prelude.{◌++◌, List, map}
use Rattle.command_line.specs.Words.{Text}
use Rattle.rtl_line.specs.declared.words.Split.{Split as Found}
use Rattle.rtl_line.specs.Words.{Split}

-- the items, the values and the flag that it holds
abbrev pub found_in : Found → Split
found_in found = record {
  items = map (λ item. item.now) found.items.items;
  policies = map (λ value. value.now) found.policies.items;
  ports = map (λ value. value.now) found.ports.items;
  clocks = found.clocks;
}

-- these, with more items behind
abbrev pub rest_of : Found → List Text → Split
rest_of found items =
    let split = found_in found in record split { items = split.items ++ items }
