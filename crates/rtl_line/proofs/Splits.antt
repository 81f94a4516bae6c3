-- What was split of the words passed so far, with what the split of the words left gives.
--
-- `split_words` goes down the words, and the program gathers from the front. So the claim of its loop is that the split of all words
-- is that of the words left, put behind what was gathered (`joined`): a word moves from the one to the other. At the end nothing is
-- left, and what was gathered is the split.
use Rattle.std.proofs.Common.{true, ◌++◌}
use Rattle.std.specs.Prelude.{if◌then◌else◌}
use Rattle.rtl_line.specs.Words.{Split}

abbrev pub joined : Split → Split → Split
joined before later = record {
  items = before.items ++ later.items;
  policies = before.policies ++ later.policies;
  ports = before.ports ++ later.ports;
  clocks = if before.clocks then true else later.clocks;
}
