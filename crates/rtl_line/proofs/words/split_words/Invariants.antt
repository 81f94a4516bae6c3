use Rattle.std.proofs.Common.{◌≡◌, length, map}
use Rattle.std.specs.Prelude.{string_bytes}
use Rattle.std.specs.Option.{option_map}
use Rattle.rtl_line.specs.Splits.{found_in}
use Rattle.rtl_line.specs.Words.{split_words}
use Rattle.rtl_line.proofs.Splits.{joined}
use Rattle.rtl_line.proofs.words.split_words.Given as goal

-- the words passed were split, and what the words left give is to come behind
abbrev pub invariant-loop-left : goal.invariant-loop-left
invariant-loop-left l =
    split_words (map string_bytes l.words)
    ≡ option_map (joined (found_in l.split)) (split_words (map string_bytes l.left))

abbrev pub decreases-loop-left : goal.decreases-loop-left
decreases-loop-left l = length l.left
