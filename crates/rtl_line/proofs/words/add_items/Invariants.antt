use Rattle.std.proofs.Common.{◌≡◌, drop, map}
use Rattle.std.specs.Prelude.{string_bytes}
use Rattle.rtl_line.specs.Splits.{rest_of}
use Rattle.rtl_line.proofs.words.add_items.Given as goal

-- with the words left it is what is to come
abbrev pub invariant-loop-word : goal.invariant-loop-word
invariant-loop-word l =
    rest_of l.split (map string_bytes (drop l.word-index l.words))
    ≡ rest_of l.fn.split (map string_bytes l.words)
