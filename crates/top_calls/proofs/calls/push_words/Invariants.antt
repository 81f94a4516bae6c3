use Rattle.std.proofs.Common.{◌≡◌, ◌++◌, map, take}
use Rattle.std.specs.Prelude.{string_bytes}
use Rattle.top_calls.proofs.calls.push_words.Given as goal

abbrev pub invariant-loop-word : goal.invariant-loop-word
invariant-loop-word l =
    map string_bytes l.strings.items
    ≡ map string_bytes l.initial.strings.items ++ map (λ word. word.now) (take l.word-index l.words)
