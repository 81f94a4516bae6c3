use Rattle.std.proofs.Common.{◌≡◌, take, Some}
use Rattle.loop_grammar.specs.Lexemes.{sentence}
use Rattle.loop_parse.specs.Runs.{state_after}
use Rattle.loop_parse.specs.SourceMachine.{state_of}
use Rattle.loop_parse.proofs.parser.run.Given as goal

abbrev pub invariant-loop-i : goal.invariant-loop-i
invariant-loop-i l = state_after (take l.i (sentence l.bytes l.tokens)) ≡ Some (state_of l.reader)
