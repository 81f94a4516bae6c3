use Rattle.std.proofs.Common.{◌-◌, length}
use Rattle.loop_lex.specs.Tokens.{token_limit, tokens}
use Rattle.loop_lex.proofs.Loop.{Reads}
use Rattle.loop_lex.proofs.lexer.lex.Given as goal

abbrev pub invariant-loop-at : goal.invariant-loop-at
invariant-loop-at l = Reads l.found.items (token_limit - length l.found.items) l.at l.bytes (tokens l.bytes)

abbrev pub decreases-loop-at : goal.decreases-loop-at
decreases-loop-at l = length l.bytes - l.at
