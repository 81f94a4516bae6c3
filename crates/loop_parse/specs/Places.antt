-- The places of refusals.
use Rattle.std.specs.Prelude.{ℕ, List}
use Rattle.loop_lex.specs.declared.token.Token.{Token}
use Rattle.loop_grammar.specs.Grammar.{Stops}
use Rattle.loop_grammar.specs.Lexemes.{sentence}
use Rattle.loop_parse.specs.declared.parser.ParseError.{ParseError}
use Rattle.loop_parse.specs.declared.parser.ParseError.TheVariants.{Syntax, Memory}

-- the place of a refusal, where it has one: where the tokens stop
abbrev pub IsPlace : List ℕ → List Token → ParseError → Type 0
IsPlace bytes tokens (Syntax k) = Stops (sentence bytes tokens) k
IsPlace bytes tokens Memory = Unit {0}
