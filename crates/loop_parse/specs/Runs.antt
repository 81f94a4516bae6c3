-- How the machine's run over tokens ends.
use Rattle.std.specs.Prelude.{◌≡◌, ◌⊎◌, ℕ, List, Option, Some, None, take, length, slice_get, Result, Ok, Err}
use Rattle.loop_lex.specs.declared.token.Token.{Token}
use Rattle.loop_grammar.specs.declared.tree.Tree.{Tree}
use Rattle.loop_parse.specs.declared.parser.ParseError.{ParseError}
use Rattle.loop_parse.specs.declared.parser.ParseError.TheVariants.{Syntax, Memory}
use Rattle.loop_grammar.specs.Grammar.{Tok}
use Rattle.loop_grammar.specs.Lexemes.{sentence}
use Rattle.loop_parse.specs.SourceMachine.{State, start, fed, feed, finish}

-- the state after these tokens, where they follow one another
unfoldable pub state_after : List Tok → Option State
state_after tokens = fed (Some start) tokens

unfoldable pub next_state : State → Tok → Option State
next_state s t = feed s t

-- the tree, where the source may end in this state
unfoldable pub tree_at : State → Option Tree
tree_at s = finish s

-- the machine takes the first k tokens, but not the next one, or not the end
pub record Stuck (tokens : List Tok) (k : ℕ) : Type 0 where
  pub state : State
  pub before : state_after (take k tokens) ≡ Some state
  pub there : ((t : Tok) × (slice_get tokens k ≡ Some t) × (next_state state t ≡ None)) ⊎
      ((k ≡ length tokens) × (tree_at state ≡ None))

abbrev pub Ran : List ℕ → List Token → Result Tree ParseError → Type 0
Ran bytes tokens (Ok tree) =
    (s : State) × (state_after (sentence bytes tokens) ≡ Some s) × (tree_at s ≡ Some tree)
Ran bytes tokens (Err Memory) = Unit {0}
Ran bytes tokens (Err (Syntax k)) = Stuck (sentence bytes tokens) k
