-- What a source comes to: one case for each cause, in the order in which they decide.
use Rattle.std.specs.Prelude.{◌≡◌, ℕ, ℤ, List, Some, None, Result, Ok, Err}
use Rattle.loop_lex.specs.Tokens.{tokens}
use Rattle.loop_lex.specs.declared.token.Token.{Token}
use Rattle.loop_lex.specs.declared.token.LexError.{LexError}
use Rattle.loop_grammar.specs.Grammar.{Stops}
use Rattle.loop_grammar.specs.Lexemes.{IsTree, sentence}
use Rattle.loop_grammar.specs.declared.tree.Tree.{Tree}
use Rattle.loop_bind.specs.Findings.{findings}
use Rattle.loop_class.specs.Binding.{IsBound}
use Rattle.loop_bind.specs.Reasons.{least_from}
use Rattle.loop_bind.specs.declared.error.BindError.{BindError}
use Rattle.sanlp.specs.declared.nest.Nest.{Nest}
use Rattle.loop_walk.specs.Counting.{counted}
use Rattle.loop_walk.specs.declared.count.SizeError.{SizeError}
use Rattle.command_answers.specs.Refusals.{byte_of, lex_refusal, syntax_refusal, bind_refusal, size_refusal}
use Rattle.command_answers.specs.declared.refusal.Refusal.{Refusal}

-- A source with values for its parameters gives a nest, or is refused: it has no tokens, its tokens have no tree, the
-- tree can't be bound, or it is bound to a nest.
pub data Gives (source : List ℕ) (params : List (List ℕ × ℤ)) : Result Nest Refusal → Type 0 where
  no_tokens : (error : LexError) (refusal : Refusal) → tokens source ≡ Err error
      → lex_refusal error ≡ Some refusal
      → Gives source params (Err refusal)
  no_tree : (found : List Token) (place : ℕ) → tokens source ≡ Ok found
      → Stops (sentence source found) place
      → Gives source params (Err (syntax_refusal (byte_of source found place)))
  not_bound : (found : List Token) (tree : Tree) (reason : BindError) (refusal : Refusal)
      → tokens source ≡ Ok found
      → IsTree source found tree → least_from None (findings tree params) ≡ Some reason
      → bind_refusal (byte_of source found) reason ≡ Some refusal
      → Gives source params (Err refusal)
  bound : (found : List Token) (tree : Tree) (nest : Nest) → tokens source ≡ Ok found
      → IsTree source found tree → IsBound tree params nest
      → Gives source params (Ok nest)

-- A source with values for its parameters gives a nest within the limit on its size, or is refused: it gives no nest, the nest
-- is too large, or it is within the limit.
pub data GivesWithinSize (source : List ℕ) (params : List (List ℕ × ℤ)) : Result Nest Refusal
    → Type 0 where
  source_refused : (refusal : Refusal) → Gives source params (Err refusal)
      → GivesWithinSize source params (Err refusal)
  size_refused : (nest : Nest) (error : SizeError) → Gives source params (Ok nest)
      → counted nest ≡ Err error
      → GivesWithinSize source params (Err (size_refusal error))
  within_size : (nest : Nest) (total : ℕ) → Gives source params (Ok nest) → counted nest ≡ Ok total
      → GivesWithinSize source params (Ok nest)
