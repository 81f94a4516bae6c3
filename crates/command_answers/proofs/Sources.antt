-- What a source gives, from what its steps come to.
use Rattle.std.proofs.Common.{◌≡◌, ℕ, ℤ, List, Result, Ok, Err, sym, subst}
use Rattle.loop_lex.specs.Tokens.{tokens}
use Rattle.loop_lex.specs.declared.token.Token.{Token}
use Rattle.loop_grammar.specs.Lexemes.{IsTree}
use Rattle.loop_grammar.specs.declared.tree.Tree.{Tree}
use Rattle.sanlp.specs.declared.nest.Nest.{Nest}
use Rattle.command_answers.specs.Judging.{Judges}
use Rattle.command_answers.specs.Source.{Gives, GivesWithinSize, no_tokens, no_tree, not_bound, bound, source_refused, size_refused}
use Rattle.command_answers.specs.Steps.{HasSize, HasSizedNest, HasTokens, HasSyntaxTree, HasNest}
use Rattle.command_answers.specs.declared.refusal.Refusal.{Refusal}
use Rattle.command_answers.specs.declared.refusal.Stop.{Stop}
use Rattle.command_answers.specs.declared.refusal.Stop.TheVariants.{Refused, ReadFault, Memory}
use Rattle.command_answers.proofs.Stops.{Judges-Err}

pub gives_without_tokens : (source : List ℕ) (params : List (List ℕ × ℤ)) (stop : Stop)
    → Judges (HasTokens source) (Err stop) → Judges (Gives source params) (Err stop)
gives_without_tokens source params stop =
    Judges-Err (HasTokens source) (Gives source params) stop
    (λ refusal step. no_tokens step.0 refusal step.1 step.2)

pub gives_without_tree : (source : List ℕ) (params : List (List ℕ × ℤ)) (found : List Token) (stop : Stop)
    → tokens source ≡ Ok found → Judges (HasSyntaxTree source found) (Err stop) → Judges (Gives source params) (Err stop)
gives_without_tree source params found stop lexed =
    Judges-Err (HasSyntaxTree source found) (Gives source params) stop
    (λ refusal step.
    subst (λ (r : Refusal). Gives source params (Err r)) (sym step.2) (no_tree found step.0 lexed step.1))

pub gives_nest : (source : List ℕ) (params : List (List ℕ × ℤ)) (found : List Token) (tree : Tree)
    (answer : Result Nest Stop)
    → tokens source ≡ Ok found → IsTree source found tree → Judges (HasNest source found tree params) answer
    → Judges (Gives source params) answer
gives_nest source params found tree (Ok nest) lexed parsed step = bound found tree nest lexed parsed step
gives_nest source params found tree (Err (Refused refusal)) lexed parsed step =
    not_bound found tree step.0 refusal lexed parsed step.1 step.2
gives_nest source params found tree (Err ReadFault) lexed parsed step = step
gives_nest source params found tree (Err Memory) lexed parsed step = tt

pub sized_without_nest : (source : List ℕ) (params : List (List ℕ × ℤ)) (stop : Stop)
    → Judges (Gives source params) (Err stop) → Judges (HasSizedNest source params) (Err stop)
sized_without_nest source params stop =
    Judges-Err (Gives source params) (HasSizedNest source params) stop (λ refusal step. source_refused refusal step)

pub sized_without_size : (source : List ℕ) (params : List (List ℕ × ℤ)) (nest : Nest) (stop : Stop)
    → Gives source params (Ok nest) → Judges (HasSize nest) (Err stop) → Judges (HasSizedNest source params) (Err stop)
sized_without_size source params nest stop gives =
    Judges-Err (HasSize nest) (HasSizedNest source params) stop
    (λ refusal step.
    subst (λ (r : Refusal). GivesWithinSize source params (Err r)) (sym step.2)
    (size_refused nest step.0 gives step.1))
