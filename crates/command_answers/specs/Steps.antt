-- What each step from a source to its nest, and on to its size, comes to.
use Rattle.std.specs.Prelude.{◌≡◌, ℕ, ℤ, List, Some, None, Result, Ok, Err}
use Rattle.std.specs.Global.{Vec}
use Rattle.loop_lex.specs.Tokens.{tokens}
use Rattle.loop_lex.specs.declared.token.Token.{Token}
use Rattle.loop_lex.specs.declared.token.LexError.{LexError}
use Rattle.loop_grammar.specs.Grammar.{Stops}
use Rattle.loop_grammar.specs.Lexemes.{IsTree, sentence}
use Rattle.loop_grammar.specs.declared.tree.Tree.{Tree}
use Rattle.loop_bind.specs.Findings.{findings}
use Rattle.loop_class.specs.Binding.{IsBound}
use Rattle.loop_bind.specs.Reasons.{least_from}
use Rattle.loop_bind.specs.declared.error.BindError.{BindError}
use Rattle.sanlp.specs.Size.{SizeIsOk}
use Rattle.loop_walk.specs.Counting.{counted}
use Rattle.loop_walk.specs.declared.count.SizeError.{SizeError}
use Rattle.cert_lines.specs.declared.error.CertError.{CertError}
use Rattle.bundle.specs.Parts.{data_part, source_part}
use Rattle.sanlp.specs.declared.nest.Inputs.{Inputs}
use Rattle.sanlp.specs.declared.nest.Nest.{Nest}
use Rattle.command_answers.specs.Refusals.{byte_of, lex_refusal, syntax_refusal, bind_refusal, size_refusal}
use Rattle.command_answers.specs.Run.{IsInputs, Runs}
use Rattle.command_answers.specs.Source.{GivesWithinSize}
use Rattle.verdict_text.specs.VerdictText.{unread_line, unread_text}
use Rattle.command_answers.specs.declared.answer.Answer.{Answer}
use Rattle.command_answers.specs.declared.answer.Answer.TheVariants.{Unread}
use Rattle.command_answers.specs.declared.refusal.Refusal.{Refusal}

abbrev pub HasTokens : List ℕ → Result (Vec Token) Refusal → Type 0
HasTokens source (Ok found) = tokens source ≡ Ok found.items
HasTokens source (Err refusal) =
    (error : LexError) × (tokens source ≡ Err error) × (lex_refusal error ≡ Some refusal)

abbrev pub HasSyntaxTree : List ℕ → List Token → Result Tree Refusal → Type 0
HasSyntaxTree source found (Ok tree) = IsTree source found tree
HasSyntaxTree source found (Err refusal) =
    (place : ℕ) × Stops (sentence source found) place
    × (refusal ≡ syntax_refusal (byte_of source found place))

abbrev pub HasNest : List ℕ → List Token → Tree → List (List ℕ × ℤ) → Result Nest Refusal → Type 0
HasNest source found tree params (Ok nest) = IsBound tree params nest
HasNest source found tree params (Err refusal) =
    (reason : BindError) × (least_from None (findings tree params) ≡ Some reason)
    × (bind_refusal (byte_of source found) reason ≡ Some refusal)

-- the size of a nest, which is within the limit, or why the nest is refused
abbrev pub HasSize : Nest → Result ℕ Refusal → Type 0
HasSize nest (Ok total) = (counted nest ≡ Ok total) × SizeIsOk nest
HasSize nest (Err refusal) =
    (error : SizeError) × (counted nest ≡ Err error) × (refusal ≡ size_refusal error)

-- the nest of a source, or why it has none within the limit on its size
abbrev pub HasSizedNest : List ℕ → List (List ℕ × ℤ) → Result Nest Refusal → Type 0
HasSizedNest source params (Ok nest) = GivesWithinSize source params (Ok nest) × SizeIsOk nest
HasSizedNest source params (Err refusal) = GivesWithinSize source params (Err refusal)

-- the nest with the inputs that a data part gives it, or why it has none
abbrev pub HasInputs : Nest → List ℕ → Result (Nest × Inputs) Refusal → Type 0
HasInputs nest bytes (Ok made) = (made.0 ≡ nest) × IsInputs nest bytes (Ok made.1)
HasInputs nest bytes (Err refusal) = IsInputs nest bytes (Err refusal)

-- the nest and the inputs of a bundle, or why it has none, whatever is to be written of them
abbrev pub IsPrepared : List (List ℕ × ℤ) → List ℕ → Result (Nest × Inputs) Refusal → Type 0
IsPrepared params bundle (Ok made) =
    GivesWithinSize (source_part bundle) params (Ok made.0)
    × IsInputs made.0 (data_part bundle) (Ok made.1) × SizeIsOk made.0
IsPrepared params bundle (Err refusal) =
    (text : Nest → Inputs → List ℕ) → Runs text params bundle (Err refusal)

-- the error is told, which isn't want of memory
abbrev pub TellsError : CertError → Result Answer Refusal → Type 0
TellsError error (Ok answer) =
    (answer ≡ Unread error) × (unread_text error ≡ Some (unread_line error))
TellsError error (Err refusal) = ⊥
