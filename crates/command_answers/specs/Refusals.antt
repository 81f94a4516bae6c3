-- Where refusals come from. Want of memory, which stands among the errors of some calls, is none.
use Rattle.std.specs.Prelude.{ℕ, List, length, slice_get, Option, Some, None}
use Rattle.std.specs.Option.{option_map_or}
use Rattle.loop_lex.specs.declared.token.Token.{Token}
use Rattle.loop_lex.specs.declared.token.LexError.{LexError}
use Rattle.loop_lex.specs.declared.token.LexError.TheVariants as lexical
use Rattle.loop_bind.specs.declared.error.BindError.{BindError}
use Rattle.loop_bind.specs.declared.error.BindError.TheVariants as binding
use Rattle.loop_walk.specs.declared.count.SizeError.{SizeError}
use Rattle.loop_walk.specs.declared.count.SizeError.TheVariants as counting
use Rattle.array_data.specs.declared.error.DataError.{DataError}
use Rattle.array_data.specs.declared.error.DataError.TheVariants as records
use Rattle.node_automata.specs.declared.node.NodeAuto.{NodeAuto}
use Rattle.sanlp.specs.declared.nest.ArrayDecl.{ArrayDecl}
use Rattle.command_answers.specs.declared.refusal.ClassReason.TheVariants.{UnknownName, Duplicate, Unbound, NotAffine, WrongCount, ElseForm, StepMax, StepRange}
use Rattle.command_answers.specs.declared.refusal.LimitReason.TheVariants.{TooManyProcesses, TooDeep, TooManyReads, TooManyRows, Large, Size, LoopValue}
use Rattle.command_answers.specs.declared.refusal.Refusal.{Refusal}
use Rattle.command_answers.specs.declared.refusal.Refusal.TheVariants.{Text, Class, Limit, Script, UnknownArray, Twice, Missing, Count, NotANumber}
use Rattle.command_answers.specs.declared.refusal.TextReason.TheVariants.{BadByte, OpenComment, LargeNumber, TooMany, Syntax}

-- the matrices of `load` have more rows than a parameter's limit; the parameter's name starts at
-- the source's byte 6
abbrev pub too_many_rows : Refusal
too_many_rows = Limit Large 6

-- a process has too long a script for VHDL
abbrev pub script_refusal : NodeAuto → Refusal
script_refusal auto = Script auto.process (length auto.events)

-- the byte at which the token of this number starts, or the length of the source for the place at
-- the end
abbrev pub byte_of : List ℕ → List Token → ℕ → ℕ
byte_of source tokens number =
    option_map_or (λ token. token.start) (slice_get tokens number) (length source)

abbrev pub lex_refusal : LexError → Option Refusal
lex_refusal (lexical.BadByte byte) = Some (Text BadByte byte)
lex_refusal (lexical.OpenComment byte) = Some (Text OpenComment byte)
lex_refusal (lexical.LargeNumber byte) = Some (Text LargeNumber byte)
lex_refusal (lexical.TooMany byte) = Some (Text TooMany byte)
lex_refusal lexical.Memory = None

abbrev pub syntax_refusal : ℕ → Refusal
syntax_refusal byte = Text Syntax byte

-- a reason of binding, whose token starts at a byte that `at` gives
abbrev pub bind_refusal : (ℕ → ℕ) → BindError → Option Refusal
bind_refusal at (binding.UnknownName token) = Some (Class UnknownName (at token))
bind_refusal at (binding.Duplicate token) = Some (Class Duplicate (at token))
bind_refusal at (binding.Unbound token) = Some (Class Unbound (at token))
bind_refusal at (binding.NotAffine token) = Some (Class NotAffine (at token))
bind_refusal at (binding.WrongCount token) = Some (Class WrongCount (at token))
bind_refusal at (binding.ElseForm token) = Some (Class ElseForm (at token))
bind_refusal at (binding.StepMax token) = Some (Class StepMax (at token))
bind_refusal at (binding.StepRange token) = Some (Class StepRange (at token))
bind_refusal at (binding.TooManyProcesses token) = Some (Limit TooManyProcesses (at token))
bind_refusal at (binding.TooDeep token) = Some (Limit TooDeep (at token))
bind_refusal at (binding.TooManyReads token) = Some (Limit TooManyReads (at token))
bind_refusal at (binding.TooManyRows token) = Some (Limit TooManyRows (at token))
bind_refusal at (binding.Large token) = Some (Limit Large (at token))
bind_refusal at binding.Memory = None

abbrev pub size_refusal : SizeError → Refusal
size_refusal (counting.Limit count) = Limit Size count
size_refusal (counting.LoopValue loop) = Limit LoopValue loop

-- a fault of the data for these arrays
abbrev pub data_refusal : List ArrayDecl → DataError → Option Refusal
data_refusal arrays (records.UnknownArray number) = Some (UnknownArray number)
data_refusal arrays (records.Twice number) = Some (Twice number)
data_refusal arrays (records.Missing array) = Some (Missing arrays array)
data_refusal arrays (records.Count number got want) = Some (Count number got want)
data_refusal arrays (records.NotANumber number field) = Some (NotANumber number field)
data_refusal arrays records.Memory = None
