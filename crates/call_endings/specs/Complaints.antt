-- The refusals as the program tells them: their statuses, and the lines that say them.
use Rattle.std.specs.Prelude.{ℕ, List, [], ◌∷◌, slice_get, codes, decimal}
use Rattle.std.specs.Option.{option_map_or}
use Rattle.sanlp.specs.declared.nest.ArrayDecl.{ArrayDecl}
use Rattle.text_out.specs.Words.{line_text}
use Rattle.command_answers.specs.declared.refusal.ClassReason.{ClassReason}
use Rattle.command_answers.specs.declared.refusal.ClassReason.TheVariants.{UnknownName, Duplicate, Unbound, NotAffine, WrongCount, ElseForm, StepMax, StepRange}
use Rattle.command_answers.specs.declared.refusal.LimitReason.{LimitReason}
use Rattle.command_answers.specs.declared.refusal.LimitReason.TheVariants.{TooManyProcesses, TooDeep, TooManyReads, TooManyRows, Large, Size, LoopValue}
use Rattle.command_answers.specs.declared.refusal.Refusal.{Refusal}
use Rattle.command_answers.specs.declared.refusal.Refusal.TheVariants.{Usage, TooLong, NoPart, Text, Class, Limit, Script, UnknownArray, Twice, Missing, Count, NotANumber}
use Rattle.command_answers.specs.declared.status.Status.{Status}
use Rattle.command_answers.specs.declared.status.Status.TheVariants.{BundleRefused, ClassRefused, DataRefused, LimitPassed, TextRefused, WordsRefused}
use Rattle.command_answers.specs.declared.refusal.TextReason.{TextReason}
use Rattle.command_answers.specs.declared.refusal.TextReason.TheVariants.{BadByte, OpenComment, LargeNumber, TooMany, Syntax}

-- the status of a refusal
abbrev pub refusal_status : Refusal → Status
refusal_status Usage = WordsRefused
refusal_status TooLong = BundleRefused
refusal_status NoPart = BundleRefused
refusal_status (Text reason byte) = TextRefused
refusal_status (Class reason byte) = ClassRefused
refusal_status (Limit reason number) = LimitPassed
refusal_status (Script process events) = LimitPassed
refusal_status (UnknownArray number) = DataRefused
refusal_status (Twice number) = DataRefused
refusal_status (Missing arrays array) = DataRefused
refusal_status (Count number got want) = DataRefused
refusal_status (NotANumber number field) = DataRefused

abbrev pub text_word : TextReason → List ℕ
text_word BadByte = codes "text: BadByte"
text_word OpenComment = codes "text: OpenComment"
text_word LargeNumber = codes "text: LargeNumber"
text_word TooMany = codes "text: TooMany"
text_word Syntax = codes "text: Syntax"

abbrev pub class_word : ClassReason → List ℕ
class_word UnknownName = codes "class: UnknownName"
class_word Duplicate = codes "class: Duplicate"
class_word Unbound = codes "class: Unbound"
class_word NotAffine = codes "class: NotAffine"
class_word WrongCount = codes "class: WrongCount"
class_word ElseForm = codes "class: ElseForm"
class_word StepMax = codes "class: StepMax"
class_word StepRange = codes "class: StepRange"

abbrev pub limit_word : LimitReason → List ℕ
limit_word TooManyProcesses = codes "limit: TooManyProcesses"
limit_word TooDeep = codes "limit: TooDeep"
limit_word TooManyReads = codes "limit: TooManyReads"
limit_word TooManyRows = codes "limit: TooManyRows"
limit_word Large = codes "limit: Large"
limit_word Size = codes "limit: Size"
limit_word LoopValue = codes "limit: LoopValue"

-- the name of the array of this number
abbrev pub name_of : List ArrayDecl → ℕ → List ℕ
name_of arrays a = option_map_or (λ array. array.name) (slice_get arrays a) []

-- the reason with its place and its numbers; records and fields are told by their numbers, and an
-- array by its name
abbrev pub refusal_words : Refusal → List (List ℕ)
refusal_words Usage = codes "usage: compaan COMMAND [--policy seq|down] [NAME=VALUE]..." ∷ []
refusal_words TooLong = codes "bundle: TooLong" ∷ []
refusal_words NoPart = codes "bundle: NoPart" ∷ []
refusal_words (Text reason byte) = text_word reason ∷ decimal byte ∷ []
refusal_words (Class reason byte) = class_word reason ∷ decimal byte ∷ []
refusal_words (Limit reason number) = limit_word reason ∷ decimal number ∷ []
refusal_words (Script process events) =
    codes "limit: Script" ∷ decimal process ∷ decimal events ∷ []
refusal_words (UnknownArray number) = codes "data: UnknownArray" ∷ decimal number ∷ []
refusal_words (Twice number) = codes "data: Twice" ∷ decimal number ∷ []
refusal_words (Missing arrays array) = codes "data: Missing" ∷ name_of arrays array ∷ []
refusal_words (Count number got want) =
    codes "data: Count" ∷ decimal number ∷ decimal got ∷ decimal want ∷ []
refusal_words (NotANumber number field) =
    codes "data: NotANumber" ∷ decimal number ∷ decimal field ∷ []

-- the line of a refusal: its reason with its place and its numbers, with a space between two of them, and LF
abbrev pub refusal_line : Refusal → List ℕ
refusal_line refusal = line_text (refusal_words refusal)
