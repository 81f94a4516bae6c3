-- What a program does with the words that it was given.
use Rattle.std.specs.Prelude.{◌≡◌, ℕ, List, map, String, string_bytes, Result, Ok, Err}
use Rattle.std.specs.Io.KnownBytes.{Keeps}
use Rattle.std.specs.Global.{Global, Vec}
use Rattle.std.specs.declared.io.Error.{Error}
use Rattle.command_answers.specs.Statuses.{status_number}
use Rattle.command_answers.specs.declared.status.Status.TheVariants.{NoWords}
use Rattle.call_endings.specs.Changes.{Change, IsQuiet, WritesNothing}

-- the words behind the program's name, or that the runtime refused them
abbrev pub Given : Type 0
Given = Result (Vec (String Global)) Error

-- What a program whose calls for words are these did with the words that it was given, and the number of its status: it made
-- such a call for them. Where they were refused it read and wrote nothing, and the number is that of the status for that.
abbrev pub IsRunOf : (List (List ℕ) → Change → Change → Change → ℕ → Type 0) → Given → Change
    → Change → Change → ℕ → Type 0
IsRunOf is_call (Ok words) input output complaint number =
    is_call (map string_bytes words.items) input output complaint number
IsRunOf is_call (Err error) input output complaint number =
    (number ≡ status_number NoWords) × Keeps input.old input.new × IsQuiet input
    × WritesNothing output complaint
