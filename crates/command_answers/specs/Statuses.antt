-- The numbers of statuses.
use Rattle.std.specs.Prelude.{◌==◌, ℕ, Bool, List}
use Rattle.std.specs.List.{list_any}
use Rattle.command_answers.specs.declared.status.Status.{Status}
use Rattle.command_answers.specs.declared.status.Status.TheVariants.{Done, CertificateRefused, WordsRefused, InputFailed, OutputFailed, BundleRefused, TextRefused, ClassRefused, LimitPassed, DataRefused, NoMemory, NoWords}

-- what the program's process exits with
abbrev pub status_number : Status → ℕ
status_number Done = 0
status_number CertificateRefused = 1
status_number WordsRefused = 2
status_number InputFailed = 3
status_number OutputFailed = 4
status_number BundleRefused = 5
status_number TextRefused = 6
status_number ClassRefused = 7
status_number LimitPassed = 8
status_number DataRefused = 9
status_number NoMemory = 10
status_number NoWords = 11

-- whether the status is one of these
abbrev pub is_one_of : List Status → Status → Bool
is_one_of list status = list_any (λ one. status_number one == status_number status) list
