-- A status has a number of its own, which is its place in the list of all.
use Rattle.std.proofs.Common.{◌≡◌, ◌∷◌, [], List, Some, slice_get, refl, sym, ap, ◌∙◌}
use Rattle.std.proofs.lemmas.Option.{same_Some}
use Rattle.command_answers.specs.Statuses.{status_number}
use Rattle.command_answers.specs.declared.status.Status.{Status}
use Rattle.command_answers.specs.declared.status.Status.TheVariants.{Done, CertificateRefused, WordsRefused, InputFailed, OutputFailed, BundleRefused, TextRefused, ClassRefused, LimitPassed, DataRefused, NoMemory, NoWords}

-- the statuses in the order of their numbers
abbrev all : List Status
all =
    Done ∷ CertificateRefused ∷ WordsRefused ∷ InputFailed ∷ OutputFailed ∷ BundleRefused ∷ TextRefused ∷ ClassRefused
    ∷ LimitPassed ∷ DataRefused ∷ NoMemory ∷ NoWords ∷ []

read_back : (status : Status) → slice_get all (status_number status) ≡ Some status
read_back Done = refl
read_back CertificateRefused = refl
read_back WordsRefused = refl
read_back InputFailed = refl
read_back OutputFailed = refl
read_back BundleRefused = refl
read_back TextRefused = refl
read_back ClassRefused = refl
read_back LimitPassed = refl
read_back DataRefused = refl
read_back NoMemory = refl
read_back NoWords = refl

pub same_status : (a b : Status) → status_number a ≡ status_number b → a ≡ b
same_status a b same = same_Some a b (sym (read_back a) ∙ ap (slice_get all) same ∙ read_back b)
