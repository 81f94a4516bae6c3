-- Which of the reasons that are found is told.
use Rattle.std.specs.Prelude.{ℕ, ◌==◌, ◌&&◌, ◌||◌, Bool, true, false, List, [], ◌∷◌, Option, Some, None, nat_lt, if◌then◌else◌}
use Rattle.std.specs.List.{fold}
use Rattle.loop_bind.specs.declared.error.BindError.{BindError}
use Rattle.loop_bind.specs.declared.error.BindError.TheVariants.{UnknownName, Duplicate, Unbound, NotAffine, WrongCount, ElseForm, TooManyProcesses, TooDeep, TooManyReads, TooManyRows, Large, StepMax, StepRange, Memory}

-- the token at which a reason stands; want of memory stands nowhere, and is never found
abbrev pub place_of : BindError → ℕ
place_of (UnknownName token) = token
place_of (Duplicate token) = token
place_of (Unbound token) = token
place_of (NotAffine token) = token
place_of (WrongCount token) = token
place_of (ElseForm token) = token
place_of (TooManyProcesses token) = token
place_of (TooDeep token) = token
place_of (TooManyReads token) = token
place_of (TooManyRows token) = token
place_of (Large token) = token
place_of (StepMax token) = token
place_of (StepRange token) = token
place_of Memory = 0

abbrev pub number_of : BindError → ℕ
number_of (UnknownName token) = 1
number_of (Duplicate token) = 2
number_of (Unbound token) = 3
number_of (NotAffine token) = 4
number_of (WrongCount token) = 5
number_of (ElseForm token) = 6
number_of (TooManyProcesses token) = 7
number_of (TooDeep token) = 8
number_of (TooManyReads token) = 9
number_of (TooManyRows token) = 10
number_of (Large token) = 11
number_of Memory = 12
number_of (StepMax token) = 13
number_of (StepRange token) = 14

-- the reason at the lesser place, and at one place that with the lesser number
abbrev pub comes_first : BindError → BindError → Bool
comes_first a b =
    nat_lt (place_of a) (place_of b)
    || ((place_of a == place_of b) && nat_lt (number_of a) (number_of b))

abbrev pub lesser : Option BindError → BindError → Option BindError
lesser None found = Some found
lesser (Some old) found = if comes_first found old then Some found else Some old

-- the least of these reasons and of one that was known before
abbrev pub least_from : Option BindError → List BindError → Option BindError
least_from least found = fold lesser least found

-- a reason that is found exactly where the test holds
abbrev pub found_if : Bool → BindError → List BindError
found_if true reason = reason ∷ []
found_if false reason = []
