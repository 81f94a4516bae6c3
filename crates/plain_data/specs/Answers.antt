-- What a call that may want memory answers.
use Rattle.std.specs.Prelude.{◌≡◌, ◌≢◌, Result, Ok, Err}

-- An answer is the one that is wanted, unless it tells want of memory.
abbrev pub IsUnlessMemory : {A E : Type 0} → E → Result A E → Result A E → Type 0
IsUnlessMemory memory (Ok value) wanted = wanted ≡ Ok value
IsUnlessMemory memory (Err error) wanted = error ≢ memory → wanted ≡ Err error
