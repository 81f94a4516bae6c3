-- The fields of a record, one after the other.
use Rattle.std.proofs.Common.{List, ◌++◌, Result, Ok, Err}
use Rattle.array_data.specs.declared.error.DataError.{DataError}

-- these values, and then those of what is left, if all are there
abbrev pub behind : {A : Type 0} → List A → Result (List A) DataError → Result (List A) DataError
behind values (Ok more) = Ok (values ++ more)
behind values (Err fault) = Err fault
