-- What a contract sees of a process's ends: for each channel the port, where the process has an end of it.
use Rattle.std.specs.Prelude.{◌≡◌, ◌==◌, ◌<◌, ℕ, ℤ, List, length, take, Option, Some, None, slice_get, if◌then◌else◌}
use Rattle.ruled_links.specs.Ports.{Port, port, fresh, moved_by}

-- the stream has a value that wasn't got
abbrev pub CanGet : Option Port → Type 0
CanGet None = ⊥
CanGet (Some p) = length p.moved < length p.stream

-- x is the next value of the stream
abbrev pub IsNext : Option Port → ℤ → Type 0
IsNext None x = ⊥
IsNext (Some p) x = slice_get p.stream (length p.moved) ≡ Some x

abbrev pub grown : Option Port → ℤ → Option Port
grown None x = None
grown (Some p) x = Some (moved_by p x)

-- all ports, after the value x has gone through that of one channel
abbrev pub grown_at : (ℕ → Option Port) → ℕ → ℤ → ℕ → Option Port
grown_at ports channel x c = if c == channel then grown (ports c) x else ports c

-- the port after the first n values of its stream
abbrev pub advanced : Option Port → ℕ → Option Port
advanced None n = None
advanced (Some p) n = Some (port p.stream (take n p.stream))

-- where there is a port, it is one of this stream, and nothing has gone through it
abbrev pub IsFreshFor : List ℤ → Option Port → Type 0
IsFreshFor stream None = Unit {0}
IsFreshFor stream (Some p) = p ≡ fresh stream

-- the process has an end of the channel
abbrev pub IsThere : Option Port → Type 0
IsThere None = ⊥
IsThere (Some p) = Unit {0}
