-- The words of references, classes and repeats.
use Rattle.std.specs.Prelude.{ℕ, true, false, nat_le, if◌then◌else◌, List, [], ◌∷◌, bytes_eq, codes, find, ok_or, Result, Ok, Err}
use Rattle.channel_class.specs.declared.ChannelClass.{ChannelClass}
use Rattle.channel_class.specs.declared.UseOrder.TheVariants.{InOrder, Reorder}
use Rattle.net_core.specs.declared.refs.Ref.{Ref}
use Rattle.net_core.specs.declared.refs.Ref.TheVariants.{Zero, Slot}
use Rattle.net_text.specs.NetworkText.{class_word}
use Rattle.cert_lines.specs.declared.error.Fault.{Fault}
use Rattle.cert_lines.specs.declared.error.Fault.TheVariants.{Words, Range}
use Rattle.cert_lines.specs.Words.{both, made, number}

-- `z` for no token, or the number of a slot
abbrev pub reference : List ℕ → Result Ref Fault
reference word = if bytes_eq word (codes "z") then Ok Zero else made Slot (number word)

-- each of these words
abbrev pub references : List (List ℕ) → Result (List Ref) Fault
references [] = Ok []
references (word ∷ words) =
    made (λ refs. refs.0 ∷ refs.1) (both (reference word) (references words))

abbrev pub classes : List ChannelClass
classes =
    record { order = InOrder; multiplicity = false }
    ∷ record { order = InOrder; multiplicity = true }
    ∷ record { order = Reorder; multiplicity = false }
    ∷ record { order = Reorder; multiplicity = true } ∷ []

-- the class that has this word
abbrev pub class : List ℕ → Result ChannelClass Fault
class word = ok_or (find (λ class. bytes_eq (class_word class) word) classes) Words

-- a number that is not below the least
abbrev pub at_least : ℕ → Result ℕ Fault → Result ℕ Fault
at_least least (Ok n) = if nat_le least n then Ok n else Err Range
at_least least (Err fault) = Err fault
