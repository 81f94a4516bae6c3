-- What each place wants of its line, and what the line then says.
use Rattle.std.specs.Prelude.{ℕ, nat_le, if◌then◌else◌, List, [], ◌∷◌, bytes_eq, codes, length, Result, Ok, Err}
use Rattle.std.specs.List.{join_with_byte}
use Rattle.net_core.specs.declared.network.Channel.{Channel}
use Rattle.net_core.specs.declared.network.Event.{Event}
use Rattle.net_core.specs.declared.network.Event.TheVariants.{Get, Fire, Put}
use Rattle.cert_lines.specs.declared.error.Fault.{Fault}
use Rattle.cert_lines.specs.declared.error.Fault.TheVariants.{Words}
use Rattle.cert_lines.specs.Words.{both, made, number}
use Rattle.cert_text.specs.declared.places.PartLine.{PartLine}
use Rattle.cert_text.specs.declared.places.PartLine.TheVariants as of_part
use Rattle.cert_text.specs.declared.places.Sizes.{Sizes}
use Rattle.cert_text.specs.declared.places.ProcessHead.{ProcessHead}
use Rattle.cert_text.specs.declared.places.SourceLine.{SourceLine}
use Rattle.cert_text.specs.declared.places.SourceLine.TheVariants.{Sweep, Tree}
use Rattle.cert_text.specs.declared.places.Version.{Version}
use Rattle.cert_text.specs.declared.places.Version.TheVariants.{One, Two}
use Rattle.cert_text.specs.Words.{at_least, class, references}

-- `cert` and the version
abbrev pub version_line : List (List ℕ) → Result Version Fault
version_line words =
    if bytes_eq (join_with_byte 32 words) (codes "cert 1") then Ok One
    else if bytes_eq (join_with_byte 32 words) (codes "cert 2") then Ok Two
    else Err Words

-- `sizes` and four numbers
abbrev pub sizes_line : List (List ℕ) → Result Sizes Fault
sizes_line (word ∷ processes ∷ channels ∷ sources ∷ parts ∷ []) =
    if bytes_eq word (codes "sizes")
    then made
    (λ n. record { processes = n.0.0; channels = n.0.1; sources = n.1.0; parts = n.1.1 })
    (both (both (number processes) (number channels)) (both (number sources) (number parts)))
    else Err Words
sizes_line words = Err Words

-- `process` and two numbers
abbrev pub process_line : List (List ℕ) → Result ProcessHead Fault
process_line (word ∷ slots ∷ parts ∷ []) =
    if bytes_eq word (codes "process")
    then made (λ n. record { slots = n.0; parts = n.1 }) (both (number slots) (number parts))
    else Err Words
process_line words = Err Words

-- what stands behind `g`: two numbers
abbrev pub get_words : List (List ℕ) → Result Event Fault
get_words (channel ∷ slot ∷ []) = made (λ n. Get n.0 n.1) (both (number channel) (number slot))
get_words words = Err Words

-- what stands behind `f`: at most eight references
abbrev pub fire_words : List (List ℕ) → Result Event Fault
fire_words words = if nat_le (length words) 8 then made Fire (references words) else Err Words

-- what stands behind `p`: one number
abbrev pub put_words : List (List ℕ) → Result Event Fault
put_words (channel ∷ []) = made Put (number channel)
put_words words = Err Words

abbrev pub event_line : List (List ℕ) → Result Event Fault
event_line [] = Err Words
event_line (word ∷ words) =
    if bytes_eq word (codes "g") then get_words words
    else if bytes_eq word (codes "f") then fire_words words
    else if bytes_eq word (codes "p") then put_words words
    else Err Words

-- `channel`, four numbers and a class
abbrev pub channel_line : List (List ℕ) → Result Channel Fault
channel_line (word ∷ writer ∷ reader ∷ read ∷ capacity ∷ order ∷ []) =
    if bytes_eq word (codes "channel")
    then made
    (λ n. record {
      writer = n.0.0.0;
      reader = n.0.0.1;
      read = n.0.1.0;
      capacity = n.0.1.1;
      class = n.1;
    })
    (both (both (both (number writer) (number reader)) (both (number read) (number capacity)))
    (class order))
    else Err Words
channel_line words = Err Words

-- `sweep` or `tree`
abbrev pub source_line : List (List ℕ) → Result SourceLine Fault
source_line (word ∷ []) =
    if bytes_eq word (codes "sweep") then Ok Sweep
    else if bytes_eq word (codes "tree") then Ok Tree
    else Err Words
source_line words = Err Words

-- one number
abbrev pub entry_line : List (List ℕ) → Result ℕ Fault
entry_line (process ∷ []) = number process
entry_line words = Err Words

-- what stands behind `r`: a count from 2, and a number of parts from 1
abbrev pub repeat_words : {T : Type 0} → List (List ℕ) → Result (PartLine T) Fault
repeat_words (count ∷ parts ∷ []) =
    made (λ n. of_part.Repeat n.0 n.1)
    (both (at_least 2 (number count)) (at_least 1 (number parts)))
repeat_words words = Err Words

-- an item, or in version 2 a repeat
abbrev pub part_line : {T : Type 0} → (List (List ℕ) → Result T Fault) → Version → List (List ℕ)
    → Result (PartLine T) Fault
part_line item One words = made of_part.Item (item words)
part_line item Two [] = made of_part.Item (item [])
part_line item Two (word ∷ words) =
    if bytes_eq word (codes "r") then repeat_words words
    else made of_part.Item (item (word ∷ words))
