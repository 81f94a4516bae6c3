-- What the definitions come to on small texts.
use Rattle.std.proofs.Common.{◌≡◌, ℕ, List, [], ◌∷◌, ◌++◌, Ok, Err, codes, append-nil, refl, ap, ◌∙◌, arith}
use Rattle.std.specs.Fmt.{digits}
use Rattle.net_core.specs.declared.network.Event.{Event}
use Rattle.net_core.specs.declared.network.Event.TheVariants.{Get, Fire}
use Rattle.net_core.specs.declared.refs.Ref.TheVariants.{Slot}
use Rattle.script_blocks.specs.declared.blocks.Blocks.{Blocks}
use Rattle.script_blocks.specs.declared.blocks.BlockPart.TheVariants.{Item}
use Rattle.script_blocks.specs.declared.blocks.BlockPart.TheViews.{Repeat}
use Rattle.cert_lines.specs.declared.error.CertError.TheVariants.{Line, Number, Truncated}
use Rattle.cert_lines.specs.Reading.{many}
use Rattle.cert_text.specs.CertText.{end_text, entry_text, event_text, part_text, parts_text, repeat_text}
use Rattle.cert_text.specs.Folding.{FoldedProcess}
use Rattle.cert_text.specs.Reading.{part, reading}
use Rattle.cert_text.specs.StandsFor.{written_text}
use Rattle.cert_text.specs.Stretches.{stretch_blocks, stretch_part, stretches}
use Rattle.cert_text.proofs.Texts.{more_text, text_item, text_repeat}

-- Versions

nothing : reading (codes "cert 2\nsizes 0 0 0 0\nend\n")
    ≡ Ok (record { processes = []; channels = [] }, record { sources = []; schedule = [] })
unfolding many reading
nothing = refl

third_version : reading (codes "cert 3\nsizes 0 0 0 0\nend\n") ≡ Err (Line 1)
unfolding many reading
third_version = refl

open_version : reading (codes "cert 2") ≡ Err Truncated
unfolding many reading
open_version = refl

-- Repeats

repeat_of_one : reading (codes "cert 2\nsizes 0 0 0 1\nr 1 1\n0\nend\n") ≡ Err (Number 3)
unfolding many part reading
repeat_of_one = refl

empty_body : reading (codes "cert 2\nsizes 0 0 0 1\nr 2 0\nend\n") ≡ Err (Number 3)
unfolding many part reading
empty_body = refl

old_repeat : reading (codes "cert 1\nsizes 0 0 0 1\nr 2 1\n0\nend\n") ≡ Err (Line 3)
unfolding many part reading
old_repeat = refl

long_body : reading (codes "cert 2\nsizes 0 0 0 1\nr 2 2\n0\nend\n") ≡ Err (Line 5)
unfolding many part reading
long_body = refl

-- Stretches

few_stretches : stretches (0 ∷ 0 ∷ 1 ∷ 0 ∷ [])
    ≡ record { times = 2; entry = 0 } ∷ record { times = 1; entry = 1 } ∷ record { times = 1; entry = 0 } ∷ []
few_stretches = refl

-- What is written: the blocks of a script as they are, and the schedule by its stretches

abbrev turn : Blocks Event
turn = record { parts = Item (Get 0 0) ∷ Item (Fire (Slot 0 ∷ [])) ∷ [] }

abbrev three_turns : FoldedProcess
three_turns = record { slots = 1; script = record { parts = Repeat 3 turn ∷ [] } }

turn_lines : parts_text event_text turn.parts ≡ codes "g 0 0\nf 0\n"
unfolding digits
turn_lines =
    ap (λ (text : List ℕ). text ++ (part_text event_text (Item (Fire (Slot 0 ∷ []))) ++ []))
    (text_item event_text (Get 0 0))
    ∙ ap (λ (text : List ℕ). event_text (Get 0 0) ++ (text ++ [])) (text_item event_text (Fire (Slot 0 ∷ [])))

script_lines : parts_text event_text three_turns.script.parts ≡ codes "r 3 2\ng 0 0\nf 0\n"
unfolding digits
script_lines =
    append-nil (part_text event_text (Repeat 3 turn))
    ∙ text_repeat event_text 3 turn
    ∙ ap (λ (text : List ℕ). repeat_text 3 2 ++ text) turn_lines

schedule_lines : parts_text entry_text (stretch_blocks (0 ∷ 0 ∷ [])).parts ≡ codes "r 2 1\n0\n"
unfolding digits
schedule_lines =
    append-nil (part_text entry_text (stretch_part (record { times = 2; entry = 0 })))
    ∙ more_text 2 0 (λ e. omega (arith, e))

written : written_text (three_turns ∷ []) [] (record { sources = []; schedule = 0 ∷ 0 ∷ [] })
    ≡ codes "cert 2\nsizes 1 0 0 1\nprocess 1 1\nr 3 2\ng 0 0\nf 0\nr 2 1\n0\nend\n"
unfolding digits
written =
    ap (λ (text : List ℕ). codes "cert 2\nsizes 1 0 0 1\n" ++ (((codes "process 1 1\n" ++ text) ++ [])
    ++ (parts_text entry_text (stretch_blocks (0 ∷ 0 ∷ [])).parts ++ end_text))) script_lines
    ∙ ap (λ (text : List ℕ). codes "cert 2\nsizes 1 0 0 1\nprocess 1 1\nr 3 2\ng 0 0\nf 0\n" ++ (text ++ end_text))
    schedule_lines
