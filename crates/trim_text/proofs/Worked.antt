-- The text of least capacities, written out by hand: a line for each capacity, with all positions that are given for its
-- channel. A channel for which none are given has none, positions without a channel are told nowhere, and a text without
-- its last line is none.
use Rattle.std.proofs.Common.{◌≡◌, [], ◌∷◌, codes, length, ap, refl, arith}
use Rattle.std.specs.Fmt.{digits}
use Rattle.trim_text.specs.TrimText.{channel_line, trim_text}

two_channels : trim_text (1 ∷ 12 ∷ []) ((1 ∷ 0 ∷ []) ∷ (8 ∷ 106 ∷ []) ∷ [])
    ≡ codes "trim 1\nchannel 0 capacity 1 rest 1 0\nchannel 1 capacity 12 rest 8 106\nend\n"
unfolding digits
two_channels = refl

no_channel : trim_text [] [] ≡ codes "trim 1\nend\n"
no_channel = refl

without_positions : channel_line 10 3 [] ≡ codes "channel 10 capacity 3 rest\n"
unfolding digits
without_positions = refl

fewer_lists : trim_text (2 ∷ 2 ∷ []) ((5 ∷ []) ∷ [])
    ≡ codes "trim 1\nchannel 0 capacity 2 rest 5\nchannel 1 capacity 2 rest\nend\n"
unfolding digits
fewer_lists = refl

more_lists : trim_text [] ((1 ∷ []) ∷ []) ≡ codes "trim 1\nend\n"
more_lists = refl

the_last_line_is_wanted : trim_text [] [] ≡ codes "trim 1\n" → ⊥
the_last_line_is_wanted e = let lengths : 11 ≡ 7 = ap length e in omega (arith, lengths)
