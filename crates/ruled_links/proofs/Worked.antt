-- Worked rows of the definitions.
use Rattle.std.proofs.Common.{◌≡◌, ◌==◌, ℕ, List, [], ◌∷◌, refl, arith}
use Rattle.std.specs.Prelude.{ℤ, pos, Option, Some, None, if◌then◌else◌}
use Rattle.atomic_table.specs.Seated.{TableId}
use Rattle.ruled_links.specs.Ports.{Port, port, fresh, link_end, AreOfOneLine, stream_at}
use Rattle.ruled_links.specs.Channels.{IsNext, grown_at, advanced}
use Rattle.ruled_links.specs.Rule.{put_view, get_view, IsPair}

abbrev one_two_three : List ℤ
one_two_three = pos 1 ∷ pos 2 ∷ pos 3 ∷ []

-- the process has an end of channel 1 alone
abbrev ports : ℕ → Option Port
ports c = if c == 1 then Some (fresh one_two_three) else None

first_is_next : IsNext (ports 1) (pos 1)
first_is_next = refl

one_value_more : grown_at ports 1 (pos 1) 1 ≡ Some (port one_two_three (pos 1 ∷ []))
one_value_more = refl

no_end_of_channel_0 : grown_at ports 1 (pos 1) 0 ≡ None
no_end_of_channel_0 = refl

two_values : advanced (ports 1) 2 ≡ Some (port one_two_three (pos 1 ∷ pos 2 ∷ []))
two_values = refl

stream_of_channel_1 : stream_at ([] ∷ one_two_three ∷ []) 1 ≡ one_two_three
stream_of_channel_1 = refl

-- what has gone through an end says nothing of its line
one_line : (line : TableId)
    → AreOfOneLine (link_end line (port one_two_three (pos 1 ∷ [])) 1) (link_end line (fresh one_two_three) 1)
one_line line = refl

-- two were put and one of them got, so one is held
one_is_held : IsPair (pos 2 ∷ [])
    (put_view one_two_three 1 (pos 1 ∷ pos 2 ∷ []) ∷ get_view one_two_three 1 (pos 1 ∷ []) ∷ [])
one_is_held = record {
  stream = one_two_three;
  capacity = 1;
  put = pos 1 ∷ pos 2 ∷ [];
  got = pos 1 ∷ [];
  both = refl;
  balance = refl;
  prefix = (pos 3 ∷ [], refl);
  room = omega arith;
}
