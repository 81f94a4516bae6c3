-- The class of a channel, from its uses: for each use, in the reader's order, the index of the token that it names.
use Rattle.std.specs.Prelude.{ℕ, Bool, true, false, ◌==◌, ◌&&◌, ◌||◌, nat_le, if◌then◌else◌, List, [], ◌∷◌}
use Rattle.std.specs.List.{list_any}
use Rattle.channel_class.specs.declared.ChannelClass.{ChannelClass}
use Rattle.channel_class.specs.declared.UseOrder.TheVariants.{InOrder, Reorder}

-- no use is below the one before it
abbrev pub never_falls : List ℕ → Bool
never_falls [] = true
never_falls (m ∷ []) = true
never_falls (m ∷ (n ∷ uses)) = nat_le m n && never_falls (n ∷ uses)

-- some index stands twice, anywhere in the list
abbrev pub has_repeat : List ℕ → Bool
has_repeat [] = false
has_repeat (m ∷ uses) = list_any (λ n. m == n) uses || has_repeat uses

-- in order exactly where the uses never fall, with multiplicity exactly where an index is repeated
abbrev pub class_of : List ℕ → ChannelClass
class_of uses =
    record { order = if never_falls uses then InOrder else Reorder; multiplicity = has_repeat uses }
