-- The rule of a link: what holds at every moment of the values in the channel, oldest first, and of the views of its passes.
use Rattle.std.specs.Prelude.{◌≡◌, ◌≤◌, ◌⊎◌, ℕ, ℤ, true, false, List, [], ◌∷◌, ◌++◌, length}
use Rattle.atomic_table.specs.Seated.{TableId}
use Rattle.crossbeam_channel.specs.declared.flavors.array.Rows.{Rows}
use Rattle.ruled_links.specs.declared.rule.View.{View}

-- which channel it is: the table by which its sends and receives take turns, which no other one has
abbrev pub line_of : {S D Q M K L A : Type 0} → Rows S D Q M K L A → TableId
line_of channel = channel.stamps.shared.table_id

abbrev pub IsPrefix : List ℤ → List ℤ → Type 0
IsPrefix xs ys = (rest : List ℤ) × (ys ≡ xs ++ rest)

-- what the put end's pass knows before the get end's was split off: no stream was named and nothing was put
abbrev pub opening : View
opening = record { puts = true; split = false; stream = []; moved = []; capacity = 0 }

abbrev pub put_view : List ℤ → ℕ → List ℤ → View
put_view stream capacity put =
    record { puts = true; split = true; stream = stream; moved = put; capacity = capacity }

abbrev pub get_view : List ℤ → ℕ → List ℤ → View
get_view stream capacity got =
    record { puts = false; split = true; stream = stream; moved = got; capacity = capacity }

-- nothing was split off: there is one pass, and the channel is empty
pub record IsAlone (held : List ℤ) (views : List View) : Type 0 where
  pub only : views ≡ opening ∷ []
  pub empty : held ≡ []

-- There is one pass of each end, and both know the same stream and the capacity. What was got and then what is held is
-- what was put, which is a prefix of the stream, and no more is held than the capacity.
pub record IsPair (held : List ℤ) (views : List View) : Type 0 where
  pub stream : List ℤ
  pub capacity : ℕ
  pub put : List ℤ
  pub got : List ℤ
  pub both : views ≡ put_view stream capacity put ∷ get_view stream capacity got ∷ []
  pub balance : put ≡ got ++ held
  pub prefix : IsPrefix put stream
  pub room : length held ≤ capacity

abbrev pub Linked : List ℤ → List View → Type 0
Linked held views = IsAlone held views ⊎ IsPair held views
