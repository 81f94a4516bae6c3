-- Lists kept by kinds: one item of each kind, and at each place of the list a label, the number of the kind of its item.
use Rattle.std.specs.Prelude.{ℕ, ◌<◌, List, length, map, filter_map, slice_get, slice_index_or, All}

-- the items that these labels stand for
abbrev pub items_at : {T : Type 0} → List T → List ℕ → List T
items_at kinds labels = filter_map (slice_get kinds) labels

-- each label is the number of a kind
abbrev pub AreBelow : {T : Type 0} → List T → List ℕ → Type 0
AreBelow kinds labels = All (λ label. label < length kinds) labels

-- the items that these labels stand for, and the other item where a label is none of a kind
abbrev pub items_or : {T : Type 0} → List T → T → List ℕ → List T
items_or kinds other labels = map (λ label. slice_index_or kinds label other) labels
