-- Short lists that are kept in place.
use Rattle.std.specs.Prelude.{◌≡◌, ◌≤◌, ℕ, Option, Some, List, length, map, take}
use Rattle.std.specs.List.{filter_map}

-- the items that are there
abbrev pub present : {T : Type 0} → List (Option T) → List T
present places = filter_map (λ place. place) places

-- each of so many places in front has an item
pub record IsFront {T : Type 0} (places : List (Option T)) (len : ℕ) : Type 0 where
  pub within : len ≤ 16
  pub whole : length places ≡ 16
  pub filled : map Some (present (take len places)) ≡ take len places
