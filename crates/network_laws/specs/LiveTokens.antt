-- How many tokens of a channel are live at once at its reader. Get number m takes token m, and stands right before the first
-- use that names its token or a later one.
use Rattle.std.specs.Prelude.{ℕ, suc, List, nat_le}
use Rattle.std.specs.List.{count_by, position_or_len, range_with_len}
use Rattle.reorder_slots.specs.Slots.{is_wanted}

-- the use that this Get stands right before
abbrev pub use_behind : List ℕ → ℕ → ℕ
use_behind uses get = position_or_len (λ token. nat_le get token) uses

-- how many tokens are live as this Get comes: its own, and each earlier one that has a use to come
abbrev pub live_tokens : List ℕ → ℕ → ℕ
live_tokens uses get =
    suc (count_by (is_wanted uses (use_behind uses get)) (range_with_len 0 get))
