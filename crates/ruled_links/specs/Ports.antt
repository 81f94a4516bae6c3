-- What a contract sees of one end of a link.
use Rattle.std.specs.Prelude.{◌≡◌, ℕ, ℤ, List, [], ◌∷◌, ◌++◌, slice_index_or}
use Rattle.atomic_table.specs.Seated.{TableId}

-- a stream, and how much of it has gone through
pub record Port : Type 0 where
  pub stream : List ℤ
  pub moved : List ℤ

-- a stream with how much of it has gone through
abbrev pub port : List ℤ → List ℤ → Port
port stream moved = record { stream = stream; moved = moved }

-- a port through which nothing has gone
abbrev pub fresh : List ℤ → Port
fresh stream = port stream []

-- a port after one value more has gone through
abbrev pub moved_by : Port → ℤ → Port
moved_by p x = port p.stream (p.moved ++ x ∷ [])

-- one end: its line, which is the channel of values that it is an end of; what has gone through it; and how many values
-- its link holds
pub record LinkEnd : Type 0 where
  pub line : TableId
  pub port : Port
  pub capacity : ℕ

-- one end of a link: its line, its port and how many values the link holds
abbrev pub link_end : TableId → Port → ℕ → LinkEnd
link_end line port capacity = record { line = line; port = port; capacity = capacity }

-- both are ends of the same line, so what is put into the one comes out of the other
abbrev pub AreOfOneLine : LinkEnd → LinkEnd → Type 0
AreOfOneLine put get = put.line ≡ get.line

-- the stream of a channel; a channel that isn't there has none
abbrev pub stream_at : List (List ℤ) → ℕ → List ℤ
stream_at streams channel = slice_index_or streams channel []
