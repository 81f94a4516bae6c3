-- How statements stand in the text: the text of a loop is one stretch, and orders by it compose.
use Rattle.std.specs.Prelude.{◌≡◌, ◌<◌, ℕ, min, Some, slice_get}
use Rattle.sanlp.specs.declared.nest.Nest.{Nest}
use Rattle.sanlp.specs.declared.nest.Statement.{Statement}
use Rattle.sanlp.specs.Order.{common_loops}

-- Of three statements in the order of the text, the outer two have as many loops in common as the
-- less of what each has with the middle one.
abbrev pub IsContiguous : Nest → Type 0
IsContiguous n =
    (a b c : ℕ) (first middle last : Statement)
    → slice_get n.statements a ≡ Some first → slice_get n.statements b ≡ Some middle
    → slice_get n.statements c ≡ Some last → a < b → b < c
    → common_loops first.loops last.loops
    ≡ min (common_loops first.loops middle.loops) (common_loops middle.loops last.loops)

-- A first statement comes before a middle one by the text, or this before a last one, or both. Where
-- one of the two pairs is in order by the text and has fewer loops in common than the other pair, or
-- where both are in order and have as many in common, the first comes before the last by the text,
-- with as many loops in common as that pair. In all other cases nothing is said.
pub record TextComposes (a b c : ℕ) (first middle last : Statement) : Type 0 where
  pub outer : a < b
      → common_loops first.loops middle.loops < common_loops middle.loops last.loops
      → (a < c)
      × (common_loops first.loops last.loops ≡ common_loops first.loops middle.loops)
  pub inner : b < c
      → common_loops middle.loops last.loops < common_loops first.loops middle.loops
      → (a < c) × (common_loops first.loops last.loops ≡ common_loops middle.loops last.loops)
  pub both : a < b → b < c
      → common_loops first.loops middle.loops ≡ common_loops middle.loops last.loops
      → (a < c)
      × (common_loops first.loops last.loops ≡ common_loops first.loops middle.loops)

-- where one statement stands before a second by the text, or that before a third, at fewer loops than the other two
-- share, or both at as many, the first stands before the third by the text, at as many
abbrev pub OrdersCompose : Nest → Type 0
OrdersCompose n =
    (a b c : ℕ) (first middle last : Statement)
    → slice_get n.statements a ≡ Some first → slice_get n.statements b ≡ Some middle
    → slice_get n.statements c ≡ Some last → TextComposes a b c first middle last
