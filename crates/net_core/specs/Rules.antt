-- What a rule limits, and the rules of tags and of values.
use Rattle.std.specs.Prelude.{◌≡◌, ◌<◌, ℕ, ℤ, pos, List, [], length, map, Option, Some, None, slice_get, slice_index_or, unwrap_or}
use Rattle.std.specs.Option.{option_map_or, option_and_then}
use Rattle.wrap_expr.specs.Value.{value_of}
use Rattle.sanlp.specs.declared.nest.Inputs.{Inputs}
use Rattle.sanlp.specs.declared.nest.Nest.{Nest}
use Rattle.sanlp.specs.declared.nest.Tag.{Tag}
use Rattle.sanlp.specs.Access.{given_at, read_count}
use Rattle.sanlp.specs.Points.{points_of}
use Rattle.net_core.specs.declared.refs.Ref.{Ref}
use Rattle.net_core.specs.declared.refs.Ref.TheVariants.{Zero, Slot}
use Rattle.net_core.specs.declared.network.Event.TheVariants.{Fire}
use Rattle.net_core.specs.Machine.{Net, Rule}
use Rattle.net_core.specs.Shape.{fires, turns}
use Rattle.net_core.specs.Names.{tag}

-- how many fires a process has under a rule, and how many references each
pub record Limits : Type 0 where
  pub fires : ℕ
  pub references : ℕ

-- a fire of this turn with so many references keeps to the limits, if there are any
abbrev pub KeepsTo : Option Limits → ℕ → ℕ → Type 0
KeepsTo None turn references = Unit {0}
KeepsTo (Some limits) turn references = (turn < limits.fires) × (references ≡ limits.references)

-- every fire of the network keeps to a rule's limits
abbrev pub AllKeepTo : Net → (ℕ → Option Limits) → Type 0
AllKeepTo n limits =
    (p k : ℕ) (refs : List Ref) → slice_get (n.script p) k ≡ Some (Fire refs)
    → KeepsTo (limits p) (fires n p k) (length refs)

-- each fire gives its tag
abbrev pub tags : Rule Tag
tags p turn refs slots = tag p turn

-- what a reference reads: 0 for Zero and for a slot that was never filled
abbrev pub read_slot : List (Option ℤ) → Ref → ℤ
read_slot slots Zero = pos 0
read_slot slots (Slot k) = unwrap_or (option_and_then (λ token. token) (slice_get slots k)) (pos 0)

-- the iteration vector of a process's turn
abbrev pub vector_at : List (List (List ℤ)) → ℕ → ℕ → List ℤ
vector_at points p turn = slice_index_or (slice_index_or points p []) turn []

-- each fire gives the value of the statement's expression at the process's next point, over what its references read
abbrev pub values : Nest → Inputs → Rule ℤ
values n d p turn refs slots =
    let at = vector_at (points_of n) p turn in
    option_map_or
    (λ statement. value_of statement.expr
    (record {
      at = at;
      reads = map
          (read_slot slots) refs;
      given = given_at n d statement.role at;
    }))
    (slice_get n.statements p) (pos 0)

-- the numbers of the nest's points and reads
abbrev pub value_limits : Nest → ℕ → Option Limits
value_limits n p = Some (record { fires = turns (points_of n) p; references = read_count n p })
