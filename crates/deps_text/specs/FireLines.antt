-- The lines of points, from the points of a nest and its exact table.
use Rattle.std.specs.Prelude.{◌≡◌, ℕ, ℤ, List, Bool, true, false, ◌&&◌, ◌||◌, nat_lt, Option, Some, None, IsTrue, is_some}
use Rattle.std.specs.List.{enumerate_from, flat_map, list_all}
use Rattle.std.specs.Option.{option_map}
use Rattle.net_core.specs.Rules.{vector_at}
use Rattle.sanlp.specs.Access.{read_count}
use Rattle.sanlp.specs.Points.{points_of}
use Rattle.sanlp.specs.declared.nest.Nest.{Nest}
use Rattle.sanlp.specs.declared.nest.Tag.{Tag}
use Rattle.source_tree.specs.Sources.{sources_of}
use Rattle.source_tree.specs.declared.cert.Origin.{Origin}
use Rattle.source_tree.specs.declared.cert.Origin.TheVariants.{Sweep, Tree}
use Rattle.deps_text.specs.Dependences.{AllHaveTrees, AreDependences}
use Rattle.deps_text.specs.DepsText.{fire_line}
use Rattle.deps_text.specs.declared.dependence.Dependence.{Dependence}
use Rattle.deps_text.specs.declared.swept.Swept.{Swept}

-- the line of a turn of the reader, with the tag of what it reads there
abbrev pub turn_line : List (List (List ℤ)) → ℕ → ℕ → Option Tag → List ℕ
turn_line points reader turn source =
    fire_line (vector_at points reader turn)
    (option_map
    (λ t. record { statement = t.process; at = vector_at points t.process t.turn }) source)

-- a line for each of these sources, the first being that of turn 0
abbrev pub turn_lines : List (List (List ℤ)) → ℕ → List (Option Tag) → List ℕ
turn_lines points reader sources =
    flat_map (λ numbered. turn_line points reader numbered.0 numbered.1) (enumerate_from 0 sources)

-- the points of a nest, and its exact table
pub record IsSweptOf (n : Nest) (swept : Swept) : Type 0 where
  pub points : swept.points.of ≡ points_of n
  pub table : swept.table.of ≡ sources_of n

abbrev pub is_tree : Origin → Bool
is_tree (Tree tree) = true
is_tree Sweep = false

-- the dependence can be told: it is of a read of the nest, and it has a tree or the nest was swept
abbrev pub can_be_told : Nest → Option Swept → Dependence → Bool
can_be_told n swept d =
    nat_lt d.read (read_count n d.statement) && (is_tree d.origin || is_some swept)

-- what was swept, if anything, is of this nest
abbrev pub IsSweptOfIfAny : Nest → Option Swept → Type 0
IsSweptOfIfAny n swept = (found : Swept) → swept ≡ Some found → IsSweptOf n found

-- All dependences of a nest can be told, where something was swept or every read has a tree.
abbrev pub CanBeTold : Nest → Type 0
CanBeTold n =
    (dependences : List Dependence) (swept : Option Swept) → AreDependences n dependences
    → (swept ≡ None → AllHaveTrees n) → IsTrue (list_all (can_be_told n swept) dependences)
