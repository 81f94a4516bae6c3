-- The text that tells where each read of a nest has its values from.
use Rattle.std.specs.Prelude.{◌≡◌, ℕ, ℤ, List, [], ◌∷◌, ◌++◌, Option, Some, None, codes, decimal, length, slice_get}
use Rattle.std.specs.List.{flat_map}
use Rattle.std.specs.Option.{option_and_then, option_map_or}
use Rattle.point_text.specs.PointText.{point_text, vector_text}
use Rattle.sanlp.specs.Laws.{entries_of}
use Rattle.sanlp.specs.Trace.{trace}
use Rattle.sanlp.specs.Writers.{last_writer}
use Rattle.sanlp.specs.declared.nest.Nest.{Nest}
use Rattle.sanlp.specs.declared.nest.Point.{Point}
use Rattle.source_tree.specs.declared.cert.Origin.{Origin}
use Rattle.source_tree.specs.declared.cert.Origin.TheVariants.{Sweep, Tree}
use Rattle.text_out.specs.Words.{line_text}
use Rattle.deps_text.specs.Dependences.{AreDependences}
use Rattle.deps_text.specs.TreeLines.{lines_of_tree}
use Rattle.deps_text.specs.declared.dependence.Dependence.{Dependence}

-- a point, or `zero` where there is none
abbrev pub source_word : Option Point → List ℕ
source_word None = codes "zero"
source_word (Some point) = point_text point

-- the iteration vector of a point of the reader, and the point that it has its value from
abbrev pub fire_line : List ℤ → Option Point → List ℕ
fire_line at source = line_text (vector_text at ∷ source_word source ∷ [])

-- the point of the last writer of what entry t of the trace has as its read k, or none
abbrev pub writing_point : Nest → ℕ → ℕ → Option Point
writing_point n k t = option_and_then (slice_get (trace n)) (last_writer n t k)

-- entry t of the trace, with the last writer of its read k
abbrev pub entry_text : Nest → ℕ → ℕ → List ℕ
entry_text n k t =
    option_map_or (λ p. fire_line p.at (writing_point n k t)) (slice_get (trace n) t) []

-- how many points the reader has, and a line for each, in order
abbrev pub points_text : Nest → ℕ → ℕ → List ℕ
points_text n s k =
    let entries = entries_of (trace n) s in
    line_text (codes "points" ∷ decimal (length entries) ∷ []) ++ flat_map (entry_text n k) entries

-- read k of statement s has its values from a tree, or from the last writers
abbrev pub origin_text : Nest → ℕ → ℕ → Origin → List ℕ
origin_text n s k (Tree tree) = line_text (codes "tree" ∷ []) ++ lines_of_tree tree
origin_text n s k Sweep = points_text n s k

-- a read, and where it has its values from
abbrev pub dependence_text : Nest → Dependence → List ℕ
dependence_text n d =
    line_text (codes "read" ∷ decimal d.statement ∷ decimal d.read ∷ [])
    ++ origin_text n d.statement d.read d.origin

-- the version of the text, and the dependences
abbrev pub deps_text : Nest → List Dependence → List ℕ
deps_text n dependences =
    line_text (codes "deps" ∷ codes "1" ∷ [])
    ++ (flat_map (dependence_text n) dependences ++ line_text (codes "end" ∷ []))

-- This text tells the dependences of a nest: each read has an exact tree, or its last writer at every
-- point where it has none. The shape of a tree is free, so there are many such texts.
abbrev pub TellsDependences : Nest → List ℕ → Type 0
TellsDependences n text =
    (dependences : List Dependence) × AreDependences n dependences
    × (text ≡ deps_text n dependences)
