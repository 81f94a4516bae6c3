-- Lists of points, one for each statement.
use Rattle.std.specs.Prelude.{ℤ, List, [], ◌∷◌, ◌++◌, slice_set, slice_index_or}
use Rattle.sanlp.specs.declared.nest.Point.{Point}

-- the lists with a point at the end of its statement's
abbrev pub with_point : List (List (List ℤ)) → Point → List (List (List ℤ))
with_point lists p = slice_set lists p.statement (slice_index_or lists p.statement [] ++ p.at ∷ [])
