-- The loops that are entered in a body are within their limit.
use Rattle.std.specs.Prelude.{ℤ, Bool, List, [], ◌∷◌, ◌++◌, map}
use Rattle.std.specs.List.{list_all}
use Rattle.sanlp.specs.declared.nest.Node.{Node}
use Rattle.sanlp.specs.Size.{node_within}

-- the loops that are entered in these parts are within their limit
abbrev pub parts_within : List Node → List ℤ → Bool
parts_within parts at = list_all (λ part. part at) (map node_within parts)

-- and so are those in a body at each value of its loop's variable
abbrev pub turns_within : List Node → List ℤ → List ℤ → Bool
turns_within parts at values = list_all (λ value. parts_within parts (at ++ value ∷ [])) values
