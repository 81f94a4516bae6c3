-- How many lists of values stand after a nest: one for each array.
use Rattle.std.proofs.Common.{◌≡◌, ℕ, suc, ◌+◌, List, [], ◌∷◌, length, refl, ap}
use Rattle.sanlp.specs.Memory.{Memory}
use Rattle.sanlp.specs.Meaning.{arrays, arrays_from, exec}
use Rattle.sanlp.specs.declared.nest.ArrayDecl.{ArrayDecl}
use Rattle.sanlp.specs.declared.nest.Inputs.{Inputs}
use Rattle.sanlp.specs.declared.nest.Nest.{Nest}

length-arrays_from : (m : Memory) (a : ℕ) (list : List ArrayDecl) → length (arrays_from m a list) ≡ length list
length-arrays_from m a [] = refl
length-arrays_from m a (array ∷ list) = ap suc (length-arrays_from m (a + 1) list)

pub length-arrays : (n : Nest) (d : Inputs) → length (arrays n d) ≡ length n.arrays
length-arrays n d = length-arrays_from (exec n d) 0 n.arrays
