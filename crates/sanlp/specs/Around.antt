-- The loops round a source or a sink. This file names no `Nest`.
use Rattle.std.specs.Prelude.{ℕ, ◌+◌, ℤ, pos, ◌-ℤ◌, List, [], ◌∷◌}
use Rattle.affine_core.specs.Affine.{constant_form}
use Rattle.sanlp.specs.declared.nest.Node.{Node, Loop, Assign}
use Rattle.sanlp.specs.Cells.{natural}

-- one loop of step 1 for each extent, from 0 up to it, with statement s inside; the first loop has this
-- number, and k loops stand round it
abbrev pub loops_round : ℕ → ℕ → List ℤ → ℕ → Node
loops_round id k [] s = Assign s
loops_round id k (e ∷ extents) s =
    let last = constant_form k (pos (natural e) -ℤ pos 1) in
    Loop id (constant_form k (pos 0) ∷ []) (last ∷ []) (pos 1)
    (loops_round (id + 1) (k + 1) extents s ∷ [])
