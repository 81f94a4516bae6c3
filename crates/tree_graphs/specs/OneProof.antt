-- What a type keeps of a problem has one proof at most.
use Rattle.std.specs.Prelude.{◌≡◌, ◌<◌, ◌⊎◌, ℕ, List, [], ◌∷◌}
use Rattle.std.specs.Coded.{×_prop, le_prop, Coded-set, coded_ℕ, Unit-prop}
use Rattle.std.proofs.Common.{inl, inr, ap, subst, lt_irrefl}
use Rattle.std.proofs.Props.{props}
use Rattle.affine_core.specs.declared.form.Form.{Form}
use Rattle.tree_graphs.specs.Problems.{AreCells, IsCell}

-- a level is that of a common loop or the one behind them, and not both
pub level_once : (p c a b : ℕ) → IsProp ((p < c) ⊎ ((p ≡ c) × (a < b)))
level_once p c a b (inl x) (inl y) = ap inl (le_prop x y)
level_once p c a b (inl x) (inr y) = absurd (lt_irrefl c (subst (λ n. n < c) y.0 x))
level_once p c a b (inr x) (inl y) = absurd (lt_irrefl c (subst (λ n. n < c) x.0 y))
level_once p c a b (inr x) (inr y) = ap inr (×_prop (Coded-set coded_ℕ p c) le_prop x y)

cell_once : (vars depth : ℕ) (write read : Form) → IsProp (IsCell vars depth write read)
cell_once vars depth write read = Prim.hlevel props

-- two lists of subscripts are cells in one way at most
pub cells_once : (vars depth : ℕ) (writes reads : List Form) → IsProp (AreCells vars depth writes reads)
cells_once vars depth [] [] = Unit-prop
cells_once vars depth [] (read ∷ reads) = λ x. absurd x
cells_once vars depth (write ∷ writes) [] = λ x. absurd x
cells_once vars depth (write ∷ writes) (read ∷ reads) =
    ×_prop (cell_once vars depth write read) (cells_once vars depth writes reads)

-- the set by which a problem is one in one way at most
pub ruleset problem_props = (props, level_once, cells_once)
