-- The accesses of a nest's statements.
use Rattle.std.proofs.Common.{◌≡◌, ◌<◌, ℕ, zero, suc, List, [], ◌∷◌, map, length, get_or, refl, ap, ◌∙◌, subst, arith}
use Rattle.std.specs.Prelude.{Option, Some, slice_get}
use Rattle.sanlp.specs.declared.nest.Statement.{Statement}
use Rattle.cell_rows.specs.declared.narrow_access.NarrowStatement.{NarrowStatement}
use Rattle.cell_rows.specs.Narrow.{narrowed}

-- the accesses of a statement
narrow_item : (statements : List Statement) (i : ℕ) (s : Statement) (narrow : NarrowStatement)
    → slice_get statements i ≡ Some s → narrow ≡ get_or (map narrowed statements) i narrow → narrow ≡ narrowed s
narrow_item [] i s narrow e f = cc e
narrow_item (x ∷ statements) zero s narrow e f =
    let g : ◌≡◌ {A = Option Statement} (Some x) (Some s) = e in let same : x ≡ s = cc g in f ∙ ap narrowed same
narrow_item (x ∷ statements) (suc i) s narrow e f = narrow_item statements i s narrow e f

pub narrow_of : (statements : List Statement) (accesses : List NarrowStatement) (i : ℕ) (s : Statement)
    (narrow : NarrowStatement)
    → accesses ≡ map narrowed statements → slice_get statements i ≡ Some s → narrow ≡ get_or accesses i narrow
    → narrow ≡ narrowed s
narrow_of statements accesses i s narrow same e f =
    narrow_item statements i s narrow e (subst (λ (list : List NarrowStatement). narrow ≡ get_or list i narrow) same f)

-- and the statement that has them
narrow_at : (statements : List Statement) (i : ℕ) (narrow : NarrowStatement) → i < length statements
    → narrow ≡ get_or (map narrowed statements) i narrow
    → (s : Statement) × (slice_get statements i ≡ Some s) × (narrow ≡ narrowed s)
narrow_at [] i narrow lt e = absurd (omega arith)
narrow_at (s ∷ statements) zero narrow lt e = (s, refl, e)
narrow_at (s ∷ statements) (suc i) narrow lt e = narrow_at statements i narrow (omega arith) e

pub statement_of_narrow : (statements : List Statement) (accesses : List NarrowStatement) (i : ℕ)
    (narrow : NarrowStatement)
    → accesses ≡ map narrowed statements → i < length statements → narrow ≡ get_or accesses i narrow
    → (s : Statement) × (slice_get statements i ≡ Some s) × (narrow ≡ narrowed s)
statement_of_narrow statements accesses i narrow same lt e =
    narrow_at statements i narrow lt (subst (λ (list : List NarrowStatement). narrow ≡ get_or list i narrow) same e)
