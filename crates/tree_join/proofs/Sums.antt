-- Terms in the places of order rows, loop by loop.
--
-- What `push_orders` adds in one step is the head of `order_sums`, and what it adds from there on is `order_sums` of
-- the loops behind, two rows further where a loop is equal. The level falls with the loops, so one step serves all.
-- Nothing is said here of what the terms show: that is told of `order_sums` itself.
use Rattle.std.proofs.Common.{◌≡◌, ◌+◌, ℕ, zero, suc, List, [], ◌∷◌, ◌++◌, refl, sym, ap, ◌∙◌}
use Rattle.std.specs.Prelude.{Option, Some}
use Rattle.std.proofs.lemmas.List.{append_assoc}
use Rattle.int_polyhedra.specs.declared.system.Term.{Term}
use Rattle.tree_join.specs.Leaves.{order_sums}
use Rattle.tree_order.specs.declared.order.Equality.{Equality}
use Rattle.tree_graphs.specs.Paths.{term_of}

-- the loop that is strict, at the level or above it
pub sums_last : (strict : List Term) (level start row : ℕ) → (level ≡ 0 → row ≡ start)
    → ((less : ℕ) → level ≡ suc less → row ≡ start + 1)
    → order_sums [] (Some strict) level start ≡ (term_of row ∷ strict) ∷ []
sums_last strict zero start row h k = ap (λ n. (term_of n ∷ strict) ∷ []) (sym (h refl))
sums_last strict (suc less) start row h k = ap (λ n. (term_of n ∷ strict) ∷ []) (sym (k less refl))

-- an equal loop at the level
pub sums_first : (e : Equality) (equal : List Equality) (strict : Option (List Term)) (level start : ℕ) → level ≡ 0
    → order_sums (e ∷ equal) strict level start ≡ (term_of start ∷ e.below) ∷ []
sums_first e equal strict level start is = ap (λ n. order_sums (e ∷ equal) strict n start) is

-- an equal loop above it
pub sums_next : (e : Equality) (equal : List Equality) (strict : Option (List Term)) (level less start : ℕ) → level
    ≡ suc less
    → order_sums (e ∷ equal) strict level start ≡ (term_of start ∷ e.above) ∷ (term_of (start + 1) ∷ e.below)
    ∷ order_sums equal strict less (start + 2)
sums_next e equal strict level less start is = ap (λ n. order_sums (e ∷ equal) strict n start) is

-- lists of terms that are added one after the other
pub two_and_more : {X : Type 0} (old first second new rest : List X) (x y : X) → first ≡ old ++ x ∷ [] → second ≡ first
    ++ y ∷ [] → new ≡ second ++ rest → new ≡ old ++ x ∷ (y ∷ rest)
two_and_more old first second new rest x y e f g =
    g ∙ ap (λ xs. xs ++ rest) f ∙ append_assoc first (y ∷ []) rest ∙ ap (λ xs. xs ++ (y ∷ rest)) e
    ∙ append_assoc old (x ∷ []) (y ∷ rest)
