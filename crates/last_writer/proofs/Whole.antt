-- The systems of all writers of an array are those of the writers that were gathered: the others stand at no level before the
-- read, and have no systems.
use Rattle.std.proofs.Common.{◌≡◌, ℕ, List, [], ◌∷◌, ◌++◌, map, Bool, true, false}
use Rattle.std.proofs.Common.{cond, refl, sym, ap, ◌∙◌, arith}
use Rattle.std.specs.Prelude.{nat_lt}
use Rattle.std.specs.List.{filter, flat_map}
use Rattle.std.proofs.lemmas.List.{nil_from_length}
use Rattle.tree_order.specs.Candidates.{levels_before}
use Rattle.tree_join.proofs.LevelCounts.{level_rows_count}
use Rattle.last_writer.specs.Writers.{stands_before, AreWriters}
use Rattle.stride_trees.specs.declared.writers.Writer.{Writer}
use Rattle.sanlp.specs.declared.nest.Nest.{Nest}
use Rattle.source_tree.specs.Places.{before_rows}
use Rattle.source_tree.specs.Rows.{RowExpr}
use Rattle.source_tree.specs.Systems.{Context, Occurrence, array_writes, every, reader_place, with_rows, with_write_at}
use Rattle.source_tree.specs.Systems.{write_systems, writer_place}
use Rattle.stride_trees.specs.Strides.{write_of}
use Rattle.stride_trees.specs.declared.divisions.Division.{Division}

-- a write at no level before the read has no systems
pub no_systems : (r u : Occurrence) (c : Context) (further : Occurrence → List (List RowExpr))
    → stands_before r u ≡ false → write_systems r every c further u ≡ []
no_systems r u c further denies =
    let none : levels_before u r ≡ 0 = zero_where (levels_before u r) denies in
    let rows : before_rows u.number u.statement (writer_place c u) r.number r.statement (reader_place r) ≡ []
    = nil_from_length (before_rows u.number u.statement (writer_place c u) r.number r.statement (reader_place r))
    (level_rows_count r u c ∙ none) in
    ap (λ (levels : List (List RowExpr)). flat_map (λ (p : List RowExpr). map (λ (q : List RowExpr).
    with_rows (with_write_at r c u) (p ++ q)) (further u)) levels) rows where
      zero_where : (m : ℕ) → nat_lt 0 m ≡ false → m ≡ 0
      zero_where m e = grind arith

filtered : {X Y : Type 0} (f : X → List Y) (p : X → Bool) → ((x : X) → p x ≡ false → f x ≡ []) → (xs : List X)
    → flat_map f (filter p xs) ≡ flat_map f xs
filtered f p none [] = refl
filtered f p none (x ∷ xs) = go (p x) refl (filtered f p none xs) where
  go : (b : Bool) → p x ≡ b → flat_map f (filter p xs) ≡ flat_map f xs
      → flat_map f (cond b (x ∷ filter p xs) (filter p xs)) ≡ f x ++ flat_map f xs
  go true e rest = ap (λ ys. f x ++ ys) rest
  go false e rest = rest ∙ ap (λ ys. ys ++ flat_map f xs) (sym (none x e))

-- the systems of all writes of the array
pub own_are : (n : Nest) (r : Occurrence) (tests : List Division) (c : Context)
    (further : Occurrence → List (List RowExpr)) (writers : List Writer)
    → AreWriters n r (array_writes n r) tests writers
    → flat_map (write_systems r every c further) (map (λ (w : Writer). write_of w.strides) writers)
    ≡ flat_map (write_systems r every c further) (array_writes n r)
own_are n r tests c further writers h =
    ap (flat_map (write_systems r every c further)) h.are
    ∙ filtered (write_systems r every c further) (stands_before r) (λ u. no_systems r u c further) (array_writes n r)
