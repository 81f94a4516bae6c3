-- Rows that are known to be arithmetic progressions.
--
-- Each that is kept was looked at when it was added, so what is kept tells of itself alone: no place among the kept rows
-- says anything of another. A row that takes another's place leaves all others as they stand. Nothing is said of where a
-- row is kept, since a row that isn't found there is looked at again.
use Rattle.std.proofs.Common.{◌≡◌, ◌<◌, ℕ, zero, suc, ℤ, Option, Some, None, List, length, replicate, slice_get, slice_set}
use Rattle.std.proofs.Common.{sym, ap, ◌∙◌, subst, arith, inl, inr}
use Rattle.std.proofs.lemmas.Bool.{cases_lt}
use Rattle.std.proofs.lemmas.Option.{same_Some}
use Rattle.plain_data.proofs.Lists.{slice_get-set_other, slice_get-set_same}
use Rattle.net_checker.specs.declared.known_rows.KnownRows.{KnownRows}
use Rattle.net_checker.specs.declared.known_rows.Row.{Row}
use Rattle.net_checker.specs.Tables.{AreProgressions, IsRow}

pub nothing_kept : (n k : ℕ) (row : Row) → slice_get (replicate n None) k ≡ Some (Some row) → ⊥
nothing_kept zero k row e = cc
nothing_kept (suc n) zero row e = cc
nothing_kept (suc n) (suc k) row e = nothing_kept n k row e

pub row_known : (known : KnownRows) (k : ℕ) (kept row : Row) → slice_get known.rows k ≡ Some (Some kept) → kept ≡ row
    → (points : List (List (List ℤ))) → AreProgressions points known → IsRow points row
row_known known k kept row is same points all = subst (IsRow points) same (all k kept is)

row_at : (rows : List (Option Row)) (k j : ℕ) (row kept : Row) (points : List (List (List ℤ)))
    → ((i : ℕ) (other : Row) → slice_get rows i ≡ Some (Some other) → IsRow points other) → IsRow points row
    → k < length rows → slice_get (slice_set rows k (Some row)) j ≡ Some (Some kept) → j ≡ k → IsRow points kept
row_at rows k j row kept points all is lt at e =
    let here : Some (Some row) ≡ Some (Some kept) =
    sym (slice_get-set_same rows k (Some row) lt) ∙ ap (slice_get (slice_set rows k (Some row))) (sym e) ∙ at in
    subst (IsRow points) (same_Some row kept (same_Some (Some row) (Some kept) here)) is

pub row_added : (old new : KnownRows) (k : ℕ) (row : Row) → k < length old.rows
    → new.rows ≡ slice_set old.rows k (Some row) → (points : List (List (List ℤ))) → AreProgressions points old
    → IsRow points row → AreProgressions points new
row_added old new k row lt e points all is j kept at =
    let there : slice_get (slice_set old.rows k (Some row)) j ≡ Some (Some kept) =
    sym (ap (λ rows. slice_get rows j) e) ∙ at in
    elim (cases_lt j k) [
      | inl before ↦
          all j kept (sym (slice_get-set_other old.rows k j (Some row) (λ same. omega (arith, before, same))) ∙ there)
      | inr behind ↦
          elim (cases_lt k j) [
            | inl after ↦
                all j kept (sym (slice_get-set_other old.rows k j (Some row) (λ same. omega (arith, after, same)))
                ∙ there)
            | inr last ↦ row_at old.rows k j row kept points all is lt there (omega (arith, behind, last))
          ]
    ]
