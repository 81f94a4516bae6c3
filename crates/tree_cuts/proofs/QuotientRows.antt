-- The rows of a system of a write over quotients, told by those of the statement's own system.
--
-- The context's rows and the order rows are the same in both systems, at the same numbers. Between them come the domain
-- rows and the subscripts, one after the other, each told by the row or the two rows at its number.
use Rattle.std.proofs.Common.{◌≡◌, ◌+◌, ◌*◌, ◌<◌, ◌||◌, ℕ, suc, ℤ, pos, List, [], ◌∷◌, ◌++◌, length}
use Rattle.std.proofs.Common.{true, refl, sym, ap, ◌∙◌, subst, arith}
use Rattle.std.specs.Prelude.{Some, slice_get, nat_lt, unsigned_abs}
use Rattle.std.specs.Option.{option_map_or}
use Rattle.std.proofs.lemmas.Option.{slice_get_within}
use Rattle.affine_core.specs.declared.form.Form.{Form}
use Rattle.int_polyhedra.specs.Steps.{quotient_row}
use Rattle.tree_sums.specs.Made.{parts_of}
use Rattle.tree_sums.specs.Parts.{Part, part_of, row_part}
use Rattle.source_tree.specs.Places.{at_place}
use Rattle.tree_cuts.specs.Class.{is_pair, is_single, stride_of}
use Rattle.tree_cuts.specs.Cuts.{AreSources}
use Rattle.tree_cuts.specs.Sources.{cell_sources, divided_form, domain_sources, own_sources, row_source}
use Rattle.tree_cuts.specs.Sources.{next_place, places_behind, subscript_sources, write_sources}
use Rattle.tree_cuts.proofs.Coefficients.{found_passes}
use Rattle.tree_cuts.proofs.WriterCuts.{domain_multiple}
use Rattle.tree_cuts.proofs.Indivisible.{once_row}
use Rattle.tree_cuts.proofs.RowSources.{multiple_as, row_told, sources_append, stride_divides, IsSmallSystem}
use Rattle.tree_cuts.proofs.Subscripts.{subscript_told, IsSubscriptTold}

pub stride_positive : (form : Form) (c : ℤ) → stride_of form ≡ Some c → 0 < unsigned_abs c
stride_positive form c e = above (unsigned_abs c) (found_passes form.coefs c e) where
  above : (m : ℕ) → nat_lt 1 m ≡ true → 0 < m
  above m e = grind arith

-- Rows that are the same

pub own_told : (vars : ℕ) (rows : List Form) (first : ℕ) (told : List Form)
    → ((k : ℕ) (row : Form) → slice_get told k ≡ Some row → slice_get rows (first + k) ≡ Some row)
    → AreSources vars rows (own_sources first (length told)) told
own_told vars rows first [] h = tt
own_told vars rows first (row ∷ told) h =
    let here : slice_get rows first ≡ Some row =
    (let e : first ≡ first + 0 = omega arith in ap (slice_get rows) e) ∙ h 0 row refl in (
      here,
      own_told vars rows (first + 1) told
          (λ k other is. (let e : first + 1 + k ≡ first + suc k = omega arith in ap (slice_get rows) e) ∙ h (suc k) other is),
    )

-- Domain rows

-- a domain row and the row that is told, the first of which has this number
pub record IsRowTold (vars : ℕ) (rows : List Form) (place : List Form) (k : ℕ) (form row : Form) : Type 0 where
  pub own : Form
  pub own_is : slice_get rows k ≡ Some own
  pub of_class : (is_single form || is_pair form) ≡ true
  pub own_parts : (part : Part) → part_of part own ≡ parts_of (at_place form place) part
  pub over : length row.coefs ≡ vars
  pub parts : (part : Part) → part_of part row ≡ parts_of (at_place (divided_form form) place) part

pub domain_row_told : (vars : ℕ) (rows : List Form) (place : List Form) (k : ℕ) (form row : Form)
    → IsSmallSystem vars rows → IsRowTold vars rows place k form row → AreSources vars rows (row_source form k ∷ []) (row ∷ [])
domain_row_told vars rows place k form row small h =
    row_told vars rows k form h.own row (parts_of (at_place (divided_form form) place)) small h.own_is h.over h.parts
    (λ none part. ap (λ o. parts_of (at_place (option_map_or (λ c. quotient_row (unsigned_abs c) form) o form) place) part) none
    ∙ sym (h.own_parts part))
    (λ c is.
    (let positive : 0 < unsigned_abs c = stride_positive form c is in
    let inside : k < length rows = slice_get_within rows k h.own h.own_is in
    let at : (part : Part) → row_part rows part k ≡ parts_of (at_place form place) part =
    λ part. ap (λ o. option_map_or (part_of part) o (pos 0)) h.own_is ∙ h.own_parts part in (
      positive,
      multiple_as rows (unsigned_abs c) (once_row k ∷ [])
          (parts_of (at_place (quotient_row (unsigned_abs c) form) place)) (parts_of (at_place (divided_form form) place))
          (λ part. sym (ap (λ o. parts_of
          (at_place (option_map_or (λ c. quotient_row (unsigned_abs c) form) o form) place) part) is))
          (domain_multiple rows (unsigned_abs c) k form place positive inside
          (stride_divides form c positive h.of_class is) at),
    )))

abbrev pub AreRowsTold : ℕ → List Form → List Form → ℕ → List Form → List Form → Type 0
AreRowsTold vars rows place k [] [] = Unit {0}
AreRowsTold vars rows place k [] (row ∷ told) = ⊥
AreRowsTold vars rows place k (form ∷ forms) [] = ⊥
AreRowsTold vars rows place k (form ∷ forms) (row ∷ told) =
    IsRowTold vars rows place k form row × AreRowsTold vars rows place (k + 1) forms told

pub domain_told : (vars : ℕ) (rows : List Form) (place : List Form) (k : ℕ) (forms told : List Form)
    → IsSmallSystem vars rows → AreRowsTold vars rows place k forms told
    → AreSources vars rows (domain_sources forms k) told
domain_told vars rows place k [] [] small h = tt
domain_told vars rows place k [] (row ∷ told) small h = absurd h
domain_told vars rows place k (form ∷ forms) [] small h = absurd h
domain_told vars rows place k (form ∷ forms) (row ∷ told) small h =
    sources_append vars rows (row_source form k ∷ []) (domain_sources forms (k + 1)) (row ∷ []) told
    (domain_row_told vars rows place k form row small h.0)
    (domain_told vars rows place (k + 1) forms told small h.1)

-- Subscripts

-- two rows that are told for each subscript, whose own rows stand from this number on and whose tests at these places
abbrev pub AreCellsTold : ℕ → List Form → ℕ → ℕ → List ℕ → List Form → List Form → Type 0
AreCellsTold vars rows number root places [] [] = Unit {0}
AreCellsTold vars rows number root places [] (row ∷ told) = ⊥
AreCellsTold vars rows number root places (write ∷ writes) [] = ⊥
AreCellsTold vars rows number root places (write ∷ writes) (high ∷ []) = ⊥
AreCellsTold vars rows number root places (write ∷ writes) (high ∷ (low ∷ told)) =
    ((one two : Form)
    × IsSubscriptTold vars rows write number (number + 1) (root + 2 * next_place places) one two high low)
    × AreCellsTold vars rows (number + 2) root (places_behind write places) writes told

pub cells_told : (vars : ℕ) (rows : List Form) (number root : ℕ) (places : List ℕ) (writes told : List Form)
    → IsSmallSystem vars rows → AreCellsTold vars rows number root places writes told
    → AreSources vars rows (subscript_sources writes number root places) told
cells_told vars rows number root places [] [] small h = tt
cells_told vars rows number root places [] (row ∷ told) small h = absurd h
cells_told vars rows number root places (write ∷ writes) [] small h = absurd h
cells_told vars rows number root places (write ∷ writes) (high ∷ []) small h = absurd h
cells_told vars rows number root places (write ∷ writes) (high ∷ (low ∷ told)) small h =
    let own = h.0 in
    let test : ℕ = root + 2 * next_place places in
    sources_append vars rows (cell_sources write number (number + 1) test)
    (subscript_sources writes (number + 2) root (places_behind write places)) (high ∷ low ∷ []) told
    (subscript_told vars rows write number (number + 1) test own.0 own.1 high low small own.2)
    (cells_told vars rows (number + 2) root (places_behind write places) writes told small h.1)

-- The whole system

pub write_told : (vars : ℕ) (rows : List Form) (place forms writes : List Form) (root : ℕ) (places : List ℕ) (here : ℕ)
    (context domain cells order : List Form) → IsSmallSystem vars rows → length context ≡ here
    → ((k : ℕ) (row : Form) → slice_get context k ≡ Some row → slice_get rows k ≡ Some row)
    → AreRowsTold vars rows place here forms domain → AreCellsTold vars rows (here + length forms) root places writes cells
    → ((k : ℕ) (row : Form) → slice_get order k ≡ Some row
    → slice_get rows (here + length forms + 2 * length writes + k) ≡ Some row)
    → AreSources vars rows (write_sources forms writes root places here (length order))
    (context ++ (domain ++ (cells ++ order)))
write_told vars rows place forms writes root places here context domain cells order small count same rows_told'
    cells_told' ordered =
    sources_append vars rows (own_sources 0 here)
    (domain_sources forms here
    ++ (subscript_sources writes (here + length forms) root places
    ++ own_sources (here + length forms + 2 * length writes) (length order)))
    context (domain ++ (cells ++ order))
    (subst (λ n. AreSources vars rows (own_sources 0 n) context) count
    (own_told vars rows 0 context
    (λ k row is. (let e : 0 + k ≡ k = omega arith in ap (slice_get rows) e) ∙ same k row is)))
    (sources_append vars rows (domain_sources forms here)
    (subscript_sources writes (here + length forms) root places
    ++ own_sources (here + length forms + 2 * length writes) (length order)) domain (cells ++ order)
    (domain_told vars rows place here forms domain small rows_told')
    (sources_append vars rows (subscript_sources writes (here + length forms) root places)
    (own_sources (here + length forms + 2 * length writes) (length order)) cells order
    (cells_told vars rows (here + length forms) root places writes cells small cells_told')
    (own_told vars rows (here + length forms + 2 * length writes) order ordered)))
