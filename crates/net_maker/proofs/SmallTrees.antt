-- A checked tree whose numbers are small overflows at no point of its reader.
--
-- The loop values of the reader's points are within the limit of loop values, so at them no form of the tree leaves 128
-- bits. A checked tree is exact: the point that it gives is that of an entry of the trace, whose loop values are within
-- the limit as well, and so no value of a map leaves 64 bits. That a tree's numbers are small is asked of the tree
-- alone.
use Rattle.std.proofs.Common.{◌≡◌, ◌≤◌, ℕ, ℤ, List, [], sym, ap, ◌∙◌, subst}
use Rattle.std.specs.Prelude.{All, IsTrue, Some, get_or, slice_get, unsigned_abs}
use Rattle.std.proofs.lemmas.Option.{get_or_from_slice_get, slice_get_within}
use Rattle.net_core.proofs.FireValues.{turn_entry}
use Rattle.net_maker.specs.StatementPoints.{NeverOverflowsIn}
use Rattle.net_maker.proofs.LoopValues.{AreLoopValues, entry_values, value_fits, value_size}
use Rattle.affine_core.specs.Within.{fits_64_bits}
use Rattle.sanlp.specs.declared.nest.Nest.{Nest}
use Rattle.sanlp.specs.Points.{points_of}
use Rattle.sanlp.specs.Size.{SizeIsOk, is_loop_value}
use Rattle.sanlp.specs.Trace.{trace}
use Rattle.sanlp.specs.Writers.{last_writer}
use Rattle.sanlp.proofs.Each.{all_from_each, each_then}
use Rattle.sanlp.proofs.Enumerates.{enumerates_domains}
use Rattle.source_check.proofs.Exactness.{checked_is_exact}
use Rattle.source_tree.specs.Checked.{IsChecked}
use Rattle.source_tree.specs.Exact.{IsPointOf}
use Rattle.source_tree.specs.Gives.{gives}
use Rattle.source_tree.specs.declared.tree.Found.TheVariants as found
use Rattle.source_tree.specs.declared.tree.Tree.{Tree}
use Rattle.tree_bounds.specs.Bounds.{AreWithin, NeverOverflows}

values_within : (at : List ℤ) → AreLoopValues at → AreWithin 4611686018427387904 at
values_within at values =
    all_from_each (λ v. unsigned_abs v ≤ 4611686018427387904) at
    (each_then (λ v. IsTrue (is_loop_value v)) (λ v. unsigned_abs v ≤ 4611686018427387904) at value_size values)

values_fit : (at : List ℤ) → AreLoopValues at → All (λ v. IsTrue (fits_64_bits v)) at
values_fit at values =
    all_from_each (λ v. IsTrue (fits_64_bits v)) at
    (each_then (λ v. IsTrue (is_loop_value v)) (λ v. IsTrue (fits_64_bits v)) at
    (λ v small. value_fits v (value_size v small)) values)

pub small_never : (n : Nest) (s k : ℕ) (tree : Tree) → SizeIsOk n → IsChecked n s k tree
    → NeverOverflows 4611686018427387904 tree → NeverOverflowsIn n s tree
small_never n s k tree ok checked never f at is none =
    let vectors : List (List ℤ) = get_or (points_of n) s [] in
    let e = turn_entry n s f (slice_get_within vectors f at is) in
    let vector : at ≡ e.point.at = sym (get_or_from_slice_get vectors f at [] is) ∙ e.vector in
    let here : slice_get (trace n) e.entry ≡ Some (record { statement = s; at = at }) =
    e.found ∙ ap (λ (statement : ℕ). Some (record { statement = statement; at = e.point.at })) e.process
    ∙ ap (λ (at : List ℤ). Some (record { statement = s; at = at })) (sym vector) in
    let exact = checked_is_exact n s k tree (enumerates_domains n) checked e.entry at here in
    never at (values_within at (entry_values n ok e.entry (record { statement = s; at = at }) here))
    (λ point given.
    let writer : IsPointOf (trace n) (last_writer n e.entry k) (found.At point) =
    subst (IsPointOf (trace n) (last_writer n e.entry k)) given exact in
    values_fit point.at (entry_values n ok writer.0 point writer.2)) none
