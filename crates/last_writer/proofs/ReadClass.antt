-- The read that is asked, and its class.
--
-- A read is told by its statement and its number there. Whether it is in the class is told by the writes of its array,
-- which come statement by statement.
use Rattle.std.proofs.Common.{◌≡◌, ◌+◌, ◌&&◌, ℕ, List, ◌∷◌, refl, sym, ap, ◌∙◌, subst}
use Rattle.std.specs.Prelude.{Option, Some, None, IsTrue, slice_get, ◌↔◌}
use Rattle.std.specs.List.{list_all}
use Rattle.std.specs.Option.{option_map}
use Rattle.std.proofs.lemmas.Option.{option_and_then_some, same_Some}
use Rattle.tree_graphs.specs.Class.{writes_differences, IsInDifferenceClass}
use Rattle.sanlp.specs.declared.nest.Access.{Access}
use Rattle.sanlp.specs.declared.nest.Nest.{Nest}
use Rattle.sanlp.specs.declared.nest.Statement.{Statement}
use Rattle.sanlp.proofs.Enumerates.{enumerates_domains}
use Rattle.source_check.proofs.Exactness.{checked_is_exact}
use Rattle.source_tree.specs.Checked.{IsChecked}
use Rattle.source_tree.specs.Exact.{IsExact}
use Rattle.source_tree.specs.Systems.{Occurrence, array_writes, read_at, with_write, write_to}
use Rattle.source_tree.specs.Systems.{writes_from}
use Rattle.source_tree.specs.declared.tree.Tree.{Tree}

-- a read that is there
pub record IsThere (n : Nest) (s k : ℕ) (r : Occurrence) : Type 0 where
  pub statement : slice_get n.statements s ≡ Some r.statement
  pub access : slice_get r.statement.reads k ≡ Some r.access

pub reader_there : (n : Nest) (s k : ℕ) (r : Occurrence) → read_at n s k ≡ Some r → IsThere n s k r
reader_there n s k r is =
    option_and_then_some (λ (st : Statement). option_map
    (λ (access : Access). record { number = s; statement = st; access = access }) (slice_get st.reads k))
    (slice_get n.statements s) r is
    (λ st at inner. of_access st at (slice_get st.reads k) refl inner) where
      of_access : (st : Statement) → slice_get n.statements s ≡ Some st → (o : Option Access) → slice_get st.reads k ≡ o
          → option_map (λ (access : Access). record { number = s; statement = st; access = access }) o ≡ Some r
          → IsThere n s k r
      of_access st at None e inner = absurd (let f : None ≡ Some r = inner in cc)
      of_access st at (Some access) e inner =
          let same : record { number = s; statement = st; access = access } ≡ r =
          same_Some (record { number = s; statement = st; access = access }) r inner in
          record {
            statement = at ∙ ap (λ (o : Occurrence). Some o.statement) same;
            access = ap (λ (o : Occurrence). slice_get o.statement.reads k) (sym same) ∙ e
                ∙ ap (λ (o : Occurrence). Some o.access) same;
          }

-- the class, of a read that is there
pub class_of : (n : Nest) (s k : ℕ) (r : Occurrence) → read_at n s k ≡ Some r
    → IsTrue (list_all writes_differences (array_writes n r)) ↔ IsInDifferenceClass n s k
class_of n s k r is = (
  λ h. (r, is, h),
  λ h. (let same : h.0 ≡ r = same_Some h.0 r (sym h.1 ∙ is)
      in subst (λ r. IsTrue (list_all writes_differences (array_writes n r))) same h.2),
)

-- The writes of statements

pub differences_none : (array u : ℕ) (s : Statement) (statements : List Statement) → write_to array u s ≡ None
    → list_all writes_differences (writes_from array u (s ∷ statements))
    ≡ list_all writes_differences (writes_from array (u + 1) statements)
differences_none array u s statements is =
    ap (λ o. list_all writes_differences (with_write o (writes_from array (u + 1) statements))) is

pub differences_some : (array u : ℕ) (s : Statement) (statements : List Statement) (w : Occurrence) → write_to array u s
    ≡ Some w
    → list_all writes_differences (writes_from array u (s ∷ statements))
    ≡ (writes_differences w && list_all writes_differences (writes_from array (u + 1) statements))
differences_some array u s statements w is =
    ap (λ o. list_all writes_differences (with_write o (writes_from array (u + 1) statements))) is

-- The whole tree

pub exact_of : (n : Nest) (s k : ℕ) (tree : Tree) → IsChecked n s k tree → IsExact n s k tree
exact_of n s k tree checked = checked_is_exact n s k tree (enumerates_domains n) checked
