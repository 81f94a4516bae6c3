-- The read that is asked, and the writes of statements, which come one statement after the other.
use Rattle.std.proofs.Common.{◌≡◌, ◌+◌, ◌&&◌, ◌==◌, cond, ℕ, List, ◌∷◌, Bool, true, false, refl, sym, ap, ◌∙◌, subst, arith}
use Rattle.std.specs.Prelude.{Some, None, IsTrue, nat_le, slice_get, ◌↔◌}
use Rattle.std.specs.List.{list_all, sum_by}
use Rattle.std.specs.Option.{option_and_then, option_map}
use Rattle.std.proofs.lemmas.Bool.{leb-true, le-leb, and_right, and_parts, and_from}
use Rattle.std.proofs.lemmas.List.Sums.{sum_by-cons}
use Rattle.std.proofs.lemmas.Option.{same_Some}
use Rattle.sanlp.specs.declared.nest.Access.{Access}
use Rattle.sanlp.specs.declared.nest.Nest.{Nest}
use Rattle.sanlp.specs.declared.nest.Statement.{Statement}
use Rattle.source_tree.specs.Systems.{Occurrence, array_writes, read_at, with_write, write_to, writes_from}
use Rattle.tree_cuts.specs.Class.{stride_count, writes_strides, IsInStrideClass}

-- the read of a statement that is there
pub read_is : (n : Nest) (s k : ℕ) (statement : Statement) (access : Access) → slice_get n.statements s ≡ Some statement
    → slice_get statement.reads k ≡ Some access
    → read_at n s k ≡ Some (record { number = s; statement = statement; access = access })
read_is n s k statement access f g =
    ap (option_and_then (λ (st : Statement). option_map
    (λ (access : Access). record { number = s; statement = st; access = access }) (slice_get st.reads k))) f
    ∙ ap (option_map (λ (access : Access). record { number = s; statement = statement; access = access })) g

-- writes of the forms of the class, with no more than so many strides
abbrev pub passes : ℕ → List Occurrence → Bool
passes left writes = list_all writes_strides writes && nat_le (sum_by stride_count writes) left

pub writes_nothing : (array u : ℕ) (s : Statement) → s.write ≡ None → write_to array u s ≡ None
writes_nothing array u s is =
    ap (option_and_then
    (λ (a : Access). cond (a.array == array) (Some (record { number = u; statement = s; access = a })) None)) is

pub writes_elsewhere : (array u : ℕ) (s : Statement) (access : Access) → s.write ≡ Some access
    → (access.array == array) ≡ false → write_to array u s ≡ None
writes_elsewhere array u s access is other =
    ap (option_and_then
    (λ (a : Access). cond (a.array == array) (Some (record { number = u; statement = s; access = a })) None)) is
    ∙ ap (λ b. cond b (Some (record { number = u; statement = s; access = access })) None) other

pub writes_here : (array u : ℕ) (s : Statement) (access : Access) → s.write ≡ Some access → (access.array == array) ≡ true
    → write_to array u s ≡ Some (record { number = u; statement = s; access = access })
writes_here array u s access is same =
    ap (option_and_then
    (λ (a : Access). cond (a.array == array) (Some (record { number = u; statement = s; access = a })) None)) is
    ∙ ap (λ b. cond b (Some (record { number = u; statement = s; access = access })) None) same

pub passes_none : (left array u : ℕ) (s : Statement) (statements : List Statement) → write_to array u s ≡ None
    → passes left (writes_from array u (s ∷ statements)) ≡ passes left (writes_from array (u + 1) statements)
passes_none left array u s statements is =
    ap (λ o. passes left (with_write o (writes_from array (u + 1) statements))) is

-- with a write first, whose strides are taken off what is left
pub passes_some : (left array u : ℕ) (s : Statement) (statements : List Statement) (w : Occurrence)
    → write_to array u s ≡ Some w
    → passes left (writes_from array u (s ∷ statements)) ≡ passes left (w ∷ writes_from array (u + 1) statements)
passes_some left array u s statements w is =
    ap (λ o. passes left (with_write o (writes_from array (u + 1) statements))) is

pub fails_first : (left : ℕ) (w : Occurrence) (ws : List Occurrence) → writes_strides w ≡ false → passes left (w ∷ ws) ≡ false
fails_first left w ws e =
    ap (λ (b : Bool). (b && list_all writes_strides ws) && nat_le (sum_by stride_count (w ∷ ws)) left) e

pub fails_many : (left : ℕ) (w : Occurrence) (ws : List Occurrence) → nat_le (stride_count w) left ≡ false
    → passes left (w ∷ ws) ≡ false
fails_many left w ws e =
    let many : nat_le (sum_by stride_count (w ∷ ws)) left ≡ false =
    ap (λ n. nat_le n left) (sum_by-cons stride_count w ws)
    ∙ past (stride_count w) (sum_by stride_count ws) left e in
    ap (λ (b : Bool). list_all writes_strides (w ∷ ws) && b) many ∙ and_right (list_all writes_strides (w ∷ ws)) false refl where
      past : (a b left : ℕ) → nat_le a left ≡ false → nat_le (a + b) left ≡ false
      past a b left e = grind arith

pub passes_first : (left : ℕ) (w : Occurrence) (ws : List Occurrence) (rest : ℕ) → writes_strides w ≡ true
    → stride_count w + rest ≡ left → passes left (w ∷ ws) ≡ passes rest ws
passes_first left w ws rest is even =
    ap (λ (b : Bool). (b && list_all writes_strides ws) && nat_le (sum_by stride_count (w ∷ ws)) left) is
    ∙ ap (λ (b : Bool). list_all writes_strides ws && b)
    (ap (λ n. nat_le n left) (sum_by-cons stride_count w ws)
    ∙ within (stride_count w) (sum_by stride_count ws) left rest even) where
      within : (a b left rest : ℕ) → a + rest ≡ left → nat_le (a + b) left ≡ nat_le b rest
      within a b left rest e = grind arith

-- the class, of a read that is there
pub class_of : (n : Nest) (s k : ℕ) (r : Occurrence) → read_at n s k ≡ Some r
    → IsTrue (passes 6 (array_writes n r)) ↔ IsInStrideClass n s k
class_of n s k r is = (
  λ h.
      (let b = and_parts (list_all writes_strides (array_writes n r))
      (nat_le (sum_by stride_count (array_writes n r)) 6) h in
      record {
        read = r;
        is_read = is;
        each = b.0;
        few = leb-true (sum_by stride_count (array_writes n r)) 6 b.1;
      }),
  λ h.
      (let same : h.read ≡ r = same_Some h.read r (sym h.is_read ∙ is) in
      subst (λ r. IsTrue (passes 6 (array_writes n r))) same
      (and_from (list_all writes_strides (array_writes n h.read))
      (nat_le (sum_by stride_count (array_writes n h.read)) 6) h.each
      (le-leb (sum_by stride_count (array_writes n h.read)) 6 h.few))),
)
