-- What the nest says of a read, of the writers of its array and of the entries of the trace.
use Rattle.std.proofs.Common.{◌≡◌, ◌+◌, ◌<◌, ◌==◌, ◌&&◌, ℕ, zero, suc, ℤ, pos, List, [], ◌∷◌, length, Bool, true}
use Rattle.std.proofs.Common.{false, cond, refl, sym, ap, ◌∙◌, subst, arith, eqb-true}
use Rattle.std.specs.Prelude.{Option, Some, None, slice_get, nat_lt, int_le, IsTrue}
use Rattle.std.specs.List.{list_all}
use Rattle.std.specs.Option.{option_map, option_map_or, option_and_then}
use Rattle.std.proofs.lemmas.Bool.{eq-eqb, and_parts, and_from}
use Rattle.std.proofs.lemmas.Option.{same_Some, option_and_then_some}
use Rattle.affine_core.specs.declared.form.Form.{Form}
use Rattle.affine_core.specs.Affine.{form_at}
use Rattle.affine_core.proofs.Integers.{int_le-true, le-int_le}
use Rattle.sanlp.specs.declared.nest.Access.{Access}
use Rattle.sanlp.specs.declared.nest.ArrayDecl.{ArrayDecl}
use Rattle.sanlp.specs.declared.nest.Nest.{Nest}
use Rattle.sanlp.specs.declared.nest.Point.{Point}
use Rattle.sanlp.specs.declared.nest.Statement.{Statement}
use Rattle.sanlp.specs.Loops.{all_hold}
use Rattle.sanlp.specs.Order.{EnumeratesDomains, Precedes, PrecedesWithin, common_loops, loops_round_point}
use Rattle.sanlp.specs.WellFormed.{access_fits, form_fits, depth_of, is_moderate, statement_fits}
use Rattle.sanlp.proofs.Each.{Each}
use Rattle.sanlp.proofs.Elements.{list_all_at}
use Rattle.sanlp.proofs.Precedence.{loops_found}
use Rattle.sanlp.proofs.Roles.{fits_of}
use Rattle.source_tree.specs.Systems.{Occurrence, read_at, write_to, with_write, writes_from, named_write}
use Rattle.source_check.proofs.Values.{AllHold}

abbrev occurrence : ℕ → Statement → Access → Occurrence
occurrence u s access = record { number = u; statement = s; access = access }

-- every form is over this many variables
abbrev pub AreOver : ℕ → List Form → Type 0
AreOver vars forms = Each (λ (form : Form). length form.coefs ≡ vars) forms

pub record IsReader (n : Nest) (r : Occurrence) : Type 0 where
  pub is : slice_get n.statements r.number ≡ Some r.statement
  pub writes : (u : ℕ) (s : Statement) (access : Access) → slice_get n.statements u ≡ Some s → s.write ≡ Some access
      → access.array ≡ r.access.array
      → length access.subscripts ≡ length r.access.subscripts
  pub rows_over : AreOver (length r.statement.loops) r.statement.rows
  pub reads_over : AreOver (length r.statement.loops) r.access.subscripts

forms_over : (depth : ℕ) (forms : List Form) → list_all (form_fits depth) forms ≡ true → AreOver depth forms
forms_over depth [] e = tt
forms_over depth (f ∷ forms) e =
    let b = and_parts (form_fits depth f) (list_all (form_fits depth) forms) e in
    let c = and_parts ((length f.coefs == depth) && is_moderate f.constant) (list_all is_moderate f.coefs) b.0 in
    let d = and_parts (length f.coefs == depth) (is_moderate f.constant) c.0 in
    (eqb-true (length f.coefs) depth d.0, forms_over depth forms b.1)

-- an access has as many subscripts as its array has extents
pub subscripts_of : {C : Type 0} (arrays : List ArrayDecl) (depth : ℕ) (access : Access)
    → access_fits arrays depth access ≡ true
    → ((array : ArrayDecl) → slice_get arrays access.array ≡ Some array
    → length access.subscripts ≡ length array.extents → AreOver depth access.subscripts → C) → C
subscripts_of {C = C} arrays depth access e go =
    let known : Bool =
    option_map_or (λ (array : ArrayDecl). length access.subscripts == length array.extents)
    (slice_get arrays access.array) false in
    let b = and_parts known (list_all (form_fits depth) access.subscripts) e in
    find (slice_get arrays access.array) refl b.0 (forms_over depth access.subscripts b.1) where
      find : (o : Option ArrayDecl) → slice_get arrays access.array ≡ o
          → option_map_or (λ (array : ArrayDecl). length access.subscripts == length array.extents) o false ≡ true
          → AreOver depth access.subscripts → C
      find None is e over = absurd (let f : false ≡ true = e in cc)
      find (Some array) is e over = go array is (eqb-true (length access.subscripts) (length array.extents) e) over

-- two accesses of one array have as many subscripts
same_subscripts : (arrays : List ArrayDecl) (d e : ℕ) (a b : Access) → access_fits arrays d a ≡ true
    → access_fits arrays e b ≡ true → a.array ≡ b.array
    → length a.subscripts ≡ length b.subscripts
same_subscripts arrays d e a b fa fb same =
    subscripts_of arrays d a fa
    (λ array is many over. subscripts_of arrays e b fb
    (λ array' is' many' over'.
    let one : array ≡ array' = same_Some array array' (sym is ∙ ap (slice_get arrays) same ∙ is') in
    many ∙ ap (λ (array : ArrayDecl). length array.extents) one ∙ sym many'))

pub statement_fits_at : (n : Nest) (u : ℕ) (s : Statement) → slice_get n.statements u ≡ Some s
    → IsTrue (statement_fits n.arrays s)
statement_fits_at n u s is = list_all_at (statement_fits n.arrays) n.statements u s n.well_formed.statements_fit is

pub write_fits_at : (n : Nest) (u : ℕ) (s : Statement) (access : Access) → slice_get n.statements u ≡ Some s
    → s.write ≡ Some access → access_fits n.arrays (depth_of s) access ≡ true
write_fits_at n u s access is w =
    ap (λ o. option_map_or (access_fits n.arrays (depth_of s)) o true) (sym w)
    ∙ (fits_of n.arrays s (statement_fits_at n u s is)).write_fits

-- what a read that stands in the nest is
pub read_parts : {C : Type 0} (n : Nest) (s k : ℕ) (r : Occurrence) → read_at n s k ≡ Some r
    → (r.number ≡ s → slice_get n.statements s ≡ Some r.statement → slice_get r.statement.reads k ≡ Some r.access → C)
    → C
read_parts {C = C} n s k r e go =
    option_and_then_some (λ (st : Statement). option_map (occurrence s st) (slice_get st.reads k))
    (slice_get n.statements s) r e (λ st is is'. find st is (slice_get st.reads k) refl is') where
      find : (st : Statement) → slice_get n.statements s ≡ Some st → (o : Option Access) → slice_get st.reads k ≡ o
          → option_map (occurrence s st) o ≡ Some r → C
      find st is None read e = absurd (let f : None ≡ Some r = e in cc)
      find st is (Some access) read e =
          let same : occurrence s st access ≡ r = same_Some (occurrence s st access) r e in
          let P : Occurrence → Type 0 =
          λ r. (r.number ≡ s → slice_get n.statements s ≡ Some r.statement
          → slice_get r.statement.reads k ≡ Some r.access → C) → C in
          subst P same (λ go. go refl is read) go

pub is_reader : (n : Nest) (s k : ℕ) (r : Occurrence) → read_at n s k ≡ Some r → IsReader n r
is_reader n s k r e =
    read_parts n s k r e
    (λ number is read.
    let here : slice_get n.statements r.number ≡ Some r.statement = ap (slice_get n.statements) number ∙ is in
    let fits = fits_of n.arrays r.statement (statement_fits_at n r.number r.statement here) in
    let read_fits : access_fits n.arrays (depth_of r.statement) r.access ≡ true
    = list_all_at (access_fits n.arrays (depth_of r.statement)) r.statement.reads k r.access fits.reads_fit read in
    record {
      is = here;
      writes =
          λ u st access is w same. same_subscripts n.arrays (depth_of st) (depth_of r.statement) access r.access
          (write_fits_at n u st access is w) read_fits same;
      rows_over = forms_over (depth_of r.statement) r.statement.rows fits.rows_fit;
      reads_over = subscripts_of n.arrays (depth_of r.statement) r.access read_fits (λ array is many over. over);
    })

-- the write of a statement that writes the array
pub write_to_is : (array u : ℕ) (s : Statement) (access : Access) → s.write ≡ Some access → access.array ≡ array
    → write_to array u s ≡ Some (record { number = u; statement = s; access = access })
write_to_is array u s access w same =
    ap (option_and_then (λ (access : Access). cond (access.array == array) (Some (occurrence u s access)) None)) w
    ∙ ap (λ b. cond b (Some (occurrence u s access)) None) (eq-eqb access.array array same)

-- what it is
pub write_to_parts : {C : Type 0} (array u : ℕ) (s : Statement) (w : Occurrence) → write_to array u s ≡ Some w
    → (w.number ≡ u → w.statement ≡ s → s.write ≡ Some w.access → w.access.array ≡ array → C) → C
write_to_parts {C = C} array u s w e go =
    option_and_then_some
    (λ (access : Access). cond (access.array == array) (Some (occurrence u s access)) None) s.write w e
    (λ access is is'. pick access is (access.array == array) refl is') where
      pick : (access : Access) → s.write ≡ Some access → (b : Bool) → (access.array == array) ≡ b
          → cond b (Some (occurrence u s access)) None ≡ Some w → C
      pick access is false eq e = absurd (let f : None ≡ Some w = e in cc)
      pick access is true eq e =
          let same : occurrence u s access ≡ w = same_Some (occurrence u s access) w e in
          let P : Occurrence → Type 0 =
          λ w. (w.number ≡ u → w.statement ≡ s → s.write ≡ Some w.access → w.access.array ≡ array → C) → C in
          subst P same (λ go. go refl refl is (eqb-true access.array array eq)) go

-- what the statement that a leaf names is
pub named_parts : {C : Type 0} (n : Nest) (r : Occurrence) (s : ℕ) (w : Occurrence) → named_write n r s ≡ Some w
    → (w.number ≡ s → slice_get n.statements w.number ≡ Some w.statement → w.statement.write ≡ Some w.access
    → w.access.array ≡ r.access.array → C) → C
named_parts n r s w e go =
    option_and_then_some (write_to r.access.array s) (slice_get n.statements s) w e
    (λ st is is'. write_to_parts r.access.array s st w is'
    (λ number statement writes array.
    go number (ap (slice_get n.statements) number ∙ is ∙ ap Some (sym statement))
    (ap (λ (s : Statement). s.write) statement ∙ writes) array))

later_writes : (P : Occurrence → Type 0) (o : Option Occurrence) (more : List Occurrence) → Each P (with_write o more)
    → Each P more
later_writes P None more each = each
later_writes P (Some w) more each = each.1

-- each statement that writes the array is among its writes
pub among_writes : (P : Occurrence → Type 0) (array u m k : ℕ) (statements : List Statement) (s : Statement)
    (access : Access)
    → Each P (writes_from array u statements) → m ≡ u + k → slice_get statements k ≡ Some s → s.write ≡ Some access
    → access.array ≡ array
    → P (record { number = m; statement = s; access = access })
among_writes P array u m k [] s access each e is w a = absurd (let f : None ≡ Some s = is in cc)
among_writes P array u m zero (st ∷ statements) s access each e is w a =
    let same : st ≡ s = same_Some st s is in
    let number : u ≡ m = omega arith in
    let here : Each P (with_write (write_to array u s) (writes_from array (u + 1) statements))
    = subst (λ st. Each P (with_write (write_to array u st) (writes_from array (u + 1) statements))) same each in
    let listed : Each P
    (with_write (Some (record { number = u; statement = s; access = access }))
    (writes_from array (u + 1) statements))
    = subst (λ o. Each P (with_write o (writes_from array (u + 1) statements)))
    (write_to_is array u s access w a) here in
    subst (λ m. P (record { number = m; statement = s; access = access })) number listed.0
among_writes P array u m (suc k) (st ∷ statements) s access each e is w a =
    among_writes P array (u + 1) m k statements s access
    (later_writes P (write_to array u st) (writes_from array (u + 1) statements) each) (omega arith) is w a

-- rows that hold, as a test and one by one
pub each_holds : (rows : List Form) (at : List ℤ) → all_hold rows at ≡ true → AllHold rows at
each_holds [] at e = tt
each_holds (row ∷ rows) at e =
    let b = and_parts (int_le (pos 0) (form_at row at)) (all_hold rows at) e in
    (int_le-true (pos 0) (form_at row at) b.0, each_holds rows at b.1)

pub holds_each : (rows : List Form) (at : List ℤ) → AllHold rows at → all_hold rows at ≡ true
holds_each [] at h = refl
holds_each (row ∷ rows) at h =
    and_from (int_le (pos 0) (form_at row at)) (all_hold rows at) (le-int_le (pos 0) (form_at row at) h.0)
    (holds_each rows at h.1)

-- a point of the domain of this statement
pub record IsPointAt (n : Nest) (u : ℕ) (s : Statement) (at : List ℤ) : Type 0 where
  pub is : slice_get n.statements u ≡ Some s
  pub deep : length at ≡ length s.loops
  pub holds : AllHold s.rows at

-- a point of one statement precedes one of another
abbrev pub IsBefore : ℕ → Statement → List ℤ → ℕ → Statement → List ℤ → Type 0
IsBefore u su a s ss b = PrecedesWithin (common_loops su.loops ss.loops) (nat_lt u s) a b

to_before : (n : Nest) (p q : Point) (sp sq : Statement) → slice_get n.statements p.statement ≡ Some sp
    → slice_get n.statements q.statement ≡ Some sq
    → Precedes n p q → IsBefore p.statement sp p.at q.statement sq q.at
to_before n p q sp sq is is' h =
    subst (λ ls. PrecedesWithin (common_loops sp.loops ls) (nat_lt p.statement q.statement) p.at q.at)
    (loops_found n q sq is')
    (subst (λ ks. PrecedesWithin (common_loops ks (loops_round_point n q)) (nat_lt p.statement q.statement) p.at q.at)
    (loops_found n p sp is) h)

from_before : (n : Nest) (p q : Point) (sp sq : Statement) → slice_get n.statements p.statement ≡ Some sp
    → slice_get n.statements q.statement ≡ Some sq
    → IsBefore p.statement sp p.at q.statement sq q.at → Precedes n p q
from_before n p q sp sq is is' h =
    subst (λ ks. PrecedesWithin (common_loops ks (loops_round_point n q)) (nat_lt p.statement q.statement) p.at q.at)
    (sym (loops_found n p sp is))
    (subst (λ ls. PrecedesWithin (common_loops sp.loops ls) (nat_lt p.statement q.statement) p.at q.at)
    (sym (loops_found n q sq is')) h)

-- The entries are exactly the points of the domains, in the order of execution.
pub record IsTrace (n : Nest) (points : List Point) : Type 0 where
  pub entry : (t : ℕ) (p : Point) → slice_get points t ≡ Some p → (s : Statement) × IsPointAt n p.statement s p.at
  pub point : (u : ℕ) (s : Statement) (at : List ℤ) → IsPointAt n u s at
      → (t : ℕ) × (slice_get points t ≡ Some (record { statement = u; at = at }))
  pub later : (t v : ℕ) (p q : Point) (sp sq : Statement) → slice_get points t ≡ Some p → slice_get points v ≡ Some q
      → IsPointAt n p.statement sp p.at → IsPointAt n q.statement sq q.at → t < v
      → IsBefore p.statement sp p.at q.statement sq q.at
  pub earlier : (t v : ℕ) (p q : Point) (sp sq : Statement) → slice_get points t ≡ Some p → slice_get points v ≡ Some q
      → IsPointAt n p.statement sp p.at → IsPointAt n q.statement sq q.at
      → IsBefore p.statement sp p.at q.statement sq q.at → t < v

pub is_trace : (n : Nest) (points : List Point) → EnumeratesDomains n points → IsTrace n points
is_trace n points h = record {
  entry = λ t p is.
      (let q = h.entry t p is in
      (q.statement, record { is = q.found; deep = q.deep; holds = each_holds q.statement.rows p.at q.holds }));
  point = λ u s at p. h.point (record { statement = u; at = at })
      (record { statement = s; found = p.is; deep = p.deep; holds = holds_each s.rows at p.holds });
  later = λ t v p q sp sq is is' pp pq lt. to_before n p q sp sq pp.is pq.is (h.later t v p q is is' lt);
  earlier = λ t v p q sp sq is is' pp pq before. h.earlier t v p q is is' (from_before n p q sp sq pp.is pq.is before);
}
