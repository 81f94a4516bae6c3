-- The writes over quotients can be joined.
--
-- Each is a problem of differences at each level before the read, told over the reader's loops and the quotients of
-- all tests, since the places of its own tests are among those. The writers stand in the nest, and their numbers
-- ascend, so a number names one of them. A problem with the rows and subscripts that are told for a writer is the
-- writer's pair.
use Rattle.std.proofs.Common.{◌≡◌, ◌+◌, ◌≤◌, ◌<◌, ℕ, zero, suc, List, [], ◌∷◌, ◌++◌, length, map, Bool, true, false}
use Rattle.std.proofs.Common.{cond, refl, sym, ap, ◌∙◌, subst, arith}
use Rattle.std.specs.Prelude.{Option, Some, None, All, Contains, slice_get, slice_index_or}
use Rattle.std.specs.List.{filter}
use Rattle.std.specs.Option.{option_map}
use Rattle.std.proofs.lemmas.List.{append_assoc, map-append}
use Rattle.std.proofs.lemmas.Option.{same_Some, slice_get-map}
use Rattle.std.proofs.lemmas.List.Elements.{All-cons, All-head, All-nil, All-tail}
use Rattle.std.proofs.lemmas.Simd.{map-map}
use Rattle.tree_order.specs.Reads.{pair_in, read_in, write_in}
use Rattle.tree_graphs.specs.Joint.{ReadAndWrite}
use Rattle.tree_graphs.specs.declared.writes.Problem.{Problem}
use Rattle.tree_order.specs.declared.candidates.Read.{Read}
use Rattle.stride_trees.specs.Leaves.{is_told, told_pair, told_pairs}
use Rattle.last_writer.specs.Writers.{stands_before, AreWriters}
use Rattle.stride_trees.specs.declared.writers.Writer.{Writer}
use Rattle.source_tree.specs.declared.reference.Reference.{Reference}
use Rattle.tree_graphs.proofs.Just.{written_number}
use Rattle.sanlp.specs.declared.nest.Nest.{Nest}
use Rattle.sanlp.specs.declared.nest.Statement.{Statement}
use Rattle.source_tree.specs.Systems.{Occurrence, array_writes, with_write, write_to, writes_from}
use Rattle.source_tree.specs.References.{occurrence_of}
use Rattle.stride_trees.specs.Problem.{problem_reads, problem_rows, told_read, told_write, IsToldProblem}
use Rattle.stride_trees.specs.Strides.{depth_of_read, read_of, write_of}
use Rattle.stride_trees.specs.declared.divisions.Division.{Division}

-- Numbers that ascend

abbrev pub Ascend : ℕ → List ℕ → Type 0
Ascend least [] = Unit {0}
Ascend least (m ∷ ms) = (least ≤ m) × Ascend (m + 1) ms

ascend_from : (a b : ℕ) (ms : List ℕ) → a ≤ b → Ascend b ms → Ascend a ms
ascend_from a b [] le h = tt
ascend_from a b (m ∷ ms) le h = (omega (arith, le, h.0), h.1)

ascend_at : (least : ℕ) (ms : List ℕ) (k m : ℕ) → Ascend least ms → slice_get ms k ≡ Some m → least ≤ m
ascend_at least [] k m h e = absurd (let no : None ≡ Some m = e in cc)
ascend_at least (x ∷ ms) zero m h e = omega (arith, h.0, same_Some x m e)
ascend_at least (x ∷ ms) (suc k) m h e = omega (arith, h.0, ascend_at (x + 1) ms k m h.1 e)

-- a number stands at one place
pub one_place : (least : ℕ) (ms : List ℕ) (i j m : ℕ) → Ascend least ms → slice_get ms i ≡ Some m
    → slice_get ms j ≡ Some m → i ≡ j
one_place least [] i j m h e f = absurd (let no : None ≡ Some m = e in cc)
one_place least (x ∷ ms) zero zero m h e f = refl
one_place least (x ∷ ms) zero (suc j) m h e f =
    absurd (omega (arith, same_Some x m e, ascend_at (x + 1) ms j m h.1 f))
one_place least (x ∷ ms) (suc i) zero m h e f =
    absurd (omega (arith, same_Some x m f, ascend_at (x + 1) ms i m h.1 e))
one_place least (x ∷ ms) (suc i) (suc j) m h e f = ap suc (one_place (x + 1) ms i j m h.1 e f)

writes_ascend : (array u : ℕ) (statements : List Statement)
    → Ascend u (map (λ (w : Occurrence). w.number) (writes_from array u statements))
writes_ascend array u [] = tt
writes_ascend array u (s ∷ statements) = go (write_to array u s) refl (writes_ascend array (u + 1) statements) where
  go : (o : Option Occurrence) → write_to array u s ≡ o
      → Ascend (u + 1) (map (λ (w : Occurrence). w.number) (writes_from array (u + 1) statements))
      → Ascend u (map (λ (w : Occurrence). w.number) (with_write o (writes_from array (u + 1) statements)))
  go None e rest =
      ascend_from u (u + 1) (map (λ (w : Occurrence). w.number) (writes_from array (u + 1) statements)) (omega arith) rest
  go (Some w) e rest =
      let number : w.number ≡ u = written_number array u s w e in (
        omega (arith, number),
        subst (λ m. Ascend (m + 1) (map (λ (w : Occurrence). w.number) (writes_from array (u + 1) statements)))
            (sym number) rest,
      )

filter_ascend : {X : Type 0} (number : X → ℕ) (p : X → Bool) (least : ℕ) (xs : List X) → Ascend least (map number xs)
    → Ascend least (map number (filter p xs))
filter_ascend number p least [] h = tt
filter_ascend number p least (x ∷ xs) h = go (p x) (filter_ascend number p (number x + 1) xs h.1) where
  go : (b : Bool) → Ascend (number x + 1) (map number (filter p xs))
      → Ascend least (map number (cond b (x ∷ filter p xs) (filter p xs)))
  go true rest = (h.0, rest)
  go false rest = ascend_from least (number x + 1) (map number (filter p xs)) (omega (arith, h.0)) rest

-- Elements by their places

pub contains_at : {X : Type 0} (xs : List X) (x : X) → Contains xs x → (k : ℕ) × (slice_get xs k ≡ Some x)
contains_at {X} xs x (k, lt, is) = (k, at xs k lt is) where
  at : (xs : List X) (k : ℕ) → k < length xs → slice_index_or xs k x ≡ x → slice_get xs k ≡ Some x
  at [] k lt is = absurd (omega (arith, lt))
  at (y ∷ ys) zero lt is = ap Some is
  at (y ∷ ys) (suc k) lt is = at ys k (omega (arith, lt)) is

-- what holds of all writers holds of those that are told, as pairs
pub told_all : (vars : ℕ) (answers : List Bool) (P : Writer → Type 0) (Q : ReadAndWrite → Type 0)
    → ((w : Writer) → P w → is_told answers w ≡ true → Q (told_pair vars w)) → (writers : List Writer) → All P writers
    → All Q (told_pairs vars answers writers)
told_all vars answers P Q one [] all = All-nil _
told_all vars answers P Q one (w ∷ writers) all =
    go (is_told answers w) refl (told_all vars answers P Q one writers (All-tail P w writers all)) where
      go : (b : Bool) → is_told answers w ≡ b → All Q (told_pairs vars answers writers)
          → All Q (map (told_pair vars) (cond b (w ∷ filter (is_told answers) writers) (filter (is_told answers) writers)))
      go true says rest =
          All-cons Q (told_pair vars w) (told_pairs vars answers writers) (one w (All-head P w writers all) says) rest
      go false says rest = rest

-- the numbers of the writers ascend
pub writers_ascend : (n : Nest) (r : Occurrence) (tests : List Division) (writers : List Writer)
    → AreWriters n r (array_writes n r) tests writers
    → Ascend 0 (map (λ (w : Writer). (write_of w.strides).number) writers)
writers_ascend n r tests writers h =
    subst (Ascend 0) (map-map (λ (w : Occurrence). w.number) (λ (w : Writer). write_of w.strides) writers)
    (subst (λ (ws : List Occurrence). Ascend 0 (map (λ (w : Occurrence). w.number) ws)) (sym h.are)
    (filter_ascend (λ (w : Occurrence). w.number) (stands_before r) 0 (array_writes n r)
    (writes_ascend r.access.array 0 n.statements)))

-- a number names one writer
pub one_writer : (writers : List Writer) → Ascend 0 (map (λ (w : Writer). (write_of w.strides).number) writers)
    → (x y : Writer) → Contains writers x → Contains writers y
    → (write_of x.strides).number ≡ (write_of y.strides).number → x ≡ y
one_writer writers asc x y there also same =
    let number : Writer → ℕ = λ x. (write_of x.strides).number in
    let a = contains_at writers x there in
    let b = contains_at writers y also in
    let first : slice_get (map number writers) a.0 ≡ Some (number x) =
    slice_get-map number writers a.0 ∙ ap (option_map number) a.1 in
    let second : slice_get (map number writers) b.0 ≡ Some (number x) =
    slice_get-map number writers b.0 ∙ ap (option_map number) b.1 ∙ ap Some (sym same) in
    let place : a.0 ≡ b.0 = one_place 0 (map number writers) a.0 b.0 (number x) asc first second in
    same_Some x y (sym a.1 ∙ ap (slice_get writers) place ∙ b.1)

-- a number names one pair
pub one_pair : (n : Nest) (r : Occurrence) (tests : List Division) (writers : List Writer) (vars : ℕ)
    (answers : List Bool) → AreWriters n r (array_writes n r) tests writers → (o other : ReadAndWrite)
    → Contains (told_pairs vars answers writers) o → Contains (told_pairs vars answers writers) other
    → o.write.number ≡ other.write.number → o ≡ other
one_pair n r tests writers vars answers h o other there also same =
    let number : ReadAndWrite → ℕ = λ o. o.write.number in
    let pairs : List ReadAndWrite = told_pairs vars answers writers in
    let a = contains_at pairs o there in
    let b = contains_at pairs other also in
    let own : Ascend 0 (map (λ (w : Writer). (write_of w.strides).number) writers) = writers_ascend n r tests writers h in
    let told : Ascend 0 (map number pairs)
    = subst (Ascend 0) (sym (map-map number (told_pair vars) (filter (is_told answers) writers)))
    (filter_ascend (λ (w : Writer). (write_of w.strides).number) (is_told answers) 0 writers own) in
    let first : slice_get (map number pairs) a.0 ≡ Some (number o) =
    slice_get-map number pairs a.0 ∙ ap (option_map number) a.1 in
    let second : slice_get (map number pairs) b.0 ≡ Some (number o) =
    slice_get-map number pairs b.0 ∙ ap (option_map number) b.1 ∙ ap Some (sym same) in
    let place : a.0 ≡ b.0 = one_place 0 (map number pairs) a.0 b.0 (number o) told first second in
    same_Some o other (sym a.1 ∙ ap (slice_get pairs) place ∙ b.1)

-- Writers as problems

pub pairs_refused : (vars : ℕ) (answers : List Bool) (w : Writer) (writers : List Writer) → is_told answers w ≡ false
    → told_pairs vars answers (w ∷ writers) ≡ told_pairs vars answers writers
pairs_refused vars answers w writers is =
    ap (λ b. map (told_pair vars) (cond b (w ∷ filter (is_told answers) writers) (filter (is_told answers) writers))) is

pub pairs_told : (vars : ℕ) (answers : List Bool) (w : Writer) (writers : List Writer) → is_told answers w ≡ true
    → told_pairs vars answers (w ∷ writers) ≡ told_pair vars w ∷ told_pairs vars answers writers
pairs_told vars answers w writers is =
    ap (λ b. map (told_pair vars) (cond b (w ∷ filter (is_told answers) writers) (filter (is_told answers) writers))) is

-- a problem over quotients is the writer's pair
pub problem_pair : (r : Read) (p : Problem) (vars : ℕ) (w : Writer) → read_of w.strides ≡ occurrence_of r.reference
    → IsToldProblem w.strides vars w.places p → pair_in r p ≡ told_pair vars w
problem_pair r p vars w of told =
    let u : Occurrence = write_of w.strides in
    let read : read_in r p ≡ told_read vars w.places (read_of w.strides) u
    = ap (λ forms. record (occurrence_of r.reference) {
      access = record r.reference.access.now { subscripts = forms };
    }) told.read_forms
    ∙ ap (λ (o : Occurrence). record o {
      access = record o.access {
        subscripts = problem_reads vars (depth_of_read w.strides) w.places u.access.subscripts
            (read_of w.strides).access.subscripts;
      };
    }) (sym of) in
    let own : write_in p ≡ told_write u
    = ap (λ (x : Reference). record {
      number = x.number;
      statement = record x.statement.now { rows = p.rows };
      access = record x.access.now { subscripts = p.write_forms };
    }) told.write
    ∙ ap (λ rows. record u {
      statement = record u.statement { rows = rows };
      access = record u.access { subscripts = p.write_forms };
    }) told.rows
    ∙ ap (λ forms. record u {
      statement = record u.statement { rows = problem_rows u.statement.rows };
      access = record u.access { subscripts = forms };
    }) told.write_forms in
    ap (λ read. record { read = read; write = write_in p }) read
    ∙ ap (λ write. record { read = told_read vars w.places (read_of w.strides) u; write = write }) own

-- one problem more
pub one_more : {X Y : Type 0} (f : X → Y) (old middle new : List X) (p : X) (pair : Y) (rest whole : List Y)
    → middle ≡ old ++ p ∷ [] → f p ≡ pair → map f new ≡ map f middle ++ rest → whole ≡ pair ∷ rest
    → map f new ≡ map f old ++ whole
one_more f old middle new p pair rest whole e is h w =
    h ∙ ap (λ xs. map f xs ++ rest) e ∙ ap (λ xs. xs ++ rest) (map-append f old (p ∷ []))
    ∙ append_assoc (map f old) (f p ∷ []) rest ∙ ap (λ x. map f old ++ (x ∷ rest)) is ∙ ap (λ xs. map f old ++ xs) (sym w)
