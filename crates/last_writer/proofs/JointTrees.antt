-- The joined tree below all answers, and the tree below one answer more.
--
-- The context has the reader's rows and two more for each answer, with small numbers, over the reader's loops and as
-- many quotients as there are tests. Each writer that is told is a problem of differences there, at each of its
-- levels. An answer more stands behind the others, so the contexts below the two answers of the next test are those
-- below its Divides. How the proofs of the joined tree become those for all writers is told elsewhere.
use Rattle.std.proofs.Common.{◌≡◌, ◌+◌, ◌≤◌, ◌<◌, ◌^◌, ℕ, zero, suc, ℤ, List, [], ◌∷◌, ◌++◌, length, map, Bool, true, false}
use Rattle.std.proofs.Common.{cond, refl, sym, ap, ◌∙◌, subst, arith}
use Rattle.std.specs.Prelude.{Option, Some, None, All, Contains, is_some, slice_get}
use Rattle.std.specs.List.{AllZip, count_by, filter, flat_map}
use Rattle.std.specs.Option.{option_map_or}
use Rattle.std.proofs.lemmas.List.{append-nil, length-append, length-map}
use Rattle.std.proofs.lemmas.List.Elements.{All-append, All-cons, All-contains, All-head, All-nil, All-tail, All-weaker}
use Rattle.std.proofs.lemmas.List.Sums.{sum_by-cons, length-filter, count_by-le-length}
use Rattle.std.proofs.lemmas.Option.{same_Some, slice_get_within}
use Rattle.affine_core.specs.declared.form.Form.{Form}
use Rattle.affine_core.specs.Affine.{widened_form}
use Rattle.tree_graphs.specs.Contexts.{IsMadeAs}
use Rattle.tree_graphs.specs.Joint.{IsCheckedForAll}
use Rattle.tree_order.specs.Reads.{IsJoinedTree}
use Rattle.tree_order.specs.Reads.{pair_in, pairs_of as pairs_of_read, pairs_with, IsJoined, StandsInLoopsOf}
use Rattle.tree_graphs.specs.Joint.{ReadAndWrite}
use Rattle.tree_graphs.specs.declared.writes.Problem.{Problem}
use Rattle.tree_order.specs.declared.candidates.Read.{Read}
use Rattle.int_polyhedra.specs.declared.system.System.{System}
use Rattle.int_polyhedra.specs.Systems.{AreOver}
use Rattle.stride_trees.specs.Answers.{answered_context}
use Rattle.stride_trees.specs.Answers.{below_answer, HasSmallRows, IsSmallTest}
use Rattle.stride_trees.specs.Leaves.{context_of, fact_context, is_told, own_context, pairs_of, told_pair, told_pairs, vars_of}
use Rattle.stride_trees.specs.Leaves.{which_in, Converts, HasFacts, IsAnswered, IsBelow, IsForOne, IsJoinedBelow, IsWriterIn}
use Rattle.stride_trees.specs.Writers.{is_never, IsPlaceOf, IsReadOf, IsTestAt}
use Rattle.last_writer.specs.Writers.{stands_before, AreWriters, HasAllWriters}
use Rattle.stride_trees.specs.Writers.{IsWriterOf}
use Rattle.stride_trees.specs.declared.leaves.Answered.{Answered}
use Rattle.stride_trees.specs.declared.writers.Writer.{Writer}
use Rattle.stride_trees.proofs.Below.{answered_more, vars_are}
use Rattle.stride_trees.proofs.LeafConversion.{zip_count}
use Rattle.stride_trees.proofs.WriterTests.{tests_asked, told_asked}
use Rattle.last_writer.proofs.QuotientWrites.{one_pair, one_writer, told_all, writers_ascend}
use Rattle.last_writer.proofs.Whole.{own_are}
use Rattle.stride_trees.proofs.ReadBounds.{few_loops as reader_loops, few_rows as reader_rows}
use Rattle.tree_graphs.specs.Problems.{IsProblem}
use Rattle.tree_graphs.proofs.EdgeSums.{over_append}
use Rattle.tree_graphs.proofs.RowBounds.{forms_append}
use Rattle.tree_graphs.specs.Level.{HasLevel}
use Rattle.tree_graphs.proofs.MadeRows.{taken_all}
use Rattle.plain_data.proofs.Lists.{slice_get-append_right}
use Rattle.tree_sums.specs.Parts.{IsWithin}
use Rattle.tree_sums.proofs.SmallRows.{widened_length}
use Rattle.tree_sums.proofs.Within.{IsWithin-weaker}
use Rattle.sanlp.specs.declared.nest.Nest.{Nest}
use Rattle.sanlp.specs.declared.nest.Statement.{Statement}
use Rattle.source_tree.specs.Checked.{at_divides, IsCheckedIn}
use Rattle.source_tree.specs.Rows.{RowExpr, Take, row_forms}
use Rattle.source_tree.specs.Systems.{Context, Occurrence, array_writes, divides_no, divides_yes, every, more_rows, root_context}
use Rattle.source_tree.specs.Systems.{undivided_rows, with_write, write_systems, write_to, writes_from, MayName}
use Rattle.source_tree.specs.declared.tree.Tree.{Tree}
use Rattle.source_tree.specs.declared.tree.Tree.TheViews.{Divides}
use Rattle.source_tree.specs.References.{occurrence_of}
use Rattle.tree_cuts.specs.Class.{is_stride, stride_of}
use Rattle.stride_trees.specs.Contexts.{IsNoIn}
use Rattle.stride_trees.specs.Divisions.{division_of, divisions_from}
use Rattle.stride_trees.specs.Strides.{depth_of_read, read_of, write_of, ArePlaces}
use Rattle.stride_trees.specs.declared.divisions.Division.{Division}
use Rattle.stride_trees.specs.declared.strides.Strides.{Strides}
use Rattle.stride_trees.proofs.Lists.{forms_count}
use Rattle.stride_trees.proofs.QuotientProblem.{told_problem}
use Rattle.stride_trees.proofs.ProblemBounds.{are_fitting, AreFitting}
use Rattle.tree_cuts.specs.Cuts.{AddRows}
use Rattle.tree_facts.specs.Facts.{fact_rows, AddFacts, AreFacts}
use Rattle.tree_facts.specs.declared.search.Facts.{Facts}

-- The reader

pub few_loops : (w : Answered) → HasAllWriters w → length w.read.statement.now.loops ≤ 6
few_loops w h = reader_loops w.nest.now w.read h.read

pub few_rows : (w : Answered) → HasAllWriters w → length w.read.statement.now.rows ≤ 32
few_rows w h = reader_rows w.nest.now w.read h.read

-- Places of a writer

strides_count : (k : ℕ) (writes reads : List Form) → length writes ≤ length reads
    → count_by is_stride writes ≤ length (divisions_from k writes reads)
strides_count k [] reads le = let none : count_by is_stride [] ≡ 0 = refl in omega (arith, none)
strides_count k (write ∷ writes) [] le = absurd (omega (arith, le))
strides_count k (write ∷ writes) (read ∷ reads) le =
    go (stride_of write) refl (sum_by-cons (λ f. cond {A = ℕ} (is_stride f) 1 0) write writes)
    (strides_count (k + 1) writes reads (omega (arith, le))) where
      go : (o : Option ℤ) → stride_of write ≡ o
          → count_by is_stride (write ∷ writes) ≡ cond (is_stride write) 1 0 + count_by is_stride writes
          → count_by is_stride writes ≤ length (divisions_from (k + 1) writes reads)
          → count_by is_stride (write ∷ writes)
          ≤ length (option_map_or (λ c. division_of k write read c ∷ []) o [] ++ divisions_from (k + 1) writes reads)
      go None e count rest =
          let none : cond {A = ℕ} (is_stride write) 1 0 ≡ 0 = ap (λ o. cond {A = ℕ} (is_some o) 1 0) e in
          omega (arith, count, rest, none)
      go (Some c) e count rest =
          let one : cond {A = ℕ} (is_stride write) 1 0 ≡ 1 = ap (λ o. cond {A = ℕ} (is_some o) 1 0) e in
          omega (arith, count, rest, one)

places_below : (tests ds : List Division) (places : List ℕ) → AllZip (IsTestAt tests) ds places
    → All (λ place. place < length tests) places
places_below tests [] [] h = All-nil _
places_below tests [] (place ∷ places) h = absurd h
places_below tests (d ∷ ds) [] h = absurd h
places_below tests (d ∷ ds) (place ∷ places) h =
    All-cons (λ place. place < length tests) place places (slice_get_within tests place h.0.test h.0.is)
    (places_below tests ds places h.1)

pub writer_places : (n : Nest) (r : Occurrence) (tests : List Division) (x : Writer) → length tests ≤ 6
    → IsWriterOf n r tests x → is_never x ≡ false → ArePlaces x.strides (depth_of_read x.strides + length tests) x.places
writer_places n r tests x few of asked =
    let s : Strides = x.strides in
    let f : AreFitting s.nest.now (read_of s) (write_of s) s.level =
    are_fitting s.nest.now (read_of s) (write_of s) s.level of.strided.strided in
    record {
      reader = omega arith;
      each = All-weaker (λ place. place < length tests)
          (λ place. depth_of_read s + place < depth_of_read s + length tests) (λ place lt. omega (arith, lt)) x.places
          (places_below tests x.divisions x.places (tests_asked tests x.divisions x.places asked of.places));
      enough = omega (
        arith,
        strides_count 0 (write_of s).access.subscripts (read_of s).access.subscripts (omega (arith, f.even)),
        ap length of.divisions,
        zip_count (IsPlaceOf tests) x.divisions x.places of.places,
      );
      few = omega (arith, few);
    }

-- Numbers of writers

few_written : (array u : ℕ) (statements : List Statement) → length (writes_from array u statements) ≤ length statements
few_written array u [] = omega arith
few_written array u (s ∷ statements) = go (write_to array u s) (few_written array (u + 1) statements) where
  go : (o : Option Occurrence) → length (writes_from array (u + 1) statements) ≤ length statements
      → length (with_write o (writes_from array (u + 1) statements)) ≤ suc (length statements)
  go None h = omega (arith, h)
  go (Some w) h = omega (arith, h)

pub few_pairs : (w : Answered) → HasAllWriters w → length (pairs_of w) ≤ 64
few_pairs w h =
    let n : Nest = w.nest.now in
    let r : Occurrence = occurrence_of w.read in
    omega (
      arith,
      length-map (filter (is_told w.answers.now) w.writers.now) (told_pair (vars_of w)),
      length-filter (is_told w.answers.now) w.writers.now,
      count_by-le-length (is_told w.answers.now) w.writers.now,
      length-map w.writers.now (λ (x : Writer). write_of x.strides),
      ap length h.writers.are,
      length-filter (stands_before r) (array_writes n r),
      count_by-le-length (stands_before r) (array_writes n r),
      few_written r.access.array 0 n.statements,
      n.well_formed.few_statements,
    )

-- The read can be joined

abbrev IsAskedPair : ℕ → ReadAndWrite → Type 0
IsAskedPair vars o = (p : ℕ) → HasLevel o.read o.write p → IsProblem vars o.read o.write p

pub told_places : (w : Answered) → HasAllWriters w → (x : Writer)
    → IsWriterOf w.nest.now (occurrence_of w.read) w.tests.now x → is_told w.answers.now x ≡ true
    → ArePlaces x.strides (vars_of w) x.places
told_places w h x of says =
    subst (λ d. ArePlaces x.strides (d + length w.tests.now) x.places)
    (ap (λ (r : Occurrence). length r.statement.loops) of.read)
    (writer_places w.nest.now (occurrence_of w.read) w.tests.now x h.few of
    (told_asked w.answers.now x (omega (arith, h.answers, h.few)) says))

asked_pair : (w : Answered) → HasAllWriters w → (x : Writer)
    → IsWriterOf w.nest.now (occurrence_of w.read) w.tests.now x → is_told w.answers.now x ≡ true
    → IsAskedPair (vars_of w) (told_pair (vars_of w) x)
asked_pair w h x of says p level =
    let s : Strides = x.strides in
    let depth : depth_of_read s ≡ length w.read.statement.now.loops =
    ap (λ (r : Occurrence). length r.statement.loops) of.read in
    let places : ArePlaces s (vars_of w) x.places = told_places w h x of says in
    told_problem s.nest.now (read_of s) (write_of s) s.level p (vars_of w) x.places of.strided.strided level
    (omega (arith, depth)) (omega (arith, few_loops w h, h.few)) places.each places.enough

stands : (w : Answered) (x : Writer) → IsWriterOf w.nest.now (occurrence_of w.read) w.tests.now x
    → is_told w.answers.now x ≡ true → StandsInLoopsOf w.nest.now (told_pair (vars_of w) x).write
stands w x of says =
    let s : Strides = x.strides in
    let f : AreFitting s.nest.now (read_of s) (write_of s) s.level =
    are_fitting s.nest.now (read_of s) (write_of s) s.level of.strided.strided in
    record {
      statement = (write_of s).statement;
      is = subst (λ (n : Nest). slice_get n.statements (write_of s).number ≡ Some (write_of s).statement) of.nest
          f.named.is;
      loops = refl;
    }

pub read_joined : (w : Answered) (r : Read) → HasAllWriters w → length w.answers.now ≡ length w.tests.now
    → (context_of w).vars ≡ r.context.now.vars → HasSmallRows r.context.now → length r.context.now.rows ≤ 64
    → pairs_of_read r ≡ pairs_of w → IsJoined r
read_joined w r h all same_vars small few pairs =
    let n : Nest = w.nest.now in
    let rr : Occurrence = occurrence_of w.read in
    let vars : r.context.now.vars ≡ vars_of w =
    omega (arith, same_vars, vars_are (root_context rr) w.tests.now w.answers.now (omega (arith, all)), all) in
    record {
      problems = λ o p there level.
          (subst (λ v. IsProblem v o.read o.write p) (sym vars)
          (All-contains (IsAskedPair (vars_of w)) (pairs_of w) o
          (told_all (vars_of w) w.answers.now (IsWriterOf n rr w.tests.now) (IsAskedPair (vars_of w)) (asked_pair w h)
          w.writers.now h.writers.each) (subst (λ ps. Contains ps o) pairs there) p level));
      nest = n;
      stand = subst (All (λ o. StandsInLoopsOf n o.write)) (sym pairs)
          (told_all (vars_of w) w.answers.now (IsWriterOf n rr w.tests.now) (λ o. StandsInLoopsOf n o.write) (stands w)
          w.writers.now h.writers.each);
      one = λ o other there also same.
          one_pair n rr w.tests.now w.writers.now (vars_of w) w.answers.now h.writers o other
          (subst (λ ps. Contains ps o) pairs there) (subst (λ ps. Contains ps other) pairs also) same;
      few = omega (arith, length-map r.problems.now (pair_in r), ap length pairs, few_pairs w h);
      few_vars = omega (arith, vars, few_loops w h, h.few);
      over = small.over;
      within = small.within;
      few_rows = few;
    }

-- the problems that were added to none are the pairs that are told
pub pairs_joined : (w : Answered) (r : Read) (old made given : List Problem) → r.reference ≡ w.read
    → r.problems.now ≡ given → given ≡ made → old ≡ []
    → ((r : Read) → r.reference ≡ w.read
    → pairs_with r made ≡ pairs_with r old ++ told_pairs (vars_of w) w.answers.now w.writers.now)
    → pairs_of_read r ≡ pairs_of w
pairs_joined w r old made given reference problems is none pushed =
    ap (pairs_with r) (problems ∙ is) ∙ pushed r reference
    ∙ ap (λ ps. pairs_with r ps ++ told_pairs (vars_of w) w.answers.now w.writers.now) none

-- The context below all answers

-- that with the facts, where no rows stand behind them
pub below_here : (w : Answered) (context : System) (here : ℕ) → here ≡ length context.rows
    → length w.answers.now ≡ length w.tests.now → IsMadeAs context (fact_context w []) → HasSmallRows context
    → IsBelow w here (fact_context w [])
below_here w context here count all made small = record {
  all = all;
  small = record {
    rows = context.rows;
    made = made.rows;
    count = sym count;
    over = subst (λ v. AreOver v context.rows) (sym made.vars) small.over;
    within = All-weaker (IsWithin (2 ^ 41)) (IsWithin (2 ^ 50)) (λ f k. IsWithin-weaker (2 ^ 41) (2 ^ 50) f (omega arith) k)
        context.rows small.within;
  };
  more = fact_rows w.facts.now [];
  is = refl;
}

-- The writers as they are asked: for all levels, each has its own number, and the writes that stand nowhere before the
-- read have no systems.

for_all : (w : Answered) → HasAllWriters w → IsForOne w → ⊥
for_all w h (one, only) = absurd (let no : Some one ≡ None = sym only ∙ h.every in cc)

asked_in : (w : Answered) → HasAllWriters w → (x : Writer) → IsWriterOf w.nest.now (occurrence_of w.read) w.tests.now x
    → IsWriterIn w x
asked_in w h x of = record {
  of = of;
  may = subst (λ o. MayName (which_in o) (write_of x.strides).number) (sym h.every) tt;
  level = λ one only. absurd (for_all w h (one, only));
  told = λ one. absurd (for_all w h one);
}

pub all_answered : (w : Answered) → HasAllWriters w → IsAnswered w
all_answered w h = record {
  read = h.read;
  each = All-weaker (IsWriterOf w.nest.now (occurrence_of w.read) w.tests.now) (IsWriterIn w) (asked_in w h) w.writers.now
      h.writers.each;
  once = λ x y there also same. one_writer w.writers.now
      (writers_ascend w.nest.now (occurrence_of w.read) w.tests.now w.writers.now h.writers) x y there also same;
  all = λ c further. subst (λ o. flat_map (write_systems (occurrence_of w.read) (which_in o) c further)
      (map (λ (x : Writer). write_of x.strides) w.writers.now)
      ≡ flat_map (write_systems (occurrence_of w.read) (which_in o) c further)
      (array_writes w.nest.now (occurrence_of w.read))) (sym h.every)
      (own_are w.nest.now (occurrence_of w.read) w.tests.now c further w.writers.now h.writers);
  few = h.few;
  answers = h.answers;
  without = λ one. absurd (for_all w h one);
  alone = λ one. absurd (for_all w h one);
}

pub all_joined : (w : Answered) (here : ℕ) (tree : Tree) → HasAllWriters w → HasFacts w → IsBelow w here (fact_context w [])
    → IsCheckedForAll every (pairs_of w) (fact_context w []) tree → IsJoinedBelow w here tree
all_joined w here tree h facts below checked = record {
  facts = facts;
  rest = [];
  below = below;
  checked = subst (λ o. IsCheckedForAll (which_in o) (pairs_of w) (fact_context w []) tree) (sym h.every) checked;
  simple = λ one. absurd (for_all w h one);
}

-- what a joined tree became is checked in the context without facts
pub all_checked : (w : Answered) (here : ℕ) (tree own : Tree) → HasAllWriters w → IsBelow w here (fact_context w [])
    → IsCheckedForAll every (pairs_of w) (fact_context w []) tree → Converts w here tree own
    → IsCheckedIn w.nest.now (occurrence_of w.read) every (context_of w) own
all_checked w here tree own h below checked converts =
    subst (λ c. IsCheckedIn w.nest.now (occurrence_of w.read) every c own)
    (ap (λ rows. record { vars = (context_of w).vars; rows = rows }) (append-nil (context_of w).rows))
    (subst (λ o. IsCheckedIn w.nest.now (occurrence_of w.read) (which_in o) (own_context w []) own) h.every
    (converts.checked [] below
    (subst (λ o. IsCheckedForAll (which_in o) (pairs_of w) (fact_context w []) tree) (sym h.every) checked)))

-- the joined tree is checked there for the writes that are joined
pub joined_below : (w : Answered) (r : Read) (context : System) (tree : Tree) → IsMadeAs context (fact_context w [])
    → r.context.now ≡ context → pairs_of_read r ≡ pairs_of w → IsJoinedTree r r.context.now tree
    → IsCheckedForAll every (pairs_of w) (fact_context w []) tree
joined_below w r context tree made is pairs joined =
    subst (λ ps. IsCheckedForAll every ps (fact_context w []) tree) pairs
    (joined (fact_context w []) (subst (λ (s : System). IsMadeAs s (fact_context w [])) (sym is) made))

-- The context with facts

pub same_answered : (w more : Answered) → HasAllWriters w → more.nest ≡ w.nest → more.read ≡ w.read
    → more.writers ≡ w.writers → more.tests ≡ w.tests → more.answers ≡ w.answers → more.only ≡ w.only → HasAllWriters more
same_answered w more h nest read writers tests answers only = record {
  read = subst (λ n. IsReadOf n more.read) (sym (ap (λ x. x.now) nest))
      (subst (IsReadOf w.nest.now) (sym read) h.read);
  writers = subst (λ n. AreWriters n (occurrence_of more.read) (array_writes n (occurrence_of more.read)) more.tests.now
      more.writers.now) (sym (ap (λ x. x.now) nest))
      (subst (λ r. AreWriters w.nest.now (occurrence_of r) (array_writes w.nest.now (occurrence_of r)) more.tests.now
      more.writers.now) (sym read)
      (subst (λ ts. AreWriters w.nest.now (occurrence_of w.read) (array_writes w.nest.now (occurrence_of w.read)) ts
      more.writers.now) (sym (ap (λ x. x.now) tests))
      (subst (λ xs. AreWriters w.nest.now (occurrence_of w.read) (array_writes w.nest.now (occurrence_of w.read))
      w.tests.now xs) (sym (ap (λ x. x.now) writers)) h.writers)));
  few = omega (arith, ap (λ x. length x.now) tests, h.few);
  answers = omega (arith, ap (λ x. length x.now) tests, ap (λ x. length x.now) answers, h.answers);
  every = only ∙ h.every;
}

pub add_facts : (c : Context) (context : System) (found : Facts) → IsMadeAs context c → HasSmallRows context
    → AreFacts context found → AddFacts c found.cuts found.rows
add_facts c context found made small f = record {
  rows = context.rows;
  made = made.rows;
  over = subst (λ v. AreOver v context.rows) (sym made.vars) small.over;
  add = subst (λ v. AddRows v context.rows found.cuts found.rows) (sym made.vars) f.add;
  facts_over = subst (λ v. AreOver v found.rows) (sym made.vars) f.over;
}

pub facts_small : (context there : System) (found : Facts) → HasSmallRows context → AreFacts context found
    → there ≡ record { vars = context.vars; rows = context.rows ++ found.rows } → HasSmallRows there
facts_small context there found small f is =
    subst HasSmallRows (sym is) (record {
      over = over_append context.vars context.rows found.rows small.over f.over;
      within = All-append (IsWithin (2 ^ 41)) context.rows found.rows small.within f.within;
    })

pub facts_made : (c : Context) (context there : System) (facts : List Form) → IsMadeAs context c
    → AreOver context.vars facts → there ≡ record { vars = context.vars; rows = context.rows ++ facts }
    → IsMadeAs there (more_rows c (fact_rows facts []))
facts_made c context there facts made over is =
    subst (λ s. IsMadeAs s (more_rows c (fact_rows facts []))) (sym is) (record {
      vars = made.vars;
      rows = ap (λ es. row_forms c.vars (c.rows ++ es)) (append-nil (map Take facts))
          ∙ forms_append c.vars c.rows (map Take facts) context.rows facts made.rows
          (taken_all c.vars facts (subst (λ v. AreOver v facts) (sym made.vars) over));
    })

-- One answer more

pub answers_more : (w next : Answered) (answer : Bool) → HasAllWriters w → length w.answers.now < length w.tests.now
    → next.nest ≡ w.nest → next.read ≡ w.read → next.writers ≡ w.writers → next.tests ≡ w.tests
    → next.answers.now ≡ w.answers.now ++ answer ∷ [] → next.only ≡ w.only → HasAllWriters next
answers_more w next answer h lt nest read writers tests answers only = record {
  read = subst (λ n. IsReadOf n next.read) (sym (ap (λ x. x.now) nest))
      (subst (IsReadOf w.nest.now) (sym read) h.read);
  writers = subst (λ (n : Nest). AreWriters n (occurrence_of next.read) (array_writes n (occurrence_of next.read))
      next.tests.now next.writers.now) (sym (ap (λ x. x.now) nest))
      (subst (λ r. AreWriters w.nest.now (occurrence_of r) (array_writes w.nest.now (occurrence_of r)) next.tests.now
      next.writers.now) (sym read)
      (subst (λ (ts : List Division). AreWriters w.nest.now (occurrence_of w.read)
      (array_writes w.nest.now (occurrence_of w.read)) ts next.writers.now) (sym (ap (λ x. x.now) tests))
      (subst (AreWriters w.nest.now (occurrence_of w.read) (array_writes w.nest.now (occurrence_of w.read)) w.tests.now)
      (sym (ap (λ x. x.now) writers)) h.writers)));
  few = omega (arith, ap (λ x. length x.now) tests, h.few);
  answers = omega (
    arith,
    ap length answers,
    length-append w.answers.now (answer ∷ []),
    ap (λ x. length x.now) tests,
    lt,
  );
  every = only ∙ h.every;
}

element_at : (P : Division → Type 0) (ds : List Division) (k : ℕ) (d : Division) → All P ds → slice_get ds k ≡ Some d → P d
element_at P [] k d all e = absurd (let none : None ≡ Some d = e in cc)
element_at P (x ∷ ds) zero d all e = subst P (same_Some x d e) (All-head P x ds all)
element_at P (x ∷ ds) (suc k) d all e = element_at P ds k d (All-tail P x ds all) e

-- the next test
pub small_at : (w : Answered) (test : Division) → HasAllWriters w → slice_get w.tests.now (length w.answers.now) ≡ Some test
    → IsSmallTest (length w.read.statement.now.loops) test
small_at w test h at =
    element_at (IsSmallTest (length w.read.statement.now.loops)) w.tests.now (length w.answers.now) test h.writers.small at

pub vars_below : (w : Answered) (context : System) → HasAllWriters w → IsMadeAs context (context_of w)
    → context.vars ≡ length w.read.statement.now.loops + length w.answers.now
vars_below w context h made =
    sym made.vars ∙ vars_are (root_context (occurrence_of w.read)) w.tests.now w.answers.now h.answers

-- the context below one answer more
pub made_more : (w : Answered) (answers : List Bool) (test : Division) (answer : Bool) (below : System)
    → slice_get w.tests.now (length w.answers.now) ≡ Some test → answers ≡ w.answers.now ++ answer ∷ []
    → IsMadeAs below (below_answer (context_of w) test answer)
    → IsMadeAs below (answered_context (root_context (occurrence_of w.read)) w.tests.now answers)
made_more w answers test answer below at is made =
    let root : Context = root_context (occurrence_of w.read) in
    subst (IsMadeAs below)
    (sym (ap (answered_context root w.tests.now) is ∙ answered_more root w.tests.now w.answers.now test answer at)) made

-- the rows of an answer that is no, below a context
pub no_in : (w : Answered) (test : Division) (context below : System) (before : ℕ) → before ≡ length context.rows
    → IsMadeAs context (context_of w)
    → IsMadeAs below (below_answer (context_of w) test false) → HasSmallRows below
    → length below.rows ≡ length context.rows + 2
    → IsNoIn test before (context_of w).vars (before + 2) (below_answer (context_of w) test false)
no_in w test context below before before_is made made_below small count =
    let c : Context = context_of w in
    let two : List RowExpr = undivided_rows c.vars (widened_form c.vars test.form) test.divisor in
    let rows : length c.rows ≡ length context.rows = sym (forms_count c.vars c.rows context.rows made.rows) in
    let zero_more : before ≡ length c.rows + 0 = omega (arith, rows, before_is) in
    let one_more : before + 1 ≡ length c.rows + 1 = omega (arith, rows, before_is) in
    record {
      small = record {
        rows = below.rows;
        made = made_below.rows;
        count = omega (arith, count, before_is);
        over = subst (λ v. AreOver v below.rows) (sym made_below.vars) small.over;
        within = All-weaker (IsWithin (2 ^ 41)) (IsWithin (2 ^ 50))
            (λ f k. IsWithin-weaker (2 ^ 41) (2 ^ 50) f (omega arith) k) below.rows small.within;
      };
      first = ap (slice_get (c.rows ++ two)) zero_more ∙ slice_get-append_right c.rows two 0;
      second = ap (slice_get (c.rows ++ two)) one_more ∙ slice_get-append_right c.rows two 1;
    }

-- the answer is no where no point comes to it
pub answers_no : (answer always : Bool) → cond answer false always ≡ true → (answer ≡ false) × (always ≡ true)
answers_no false always h = (refl, h)
answers_no true always h = absurd (let no : false ≡ true = h in cc)

-- a tree below one answer more
pub no_checked : (w : Answered) (test : Division) (answer : Bool) (tree : Tree)
    → slice_get w.tests.now (length w.answers.now) ≡ Some test → answer ≡ false
    → IsCheckedIn w.nest.now (occurrence_of w.read) every (below_answer (context_of w) test false) tree
    → IsCheckedIn w.nest.now (occurrence_of w.read) every
    (answered_context (root_context (occurrence_of w.read)) w.tests.now (w.answers.now ++ answer ∷ [])) tree
no_checked w test answer tree at is h =
    let root : Context = root_context (occurrence_of w.read) in
    subst (λ answer. IsCheckedIn w.nest.now (occurrence_of w.read) every
    (answered_context root w.tests.now (w.answers.now ++ answer ∷ [])) tree) (sym is)
    (subst (λ c. IsCheckedIn w.nest.now (occurrence_of w.read) every c tree)
    (sym (answered_more root w.tests.now w.answers.now test false at)) h)

pub divides_checked : (w : Answered) (test : Division) (tree : Tree) (form : Form) (first second : Tree) → HasAllWriters w
    → slice_get w.tests.now (length w.answers.now) ≡ Some test → tree ≡ Divides form test.divisor first second
    → form ≡ widened_form (context_of w).vars test.form
    → IsCheckedIn w.nest.now (occurrence_of w.read) every
    (answered_context (root_context (occurrence_of w.read)) w.tests.now (w.answers.now ++ true ∷ [])) first
    → IsCheckedIn w.nest.now (occurrence_of w.read) every
    (answered_context (root_context (occurrence_of w.read)) w.tests.now (w.answers.now ++ false ∷ [])) second
    → IsCheckedIn w.nest.now (occurrence_of w.read) every (context_of w) tree
divides_checked w test tree form first second h at is form_is above below =
    let n : Nest = w.nest.now in
    let r : Occurrence = occurrence_of w.read in
    let root : Context = root_context r in
    let c : Context = context_of w in
    let small : IsSmallTest (length r.statement.loops) test =
    small_at w test h at in
    let vars : c.vars ≡ length r.statement.loops + length w.answers.now = vars_are root w.tests.now w.answers.now h.answers
    in
    let within : length w.answers.now < length w.tests.now = slice_get_within w.tests.now (length w.answers.now) test at in
    at_divides c tree form test.divisor first second is
    (ap (λ (f : Form). length f.coefs) form_is ∙ widened_length test.form.coefs c.vars (omega (arith, small.over, vars)))
    small.divisor (omega (arith, vars, within, h.few))
    (subst (λ f. IsCheckedIn n r every (divides_yes c f test.divisor) first) (sym form_is)
    (subst (λ c. IsCheckedIn n r every c first) (answered_more root w.tests.now w.answers.now test true at) above))
    (subst (λ f. IsCheckedIn n r every (divides_no c f test.divisor) second) (sym form_is)
    (subst (λ c. IsCheckedIn n r every c second) (answered_more root w.tests.now w.answers.now test false at) below))
