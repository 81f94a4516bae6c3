-- Leaves below tests of divisibility: the writes that are joined there, and proofs for the writes of all writers.
use Rattle.std.specs.Prelude.{◌≡◌, ◌≤◌, ◌<◌, ◌+◌, ◌*◌, ◌^◌, ◌==◌, ℕ, ℤ, Bool, true, false, All, Contains, replicate, slice_get, List, [], ◌∷◌, ◌++◌, map, length, nat_lt, Option, Some, None, if◌then◌else◌, slice_index_or}
use Rattle.std.specs.List.{AllZip, filter, flat_map, list_all, range_with_len}
use Rattle.affine_core.specs.declared.form.Form.{Form}
use Rattle.int_polyhedra.specs.declared.system.Proof.{Proof}
use Rattle.tree_sums.specs.Parts.{IsWithin}
use Rattle.tree_graphs.specs.Joint.{IsCheckedForAll, IsPointFor, IsSum, ReadAndWrite}
use Rattle.tree_graphs.specs.Level.{common_of}
use Rattle.tree_graphs.specs.Simple.{IsLightSum, IsSimple}
use Rattle.tree_order.specs.Candidates.{levels_before}
use Rattle.source_tree.specs.declared.reference.Reference.{Reference}
use Rattle.source_tree.specs.Checked.{AreRefuted, IsCheckedIn, IsRefuted}
use Rattle.source_tree.specs.Gives.{gives}
use Rattle.source_tree.specs.Places.{before_rows, same_rows}
use Rattle.source_tree.specs.Rows.{RowExpr, RowSystem}
use Rattle.source_tree.specs.Systems.{Context, Occurrence, Which, every, just, MayName, array_writes, more_rows, named_write, reader_place, root_context, write_systems, writer_place, writer_systems}
use Rattle.source_tree.specs.declared.tree.Tree.{Tree}
use Rattle.source_tree.specs.References.{occurrence_of}
use Rattle.tree_facts.specs.Facts.{fact_rows, AddFacts}
use Rattle.stride_trees.specs.Answers.{answered_context}
use Rattle.stride_trees.specs.Candidates.{order_number, AreCutSums, AreWriterCutSums, IsCutTree}
use Rattle.stride_trees.specs.Contexts.{first_places, outside_cell_systems, own_system, told_system, AreMadeSmall, IsPlaceIn, IsUndividedContext}
use Rattle.stride_trees.specs.Divisions.{never_divides}
use Rattle.stride_trees.specs.Problem.{told_read, told_write}
use Rattle.stride_trees.specs.Strides.{depth_of_read, depth_of_write, read_of, tests_of, write_of, IsSmallContext, IsTestOf}
use Rattle.stride_trees.specs.Writers.{no_place, IsReadOf, IsWriterOf}
use Rattle.stride_trees.specs.declared.divisions.Division.{Division}
use Rattle.stride_trees.specs.declared.leaves.Answered.{Answered}
use Rattle.stride_trees.specs.declared.leaves.Just.{Just}
use Rattle.stride_trees.specs.declared.leaves.Refusal.{Refusal}
use Rattle.stride_trees.specs.declared.strides.Strides.{Strides}
use Rattle.stride_trees.specs.declared.writers.Writer.{Writer}

-- whether the test at this place says yes
abbrev pub answer_at : List Bool → ℕ → Bool
answer_at answers place = slice_index_or answers place false

-- whether all tests of a writer say yes
abbrev pub is_told : List Bool → Writer → Bool
is_told answers w = list_all (answer_at answers) w.places

-- its write over quotients and the read, over so many variables
abbrev pub told_pair : ℕ → Writer → ReadAndWrite
told_pair vars w = record {
  read = told_read vars w.places (read_of w.strides) (write_of w.strides);
  write = told_write (write_of w.strides);
}

-- of those of the writers whose tests all say yes
abbrev pub told_pairs : ℕ → List Bool → List Writer → List ReadAndWrite
told_pairs vars answers writers = map (told_pair vars) (filter (is_told answers) writers)

-- for which writers and levels the tree is
abbrev pub which_in : Option Just → Which
which_in None = every
which_in (Some one) = just one.writer one.level

abbrev pub which_of : Answered → Which
which_of w = which_in w.only

-- the tree is for one writer at one level
abbrev pub IsForOne : Answered → Type 0
IsForOne w = (one : Just) × (w.only ≡ Some one)

-- A writer of the read, which a leaf may name. Where the tree is for one writer at one level, that level is there, and all
-- tests say yes.
pub record IsWriterIn (w : Answered) (x : Writer) : Type 0 where
  pub of : IsWriterOf w.nest.now (occurrence_of w.read) w.tests.now x
  pub may : MayName (which_of w) (write_of x.strides).number
  pub level : (one : Just) → w.only ≡ Some one
      → one.level < levels_before (write_of x.strides) (occurrence_of w.read)
  pub told : IsForOne w → is_told w.answers.now x ≡ true

-- the writers have the systems of all writes of the array before the read, at the levels that are chosen
abbrev pub AreAll : Answered → Type 0
AreAll w =
    (c : Context) (further : Occurrence → List (List RowExpr))
    → flat_map (write_systems (occurrence_of w.read) (which_of w) c further)
    (map (λ x. write_of x.strides) w.writers.now)
    ≡ flat_map (write_systems (occurrence_of w.read) (which_of w) c further)
    (array_writes w.nest.now (occurrence_of w.read))

-- A read of a nest, the writers that are asked, each once, and answers to the first of their tests. For one writer at one
-- level there are no facts.
pub record IsAnswered (w : Answered) : Type 0 where
  pub read : IsReadOf w.nest.now w.read
  pub each : All (IsWriterIn w) w.writers.now
  pub once : (x y : Writer) → Contains w.writers.now x → Contains w.writers.now y
      → (write_of x.strides).number ≡ (write_of y.strides).number → x ≡ y
  pub all : AreAll w
  pub few : length w.tests.now ≤ 6
  pub answers : length w.answers.now ≤ length w.tests.now
  pub without : IsForOne w → w.cuts.now ≡ []
  pub alone : IsForOne w → (x : Writer) × (w.writers.now ≡ x ∷ [])

-- the context below the answers
abbrev pub context_of : Answered → Context
context_of w = answered_context (root_context (occurrence_of w.read)) w.tests.now w.answers.now

-- how many variables there are below all tests
abbrev pub vars_of : Answered → ℕ
vars_of w = length w.read.statement.now.loops + length w.tests.now

-- the writes over quotients that are joined
abbrev pub pairs_of : Answered → List ReadAndWrite
pairs_of w = told_pairs (vars_of w) w.answers.now w.writers.now

-- a context below answers to all tests: so many rows with small numbers, of which those of the answers are the first
pub record IsBelow (w : Answered) (here : ℕ) (c : Context) : Type 0 where
  pub all : length w.answers.now ≡ length w.tests.now
  pub small : IsSmallContext c here
  pub more : List RowExpr
  pub is : c ≡ more_rows (context_of w) more

-- the Cuts add the facts to the context below the answers
abbrev pub HasFacts : Answered → Type 0
HasFacts w = AddFacts (context_of w) w.cuts.now w.facts.now

-- the context below the answers with the facts, and these rows behind
abbrev pub fact_context : Answered → List RowExpr → Context
fact_context w rest = more_rows (context_of w) (fact_rows w.facts.now rest)

-- the same without the facts
abbrev pub own_context : Answered → List RowExpr → Context
own_context w rest = more_rows (context_of w) rest

-- Where a tree is checked for the writes that are joined, in a context with the facts, the other is checked for the writers'
-- own writes in the context without them, and it gives the same. Where that is for one writer at one level, and the first
-- is simple, the proofs of the other are Cuts and a Sum.
pub record Converts (w : Answered) (here : ℕ) (tree own : Tree) : Type 0 where
  pub checked : (rest : List RowExpr) → IsBelow w here (fact_context w rest)
      → IsCheckedForAll (which_of w) (pairs_of w) (fact_context w rest) tree
      → IsCheckedIn w.nest.now (occurrence_of w.read) (which_of w) (own_context w rest) own
  pub same : (values : List ℤ) → gives own values ≡ gives tree values
  pub cuts : (one : Just) (x : Writer) (tests : ℕ) (rest : List RowExpr) → w.only ≡ Some one
      → w.writers.now ≡ x ∷ [] → IsBelow w here (fact_context w rest)
      → IsCheckedForAll (which_of w) (pairs_of w) (fact_context w rest) tree → IsSimple tests tree
      → IsCutTree (occurrence_of w.read) (write_of x.strides) one.level tests (own_context w rest)
      own

-- the answers and the facts of a leaf whose context has so many rows without the facts
pub record IsLeafBelow (w : Answered) (here : ℕ) : Type 0 where
  pub answered : IsAnswered w
  pub facts : HasFacts w
  pub few : here + length w.cuts.now ≤ 2 ^ 30
  pub low : IsForOne w → here ≤ 8192

-- its context with the facts has these rows behind them
abbrev pub IsAtLeaf : Answered → ℕ → List RowExpr → Type 0
IsAtLeaf w here rest = IsBelow w (here + length w.cuts.now) (fact_context w rest)

-- A proof of a system that has so many rows behind those of the leaf's context became one of the system without the
-- facts: the same, where there are none.
pub record IsWithoutFacts (w : Answered) (here count : ℕ) (proof own : Proof) : Type 0 where
  pub refuted : (rest more : List RowExpr) (vars : ℕ) → IsAtLeaf w here rest
      → (context_of w).vars ≤ vars → length more ≡ count
      → IsRefuted (record { vars = vars; rows = (fact_context w rest).rows ++ more }) proof
      → IsRefuted (record { vars = vars; rows = (own_context w rest).rows ++ more }) own
  pub same : w.cuts.now ≡ [] → own ≡ proof

-- the proof is a Sum; where the tree is for one writer at one level it is a light one
pub record IsToldSum (w : Answered) (proof : Proof) : Type 0 where
  pub sum : IsSum proof
  pub light : IsForOne w → IsLightSum proof

-- The tree is checked for the writes that are joined, in a context with the facts. Where it is for one writer at one level,
-- it is simple, and its Tests are few.
pub record IsJoinedBelow (w : Answered) (here : ℕ) (tree : Tree) : Type 0 where
  pub facts : HasFacts w
  pub rest : List RowExpr
  pub below : IsBelow w here (fact_context w rest)
  pub checked : IsCheckedForAll (which_of w) (pairs_of w) (fact_context w rest) tree
  pub simple : IsForOne w → (tests : ℕ) × (here + tests ≤ 8192) × IsSimple tests tree

-- Proofs were added that refute these systems. Where the tree is for one writer at one level they are Cuts and a Sum; the
-- order rows of each system are those from this number on.
pub record AddsOwn (w : Answered) (order : ℕ) (systems : List RowSystem) (old new : List Proof)
    : Type 0 where
  pub added : List Proof
  pub is : new ≡ old ++ added
  pub refuted : AreRefuted systems added
  pub cuts : IsForOne w → AreCutSums order systems added

-- Proofs were added for these systems, where the first of the proofs that were told refute others. The rest of those is
-- for what comes behind.
abbrev pub AddsProofs : Answered → ℕ → List RowSystem → List RowSystem → List Proof → List Proof
    → List Proof → List Proof → Type 0
AddsProofs w order from to told rest old new =
    (more : List RowSystem) → AreRefuted (from ++ more) told
    → AddsOwn w order to old new × AreRefuted more rest

-- how many rows a level of order has, where so many loops are common
abbrev pub level_count_of : ℕ → ℕ → ℕ
level_count_of common level = 2 * level + (if nat_lt level common then 1 else 0)

-- how many rows each level of order of the first statement before the second has
abbrev pub order_counts : Occurrence → Occurrence → List ℕ
order_counts u w = map (level_count_of (common_of u w)) (range_with_len 0 (levels_before u w))

-- the same behind a place of a writer, and without one no rows once
abbrev pub counts_behind : Option Reference → Occurrence → List ℕ
counts_behind None u = 0 ∷ []
counts_behind (Some of) u = order_counts (occurrence_of of) u

-- order rows over so many variables, so many, with small numbers
abbrev pub AreOrderRows : ℕ → ℕ → List RowExpr → Type 0
AreOrderRows vars count rows = (length rows ≡ count) × AreMadeSmall vars rows

-- such for each of these counts
abbrev pub HaveOrderRows : ℕ → List ℕ → List (List RowExpr) → Type 0
HaveOrderRows vars counts orders = AllZip (AreOrderRows vars) counts orders

-- what stands behind the rows of a write before the read: nothing, or order rows of a place before it
abbrev pub IsFurther : Option Reference → Context → (Occurrence → List (List RowExpr)) → Type 0
IsFurther None c further = (u : Occurrence) → further u ≡ [] ∷ []
IsFurther (Some of) c further =
    (place : List Form) × IsPlaceIn c (length of.statement.now.loops) place
    × ((u : Occurrence) → further u
    ≡ before_rows of.number of.statement.now place u.number u.statement (writer_place c u))

-- the systems of a writer's write before the read
abbrev pub own_systems : Which → Context → (Occurrence → List (List RowExpr)) → Writer
    → List RowSystem
own_systems which c further w =
    write_systems (read_of w.strides) which c further (write_of w.strides)

-- the same over quotients, where its tests all say yes
abbrev pub told_systems : Which → List Bool → Context → (Occurrence → List (List RowExpr)) → Writer
    → List RowSystem
told_systems which answers c further w =
    if is_told answers w
    then write_systems (told_pair c.vars w).read which c further (told_pair c.vars w).write else []

-- how many rows a domain and a cell have
abbrev pub domain_cell_rows : Occurrence → ℕ
domain_cell_rows u = length u.statement.rows + 2 * length u.access.subscripts

-- how many variables the systems of a writer's write have
abbrev pub write_vars : Answered → Writer → ℕ
write_vars w x = (context_of w).vars + depth_of_write x.strides

-- the system of a writer's write with these order rows: over quotients, where its tests all say yes, with the facts
abbrev pub told_order_systems : Answered → List RowExpr → Writer → List RowExpr → List RowSystem
told_order_systems w rest x order =
    if is_told w.answers.now x
    then told_system x.strides x.places (fact_context w rest) order ∷ [] else []

-- and as it stands in the nest, without the facts
abbrev pub own_order_system : Answered → List RowExpr → Writer → List RowExpr → RowSystem
own_order_system w rest x order = own_system x.strides (own_context w rest) order

-- its order rows in the context without the facts are those from this number on
abbrev pub own_order_number : Answered → List RowExpr → Writer → ℕ
own_order_number w rest x =
    order_number (read_of x.strides) (write_of x.strides) (own_context w rest)

-- these orders behind each level
abbrev pub all_orders : List (List RowExpr) → List (List RowExpr) → List (List RowExpr)
all_orders behind levels = flat_map (λ level. map (λ rows. level ++ rows) behind) levels

-- proofs were added for each of these orders of a writer's write
abbrev pub AddsOrderProofs : Answered → List RowExpr → Writer → List (List RowExpr) → List Proof
    → List Proof → List Proof → List Proof → Type 0
AddsOrderProofs w rest x orders told left old new =
    AddsProofs w (own_order_number w rest x) (flat_map (told_order_systems w rest x) orders)
    (map (own_order_system w rest x) orders) told left old new

-- Proofs were added for these writers' writes, behind which these orders stand: Cuts and a Sum, where that is one writer at
-- one level.
pub record AddsWriters (w : Answered) (rest : List RowExpr)
    (further : Occurrence → List (List RowExpr)) (writers : List Writer) (old new : List Proof)
    : Type 0 where
  pub added : List Proof
  pub is : new ≡ old ++ added
  pub refuted : AreRefuted
      (flat_map (own_systems (which_of w) (own_context w rest) further) writers) added
  pub cuts : IsForOne w → (x : Writer) → writers ≡ x ∷ []
      → AreCutSums (own_order_number w rest x)
      (own_systems (which_of w) (own_context w rest) further x) added

-- that a place is in the domain and writes the read's cell: over quotients with the facts, and as it stands in the
-- nest without them
abbrev pub told_place_systems : Answered → List RowExpr → Writer → List Form → List RowSystem
told_place_systems w rest x place =
    let c = fact_context w rest in
    outside_cell_systems (told_pair c.vars x).read (told_pair c.vars x).write c place

abbrev pub own_place_systems : Answered → List RowExpr → Writer → List Form → List RowSystem
own_place_systems w rest x place =
    outside_cell_systems (read_of x.strides) (write_of x.strides) (own_context w rest) place

-- the order rows of the reader before a place of a write, and, where the write is the reader's, those that it is there
abbrev pub after_orders : Occurrence → Occurrence → List Form → List (List RowExpr)
after_orders r u place =
    before_rows r.number r.statement (reader_place r) u.number u.statement place
    ++ (if u.number == r.number then same_rows (reader_place r) place ∷ [] else [])

-- such orders have so many rows
abbrev pub HaveRowCounts : List ℕ → List (List RowExpr) → Type 0
HaveRowCounts counts orders = AllZip (λ count order. length order ≡ count) counts orders

-- how many rows each of them has
abbrev pub after_counts : Occurrence → Occurrence → List ℕ
after_counts r u =
    order_counts r u
    ++ (if u.number == r.number then (2 * length r.statement.loops) ∷ [] else [])

-- a test that says no among these, which stand at these places
pub record IsRefusalAmong (answers : List Bool) (divisions : List Division) (places : List ℕ)
    (refusal : Refusal) : Type 0 where
  pub number : ℕ
  pub division : slice_get divisions number ≡ Some refusal.division.now
  pub place : slice_get places number ≡ Some refusal.place
  pub no : answer_at answers refusal.place ≡ false

-- it is one of the tests of the write, and one that isn't asked says no by its form alone
pub record IsRefusal (s : Strides) (refusal : Refusal) : Type 0 where
  pub test : IsTestOf s refusal.division.now
  pub never : no_place ≤ refusal.place → never_divides refusal.division.now ≡ true

-- a context of so many rows where the test says no: a test that is asked has its two rows there
pub record IsRefusedContext (s : Strides) (refusal : Refusal) (here : ℕ) (c : Context)
    : Type 0 where
  pub small : IsSmallContext c here
  pub reader : depth_of_read s ≤ c.vars
  pub asked : refusal.place < no_place
      → IsUndividedContext s refusal.division.now refusal.place here c

-- one of the writers has this number
abbrev pub HasWriter : List Writer → ℕ → Type 0
HasWriter writers number =
    (w : Writer) × Contains writers w × (w.strides.write.number ≡ number)

-- the proofs are those of a joined Writer leaf for the write of this number, in this context
abbrev pub IsJoinedPoint : Answered → Context → ℕ → List Form → List Proof → Type 0
IsJoinedPoint w = IsPointFor (which_of w) (pairs_of w)

-- They are those of a Writer leaf of the nest: Cuts and a Sum, where the tree is for one writer at one level and the point's
-- numbers are small.
pub record IsOwnPoint (w : Answered) (c : Context) (number : ℕ) (place : List Form)
    (proofs : List Proof) : Type 0 where
  pub write : Occurrence
  pub named : named_write w.nest.now (occurrence_of w.read) number ≡ Some write
  pub may : MayName (which_of w) number
  pub deep : length place ≡ length write.statement.loops
  pub refuted : AreRefuted
      (writer_systems w.nest.now (occurrence_of w.read) (which_of w) c write place) proofs
  pub cuts : (one : Just) (x : Writer) → w.only ≡ Some one → w.writers.now ≡ x ∷ []
      → All (IsWithin (2 ^ 40)) place
      → AreWriterCutSums (occurrence_of w.read) (write_of x.strides) one.level c place proofs

-- the writer of these, whose tests are asked at the places 0, 1, 2 and so on
pub record IsOwnWriter (s : Strides) (x : Writer) : Type 0 where
  pub strides : x.strides ≡ s
  pub divisions : x.divisions ≡ tests_of s
  pub places : x.places ≡ first_places s

-- the writer alone, at its level, where its tests all say yes, without facts
pub record IsAlone (s : Strides) (w : Answered) : Type 0 where
  pub nest : w.nest.now ≡ s.nest.now
  pub read : w.read ≡ s.read
  pub writer : Writer
  pub own : IsOwnWriter s writer
  pub writers : w.writers.now ≡ writer ∷ []
  pub tests : w.tests.now ≡ tests_of s
  pub answers : w.answers.now ≡ replicate (length (tests_of s)) true
  pub cuts : w.cuts.now ≡ []
  pub facts : w.facts.now ≡ []
  pub only : w.only ≡ Some (record { writer = s.write.number; level = s.level })
