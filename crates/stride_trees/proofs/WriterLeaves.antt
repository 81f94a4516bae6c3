-- A Writer leaf, part by part.
--
-- Its write is that of the one writer with its number, which is told. The proofs are those that the place is in the
-- domain and writes the read's cell, as many as rows and subscripts say, those that the reader isn't before it, and
-- those of the writes between. The first are cut off by their number; of the others each step takes what is its own.
use Rattle.std.proofs.Common.{◌≡◌, ◌==◌, ◌+◌, ◌*◌, ◌^◌, ◌≤◌, ℕ, zero, suc, List, [], ◌∷◌, ◌++◌, length, map, take, drop}
use Rattle.std.proofs.Common.{Bool, true, false, cond, refl, sym, ap, ◌∙◌, subst, arith, length-append}
use Rattle.std.specs.Prelude.{All, Some, Contains, nat_lt, slice_get}
use Rattle.std.specs.List.{filter, flat_map}
use Rattle.std.proofs.lemmas.Bool.{eqb-true}
use Rattle.std.proofs.lemmas.List.{append-nil, append_assoc, drop_at, length-map, map-append, take_at}
use Rattle.std.proofs.lemmas.List.Elements.{All-contains}
use Rattle.std.proofs.lemmas.Option.{same_Some}
use Rattle.affine_core.specs.declared.form.Form.{Form}
use Rattle.int_polyhedra.specs.declared.system.Proof.{Proof}
use Rattle.sanlp.proofs.Precedence.{common_first, common_second}
use Rattle.sanlp.specs.declared.nest.Nest.{Nest}
use Rattle.sanlp.specs.declared.nest.Statement.{Statement}
use Rattle.source_tree.specs.Checked.{AreRefuted}
use Rattle.source_tree.specs.Places.{before_rows, differ_rows, same_rows}
use Rattle.source_tree.specs.References.{occurrence_of}
use Rattle.source_tree.specs.Rows.{RowExpr, RowSystem, below_zero}
use Rattle.source_tree.specs.Places.{at_place}
use Rattle.source_tree.specs.Systems.{Context, Occurrence, after_systems, array_writes, cell_systems, just, named_write, MayName}
use Rattle.source_tree.specs.Systems.{outside_systems, reader_place, with_rows, write_systems}
use Rattle.source_tree.proofs.Refutations.{AreRefuted-append, length-AreRefuted}
use Rattle.plain_data.proofs.Lists.{Contains-first}
use Rattle.stride_trees.specs.Candidates.{order_number, AreCutSums, AreNoneCutSums, AreWriterCutSums}
use Rattle.stride_trees.specs.Contexts.{outside_cell_systems, IsPlaceIn}
use Rattle.stride_trees.specs.Leaves.{after_counts, after_orders, domain_cell_rows, fact_context, is_told, order_counts, own_context}
use Rattle.stride_trees.specs.Leaves.{own_order_number, own_place_systems, own_systems, pairs_of, told_pair, told_pairs}
use Rattle.stride_trees.specs.Leaves.{told_place_systems, told_systems, vars_of, which_in, which_of, AddsProofs, AddsWriters}
use Rattle.stride_trees.specs.Leaves.{HaveRowCounts, IsAnswered, IsAtLeaf, IsForOne, IsJoinedPoint, IsOwnPoint, IsWriterIn}
use Rattle.stride_trees.specs.Problem.{problem_write, told_read, told_write}
use Rattle.stride_trees.specs.Strides.{depth_of_write, read_of, write_of, IsStrided}
use Rattle.stride_trees.specs.Writers.{IsWriterOf}
use Rattle.stride_trees.specs.declared.leaves.Answered.{Answered}
use Rattle.stride_trees.specs.declared.leaves.Just.{Just}
use Rattle.stride_trees.specs.declared.strides.Strides.{Strides}
use Rattle.stride_trees.specs.declared.writers.Writer.{Writer}
use Rattle.stride_trees.proofs.FactLeaves.{after_is}
use Rattle.stride_trees.proofs.LeafConversion.{below_vars}
use Rattle.stride_trees.proofs.LevelCounts.{order_lengths}
use Rattle.stride_trees.proofs.Lists.{refuted_apart, AreRefutedBoth}
use Rattle.stride_trees.proofs.ProblemBounds.{are_fitting, AreFitting}
use Rattle.stride_trees.proofs.SystemConversion.{reads_count}
use Rattle.stride_trees.proofs.TreeConversion.{all_own, joined_told}
use Rattle.tree_cuts.specs.Sources.{divided_form}
use Rattle.tree_graphs.specs.Joint.{later_systems, no_orders, none_systems, orders_behind, read_and_write, write_systems_of, ReadAndWrite}
use Rattle.tree_graphs.specs.Level.{common_of}
use Rattle.tree_graphs.proofs.OrderEdges.{length_variables}
use Rattle.tree_sums.specs.Parts.{IsWithin}

-- The writer of a number

-- the writer of a pair that is told
record IsPairOf (vars : ℕ) (answers : List Bool) (writers : List Writer) (o : ReadAndWrite) : Type 0 where
  pub writer : Writer
  pub there : Contains writers writer
  pub told : is_told answers writer ≡ true
  pub is : told_pair vars writer ≡ o

behind_first : (x : Writer) (writers : List Writer) (y : Writer) → Contains writers y → Contains (x ∷ writers) y
behind_first x writers y (k, lt, is) = (suc k, omega (arith, lt), is)

pair_writer : (vars : ℕ) (answers : List Bool) (writers : List Writer) (o : ReadAndWrite)
    → Contains (told_pairs vars answers writers) o → IsPairOf vars answers writers o
pair_writer vars answers [] o (k, lt, is) = absurd (omega (arith, lt))
pair_writer vars answers (x ∷ writers) o there = go (is_told answers x) refl there (pair_writer vars answers writers o) where
  go : (b : Bool) → is_told answers x ≡ b
      → Contains (map (told_pair vars) (cond b (x ∷ filter (is_told answers) writers) (filter (is_told answers) writers))) o
      → (Contains (told_pairs vars answers writers) o → IsPairOf vars answers writers o)
      → IsPairOf vars answers (x ∷ writers) o
  go true e (zero, lt, is) rest = record { writer = x; there = (zero, omega arith, refl); told = e; is = is }
  go true e (suc k, lt, is) rest =
      let h : IsPairOf vars answers writers o = rest (k, omega (arith, lt), is) in
      record { writer = h.writer; there = behind_first x writers h.writer h.there; told = h.told; is = h.is }
  go false e there rest =
      let h : IsPairOf vars answers writers o = rest there in
      record { writer = h.writer; there = behind_first x writers h.writer h.there; told = h.told; is = h.is }

-- a leaf names a writer
pub leaf_writer : (w : Answered) (c : Context) (number : ℕ) (place : List Form) (told : List Proof)
    → IsJoinedPoint w c number place told
    → (x : Writer) × Contains w.writers.now x × (x.strides.write.number ≡ number)
leaf_writer w c number place told j =
    let h = pair_writer (vars_of w) w.answers.now w.writers.now j.pair j.among in
    (h.writer, h.there, ap (λ (o : ReadAndWrite). o.write.number) h.is ∙ sym j.number_is)

pub writer_in : (w : Answered) (x : Writer) → IsAnswered w → Contains w.writers.now x → IsWriterIn w x
writer_in w x h there = All-contains (IsWriterIn w) w.writers.now x h.each there

-- the numbers of a writer are small
pub writer_fits : (w : Answered) (x : Writer) → IsAnswered w → Contains w.writers.now x
    → AreFitting x.strides.nest.now (read_of x.strides) (write_of x.strides) x.strides.level
writer_fits w x h there =
    let of : IsWriterOf w.nest.now (occurrence_of w.read) w.tests.now x = (writer_in w x h there).of in
    are_fitting x.strides.nest.now (read_of x.strides) (write_of x.strides) x.strides.level of.strided.strided

-- The systems of a point

-- the systems of a point, those of its domain and cell apart
head_apart : (a b d e : List RowSystem) → (a ++ (b ++ d)) ++ e ≡ (a ++ b) ++ (d ++ e)
head_apart a b d e =
    append_assoc a (b ++ d) e ∙ ap (λ xs. a ++ xs) (append_assoc b d e) ∙ sym (append_assoc a b (d ++ e))

length-differ_rows : (writes reads place : List Form) → length writes ≡ length reads
    → length (differ_rows writes reads place) ≡ 2 * length writes
length-differ_rows [] reads place e = refl
length-differ_rows (write ∷ writes) [] place e = absurd (omega arith)
length-differ_rows (write ∷ writes) (read ∷ reads) place e = omega (arith, length-differ_rows writes reads place (omega (arith, e)))

-- how many proofs tell that a place is in the domain and writes the read's cell
place_count : (s : Strides) → IsStrided s → (places : List ℕ) (c : Context) (place : List Form)
    → length (outside_cell_systems (told_read c.vars places (read_of s) (write_of s)) (told_write (write_of s)) c place)
    ≡ length s.write.statement.now.rows + 2 * length s.write.access.now.subscripts
place_count s strided places c place =
    let r : Occurrence = read_of s in
    let w : Occurrence = write_of s in
    let r' : Occurrence = told_read c.vars places r w in
    let w' : Occurrence = told_write w in
    let fits : AreFitting s.nest.now r w s.level = are_fitting s.nest.now r w s.level strided.strided in
    omega (
      arith,
      length-append (outside_systems c w' place) (cell_systems r' c w' place),
      length-map w'.statement.rows (λ row. with_rows c (below_zero (at_place row place) ∷ [])),
      length-map w.statement.rows divided_form,
      length-map (differ_rows w'.access.subscripts r'.access.subscripts place) (λ row. with_rows c (row ∷ [])),
      length-differ_rows w'.access.subscripts r'.access.subscripts place
          (length-map w.access.subscripts problem_write
          ∙ reads_count c.vars (length r.statement.loops) places w.access.subscripts r.access.subscripts fits.even),
      length-map w.access.subscripts problem_write,
    )

-- the one writer
pub alone_is : (w : Answered) (x y : Writer) → Contains w.writers.now x → w.writers.now ≡ y ∷ [] → x ≡ y
alone_is w x y there single = go (subst (λ ws. Contains ws x) single there) where
  go : Contains (y ∷ []) x → x ≡ y
  go (zero, lt, is) = sym is
  go (suc k, lt, is) = absurd (omega (arith, lt))

-- its systems at the one level
pub one_later : (w : Answered) (x : Writer) (one : Just) → w.only ≡ Some one → MayName (which_of w) (write_of x.strides).number
    → (c : Context) (further : Occurrence → List (List RowExpr))
    → own_systems (which_of w) c further x
    ≡ write_systems_of (just (write_of x.strides).number one.level)
    (read_and_write (read_of x.strides) (write_of x.strides) ∷ []) c further
one_later w x one only may c further =
    let u : Occurrence = write_of x.strides in
    let number : u.number ≡ one.writer = subst (λ o. MayName (which_in o) u.number) only may in
    ap (λ o. own_systems (which_in o) c further x) only
    ∙ ap (λ n. own_systems (just n one.level) c further x) (sym number)
    ∙ sym (append-nil (own_systems (just u.number one.level) c further x))

-- the proofs of a Zero leaf of the one writer
pub one_none : (w : Answered) (rest : List RowExpr) (one : Just) (x : Writer) (added proofs : List Proof) → IsAnswered w
    → w.only ≡ Some one → w.writers.now ≡ x ∷ [] → proofs ≡ added
    → AreCutSums (own_order_number w rest x) (own_systems (which_of w) (own_context w rest) no_orders x) added
    → AreNoneCutSums (occurrence_of w.read) (write_of x.strides) one.level (own_context w rest) proofs
one_none w rest one x added proofs h only single is cuts =
    let c : Context = own_context w rest in
    let u : Occurrence = write_of x.strides in
    let there : Contains w.writers.now x = subst (λ ws. Contains ws x) (sym single) (Contains-first x []) in
    let i : IsWriterIn w x = writer_in w x h there in
    subst (λ r. AreCutSums (order_number r u c) (none_systems r u one.level c) proofs) i.of.read
    (subst (AreCutSums (own_order_number w rest x) (none_systems (read_of x.strides) u one.level c)) (sym is)
    (subst (λ systems. AreCutSums (own_order_number w rest x) systems added)
    (one_later w x one only i.may c no_orders) cuts))

module _ (w : Answered) (here : ℕ) (rest : List RowExpr) (number : ℕ) (place : List Form) (told : List Proof) (x : Writer)
    (h : IsAnswered w) (below : IsAtLeaf w here rest) (j : IsJoinedPoint w (fact_context w rest) number place told)
    (there : Contains w.writers.now x) (named : x.strides.write.number ≡ number) where
  abbrev c : Context
  c = fact_context w rest

  abbrev s : Strides
  s = x.strides

  abbrev u : Occurrence
  u = write_of x.strides

  abbrev r : Occurrence
  r = read_of x.strides

  abbrev r' : Occurrence
  r' = told_read c.vars x.places (read_of x.strides) (write_of x.strides)

  abbrev u' : Occurrence
  u' = told_write (write_of x.strides)

  pub of : IsWriterOf w.nest.now (occurrence_of w.read) w.tests.now x
  of = (writer_in w x h there).of

  fits : AreFitting s.nest.now r u s.level
  fits = writer_fits w x h there

  pair_is : (told_pair c.vars x ≡ j.pair) × (is_told w.answers.now x ≡ true)
  pair_is =
      let p = pair_writer (vars_of w) w.answers.now w.writers.now j.pair j.among in
      let same : x ≡ p.writer
      = h.once x p.writer there p.there (named ∙ j.number_is ∙ sym (ap (λ (o : ReadAndWrite). o.write.number) p.is)) in (
        ap (λ v. told_pair v x) (below_vars w (here + length w.cuts.now) c below) ∙ ap (told_pair (vars_of w)) same ∙ p.is,
        ap (is_told w.answers.now) same ∙ p.told,
      )

  pub is_told_here : is_told w.answers.now x ≡ true
  is_told_here = pair_is.1

  -- the systems, part by part
  abbrev outside : List RowSystem
  outside = outside_cell_systems r' u' c place

  abbrev after : List RowSystem
  after = after_systems r c u place

  abbrev between : List RowSystem
  between = write_systems_of (which_of w) (pairs_of w) c (orders_behind u place c)

  pub told_refuted : AreRefuted (outside ++ (after ++ between)) told
  told_refuted =
      subst (λ xs. AreRefuted xs told)
      (head_apart (outside_systems c u' place) (cell_systems r' c u' place) after between)
      (subst (λ (o : ReadAndWrite). AreRefuted ((outside_systems c o.write place
      ++ (cell_systems o.read c o.write place ++ after_systems o.read c o.write place))
      ++ write_systems_of (which_of w) (pairs_of w) c (orders_behind o.write place c)) told) (sym pair_is.0) j.refuted)

  pub first : AreRefutedBoth outside (after ++ between) told
  first = refuted_apart outside (after ++ between) told told_refuted

  deep : length place ≡ length u.statement.loops
  deep = j.deep ∙ sym (ap (λ (o : ReadAndWrite). length o.write.statement.loops) pair_is.0)

  pub is_place : IsPlaceIn c (depth_of_write s) place
  is_place = record { deep = deep; over = j.over; within = j.within }

  pub cell_count : length first.front ≡ length s.write.statement.now.rows + 2 * length s.write.access.now.subscripts
  cell_count =
      length-AreRefuted outside first.front first.of_first ∙ place_count s of.strided x.places c place

  -- the cuts
  module _ (cells : ℕ) (cells_are : cells ≡ domain_cell_rows u) where
    pub front_is : take cells told ≡ first.front
    front_is = ap (take cells) first.is ∙ take_at first.front first.back cells (cell_count ∙ sym cells_are)

    pub back_is : drop cells told ≡ first.back
    back_is = ap (drop cells) first.is ∙ drop_at first.front first.back cells (cell_count ∙ sym cells_are)

    pub cells_inside : cells ≤ length told
    cells_inside = omega (arith, ap length first.is, length-append first.front first.back, cell_count, cells_are)

  -- where the write is of the reader's statement, both have the same loops
  same_loops : (u.number == r.number) ≡ true → length u.statement.loops ≡ length r.statement.loops
  same_loops e =
      let at : slice_get w.nest.now.statements u.number ≡ Some u.statement =
      subst (λ (n : Nest). slice_get n.statements u.number ≡ Some u.statement) of.nest fits.named.is in
      let reader : slice_get w.nest.now.statements r.number ≡ Some r.statement =
      subst (λ (r : Occurrence). slice_get w.nest.now.statements r.number ≡ Some r.statement) (sym of.read) h.read.statement in
      let same : u.statement ≡ r.statement =
      same_Some u.statement r.statement
      (sym at ∙ ap (slice_get w.nest.now.statements) (eqb-true u.number r.number e) ∙ reader) in
      ap (λ (s : Statement). length s.loops) same

  -- the orders of the reader before the place have as many rows as were counted
  abbrev orders : List (List RowExpr)
  orders = after_orders r u place

  same_rows_long : (a b : List Form) → length a ≡ length b → length (same_rows a b) ≡ 2 * length a
  same_rows_long [] [] e = omega arith
  same_rows_long [] (f ∷ b) e = omega arith
  same_rows_long (f ∷ a) [] e = absurd (omega (arith, e))
  same_rows_long (f ∷ a) (g ∷ b) e = omega (arith, same_rows_long a b (omega (arith, e)))

  lengths_are : map length orders ≡ after_counts r u
  lengths_are =
      let before : List (List RowExpr) =
      before_rows r.number r.statement (reader_place r) u.number u.statement place in
      map-append length before (cond (u.number == r.number) (same_rows (reader_place r) place ∷ []) [])
      ∙ ap (λ ns. ns ++ map length (cond (u.number == r.number) (same_rows (reader_place r) place ∷ []) []))
      (order_lengths (common_of r u) (nat_lt r.number u.number) (reader_place r) place
      (omega (
        arith,
        length_variables 0 (length r.statement.loops),
        common_first r.statement.loops u.statement.loops,
      ))
      (omega (arith, deep, common_second r.statement.loops u.statement.loops)))
      ∙ ap (λ ns. order_counts r u ++ ns) (go (u.number == r.number) refl) where
        go : (b : Bool) → (u.number == r.number) ≡ b
            → map length (cond b (same_rows (reader_place r) place ∷ []) []) ≡ cond b ((2 * length r.statement.loops) ∷ []) []
        go true e =
            let both : length (reader_place r) ≡ length place =
            omega (arith, length_variables 0 (length r.statement.loops), deep, same_loops e) in
            let long : length (same_rows (reader_place r) place) ≡ 2 * length r.statement.loops =
            omega (arith, same_rows_long (reader_place r) place both, length_variables 0 (length r.statement.loops)) in
            ap (λ n. n ∷ []) long
        go false e = refl

  pub orders_long : (counts : List ℕ) → counts ≡ after_counts (occurrence_of w.read) u → HaveRowCounts counts orders
  orders_long counts e =
      subst (λ ns. HaveRowCounts ns orders)
      (lengths_are ∙ ap (λ (r : Occurrence). after_counts r u) of.read ∙ sym e) (go orders) where
        go : (orders : List (List RowExpr)) → HaveRowCounts (map length orders) orders
        go [] = tt
        go (rows ∷ orders) = (refl, go orders)

  -- the proofs of the nest's own leaf
  abbrev own : Context
  own = own_context w rest

  abbrev all_between : List RowSystem
  all_between = flat_map (write_systems (occurrence_of w.read) (which_of w) own (orders_behind u place c))
      (array_writes w.nest.now (occurrence_of w.read))

  pub own_point : (cells left middle proofs : List Proof)
      → (AreRefuted (told_place_systems w rest x place) first.front → AreRefuted (own_place_systems w rest x place) cells)
      → (IsForOne w → All (IsWithin (2 ^ 40)) place → AreRefuted (told_place_systems w rest x place) first.front
      → AreCutSums (length own.rows + 1) (own_place_systems w rest x place) cells)
      → AddsProofs w (length own.rows) (map (with_rows c) orders) (map (with_rows own) orders) first.back left cells middle
      → (AreRefuted (flat_map (told_systems (which_of w) w.answers.now c (orders_behind u place c)) w.writers.now) left
      → AddsWriters w rest (orders_behind u place c) w.writers.now middle proofs)
      → IsOwnPoint w own number place proofs
  own_point cells left middle proofs converted cuts added written =
      let systems : List RowSystem = own_place_systems w rest x place in
      let after_told : AreRefuted (map (with_rows c) orders ++ between) first.back =
      subst (λ ss. AreRefuted (ss ++ between) first.back) (after_is r u c place) first.of_second in
      let two = added between after_told in
      let after_own : AreRefuted (after_systems r own u place) two.0.added =
      subst (λ ss. AreRefuted ss two.0.added) (sym (after_is r u own place)) two.0.refuted in
      let writers : AddsWriters w rest (orders_behind u place c) w.writers.now middle proofs =
      written (joined_told w (here + length w.cuts.now) rest (orders_behind u place c) left below two.1) in
      let of_writers : AreRefuted all_between writers.added =
      subst (λ ss. AreRefuted ss writers.added) (all_own w rest (orders_behind u place c) h) writers.refuted in
      let are : proofs ≡ cells ++ (two.0.added ++ writers.added) =
      writers.is ∙ ap (λ ps. ps ++ writers.added) two.0.is ∙ append_assoc cells two.0.added writers.added in
      let all : AreRefuted (systems ++ (after_systems r own u place ++ all_between)) proofs =
      subst (AreRefuted (systems ++ (after_systems r own u place ++ all_between))) (sym are)
      (AreRefuted-append systems (after_systems r own u place ++ all_between) cells (two.0.added ++ writers.added)
      (converted first.of_first)
      (AreRefuted-append (after_systems r own u place) all_between two.0.added writers.added after_own of_writers)) in
      record {
        write = u;
        named = subst (λ (n : Nest). named_write n (occurrence_of w.read) number ≡ Some u) of.nest
            (subst (λ (r : Occurrence). named_write s.nest.now r number ≡ Some u) of.read
            (ap (named_write s.nest.now r) (sym named) ∙ of.strided.strided.write));
        may = subst (MayName (which_of w)) named (writer_in w x h there).may;
        deep = deep;
        refuted = subst (λ (rr : Occurrence). AreRefuted (outside_systems own u place
            ++ (cell_systems rr own u place ++ (after_systems rr own u place ++ all_between))) proofs) of.read
            (subst (λ xs. AreRefuted xs proofs)
            (append_assoc (outside_systems own u place) (cell_systems r own u place)
            (after_systems r own u place ++ all_between)) all);
        cuts = λ one y only single near. of_one one y only single cells two.0.added writers.added are
            (cuts (one, only) near first.of_first)
            (subst (λ ss. AreCutSums (length own.rows) ss two.0.added) (sym (after_is r u own place))
            (two.0.cuts (one, only)))
            (writers.cuts (one, only) y single);
      } where
        -- where it is the one writer
        of_one : (one : Just) (y : Writer) → w.only ≡ Some one → w.writers.now ≡ y ∷ []
            → (cells added last : List Proof) → proofs ≡ cells ++ (added ++ last)
            → AreCutSums (length own.rows + 1) (own_place_systems w rest x place) cells
            → AreCutSums (length own.rows) (after_systems r own u place) added
            → AreCutSums (own_order_number w rest y) (own_systems (which_of w) own (orders_behind u place c) y) last
            → AreWriterCutSums (occurrence_of w.read) (write_of y.strides) one.level own place proofs
        of_one one y only single cells added last are of_place of_after of_last =
            let same : x ≡ y = alone_is w x y there single in
            let last_is : AreCutSums (own_order_number w rest x) (own_systems (which_of w) own (orders_behind u place c) x) last =
            subst (λ y. AreCutSums (own_order_number w rest y) (own_systems (which_of w) own (orders_behind u place c) y) last)
            (sym same) of_last in
            let later : own_systems (which_of w) own (orders_behind u place c) x
            ≡ later_systems r u one.level own place
            = one_later w x one only (writer_in w x h there).may own (orders_behind u place c) in
            subst (λ y. AreWriterCutSums (occurrence_of w.read) (write_of y.strides) one.level own place proofs) same
            (subst (λ rr. AreWriterCutSums rr u one.level own place proofs) of.read (record {
              of_place = cells;
              after = added;
              later = last;
              are = are;
              place_cuts = of_place;
              after_cuts = of_after;
              later_cuts = subst (λ ss. AreCutSums (own_order_number w rest x) ss last) later last_is;
            }))
