-- A leaf below all answers, for one writer.
--
-- Where its tests all say yes its context has them, so its systems are converted; else one of them says no there. The
-- order rows of its levels, and those of a place before it, are as many as were counted, and small.
use Rattle.std.proofs.Common.{◌≡◌, ◌==◌, ◌+◌, ◌*◌, ◌≤◌, ◌<◌, ◌^◌, ℕ, zero, suc, List, [], ◌∷◌, ◌++◌, length, map, Bool, true, false}
use Rattle.std.proofs.Common.{◌&&◌, cond, refl, sym, ap, ◌∙◌, subst, arith}
use Rattle.std.specs.Prelude.{Option, Some, None, All, IfSome, drop, nat_lt, slice_get, take}
use Rattle.std.specs.List.{AllZip, flat_map, list_all}
use Rattle.std.proofs.lemmas.List.{length-map, map-append}
use Rattle.std.proofs.lemmas.Bool.{eq-eqb, ne_eqb}
use Rattle.std.proofs.lemmas.List.Elements.{All-append, All-cons, All-drop, All-head, All-nil, All-tail, All-take}
use Rattle.std.proofs.lemmas.Option.{same_Some, slice_get_within}
use Rattle.std.proofs.lemmas.Simd.{map-map}
use Rattle.affine_core.specs.declared.form.Form.{Form}
use Rattle.tree_order.specs.Candidates.{levels_before}
use Rattle.stride_trees.specs.Writers.{asked, is_never, no_place, unasked, IsPlaceOf, IsTestAt, IsWriterOf}
use Rattle.stride_trees.specs.Leaves.{after_counts, all_orders, answer_at, context_of, counts_behind, fact_context, is_told}
use Rattle.stride_trees.specs.Leaves.{order_counts, own_context, own_order_number, own_order_system, own_systems, told_order_systems}
use Rattle.stride_trees.specs.Leaves.{told_systems, which_in, which_of, write_vars, AddsOrderProofs, AddsProofs, HaveOrderRows, IsAnswered}
use Rattle.stride_trees.specs.Leaves.{IsAtLeaf, IsBelow, IsFurther, IsRefusal, IsRefusalAmong, IsRefusedContext, IsWriterIn}
use Rattle.stride_trees.specs.declared.leaves.Answered.{Answered}
use Rattle.stride_trees.specs.declared.leaves.Just.{Just}
use Rattle.stride_trees.specs.declared.leaves.Refusal.{Refusal}
use Rattle.stride_trees.specs.declared.writers.Writer.{Writer}
use Rattle.int_polyhedra.specs.declared.system.Proof.{Proof}
use Rattle.stride_trees.proofs.WriterTests.{asked_at, no_test_in, tests_asked, tests_in, told_asked, HasAnswers, IsNoTestIn}
use Rattle.stride_trees.proofs.Below.{answer_row, vars_are}
use Rattle.stride_trees.proofs.LevelCounts.{counts_few, orders_made, order_lengths, AreNear}
use Rattle.tree_graphs.specs.Level.{common_of}
use Rattle.source_tree.specs.declared.reference.Reference.{Reference}
use Rattle.tree_graphs.proofs.OrderEdges.{length_variables, variable_over, variable_within}
use Rattle.plain_data.proofs.Lists.{All-slice_get}
use Rattle.tree_sums.specs.Parts.{IsWithin}
use Rattle.tree_sums.proofs.Within.{IsWithin-weaker}
use Rattle.sanlp.proofs.Precedence.{common_first, common_second}
use Rattle.source_tree.specs.Checked.{HaveVariables}
use Rattle.source_tree.specs.Places.{before_rows, variables}
use Rattle.source_tree.specs.Rows.{RowExpr, RowSystem, Take}
use Rattle.source_tree.specs.Systems.{Context, Occurrence, Which, chosen_levels, every, just, reader_place, root_context, writer_place, MayName}
use Rattle.source_tree.specs.References.{occurrence_of}
use Rattle.stride_trees.specs.Contexts.{told_system, AreMadeSmall, IsTestedContext, IsUndividedContext}
use Rattle.stride_trees.specs.Divisions.{never_divides}
use Rattle.stride_trees.specs.Problem.{told_write}
use Rattle.stride_trees.specs.Strides.{depth_of_read, depth_of_write, read_of, root_of, tests_of, write_of, IsTestOf}
use Rattle.stride_trees.specs.declared.divisions.Division.{Division}
use Rattle.stride_trees.specs.declared.strides.Strides.{Strides}
use Rattle.stride_trees.proofs.TestCounts.{tests_are}

zip_at : {X Y : Type 0} (R : X → Y → Type 0) (xs : List X) (ys : List Y) (k : ℕ) (x : X) (y : Y) → AllZip R xs ys
    → slice_get xs k ≡ Some x → slice_get ys k ≡ Some y → R x y
zip_at R [] ys k x y h e f = absurd (let no : None ≡ Some x = e in cc)
zip_at R (a ∷ xs) [] k x y h e f = absurd h
zip_at R (a ∷ xs) (b ∷ ys) zero x y h e f =
    subst (λ a. R a y) (same_Some a x e) (subst (R a) (same_Some b y f) h.0)
zip_at R (a ∷ xs) (b ∷ ys) (suc k) x y h e f = zip_at R xs ys k x y h.1 e f

pub zip_count : {X Y : Type 0} (R : X → Y → Type 0) (xs : List X) (ys : List Y) → AllZip R xs ys → length xs ≡ length ys
zip_count R [] [] h = refl
zip_count R [] (y ∷ ys) h = absurd h
zip_count R (x ∷ xs) [] h = absurd h
zip_count R (x ∷ xs) (y ∷ ys) h = ap suc (zip_count R xs ys h.1)

-- Answers

pub below_answers : (w : Answered) (here : ℕ) (c : Context) → IsBelow w here c
    → HasAnswers c (length w.read.statement.now.loops) (length w.read.statement.now.rows) w.tests.now w.answers.now
below_answers w here c h =
    let r : Occurrence = occurrence_of w.read in
    let tests : List Division = w.tests.now in
    let answers : List Bool = w.answers.now in
    let vars : (context_of w).vars ≡ length r.statement.loops + length answers =
    vars_are (root_context r) tests answers (omega (arith, h.all)) in
    record {
      inside = λ k lt. omega (arith, ap (λ (c : Context). c.vars) h.is, vars, h.all, lt);
      row = λ k i test answer e t a is.
          ap (λ (c : Context). slice_get c.rows (length r.statement.rows + (2 * k + i))) h.is
          ∙ ap (λ n. slice_get ((context_of w).rows ++ h.more) (n + (2 * k + i)))
          (sym (length-map r.statement.rows Take))
          ∙ answer_row (root_context r) tests answers h.more k i test answer e t a is;
    }

pub below_vars : (w : Answered) (here : ℕ) (c : Context) → IsBelow w here c
    → c.vars ≡ length w.read.statement.now.loops + length w.tests.now
below_vars w here c h =
    omega (
      arith,
      ap (λ (c : Context). c.vars) h.is,
      vars_are (root_context (occurrence_of w.read)) w.tests.now w.answers.now (omega (arith, h.all)),
      h.all,
    )

module _ (w : Answered) (here : ℕ) (c : Context) (x : Writer) (below : IsBelow w here c)
    (of : IsWriterOf w.nest.now (occurrence_of w.read) w.tests.now x) where
  own_answers : HasAnswers c (depth_of_read x.strides) (root_of x.strides) w.tests.now w.answers.now
  own_answers = subst (λ (r : Occurrence). HasAnswers c (length r.statement.loops) (length r.statement.rows) w.tests.now
      w.answers.now) (sym of.read) (below_answers w here c below)

  pub reader_inside : depth_of_read x.strides ≤ c.vars
  reader_inside = omega (
    arith,
    ap (λ (r : Occurrence). length r.statement.loops) of.read,
    below_vars w here c below,
  )

  pub tested : IsAnswered w → is_told w.answers.now x ≡ true → IsTestedContext x.strides x.places here c
  tested h says =
      let asked : is_never x ≡ false =
      told_asked w.answers.now x (omega (arith, h.answers, h.few)) says in
      record {
        small = below.small;
        reader = reader_inside;
        tests = tests_in c (depth_of_read x.strides) (root_of x.strides) w.tests.now w.answers.now own_answers 0 x.places
            (write_of x.strides).access.subscripts (read_of x.strides).access.subscripts
            (subst (λ ds. AllZip (IsTestAt w.tests.now) ds x.places) of.divisions
            (tests_asked w.tests.now x.divisions x.places asked of.places)) says;
      }

  undivided : (refusal : Refusal) → IsRefusalAmong w.answers.now x.divisions x.places refusal
      → refusal.place < no_place → IsUndividedContext x.strides refusal.division.now refusal.place here c
  undivided refusal h inside =
      let at : IsTestAt w.tests.now refusal.division.now refusal.place =
      asked_at w.tests.now refusal.division.now refusal.place
      (ne_eqb refusal.place no_place (λ same. omega (arith, same, inside)))
      (zip_at (IsPlaceOf w.tests.now) x.divisions x.places h.number refusal.division.now refusal.place of.places
      h.division h.place) in
      let no : IsNoTestIn c (depth_of_read x.strides) (root_of x.strides) refusal.division.now refusal.place
      = no_test_in c (depth_of_read x.strides) (root_of x.strides) w.tests.now w.answers.now own_answers
      refusal.division.now refusal.place below.all at h.no in
      record { small = below.small; inside = no.inside; first = no.first; second = no.second }

  pub refused_here : (refusal : Refusal) → IsRefusalAmong w.answers.now x.divisions x.places refusal
      → IsRefusedContext x.strides refusal here c
  refused_here refusal h =
      record { small = below.small; reader = reader_inside; asked = undivided refusal h }

places_inside : (tests ds : List Division) (places : List ℕ) → length tests ≤ 6 → AllZip (IsTestAt tests) ds places
    → All (λ place. place < 6) places
places_inside tests [] [] few h = All-nil _
places_inside tests [] (place ∷ places) few h = absurd h
places_inside tests (d ∷ ds) [] few h = absurd h
places_inside tests (d ∷ ds) (place ∷ places) few h =
    All-cons (λ place. place < 6) place places
    (omega (arith, slice_get_within tests place h.0.test h.0.is, few)) (places_inside tests ds places few h.1)

pub told_places : (w : Answered) (x : Writer) → IsAnswered w
    → IsWriterOf w.nest.now (occurrence_of w.read) w.tests.now x → is_told w.answers.now x ≡ true
    → All (λ place. place < 6) x.places
told_places w x h of says =
    places_inside w.tests.now x.divisions x.places h.few
    (tests_asked w.tests.now x.divisions x.places (told_asked w.answers.now x (omega (arith, h.answers, h.few)) says) of.places)

pub is_refusal : (w : Answered) (x : Writer) (refusal : Refusal) → IsAnswered w
    → IsWriterOf w.nest.now (occurrence_of w.read) w.tests.now x
    → IsRefusalAmong w.answers.now x.divisions x.places refusal → IsRefusal x.strides refusal
is_refusal w x refusal h of among = record {
  test = All-slice_get (IsTestOf x.strides) (tests_of x.strides) among.number refusal.division.now (tests_are x.strides)
      (ap (λ ds. slice_get ds among.number) (sym of.divisions) ∙ among.division);
  never = λ le. unasked_never (zip_at (IsPlaceOf w.tests.now) x.divisions x.places among.number refusal.division.now
      refusal.place of.places among.division among.place) le;
} where
  unasked_never : IsPlaceOf w.tests.now refusal.division.now refusal.place → no_place ≤ refusal.place
      → never_divides refusal.division.now ≡ true
  unasked_never (asked at) le =
      absurd (omega (arith, slice_get_within w.tests.now refusal.place at.test at.is, h.few, le))
  unasked_never (unasked never same) le = never

-- Order rows

variables_near : (vars k d : ℕ) → k + d ≤ vars → AreNear vars (variables k d)
variables_near vars k zero le = tt
variables_near vars k (suc d) le = (
  record {
    short = omega (arith, variable_over (k + 1) k (omega arith), le);
    within = IsWithin-weaker 1 (2 ^ 48) _ (omega arith) (variable_within (k + 1) k);
  },
  variables_near vars (k + 1) d (omega (arith, le)),
)

place_near : (vars more : ℕ) (place : List Form) → HaveVariables vars place → All (IsWithin (2 ^ 48)) place
    → AreNear (vars + more) place
place_near vars more [] over within = tt
place_near vars more (f ∷ place) over within = (
  record {
    short = omega (arith, All-head (λ (f : Form). length f.coefs ≡ vars) f place over);
    within = All-head (IsWithin (2 ^ 48)) f place within;
  },
  place_near vars more place (All-tail (λ (f : Form). length f.coefs ≡ vars) f place over)
      (All-tail (IsWithin (2 ^ 48)) f place within),
)

counted_rows : (vars : ℕ) (counts : List ℕ) (orders : List (List RowExpr)) → map length orders ≡ counts
    → All (AreMadeSmall vars) orders → HaveOrderRows vars counts orders
counted_rows vars counts orders e made = subst (λ ns. HaveOrderRows vars ns orders) e (go orders made) where
  go : (orders : List (List RowExpr)) → All (AreMadeSmall vars) orders → HaveOrderRows vars (map length orders) orders
  go [] made = tt
  go (rows ∷ orders) made =
      ((refl, All-head (AreMadeSmall vars) rows orders made), go orders (All-tail (AreMadeSmall vars) rows orders made))

few_before : (w u : Occurrence) → length w.statement.loops ≤ 6 → levels_before w u ≤ 7
few_before w u few = go (nat_lt w.number u.number) where
  go : (b : Bool) → common_of w u + cond b 1 0 ≤ 7
  go true = omega (arith, common_first w.statement.loops u.statement.loops, few)
  go false = omega (arith, common_first w.statement.loops u.statement.loops, few)

pub few_counts : (u w : Occurrence) → length u.statement.loops ≤ 6 → All (λ k. k ≤ 32) (order_counts u w)
few_counts u w few = counts_few (common_of u w) (levels_before u w) 0 (omega (arith, few_before u w few))

pub few_after : (r u : Occurrence) → length r.statement.loops ≤ 6 → All (λ k. k ≤ 32) (after_counts r u)
few_after r u few =
    All-append (λ k. k ≤ 32) (order_counts r u) (cond (u.number == r.number) ((2 * length r.statement.loops) ∷ []) [])
    (few_counts r u few) (go (u.number == r.number)) where
      go : (b : Bool) → All (λ k. k ≤ 32) (cond b ((2 * length r.statement.loops) ∷ []) [])
      go true = All-cons (λ k. k ≤ 32) (2 * length r.statement.loops) [] (omega (arith, few)) (All-nil _)
      go false = All-nil _

-- the levels of a writer before the read
level_rows : (s : Strides) (c : Context) → depth_of_read s ≤ c.vars
    → HaveOrderRows (c.vars + depth_of_write s) (order_counts (write_of s) (read_of s))
    (before_rows (write_of s).number (write_of s).statement (writer_place c (write_of s)) (read_of s).number
    (read_of s).statement (reader_place (read_of s)))
level_rows s c le =
    let u : Occurrence = write_of s in
    let r : Occurrence = read_of s in
    counted_rows (c.vars + depth_of_write s) (order_counts u r)
    (before_rows u.number u.statement (writer_place c u) r.number r.statement (reader_place r))
    (order_lengths (common_of u r) (nat_lt u.number r.number) (writer_place c u) (reader_place r)
    (omega (
      arith,
      length_variables c.vars (length u.statement.loops),
      common_first u.statement.loops r.statement.loops,
    ))
    (omega (arith, length_variables 0 (length r.statement.loops), common_second u.statement.loops r.statement.loops)))
    (orders_made (c.vars + depth_of_write s) (common_of u r) (nat_lt u.number r.number) (writer_place c u) (reader_place r)
    (variables_near (c.vars + depth_of_write s) c.vars (length u.statement.loops) (omega arith))
    (variables_near (c.vars + depth_of_write s) 0 (length r.statement.loops) (omega (arith, le))))

-- what stands behind them
pub further_rows : (s : Strides) (c : Context) (behind : Option Reference)
    (further : Occurrence → List (List RowExpr)) → IsFurther behind c further
    → HaveOrderRows (c.vars + depth_of_write s) (counts_behind behind (write_of s)) (further (write_of s))
further_rows s c None further h =
    subst (HaveOrderRows (c.vars + depth_of_write s) (0 ∷ [])) (sym (h (write_of s)))
    ((refl, record { forms = []; are_made = refl; within = All-nil _ }), tt)
further_rows s c (Some of) further (place, in_context, is) =
    let u : Occurrence = write_of s in
    let v : Occurrence = occurrence_of of in
    subst (HaveOrderRows (c.vars + depth_of_write s) (order_counts v u)) (sym (is u))
    (counted_rows (c.vars + depth_of_write s) (order_counts v u)
    (before_rows v.number v.statement place u.number u.statement (writer_place c u))
    (order_lengths (common_of v u) (nat_lt v.number u.number) place (writer_place c u)
    (omega (arith, in_context.deep, common_first v.statement.loops u.statement.loops))
    (omega (
      arith,
      length_variables c.vars (length u.statement.loops),
      common_second v.statement.loops u.statement.loops,
    )))
    (orders_made (c.vars + depth_of_write s) (common_of v u) (nat_lt v.number u.number) place (writer_place c u)
    (place_near c.vars (depth_of_write s) place in_context.over in_context.within)
    (variables_near (c.vars + depth_of_write s) c.vars (length u.statement.loops) (omega arith))))

-- a write over quotients has the same rows behind it
pub same_further : (behind : Option Reference) (c : Context) (further : Occurrence → List (List RowExpr))
    (u : Occurrence) → IsFurther behind c further → further (told_write u) ≡ further u
same_further None c further u h = h (told_write u) ∙ sym (h u)
same_further (Some of) c further u (place, in_context, is) = is (told_write u) ∙ sym (is u)

-- a test that says no is one of those that say whether the writer is told
pub refused : (answers : List Bool) (x : Writer) (refusal : Refusal)
    → IsRefusalAmong answers x.divisions x.places refusal → is_told answers x ≡ false
refused answers x refusal h = one_no x.places h.number refusal.place h.place h.no where
  and_no : (b : Bool) → (b && false) ≡ false
  and_no true = refl
  and_no false = refl

  one_no : (places : List ℕ) (k place : ℕ) → slice_get places k ≡ Some place → answer_at answers place ≡ false
      → list_all (answer_at answers) places ≡ false
  one_no [] k place e denies = absurd (let none : None ≡ Some place = e in cc)
  one_no (p ∷ places) zero place e denies =
      ap (λ b. b && list_all (answer_at answers) places) (ap (answer_at answers) (same_Some p place e) ∙ denies)
  one_no (p ∷ places) (suc k) place e denies =
      ap (λ b. answer_at answers p && b) (one_no places k place e denies) ∙ and_no (answer_at answers p)

-- Systems of one writer

each_order : (f : List RowExpr → List RowSystem) (g : List RowExpr → RowSystem)
    → ((rows : List RowExpr) → f rows ≡ g rows ∷ []) → (orders : List (List RowExpr)) → flat_map f orders ≡ map g orders
each_order f g is [] = refl
each_order f g is (rows ∷ orders) =
    ap (λ systems. systems ++ flat_map f orders) (is rows) ∙ ap (λ systems. g rows ∷ systems) (each_order f g is orders)

no_order : (f : List RowExpr → List RowSystem) → ((rows : List RowExpr) → f rows ≡ []) → (orders : List (List RowExpr))
    → flat_map f orders ≡ []
no_order f is [] = refl
no_order f is (rows ∷ orders) = ap (λ systems. systems ++ flat_map f orders) (is rows) ∙ no_order f is orders

level_by_level : (g : List RowExpr → RowSystem) (behind at : List (List RowExpr))
    → map g (all_orders behind at) ≡ flat_map (λ level. map (λ rows. g (level ++ rows)) behind) at
level_by_level g behind [] = refl
level_by_level g behind (level ∷ at) =
    map-append g (map (λ rows. level ++ rows) behind) (all_orders behind at)
    ∙ ap (λ systems. systems ++ map g (all_orders behind at)) (map-map g (λ rows. level ++ rows) behind)
    ∙ ap (λ systems. map (λ rows. g (level ++ rows)) behind ++ systems) (level_by_level g behind at)

-- the order rows of its levels before the read, for which the tree is
abbrev pub levels_of : Answered → Writer → Context → List (List RowExpr)
levels_of w x c = chosen_levels (which_of w) (write_of x.strides).number
    (before_rows (write_of x.strides).number (write_of x.strides).statement
    (writer_place c (write_of x.strides)) (read_of x.strides).number (read_of x.strides).statement
    (reader_place (read_of x.strides)))

module _ (w : Answered) (rest : List RowExpr) (behind : Option Reference) (further : Occurrence → List (List RowExpr))
    (x : Writer) (h : IsFurther behind (fact_context w rest) further) where
  abbrev c : Context
  c = fact_context w rest

  abbrev u : Occurrence
  u = write_of x.strides

  abbrev orders : List (List RowExpr)
  orders = all_orders (further u) (levels_of w x c)

  abbrev of_told : List (List RowExpr) → List RowSystem
  of_told others =
      flat_map (λ (level : List RowExpr). map (λ (rows : List RowExpr). told_system x.strides x.places c (level ++ rows)) others)
      (levels_of w x c)

  told_are : (b : Bool) → cond b (of_told (further (told_write u))) []
      ≡ flat_map (λ (rows : List RowExpr). cond b (told_system x.strides x.places c rows ∷ []) []) orders
  told_are true =
      ap of_told (same_further behind c further u h)
      ∙ sym (level_by_level (told_system x.strides x.places c) (further u) (levels_of w x c))
      ∙ sym (each_order (λ (rows : List RowExpr). told_system x.strides x.places c rows ∷ [])
      (told_system x.strides x.places c) (λ rows. refl) orders)
  told_are false = sym (no_order (λ (rows : List RowExpr). []) (λ rows. refl) orders)

  -- what is added for all orders is added for the writer
  pub writer_added : (told left old new : List Proof) → AddsOrderProofs w rest x orders told left old new
      → AddsProofs w (own_order_number w rest x) (told_systems (which_of w) w.answers.now c further x)
      (own_systems (which_of w) (own_context w rest) further x) told left old new
  writer_added told left old new added =
      subst (λ from. AddsProofs w (own_order_number w rest x) from (own_systems (which_of w) (own_context w rest) further x)
      told left old new)
      (sym (told_are (is_told w.answers.now x)))
      (subst (λ to. AddsProofs w (own_order_number w rest x) (flat_map (told_order_systems w rest x) orders) to told left old
      new)
      (level_by_level (own_order_system w rest x) (further u) (levels_of w x c)) added)

-- how many order rows there are
pub few_behind : (behind : Option Reference) (u : Occurrence)
    → IfSome behind (λ of. length of.statement.now.loops ≤ 6) → All (λ k. k ≤ 32) (counts_behind behind u)
few_behind None u few = All-cons (λ k. k ≤ 32) 0 [] (omega arith) (All-nil _)
few_behind (Some of) u few = few_counts (occurrence_of of) u few

-- of what is counted, and of the orders, those that are chosen
chosen_rows : (vars : ℕ) (which : Which) (u : ℕ) (counts : List ℕ) (orders : List (List RowExpr))
    → HaveOrderRows vars counts orders
    → HaveOrderRows vars (chosen_levels which u counts) (chosen_levels which u orders)
chosen_rows vars every u counts orders h = h
chosen_rows vars (just n p) u counts orders h = go (u == n) where
  first : (counts : List ℕ) (orders : List (List RowExpr)) → HaveOrderRows vars counts orders
      → HaveOrderRows vars (take 1 counts) (take 1 orders)
  first [] [] h = tt
  first [] (rows ∷ orders) h = absurd h
  first (k ∷ counts) [] h = absurd h
  first (k ∷ counts) (rows ∷ orders) h = (h.0, tt)

  at : (p : ℕ) (counts : List ℕ) (orders : List (List RowExpr)) → HaveOrderRows vars counts orders
      → HaveOrderRows vars (take 1 (drop p counts)) (take 1 (drop p orders))
  at zero counts orders h = first counts orders h
  at (suc p) [] [] h = tt
  at (suc p) [] (rows ∷ orders) h = absurd h
  at (suc p) (k ∷ counts) [] h = absurd h
  at (suc p) (k ∷ counts) (rows ∷ orders) h = at p counts orders h.1

  go : (b : Bool) → HaveOrderRows vars (cond b (take 1 (drop p counts)) []) (cond b (take 1 (drop p orders)) [])
  go true = at p counts orders h
  go false = tt

pub one_chosen : (w : Answered) (x : Writer) (one : Just) (counts : List ℕ) → IsWriterIn w x → w.only ≡ Some one
    → take 1 (drop one.level counts) ≡ chosen_levels (which_of w) (write_of x.strides).number counts
one_chosen w x one counts h only =
    let u : ℕ = (write_of x.strides).number in
    let number : u ≡ one.writer = subst (λ o. MayName (which_in o) u) only h.may in
    sym (ap (λ o. chosen_levels (which_in o) u counts) only
    ∙ ap (λ b. cond b (take 1 (drop one.level counts)) []) (eq-eqb u one.writer number))

pub all_chosen : (w : Answered) (x : Writer) (counts : List ℕ) → w.only ≡ None
    → counts ≡ chosen_levels (which_of w) (write_of x.strides).number counts
all_chosen w x counts all = sym (ap (λ o. chosen_levels (which_in o) (write_of x.strides).number counts) all)

pub few_chosen : (which : Which) (u : ℕ) (counts : List ℕ) → All (λ k. k ≤ 32) counts
    → All (λ k. k ≤ 32) (chosen_levels which u counts)
few_chosen every u counts few = few
few_chosen (just n p) u counts few = go (u == n) where
  go : (b : Bool) → All (λ k. k ≤ 32) (cond b (take 1 (drop p counts)) [])
  go true = All-take (λ k. k ≤ 32) 1 (drop p counts) (All-drop (λ k. k ≤ 32) p counts few)
  go false = All-nil _

pub writer_levels : (w : Answered) (here : ℕ) (rest : List RowExpr) (x : Writer) → IsAtLeaf w here rest
    → IsWriterOf w.nest.now (occurrence_of w.read) w.tests.now x
    → HaveOrderRows (write_vars w x)
    (chosen_levels (which_of w) (write_of x.strides).number (order_counts (write_of x.strides) (occurrence_of w.read)))
    (levels_of w x (fact_context w rest))
writer_levels w here rest x at of =
    let c : Context = fact_context w rest in
    let u : Occurrence = write_of x.strides in
    let r : Occurrence = read_of x.strides in
    subst (λ r. HaveOrderRows (write_vars w x) (chosen_levels (which_of w) u.number (order_counts u r)) (levels_of w x c))
    of.read
    (chosen_rows (write_vars w x) (which_of w) u.number (order_counts u r)
    (before_rows u.number u.statement (writer_place c u) r.number r.statement (reader_place r))
    (level_rows x.strides c (reader_inside w (here + length w.cuts.now) c x at of)))
