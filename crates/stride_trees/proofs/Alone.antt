-- One writer alone, at one level of order, where its tests all say yes.
--
-- Its tests are asked at the places 0, 1, 2 and so on, so the context below the answers is that of all its tests, and what
-- is joined there is the problem over quotients alone. The writes of the array have no systems at this level but for its
-- own, so a tree of that problem becomes one of the nest for this writer and level as any joined tree does. The places are
-- told by induction over the tests, of which those before a place are fixed.
use Rattle.std.proofs.Common.{◌≡◌, ◌+◌, ◌≤◌, ◌<◌, ℕ, zero, suc, List, [], ◌∷◌, ◌++◌, length, map, true, cond}
use Rattle.std.proofs.Common.{inl, inr, refl, sym, ap, ◌∙◌, subst, arith, lt-ltb, length-append}
use Rattle.std.specs.Prelude.{All, Option, Some, nat_lt, replicate, slice_get}
use Rattle.std.specs.List.{AllZip, flat_map, list_all, range_with_len}
use Rattle.std.proofs.lemmas.Bool.{and_from}
use Rattle.std.proofs.lemmas.List.{append-nil, append_assoc, length-replicate}
use Rattle.std.proofs.lemmas.List.Elements.{All-cons, All-nil}
use Rattle.std.proofs.lemmas.Option.{same_Some}
use Rattle.affine_core.specs.Affine.{widened_form}
use Rattle.plain_data.proofs.Lists.{slice_get-append_right}
use Rattle.sanlp.specs.declared.nest.Nest.{Nest}
use Rattle.source_tree.specs.Checked.{IsCheckedIn}
use Rattle.source_tree.specs.References.{occurrence_of}
use Rattle.source_tree.specs.Rows.{RowSystem}
use Rattle.source_tree.specs.Systems.{Context, Occurrence, array_writes, divides_yes, just, more_rows, named_write, MayName}
use Rattle.source_tree.specs.Systems.{root_context, write_systems}
use Rattle.source_tree.specs.declared.tree.Tree.{Tree}
use Rattle.stride_trees.specs.Answers.{answered_context}
use Rattle.stride_trees.specs.Candidates.{IsCutTree}
use Rattle.stride_trees.specs.Contexts.{first_places}
use Rattle.stride_trees.specs.Divisions.{divided_context}
use Rattle.stride_trees.specs.Leaves.{answer_at, context_of, fact_context, is_told, own_context, pairs_of, told_pair, told_pairs}
use Rattle.stride_trees.specs.Leaves.{vars_of, which_in, which_of, AreAll, Converts, IsAlone, IsAnswered, IsBelow}
use Rattle.stride_trees.specs.Leaves.{IsJoinedBelow, IsWriterIn}
use Rattle.stride_trees.specs.Problem.{told_read, told_write}
use Rattle.stride_trees.specs.Strides.{read_of, tested_context, tests_of, write_of, IsCheckedAt, IsSmallContext}
use Rattle.stride_trees.specs.Strides.{IsStrided}
use Rattle.stride_trees.specs.Writers.{asked, IsPlaceOf, IsReadOf, IsWriterOf}
use Rattle.stride_trees.specs.declared.divisions.Division.{Division}
use Rattle.stride_trees.specs.declared.leaves.Answered.{Answered}
use Rattle.stride_trees.specs.declared.leaves.Just.{Just}
use Rattle.stride_trees.specs.declared.strides.Strides.{Strides}
use Rattle.stride_trees.specs.declared.writers.Writer.{Writer}
use Rattle.stride_trees.proofs.FactLeaves.{no_added}
use Rattle.stride_trees.proofs.TestCounts.{few_tests}
use Rattle.stride_trees.proofs.WriterLeaves.{alone_is}
use Rattle.stride_trees.proofs.YesContexts.{divided_vars}
use Rattle.tree_facts.specs.Facts.{fact_rows}
use Rattle.tree_graphs.specs.Joint.{read_and_write, IsCheckedFor, IsCheckedForAll, ReadAndWrite}
use Rattle.tree_graphs.specs.Level.{common_of, HasLevel}
use Rattle.tree_graphs.specs.Simple.{IsSimple}
use Rattle.tree_graphs.proofs.Just.{just_one}
use Rattle.tree_order.specs.Candidates.{levels_before}

-- Answers that are all yes

all_yes : (c : Context) (ds : List Division) → answered_context c ds (replicate (length ds) true) ≡ divided_context c ds
all_yes c [] = refl
all_yes c (d ∷ ds) = all_yes (divides_yes c (widened_form c.vars d.form) d.divisor) ds

yes_at : (n k : ℕ) → k < n → answer_at (replicate n true) k ≡ true
yes_at zero k lt = absurd (omega (arith, lt))
yes_at (suc n) zero lt = refl
yes_at (suc n) (suc k) lt = yes_at n k (omega (arith, lt))

all_told : (n m k : ℕ) → k + m ≤ n → list_all (answer_at (replicate n true)) (range_with_len k m) ≡ true
all_told n zero k le = refl
all_told n (suc m) k le =
    let rest : list_all (answer_at (replicate n true)) (range_with_len (k + 1) m) ≡ true =
    all_told n m (k + 1) (omega (arith, le)) in
    and_from (answer_at (replicate n true) k) (list_all (answer_at (replicate n true)) (range_with_len (k + 1) m))
    (yes_at n k (omega (arith, le))) rest

-- each test is asked at its own place
own_places : (tests before ds : List Division) (k : ℕ) → tests ≡ before ++ ds → k ≡ length before
    → AllZip (IsPlaceOf tests) ds (range_with_len k (length ds))
own_places tests before [] k is at = tt
own_places tests before (d ∷ ds) k is at =
    let here : k ≡ length before + 0 = omega (arith, at) in (
      asked (record {
        test = d;
        is = ap (λ ts. slice_get ts k) is ∙ ap (slice_get (before ++ d ∷ ds)) here
            ∙ slice_get-append_right before (d ∷ ds) 0;
        form = refl;
        divisor = refl;
      }),
      own_places tests (before ++ d ∷ []) ds (k + 1) (is ∙ sym (append_assoc before (d ∷ []) ds))
          (omega (arith, at, length-append before (d ∷ []))),
    )

level_there : (r u : Occurrence) (p : ℕ) → HasLevel r u p → p < levels_before u r
level_there r u p has = elim has [
  | inl lt ↦ omega (arith, lt)
  | inr at ↦ (let less : nat_lt u.number r.number ≡ true = lt-ltb u.number r.number at.1
      in omega (arith, at.0, ap (λ b. common_of u r + cond b 1 0) less))
]

module _ (s : Strides) (strided : IsStrided s) (w : Answered) (h : IsAlone s w) where
  abbrev x : Writer
  x = h.writer

  abbrev r : Occurrence
  r = read_of s

  abbrev u : Occurrence
  u = write_of s

  abbrev single : Just
  single = record { writer = s.write.number; level = s.level }

  reads : occurrence_of w.read ≡ r
  reads = ap occurrence_of h.read

  written : write_of x.strides ≡ u
  written = ap write_of h.own.strides

  of : IsWriterOf w.nest.now (occurrence_of w.read) w.tests.now x
  of = record {
    strided = subst IsStrided (sym h.own.strides) strided;
    nest = ap (λ (s : Strides). s.nest.now) h.own.strides ∙ sym h.nest;
    read = ap read_of h.own.strides ∙ sym reads;
    divisions = h.own.divisions ∙ ap tests_of (sym h.own.strides);
    places = subst (λ (tests : List Division). AllZip (IsPlaceOf tests) x.divisions x.places) (sym h.tests)
        (subst (λ (ds : List Division). AllZip (IsPlaceOf (tests_of s)) ds x.places) (sym h.own.divisions)
        (subst (AllZip (IsPlaceOf (tests_of s)) (tests_of s)) (sym h.own.places)
        (own_places (tests_of s) [] (tests_of s) 0 refl refl)));
  }

  told : is_told w.answers.now x ≡ true
  told = ap (λ answers. is_told answers x) h.answers
      ∙ ap (list_all (answer_at (replicate (length (tests_of s)) true))) h.own.places
      ∙ all_told (length (tests_of s)) (length (tests_of s)) 0 (omega arith)

  one_is : (one : Just) → w.only ≡ Some one → one ≡ single
  one_is one e = same_Some one single (sym e ∙ h.only)

  writer_in : IsWriterIn w x
  writer_in = record {
    of = of;
    may = subst (λ o. MayName (which_in o) (write_of x.strides).number) (sym h.only)
        (ap (λ (u : Occurrence). u.number) written);
    level = λ one e. subst (λ v. one.level < levels_before v (occurrence_of w.read)) (sym written)
        (subst (λ v. one.level < levels_before u v) (sym reads)
        (subst (λ (o : Just). o.level < levels_before u r) (sym (one_is one e))
        (level_there r u s.level strided.strided.level)));
    told = λ one. told;
  }

  named : named_write w.nest.now (occurrence_of w.read) u.number ≡ Some u
  named = subst (λ (n : Nest). named_write n (occurrence_of w.read) u.number ≡ Some u) (sym h.nest)
      (subst (λ r. named_write s.nest.now r u.number ≡ Some u) (sym reads) strided.strided.write)

  all : AreAll w
  all c further =
      let systems : Option Just → Occurrence → List RowSystem = λ o. write_systems (occurrence_of w.read) (which_in o) c further in
      subst (λ o. flat_map (systems o) (map (λ (x : Writer). write_of x.strides) w.writers.now)
      ≡ flat_map (systems o) (array_writes w.nest.now (occurrence_of w.read))) (sym h.only)
      (ap (λ ws. flat_map (systems (Some single)) (map (λ (x : Writer). write_of x.strides) ws)) h.writers
      ∙ append-nil (systems (Some single) (write_of x.strides)) ∙ ap (systems (Some single)) written
      ∙ sym (just_one (occurrence_of w.read) u s.level c further w.nest.now named))

  pub alone_answered : IsAnswered w
  alone_answered = record {
    read = subst (λ (n : Nest). IsReadOf n w.read) (sym h.nest)
        (subst (IsReadOf s.nest.now) (sym h.read)
        (record { statement = strided.strided.reader; access = strided.strided.read }));
    each = subst (All (IsWriterIn w)) (sym h.writers) (All-cons (IsWriterIn w) x [] writer_in (All-nil _));
    once = λ a b there also same. alone_is w a x there h.writers ∙ sym (alone_is w b x also h.writers);
    all = all;
    few = omega (arith, ap length h.tests, few_tests s strided);
    answers = omega (arith, ap length h.answers, length-replicate (length (tests_of s)) true, ap length h.tests);
    without = λ one. h.cuts;
    alone = λ one. (x, h.writers);
  }

  -- the context, with the facts and without
  context_is : context_of w ≡ tested_context s
  context_is = ap (λ r. answered_context (root_context r) w.tests.now w.answers.now) reads
      ∙ ap (λ ds. answered_context (root_context r) ds w.answers.now) h.tests
      ∙ ap (answered_context (root_context r) (tests_of s)) h.answers
      ∙ all_yes (root_context r) (tests_of s)

  own_is : own_context w [] ≡ tested_context s
  own_is = ap (λ rows. record { vars = (context_of w).vars; rows = rows }) (append-nil (context_of w).rows) ∙ context_is

  fact_is : fact_context w [] ≡ tested_context s
  fact_is = ap (λ facts. more_rows (context_of w) (fact_rows facts [])) h.facts ∙ own_is

  below : (here : ℕ) → IsSmallContext (tested_context s) here → IsBelow w here (fact_context w [])
  below here small = record {
    all = omega (arith, ap length h.answers, length-replicate (length (tests_of s)) true, ap length h.tests);
    small = subst (λ c. IsSmallContext c here) (sym fact_is) small;
    more = fact_rows w.facts.now [];
    is = refl;
  }

  -- the problem over quotients is what is joined
  abbrev problem : ReadAndWrite
  problem = read_and_write (told_read (tested_context s).vars (first_places s) r u) (told_write u)

  pairs_are : pairs_of w ≡ problem ∷ []
  pairs_are =
      let vars : vars_of w ≡ (tested_context s).vars = omega (
        arith,
        divided_vars (root_context r) (tests_of s),
        ap (λ (r : Occurrence). length r.statement.loops) reads,
        ap length h.tests,
      ) in
      ap (told_pairs (vars_of w) w.answers.now) h.writers
      ∙ ap (λ b. map (told_pair (vars_of w)) (cond b (x ∷ []) [])) told
      ∙ ap (λ vars. told_pair vars x ∷ []) vars
      ∙ ap (λ places. read_and_write (told_read (tested_context s).vars places (read_of x.strides) (write_of x.strides))
      (told_write (write_of x.strides)) ∷ []) h.own.places
      ∙ ap (λ s'. read_and_write (told_read (tested_context s).vars (first_places s) (read_of s') (write_of s'))
      (told_write (write_of s')) ∷ []) h.own.strides

  checked_there : (tree : Tree)
      → IsCheckedFor (told_read (tested_context s).vars (first_places s) r u) (told_write u) s.level (tested_context s) tree
      → IsCheckedForAll (which_of w) (pairs_of w) (fact_context w []) tree
  checked_there tree checked =
      subst (λ c. IsCheckedForAll (which_of w) (pairs_of w) c tree) (sym fact_is)
      (subst (λ pairs. IsCheckedForAll (which_of w) pairs (tested_context s) tree) (sym pairs_are)
      (subst (λ o. IsCheckedForAll (which_in o) (problem ∷ []) (tested_context s) tree) (sym h.only) checked))

  module _ (here : ℕ) (tree : Tree) (small : IsSmallContext (tested_context s) here) (few : here + 3584 ≤ 8192)
      (checked : IsCheckedFor (told_read (tested_context s).vars (first_places s) r u) (told_write u) s.level
      (tested_context s) tree)
      (simple : IsSimple 3584 tree) where
    pub alone_joined : IsJoinedBelow w here tree
    alone_joined = record {
      facts = no_added w here h.cuts h.facts (below here small);
      rest = [];
      below = below here small;
      checked = checked_there tree checked;
      simple = λ one. (3584, few, simple);
    }

    module _ (own : Tree) (converts : Converts w here tree own) where
      pub alone_checked : IsCheckedAt s (tested_context s) own
      alone_checked =
          subst (λ (n : Nest). IsCheckedIn n r (just s.write.number s.level) (tested_context s) own) h.nest
          (subst (λ r. IsCheckedIn w.nest.now r (just s.write.number s.level) (tested_context s) own) reads
          (subst (λ o. IsCheckedIn w.nest.now (occurrence_of w.read) (which_in o) (tested_context s) own) h.only
          (subst (λ c. IsCheckedIn w.nest.now (occurrence_of w.read) (which_of w) c own) own_is
          (converts.checked [] (below here small) (checked_there tree checked)))))

      pub alone_cuts : IsCutTree r u s.level 3584 (tested_context s) own
      alone_cuts =
          subst (λ v. IsCutTree r v s.level 3584 (tested_context s) own) written
          (subst (λ r. IsCutTree r (write_of x.strides) s.level 3584 (tested_context s) own) reads
          (subst (λ c. IsCutTree (occurrence_of w.read) (write_of x.strides) s.level 3584 c own) own_is
          (converts.cuts single x 3584 [] h.only h.writers (below here small) (checked_there tree checked) simple)))
