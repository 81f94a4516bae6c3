-- One turn of the joining: the walk goes on, and fewer turns are left.
--
-- Where no Test is asked, the frames stay and more may be seen. A Test puts a frame for its second side; once the first
-- side is made, what was seen on it is cut off, so the second side stands where the Test does. What is told of a walk
-- here is told of its parts by equalities, since a turn changes some of them.
use Rattle.std.proofs.Common.{◌≡◌, ◌+◌, ◌*◌, ◌^◌, ◌≤◌, ◌<◌, ℕ, List, [], ◌∷◌, ◌++◌, length, take, false, refl, sym, ap, ◌∙◌}
use Rattle.std.proofs.Common.{subst, arith}
use Rattle.std.specs.Prelude.{◌-◌, max, sum_by, Option, Some, IfSome}
use Rattle.std.proofs.lemmas.List.{append-nil, length_push}
use Rattle.std.proofs.lemmas.List.Sums.{sum_by_push}
use Rattle.affine_core.specs.declared.form.Form.{Form}
use Rattle.int_polyhedra.specs.declared.system.System.{System}
use Rattle.int_polyhedra.specs.Steps.{negation_of}
use Rattle.tree_graphs.specs.Heights.{height_of}
use Rattle.tree_order.specs.Reads.{pairs_of, IsJoinedTree}
use Rattle.tree_graphs.specs.Joint.{IsTreeFor, ReadAndWrite}
use Rattle.tree_order.specs.declared.candidates.Candidate.{Candidate}
use Rattle.tree_order.specs.declared.candidates.Read.{Read}
use Rattle.tree_order.specs.declared.seen.Seen.{Seen}
use Rattle.tree_join.specs.Walking.{height, most_turns, turns_left, turns_of_frame, turns_of_step, AreFrames, AreSides}
use Rattle.tree_join.specs.Walking.{GoesOn, IsClosing, IsMade, IsReady, IsStep, IsTestForm, IsUnderWay, behind}
use Rattle.tree_join.specs.declared.path.Frame.{Frame}
use Rattle.tree_join.specs.declared.path.Frame.TheVariants.{First, Second}
use Rattle.tree_join.specs.declared.path.Next.{Next}
use Rattle.tree_join.specs.declared.path.Step.{Step}
use Rattle.tree_join.specs.declared.path.Step.TheVariants.{Made, On}
use Rattle.tree_join.specs.declared.path.Task.{Task}
use Rattle.tree_join.specs.declared.path.Walk.{Walk}
use Rattle.tree_join.proofs.PathSteps.{path_context}
use Rattle.std.proofs.Math.Nat.{max-le}
use Rattle.std.proofs.lemmas.Option.{same_Some}
use Rattle.tree_trim.specs.Sides.{AreJoinedSides, IsJoinedBranch}
use Rattle.tree_trim.specs.Trees.{branch_or_test, tree_names_row, tree_without}
use Rattle.tree_trim.proofs.Heights.{height_of-branch_or_test, height_of-tree_without}
use Rattle.tree_join.proofs.Walks.{frames_more, turns_some}
use Rattle.tree_graphs.specs.Facts.{with_form, IsContext}
use Rattle.source_tree.specs.declared.tree.Tree.{Tree}
use Rattle.source_tree.specs.declared.tree.Tree.TheViews.{Test}

-- a system, by its parts
pub same_system : (s t : System) → s.vars ≡ t.vars → s.rows ≡ t.rows → s ≡ t
same_system s t vars rows =
    ap (λ v. record { vars = v; rows = s.rows }) vars ∙ ap (λ rows. record { vars = t.vars; rows = rows }) rows

-- a walk that is ready stands in a context
pub ready_context : (r : Read) (cs : List Candidate) (context : System) (seen : List Seen) (left : List ℕ) (next : Next)
    → IsReady r cs context seen left next → IsContext context
ready_context r cs context seen left next h =
    path_context r context (height (length left) next) h.0.read h.0.context_is

-- the same, of other parts that are the same
pub same_ready : (r : Read) (cs : List Candidate) (context there : System) (seen all : List Seen) (left rest : List ℕ)
    (next : Next) → there ≡ context → all ≡ seen → rest ≡ left → IsReady r cs context seen left next
    → IsReady r cs there all rest next
same_ready r cs context there seen all left rest next there_is all_is rest_is h =
    subst (λ context. IsReady r cs context all rest next) (sym there_is)
    (subst (λ seen. IsReady r cs context seen rest next) (sym all_is)
    (subst (λ left. IsReady r cs context seen left next) (sym rest_is) h))

-- a leaf is a tree that is made
pub leaf_made : (r : Read) (context : System) (tree : Tree) → IsJoinedTree r context tree → height_of tree ≡ 0
    → length context.rows ≤ 2 ^ 30 → IsMade r context tree
leaf_made r context tree joined low few = (joined, omega (arith, low, few))

-- a Dead leaf of a side
pub dead_made : (r : Read) (cs : List Candidate) (context there : System) (seen : List Seen) (left : List ℕ)
    (next : Next) (dead : Option Tree) (tree : Tree) → IsReady r cs there seen left next → context ≡ there
    → dead ≡ Some tree → IfSome dead (λ tree. (pairs : List ReadAndWrite) → IsTreeFor pairs context tree)
    → IfSome dead (λ tree. height_of tree ≡ 0) → IsMade r context tree
dead_made r cs context there seen left next dead tree h is found joined low =
    leaf_made r context tree
    (subst (λ o. IfSome o (λ tree. (pairs : List ReadAndWrite) → IsTreeFor pairs context tree)) found joined (pairs_of r))
    (subst (λ o. IfSome o (λ tree. height_of tree ≡ 0)) found low)
    (omega (arith, ap (λ (s : System). length s.rows) is, h.0.context_is.few))

module _ (task : Task) (walk new : Walk) where
  abbrev r : Read
  r = task.read.now

  abbrev cs : List Candidate
  cs = task.candidates.now

  abbrev Frames : System → List Seen → List Frame → Type 0
  Frames = AreFrames task.read.now task.candidates.now

  same_frames : (context : System) (seen : List Seen) (frames : List Frame) → new.context ≡ context → new.seen ≡ seen
      → new.frames ≡ frames → Frames context seen frames → Frames new.context new.seen new.frames
  same_frames context seen frames e f g h =
      subst (λ context. Frames context new.seen new.frames) (sym e)
      (subst (λ seen. Frames context seen new.frames) (sym f) (subst (λ frames. Frames context seen frames) (sym g) h))

  -- without a Test
  pub walk_on : (more : List Seen) (next : Next) (step : Step) → Frames walk.context walk.seen walk.frames
      → new.context ≡ walk.context → new.seen ≡ walk.seen ++ more → new.frames ≡ walk.frames
      → IsStep task.read.now task.candidates.now new step
      → turns_of_step (length new.left) step < most_turns (height (length walk.left) next)
      → GoesOn task (turns_left walk (On next)) new step
  walk_on more next step frames context_is seen_is frames_are is less = (
    (
      same_frames walk.context (walk.seen ++ more) walk.frames context_is seen_is frames_are
          (frames_more r cs walk.context walk.seen more walk.frames frames),
      is,
    ),
    omega (arith, less, ap (sum_by turns_of_frame) frames_are),
  )

  -- the same, where nothing more is seen
  pub walk_stays : (next : Next) (step : Step) → Frames walk.context walk.seen walk.frames
      → new.context ≡ walk.context → new.seen ≡ walk.seen → new.frames ≡ walk.frames
      → IsStep task.read.now task.candidates.now new step
      → turns_of_step (length new.left) step < most_turns (height (length walk.left) next)
      → GoesOn task (turns_left walk (On next)) new step
  walk_stays next step frames context_is seen_is frames_are is less =
      walk_on [] next step frames context_is (seen_is ∙ sym (append-nil walk.seen)) frames_are is less

  -- a Test is asked
  pub asked : (form : Form) (first second : Next) (count : ℕ) (left : List ℕ) (step : Step) (most : ℕ)
      → Frames walk.context walk.seen walk.frames → AreSides task walk form first second
      → count ≡ length walk.seen → left ≡ walk.left
      → new.context ≡ with_form walk.context form → new.seen ≡ walk.seen → new.left ≡ walk.left
      → new.frames ≡ walk.frames ++ First count left second ∷ []
      → IsStep task.read.now task.candidates.now new step
      → turns_of_step (length walk.left) step ≤ turns_of_step (length walk.left) (On first)
      → turns_of_step (length walk.left) (On first) + (turns_of_step (length walk.left) (On second) + 2) < most
      → GoesOn task (most + sum_by turns_of_frame walk.frames) new step
  asked form first second count left step most frames sides count_is left_is context_is seen_is same frames_are is less
      both = (
        (
          behind walk.context new.context walk.seen [] new.seen form (First count left second) walk.frames new.frames
              frames (
                sides.test,
                count_is,
                λ other negated. same_ready r cs (with_form walk.context other) _ walk.seen _ walk.left left second
                    refl refl left_is (sides.below other negated),
              )
              context_is (seen_is ∙ sym (append-nil walk.seen)) frames_are,
          is,
        ),
        omega (
          arith,
          less,
          both,
          ap (λ left. turns_of_step (length left) step) same,
          ap (λ left. turns_of_step (length left) (On second)) left_is,
          ap (sum_by turns_of_frame) frames_are,
          sum_by_push turns_of_frame walk.frames (First count left second),
        ),
      )

  pub first_ready : (form : Form) (first second : Next) → AreSides task walk form first second
      → new.context ≡ with_form walk.context form → new.seen ≡ walk.seen → new.left ≡ walk.left
      → IsStep task.read.now task.candidates.now new (On first)
  first_ready form first second sides context_is seen_is left_is =
      same_ready r cs (with_form walk.context form) new.context walk.seen new.seen walk.left new.left first context_is
      seen_is left_is sides.above

  -- the first side is made
  module _ (count : ℕ) (left : List ℕ) (next : Next) (above : Tree)
      (h : IsClosing task walk (First count left next) above) (other : Form) (negated : negation_of h.row ≡ Some other) where
    pub second_is : IsReady task.read.now task.candidates.now (with_form h.context other) h.seen left next
    second_is = h.open_is.2 other negated

    pub kept_seen : take count walk.seen ≡ h.seen
    kept_seen = ap (λ n. take n walk.seen) h.open_is.1 ∙ ap (take (length h.seen)) h.seen_is ∙ taken h.seen h.more where
      taken : (xs ys : List Seen) → take (length xs) (xs ++ ys) ≡ xs
      taken [] ys = refl
      taken (x ∷ xs) ys = ap (λ rest. x ∷ rest) (taken xs ys)

    pub turned : (step : Step) → new.context ≡ with_form h.context other → new.seen ≡ h.seen → new.left ≡ left
        → new.frames ≡ walk.frames ++ Second h.row above ∷ []
        → IsStep task.read.now task.candidates.now new step
        → turns_of_step (length left) step ≤ turns_of_step (length left) (On next)
        → GoesOn task (turns_of_frame (First count left next) + sum_by turns_of_frame walk.frames) new step
    turned step context_is seen_is left_is frames_are is less = (
      (
        behind h.context new.context h.seen [] new.seen other (Second h.row above) walk.frames new.frames h.frames
            (h.open_is.0, negated, subst (λ context. IsMade r context above) h.context_is h.made)
            context_is (seen_is ∙ sym (append-nil h.seen)) frames_are,
        is,
      ),
      omega (
        arith,
        less,
        ap (λ left. turns_of_step (length left) step) left_is,
        ap (sum_by turns_of_frame) frames_are,
        sum_by_push turns_of_frame walk.frames (Second h.row above),
      ),
    )

    pub second_ready : new.context ≡ with_form h.context other → new.seen ≡ h.seen → new.left ≡ left
        → IsStep task.read.now task.candidates.now new (On next)
    second_ready context_is seen_is left_is =
        same_ready r cs (with_form h.context other) new.context h.seen new.seen left new.left next context_is seen_is
        left_is second_is

  -- the first side is made, and no proof of it names the Test's row
  module _ (count : ℕ) (left : List ℕ) (next : Next) (above : Tree) (h : IsClosing task walk (First count left next) above)
      (number : ℕ) (number_is : number ≡ length h.context.rows) (unnamed : tree_names_row number above ≡ false) where
    pub unnamed_branch : IsJoinedBranch (pairs_of r) h.context number h.row above
    unnamed_branch = record {
      number = number_is;
      over = h.open_is.0.over;
      joined = subst (λ context. IsJoinedTree r context above) h.context_is h.made.0;
      unnamed = unnamed;
    }

    pub stands : (tree : Tree) → tree ≡ tree_without number above → IsJoinedTree r h.context tree
        → new.context ≡ h.context → new.seen ≡ walk.seen → new.frames ≡ walk.frames
        → GoesOn task (turns_of_frame (First count left next) + sum_by turns_of_frame walk.frames) new (Made tree)
    stands tree is joined context_is seen_is frames_are = (
      (
        same_frames h.context (h.seen ++ h.more) walk.frames context_is (seen_is ∙ h.seen_is) frames_are
            (frames_more r cs h.context h.seen h.more walk.frames h.frames),
        subst (λ context. IsMade r context tree) (sym context_is) (
          joined,
          omega (
            arith,
            ap height_of is,
            height_of-tree_without number above,
            h.made.1,
            ap (λ (s : System). length s.rows) h.context_is,
            length_push h.context.rows h.row,
          ),
        ),
      ),
      omega (arith, ap (sum_by turns_of_frame) frames_are),
    )

  -- both sides are made
  pub closed : (form : Form) (above below tree : Tree) → (h : IsClosing task walk (Second form above) below)
      → IsMade task.read.now h.context tree → new.context ≡ h.context → new.seen ≡ walk.seen → new.frames ≡ walk.frames
      → GoesOn task (turns_of_frame (Second form above) + sum_by turns_of_frame walk.frames) new (Made tree)
  closed form above below tree h made context_is seen_is frames_are = (
    (
      same_frames h.context (h.seen ++ h.more) walk.frames context_is (seen_is ∙ h.seen_is) frames_are
          (frames_more r cs h.context h.seen h.more walk.frames h.frames),
      subst (λ context. IsMade r context tree) (sym context_is) made,
    ),
    omega (arith, ap (sum_by turns_of_frame) frames_are),
  )

-- what is made of both sides of a Test
pub test_made : (task : Task) (walk : Walk) (form : Form) (above below tree : Tree)
    → (h : IsClosing task walk (Second form above) below)
    → tree ≡ branch_or_test (length h.context.rows) form above below
    → (AreJoinedSides (pairs_of task.read.now) h.context (length h.context.rows) form above below
    → IsJoinedTree task.read.now h.context tree)
    → IsMade task.read.now h.context tree
test_made task walk form above below tree h is joined =
    let context = h.context in
    let test : IsTestForm context form = h.open_is.0 in
    let first : IsMade task.read.now (with_form context form) above = h.open_is.2 in
    let second : IsMade task.read.now (with_form context h.row) below =
    subst (λ context. IsMade task.read.now context below) h.context_is h.made in
    let rows : ℕ = length context.rows in
    let room : ℕ = 2 ^ 30 - (rows + 1) in
    let sides : max (height_of above) (height_of below) ≤ room =
    max-le {a = height_of above} {b = height_of below} {k = room}
    (omega (arith, first.1, length_push context.rows form))
    (omega (arith, second.1, length_push context.rows h.row)) in (
      joined (record {
        row = refl;
        over = test.over;
        within = test.within;
        above_is = first.0;
        below_is = λ other negated.
            subst (λ row. IsJoinedTree task.read.now (with_form context row) below)
            (same_Some h.row other (sym h.open_is.1 ∙ negated)) second.0;
      }),
      omega (
        arith,
        ap height_of is,
        height_of-branch_or_test rows form above below,
        sides,
        first.1,
        length_push context.rows form,
      ),
    )
