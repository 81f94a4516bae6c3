-- The joining as a walk: how it stands, what is left to do at each Test of the path, and how many turns it takes at most.
use Rattle.std.specs.Prelude.{◌≡◌, ◌≤◌, ◌<◌, ◌+◌, ◌-◌, ◌*◌, ◌^◌, ℕ, List, [], ◌∷◌, ◌++◌, length, sum_by, Option, Some, None}
use Rattle.std.specs.Option.{option_copied}
use Rattle.affine_core.specs.declared.form.Form.{Form}
use Rattle.int_polyhedra.specs.declared.system.System.{System}
use Rattle.int_polyhedra.specs.Steps.{negation_of}
use Rattle.tree_order.specs.Comparisons.{facts_had}
use Rattle.tree_graphs.specs.Heights.{height_of}
use Rattle.tree_order.specs.Reads.{IsJoinedTree}
use Rattle.tree_order.specs.Positions.{IsAt}
use Rattle.tree_order.specs.Seen.{best_in, sightings_of}
use Rattle.tree_order.specs.declared.candidates.Candidate.{Candidate}
use Rattle.tree_order.specs.declared.candidates.Read.{Read}
use Rattle.tree_order.specs.declared.compare.Comparison.{Comparison}
use Rattle.tree_order.specs.declared.compare.Comparison.TheVariants.{Earlier, Later, Open}
use Rattle.tree_order.specs.declared.compare.Pair.{Pair}
use Rattle.tree_order.specs.declared.seen.Position.{Position}
use Rattle.tree_order.specs.declared.seen.Seen.{Seen}
use Rattle.tree_join.specs.Joining.{IsPathOf, IsStanding}
use Rattle.tree_join.specs.declared.path.Frame.{Frame}
use Rattle.tree_join.specs.declared.path.Frame.TheVariants.{First, Second}
use Rattle.tree_join.specs.declared.path.Next.{Next}
use Rattle.tree_join.specs.declared.path.Next.TheVariants.{Choose, Follow, Compare}
use Rattle.tree_join.specs.declared.path.State.{State}
use Rattle.tree_join.specs.declared.path.Step.{Step}
use Rattle.tree_join.specs.declared.path.Step.TheVariants.{On, Made}
use Rattle.tree_join.specs.declared.path.Task.{Task}
use Rattle.tree_join.specs.declared.path.Walk.{Walk}
use Rattle.tree_graphs.specs.Facts.{with_form}
use Rattle.tree_sums.specs.Parts.{IsWithin}
use Rattle.source_tree.specs.declared.tree.Tree.{Tree}

-- the state tells the path of the walk
pub record IsStateOf (task : Task) (walk : Walk) (state : State) : Type 0 where
  pub read : state.read.now ≡ task.read.now
  pub candidates : state.candidates.now ≡ task.candidates.now
  pub context : state.context.now ≡ walk.context
  pub best : option_copied state.best ≡ best_in walk.seen
  pub seen : state.seen.now ≡ walk.seen
  pub left : state.left.now ≡ walk.left

-- How many steps are left

-- the candidate that is on its way
abbrev pub way_of : Next → Option Candidate
way_of Choose = None
way_of (Follow at) = Some at.candidate.now
way_of (Compare at pair comparison) = Some at.candidate.now

-- the most Tests that a comparison asks, and one more where it is open
abbrev pub tests_left : Pair → Comparison → ℕ
tests_left pair (Earlier order) = 0
tests_left pair (Later order) = 0
tests_left pair (Open c) = 2 * pair.common + 3 - facts_had c

-- The most steps of a path from here on, where so many candidates are left: a candidate's tree has at
-- most 65,536 Tests on a path, and a comparison asks at most 15.
abbrev pub height : ℕ → Next → ℕ
height left Choose = 70000 * left
height left (Follow at) = 70000 * left + (height_of at.node.now + 20)
height left (Compare at pair comparison) = 70000 * left + (tests_left pair comparison + 1)

-- the most turns of a walk over a tree that is so high
unfoldable pub most_turns : ℕ → ℕ
most_turns high = 2 ^ (2 * high + 1)

-- the most turns of what a step leaves to do further down
abbrev pub turns_of_step : ℕ → Step → ℕ
turns_of_step left (On next) = most_turns (height left next)
turns_of_step left (Made tree) = 0

-- the most turns that are left at a Test of the path: those of its second side among them, if it is yet to come
abbrev pub turns_of_frame : Frame → ℕ
turns_of_frame (First count left next) = most_turns (height (length left) next) + 2
turns_of_frame (Second form tree) = 1

-- the most turns that are left of the walk
abbrev pub turns_left : Walk → Step → ℕ
turns_left walk step = turns_of_step (length walk.left) step + sum_by turns_of_frame walk.frames

-- What a step says

-- what is on its way, in a context
abbrev pub IsNext : Read → System → Option Position → Next → Type 0
IsNext r context best Choose = Unit {0}
IsNext r context best (Follow at) = IsAt r context at
IsNext r context best (Compare at pair comparison) =
    IsAt r context at × IsStanding best context at pair comparison

-- A path from which the joining can go on so. There is room in its context for as many rows as it
-- takes steps.
abbrev pub IsReady : Read → List Candidate → System → List Seen → List ℕ → Next → Type 0
IsReady r candidates context seen left next =
    IsPathOf r candidates context (best_in seen) (sightings_of seen) left (height (length left) next)
    (way_of next)
    × IsNext r context (best_in seen) next

-- the joined tree of a context, with a number of 32 bits for each row of its leaves' contexts
abbrev pub IsMade : Read → System → Tree → Type 0
IsMade r context tree =
    IsJoinedTree r context tree × (length context.rows + height_of tree ≤ 2 ^ 30)

-- a step goes on from what the path tells, or its tree is the joined one
abbrev pub IsStep : Read → List Candidate → Walk → Step → Type 0
IsStep r candidates walk (On next) =
    IsReady r candidates walk.context walk.seen walk.left next
IsStep r candidates walk (Made tree) = IsMade r walk.context tree

-- What the frames say

-- a form over the variables, with small numbers
pub record IsTestForm (context : System) (form : Form) : Type 0 where
  pub over : length form.coefs ≡ context.vars
  pub within : IsWithin (2 ^ 49 + 1) form

-- The Test of a frame stands in this context, where so much was seen. The side that is under way has
-- this row: on the first side it is the Test's form, and the second can go on from its opposite; on
-- the second side it is the opposite of the form, and the first tree is joined.
abbrev pub IsOpen : Read → List Candidate → System → List Seen → Form → Frame → Type 0
IsOpen r candidates context seen row (First count left next) =
    IsTestForm context row × (count ≡ length seen)
    × ((other : Form) → negation_of row ≡ Some other
    → IsReady r candidates (with_form context other) seen left next)
IsOpen r candidates context seen row (Second form tree) =
    IsTestForm context form × (negation_of form ≡ Some row)
    × IsMade r (with_form context form) tree

-- The frames lead from the read's context to this one: each adds one row, and keeps what was seen
-- before it.
pub data AreFrames (r : Read) (candidates : List Candidate)
    : System → List Seen → List Frame → Type 0 where
  none : (context : System) (seen : List Seen) (frames : List Frame) → frames ≡ []
      → context ≡ r.context.now → AreFrames r candidates context seen frames
  behind : (context there : System) (seen more all : List Seen) (row : Form) (frame : Frame)
      (frames whole : List Frame) → AreFrames r candidates context seen frames
      → IsOpen r candidates context seen row frame
      → there ≡ with_form context row → all ≡ seen ++ more → whole ≡ frames ++ frame ∷ []
      → AreFrames r candidates there all whole

-- The walk

-- the frames lead to the walk's context, and the step goes on from there
abbrev pub IsUnderWay : Task → Walk → Step → Type 0
IsUnderWay task walk step =
    AreFrames task.read.now task.candidates.now walk.context walk.seen walk.frames
    × IsStep task.read.now task.candidates.now walk step

-- the walk goes on by a step, and fewer than so many turns are left
abbrev pub GoesOn : Task → ℕ → Walk → Step → Type 0
GoesOn task most walk step = IsUnderWay task walk step × (turns_left walk step < most)

-- both sides of a Test
pub record AreSides (task : Task) (walk : Walk) (form : Form) (first second : Next) : Type 0 where
  pub test : IsTestForm walk.context form
  pub above : IsReady task.read.now task.candidates.now (with_form walk.context form) walk.seen
      walk.left first
  pub below : (other : Form) → negation_of form ≡ Some other
      → IsReady task.read.now task.candidates.now (with_form walk.context other) walk.seen walk.left
      second

-- the tree of a side of this frame is made, which was the last one
pub record IsClosing (task : Task) (walk : Walk) (frame : Frame) (tree : Tree) : Type 0 where
  pub context : System
  pub seen : List Seen
  pub more : List Seen
  pub row : Form
  pub frames : AreFrames task.read.now task.candidates.now context seen walk.frames
  pub open_is : IsOpen task.read.now task.candidates.now context seen row frame
  pub context_is : walk.context ≡ with_form context row
  pub seen_is : walk.seen ≡ seen ++ more
  pub made : IsMade task.read.now walk.context tree
