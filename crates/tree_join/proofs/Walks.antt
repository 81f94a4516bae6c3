-- Frames and turns of the joining.
--
-- The frames are told from the last one: it stands in a context of its own, which has one row fewer, and where less was
-- seen. So what is seen behind the last frame may grow, and once that frame is taken off, the others lead to its
-- context. A step lowers the height, and a Test on both sides; with each turn that is taken off the height, there are
-- four times fewer turns, so two sides and what a Test takes itself are fewer than those of the Test.
use Rattle.std.proofs.Common.{◌≡◌, ◌+◌, ◌*◌, ◌^◌, ◌≤◌, ◌<◌, ℕ, suc, List, [], ◌∷◌, ◌++◌, sym, ap, ◌∙◌, subst}
use Rattle.std.proofs.Common.{arith}
use Rattle.std.proofs.lemmas.List.{append_assoc, same_from_push}
use Rattle.std.proofs.lemmas.Nat.{pow_pos}
use Rattle.std.proofs.Math.Nat.{pow-suc}
use Rattle.std.proofs.Math.Pow.{pow_mono}
use Rattle.affine_core.specs.declared.form.Form.{Form}
use Rattle.tree_order.specs.declared.candidates.Candidate.{Candidate}
use Rattle.tree_order.specs.declared.candidates.Read.{Read}
use Rattle.tree_order.specs.declared.seen.Seen.{Seen}
use Rattle.tree_join.specs.Walking.{most_turns, AreFrames, IsClosing, IsMade, IsOpen, behind, none}
use Rattle.tree_join.specs.declared.path.Frame.{Frame}
use Rattle.tree_join.specs.declared.path.Task.{Task}
use Rattle.tree_join.specs.declared.path.Walk.{Walk}
use Rattle.int_polyhedra.specs.declared.system.System.{System}
use Rattle.tree_graphs.specs.Facts.{with_form}
use Rattle.source_tree.specs.declared.tree.Tree.{Tree}

-- Lists that end with an item

pub not_empty : {X : Type 0} (xs : List X) (x : X) → xs ++ x ∷ [] ≡ [] → ⊥
not_empty [] x e = let f : x ∷ [] ≡ [] = e in cc
not_empty (y ∷ xs) x e = let f : y ∷ (xs ++ x ∷ []) ≡ [] = e in cc

-- Frames

module _ (r : Read) (cs : List Candidate) where
  -- the last frame, and those before it
  record IsLast (there : System) (all : List Seen) (frames : List Frame) (frame : Frame) : Type 0 where
    pub context : System
    pub seen : List Seen
    pub more : List Seen
    pub row : Form
    pub frames_are : AreFrames r cs context seen frames
    pub open_is : IsOpen r cs context seen row frame
    pub context_is : there ≡ with_form context row
    pub seen_is : all ≡ seen ++ more

  pub frames_more : (context : System) (seen more : List Seen) (frames : List Frame) → AreFrames r cs context seen frames
      → AreFrames r cs context (seen ++ more) frames
  frames_more _ _ more _ (none context seen frames empty root) = none context (seen ++ more) frames empty root
  frames_more _ _ more _ (behind context there seen old all row frame frames whole before open_is there_is all_is is) =
      behind context there seen (old ++ more) (all ++ more) row frame frames whole before open_is there_is
      (ap (λ xs. xs ++ more) all_is ∙ append_assoc seen old more) is

  pub frames_none : (context : System) (seen : List Seen) (frames : List Frame) → AreFrames r cs context seen frames
      → frames ≡ [] → context ≡ r.context.now
  frames_none _ _ _ (none context seen frames empty root) e = root
  frames_none _ _ _ (behind context there seen old all row frame frames whole before open_is there_is all_is is) e =
      absurd (not_empty frames frame (sym is ∙ e))

  frames_last : (context : System) (seen : List Seen) (whole : List Frame) → AreFrames r cs context seen whole
      → (frames : List Frame) (frame : Frame) → whole ≡ frames ++ frame ∷ []
      → IsLast context seen frames frame
  frames_last _ _ _ (none context seen whole empty root) frames frame e =
      absurd (not_empty frames frame (sym e ∙ empty))
  frames_last _ _ _ (behind context there seen old all row last before whole are open_is there_is all_is is) frames
      frame e =
      let same = same_from_push before frames last frame (sym is ∙ e) in
      record {
        context = context;
        seen = seen;
        more = old;
        row = row;
        frames_are = subst (AreFrames r cs context seen) same.0 are;
        open_is = subst (IsOpen r cs context seen row) same.1 open_is;
        context_is = there_is;
        seen_is = all_is;
      }

-- the last frame is taken off
pub closing : (task : Task) (walk : Walk) (whole : List Frame) (frame : Frame) (tree : Tree)
    → AreFrames task.read.now task.candidates.now walk.context walk.seen whole → whole ≡ walk.frames ++ frame ∷ []
    → IsMade task.read.now walk.context tree → IsClosing task walk frame tree
closing task walk whole frame tree are is made =
    let last : IsLast task.read.now task.candidates.now walk.context walk.seen walk.frames frame
    = frames_last task.read.now task.candidates.now walk.context walk.seen whole are walk.frames frame is in
    record {
      context = last.context;
      seen = last.seen;
      more = last.more;
      row = last.row;
      frames = last.frames_are;
      open_is = last.open_is;
      context_is = last.context_is;
      seen_is = last.seen_is;
      made = made;
    }

-- Turns

pub turns_some : (h : ℕ) → 2 ≤ most_turns h
unfolding most_turns
turns_some h = pow_mono {i = 1} {j = 2 * h + 1} (omega arith)

four_times : (i j : ℕ) → i < j → 4 * most_turns i ≤ most_turns j
unfolding most_turns
four_times i j lt =
    let n : ℕ = 2 * i + 1 in
    let step : 2 ^ suc (suc n) ≡ 2 ^ n * 2 * 2 = pow-suc 2 (suc n) ∙ ap (λ x. x * 2) (pow-suc 2 n) in
    omega (arith, step, pow_mono {i = suc (suc n)} {j = 2 * j + 1} (omega (arith, lt)))

pub turns_less : (i j : ℕ) → i < j → most_turns i < most_turns j
turns_less i j lt = omega (arith, four_times i j lt, turns_some i)

pub turns_most : (i j : ℕ) → i ≤ j → most_turns i ≤ most_turns j
unfolding most_turns
turns_most i j le = pow_mono {i = 2 * i + 1} {j = 2 * j + 1} (omega (arith, le))

pub turns_both : (i j k : ℕ) → i < k → j < k → most_turns i + (most_turns j + 2) < most_turns k
turns_both i j k first second =
    omega (arith, four_times i k first, four_times j k second, turns_some i, turns_some j)
