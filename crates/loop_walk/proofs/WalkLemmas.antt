-- Steps of a walk, over plain variables.
use Rattle.std.proofs.Common.{◌≡◌, ◌<◌, ◌+◌, ℕ, zero, suc, ℤ, pos, ◌+ℤ◌, ◌≤ℤ◌, ◌<ℤ◌, List, [], ◌∷◌, ◌++◌, map, drop}
use Rattle.std.proofs.Common.{set, length, get_or, false, cond, refl, sym, ap, ◌∙◌, arith}
use Rattle.std.specs.Prelude.{Bool, IsTrue, ◌&&◌, true, Option, Some, None, IfSome, OnSome}
use Rattle.std.proofs.lemmas.Bool.{and_parts, and_from}
use Rattle.std.proofs.lemmas.Int.{ints}
use Rattle.affine_core.specs.declared.form.Form.{Form}
use Rattle.sanlp.specs.declared.nest.Node.{Node, out-Node}
use Rattle.sanlp.specs.declared.nest.Node.TheVariants.{Assign}
use Rattle.sanlp.specs.declared.nest.Node.TheViews.{Loop}
use Rattle.sanlp.specs.declared.nest.Point.{Point}
use Rattle.sanlp.specs.Loops.{interval}
use Rattle.sanlp.specs.Trace.{all_points, trace_node, trace_step, turn_points}
use Rattle.sanlp.specs.WellFormed.{all_forms_fit, forms_fit}
use Rattle.sanlp.proofs.Folds.{fold_loop, fold_loop_at}
use Rattle.sanlp.proofs.Intervals.{interval_step}
use Rattle.loop_walk.specs.declared.walk.Frame.{Frame}
use Rattle.sanlp.specs.Size.{is_loop_value, node_within}
use Rattle.loop_walk.specs.Counting.{IsLoopRange}
use Rattle.loop_walk.specs.EnteredLoops.{parts_within, turns_within}
use Rattle.loop_walk.specs.Walking.{Left, Valid, left, left_inside, left_of_node, left_of_parts, left_of_turns}
use Rattle.loop_walk.specs.Walking.{inside_valid, node_room, node_valid, parts_room, parts_valid, room_step}
use Rattle.loop_walk.specs.Walking.{turns_valid, valid}
use Rattle.loop_walk.proofs.LoopEntries.{between_within, loop_fits, loop_turns_within, turn_within}

-- before the first part of a body
abbrev start : Frame
start = record { part = 0; inside = false; value = pos 0; last = pos 0 }

pub left_at_start : (frames : List Frame) (parts : List Node) (at : List ℤ) → 0 < length frames
    → left (set frames 0 start) parts at ≡ all_points (map trace_node parts) at
left_at_start [] parts at room = absurd (omega arith)
left_at_start (f ∷ frames) [] at room = refl
left_at_start (f ∷ frames) (node ∷ parts) at room = refl

pub valid_at_start : (frames : List Frame) (parts : List Node) (at : List ℤ) → 0 < length frames
    → IsTrue (parts_within parts at) → IsTrue (valid (set frames 0 start) parts at)
valid_at_start [] parts at room h = absurd (omega arith)
valid_at_start (f ∷ frames) [] at room h = refl
valid_at_start (f ∷ frames) (node ∷ parts) at room h = h

-- a loop that is entered: its first turn, and the others
module _ (id : ℕ) (lower upper : List Form) (step : ℤ) (body : List Node) (at : List ℤ) (first last : ℤ)
    (range : IsLoopRange lower upper step at first last) where
  loop_points : (values : List ℤ) → interval first last ≡ values
      → trace_node (Loop id lower upper step body) at ≡ turn_points (all_points (map trace_node body)) values at
  loop_points values e =
      fold_loop_at (List ℤ) (List Point) trace_step id lower upper step body at
      ∙ ap (λ vs. turn_points (all_points (map trace_node body)) vs at) (range.values ∙ e)

  pub points_of_turns : first ≤ℤ last → trace_node (Loop id lower upper step body) at
      ≡ all_points (map trace_node body) (at ++ first ∷ [])
      ++ turn_points (all_points (map trace_node body)) (interval (first +ℤ pos 1) last) at
  points_of_turns le = loop_points (first ∷ interval (first +ℤ pos 1) last) (interval_step first last le)

  pub turns_are_within : first ≤ℤ last → IsTrue (node_within (Loop id lower upper step body) at)
      → IsTrue (parts_within body (at ++ first ∷ [])) × IsTrue (turns_within body at (interval (first +ℤ pos 1) last))
  turns_are_within le h =
      turn_within body at first last le
      (sym (ap (turns_within body at) range.values) ∙ loop_turns_within id lower upper step body at h)

-- what the walk of a loop's turns may rest on
pub turns_walk : (node : Node) (id : ℕ) (lower upper : List Form) (step : ℤ) (body parts : List Node)
    (depth frames deeper : ℕ)
    → node ≡ Loop id lower upper step body → parts ≡ body → deeper ≡ frames
    → IsTrue (forms_fit node depth) → IsTrue (node_room node frames)
    → (depth < 6) × (IsTrue (all_forms_fit parts (depth + 1)) × IsTrue (parts_room parts deeper))
turns_walk node id lower upper step body parts depth frames deeper is part same fits room =
    let fit = loop_fits id lower upper step body depth (sym (ap (λ x. forms_fit x depth) is) ∙ fits) in
    let enough : IsTrue (parts_room body frames)
    = sym (ap (λ f. f frames) (fold_loop (ℕ → Bool) room_step id lower upper step body))
    ∙ sym (ap (λ x. node_room x frames) is) ∙ room in (
      fit.0,
      (
        ap (λ ps. all_forms_fit ps (depth + 1)) part ∙ fit.2,
        ap (λ k. parts_room parts k) same
            ∙ ap (λ ps. parts_room ps frames) part ∙ enough,
      ),
    )

-- a part that was not entered
pub left_outside : (f : Frame) (inner : Left) (node : Node) (at : List ℤ) → f.inside ≡ false
    → left_of_node f inner node at ≡ trace_node node at
left_outside f inner node at e = ap (λ b. cond b (left_inside f inner (out-Node node) at) (trace_node node at)) e

pub within_outside : (f : Frame) (inner : Valid) (node : Node) (at : List ℤ) → f.inside ≡ false
    → IsTrue (node_valid f inner node at) → IsTrue (node_within node at)
within_outside f inner node at e h =
    sym (ap (λ b. cond b (inside_valid f inner (out-Node node) at) (node_within node at)) e) ∙ h

-- the next turn of a loop
module _ (f : Frame) (next : ℤ) (frames : List Frame) (body : List Node) (at inner : List ℤ)
    (is : next ≡ f.value +ℤ pos 1) (later : f.value <ℤ f.last) (longer : inner ≡ at ++ next ∷ []) where
  pub turn_begun : left frames body inner ≡ all_points (map trace_node body) inner
      → left_of_turns (record f { value = next }) (left frames) body at
      ≡ turn_points (all_points (map trace_node body)) (interval (f.value +ℤ pos 1) f.last) at
  turn_begun h =
      ap (λ points. points ++ turn_points (all_points (map trace_node body)) (interval (next +ℤ pos 1) f.last) at)
      (sym (ap (left frames body) longer) ∙ h ∙ ap (all_points (map trace_node body)) longer)
      ∙ ap (λ values. turn_points (all_points (map trace_node body)) values at)
      (sym (interval_step next f.last (omega (arith, ints))))
      ∙ ap (λ v. turn_points (all_points (map trace_node body)) (interval v f.last) at) is

  pub turn_begun_valid : (inside : Valid) → IsTrue (turns_valid f inside body at) → IsTrue (valid frames body inner)
      → IsTrue (turns_valid (record f { value = next }) (valid frames) body at)
  turn_begun_valid inside h new =
      let tests = and_parts _ (inside body (at ++ f.value ∷ [])) h in
      let turns =
      and_parts (is_loop_value f.value && is_loop_value f.last)
      (turns_within body at (interval (f.value +ℤ pos 1) f.last)) tests.0 in
      let limits = and_parts (is_loop_value f.value) (is_loop_value f.last) turns.0 in
      let le : next ≤ℤ f.last = omega (arith, ints) in
      let rest = turn_within body at next f.last le (ap (λ v. turns_within body at (interval v f.last)) is ∙ turns.1) in
      and_from _ _
      (and_from _ _
      (and_from _ _
      (between_within f.value next f.last limits.0 limits.1 (omega (arith, ints)) le) limits.1) rest.1)
      (sym (ap (valid frames body) longer) ∙ new)

-- the part that the walk is at
pub part_valid : (f : Frame) (inner : Valid) (parts : List Node) (i : ℕ) (part : Node) (at : List ℤ)
    → i < length parts → part ≡ get_or parts i part → IsTrue (parts_valid f inner (drop i parts) at)
    → IsTrue (node_valid f inner part at)
part_valid f inner [] i part at lt e h = absurd (omega arith)
part_valid f inner (p ∷ parts) zero part at lt e h =
    ap (λ x. node_valid f inner x at) e ∙ (and_parts (node_valid f inner p at) (parts_within parts at) h).0
part_valid f inner (p ∷ parts) (suc i) part at lt e h = part_valid f inner parts i part at (omega arith) e h

pub on_some_from : {X : Type 0} (P : X → Type 0) (Q : Type 0) (o : Option X) → ((x : X) → P x → Q) → IfSome o P
    → OnSome o Q
on_some_from P Q None f h = tt
on_some_from P Q (Some x) f h = f x h

-- a body that is one assignment, which was entered
module _ (f : Frame) (frames : List Frame) (s : ℕ) (entered : f.inside ≡ true) (at : List ℤ) where
  assignment_done : left_of_parts f (left frames) (Assign s ∷ []) at ≡ []
  unfolding out-Node denote.Hole.Carrier.out
  assignment_done =
      ap (λ b. cond b (left_inside f (left frames) (out-Node (Assign s)) at) (trace_node (Assign s) at) ++ []) entered

  assignment_valid : IsTrue (parts_valid f (valid frames) (Assign s ∷ []) at)
  unfolding out-Node denote.Hole.Carrier.out
  assignment_valid =
      and_from _ _
      (ap (λ b. cond b (inside_valid f (valid frames) (out-Node (Assign s)) at)
      (node_within (Assign s) at)) entered) refl

pub nothing_left : (deeper : List Frame) (d : Frame) (body : List Node) (s : ℕ) → 0 < length deeper
    → (get_or deeper 0 d).inside ≡ true → (get_or deeper 0 d).part ≡ 0
    → body ≡ Assign s ∷ [] → (at : List ℤ) → left deeper body at ≡ []
nothing_left [] d body s room entered first is at = absurd (omega arith)
nothing_left (f ∷ frames) d body s room entered first is at =
    ap (λ (k : ℕ). left_of_parts f (left frames) (drop k body) at) first
    ∙ ap (λ (parts : List Node). left_of_parts f (left frames) (drop 0 parts) at) is
    ∙ assignment_done f frames s entered at

pub nothing_invalid : (deeper : List Frame) (d : Frame) (body : List Node) (s : ℕ) → 0 < length deeper
    → (get_or deeper 0 d).inside ≡ true → (get_or deeper 0 d).part ≡ 0
    → body ≡ Assign s ∷ [] → (at : List ℤ) → IsTrue (valid deeper body at)
nothing_invalid [] d body s room entered first is at = absurd (omega arith)
nothing_invalid (f ∷ frames) d body s room entered first is at =
    ap (λ (k : ℕ). parts_valid f (valid frames) (drop k body) at) first
    ∙ ap (λ (parts : List Node). parts_valid f (valid frames) (drop 0 parts) at) is
    ∙ assignment_valid f frames s entered at
