-- Steps of a cursor, over plain variables.
use Rattle.std.proofs.Common.{◌≡◌, ◌+◌, ◌<◌, ℕ, zero, suc, Bool, true, false, cond, List, [], ◌∷◌, ◌++◌, drop, set}
use Rattle.std.proofs.Common.{length, get_or, refl, sym, ap, ◌∙◌, arith, add-one}
use Rattle.std.specs.Prelude.{MatchOption, Option, Some, None, is_some}
use Rattle.std.proofs.lemmas.Bool.{false≢true}
use Rattle.script_blocks.specs.declared.blocks.Blocks.{Blocks}
use Rattle.script_blocks.specs.declared.blocks.BlockPart.{BlockPart, out-BlockPart}
use Rattle.script_blocks.specs.declared.blocks.BlockPart.TheViews.{Repeat, outs-Repeat}
use Rattle.script_blocks.specs.declared.cursor.Frame.{Frame}
use Rattle.script_blocks.specs.Expansion.{part_expansion, parts_expansion, repeated}
use Rattle.script_blocks.specs.Places.{Left, left, left_inside, left_of_part, left_of_parts, left_of_repeat}
use Rattle.script_blocks.specs.Places.{left_of_turns}
use Rattle.script_blocks.proofs.Expansions.{expansion_repeat}
use Rattle.script_blocks.proofs.Repetitions.{repeated_next, repeated_none, repeated_nothing}

-- before the first of a list of parts
abbrev start : Frame
start = record { part = 0; inside = false; later = 0 }

pub left_at_start : {T : Type 0} (frames : List Frame) (parts : List (BlockPart T)) → 0 < length frames
    → left (set frames 0 start) parts ≡ parts_expansion parts
left_at_start [] parts room = absurd (omega arith)
left_at_start (f ∷ frames) [] room = refl
left_at_start (f ∷ frames) (part ∷ parts) room = refl

-- what is left of a repeat
pub left_of_repeat_is : {T : Type 0} (f : Frame) (inner : Left T) (count : ℕ) (body : Blocks T)
    → left_of_part f inner (Repeat count body) ≡ left_of_repeat f inner count body.parts
left_of_repeat_is {T} f inner count body =
    by_inside f.inside where
      by_inside : (b : Bool)
          → cond b (left_inside f inner (out-BlockPart T (Repeat count body))) (part_expansion (Repeat count body))
          ≡ cond b (left_of_turns f inner body.parts) (repeated count (parts_expansion body.parts))
      by_inside true = ap (left_inside f inner) (outs-Repeat count body)
      by_inside false = expansion_repeat count body

-- what is left from the part that the cursor is at
pub left_from_part : {T : Type 0} (f : Frame) (inner : Left T) (parts : List (BlockPart T)) (i : ℕ) (part : BlockPart T)
    → i < length parts → part ≡ get_or parts i part
    → left_of_parts f inner (drop i parts) ≡ left_of_part f inner part ++ parts_expansion (drop (i + 1) parts)
left_from_part f inner [] i part lt e = absurd (omega arith)
left_from_part f inner (p ∷ parts) zero part lt e = ap (λ q. left_of_part f inner q ++ parts_expansion parts) (sym e)
left_from_part f inner (p ∷ parts) (suc i) part lt e =
    let more : suc (i + 1) ≡ suc i + 1 = omega arith in
    left_from_part f inner parts i part (omega arith) e
    ∙ ap (λ n. left_of_part f inner part ++ parts_expansion (drop n (p ∷ parts))) more

-- a step that gives an item of the part that the cursor is at
pub step_found : {T : Type 0} (result : Option T) (f after : Frame) (inner inner_after : Left T)
    (parts : List (BlockPart T)) (part : BlockPart T) (all : List T)
    → f.part < length parts → part ≡ get_or parts f.part part → after.part ≡ f.part
    → MatchOption result (left_of_part f inner part ≡ [])
    (λ item. left_of_part f inner part ≡ item ∷ left_of_part after inner_after part)
    → is_some result ≡ true → left_of_parts f inner (drop f.part parts) ≡ all
    → MatchOption result
    ((all ≡ []) × (left_of_parts after inner_after (drop after.part parts) ≡ []))
    (λ item. all ≡ item ∷ left_of_parts after inner_after (drop after.part parts))
step_found None f after inner inner_after parts part all lt e same next some is = absurd (false≢true some)
step_found (Some item) f after inner inner_after parts part all lt e same next some is =
    sym is ∙ left_from_part f inner parts f.part part lt e
    ∙ ap (λ xs. xs ++ parts_expansion (drop (f.part + 1) parts)) next
    ∙ ap (λ xs. item ∷ xs) (sym (
    ap (λ i. left_of_parts after inner_after (drop i parts)) same
    ∙ left_from_part after inner_after parts f.part part lt e))

-- parts of which none was entered
pub left_outside : {T : Type 0} (f : Frame) (inner : Left T) (parts : List (BlockPart T)) → f.inside ≡ false
    → left_of_parts f inner parts ≡ parts_expansion parts
left_outside f inner [] e = refl
left_outside {T} f inner (p ∷ parts) e =
    ap (λ b. cond b (left_inside f inner (out-BlockPart T p)) (part_expansion p) ++ parts_expansion parts) e

-- a repetition that has just begun, and the later ones
pub turn_begun : {T : Type 0} (f : Frame) (inner : Left T) (body : List (BlockPart T)) (later : ℕ) → f.later ≡ later
    → inner body ≡ parts_expansion body → left_of_turns f inner body ≡ repeated (later + 1) (parts_expansion body)
turn_begun f inner body later is begun =
    ap (λ xs. xs ++ repeated f.later (parts_expansion body)) begun
    ∙ ap (λ n. parts_expansion body ++ repeated n (parts_expansion body)) is
    ∙ sym (repeated_next later (parts_expansion body))
    ∙ ap (λ n. repeated n (parts_expansion body)) (sym (add-one later))

-- where a repetition has nothing from its beginning on, none is left
pub turns_empty : {T : Type 0} (f : Frame) (inner : Left T) (body : List (BlockPart T)) → inner body ≡ []
    → inner body ≡ parts_expansion body
    → left_of_turns f inner body ≡ []
turns_empty f inner body none begun =
    ap (λ xs. xs ++ repeated f.later (parts_expansion body)) none
    ∙ ap (repeated f.later) (sym begun ∙ none) ∙ repeated_nothing f.later

-- where a repetition is at its end, the later ones are left
pub turns_later : {T : Type 0} (f : Frame) (inner : Left T) (body : List (BlockPart T)) → inner body ≡ []
    → left_of_turns f inner body ≡ repeated f.later (parts_expansion body)
turns_later f inner body none = ap (λ xs. xs ++ repeated f.later (parts_expansion body)) none

pub turns_item : {T : Type 0} (f : Frame) (inner after : Left T) (body : List (BlockPart T)) (item : T)
    → inner body ≡ item ∷ after body
    → left_of_turns f inner body ≡ item ∷ left_of_turns f after body
turns_item f inner after body item e = ap (λ xs. xs ++ repeated f.later (parts_expansion body)) e

pub inside_is : {T : Type 0} (f : Frame) (inner : Left T) (count : ℕ) (body : List (BlockPart T)) → f.inside ≡ true
    → left_of_repeat f inner count body ≡ left_of_turns f inner body
inside_is f inner count body e = ap (λ b. cond b (left_of_turns f inner body) (repeated count (parts_expansion body))) e

pub outside_is : {T : Type 0} (f : Frame) (inner : Left T) (count : ℕ) (body : List (BlockPart T)) → f.inside ≡ false
    → left_of_repeat f inner count body ≡ repeated count (parts_expansion body)
outside_is f inner count body e =
    ap (λ b. cond b (left_of_turns f inner body) (repeated count (parts_expansion body))) e

pub ruleset turns = (inside_is, outside_is, turns_empty, turns_later, turns_item, repeated_none)
