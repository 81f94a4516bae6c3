-- What a sequencer gives from the first instruction of a part on.
--
-- The invariant is said of a part, wherever its instructions stand and whatever repeats round it end behind them: from the
-- first of them, with the counters of its own levels at 0, the sequencer gives what the part stands for, and then is where
-- these outer ends lead, with the counters as they were. So a list gives its parts one after the other, since behind a part
-- that isn't the last no outer repeat ends. A repeat's body is followed by the repeat's own end: while turns are left it
-- leads back to the first instruction with the counter one higher, and after the last one it sets the counter to 0 and
-- leaves the outer ends. By induction over the parts, and within a repeat over the turns that are left. It says nothing of
-- a repeat without a turn, whose body would be given once; proper blocks have none.
use Rattle.std.proofs.Common.{◌≡◌, ◌+◌, ◌<◌, ◌≤◌, ◌≢◌, ℕ, zero, suc, Bool, true, cond, Some, None, List, [], ◌∷◌}
use Rattle.std.proofs.Common.{◌++◌, map, set, length, get_or, replicate, slice_get, refl, sym, ap, ◌∙◌, subst, arith}
use Rattle.std.proofs.Common.{append_assoc, append-nil}
use Rattle.std.specs.Prelude.{max, nat_lt, nat_le}
use Rattle.std.specs.Option.{option_map}
use Rattle.std.proofs.lemmas.Bool.{and_parts, eq-eqb, le-ltb, leb-true, lt-ltb, ne_eqb}
use Rattle.std.proofs.lemmas.List.{get_or-set_same, get_or-set_other, length-append, length-set, length-replicate, set-get_or, set-set}
use Rattle.std.proofs.lemmas.Option.{slice_get_past}
use Rattle.plain_data.proofs.Lists.{get_or-replicate_same, slice_get-append_cons}
use Rattle.script_blocks.specs.declared.blocks.Blocks.{Blocks}
use Rattle.script_blocks.specs.declared.blocks.BlockPart.{BlockPart}
use Rattle.script_blocks.specs.declared.blocks.BlockPart.TheOpen as open_part
use Rattle.script_blocks.specs.declared.blocks.BlockPart.TheViews.{Repeat}
use Rattle.script_blocks.specs.declared.blocks.BlockPart.TheVariants.{Item}
use Rattle.script_blocks.specs.Expansion.{expansion, part_expansion, parts_expansion, repeated}
use Rattle.script_blocks.specs.Nesting.{are_proper, is_body, is_proper, is_proper_part, part_nesting, parts_nesting}
use Rattle.script_blocks.proofs.Expansions.{expansion_item, expansion_repeat, nesting_item, nesting_repeat, proper_repeat}
use Rattle.script_blocks.proofs.Depths.{body_parts}
use Rattle.script_blocks.proofs.Repetitions.{repeated_next, repeated_none, repeated_once}
use Rattle.repeat_sequencer.specs.declared.sequencer.Instruction.{Instruction}
use Rattle.repeat_sequencer.specs.declared.sequencer.RepeatEnd.{RepeatEnd}
use Rattle.repeat_sequencer.specs.declared.sequencer.Sequencer.{Sequencer}
use Rattle.repeat_sequencer.specs.Instructions.{Code, code_of, in_order, part_code, parts_code, sequencer_of}
use Rattle.repeat_sequencer.specs.Steps.{State, Gives, at_end, at_start, item_at, past_ends, restart, state_behind, step}
use Rattle.repeat_sequencer.specs.Steps.{step_and_restart}
use Rattle.repeat_sequencer.proofs.Inductions.{each_list}
use Rattle.repeat_sequencer.proofs.Codes.{code_item, code_repeat, in_order_last, in_order_next, in_order_none}

module _ {T : Type 0} (s : Sequencer T) (next : State → State) where
  pub gives_none : (a b : State) → a ≡ b → Gives s next a [] b
  unfolding Gives
  gives_none a b e = e

  pub gives_one : (x : T) (a b : State) → item_at s a ≡ Some x → next a ≡ b → Gives s next a (x ∷ []) b
  unfolding Gives
  gives_one x a b is e = (is, e)

  pub gives_append : (xs ys : List T) (a b c : State) → Gives s next a xs b → Gives s next b ys c
      → Gives s next a (xs ++ ys) c
  unfolding Gives
  gives_append [] ys a b c p q = subst (λ z. Gives s next z ys c) (sym p) q
  gives_append (x ∷ xs) ys a b c p q = (p.0, gives_append xs ys (next a) b c p.1 q)

module _ {T : Type 0} (s : Sequencer T) where
  -- these instructions stand from `first` on, and `next` follows them
  record Stands (code before after : List (Instruction T)) (first next : ℕ) : Type 0 where
    pub is : s.instructions ≡ before ++ (code ++ after)
    pub first_is : first ≡ length before
    pub next_is : next ≡ first + length code

  -- there are counters for so many levels from this one on, and those are at 0
  record IsFresh (level deep : ℕ) (counters : List ℕ) : Type 0 where
    pub room : level + deep ≤ length counters
    pub none : (i : ℕ) → level ≤ i → get_or counters i 0 ≡ 0

  -- the invariant
  abbrev GivesCode : Code T → List T → ℕ → Type 0
  GivesCode code items deep =
      (before after : List (Instruction T)) (level first next : ℕ) (ends : List RepeatEnd) (counters : List ℕ)
      → Stands (code level first ends) before after first next → IsFresh level deep counters
      → Gives s (step s) (record { at = first; counters = counters }) items (past_ends ends next counters)

  same_code : (c d : Code T) (xs ys : List T) (m n : ℕ) → c ≡ d → xs ≡ ys → m ≡ n → GivesCode d ys n → GivesCode c xs m
  same_code c d xs ys m n p q r h =
      subst (λ z. GivesCode z xs m) (sym p)
      (subst (λ zs. GivesCode d zs m) (sym q) (subst (λ k. GivesCode d ys k) (sym r) h))

  item_gives : (x : T) → GivesCode (code_of (open_part.Item x)) (x ∷ []) 0
  item_gives x before after level first next ends counters stands fresh =
      let here : Instruction T = record { item = x; ends = ends } in
      let there : slice_get s.instructions first ≡ Some here =
      ap (slice_get s.instructions) stands.first_is ∙ ap (λ is. slice_get is (length before)) stands.is
      ∙ slice_get-append_cons before here after in
      let behind : first + 1 ≡ next = omega (arith, stands.next_is) in
      gives_one s (step s) x (record { at = first; counters = counters }) (past_ends ends next counters)
      (ap (option_map (λ (i : Instruction T). i.item)) there)
      (ap (λ o. state_behind o (record { at = first; counters = counters })) there ∙ ap (λ n. past_ends ends n counters) behind)

  last_gives : (c : Code T) (xs : List T) (deep : ℕ) → GivesCode c xs deep
      → GivesCode (in_order (c ∷ [])) (xs ++ []) (max deep 0)
  last_gives c xs deep gives before after level first next ends counters stands fresh =
      let is = in_order_last level first ends c in
      let deep_is : max deep 0 ≡ deep = omega arith in
      subst (λ ys. Gives s (step s) (record { at = first; counters = counters }) ys (past_ends ends next counters))
      (sym (append-nil xs))
      (gives before after level first next ends counters
      (subst (λ code. Stands code before after first next) is stands)
      (subst (λ d. IsFresh level d counters) deep_is fresh))

  -- behind an instruction at which no repeat ends
  past_none : (next : ℕ) (counters : List ℕ) → past_ends [] next counters ≡ record { at = next; counters = counters }
  unfolding past_ends
  past_none next counters = refl

  more_gives : (c d : Code T) (codes : List (Code T)) (xs ys : List T) (m n : ℕ) → GivesCode c xs m
      → GivesCode (in_order (d ∷ codes)) ys n → GivesCode (in_order (c ∷ (d ∷ codes))) (xs ++ ys) (max m n)
  more_gives c d codes xs ys m n here later before after level first next ends counters stands fresh =
      let code : List (Instruction T) = c level first [] in
      let behind : ℕ = first + length code in
      let others : List (Instruction T) = in_order (d ∷ codes) level behind ends in
      let is : in_order (c ∷ (d ∷ codes)) level first ends ≡ code ++ others = in_order_next level first ends c d codes in
      let whole : s.instructions ≡ before ++ (code ++ (others ++ after)) =
      stands.is ∙ ap (λ (z : List (Instruction T)). before ++ (z ++ after)) is
      ∙ ap (λ (z : List (Instruction T)). before ++ z) (append_assoc code others after) in
      let long = length-append code others in
      let whole_long = ap length is in
      let ahead = length-append before code in
      let next_is : next ≡ behind + length others = omega (arith, stands.next_is, whole_long, long) in
      let first_is : behind ≡ length (before ++ code) = omega (arith, stands.first_is, ahead) in
      let fresh_here : IsFresh level m counters = record { room = omega (arith, fresh.room); none = fresh.none } in
      let fresh_later : IsFresh level n counters = record { room = omega (arith, fresh.room); none = fresh.none } in
      gives_append s (step s) xs ys (record { at = first; counters = counters })
      (past_ends [] behind counters) (past_ends ends next counters)
      (here before (others ++ after) level first behind [] counters
      (record { is = whole; first_is = stands.first_is; next_is = refl }) fresh_here)
      (subst (λ (z : State). Gives s (step s) z ys (past_ends ends next counters)) (sym (past_none behind counters))
      (later (before ++ code) after level behind next ends counters
      (record { is = whole ∙ sym (append_assoc before code (others ++ after)); first_is = first_is; next_is = next_is })
      fresh_later))

  -- the turns of a repeat, of which `k` have ended
  module _ (body : Code T) (xs : List T) (deep : ℕ) (gives : GivesCode body xs deep) (count : ℕ)
      (before after : List (Instruction T)) (level first next : ℕ) (ends : List RepeatEnd) (counters : List ℕ)
      (stands : Stands (code_of (open_part.Repeat count body) level first ends) before after first next)
      (fresh : IsFresh level (deep + 1) counters) where
    abbrev here : RepeatEnd
    here = record { level = level; first = first; count = count }

    abbrev counted : ℕ → List ℕ
    counted k = set counters level k

    abbrev from : ℕ → State
    from k = record { at = first; counters = counted k }

    counted_fresh : (k : ℕ) → IsFresh (level + 1) deep (counted k)
    counted_fresh k =
        let long = length-set counters level k in
        record {
          room = omega (arith, fresh.room, long);
          none = λ i le.
              (let other : i ≢ level = λ e. absurd (omega arith) in
              get_or-set_other counters level i k 0 other ∙ fresh.none i (omega arith));
        }

    turns_are : (k : ℕ) → get_or (counted k) level 0 + 1 ≡ k + 1
    turns_are k = ap (λ n. n + 1) (get_or-set_same counters level k 0 (omega (arith, fresh.room)))

    abbrev past_turn : ℕ → ℕ → State
    past_turn k turns =
        cond (nat_lt turns count) (record { at = first; counters = set (counted k) level turns })
        (past_ends ends next (set (counted k) level 0))

    past_here : (k : ℕ) → past_ends (here ∷ ends) next (counted k) ≡ past_turn k (k + 1)
    unfolding past_ends
    past_here k = ap (past_turn k) (turns_are k)

    past_more : (k : ℕ) → k + 1 < count → past_ends (here ∷ ends) next (counted k) ≡ from (k + 1)
    past_more k lt =
        past_here k
        ∙ ap (λ b. cond b (record { at = first; counters = set (counted k) level (k + 1) })
        (past_ends ends next (set (counted k) level 0))) (lt-ltb (k + 1) count lt)
        ∙ ap (λ cs. record { at = first; counters = cs }) (set-set counters level k (k + 1))

    restored : (k : ℕ) → set (counted k) level 0 ≡ counters
    restored k =
        set-set counters level k 0 ∙ ap (λ n. set counters level n) (sym (fresh.none level (omega arith)))
        ∙ set-get_or counters level 0

    past_last : (k : ℕ) → k + 1 ≡ count → past_ends (here ∷ ends) next (counted k) ≡ past_ends ends next counters
    past_last k e =
        past_here k
        ∙ ap (λ b. cond b (record { at = first; counters = set (counted k) level (k + 1) })
        (past_ends ends next (set (counted k) level 0))) (le-ltb (k + 1) count (omega arith))
        ∙ ap (past_ends ends next) (restored k)

    turn_gives : (k : ℕ) → Gives s (step s) (from k) xs (past_ends (here ∷ ends) next (counted k))
    turn_gives k = gives before after (level + 1) first next (here ∷ ends) (counted k) stands (counted_fresh k)

    turns_give : (later k : ℕ) → k + suc later ≡ count
        → Gives s (step s) (from k) (repeated (suc later) xs) (past_ends ends next counters)
    turns_give zero k e =
        subst (λ (ys : List T). Gives s (step s) (from k) ys (past_ends ends next counters))
        (sym (repeated_once xs))
        (subst (λ (z : State). Gives s (step s) (from k) xs z) (past_last k (omega arith)) (turn_gives k))
    turns_give (suc later) k e =
        subst (λ (ys : List T). Gives s (step s) (from k) ys (past_ends ends next counters))
        (sym (repeated_next (suc later) xs))
        (gives_append s (step s) xs (repeated (suc later) xs) (from k) (from (k + 1)) (past_ends ends next counters)
        (subst (λ (z : State). Gives s (step s) (from k) xs z) (past_more k (omega arith)) (turn_gives k))
        (turns_give later (k + 1) (omega arith)))

    all_turns : (later : ℕ) → count ≡ suc later
        → Gives s (step s) (record { at = first; counters = counters }) (repeated count xs) (past_ends ends next counters)
    all_turns later e =
        subst (λ (n : ℕ). Gives s (step s) (record { at = first; counters = counters }) (repeated n xs)
        (past_ends ends next counters)) (sym e)
        (subst (λ (cs : List ℕ). Gives s (step s) (record { at = first; counters = cs }) (repeated (suc later) xs)
        (past_ends ends next counters)) (counted_none)
        (turns_give later 0 (omega arith)))
      where
        counted_none : counted 0 ≡ counters
        counted_none =
            ap (λ n. set counters level n) (sym (fresh.none level (omega arith))) ∙ set-get_or counters level 0

  repeat_gives : (body : Code T) (xs : List T) (deep count : ℕ) → GivesCode body xs deep → 2 ≤ count
      → GivesCode (code_of (open_part.Repeat count body)) (repeated count xs) (deep + 1)
  repeat_gives body xs deep zero gives twice = absurd (omega arith)
  repeat_gives body xs deep (suc later) gives twice =
      λ before after level first next ends counters stands fresh.
      all_turns body xs deep gives (suc later) before after level first next ends counters stands fresh later refl

  -- proper parts
  abbrev IsGiven : BlockPart T → Type 0
  IsGiven part = is_proper_part part ≡ true → GivesCode (part_code part) (part_expansion part) (part_nesting part)

  abbrev AreGiven : List (BlockPart T) → Type 0
  AreGiven parts =
      are_proper parts ≡ true → 0 < length parts
      → GivesCode (parts_code parts) (parts_expansion parts) (parts_nesting parts)

  given_item : (x : T) → IsGiven (Item x)
  given_item x proper =
      same_code (part_code (Item x)) (code_of (open_part.Item x)) (part_expansion (Item x)) (x ∷ [])
      (part_nesting (Item x)) 0 (code_item x) (expansion_item x) (nesting_item x) (item_gives x)

  given_repeat : (count : ℕ) (body : Blocks T) → AreGiven body.parts → IsGiven (Repeat count body)
  given_repeat count body inner proper =
      let checks =
      and_parts (nat_le 2 count) (is_body (map is_proper_part body.parts)) (sym (proper_repeat count body) ∙ proper) in
      let parts = body_parts body.parts checks.1 in
      same_code (part_code (Repeat count body)) (code_of (open_part.Repeat count (parts_code body.parts)))
      (part_expansion (Repeat count body)) (repeated count (parts_expansion body.parts))
      (part_nesting (Repeat count body)) (parts_nesting body.parts + 1)
      (code_repeat count body) (expansion_repeat count body) (nesting_repeat count body)
      (repeat_gives (parts_code body.parts) (parts_expansion body.parts) (parts_nesting body.parts) count
      (inner parts.1 parts.0) (leb-true 2 count checks.0))

  given_list : (es : List ((part : BlockPart T) × IsGiven part)) → AreGiven (map (λ e. e.0) es)
  given_list [] proper some = absurd (omega arith)
  given_list (e ∷ []) proper some =
      last_gives (part_code e.0) (part_expansion e.0) (part_nesting e.0)
      (e.1 (and_parts (is_proper_part e.0) true proper).0)
  given_list (e ∷ (f ∷ es)) proper some =
      let checks = and_parts (is_proper_part e.0) (are_proper (map (λ q. q.0) (f ∷ es))) proper in
      more_gives (part_code e.0) (part_code f.0) (map part_code (map (λ q. q.0) es)) (part_expansion e.0)
      (parts_expansion (map (λ q. q.0) (f ∷ es))) (part_nesting e.0) (parts_nesting (map (λ q. q.0) (f ∷ es)))
      (e.1 checks.0) (given_list (f ∷ es) checks.1 (omega arith))

  all_given : (parts : List (BlockPart T)) → AreGiven parts
  all_given parts = each_list IsGiven AreGiven given_item given_repeat given_list parts

-- a whole round
module _ {T : Type 0} (blocks : Blocks T) (proper : is_proper blocks ≡ true) where
  abbrev s : Sequencer T
  s = sequencer_of blocks

  round_of : (parts : List (BlockPart T)) → blocks.parts ≡ parts
      → Gives s (step s) (at_start s) (parts_expansion parts) (at_end s)
  round_of [] e =
      gives_none s (step s) (at_start s) (at_end s)
      (ap (λ n. record { at = n; counters = replicate s.levels 0 })
      (sym (ap (λ ps. length (parts_code ps 0 0 [])) e ∙ ap length (in_order_none 0 0 []))))
  round_of (p ∷ ps) e =
      let code : List (Instruction T) = parts_code blocks.parts 0 0 [] in
      let proper_parts : are_proper (p ∷ ps) ≡ true = sym (ap are_proper e) ∙ proper in
      let same : parts_code (p ∷ ps) 0 0 [] ≡ code = ap (λ qs. parts_code qs 0 0 []) (sym e) in
      let deep : parts_nesting (p ∷ ps) ≡ s.levels = ap parts_nesting (sym e) in
      let zeros : List ℕ = replicate s.levels 0 in
      let long : length zeros ≡ s.levels = length-replicate {A = ℕ} s.levels 0 in
      let next_is : length code ≡ 0 + length (parts_code (p ∷ ps) 0 0 []) = omega (arith, ap length same) in
      let room : 0 + parts_nesting (p ∷ ps) ≤ length zeros = omega (arith, deep, long) in
      subst (λ (z : State). Gives s (step s) (at_start s) (parts_expansion (p ∷ ps)) z)
      (past_none s (length code) (replicate s.levels 0))
      (all_given s (p ∷ ps) proper_parts (omega arith) [] [] 0 0 (length code) [] (replicate s.levels 0)
      (record {
        is = sym (append-nil code) ∙ ap (λ (z : List (Instruction T)). z ++ []) (sym same);
        first_is = refl;
        next_is = next_is;
      })
      (record { room = room; none = λ i le. get_or-replicate_same s.levels i 0 }))

  pub round : Gives s (step s) (at_start s) (expansion blocks) (at_end s)
  round = round_of blocks.parts refl

-- round after round
module _ {T : Type 0} (s : Sequencer T) where
  item_within : (is : List (Instruction T)) (k : ℕ) (x : T)
      → option_map (λ (i : Instruction T). i.item) (slice_get is k) ≡ Some x → k < length is
  item_within [] k x e = cc
  item_within (i ∷ is) zero x e = omega arith
  item_within (i ∷ is) (suc k) x e = let lt = item_within is k x e in omega arith

  abbrev anew : State → State
  anew b = record { at = 0; counters = b.counters }

  restart_end : (b : State) → b.at ≡ length s.instructions → restart s b ≡ anew b
  restart_end b e = ap (λ (t : Bool). cond t (anew b) b) (eq-eqb b.at (length s.instructions) e)

  restart_within : (b : State) (x : T) → item_at s b ≡ Some x → restart s b ≡ b
  restart_within b x e =
      let lt = item_within s.instructions b.at x e in
      ap (λ (t : Bool). cond t (anew b) b) (ne_eqb b.at (length s.instructions) (λ is. absurd (omega arith)))

  restart_gives : (x : T) (xs : List T) (a b : State) → b.at ≡ length s.instructions
      → Gives s (step s) a (x ∷ xs) b → Gives s (step_and_restart s) a (x ∷ xs) (anew b)
  unfolding Gives
  restart_gives x [] a b e p = (p.0, ap (restart s) p.1 ∙ restart_end b e)
  restart_gives x (y ∷ ys) a b e p = (
    p.0,
    subst (λ (z : State). Gives s (step_and_restart s) z (y ∷ ys) (anew b)) (sym (restart_within (step s a) y p.1.0))
        (restart_gives y ys (step s a) b e p.1),
  )

  again : (items : List T) (a : State) → Gives s (step_and_restart s) a items a → (count : ℕ)
      → Gives s (step_and_restart s) a (repeated count items) a
  again items a one zero =
      subst (λ (ys : List T). Gives s (step_and_restart s) a ys a) (sym (repeated_none items))
      (gives_none s (step_and_restart s) a a refl)
  again items a one (suc count) =
      subst (λ (ys : List T). Gives s (step_and_restart s) a ys a) (sym (repeated_next count items))
      (gives_append s (step_and_restart s) items (repeated count items) a a a one (again items a one count))

  pub rounds_of : (items : List T) (count : ℕ) → Gives s (step s) (at_start s) items (at_end s)
      → Gives s (step_and_restart s) (at_start s) (repeated count items) (at_start s)
  rounds_of [] count one =
      again [] (at_start s) (gives_none s (step_and_restart s) (at_start s) (at_start s) refl) count
  rounds_of (x ∷ xs) count one =
      again (x ∷ xs) (at_start s) (restart_gives x xs (at_start s) (at_end s) refl one) count

-- at its end it gives nothing
pub ended : {T : Type 0} (blocks : Blocks T) → item_at (sequencer_of blocks) (at_end (sequencer_of blocks)) ≡ None
ended {T} blocks =
    ap (option_map (λ (i : Instruction T). i.item))
    (slice_get_past (sequencer_of blocks).instructions (length (sequencer_of blocks).instructions) (omega arith))
