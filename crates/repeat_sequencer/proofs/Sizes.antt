-- There are as many instructions as items, no more items than nodes, and of proper blocks as many items and ends as
-- nodes.
--
-- All three are inductions over parts and lists of parts (`each_list`). An item is one instruction, a repeat has those
-- of its body, and a list those of its parts together. Each is said of a part at any level, any first number and any
-- ends, since a body stands one level deeper with the repeat's own end behind it, and each part of a list begins where
-- the one before ended. The ends that are given to a part stand behind its last instruction, if it has one: so for the
-- third a body has to have a part. For the first two nothing is asked.
use Rattle.std.proofs.Common.{◌≡◌, ◌+◌, ◌<◌, ◌≤◌, ℕ, true, List, [], ◌∷◌, ◌++◌, map, length, sym, ap, ◌∙◌, subst, arith}
use Rattle.std.specs.Prelude.{nat_le}
use Rattle.std.specs.List.{sum, sum_by}
use Rattle.std.proofs.lemmas.Bool.{and_parts}
use Rattle.std.proofs.lemmas.List.{length-append}
use Rattle.std.proofs.lemmas.List.Sums.{sum_by-append, sum_by-cons}
use Rattle.script_blocks.specs.declared.blocks.Blocks.{Blocks}
use Rattle.script_blocks.specs.declared.blocks.BlockPart.{BlockPart}
use Rattle.script_blocks.specs.declared.blocks.BlockPart.TheViews.{Repeat}
use Rattle.script_blocks.specs.declared.blocks.BlockPart.TheVariants.{Item}
use Rattle.script_blocks.specs.Nesting.{are_proper, is_body, is_proper, is_proper_part}
use Rattle.script_blocks.specs.Nodes.{node_count, part_nodes, parts_nodes}
use Rattle.script_blocks.proofs.Depths.{body_parts}
use Rattle.script_blocks.proofs.Expansions.{nodes_item, nodes_repeat, proper_repeat}
use Rattle.repeat_sequencer.specs.declared.sequencer.Instruction.{Instruction}
use Rattle.repeat_sequencer.specs.declared.sequencer.RepeatEnd.{RepeatEnd}
use Rattle.repeat_sequencer.specs.Instructions.{Code, part_code, parts_code, sequencer_of}
use Rattle.repeat_sequencer.specs.Size.{end_count, item_count, part_items}
use Rattle.repeat_sequencer.proofs.Inductions.{each_list}
use Rattle.repeat_sequencer.proofs.Codes.{code_item, code_item_at, code_repeat, code_repeat_at, in_order_last, in_order_next}
use Rattle.repeat_sequencer.proofs.Codes.{in_order_none, items_item, items_repeat}

abbrev IsLong : {T : Type 0} → BlockPart T → Type 0
IsLong part = (level first : ℕ) (ends : List RepeatEnd) → length (part_code part level first ends) ≡ part_items part

abbrev AreLong : {T : Type 0} → List (BlockPart T) → Type 0
AreLong parts = (level first : ℕ) (ends : List RepeatEnd) → length (parts_code parts level first ends) ≡ sum_by part_items parts

item_long : {T : Type 0} (x : T) → IsLong (Item x)
item_long {T} x level first ends =
    ap (λ (c : Code T). length (c level first ends)) (code_item x) ∙ sym (items_item x)

repeat_long : {T : Type 0} (count : ℕ) (body : Blocks T) → AreLong body.parts → IsLong (Repeat count body)
repeat_long {T} count body inner level first ends =
    let end : RepeatEnd = record { level = level; first = first; count = count } in
    ap (λ (c : Code T). length (c level first ends)) (code_repeat count body)
    ∙ inner (level + 1) first (end ∷ ends) ∙ sym (items_repeat count body)

list_long : {T : Type 0} (es : List ((part : BlockPart T) × IsLong part)) → AreLong (map (λ e. e.0) es)
list_long [] level first ends = ap length (in_order_none level first ends)
list_long (e ∷ []) level first ends =
    let here = e.1 level first ends in
    let all = ap length (in_order_last level first ends (part_code e.0)) in
    omega (arith, here, all)
list_long {T} (e ∷ (f ∷ es)) level first ends =
    let code : List (Instruction T) = part_code e.0 level first [] in
    let others : List (BlockPart T) = map (λ q. q.0) (f ∷ es) in
    let behind : List (Instruction T) = parts_code others level (first + length code) ends in
    let here : length code ≡ part_items e.0 = e.1 level first [] in
    let later : length behind ≡ sum_by part_items others = list_long (f ∷ es) level (first + length code) ends in
    let sum : length (code ++ behind) ≡ part_items e.0 + sum_by part_items others =
    omega (arith, here, later, length-append code behind) in
    ap length (in_order_next level first ends (part_code e.0) (part_code f.0) (map part_code (map (λ q. q.0) es))) ∙ sum
    ∙ sym (sum_by-cons part_items e.0 others)

pub all_long : {T : Type 0} (parts : List (BlockPart T)) → AreLong parts
all_long {T} parts = each_list {T = T} IsLong AreLong item_long repeat_long list_long parts

pub as_many : {T : Type 0} (blocks : Blocks T) → length (sequencer_of blocks).instructions ≡ item_count blocks
as_many blocks = all_long blocks.parts 0 0 []

-- no more than nodes
abbrev IsFew : {T : Type 0} → BlockPart T → Type 0
IsFew part = part_items part ≤ part_nodes part

abbrev AreFew : {T : Type 0} → List (BlockPart T) → Type 0
AreFew parts = sum_by part_items parts ≤ parts_nodes parts

item_few : {T : Type 0} (x : T) → IsFew (Item x)
item_few x = omega (arith, items_item x, nodes_item x)

repeat_few : {T : Type 0} (count : ℕ) (body : Blocks T) → AreFew body.parts → IsFew (Repeat count body)
repeat_few count body inner = omega (arith, items_repeat count body, nodes_repeat count body)

list_few : {T : Type 0} (es : List ((part : BlockPart T) × IsFew part)) → AreFew (map (λ e. e.0) es)
list_few [] = omega arith
list_few {T} (e ∷ es) =
    let others : List (BlockPart T) = map (λ q. q.0) es in
    let here : part_items e.0 ≤ part_nodes e.0 = e.1 in
    let later : sum_by part_items others ≤ parts_nodes others = list_few es in
    let sum : part_items e.0 + sum_by part_items others ≤ part_nodes e.0 + parts_nodes others = omega arith in
    subst (λ n. n ≤ parts_nodes (e.0 ∷ others)) (sym (sum_by-cons part_items e.0 others))
    (subst (λ n. part_items e.0 + sum_by part_items others ≤ n) (sym (sum_by-cons part_nodes e.0 others)) sum)

pub all_few : {T : Type 0} (blocks : Blocks T) → item_count blocks ≤ node_count blocks
all_few {T} blocks = each_list {T = T} IsFew AreFew item_few repeat_few list_few blocks.parts

-- items and ends together
abbrev ends_in : {T : Type 0} → List (Instruction T) → ℕ
ends_in {T} code = sum_by (λ (i : Instruction T). length i.ends) code

abbrev IsWhole : {T : Type 0} → BlockPart T → Type 0
IsWhole part =
    is_proper_part part ≡ true → (level first : ℕ) (ends : List RepeatEnd)
    → part_items part + ends_in (part_code part level first ends) ≡ part_nodes part + length ends

abbrev AreWhole : {T : Type 0} → List (BlockPart T) → Type 0
AreWhole parts =
    are_proper parts ≡ true → 0 < length parts → (level first : ℕ) (ends : List RepeatEnd)
    → sum_by part_items parts + ends_in (parts_code parts level first ends) ≡ parts_nodes parts + length ends

item_whole : {T : Type 0} (x : T) → IsWhole (Item x)
item_whole {T} x proper level first ends =
    let code : ends_in (part_code (Item x) level first ends) ≡ 0 + length ends =
    ap (ends_in {T = T}) (code_item_at level first ends x) in
    omega (arith, items_item x, nodes_item x, code)

repeat_whole : {T : Type 0} (count : ℕ) (body : Blocks T) → AreWhole body.parts → IsWhole (Repeat count body)
repeat_whole {T} count body inner proper level first ends =
    let checks =
    and_parts (nat_le 2 count) (is_body (map is_proper_part body.parts)) (sym (proper_repeat count body) ∙ proper) in
    let parts = body_parts body.parts checks.1 in
    let end : RepeatEnd = record { level = level; first = first; count = count } in
    let code : ends_in (part_code (Repeat count body) level first ends)
    ≡ ends_in (parts_code body.parts (level + 1) first (end ∷ ends)) =
    ap (ends_in {T = T}) (code_repeat_at level first ends count body) in
    let within : sum_by part_items body.parts + ends_in (parts_code body.parts (level + 1) first (end ∷ ends))
    ≡ parts_nodes body.parts + length (end ∷ ends) =
    inner parts.1 parts.0 (level + 1) first (end ∷ ends) in
    omega (arith, items_repeat count body, nodes_repeat count body, code, within)

both_whole : (items nodes ends one others own more here behind outer : ℕ) → items ≡ one + others → nodes ≡ own + more
    → ends ≡ here + behind → one + here ≡ own + 0 → others + behind ≡ more + outer → items + ends ≡ nodes + outer
both_whole items nodes ends one others own more here behind outer p q r s t = omega (arith, p, q, r, s, t)

list_whole : {T : Type 0} (es : List ((part : BlockPart T) × IsWhole part)) → AreWhole (map (λ e. e.0) es)
list_whole [] proper some level first ends = absurd (omega arith)
list_whole {T} (e ∷ []) proper some level first ends =
    let here = e.1 (and_parts (is_proper_part e.0) true proper).0 level first ends in
    let code : ends_in (parts_code (e.0 ∷ []) level first ends) ≡ ends_in (part_code e.0 level first ends) =
    ap (ends_in {T = T}) (in_order_last level first ends (part_code e.0)) in
    omega (arith, here, code)
list_whole {T} (e ∷ (f ∷ es)) proper some level first ends =
    let others : List (BlockPart T) = map (λ q. q.0) (f ∷ es) in
    let checks = and_parts (is_proper_part e.0) (are_proper others) proper in
    let code : List (Instruction T) = part_code e.0 level first [] in
    let behind : List (Instruction T) = parts_code others level (first + length code) ends in
    let all : ends_in (parts_code (e.0 ∷ others) level first ends) ≡ ends_in code + ends_in behind =
    ap (ends_in {T = T})
    (in_order_next level first ends (part_code e.0) (part_code f.0) (map part_code (map (λ q. q.0) es)))
    ∙ sum_by-append (λ (i : Instruction T). length i.ends) code behind in
    both_whole (sum_by part_items (e.0 ∷ others)) (parts_nodes (e.0 ∷ others))
    (ends_in (parts_code (e.0 ∷ others) level first ends)) (part_items e.0) (sum_by part_items others) (part_nodes e.0)
    (parts_nodes others) (ends_in code) (ends_in behind) (length ends) (sum_by-cons part_items e.0 others)
    (sum_by-cons part_nodes e.0 others) all (e.1 checks.0 level first [])
    (list_whole (f ∷ es) checks.1 (omega arith) level (first + length code) ends)

all_whole : {T : Type 0} (parts : List (BlockPart T)) → AreWhole parts
all_whole {T} parts = each_list {T = T} IsWhole AreWhole item_whole repeat_whole list_whole parts

-- at the beginning no end is given
nodes_of : {T : Type 0} (parts : List (BlockPart T)) → are_proper parts ≡ true
    → sum_by part_items parts + ends_in (parts_code parts 0 0 []) ≡ parts_nodes parts
nodes_of {T} [] proper =
    let none : ends_in (parts_code {T = T} [] 0 0 []) ≡ 0 = ap (ends_in {T = T}) (in_order_none {T = T} 0 0 []) in
    omega (arith, none)
nodes_of (p ∷ ps) proper =
    all_whole (p ∷ ps) proper (omega arith) 0 0 []
    ∙ (let same : parts_nodes (p ∷ ps) + 0 ≡ parts_nodes (p ∷ ps) = omega arith in same)

pub as_nodes : {T : Type 0} (blocks : Blocks T) → is_proper blocks ≡ true
    → item_count blocks + end_count (sequencer_of blocks) ≡ node_count blocks
as_nodes blocks proper = nodes_of blocks.parts proper
