-- Proper blocks keep no more items than they stand for.
--
-- By induction over parts and lists of parts. An item stands for itself. A proper repeat has at least two turns, each of which
-- stands for all that its body does, and it keeps the items of its body once: so what holds of the body holds of it. Of a list
-- both are the sums over its parts. A repeat without a turn stands for nothing and keeps its body's items all the same, so
-- nothing is said of blocks that aren't proper.
use Rattle.std.proofs.Common.{◌≡◌, ◌+◌, ◌*◌, ◌≤◌, ℕ, true, List, [], ◌∷◌, map, length, sym, ap, ◌∙◌, arith}
use Rattle.std.specs.Prelude.{nat_le}
use Rattle.std.specs.List.{sum_by}
use Rattle.std.proofs.lemmas.Bool.{and_parts, leb-true}
use Rattle.std.proofs.lemmas.Nat.{mul-le}
use Rattle.std.proofs.lemmas.List.{length-append}
use Rattle.std.proofs.lemmas.List.Sums.{sum_by-cons}
use Rattle.script_blocks.specs.declared.blocks.Blocks.{Blocks}
use Rattle.script_blocks.specs.declared.blocks.BlockPart.{BlockPart}
use Rattle.script_blocks.specs.declared.blocks.BlockPart.TheViews.{Repeat}
use Rattle.script_blocks.specs.declared.blocks.BlockPart.TheVariants.{Item}
use Rattle.script_blocks.specs.Expansion.{expansion, part_expansion, parts_expansion}
use Rattle.script_blocks.specs.Nesting.{are_proper, is_body, is_proper, is_proper_part}
use Rattle.script_blocks.proofs.Depths.{body_parts}
use Rattle.script_blocks.proofs.Expansions.{expansion_item, expansion_repeat, proper_repeat}
use Rattle.script_blocks.proofs.Repetitions.{length-repeated}
use Rattle.repeat_sequencer.specs.Size.{item_count, part_items}
use Rattle.repeat_sequencer.proofs.Codes.{items_item, items_repeat}
use Rattle.repeat_sequencer.proofs.Inductions.{each_list}

abbrev StandsForMore : {T : Type 0} → BlockPart T → Type 0
StandsForMore part = is_proper_part part ≡ true → part_items part ≤ length (part_expansion part)

abbrev StandForMore : {T : Type 0} → List (BlockPart T) → Type 0
StandForMore parts = are_proper parts ≡ true → sum_by part_items parts ≤ length (parts_expansion parts)

item_more : {T : Type 0} (x : T) → StandsForMore (Item x)
item_more x proper = omega (arith, items_item x, ap length (expansion_item x))

repeat_more : {T : Type 0} (count : ℕ) (body : Blocks T) → StandForMore body.parts → StandsForMore (Repeat count body)
repeat_more count body inner proper =
    let checks =
    and_parts (nat_le 2 count) (is_body (map is_proper_part body.parts)) (sym (proper_repeat count body) ∙ proper) in
    let parts = body_parts body.parts checks.1 in
    let size : ℕ = length (parts_expansion body.parts) in
    let product : 2 * size ≤ count * size = mul-le 2 size count size (leb-true 2 count checks.0) (omega arith) in
    let long : length (part_expansion (Repeat count body)) ≡ count * size =
    ap length (expansion_repeat count body) ∙ length-repeated count (parts_expansion body.parts) in
    let within : sum_by part_items body.parts ≤ size = inner parts.1 in
    omega (arith, items_repeat count body, product, long, within)

list_more : {T : Type 0} (es : List ((part : BlockPart T) × StandsForMore part)) → StandForMore (map (λ e. e.0) es)
list_more [] proper = omega arith
list_more {T} (e ∷ es) proper =
    let others : List (BlockPart T) = map (λ q. q.0) es in
    let checks = and_parts (is_proper_part e.0) (are_proper others) proper in
    let here : part_items e.0 ≤ length (part_expansion e.0) = e.1 checks.0 in
    let later : sum_by part_items others ≤ length (parts_expansion others) = list_more es checks.1 in
    let sum : sum_by part_items (e.0 ∷ others) ≡ part_items e.0 + sum_by part_items others =
    sum_by-cons part_items e.0 others in
    let all : length (parts_expansion (e.0 ∷ others)) ≡ length (part_expansion e.0) + length (parts_expansion others) =
    length-append (part_expansion e.0) (parts_expansion others) in
    omega (arith, here, later, sum, all)

pub all_more : {T : Type 0} (blocks : Blocks T) → is_proper blocks ≡ true
    → item_count blocks ≤ length (expansion blocks)
all_more {T} blocks proper =
    each_list {T = T} StandsForMore StandForMore item_more repeat_more list_more blocks.parts proper
