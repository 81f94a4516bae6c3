-- Each reference of a nest's network names the last writer of what it reads, or nothing where there is none.
--
-- A fire of the script is that of a point (Fires), its reference at a read is that of the point's use there, and the
-- latest Get of the slot that it names is that of its token (SlotTokens). The token of that number is the tag of the
-- turn that the use counts (Tokens), and that turn is the source, which is defined as the last writer's tag. Where a
-- read has no source its reference is Zero. So the law is about the definition of the network, whatever its capacities
-- and whatever order it runs in.
use Rattle.std.proofs.Common.{◌≡◌, ℕ, ◌+◌, ◌<◌, Option, Some, None, List, length, map, take, slice_get, get_or, refl}
use Rattle.std.proofs.Common.{sym, ap, ◌∙◌, arith}
use Rattle.std.specs.Prelude.{slice_index}
use Rattle.std.specs.List.{range_with_len}
use Rattle.std.specs.Option.{option_and_then, option_map}
use Rattle.std.proofs.lemmas.List.{length-map}
use Rattle.std.proofs.lemmas.List.FromFn.{length-map-range_with_len}
use Rattle.std.proofs.lemmas.Option.{get_or_from_slice_get, same_Some, slice_get-map, slice_get_within}
use Rattle.channel_plan.specs.Plans.{plans_of, sources_at, turn_count}
use Rattle.channel_plan.specs.Tokens.{tokens_below, turns_used, uses_of}
use Rattle.net_core.specs.declared.refs.Ref.{Ref}
use Rattle.net_core.specs.Machine.{net_of}
use Rattle.net_core.specs.Names.{latest_gets, name_at, name_in, token_at, tokens}
use Rattle.net_core.specs.Sound.{NamesLastWriters, name_of_source, source_tag}
use Rattle.process_derive.specs.Derived.{net}
use Rattle.process_derive.specs.Scripts.{Usage, ref_of, slot_base, usage}
use Rattle.reorder_slots.specs.Slots.{slots_of_uses}
use Rattle.sanlp.specs.Access.{read_count}
use Rattle.sanlp.specs.declared.nest.Nest.{Nest}
use Rattle.sanlp.specs.declared.nest.Tag.{Tag}
use Rattle.sanlp.specs.Laws.{entries_of}
use Rattle.sanlp.specs.Tags.{tag_at}
use Rattle.sanlp.specs.Trace.{trace}
use Rattle.sanlp.specs.Writers.{last_writer}
use Rattle.sanlp.proofs.Lists.{slice_get-map-range_with_len}
use Rattle.source_tree.specs.Sources.{source_at}
use Rattle.derived_names.proofs.Fires.{fire_is}
use Rattle.derived_names.proofs.SlotTokens.{finds_token}
use Rattle.derived_names.proofs.Gets.{before_fire, point_refs}
use Rattle.derived_names.proofs.UsesOfFires.{no_use, turns_read, use_here}
use Rattle.derived_names.proofs.UsesOfReads.{channel_of_source, token_of_source, use_there}
use Rattle.plain_data.proofs.Lists.{slice_get-some}

-- the source of a fire's read is the tag of its last writer
pub source_is_tag : (n : Nest) (p f k : ℕ) → f < turn_count n p
    → slice_get (sources_at n p k) f ≡ Some (source_tag n p f k)
source_is_tag n p f k lt =
    let entry = slice_get-some (entries_of (trace n) p) f lt in
    slice_get-map (source_at n (trace n) k) (entries_of (trace n) p) f
    ∙ ap (option_map (source_at n (trace n) k)) entry.1
    ∙ sym (ap (λ o. Some (option_and_then (tag_at (trace n)) (option_and_then (λ t. last_writer n t k) o))) entry.1)

-- the token of a fire's use is numbered by its source
pub token_is : (n : Nest) (p k w f : ℕ) (t : Tag) → slice_get (sources_at n p k) f ≡ Some (Some t) → t.process ≡ w
    → get_or (uses_of (turns_read n p k w)) (length (turns_used w (take f (sources_at n p k)))) 0
    ≡ tokens_below (turns_read n p k w) t.turn
token_is n p k w f t e own =
    get_or_from_slice_get (uses_of (turns_read n p k w)) (length (turns_used w (take f (sources_at n p k))))
    (tokens_below (turns_read n p k w) t.turn) 0 (use_there w (sources_at n p k) f t e own)

reference_names : (n : Nest) (p f k : ℕ) → p < length n.statements → f < turn_count n p → k < read_count n p
    → (source : Option Tag) → slice_get (sources_at n p k) f ≡ Some source
    → name_at (net_of (net n)) p (length (before_fire n p f)) (ref_of (usage n p f k)) ≡ name_of_source source
reference_names n p f k process fire read None e =
    ap (λ (u : Option Usage). name_at (net_of (net n)) p (length (before_fire n p f)) (ref_of u)) (no_use n p k f e)
reference_names n p f k process fire read (Some t) e =
    let w : ℕ = t.process in
    let network = net_of (net n) in
    let at : ℕ = length (before_fire n p f) in
    let found = channel_of_source n p k f t process read e in
    let c : ℕ = found.0 in
    let used : List ℕ = turns_read n p k w in
    let number : ℕ = length (turns_used w (take f (sources_at n p k))) in
    let slot : ℕ = slot_base (plans_of n) p c + slice_index (slots_of_uses (uses_of used)) number in
    ap (λ (u : Option Usage). name_at network p at (ref_of u)) (use_here n p k w c f t found.2 e refl)
    ∙ ap name_in (slice_get-map (option_and_then (token_at network)) (latest_gets network p at) slot
    ∙ ap (option_map (option_and_then (token_at network))) (finds_token n p k w c found.2 f fire t e refl)
    ∙ ap (λ m. Some (slice_get (tokens network c) m)) (token_is n p k w f t e refl)
    ∙ ap Some (token_of_source n p k f c t e found.2))

reference_at : (n : Nest) (p f k : ℕ) (r : Ref) → slice_get (point_refs n p f) k ≡ Some r
    → (k < read_count n p) × (r ≡ ref_of (usage n p f k))
reference_at n p f k r e =
    let numbers : List ℕ = range_with_len 0 (read_count n p) in
    let usages : List (Option Usage) = map (usage n p f) numbers in
    let front : 0 + k ≡ k = omega arith in
    let within : k < read_count n p =
    omega (
      arith,
      slice_get_within (map ref_of usages) k r e,
      length-map usages ref_of,
      length-map-range_with_len (usage n p f) 0 (read_count n p),
    ) in
    let here : slice_get (map ref_of usages) k ≡ Some (ref_of (usage n p f k)) =
    slice_get-map ref_of usages k
    ∙ ap (option_map ref_of) (slice_get-map-range_with_len (usage n p f) 0 (read_count n p) k k within front) in
    (within, same_Some r (ref_of (usage n p f k)) (sym e ∙ here))

pub names_last_writers : (n : Nest) → NamesLastWriters n (net_of (net n))
names_last_writers n p k refs e read r at =
    let network = net_of (net n) in
    let is = fire_is n p k refs e in
    let f : ℕ = is.point in
    let reference = reference_at n p f read r (ap (λ rs. slice_get rs read) (sym is.references) ∙ at) in
    ap (name_at network p k) reference.1
    ∙ ap (λ i. name_at network p i (ref_of (usage n p f read))) is.place
    ∙ reference_names n p f read is.process is.fire reference.0 (source_tag n p f read)
    (source_is_tag n p f read is.fire)
    ∙ ap (λ g. name_of_source (source_tag n p g read)) (sym is.turn)
