-- The counts while the reads of a point are passed. Before read i of fire f, the counts of the reads below i
-- stand behind that fire, and those of the others before it. It is inductive since passing a read changes its own
-- counts alone, by the process of its source. That counts of reads past the last are missing is no part of it.
use Rattle.std.proofs.Common.{◌≡◌, ◌<◌, ◌≤◌, ◌+◌, ℕ, List, [], ◌∷◌, ◌++◌, map, length, take, get_or, set, refl}
use Rattle.std.proofs.Common.{sym, ap, ◌∙◌, inl, inr, arith, subst, append_assoc}
use Rattle.std.specs.Prelude.{None, Option, Some, replicate, slice_get, slice_index_or}
use Rattle.std.specs.List.{flat_map, range_with_len}
use Rattle.std.specs.Option.{option_and_then}
use Rattle.std.proofs.lemmas.Bool.{cases_eq}
use Rattle.std.proofs.lemmas.Grind.{get_or-set_at}
use Rattle.std.proofs.lemmas.List.{get_or-replicate, get_or-set_other, length-replicate, length-set, take_all}
use Rattle.std.proofs.lemmas.List.FromFn.{length-map-range_with_len}
use Rattle.std.proofs.lemmas.Option.{slice_get-get_or}
use Rattle.channel_plan.specs.declared.plans.ChannelPlan.{ChannelPlan}
use Rattle.net_core.specs.declared.network.Event.{Event}
use Rattle.net_core.specs.declared.network.Event.TheVariants.{Fire}
use Rattle.net_core.specs.declared.refs.Ref.{Ref}
use Rattle.sanlp.specs.declared.nest.Tag.{Tag}
use Rattle.sanlp.proofs.Lists.{slice_get-map-range_with_len}
use Rattle.process_derive.specs.declared.incoming.Incoming.{Incoming}
use Rattle.process_derive.specs.declared.uses.ChannelUse.{ChannelUse}
use Rattle.process_derive.specs.Incoming.{puts_to}
use Rattle.process_derive.specs.Scripts.{Usage, gets_of, ref_of}
use Rattle.process_derive.specs.Uses.{CountedBefore, CountsBelow, OnlyBelow, UseFits, counted, read_uses, use_at, use_from}
use Rattle.process_derive.specs.Uses.{events_at, usages_at, uses_before, uses_by_read}
use Rattle.process_derive.proofs.Counts.{counts_few, counts_more, none_before, used_here}

-- the sources of read k
abbrev pub of_read : List (List (Option Tag)) → ℕ → List (Option Tag)
of_read sources k = slice_index_or sources k []

-- the counts of read k before fire f
abbrev pub row : List (List (Option Tag)) → ℕ → ℕ → ℕ → List ℕ
row sources processes f k = map (uses_before (of_read sources k) f) (range_with_len 0 processes)

pub record Passing (sources : List (List (Option Tag))) (processes f i : ℕ) (counts : List (List ℕ)) : Type 0 where
  pub reads : length counts ≡ length sources
  pub passed : (k : ℕ) → k < i → k < length sources → slice_index_or counts k [] ≡ row sources processes (f + 1) k
  pub left : (k : ℕ) → i ≤ k → k < length sources → slice_index_or counts k [] ≡ row sources processes f k

-- before the first fire
pub first_counts : (sources : List (List (Option Tag))) (processes : ℕ) (counts : List (List ℕ)) (m : ℕ)
    → counts ≡ replicate m (replicate processes 0) → m ≡ length sources → CountedBefore sources processes 0 counts
first_counts sources processes counts m e all = record {
  reads = ap length e ∙ length-replicate m (replicate processes 0) ∙ all;
  each = λ k there.
      ap (λ cs. get_or cs k []) e ∙ get_or-replicate m k (replicate processes 0) [] (omega arith)
      ∙ none_before (of_read sources k) processes;
}

pub passing_first : (sources : List (List (Option Tag))) (processes f : ℕ) (counts : List (List ℕ))
    → CountedBefore sources processes f counts → Passing sources processes f 0 counts
passing_first sources processes f counts h = record {
  reads = h.reads;
  passed = λ k below there. absurd (omega arith);
  left = λ k from there. h.each k there;
}

pub passing_last : (sources : List (List (Option Tag))) (processes f i : ℕ) (counts : List (List ℕ))
    → Passing sources processes f i counts → length sources ≤ i → CountedBefore sources processes (f + 1) counts
passing_last sources processes f i counts h all = record {
  reads = h.reads;
  each = λ k there. h.passed k (omega arith) there;
}

-- one read more
pub passing_more : (sources : List (List (Option Tag))) (processes f i : ℕ) (source : Option Tag)
    (before after : List (List ℕ)) → Passing sources processes f i before → i < length sources
    → slice_get (of_read sources i) f ≡ Some source → OnlyBelow processes source
    → after ≡ set before i (counted (get_or before i []) source) → Passing sources processes f (i + 1) after
passing_more sources processes f i source before after h here e below is =
    let next : List ℕ = counted (get_or before i []) source in
    let own : get_or after i [] ≡ row sources processes (f + 1) i =
    ap (λ xs. get_or xs i []) is ∙ get_or-set_at before i i next [] refl (omega (arith, h.reads))
    ∙ counts_more (of_read sources i) f processes source (get_or before i []) e below
    (h.left i (omega arith) here) in
    let other : (k : ℕ) → (k ≡ i → ⊥) → get_or after k [] ≡ get_or before k [] = λ k ne.
    ap (λ xs. get_or xs k []) is ∙ get_or-set_other before i k next [] ne in
    record {
      reads = ap length is ∙ length-set before i next ∙ h.reads;
      passed = λ k below there. elim (cases_eq k i) [
        | inl same ↦ subst (λ j. get_or after j [] ≡ row sources processes (f + 1) j) (sym same) own
        | inr ne ↦ other k ne ∙ h.passed k (omega (arith, ne)) there
      ];
      left = λ k from there. other k (λ same. omega (arith, same)) ∙ h.left k (omega arith) there;
    }

-- the source of this read
pub source_here : (sources : List (List (Option Tag))) (processes f i : ℕ) (list : List (Option Tag))
    (source : Option Tag) → list ≡ of_read sources i → source ≡ slice_index_or list f None
    → OnlyBelow processes (slice_index_or (of_read sources i) f None) → OnlyBelow processes source
source_here sources processes f i list source same is below =
    subst (OnlyBelow processes) (sym (is ∙ ap (λ xs. get_or xs f None) same)) below

pub named_here : (sources : List (List (Option Tag))) (f i : ℕ) (list : List (Option Tag)) (source : Option Tag)
    → list ≡ of_read sources i → source ≡ slice_index_or list f None → f < length (of_read sources i)
    → slice_get (of_read sources i) f ≡ Some source
named_here sources f i list source same is there =
    slice_get-get_or (of_read sources i) f None there ∙ ap Some (sym (is ∙ ap (λ xs. get_or xs f None) same))

pub exists_here : (sources : List (List (Option Tag))) (processes f i : ℕ) (source : Option Tag)
    (counts : List (List ℕ)) → Passing sources processes f i counts → i < length sources → OnlyBelow processes source
    → OnlyBelow (length (slice_index_or counts i [])) source
exists_here sources processes f i source counts h here below =
    let many = ap length (h.left i (omega arith) here)
    ∙ length-map-range_with_len (uses_before (of_read sources i) f) 0 processes in
    subst (λ m. OnlyBelow m source) (sym many) below

pub few_here : (sources : List (List (Option Tag))) (processes f i limit : ℕ) (source : Option Tag)
    (counts : List (List ℕ)) → Passing sources processes f i counts → i < length sources → OnlyBelow processes source
    → f < limit → CountsBelow limit (slice_index_or counts i []) source
few_here sources processes f i limit source counts h here below few =
    counts_few (of_read sources i) f processes limit source (slice_index_or counts i []) below few
    (h.left i (omega arith) here)

-- what the fire uses for this read
pub found_here : (incoming : List Incoming) (sources : List (List (Option Tag))) (processes f i : ℕ)
    (source : Option Tag) (counts : List (List ℕ)) (found : Option ChannelUse)
    → Passing sources processes f i counts → i < length sources
    → slice_get (of_read sources i) f ≡ Some source → OnlyBelow processes source
    → found ≡ option_and_then (λ t. use_from incoming i t.process (get_or (get_or counts i []) t.process 0)) source
    → found ≡ use_at incoming i (of_read sources i) f
found_here incoming sources processes f i source counts found h here e below is =
    is
    ∙ used_here incoming i (of_read sources i) f processes source (get_or counts i []) e below
    (h.left i (omega arith) here)

pub uses_here : (incoming : List Incoming) (sources : List (List (Option Tag))) (i : ℕ) → i < length sources
    → slice_get (uses_by_read incoming sources) i ≡ Some (read_uses incoming i (of_read sources i))
uses_here incoming sources i here =
    slice_get-map-range_with_len (λ k. read_uses incoming k (of_read sources k)) 0 (length sources) i i here
    (omega arith)

pub use_here : (incoming : List Incoming) (list : List (Option Tag)) (i f : ℕ) (found : Option ChannelUse)
    → f < length list → found ≡ use_at incoming i list f
    → found ≡ option_and_then (λ found. found) (slice_get (read_uses incoming i list) f)
use_here incoming list i f found there is =
    is
    ∙ sym (ap (option_and_then (λ found. found))
    (slice_get-map-range_with_len (use_at incoming i list) 0 (length list) f f there (omega arith)))

pub fits_here : (plans : List ChannelPlan) (incoming : List Incoming) (list : List (Option Tag)) (i f : ℕ)
    (found : Option ChannelUse) → found ≡ use_at incoming i list f → UseFits plans (use_at incoming i list f)
    → UseFits plans found
fits_here plans incoming list i f found is fits = subst (UseFits plans) (sym is) fits

pub passed_all : (incoming : List Incoming) (sources : List (List (Option Tag))) (i : ℕ) → length sources ≤ i
    → take i (uses_by_read incoming sources) ≡ uses_by_read incoming sources
passed_all incoming sources i all =
    take_all i (uses_by_read incoming sources)
    (omega (arith, length-map-range_with_len (λ k. read_uses incoming k (of_read sources k)) 0 (length sources)))

-- the events of a point: the Gets of all reads, the Fire and the Puts
pub events_made : (plans : List ChannelPlan) (uses : List (List (Option ChannelUse))) (outgoing : List ℕ) (f : ℕ)
    (first gets fired after : List Event) (refs : List Ref)
    → gets ≡ first ++ flat_map gets_of (usages_at plans uses f) → refs ≡ map ref_of (usages_at plans uses f)
    → fired ≡ gets ++ Fire refs ∷ [] → after ≡ fired ++ puts_to plans outgoing f
    → after ≡ first ++ events_at plans uses outgoing f
events_made plans uses outgoing f first gets fired after refs e_gets e_refs e_fired e_after =
    let us : List (Option Usage) = usages_at plans uses f in
    let puts : List Event = puts_to plans outgoing f in
    e_after
    ∙ ap (λ es. es ++ puts)
    (e_fired ∙ ap (λ es. es ++ Fire refs ∷ []) e_gets ∙ ap (λ rs. (first ++ flat_map gets_of us) ++ Fire rs ∷ []) e_refs)
    ∙ append_assoc (first ++ flat_map gets_of us) (Fire (map ref_of us) ∷ []) puts
    ∙ append_assoc first (flat_map gets_of us) (Fire (map ref_of us) ∷ puts)
