-- A fire is judged by the slots of the state and the table of sources.
--
-- The definition finds what a reference names by places in the scripts; the code has a state of the
-- machine and a table. In a state whose places hold what they name (`IsNamed`) the slots of a process
-- are the names at its position, and it has kept one value for each fire, which tells the turn. The
-- exact table has the tag of the last writer for each read and turn (`source_found`). So each reference
-- is tested for the same name and source, and the first that is refused is the same. It rests on the
-- network's fitting the nest: a fire has a point left, and as many references as reads.
use Rattle.std.proofs.Common.{◌≡◌, ℕ, zero, suc, ◌+◌, ◌<◌, ◌≤◌, ℤ, true, false, Option, Some, None, List, length, take}
use Rattle.std.proofs.Common.{slice_get, refl, sym, ap, ap₂, ◌∙◌, inl, inr, arith}
use Rattle.std.specs.List.{sum_by}
use Rattle.std.specs.Prelude.{if◌then◌else◌}
use Rattle.std.specs.Option.{option_or, option_and_then}
use Rattle.sanlp.specs.Access.{read_count}
use Rattle.sanlp.specs.declared.nest.Nest.{Nest}
use Rattle.sanlp.specs.declared.nest.Tag.{Tag}
use Rattle.sanlp.specs.Laws.{entries_of}
use Rattle.sanlp.specs.Points.{points_of}
use Rattle.sanlp.specs.Tags.{tag_at}
use Rattle.sanlp.specs.Trace.{trace}
use Rattle.sanlp.specs.Writers.{last_writer}
use Rattle.source_tree.specs.Sources.{sources_of}
use Rattle.source_tree.proofs.TableNumbers.{gives_last_writers}
use Rattle.net_core.specs.declared.network.Event.TheVariants.{Fire}
use Rattle.net_core.specs.declared.network.Network.{Network}
use Rattle.net_core.specs.declared.refs.Ref.{Ref}
use Rattle.net_core.specs.Cuts.{positions, IsCounted}
use Rattle.net_core.specs.Machine.{State, net_of, next, enabled}
use Rattle.net_core.specs.Names.{name_of, slot_names, IsNamed}
use Rattle.net_core.specs.Shape.{fires, turns}
use Rattle.net_core.specs.Sound.{source_tag, FitsNest}
use Rattle.net_core.proofs.FireValues.{entry_count}
use Rattle.net_checker.specs.declared.verdict.Refusal.{Refusal}
use Rattle.net_checker.specs.Choice.{first_from, first_below}
use Rattle.net_checker.specs.Entries.{entry_refusal, is_wanted, name_refusal, reference_refusal, seen_of, wanted_of}
use Rattle.net_checker.specs.declared.verdict.Refusal.TheVariants as refusal
use Rattle.net_core.specs.Names.{Name}
use Rattle.net_checker.specs.Lookups.{source_in, refused_reference}
use Rattle.std.proofs.lemmas.Bool.{cases_lt}
use Rattle.std.proofs.lemmas.Option.{slice_get_within}
use Rattle.net_checker.proofs.Choices.{first_found, first_none, none_first}
use Rattle.net_checker.proofs.FitsShape.{turn_left}
use Rattle.sanlp.proofs.NestFacts.{few_read_count, points_length}
use Rattle.net_checker.proofs.Walk.{entry_event}
use Rattle.plain_data.proofs.Lists.{slice_get-some}
use Rattle.plain_data.proofs.Options.{map-option_map_same}

-- functions that agree give the same first
from_same : {A : Type 0} (f g : ℕ → Option A) (many k : ℕ) → ((i : ℕ) → i < k + many → f i ≡ g i)
    → first_from f k many ≡ first_from g k many
from_same f g zero k same = refl
from_same f g (suc many) k same =
    ap₂ option_or (same k (omega arith)) (from_same f g many (suc k) (λ i lt. same i (omega arith)))

first_same : {A : Type 0} (f g : ℕ → Option A) (many : ℕ) → ((i : ℕ) → i < many → f i ≡ g i)
    → first_below f many ≡ first_below g many
unfolding first_below
first_same f g many same = from_same f g many 0 (λ i lt. same i (omega arith))

-- the table has the source of each read at each turn
source_found : (n : Nest) (p f j : ℕ) → j < read_count n p → f < turns (points_of n) p
    → source_in (sources_of n) (sum_by (λ s. length s.reads) (take p n.statements) + j) f ≡ source_tag n p f j
source_found n p f j low turn =
    let entry = slice_get-some (entries_of (trace n) p) f (omega (arith, entry_count n p)) in
    let t = entry.0 in
    ap (option_and_then (λ (source : Option Tag). source)) (gives_last_writers n p j f t low entry.1)
    ∙ sym (ap (λ o. option_and_then (tag_at (trace n)) (option_and_then (λ u. last_writer n u j) o)) entry.1)

module _ (n : Nest) (network : Network) (fits : FitsNest n network) (s : State Tag)
    (counted : IsCounted (net_of network) s) (named : IsNamed (net_of network) (λ t. t) s) where
  -- an enabled fire
  pub fire_judged : (points : List (List (List ℤ))) (table : List (List (Option Tag))) (p i turn read : ℕ)
      (slots : List (Option Tag)) (refs : List Ref)
      → points ≡ points_of n → table ≡ sources_of n → slots ≡ (s.local p).slots → turn ≡ length (s.local p).kept
      → read ≡ sum_by (λ s. length s.reads) (take p n.statements)
      → enabled (net_of network) s p ≡ true → next (net_of network) s p ≡ Some (Fire refs)
      → first_below (λ j. refused_reference points table read turn slots i j (slice_get refs j)) (length refs)
      ≡ entry_refusal n (net_of network) (positions s) i p
  fire_judged points table p i turn read slots refs points_is table_is slots_is turn_is read_is on is =
      first_same (λ j. refused_reference points table read turn slots i j (slice_get refs j))
      (λ j. reference_refusal n (net_of network) i p (positions s p) j (slice_get refs j)) (length refs)
      (λ j lt. same j lt (slice_get refs j))
      ∙ sym (entry_event n (net_of network) s counted p i (Fire refs) on is)
    where
      same : (j : ℕ) → j < length refs → (o : Option Ref)
          → refused_reference points table read turn slots i j o
          ≡ reference_refusal n (net_of network) i p (positions s p) j o
      same j lt None = refl
      same j lt (Some r) =
          let net = net_of network in
          let k = positions s p in
          let slots_same : slots ≡ slot_names net p k =
          slots_is ∙ (named.locals p).slots ∙ map-option_map_same (slot_names net p k) in
          let turn_same : turn ≡ fires net p k = turn_is ∙ counted.kept p in
          let source : source_in table (read + j) turn ≡ source_tag n p (fires net p k) j =
          (λ z. source_in (table_is z) (read_is z + j) (turn_same z))
          ∙ source_found n p (fires net p k) j (omega (arith, fits.references p k refs is))
          (turn_left n network fits p k refs is) in
          λ z. name_refusal (points_is z) i (name_of (slots_same z) r) (source z)

-- The references of one fire

abbrev at_reference : List (List (List ℤ)) → List (List (Option Tag)) → ℕ → ℕ → List (Option Tag) → ℕ → List Ref → ℕ
    → Option Refusal
at_reference points table read turn slots i refs j =
    refused_reference points table read turn slots i j (slice_get refs j)

pub reference_judged : (points : List (List (List ℤ))) (table : List (List (Option Tag))) (read turn : ℕ)
    (slots : List (Option Tag)) (i : ℕ) (refs : List Ref) (j : ℕ) (r : Ref) → slice_get refs j ≡ Some r
    → name_refusal points i (name_of slots r) (source_in table (read + j) turn)
    ≡ refused_reference points table read turn slots i j (slice_get refs j)
reference_judged points table read turn slots i refs j r is =
    ap (refused_reference points table read turn slots i j) (sym is)

-- a reference that names what its read wants isn't refused
pub reference_wanted : (points : List (List (List ℤ))) (i : ℕ) (name : Name) (source : Option Tag)
    → is_wanted name source ≡ true → name_refusal points i name source ≡ None
reference_wanted points i name source is =
    ap (λ b. if b then None else Some (refusal.Tag i (seen_of points name) (wanted_of points source))) is

pub reference_found : (points : List (List (List ℤ))) (table : List (List (Option Tag))) (read turn : ℕ)
    (slots : List (Option Tag)) (i : ℕ) (refs : List Ref) (j : ℕ) (r : Ref) (x : Refusal) → slice_get refs j ≡ Some r
    → ((k : ℕ) → k < j → refused_reference points table read turn slots i k (slice_get refs k) ≡ None)
    → name_refusal points i (name_of slots r) (source_in table (read + j) turn) ≡ Some x
    → Some x ≡ first_below (λ k. refused_reference points table read turn slots i k (slice_get refs k)) (length refs)
reference_found points table read turn slots i refs j r x is before wrong =
    sym (first_found (at_reference points table read turn slots i refs) (length refs) j x before
    (slice_get_within refs j r is) (sym (reference_judged points table read turn slots i refs j r is) ∙ wrong))

-- one that doesn't is refused, and so the fire
pub reference_refused : (points : List (List (List ℤ))) (table : List (List (Option Tag))) (read turn : ℕ)
    (slots : List (Option Tag)) (i : ℕ) (refs : List Ref) (j : ℕ) (r : Ref) → slice_get refs j ≡ Some r
    → is_wanted (name_of slots r) (source_in table (read + j) turn) ≡ false
    → first_below (λ k. refused_reference points table read turn slots i k (slice_get refs k)) (length refs) ≡ None → ⊥
reference_refused points table read turn slots i refs j r is wrong none =
    let source = source_in table (read + j) turn in
    let here : Some (refusal.Tag i (seen_of points (name_of slots r)) (wanted_of points source)) ≡ None =
    sym (ap (λ b. if b then None
    else Some (refusal.Tag i (seen_of points (name_of slots r)) (wanted_of points source))) wrong)
    ∙ reference_judged points table read turn slots i refs j r is
    ∙ none_first (at_reference points table read turn slots i refs) (length refs) none j
    (slice_get_within refs j r is) in
    cc

pub references_fine : (points : List (List (List ℤ))) (table : List (List (Option Tag))) (read turn : ℕ)
    (slots : List (Option Tag)) (i : ℕ) (refs : List Ref)
    → ((k : ℕ) → k < length refs → refused_reference points table read turn slots i k (slice_get refs k) ≡ None)
    → None ≡ first_below (λ k. refused_reference points table read turn slots i k (slice_get refs k)) (length refs)
references_fine points table read turn slots i refs each =
    sym (first_none (at_reference points table read turn slots i refs) (length refs) each)

-- an enabled process is a statement
pub enabled_there : (n : Nest) (network : Network) (s : State Tag) (p : ℕ) (refs : List Ref) → FitsNest n network
    → next (net_of network) s p ≡ Some (Fire refs) → p < length n.statements
enabled_there n network s p refs fits is =
    let net = net_of network in
    elim (cases_lt p (length n.statements)) [
      | inl lt ↦ lt
      | inr past ↦
          let lt = slice_get_within (net.script p) (positions s p) (Fire refs) is in
          absurd (omega
          (arith, ap length (fits.shaped.wired.bounded p (omega (arith, fits.shaped.processes, points_length n)))))
    ]

-- a fire has few references
pub few_references : (n : Nest) (network : Network) (s : State Tag) (p : ℕ) (refs : List Ref) → FitsNest n network
    → next (net_of network) s p ≡ Some (Fire refs) → length refs ≤ 8
few_references n network s p refs fits is =
    omega (arith, fits.references p (positions s p) refs is, few_read_count n p)
