-- The sources of reads are tags of entries of the trace.
--
-- A source is the tag of an entry of the trace, where the read has a last writer. The trace enumerates the domains,
-- so the entry is a point of a statement of the nest, and the tag's process exists. Its turn is the number of the
-- entries of that statement before it, and the entry itself is one more, so the process has a turn of that number
-- (`count_before`). That the entry comes before the fire that reads it isn't needed for this, and isn't shown here.
use Rattle.std.proofs.Common.{◌≡◌, ◌<◌, ◌≤◌, ◌==◌, ℕ, zero, suc, true, cond, eqb, List, [], ◌∷◌, length, take}
use Rattle.std.proofs.Common.{get_or, refl, ap, ◌∙◌, inl, inr, arith}
use Rattle.std.specs.Prelude.{Option, Some, None, slice_get, count_by}
use Rattle.std.specs.Option.{option_and_then, option_map}
use Rattle.std.proofs.lemmas.Bool.{cases_Bool, eq-eqb}
use Rattle.std.proofs.lemmas.List.{length-map}
use Rattle.std.proofs.lemmas.List.Sums.{sum_by-cons}
use Rattle.std.proofs.lemmas.Option.{same_Some, slice_get_within}
use Rattle.sanlp.specs.declared.nest.Nest.{Nest}
use Rattle.sanlp.specs.declared.nest.Point.{Point}
use Rattle.sanlp.specs.declared.nest.Tag.{Tag}
use Rattle.sanlp.specs.Laws.{entries_of}
use Rattle.sanlp.specs.Points.{vectors_of}
use Rattle.sanlp.specs.Tags.{tag_at}
use Rattle.sanlp.specs.Trace.{trace}
use Rattle.sanlp.specs.Writers.{cell_read, last_before}
use Rattle.sanlp.proofs.Each.{Each, each_map, each_of}
use Rattle.sanlp.proofs.NestFacts.{few_entries}
use Rattle.sanlp.proofs.Enumerates.{enumerates_domains}
use Rattle.net_core.proofs.Entries.{entries_length}
use Rattle.source_tree.specs.Sources.{source_at}
use Rattle.channel_plan.specs.Plans.{sources_at, turn_count}
use Rattle.process_derive.specs.Uses.{OnlyBelow}
use Rattle.process_derive.proofs.Sums.{one_if}

-- a tag's process exists, and its turn is one of the process
abbrev pub IsTurn : Nest → Option Tag → Type 0
IsTurn n None = Unit {0}
IsTurn n (Some t) = (t.process < length n.statements) × (t.turn < turn_count n t.process)

count_before : (points : List Point) (u s : ℕ) (p : Point) → slice_get points u ≡ Some p → eqb p.statement s ≡ true
    → count_by (λ q. q.statement == s) (take u points) < length (vectors_of points s)
count_before [] u s p e own = absurd (cc)
count_before (x ∷ points) zero s p e own =
    let here : eqb x.statement s ≡ true = ap (λ (y : Point). eqb y.statement s) (same_Some x p e) ∙ own in
    rw here (omega arith)
count_before (x ∷ points) (suc u) s p e own =
    let more = sum_by-cons (λ (q : Point). cond (eqb q.statement s) 1 0) x (take u points) in
    elim (cases_Bool (eqb x.statement s)) [
      | inl here ↦ rw here (omega (arith, more, ap one_if here, count_before points u s p e own))
      | inr there ↦ rw there (omega (arith, more, ap one_if there, count_before points u s p e own))
    ]

tag_of : (n : Nest) (u : ℕ) (o : Option Point) → slice_get (trace n) u ≡ o
    → IsTurn n (option_map
    (λ p. record { process = p.statement; turn = count_by (λ q. q.statement == p.statement) (take u (trace n)) }) o)
tag_of n u None e = tt
tag_of n u (Some p) e =
    let is = (enumerates_domains n).entry u p e in
    let turn : count_by (λ q. q.statement == p.statement) (take u (trace n)) < turn_count n p.statement =
    omega (
      arith,
      count_before (trace n) u p.statement p e (eq-eqb p.statement p.statement refl),
      entries_length 0 (trace n) p.statement,
    ) in
    (slice_get_within n.statements p.statement is.statement is.found, turn)

tag_is : (n : Nest) (o : Option ℕ) → IsTurn n (option_and_then (tag_at (trace n)) o)
tag_is n None = tt
tag_is n (Some u) = tag_of n u (slice_get (trace n) u) refl

pub sources_are : (n : Nest) (p k : ℕ) → Each (IsTurn n) (sources_at n p k)
sources_are n p k =
    each_map (IsTurn n) (source_at n (trace n) k) (entries_of (trace n) p)
    (each_of (λ t. IsTurn n (source_at n (trace n) k t)) (entries_of (trace n) p)
    (λ t. tag_is n (option_and_then (last_before n (trace n) t) (cell_read n (trace n) t k))))

only_below : (n : Nest) (o : Option Tag) → IsTurn n o → OnlyBelow (length n.statements) o
only_below n None h = tt
only_below n (Some t) h = h.0

each_read : (n : Nest) (sources : List (Option Tag)) (f : ℕ) → Each (IsTurn n) sources
    → OnlyBelow (length n.statements) (get_or sources f None)
each_read n [] f h = tt
each_read n (source ∷ sources) zero h = only_below n source h.0
each_read n (source ∷ sources) (suc f) h = each_read n sources f h.1

pub processes_below : (n : Nest) (p k f : ℕ) → OnlyBelow (length n.statements) (get_or (sources_at n p k) f None)
processes_below n p k f = each_read n (sources_at n p k) f (sources_are n p k)

-- a process has no more turns than the trace has entries, and a read one source for each turn
pub few_turns : (n : Nest) (p : ℕ) → turn_count n p ≤ length (trace n)
few_turns n p = few_entries 0 (trace n) p

pub length-sources : (n : Nest) (p k : ℕ) → length (sources_at n p k) ≡ turn_count n p
length-sources n p k = length-map (entries_of (trace n) p) (source_at n (trace n) k)
