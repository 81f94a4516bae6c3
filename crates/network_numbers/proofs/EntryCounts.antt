-- What is counted of a channel after one turn more.
--
-- Of each channel the walk keeps how many turns of the writer are wanted so far, which is a fold of `max` along the
-- reader's sources. So the count up to one place and the source there give the count up to the next place
-- (`wanted_more`); past the last source nothing is wanted, and the count stays (`after_more`). At a process that
-- doesn't read the channel nothing is counted. The sources of some turns are cut out of the list between two places
-- that never lie past its end (`part`), so the last may be fewer than were asked for. How long a run is isn't asked.
use Rattle.std.proofs.Common.{◌≡◌, ◌+◌, ◌-◌, ◌==◌, ℕ, max, min, List, [], ◌∷◌, map, take, drop, get_or, length, refl, sym}
use Rattle.std.proofs.Common.{ap, ap₂, ◌∙◌, inl, inr, arith, length-drop}
use Rattle.std.specs.Prelude.{Option, None}
use Rattle.std.specs.List.{fold}
use Rattle.std.proofs.lemmas.Bool.{cases_Bool, cases_lt}
use Rattle.std.proofs.lemmas.List.{get_or_past, nil_from_length, take_all}
use Rattle.network_numbers.specs.declared.queues.QueueCounts.{QueueCounts}
use Rattle.network_numbers.specs.Entries.{wanted_after, wanted_by, turns_wanted}
use Rattle.network_numbers.proofs.WantedTurns.{folded_next}
use Rattle.plan_numbers.specs.declared.numbers.PlanNumbers.{PlanNumbers}
use Rattle.sanlp.specs.declared.nest.Tag.{Tag}

after_more : (plan : PlanNumbers) (sources : List (Option Tag)) (k before : ℕ)
    → wanted_after plan (get_or sources k None ∷ []) (wanted_after plan (take k sources) before)
    ≡ wanted_after plan (take (k + 1) sources) before
after_more plan sources k before =
    elim (cases_lt k (length sources)) [
      | inl lt ↦ sym (folded_next (turns_wanted plan.writer) sources k before None lt)
      | inr past ↦
          let most = fold max before (map (turns_wanted plan.writer) (take k sources)) in
          let none : get_or sources k None ≡ None = get_or_past sources k None past in
          let same : max most 0 ≡ most = omega arith in
          let all : take k sources ≡ take (k + 1) sources =
          take_all k sources past ∙ sym (take_all (k + 1) sources (omega arith)) in
          ap (λ s. max most (turns_wanted plan.writer s)) none ∙ same
          ∙ ap (λ xs. fold max before (map (turns_wanted plan.writer) xs)) all
    ]

-- what is wanted, one source more; past the last one there is none
pub wanted_more : (plan : PlanNumbers) (p : ℕ) (sources : List (Option Tag)) (k before : ℕ)
    → wanted_by plan p (get_or sources k None ∷ []) (wanted_by plan p (take k sources) before)
    ≡ wanted_by plan p (take (k + 1) sources) before
wanted_more plan p sources k before =
    elim (cases_Bool (plan.reader == p)) [
      | inl reads ↦ rw reads (after_more plan sources k before)
      | inr other ↦ rw other refl
    ]

pub counts_are : (wanted wanted' greatest greatest' : ℕ) → wanted ≡ wanted' → greatest ≡ greatest'
    → (let a : QueueCounts = record { wanted = wanted; greatest = greatest } in a)
    ≡ record { wanted = wanted'; greatest = greatest' }
counts_are wanted wanted' greatest greatest' e f = λ i. record { wanted = e i; greatest = f i }

-- the part of a list from one place to another, as many elements as there are
pub part : {X : Type 0} (xs : List X) (first count start end : ℕ) → start ≡ min first (length xs)
    → end ≡ start + min count (length xs - start) → take (end - start) (drop start xs) ≡ take count (drop first xs)
part xs first count start end e f =
    let rest = length-drop start xs in
    elim (cases_lt first (length xs)) [
      | inl inside ↦
          let same : start ≡ first = omega arith in
          elim (cases_lt count (length xs - start)) [
            | inl less ↦
                let many : end - start ≡ count = omega arith in
                ap₂ (λ m k. take m (drop k xs)) many same
            | inr all ↦
                take_all (end - start) (drop start xs) (omega (arith, rest))
                ∙ sym (take_all count (drop start xs) (omega (arith, rest)))
                ∙ ap (λ k. take count (drop k xs)) same
          ]
      | inr past ↦
          let none : drop start xs ≡ [] = nil_from_length (drop start xs) (omega (arith, rest)) in
          let nothing : drop first xs ≡ [] = nil_from_length (drop first xs) (omega (arith, length-drop first xs)) in
          take_all (end - start) (drop start xs) (omega (arith, rest)) ∙ none ∙ sym nothing
          ∙ sym (take_all count (drop first xs) (omega (arith, length-drop first xs)))
    ]
