-- The entries of the trace and the channels are few.
use Rattle.std.proofs.Common.{◌≤◌, ◌*◌, ℕ, Bool, length, sym, subst, arith}
use Rattle.std.specs.List.{flat_map, list_any, range_with_len}
use Rattle.std.proofs.lemmas.List.{length-map}
use Rattle.std.proofs.lemmas.List.Concat.{length-flat_map}
use Rattle.std.proofs.lemmas.List.Sums.{count_by-le-length, length-filter}
use Rattle.std.proofs.lemmas.List.FromFn.{length-range_with_len}
use Rattle.sanlp.specs.Access.{read_count}
use Rattle.sanlp.specs.declared.nest.Nest.{Nest}
use Rattle.sanlp.specs.Size.{size, size_limit, SizeIsOk}
use Rattle.sanlp.specs.Trace.{trace}
use Rattle.sanlp.proofs.NestFacts.{few_statements, few_read_count}
use Rattle.channel_plan.specs.Plans.{plan_of, plans_at, plans_of, sources_at}
use Rattle.channel_plan.specs.Tokens.{is_from, writers_of}
use Rattle.process_derive.proofs.Sums.{sum_within}

pub few_entries : (n : Nest) → SizeIsOk n → length (trace n) ≤ size_limit
unfolding size
few_entries n ok = omega (arith, ok.size_within)

pub few_writers : (n : Nest) (p k : ℕ) → length (writers_of (length n.statements) (sources_at n p k)) ≤ 64
few_writers n p k =
    let test : ℕ → Bool = λ w. list_any (is_from w) (sources_at n p k) in
    omega (
      arith,
      length-filter test (range_with_len 0 (length n.statements)),
      count_by-le-length test
          (range_with_len 0 (length n.statements)),
      length-range_with_len 0 (length n.statements),
      few_statements n,
    )

few_at : (n : Nest) (p : ℕ) → length (flat_map (plans_at n p) (range_with_len 0 (read_count n p))) ≤ 8 * 64
few_at n p =
    subst (λ k. k ≤ 8 * 64) (sym (length-flat_map (plans_at n p) (range_with_len 0 (read_count n p))))
    (sum_within (λ k. length (plans_at n p k)) 64 8 (range_with_len 0 (read_count n p))
    (λ k. subst (λ m. m ≤ 64) (sym (length-map (writers_of (length n.statements) (sources_at n p k)) (plan_of n p k)))
    (few_writers n p k))
    (omega (arith, length-range_with_len 0 (read_count n p), few_read_count n p)))

-- there are at most 64 * 8 * 64 channels
pub few_plans : (n : Nest) → length (plans_of n) ≤ 64 * (8 * 64)
unfolding plans_of
few_plans n =
    subst (λ k. k ≤ 64 * (8 * 64))
    (sym (length-flat_map (λ p. flat_map (plans_at n p) (range_with_len 0 (read_count n p)))
    (range_with_len 0 (length n.statements))))
    (sum_within (λ p. length (flat_map (plans_at n p) (range_with_len 0 (read_count n p)))) (8 * 64) 64
    (range_with_len 0 (length n.statements)) (few_at n)
    (omega (arith, length-range_with_len 0 (length n.statements), few_statements n)))
