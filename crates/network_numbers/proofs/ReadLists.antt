-- The number of each channel's read among all reads.
--
-- The reads are numbered statement by statement, so the first of a statement has as its number how many reads the statements
-- before it have, and each number is small. The reader and the read of a channel exist.
use Rattle.std.proofs.Common.{◌≡◌, ◌+◌, ◌<◌, ◌≤◌, ℕ, List, [], ◌∷◌, ◌++◌, length, map, take, get_or, refl, sym, ap, ◌∙◌, arith}
use Rattle.std.specs.Prelude.{slice_get}
use Rattle.std.specs.Option.{option_map}
use Rattle.std.specs.List.{range_with_len, sum_by}
use Rattle.std.proofs.lemmas.List.{length-map, map-append, take_more}
use Rattle.std.proofs.lemmas.List.FromFn.{get_or-map-range_with_len}
use Rattle.std.proofs.lemmas.List.Sums.{sum_by_more}
use Rattle.std.proofs.lemmas.Option.{same_Some, slice_get-map, slice_get_read}
use Rattle.channel_plan.specs.Plans.{plans_of}
use Rattle.channel_plan.proofs.Nests.{few_before}
use Rattle.network_numbers.proofs.QueueCounts.{ends}
use Rattle.plain_data.proofs.Lists.{slice_get-some}
use Rattle.plan_numbers.specs.Numbers.{numbers_of}
use Rattle.plan_numbers.specs.declared.numbers.PlanNumbers.{PlanNumbers}
use Rattle.sanlp.specs.Access.{read_count}
use Rattle.sanlp.specs.declared.nest.Nest.{Nest}
use Rattle.sanlp.specs.declared.nest.Statement.{Statement}
use Rattle.sanlp.proofs.NestFacts.{few_read_count}
use Rattle.source_tree.specs.Sources.{read_number}

-- the reads up to one statement more
pub reads_more : (n : Nest) (p : ℕ) (s : Statement) (xs : List Statement) → xs ≡ n.statements → p < length xs
    → s ≡ get_or xs p s
    → sum_by (λ s. length s.reads) (take (p + 1) n.statements)
    ≡ sum_by (λ s. length s.reads) (take p n.statements) + length s.reads
reads_more n p s xs e lt is =
    sum_by_more (λ (s : Statement). length s.reads) n.statements p s (omega (arith, ap length e))
    ∙ ap (λ (x : Statement). sum_by (λ s. length s.reads) (take p n.statements) + length x.reads)
    (sym (is ∙ ap (λ ys. get_or ys p s) e))

-- The reader of a channel exists, and its read is one of the reader's.
pub record HasEnds (n : Nest) (plan : PlanNumbers) : Type 0 where
  pub reader : plan.reader < length n.statements
  pub read : plan.read < read_count n plan.reader

pub plan_ends : (n : Nest) (plans : List PlanNumbers) (k : ℕ) (plan : PlanNumbers) → plans ≡ map numbers_of (plans_of n)
    → k < length plans → plan ≡ get_or plans k plan → HasEnds n plan
plan_ends n plans k plan e lt is =
    let item = slice_get-some (plans_of n) k (omega (arith, ap length e, length-map (plans_of n) numbers_of)) in
    let same : plan ≡ numbers_of item.0 =
    same_Some plan (numbers_of item.0)
    (sym (slice_get_read plans (length plans) k plan refl lt is)
    ∙ ap (λ ps. slice_get ps k) e
    ∙ slice_get-map numbers_of (plans_of n) k
    ∙ ap (option_map numbers_of) item.1) in
    let own = ends n k item.0 item.1 in
    record {
      reader = omega (arith, ap (λ (x : PlanNumbers). x.reader) same, own.reader);
      read = omega (
        arith,
        ap (λ (x : PlanNumbers). x.read) same,
        ap (λ (x : PlanNumbers). read_count n x.reader) same,
        own.read,
      );
    }

-- the number of the first read of a statement
pub first_is : (n : Nest) (firsts : List ℕ) (p : ℕ)
    → firsts ≡ map (λ p. read_number n p 0) (range_with_len 0 (length n.statements)) → p < length n.statements
    → get_or firsts p 0 ≡ read_number n p 0
first_is n firsts p e lt =
    ap (λ xs. get_or xs p 0) e
    ∙ get_or-map-range_with_len (λ p. read_number n p 0) 0 (length n.statements) p p 0 lt (omega arith)

pub first_small : (n : Nest) (p : ℕ) → read_number n p 0 ≤ 512
first_small n p = omega (arith, few_before n p)

pub read_small : (n : Nest) (plan : PlanNumbers) → HasEnds n plan → plan.read < 8
read_small n plan is = omega (arith, is.read, few_read_count n plan.reader)

-- one channel more
pub lists_more : (n : Nest) (plans : List PlanNumbers) (k : ℕ) (plan : PlanNumbers) (first : ℕ) → k < length plans
    → plan ≡ get_or plans k plan → first ≡ read_number n plan.reader 0
    → map (λ plan. read_number n plan.reader plan.read) (take k plans) ++ (first + plan.read) ∷ []
    ≡ map (λ plan. read_number n plan.reader plan.read) (take (k + 1) plans)
lists_more n plans k plan first lt is e =
    let number : first + plan.read ≡ read_number n plan.reader plan.read = omega (arith, e) in
    ap (λ m. map (λ (plan : PlanNumbers). read_number n plan.reader plan.read) (take k plans) ++ m ∷ []) number
    ∙ sym (map-append (λ (plan : PlanNumbers). read_number n plan.reader plan.read) (take k plans) (plan ∷ []))
    ∙ ap (map (λ (plan : PlanNumbers). read_number n plan.reader plan.read))
    (sym (take_more plans k plan lt ∙ ap (λ x. take k plans ++ x ∷ []) (sym is)))
