-- How entries are shared out: those of the trace among the processes, and the sources of one read among their writers.
--
-- It is one argument, three times: an element of the list raises the count at one number by at most 1 and
-- leaves the others as they are (`sum_risen`), so by induction along the list all counts together come to
-- no more than its length. So all processes together have no more turns than the trace has entries, a
-- read has no more uses over all writers than its reader has turns, and a channel has no more tokens than
-- uses. Therefore each use names a token whose number is below the number of uses (`uses_within`).
use Rattle.std.proofs.Common.{◌≡◌, ◌≢◌, ◌<◌, ◌≤◌, ◌+◌, ◌==◌, ℕ, true, eqb, List, [], ◌∷◌, map, length, sym, refl}
use Rattle.std.proofs.Common.{ap, ◌∙◌, inl, inr, arith, le_of_eq}
use Rattle.std.specs.Prelude.{Option, Some, None}
use Rattle.std.specs.List.{sum_by, range_with_len}
use Rattle.std.proofs.lemmas.Bool.{cases_Bool, cond-true, eq-eqb, ne_eqb, or_left, or_right}
use Rattle.std.proofs.lemmas.List.Sums.{sum_by-le-sum_by}
use Rattle.sanlp.specs.declared.nest.Nest.{Nest}
use Rattle.sanlp.specs.declared.nest.Point.{Point}
use Rattle.sanlp.specs.declared.nest.Tag.{Tag}
use Rattle.sanlp.specs.Points.{vectors_of}
use Rattle.sanlp.specs.Trace.{trace}
use Rattle.sanlp.proofs.Each.{Each}
use Rattle.channel_plan.specs.Plans.{sources_at, turn_count}
use Rattle.channel_plan.specs.Tokens.{is_used, tokens_below, turn_of, turns_used, uses_of}
use Rattle.channel_plan.proofs.Uses.{tokens_more}
use Rattle.net_core.proofs.Entries.{entries_length}
use Rattle.process_derive.proofs.Counts.{few_kept}
use Rattle.process_derive.proofs.Sums.{one_if, one_if-le, sum_none, sum_risen}
use Rattle.process_derive.proofs.Tags.{length-sources}

-- Processes

turns_of_all : (points : List Point) (m : ℕ)
    → sum_by (λ w. length (vectors_of points w)) (range_with_len 0 m) ≤ length points
turns_of_all [] m = le_of_eq (sum_none (range_with_len 0 m))
turns_of_all (p ∷ points) m =
    let f : ℕ → ℕ = λ w. length (vectors_of points w) in
    let g : ℕ → ℕ = λ w. length (vectors_of (p ∷ points) w) in
    let own : g p.statement ≤ f p.statement + 1 =
    elim (cases_Bool (eqb p.statement p.statement)) [ inl h ↦ rw h (omega arith) | inr h ↦ rw h (omega arith) ] in
    let other : (k : ℕ) → k ≢ p.statement → g k ≡ f k = λ k ne. rw (ne_eqb p.statement k (λ e. ne (sym e))) refl in
    omega (arith, sum_risen f g p.statement 1 own other 0 m, turns_of_all points m)

-- the turns of all processes are no more than the entries of the trace
pub all_turns : (n : Nest) (m : ℕ) → sum_by (turn_count n) (range_with_len 0 m) ≤ length (trace n)
all_turns n m =
    let vectors : ℕ → ℕ = λ w. length (vectors_of (trace n) w) in
    omega (
      arith,
      sum_by-le-sum_by (turn_count n) vectors (range_with_len 0 m) (λ w. omega (arith, entries_length 0 (trace n) w)),
      turns_of_all (trace n) m,
    )

-- Writers

used_of_all : (sources : List (Option Tag)) (m : ℕ)
    → sum_by (λ w. length (turns_used w sources)) (range_with_len 0 m) ≤ length sources
used_of_all [] m = le_of_eq (sum_none (range_with_len 0 m))
used_of_all (None ∷ sources) m =
    let rest : sum_by (λ w. length (turns_used w (None ∷ sources))) (range_with_len 0 m) ≤ length sources =
    used_of_all sources m in
    omega (arith, rest)
used_of_all (Some t ∷ sources) m =
    let f : ℕ → ℕ = λ w. length (turns_used w sources) in
    let g : ℕ → ℕ = λ w. length (turns_used w (Some t ∷ sources)) in
    let own : g t.process ≤ f t.process + 1 =
    omega (arith, few_kept (turn_of t.process (Some t)) (turns_used t.process sources)) in
    let other : (k : ℕ) → k ≢ t.process → g k ≡ f k = λ k ne. rw (ne_eqb t.process k (λ e. ne (sym e))) refl in
    omega (arith, sum_risen f g t.process 1 own other 0 m, used_of_all sources m)

-- the turns of process w that the sources of read k of process p name
abbrev pub used : Nest → ℕ → ℕ → ℕ → List ℕ
used n p k w = turns_used w (sources_at n p k)

-- the uses of read k of process p, over all writers, are no more than the turns of p
pub uses_shared : (n : Nest) (p k m : ℕ) → sum_by (λ w. length (used n p k w)) (range_with_len 0 m) ≤ turn_count n p
uses_shared n p k m = omega (arith, used_of_all (sources_at n p k) m, length-sources n p k)

-- Tokens

-- a channel has no more tokens than uses
pub few_tokens : (used : List ℕ) (turns : ℕ) → tokens_below used turns ≤ length used
few_tokens [] turns = le_of_eq (sum_none (range_with_len 0 turns))
few_tokens (turn ∷ used) turns =
    let f : ℕ → ℕ = λ t. one_if (is_used used t) in
    let g : ℕ → ℕ = λ t. one_if (is_used (turn ∷ used) t) in
    let own : g turn ≤ f turn + 1 = omega (arith, one_if-le (is_used (turn ∷ used) turn)) in
    let other : (t : ℕ) → t ≢ turn → g t ≡ f t = λ t ne. rw (ne_eqb turn t (λ e. ne (sym e))) refl in
    omega (arith, sum_risen f g turn 1 own other 0 turns, few_tokens used turns)

token_below : (used : List ℕ) (turn : ℕ) → is_used used turn ≡ true → tokens_below used turn < length used
token_below used turn h =
    let next = tokens_more used turn ∙ ap (λ c. tokens_below used turn + c) (cond-true (is_used used turn) 1 0 h) in
    omega (arith, next, few_tokens used (turn + 1))

uses_below : (whole used : List ℕ) → ((turn : ℕ) → is_used used turn ≡ true → is_used whole turn ≡ true)
    → Each (λ token. token < length whole) (map (tokens_below whole) used)
uses_below whole [] among = tt
uses_below whole (turn ∷ used) among = (
  token_below whole turn (among turn (or_left (turn == turn) (is_used used turn) (eq-eqb turn turn refl))),
  uses_below whole used (λ other h. among other (or_right (turn == other) (is_used used other) h)),
)

-- the tokens of a channel are numbered below its uses
pub uses_within : (used : List ℕ) → Each (λ token. token < length used) (uses_of used)
uses_within used = uses_below used used (λ turn h. h)
