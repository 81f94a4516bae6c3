-- The channels of a nest, from the exact table and the numbers of turns.
--
-- The invariant is that the channels made so far are those of the readers below p (`plans_below`). One
-- reader more adds the channels of its own part of the table. By induction along the statements that
-- part begins behind the reads of all statements before it, and it has the sources of this reader's
-- reads (`part_from`). They make the channels of the definition, since the number of turns of each
-- writer stands at its place (`plans_are`). The other laws are what the code requires: each source is a
-- turn of a process, and turns and reads are few. That the table is exact is a premise here.
use Rattle.std.proofs.Common.{◌≡◌, ◌<◌, ◌≤◌, ◌+◌, ◌-◌, ℕ, zero, suc, List, [], ◌∷◌, ◌++◌, true, false, cond, Some, None}
use Rattle.std.proofs.Common.{map, take, drop, length, get_or, count_by, refl, sym, ap, ◌∙◌, arith, ◌==◌, subst}
use Rattle.std.specs.Prelude.{Option, slice_get}
use Rattle.std.specs.Option.{option_and_then, option_map, option_map_or}
use Rattle.std.specs.List.{All, flat_map, sum_by, range_with_len}
use Rattle.std.proofs.lemmas.Bool.{eq-eqb}
use Rattle.std.proofs.lemmas.List.{drop-drop, drop_at, length-append, take_at}
use Rattle.std.proofs.lemmas.List.Elements.{All-map, All-same, All-weaker}
use Rattle.std.proofs.lemmas.List.Sums.{sum_by-cons, sum_by-le, sum_by-take-le, sum_by_more, sum_by_more_le}
use Rattle.std.proofs.lemmas.List.FromFn.{length-map-range_with_len, get_or-map-range_with_len}
use Rattle.std.proofs.lemmas.Option.{get_or_from_slice_get, same_Some, slice_get-get_or, slice_get_read, slice_get_within}
use Rattle.sanlp.specs.Access.{read_count}
use Rattle.sanlp.specs.declared.nest.Nest.{Nest}
use Rattle.sanlp.specs.declared.nest.Point.{Point}
use Rattle.sanlp.specs.declared.nest.Statement.{Statement}
use Rattle.sanlp.specs.declared.nest.Tag.{Tag}
use Rattle.sanlp.specs.Laws.{entries_from, entries_of}
use Rattle.sanlp.specs.Points.{points_of, vectors_of}
use Rattle.sanlp.specs.Size.{SizeIsOk, size_limit}
use Rattle.sanlp.specs.Tags.{tag_at}
use Rattle.sanlp.specs.Trace.{trace}
use Rattle.sanlp.specs.Writers.{cell_read, last_before}
use Rattle.sanlp.specs.WellFormed.{statement_fits}
use Rattle.sanlp.proofs.Elements.{list_all_at}
use Rattle.sanlp.proofs.Enumerates.{enumerates_domains}
use Rattle.sanlp.proofs.NestFacts.{few_entries, few_reads, trace_within}
use Rattle.sanlp.proofs.Lists.{flat_map-range_with_len_more, flat_map-range_with_len_same}
use Rattle.source_tree.specs.Sources.{read_sources, source_at, sources_from, sources_of}
use Rattle.channel_plan.specs.declared.plans.ChannelPlan.{ChannelPlan}
use Rattle.channel_plan.specs.Plans.{plan_of, plans_at, plans_of, sources_at, turn_count}
use Rattle.channel_plan.specs.Reads.{AreFew, IsTurnAmong, channel_of, channels_of, channels_to}
use Rattle.channel_plan.specs.Tokens.{writers_of}
use Rattle.channel_plan.proofs.Channels.{writers_exist}
use Rattle.channel_plan.proofs.Uses.{map_agree}

-- How many turns the processes have.
as_many : (a : ℕ) (points : List Point) (w : ℕ) → length (vectors_of points w) ≡ length (entries_from a points w)
as_many a [] w = refl
as_many a (p ∷ points) w =
    elim (p.statement == w) as
    (λ b. length (cond b (p.at ∷ vectors_of points w) (vectors_of points w))
    ≡ length (cond b (a ∷ entries_from (a + 1) points w) (entries_from (a + 1) points w)))
    [ true ↦ ap suc (as_many (a + 1) points w) | false ↦ as_many (a + 1) points w ]

lengths : (points : List Point) (a m : ℕ)
    → map length (map (vectors_of points) (range_with_len a m))
    ≡ map (λ w. length (entries_of points w)) (range_with_len a m)
lengths points a zero = refl
lengths points a (suc m) =
    ap (λ n. n ∷ map length (map (vectors_of points) (range_with_len (a + 1) m))) (as_many 0 points a)
    ∙ ap (λ ns. length (entries_of points a) ∷ ns) (lengths points (a + 1) m)

-- the numbers of turns of all processes
abbrev pub turns_of_all : Nest → List ℕ
turns_of_all n = map (turn_count n) (range_with_len 0 (length n.statements))

pub turns_are : (n : Nest) → map length (points_of n) ≡ turns_of_all n
unfolding points_of
turns_are n = lengths (trace n) 0 (length n.statements)

all_of : {X : Type 0} (P : X → Type 0) (xs : List X) → ((x : X) → P x) → All P xs
all_of P xs f = λ k d h. f (get_or xs k d)

pub few_turns : (n : Nest) → SizeIsOk n → AreFew (turns_of_all n)
few_turns n sized = record {
  processes =
      omega (arith, length-map-range_with_len (turn_count n) 0 (length n.statements), n.well_formed.few_statements);
  turns_of_each = All-map (λ count. count ≤ size_limit) (turn_count n) (range_with_len 0 (length n.statements))
      (all_of (λ w. turn_count n w ≤ size_limit) (range_with_len 0 (length n.statements))
      (λ w. omega (arith, few_entries 0 (trace n) w, trace_within n, sized.size_within)));
}

-- Each source is a turn of a process.
counted_entries : (a : ℕ) (points : List Point) (w : ℕ)
    → count_by (λ q. q.statement == w) points ≡ length (entries_from a points w)
counted_entries a [] w = refl
counted_entries a (p ∷ points) w =
    sum_by-cons (λ q. cond (q.statement == w) 1 0) p points
    ∙ elim (p.statement == w) as
    (λ b. cond b 1 0 + count_by (λ q. q.statement == w) points
    ≡ length (cond b (a ∷ entries_from (a + 1) points w) (entries_from (a + 1) points w)))
    [ true ↦ omega (arith, counted_entries (a + 1) points w) | false ↦ omega (arith, counted_entries (a + 1) points w) ]

turn_below : (points : List Point) (u : ℕ) (p : Point) → slice_get points u ≡ Some p
    → count_by (λ q. q.statement == p.statement) (take u points) < length (entries_of points p.statement)
turn_below points u p e =
    let test : Point → ℕ = λ q. cond (q.statement == p.statement) 1 0 in
    let own : test (get_or points u p) ≡ 1 =
    ap test (get_or_from_slice_get points u p p e) ∙ ap (λ b. cond b 1 0) (eq-eqb p.statement p.statement refl) in
    omega (
      arith,
      own,
      sum_by_more_le test points u p (slice_get_within points u p e),
      counted_entries 0 points p.statement,
    )

tag_among : (n : Nest) (u : ℕ) (o : Option Point) → slice_get (trace n) u ≡ o
    → IsTurnAmong (turns_of_all n)
    (option_map (λ p.
    record { process = p.statement; turn = count_by (λ q. q.statement == p.statement) (take u (trace n)) }) o)
tag_among n u None e = tt
tag_among n u (Some p) e =
    let is = (enumerates_domains n).entry u p e in
    let exists = slice_get_within n.statements p.statement is.statement is.found in (
      omega (arith, length-map-range_with_len (turn_count n) 0 (length n.statements), exists),
      omega (
        arith,
        get_or-map-range_with_len (turn_count n) 0 (length n.statements) p.statement p.statement 0 exists
            (omega arith),
        turn_below (trace n) u p e,
      ),
    )

source_among : (n : Nest) (o : Option ℕ) → IsTurnAmong (turns_of_all n) (option_and_then (tag_at (trace n)) o)
source_among n None = tt
source_among n (Some u) = tag_among n u (slice_get (trace n) u) refl

pub sources_among : (n : Nest) (p k : ℕ) → All (IsTurnAmong (turns_of_all n)) (sources_at n p k)
sources_among n p k =
    All-map (IsTurnAmong (turns_of_all n)) (source_at n (trace n) k) (entries_of (trace n) p)
    (all_of (λ t. IsTurnAmong (turns_of_all n) (source_at n (trace n) k t)) (entries_of (trace n) p)
    (λ t. source_among n (option_and_then (last_before n (trace n) t) (cell_read n (trace n) t k))))

-- The part of the table that a reader has.
length-sources_from : (n : Nest) (points : List Point) (p : ℕ) (statements : List Statement)
    → length (sources_from n points p statements) ≡ sum_by (λ s. length s.reads) statements
length-sources_from n points p [] = refl
length-sources_from n points p (s ∷ statements) =
    omega (
      arith,
      length-append (map (read_sources n points p) (range_with_len 0 (length s.reads)))
          (sources_from n points (p + 1) statements),
      length-map-range_with_len (read_sources n points p) 0 (length s.reads),
      length-sources_from n points (p + 1) statements,
      sum_by-cons (λ s. length s.reads) s statements,
    )

part_from : (n : Nest) (points : List Point) (p : ℕ) (statements : List Statement) (j : ℕ) (s : Statement)
    → slice_get statements j ≡ Some s
    → take (length s.reads)
    (drop (sum_by (λ s. length s.reads) (take j statements)) (sources_from n points p statements))
    ≡ map (read_sources n points (p + j)) (range_with_len 0 (length s.reads))
part_from n points p [] j s e = absurd (cc)
part_from n points p (first ∷ statements) zero s e =
    let here : p ≡ p + 0 = omega arith in
    let same : first ≡ s = same_Some first s e in
    ap (λ x. take (length s.reads)
    (map (read_sources n points p) (range_with_len 0 (length x.reads))
    ++ sources_from n points (p + 1) statements)) same
    ∙ take_at (map (read_sources n points p) (range_with_len 0 (length s.reads)))
    (sources_from n points (p + 1) statements) (length s.reads)
    (length-map-range_with_len (read_sources n points p) 0 (length s.reads))
    ∙ ap (λ q. map (read_sources n points q) (range_with_len 0 (length s.reads))) here
part_from n points p (first ∷ statements) (suc j) s e =
    let own : List (List (Option Tag)) = map (read_sources n points p) (range_with_len 0 (length first.reads)) in
    let rest : List (List (Option Tag)) = sources_from n points (p + 1) statements in
    let before : ℕ = sum_by (λ s. length s.reads) (take j statements) in
    let later : p + 1 + j ≡ p + suc j = omega arith in
    ap (λ k. take (length s.reads) (drop k (own ++ rest))) (sum_by-cons (λ s. length s.reads) first (take j statements))
    ∙ ap (take (length s.reads)) (sym (drop-drop before (length first.reads) (own ++ rest)))
    ∙ ap (λ left. take (length s.reads) (drop before left))
    (drop_at own rest (length first.reads)
    (length-map-range_with_len (read_sources n points p) 0 (length first.reads)))
    ∙ part_from n points (p + 1) statements j s e
    ∙ ap (λ q. map (read_sources n points q) (range_with_len 0 (length s.reads))) later

-- the statement that is read at a place of a nest's statements
statement_read : (n : Nest) (statements : List Statement) (p : ℕ) (s : Statement) → statements ≡ n.statements
    → p < length statements → s ≡ get_or statements p s → slice_get n.statements p ≡ Some s
statement_read n statements p s are lt is =
    ap (λ xs. slice_get xs p) (sym are) ∙ slice_get_read statements (length statements) p s refl lt is

module _ (n : Nest) (table : List (List (Option Tag))) (exact : table ≡ sources_of n) (p : ℕ) (s : Statement)
    (found : slice_get n.statements p ≡ Some s)
    (first count : ℕ) (before : first ≡ sum_by (λ s. length s.reads) (take p n.statements))
    (many : count ≡ length s.reads) where
  sum_more : first + count ≡ sum_by (λ s. length s.reads) (take (p + 1) n.statements)
  sum_more =
      omega (
        arith,
        sum_by_more (λ s. length s.reads) n.statements p s (slice_get_within n.statements p s found),
        ap (λ s. length s.reads) (get_or_from_slice_get n.statements p s s found),
      )

  part_exists : first + count ≤ length table
  unfolding sources_of
  part_exists =
      omega (
        arith,
        sum_more,
        sum_by-take-le (λ s. length s.reads) n.statements (p + 1),
        ap length exact,
        length-sources_from n (trace n) 0 n.statements,
      )

  part_is : take (first + count - first) (drop first table)
      ≡ map (read_sources n (trace n) p) (range_with_len 0 (length s.reads))
  unfolding sources_of
  part_is =
      let size_of_part : first + count - first ≡ length s.reads = omega arith in
      let front : 0 + p ≡ p = omega arith in
      ap (λ k. take k (drop first table)) size_of_part
      ∙ ap (λ k. take (length s.reads) (drop k table)) before
      ∙ ap (λ t. take (length s.reads) (drop (sum_by (λ s. length s.reads) (take p n.statements)) t)) exact
      ∙ part_from n (trace n) 0 n.statements p s found
      ∙ ap (λ q. map (read_sources n (trace n) q) (range_with_len 0 (length s.reads))) front

  part_among : All (All (IsTurnAmong (turns_of_all n))) (take (first + count - first) (drop first table))
  part_among =
      All-same (All (IsTurnAmong (turns_of_all n))) _ _ part_is
      (All-map (All (IsTurnAmong (turns_of_all n))) (read_sources n (trace n) p) (range_with_len 0 (length s.reads))
      (all_of (λ k. All (IsTurnAmong (turns_of_all n)) (read_sources n (trace n) p k))
      (range_with_len 0 (length s.reads)) (sources_among n p)))

  part_short : length (take (first + count - first) (drop first table)) ≤ 8
  part_short =
      omega (
        arith,
        ap length part_is,
        length-map-range_with_len (read_sources n (trace n) p) 0 (length s.reads),
        few_reads n.arrays s
            (list_all_at (statement_fits n.arrays) n.statements p s n.well_formed.statements_fit found),
      )

-- all reads are few
few_in_all : (n : Nest) → sum_by (λ s. length s.reads) n.statements ≤ 512
few_in_all n =
    omega (
      arith,
      n.well_formed.few_statements,
      sum_by-le (λ s. length s.reads) 8 n.statements
          (λ k d h. few_reads n.arrays (get_or n.statements k d)
          (list_all_at (statement_fits n.arrays) n.statements k (get_or n.statements k d) n.well_formed.statements_fit
          (slice_get-get_or n.statements k d h))),
    )

pub few_before : (n : Nest) (p : ℕ) → sum_by (λ s. length s.reads) (take p n.statements) ≤ 512
few_before n p = omega (arith, few_in_all n, sum_by-take-le (λ s. length s.reads) n.statements p)

-- The channels of a reader.
plans_are : (n : Nest) (p k : ℕ) → channels_of (turns_of_all n) p k (sources_at n p k) ≡ plans_at n p k
unfolding channels_of channel_of
plans_are n p k =
    let processes : ℕ = length n.statements in
    let sources : List (Option Tag) = sources_at n p k in
    let turns : List ℕ = turns_of_all n in
    ap (λ m. map (λ w. channel_of p k sources (get_or turns w 0) w) (writers_of m sources))
    (length-map-range_with_len (turn_count n) 0 processes)
    ∙ map_agree (λ w. channel_of p k sources (get_or turns w 0) w) (plan_of n p k) (writers_of processes sources)
    (All-weaker (λ w. w < processes) (λ w. channel_of p k sources (get_or turns w 0) w ≡ plan_of n p k w)
    (λ w h. ap (λ m. channel_of p k sources m w)
    (get_or-map-range_with_len (turn_count n) 0 processes w w 0 h (omega arith)))
    (writers_of processes sources) (writers_exist processes sources))

plans_to : (n : Nest) (p : ℕ) (s : Statement) (reads : List (List (Option Tag))) → slice_get n.statements p ≡ Some s
    → reads ≡ map (read_sources n (trace n) p) (range_with_len 0 (length s.reads))
    → channels_to (turns_of_all n) p reads ≡ flat_map (plans_at n p) (range_with_len 0 (read_count n p))
unfolding channels_to
plans_to n p s reads found e =
    let m : ℕ = length s.reads in
    let all : List (List (Option Tag)) = map (read_sources n (trace n) p) (range_with_len 0 m) in
    ap (channels_to (turns_of_all n) p) e
    ∙ ap (λ c. flat_map (λ k. channels_of (turns_of_all n) p k (get_or all k [])) (range_with_len 0 c))
    (length-map-range_with_len (read_sources n (trace n) p) 0 m)
    ∙ flat_map-range_with_len_same (λ k. channels_of (turns_of_all n) p k (get_or all k [])) (plans_at n p) 0 m
    (λ k _ below.
    ap (channels_of (turns_of_all n) p k)
    (get_or-map-range_with_len (read_sources n (trace n) p) 0 m k k [] (omega arith) (omega arith))
    ∙ plans_are n p k)
    ∙ ap (λ c. flat_map (plans_at n p) (range_with_len 0 c))
    (sym (ap (λ o. option_map_or (λ s. length s.reads) o 0) found))

-- the channels of the readers below p
abbrev pub plans_below : Nest → ℕ → List ChannelPlan
plans_below n p = flat_map (λ q. flat_map (plans_at n q) (range_with_len 0 (read_count n q))) (range_with_len 0 p)

plans_more : (n : Nest) (p : ℕ) (s : Statement) (reads : List (List (Option Tag))) (plans after : List ChannelPlan)
    (turns : List ℕ)
    → slice_get n.statements p ≡ Some s → reads ≡ map (read_sources n (trace n) p) (range_with_len 0 (length s.reads))
    → turns ≡ turns_of_all n
    → plans ≡ plans_below n p → after ≡ plans ++ channels_to turns p reads → after ≡ plans_below n (p + 1)
plans_more n p s reads plans after turns found part counts was is =
    is
    ∙ ap (λ ts. plans ++ channels_to ts p reads) counts
    ∙ ap (λ new. plans ++ new) (plans_to n p s reads found part)
    ∙ ap (λ old. old ++ flat_map (plans_at n p) (range_with_len 0 (read_count n p))) was
    ∙ sym (flat_map-range_with_len_more (λ q. flat_map (plans_at n q) (range_with_len 0 (read_count n q))) 0 p p
    (omega arith))

-- the part of the table with the sources of a reader's reads, and the channels that they add
pub record IsReadersPart (n : Nest) (turns : List ℕ) (table : List (List (Option Tag))) (p first count : ℕ)
    : Type 0 where
  pub next : first + count ≡ sum_by (λ s. length s.reads) (take (p + 1) n.statements)
  pub small : first + count ≤ 512
  pub within : first + count ≤ length table
  pub short : length (take (first + count - first) (drop first table)) ≤ 8
  pub among : All (All (IsTurnAmong turns)) (take (first + count - first) (drop first table))
  pub added : plans_below n p ++ channels_to turns p (take (first + count - first) (drop first table))
      ≡ plans_below n (p + 1)

pub readers_part : (n : Nest) (turns : List ℕ) (table : List (List (Option Tag))) (statements : List Statement)
    (p first count : ℕ) (s : Statement)
    → turns ≡ map length (points_of n) → table ≡ sources_of n → statements ≡ n.statements → p < length statements
    → s ≡ get_or statements p s → first ≡ sum_by (λ s. length s.reads) (take p n.statements) → count ≡ length s.reads
    → IsReadersPart n turns table p first count
readers_part n turns table statements p first count s turns_is exact all lt is before many =
    let found : slice_get n.statements p ≡ Some s = statement_read n statements p s all lt is in
    let counts : turns ≡ turns_of_all n = turns_is ∙ turns_are n in
    let part : List (List (Option Tag)) = take (first + count - first) (drop first table) in
    let next : first + count ≡ sum_by (λ s. length s.reads) (take (p + 1) n.statements) =
    sum_more n table exact p s found first count before many in
    record {
      next = next;
      small = omega (arith, few_before n (p + 1), next);
      within = part_exists n table exact p s found first count before many;
      short = part_short n table exact p s found first count before many;
      among = subst (λ (ts : List ℕ). All (All (IsTurnAmong ts)) part) (sym counts)
          (part_among n table exact p s found first count before many);
      added = plans_more n p s part (plans_below n p) (plans_below n p ++ channels_to turns p part) turns found
          (part_is n table exact p s found first count before many) counts refl refl;
    }

pub plans_all : (n : Nest) (p : ℕ) (plans : List ChannelPlan) → p ≡ length n.statements → plans ≡ plans_below n p
    → plans ≡ plans_of n
unfolding plans_of
plans_all n p plans e was = was ∙ ap (plans_below n) e
