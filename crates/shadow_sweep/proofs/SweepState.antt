-- What a sweep knows after the first entries of the trace, and one entry more.
--
-- The invariant is `IsSwept`, after t entries: for each statement how many of them are its own, for each cell the tag
-- of its last writer among them, and for each read the sources at those entries. One entry adds its sources from the
-- shadow before its own write, then its write, then its turn. The last writer is defined by looking back over all
-- earlier entries, and not by a shadow; that both agree is the induction. How the shadow is kept, in rows or in a map,
-- is another file's.
use Rattle.std.proofs.Common.{◌≡◌, ◌≢◌, ◌<◌, ◌≤◌, ◌+◌, ◌-◌, ℕ, zero, suc, List, [], ◌∷◌, ◌++◌, map, length, take, drop}
use Rattle.std.proofs.Common.{set, get_or, Bool, true, false, cond, refl, sym, ap, ◌∙◌, subst, arith, add_assoc}
use Rattle.std.proofs.Common.{length-append}
use Rattle.std.specs.Prelude.{Option, Some, None, slice_get, replicate, ◌==◌}
use Rattle.std.specs.List.{sum_by, count_by, range_with_len}
use Rattle.std.specs.Option.{option_and_then, option_map, option_map_or}
use Rattle.std.proofs.lemmas.Bool.{eq-eqb, ne_eqb}
use Rattle.std.proofs.lemmas.List.{length-map, length-take, map-append, replicate-append-replicate, take_all}
use Rattle.std.proofs.lemmas.List.Sums.{count_by-le-length, sum_by-cons, sum_by_push}
use Rattle.std.proofs.lemmas.List.FromFn.{length-map-range_with_len, get_or-map-range_with_len}
use Rattle.std.proofs.lemmas.Option.{same_Some, slice_get_within}
use Rattle.plain_data.proofs.Lists.{take-suc_some, map-same, left-first, left-length}
use Rattle.sanlp.specs.declared.nest.Nest.{Nest}
use Rattle.sanlp.specs.declared.nest.Point.{Point}
use Rattle.sanlp.specs.declared.nest.Statement.{Statement}
use Rattle.sanlp.specs.declared.nest.Tag.{Tag}
use Rattle.sanlp.specs.Access.{cell_at, reads_of, write_of}
use Rattle.sanlp.specs.Cells.{Cell}
use Rattle.sanlp.specs.Laws.{entries_from, entries_of}
use Rattle.sanlp.specs.Memory.{is_cell}
use Rattle.sanlp.specs.Order.{IsPoint}
use Rattle.sanlp.specs.Points.{points_of, vectors_of}
use Rattle.sanlp.specs.Size.{size, size_limit}
use Rattle.sanlp.specs.Tags.{tag_at}
use Rattle.sanlp.specs.Trace.{trace}
use Rattle.sanlp.specs.WellFormed.{depth_of}
use Rattle.sanlp.specs.Writers.{last_before, writes}
use Rattle.sanlp.proofs.Enumerates.{enumerates_domains}
use Rattle.sanlp.proofs.Lists.{map-range_with_len_replicate, set_counted, split_at}
use Rattle.sanlp.proofs.NestFacts.{trace_within}
use Rattle.sanlp.proofs.ReadCounts.{trace-next_statement}
use Rattle.source_tree.specs.Sources.{read_number, source_at, sources_from, sources_of}
use Rattle.shadow_sweep.specs.LastWrites.{LastWrites, noted, no_writes, with_sources}
use Rattle.shadow_sweep.proofs.Lists.{longer_counted, map_places, sources_after, sources_in_front}

-- how many of the first t entries are of statement s
abbrev pub turns_before : List Point → ℕ → ℕ → ℕ
turns_before points t s = count_by (λ q. q.statement == s) (take t points)

-- the tag of the last writer of a cell before entry t
abbrev pub tag_before : Nest → List Point → ℕ → LastWrites
tag_before n points t cell = option_and_then (tag_at points) (last_before n points t cell)

-- the sources at the first t entries; the first of these statements has number p
abbrev pub sources_before : Nest → List Point → ℕ → ℕ → List Statement → List (List (Option Tag))
sources_before n points t p [] = []
sources_before n points t p (s ∷ statements) =
    map (λ k. map (source_at n points k) (entries_of (take t points) p)) (range_with_len 0 (length s.reads))
    ++ sources_before n points t (p + 1) statements

-- the turns, the last writes and the sources after the first t entries
pub record IsSwept (n : Nest) (t : ℕ) (turns : List ℕ) (writes : LastWrites)
    (lists : List (List (Option Tag))) : Type 0 where
  pub turns_are : turns ≡ map (turns_before (trace n) t) (range_with_len 0 (length n.statements))
  pub writes_are : (cell : Cell) → writes cell ≡ tag_before n (trace n) t cell
  pub lists_are : lists ≡ sources_before n (trace n) t 0 n.statements

-- Before the first entry.
none_before : (n : Nest) (points : List Point) (p : ℕ) (statements : List Statement)
    → replicate (sum_by (λ s. length s.reads) statements) [] ≡ sources_before n points 0 p statements
none_before n points p [] = refl
none_before n points p (s ∷ statements) =
    ap (λ k. replicate k []) (sum_by-cons (λ s. length s.reads) s statements)
    ∙ sym (replicate-append-replicate (length s.reads) (sum_by (λ s. length s.reads) statements) [])
    ∙ ap (λ ls. ls ++ replicate (sum_by (λ s. length s.reads) statements) [])
    (sym (map-range_with_len_replicate (λ k. map (source_at n points k) []) [] 0 (length s.reads) (λ k. refl)))
    ∙ ap (λ ls. map (λ k. map (source_at n points k) []) (range_with_len 0 (length s.reads)) ++ ls)
    (none_before n points (p + 1) statements)

pub swept_none : (n : Nest) (turns : List ℕ) (writes : LastWrites) (lists : List (List (Option Tag)))
    → turns ≡ replicate (length n.statements) 0 → writes ≡ no_writes
    → lists ≡ replicate (sum_by (λ s. length s.reads) n.statements) []
    → IsSwept n 0 turns writes lists
unfolding last_before
swept_none n turns writes lists e f g = record {
  turns_are = e ∙ sym (map-range_with_len_replicate (turns_before (trace n) 0) 0 0 (length n.statements) (λ k. refl));
  writes_are = λ cell. ap (λ w. w cell) f;
  lists_are = g ∙ none_before n (trace n) 0 n.statements;
}

-- After the last entry.
all_before : (n : Nest) (points : List Point) (p : ℕ) (statements : List Statement)
    → sources_before n points (length points) p statements ≡ sources_from n points p statements
all_before n points p [] = refl
all_before n points p (s ∷ statements) =
    ap (λ seen. map (λ k. map (source_at n points k) (entries_of seen p)) (range_with_len 0 (length s.reads))
    ++ sources_before n points (length points) (p + 1) statements) (take_all (length points) points (omega arith))
    ∙ ap (λ ls. map (λ k. map (source_at n points k) (entries_of points p)) (range_with_len 0 (length s.reads)) ++ ls)
    (all_before n points (p + 1) statements)

pub swept_all : (n : Nest) (turns : List ℕ) (writes : LastWrites) (lists : List (List (Option Tag)))
    → IsSwept n (length (trace n)) turns writes lists → lists ≡ sources_of n
unfolding sources_of
swept_all n turns writes lists swept = swept.lists_are ∙ all_before n (trace n) 0 n.statements

-- As many turns as points.
count_vectors : (points : List Point) (s : ℕ) → count_by (λ q. q.statement == s) points ≡ length (vectors_of points s)
count_vectors [] s = refl
count_vectors (p ∷ points) s =
    sum_by-cons (λ q. cond (q.statement == s) 1 0) p points
    ∙ ap (λ m. cond (p.statement == s) 1 0 + m) (count_vectors points s)
    ∙ elim (p.statement == s) as
    (λ b. cond b 1 0 + length (vectors_of points s)
    ≡ length (cond b (p.at ∷ vectors_of points s) (vectors_of points s))) [ true ↦ omega arith | false ↦ omega arith ]

counted_all : (points : List Point) (a m : ℕ)
    → map (turns_before points (length points)) (range_with_len a m)
    ≡ map length (map (vectors_of points) (range_with_len a m))
counted_all points a zero = refl
counted_all points a (suc m) =
    ap (λ k. k ∷ map (turns_before points (length points)) (range_with_len (a + 1) m))
    (ap (count_by (λ q. q.statement == a)) (take_all (length points) points (omega arith)) ∙ count_vectors points a)
    ∙ ap (λ ks. length (vectors_of points a) ∷ ks) (counted_all points (a + 1) m)

pub turns_all : (n : Nest) (turns : List ℕ) (writes : LastWrites) (lists : List (List (Option Tag)))
    → IsSwept n (length (trace n)) turns writes lists → turns ≡ map length (points_of n)
unfolding points_of
turns_all n turns writes lists swept = swept.turns_are ∙ counted_all (trace n) 0 (length n.statements)

-- How many lists there are, and how great the turns.
pub length-sources_before : (n : Nest) (points : List Point) (t p : ℕ) (statements : List Statement)
    → length (sources_before n points t p statements) ≡ sum_by (λ s. length s.reads) statements
length-sources_before n points t p [] = refl
length-sources_before n points t p (s ∷ statements) =
    omega (
      arith,
      length-append
          (map (λ k. map (source_at n points k) (entries_of (take t points) p)) (range_with_len 0 (length s.reads)))
          (sources_before n points t (p + 1) statements),
      length-map-range_with_len (λ k. map (source_at n points k) (entries_of (take t points) p)) 0 (length s.reads),
      length-sources_before n points t (p + 1) statements,
      sum_by-cons (λ s. length s.reads) s statements,
    )

-- One entry more.
entry_more : (b c : Bool) (v : ℕ) (es : List ℕ) (u : ℕ)
    → cond c (u ∷ cond b (es ++ v ∷ []) es) (cond b (es ++ v ∷ []) es)
    ≡ cond b (cond c (u ∷ es) es ++ v ∷ []) (cond c (u ∷ es) es)
entry_more true true v es u = refl
entry_more true false v es u = refl
entry_more false true v es u = refl
entry_more false false v es u = refl

entries_more : (u : ℕ) (points : List Point) (p : Point) (s : ℕ)
    → entries_from u (points ++ p ∷ []) s
    ≡ cond (p.statement == s) (entries_from u points s ++ (u + length points) ∷ []) (entries_from u points s)
entries_more u [] p s = let e : u ≡ u + 0 = omega arith in ap (λ v. cond (p.statement == s) (v ∷ []) []) e
entries_more u (q ∷ points) p s =
    let e : u + 1 + length points ≡ u + suc (length points) = omega arith in
    ap (λ es. cond (q.statement == s) (u ∷ es) es) (entries_more (u + 1) points p s)
    ∙ ap (λ v. cond (q.statement == s)
    (u ∷ cond (p.statement == s) (entries_from (u + 1) points s ++ v ∷ []) (entries_from (u + 1) points s))
    (cond (p.statement == s) (entries_from (u + 1) points s ++ v ∷ []) (entries_from (u + 1) points s))) e
    ∙ entry_more (p.statement == s) (q.statement == s) (u + suc (length points)) (entries_from (u + 1) points s) u

-- the last write of a cell after an entry
noted_more : (last : LastWrites) (written : Option Cell) (tag : Tag) (cell : Cell) (tags : ℕ → Option Tag) (t : ℕ)
    (o : Option ℕ)
    → last cell ≡ option_and_then tags o → tags t ≡ Some tag
    → noted last written tag cell
    ≡ option_and_then tags (cond (option_map_or (λ w. is_cell w cell) written false) (Some t) o)
noted_more last None tag cell tags t o before is = before
noted_more last (Some w) tag cell tags t o before is =
    elim (is_cell w cell) as
    (λ b. cond b (Some tag) (last cell)
    ≡ option_and_then tags (cond b (Some t) o)) [ true ↦ sym is | false ↦ before ]

module _ (n : Nest) (points : List Point) (t : ℕ) (p : Point) (s : Statement) (here : slice_get points t ≡ Some p)
    (found : slice_get n.statements p.statement ≡ Some s) where
  seen : take (suc t) points ≡ take t points ++ p ∷ []
  seen = take-suc_some points t p here

  -- the turns
  turn_of_other : (k : ℕ) → k ≢ p.statement → turns_before points t k ≡ turns_before points (suc t) k
  turn_of_other k ne =
      let other : p.statement ≢ k = λ e. ne (sym e) in
      sym (ap (count_by (λ q. q.statement == k)) seen
      ∙ sum_by_push (λ q. cond (q.statement == k) 1 0) (take t points) p
      ∙ ap (λ b. turns_before points t k + cond b 1 0) (ne_eqb p.statement k other)
      ∙ (let e : turns_before points t k + 0 ≡ turns_before points t k = omega arith in e))

  turn_of_this : turns_before points (suc t) p.statement ≡ turns_before points t p.statement + 1
  turn_of_this =
      ap (count_by (λ q. q.statement == p.statement)) seen
      ∙ sum_by_push (λ q. cond (q.statement == p.statement) 1 0) (take t points) p
      ∙ ap (λ b. turns_before points t p.statement + cond b 1 0) (eq-eqb p.statement p.statement refl)

  turns_more : (m : ℕ)
      → set (map (turns_before points t) (range_with_len 0 m)) p.statement (turns_before points t p.statement + 1)
      ≡ map (turns_before points (suc t)) (range_with_len 0 m)
  turns_more m =
      set_counted (turns_before points t)
      (turns_before points (suc t)) p.statement turn_of_this turn_of_other 0 m p.statement (omega arith)

  -- the last writes
  written : write_of n p ≡ option_map (cell_at p.at) s.write
  written = ap (option_and_then (λ s. option_map (cell_at p.at) s.write)) found

  tag_here : tag_at points t ≡ Some (record { process = p.statement; turn = turns_before points t p.statement })
  tag_here = ap (option_map (λ q. record { process = q.statement; turn = turns_before points t q.statement })) here

  writes_more : (last : LastWrites) → ((cell : Cell) → last cell ≡ tag_before n points t cell) → (cell : Cell)
      → noted last (option_map (cell_at p.at) s.write)
      (record { process = p.statement; turn = turns_before points t p.statement }) cell
      ≡ tag_before n points (suc t) cell
  unfolding last_before
  writes_more last before cell =
      noted_more last (option_map (cell_at p.at) s.write) _ cell (tag_at points) t (last_before n points t cell)
      (before cell) tag_here
      ∙ ap (λ w. option_and_then (tag_at points)
      (cond (option_map_or (λ w. is_cell w cell) w false) (Some t) (last_before n points t cell))) (sym written)
      ∙ ap (λ o. option_and_then (tag_at points)
      (cond (option_map_or (λ q. writes n q cell) o false) (Some t) (last_before n points t cell))) (sym here)

  -- the sources
  cells_read : reads_of n p ≡ map (cell_at p.at) s.reads
  cells_read = ap (λ o. option_map_or (λ s. map (cell_at p.at) s.reads) o []) found

  source_here : (k : ℕ) (cell : Cell) → slice_get (map (cell_at p.at) s.reads) k ≡ Some cell
      → source_at n points k t ≡ tag_before n points t cell
  source_here k cell e =
      ap (λ o. option_and_then (tag_at points)
      (option_and_then (last_before n points t) (option_and_then (λ q. slice_get (reads_of n q) k) o))) here
      ∙ ap (λ cells.
      option_and_then (tag_at points) (option_and_then (last_before n points t) (slice_get cells k))) cells_read
      ∙ ap (λ o. option_and_then (tag_at points) (option_and_then (last_before n points t) o)) e

  sources_here : (last : LastWrites) → ((cell : Cell) → last cell ≡ tag_before n points t cell)
      → map last (map (cell_at p.at) s.reads) ≡ map (λ k. source_at n points k t) (range_with_len 0 (length s.reads))
  sources_here last before =
      let cells : List Cell = map (cell_at p.at) s.reads in
      sym (ap (λ m. map (λ k. source_at n points k t) (range_with_len 0 m)) (sym (length-map s.reads (cell_at p.at)))
      ∙ map_places (λ k. source_at n points k t) last 0 cells
      (λ k cell e. let front : 0 + k ≡ k = omega arith in ap (λ j. source_at n points j t) front ∙ source_here k cell e
      ∙ sym (before cell)))

  entries_of_this : (q : ℕ) → q ≡ p.statement
      → entries_of (take (suc t) points) q ≡ entries_of (take t points) q ++ t ∷ []
  entries_of_this q e =
      let number : 0 + length (take t points) ≡ t = omega (arith, (split_at points t p here).1) in
      ap (λ ps. entries_of ps q) seen
      ∙ entries_more 0 (take t points) p q
      ∙ ap (λ b. cond b (entries_of (take t points) q ++ (0 + length (take t points)) ∷ [])
      (entries_of (take t points) q)) (eq-eqb p.statement q (sym e))
      ∙ ap (λ v. entries_of (take t points) q ++ v ∷ []) number

  entries_of_other : (q : ℕ) → q ≢ p.statement → entries_of (take (suc t) points) q ≡ entries_of (take t points) q
  entries_of_other q ne =
      let other : p.statement ≢ q = λ e. ne (sym e) in
      ap (λ ps. entries_of ps q) seen
      ∙ entries_more 0 (take t points) p q
      ∙ ap (λ b. cond b (entries_of (take t points) q ++ (0 + length (take t points)) ∷ [])
      (entries_of (take t points) q)) (ne_eqb p.statement q other)

  -- the sources of the reads of statement q at these entries
  block : ℕ → List ℕ → List (List (Option Tag))
  block m es = map (λ k. map (source_at n points k) es) (range_with_len 0 m)

  later_stay : (q : ℕ) (statements : List Statement) → p.statement < q
      → sources_before n points t q statements ≡ sources_before n points (suc t) q statements
  unfolding block
  later_stay q [] h = refl
  later_stay q (x ∷ statements) h =
      ap (λ es. block (length x.reads) es ++ sources_before n points t (q + 1) statements)
      (sym (entries_of_other q (λ e. omega arith)))
      ∙ ap (λ ls. block (length x.reads) (entries_of (take (suc t) points) q) ++ ls)
      (later_stay (q + 1) statements (omega arith))

  sources_added : (q : ℕ) (statements : List Statement) (j : ℕ) → q + j ≡ p.statement → slice_get statements j ≡ Some s
      → with_sources (sources_before n points t q statements) (sum_by (λ x. length x.reads) (take j statements) + 0)
      (map (λ k. source_at n points k t) (range_with_len 0 (length s.reads)))
      ≡ sources_before n points (suc t) q statements
  unfolding block
  sources_added q [] j e f = absurd (cc)
  sources_added q (x ∷ statements) zero e f =
      let m : ℕ = length x.reads in
      let now : List (Option Tag) = map (λ k. source_at n points k t) (range_with_len 0 m) in
      let es : List ℕ = entries_of (take t points) q in
      let rest : List (List (Option Tag)) = sources_before n points t (q + 1) statements in
      let this : q ≡ p.statement = omega arith in
      ap (λ y. with_sources (block m es ++ rest) 0
      (map (λ k. source_at n points k t) (range_with_len 0 (length y.reads)))) (sym (same_Some x s f))
      ∙ sources_in_front (block m es) rest now
      (length-map-range_with_len (λ k. map (source_at n points k) es) 0 m
      ∙ sym (length-map-range_with_len (λ k. source_at n points k t) 0 m))
      ∙ ap (λ ls. ls ++ rest)
      (longer_counted (λ k. map (source_at n points k) es) (λ k. source_at n points k t) 0 m
      ∙ map-same _ (λ k. map (source_at n points k) (entries_of (take (suc t) points) q))
      (λ k. sym (ap (map (source_at n points k)) (entries_of_this q this)
      ∙ map-append (source_at n points k) es (t ∷ []))) (range_with_len 0 m))
      ∙ ap (λ ls. block m (entries_of (take (suc t) points) q) ++ ls) (later_stay (q + 1) statements (omega arith))
  sources_added q (x ∷ statements) (suc j) e f =
      let m : ℕ = length x.reads in
      let now : List (Option Tag) = map (λ k. source_at n points k t) (range_with_len 0 (length s.reads)) in
      let es : List ℕ = entries_of (take t points) q in
      let rest : List (List (Option Tag)) = sources_before n points t (q + 1) statements in
      let before : ℕ = sum_by (λ x. length x.reads) (take j statements) in
      let other : q ≢ p.statement = λ is. omega arith in
      ap (λ i. with_sources (block m es ++ rest) i now)
      (ap (λ w. w + 0) (sum_by-cons (λ x. length x.reads) x (take j statements))
      ∙ add_assoc m before 0
      ∙ ap (λ w. w + (before + 0)) (sym (length-map-range_with_len (λ k. map (source_at n points k) es) 0 m)))
      ∙ sources_after (block m es) rest (before + 0) now
      ∙ ap (λ es. block m es ++ with_sources rest (before + 0) now) (sym (entries_of_other q other))
      ∙ ap (λ ls. block m (entries_of (take (suc t) points) q) ++ ls)
      (sources_added (q + 1) statements j (omega arith) f)

-- the turn of an entry
pub turn_is : (n : Nest) (t s : ℕ) (turns : List ℕ) (writes : LastWrites) (lists : List (List (Option Tag)))
    → IsSwept n t turns writes lists → s < length n.statements → get_or turns s 0 ≡ turns_before (trace n) t s
turn_is n t s turns writes lists swept within =
    ap (λ ts. get_or ts s 0) swept.turns_are
    ∙ get_or-map-range_with_len (turns_before (trace n) t) 0 (length n.statements) s s 0 within (omega arith)

pub swept_more : (n : Nest) (t : ℕ) (p : Point) (s : Statement)
    (turns turns' : List ℕ) (writes writes' : LastWrites) (lists lists' : List (List (Option Tag)))
    → slice_get (trace n) t ≡ Some p → slice_get n.statements p.statement ≡ Some s → IsSwept n t turns writes lists
    → turns' ≡ set turns p.statement (get_or turns p.statement 0 + 1)
    → writes'
    ≡ noted writes (option_map (cell_at p.at) s.write)
    (record { process = p.statement; turn = get_or turns p.statement 0 })
    → lists' ≡ with_sources lists (read_number n p.statement 0) (map writes (map (cell_at p.at) s.reads))
    → IsSwept n (suc t) turns' writes' lists'
swept_more n t p s turns turns' writes writes' lists lists' here found swept e f g =
    let points = trace n in
    let turn = turn_is n t p.statement turns writes lists swept (slice_get_within n.statements p.statement s found) in
    let first : 0 + p.statement ≡ p.statement = omega arith in
    record {
      turns_are = e ∙ ap (λ v. set turns p.statement (v + 1)) turn
          ∙ ap (λ ts. set ts p.statement (turns_before points t p.statement + 1)) swept.turns_are
          ∙ turns_more n points t p s here found (length n.statements);
      writes_are = λ cell. ap (λ w. w cell) f
          ∙ ap (λ v. noted writes (option_map (cell_at p.at) s.write)
          (record { process = p.statement; turn = v }) cell) turn
          ∙ writes_more n points t p s here found writes swept.writes_are cell;
      lists_are =
          g ∙ ap (with_sources lists (read_number n p.statement 0))
          (sources_here n points t p s here found writes swept.writes_are)
          ∙ ap (λ ls. with_sources ls (read_number n p.statement 0)
          (map (λ k. source_at n points k t) (range_with_len 0 (length s.reads)))) swept.lists_are
          ∙ sources_added n points t p s here found 0 n.statements p.statement first found;
    }

-- there is a list for each of an entry's reads
sum_within : (statements : List Statement) (j : ℕ) (s : Statement) → slice_get statements j ≡ Some s
    → sum_by (λ x. length x.reads) (take j statements) + length s.reads ≤ sum_by (λ x. length x.reads) statements
sum_within [] j s e = absurd (cc)
sum_within (x ∷ statements) zero s e =
    omega (arith, sum_by-cons (λ x. length x.reads) x statements, ap (λ y. length y.reads) (same_Some x s e))
sum_within (x ∷ statements) (suc j) s e =
    omega (
      arith,
      sum_by-cons (λ x. length x.reads) x (take j statements),
      sum_by-cons (λ x. length x.reads) x statements,
      sum_within statements j s e,
    )

pub reads_have_lists : (n : Nest) (t : ℕ) (p : Point) (s : Statement) (turns : List ℕ) (writes : LastWrites)
    (lists : List (List (Option Tag)))
    → slice_get n.statements p.statement ≡ Some s → IsSwept n t turns writes lists
    → read_number n p.statement 0 + length s.reads ≤ length lists
reads_have_lists n t p s turns writes lists found swept =
    let total = ap length swept.lists_are ∙ length-sources_before n (trace n) t 0 n.statements in
    omega (arith, total, sum_within n.statements p.statement s found)

-- the turns are no more than the entries
pub few_turns : (points : List Point) (t s : ℕ) → turns_before points t s ≤ t
few_turns points t s =
    omega (arith, count_by-le-length (λ q. q.statement == s) (take t points), length-take t points)

module _ (n : Nest) (left later : List Point) (p : Point) (e : drop (length (trace n) - length left) (trace n) ≡ left)
    (f : left ≡ p ∷ later) where
  point : IsPoint n p
  point = (enumerates_domains n).entry _ p (left-first (trace n) left later p e f)

  pub depth_is : (s : Statement) → slice_get n.statements p.statement ≡ Some s → depth_of s ≡ length p.at
  depth_is s found = sym (point.deep ∙ ap (λ x. length x.loops) (same_Some point.statement s (sym point.found ∙ found)))

  module _ (turns : List ℕ) (writes : LastWrites) (lists : List (List (Option Tag)))
      (swept : IsSwept n (length (trace n) - length left) turns writes lists) where
    pub turn_exists : p.statement < length turns
    turn_exists =
        omega (
          arith,
          trace-next_statement n left later p e f,
          ap length swept.turns_are,
          length-map-range_with_len
              (turns_before (trace n) (length (trace n) - length left)) 0 (length n.statements),
        )

    pub turn_is_small : size n ≤ size_limit → get_or turns p.statement 0 < 4294967295
    turn_is_small small =
        omega (
          arith,
          turn_is n (length (trace n) - length left) p.statement turns writes lists swept
              (trace-next_statement n left later p e f),
          few_turns (trace n) (length (trace n) - length left) p.statement,
          trace_within n,
        )

    pub swept_later : (s : Statement) (turns' : List ℕ) (writes' : LastWrites) (lists' : List (List (Option Tag)))
        (turn first : ℕ)
        → slice_get n.statements p.statement ≡ Some s
        → turn ≡ get_or turns p.statement 0 → first ≡ read_number n p.statement 0
        → turns' ≡ set turns p.statement (get_or turns p.statement 0 + 1)
        → writes' ≡ noted writes (option_map (cell_at p.at) s.write) (record { process = p.statement; turn = turn })
        → lists' ≡ with_sources lists first (map writes (map (cell_at p.at) s.reads))
        → IsSwept n (length (trace n) - length later) turns' writes' lists'
    swept_later s turns' writes' lists' turn first found same number g h i =
        subst (λ t. IsSwept n t turns' writes' lists') (sym (left-length (trace n) left later p e f))
        (swept_more n (length (trace n) - length left) p s turns turns' writes writes' lists lists'
        (left-first (trace n) left later p e f) found swept g
        (h ∙ ap (λ v.
        noted writes (option_map (cell_at p.at) s.write) (record { process = p.statement; turn = v })) same)
        (i ∙ ap (λ k. with_sources lists k (map writes (map (cell_at p.at) s.reads))) number))

pub first_is : (n : Nest) (firsts : List ℕ) (s : ℕ)
    → firsts ≡ map (λ p. read_number n p 0) (range_with_len 0 (length n.statements)) → s < length n.statements
    → get_or firsts s 0 ≡ read_number n s 0
first_is n firsts s e h =
    ap (λ xs. get_or xs s 0) e
    ∙ get_or-map-range_with_len (λ p. read_number n p 0) 0 (length n.statements) s s 0 h (omega arith)
