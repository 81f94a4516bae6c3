-- The table of sources, row by row, by trees that are usable.
--
-- At each turn of its reader a tree gives the point of the last writer, so the tag of that point is the source there: a
-- row is that of the exact table, turn by turn. The rows stand in the order of statements and reads, and one statement
-- more adds those of its reads at the end.
use Rattle.std.proofs.Common.{◌≡◌, ◌+◌, ◌<◌, ℕ, suc, ℤ, List, [], ◌∷◌, ◌++◌, map, length, take, get_or}
use Rattle.std.proofs.Common.{refl, sym, ap, ◌∙◌, arith, append_assoc, append-nil, add-one}
use Rattle.std.proofs.Common.{add-zero, zero-add}
use Rattle.std.specs.Prelude.{Option, Some, None, slice_get}
use Rattle.std.specs.List.{range_with_len}
use Rattle.std.specs.Option.{option_and_then, option_map_or}
use Rattle.std.proofs.lemmas.List.{map-append}
use Rattle.std.proofs.lemmas.Option.{slice_get_within, get_or_from_slice_get}
use Rattle.std.proofs.Math.Seq.{take-length}
use Rattle.sanlp.specs.Access.{read_count}
use Rattle.sanlp.specs.declared.nest.Nest.{Nest}
use Rattle.sanlp.specs.declared.nest.Point.{Point}
use Rattle.sanlp.specs.declared.nest.Statement.{Statement}
use Rattle.sanlp.specs.declared.nest.Tag.{Tag}
use Rattle.sanlp.specs.Laws.{entries_of}
use Rattle.sanlp.specs.Points.{points_of}
use Rattle.sanlp.specs.Tags.{tag_at}
use Rattle.sanlp.specs.Trace.{trace}
use Rattle.sanlp.specs.Writers.{last_writer}
use Rattle.sanlp.proofs.Enumerates.{enumerates_domains}
use Rattle.sanlp.proofs.Lists.{range_with_len_more, split_at}
use Rattle.source_check.proofs.Exactness.{checked_is_exact}
use Rattle.source_tree.specs.declared.tree.Tree.{Tree}
use Rattle.source_tree.specs.Checked.{IsChecked}
use Rattle.source_tree.specs.Exact.{IsPointOf}
use Rattle.source_tree.specs.Gives.{gives}
use Rattle.source_tree.specs.Sources.{read_sources, source_at, sources_from, sources_of}
use Rattle.net_core.specs.Shape.{turns}
use Rattle.net_core.proofs.FireValues.{entry_count, turn_entry}
use Rattle.plain_data.proofs.Lists.{slice_get-some, take-suc_some}

-- a turn of the reader, and what the tree gives there
pub record GivenAt (n : Nest) (s k : ℕ) (tree : Tree) (f : ℕ) (at : List ℤ) : Type 0 where
  pub entry : ℕ
  pub is : slice_get (entries_of (trace n) s) f ≡ Some entry
  pub given : IsPointOf (trace n) (last_writer n entry k) (gives tree at)

pub given_at : (n : Nest) (s k : ℕ) (tree : Tree) → IsChecked n s k tree → (f : ℕ) (at : List ℤ)
    → slice_get (get_or (points_of n) s []) f ≡ Some at → GivenAt n s k tree f at
given_at n s k tree checked f at is =
    let e = turn_entry n s f (slice_get_within (get_or (points_of n) s []) f at is) in
    let same : e.point.at ≡ at = sym e.vector ∙ get_or_from_slice_get (get_or (points_of n) s []) f at [] is in
    let found : slice_get (trace n) e.entry ≡ Some (record { statement = s; at = at }) =
    e.found ∙ ap (λ s. Some (record { statement = s; at = e.point.at })) e.process
    ∙ ap (λ at. Some (record { statement = s; at = at })) same in
    record {
      entry = e.entry;
      is = e.is;
      given =
          checked_is_exact n s k tree (enumerates_domains n) checked e.entry at found;
    }

-- the sources at the first so many turns
abbrev pub sources_upto : Nest → ℕ → ℕ → ℕ → List (Option Tag)
sources_upto n s k f = map (source_at n (trace n) k) (take f (entries_of (trace n) s))

-- one turn more
pub row_more : (n : Nest) (s k f : ℕ) (at : List ℤ) (tree : Tree) (before after : List (Option Tag)) (tag : Option Tag)
    (g : GivenAt n s k tree f at) → before ≡ sources_upto n s k f
    → ((writer : Option ℕ) → IsPointOf (trace n) writer (gives tree at) → tag
    ≡ option_and_then (tag_at (trace n)) writer) → after ≡ before ++ tag ∷ [] → after ≡ sources_upto n s k (f + 1)
row_more n s k f at tree before after tag g was told added =
    let entries = entries_of (trace n) s in
    added ∙ ap (λ (xs : List (Option Tag)). xs ++ tag ∷ []) was
    ∙ ap (λ t. sources_upto n s k f ++ t ∷ []) (told (last_writer n g.entry k) g.given)
    ∙ sym (ap (map (source_at n (trace n) k)) (ap (λ i. take i entries) (add-one f) ∙ take-suc_some entries f g.entry g.is)
    ∙ map-append (source_at n (trace n) k) (take f entries) (g.entry ∷ []))

-- all turns
pub row_whole : (n : Nest) (s k f : ℕ) → f ≡ turns (points_of n) s → sources_upto n s k f ≡ read_sources n (trace n) s k
row_whole n s k f all =
    ap (map (source_at n (trace n) k))
    (ap (λ i. take i (entries_of (trace n) s)) (all ∙ sym (entry_count n s)) ∙ take-length (entries_of (trace n) s))

-- one read more
pub reads_more : (n : Nest) (s k : ℕ) (initial before after : List (List (Option Tag))) (row : List (Option Tag))
    → before ≡ initial ++ map (read_sources n (trace n) s) (range_with_len 0 k)
    → row ≡ read_sources n (trace n) s k → after ≡ before ++ row ∷ [] → after ≡ initial
    ++ map (read_sources n (trace n) s) (range_with_len 0 (k + 1))
reads_more n s k initial before after row was is added =
    let rows : ℕ → List (List (Option Tag)) = λ j. map (read_sources n (trace n) s) (range_with_len 0 j) in
    added ∙ ap (λ (xs : List (List (Option Tag))). xs ++ row ∷ []) was
    ∙ append_assoc initial (rows k) (row ∷ [])
    ∙ ap (λ (r : List (Option Tag)). initial ++ (rows k ++ r ∷ [])) is
    ∙ ap (λ xs. initial ++ xs)
    (sym (ap (map (read_sources n (trace n) s)) (range_with_len_more 0 k k (zero-add k))
    ∙ map-append (read_sources n (trace n) s) (range_with_len 0 k) (k ∷ [])))

-- one statement more
sources_add : (n : Nest) (points : List Point) (p : ℕ) (front : List Statement) (s : Statement)
    → sources_from n points p (front ++ s ∷ []) ≡ sources_from n points p front
    ++ map (read_sources n points (p + length front)) (range_with_len 0 (length s.reads))
sources_add n points p [] s =
    let rows = map (read_sources n points p) (range_with_len 0 (length s.reads)) in
    append-nil rows ∙ ap (λ q. map (read_sources n points q) (range_with_len 0 (length s.reads))) (sym (add-zero p))
sources_add n points p (x ∷ front) s =
    let first = map (read_sources n points p) (range_with_len 0 (length x.reads)) in
    let later : p + 1 + length front ≡ p + suc (length front) = omega arith in
    ap (λ rows. first ++ rows) (sources_add n points (p + 1) front s)
    ∙ sym (append_assoc first (sources_from n points (p + 1) front)
    (map (read_sources n points (p + 1 + length front)) (range_with_len 0 (length s.reads))))
    ∙ ap (λ q. (first ++ sources_from n points (p + 1) front)
    ++ map (read_sources n points q) (range_with_len 0 (length s.reads))) later

-- the rows of the first so many statements
abbrev pub rows_upto : Nest → ℕ → List (List (Option Tag))
rows_upto n s = sources_from n (trace n) 0 (take s n.statements)

pub rows_more : (n : Nest) (s : ℕ) (before after : List (List (Option Tag))) → s < length n.statements → before
    ≡ rows_upto n s
    → after ≡ before ++ map (read_sources n (trace n) s) (range_with_len 0 (read_count n s)) → after
    ≡ rows_upto n (s + 1)
rows_more n s before after lt was added = go (slice_get n.statements s) refl where
  go : (o : Option Statement) → slice_get n.statements s ≡ o → after ≡ rows_upto n (s + 1)
  go None is = absurd (let item = slice_get-some n.statements s lt in let e : Some item.0 ≡ None = sym item.1 ∙ is in cc)
  go (Some st) is =
      let count : read_count n s ≡ length st.reads =
      ap (λ o. option_map_or (λ (st : Statement). length st.reads) o 0) is in
      let number : 0 + length (take s n.statements) ≡ s =
      (let e : 0 + length (take s n.statements) ≡ length (take s n.statements) = omega arith in e)
      ∙ (split_at n.statements s st is).1 in
      added ∙ ap (λ (rows : List (List (Option Tag))). rows
      ++ map (read_sources n (trace n) s) (range_with_len 0 (read_count n s))) was
      ∙ ap (λ m. rows_upto n s ++ map (read_sources n (trace n) s) (range_with_len 0 m)) count
      ∙ ap (λ q. rows_upto n s ++ map (read_sources n (trace n) q) (range_with_len 0 (length st.reads))) (sym number)
      ∙ sym (ap (sources_from n (trace n) 0) (ap (λ i. take i n.statements) (add-one s)
      ∙ take-suc_some n.statements s st is) ∙ sources_add n (trace n) 0 (take s n.statements) st)

pub rows_whole : (n : Nest) (s : ℕ) → s ≡ length n.statements → rows_upto n s ≡ sources_of n
unfolding sources_of
rows_whole n s all = ap (sources_from n (trace n) 0) (ap (λ i. take i n.statements) all ∙ take-length n.statements)
