-- The lines of a read's points, turn by turn and entry by entry.
--
-- Turn f of the reader is its f-th entry t of the trace, so its vector is that of the point of t. There the table has
-- the tag of the last writer u of t, which is the process of u with the number of u among that process's entries; so
-- the vector at the tag's turn is that of the point of u. Turn by turn, then, the text over points and table is that
-- over the entries. Nothing is shown here of which entry is the last writer: both texts have it from the definition.
use Rattle.std.proofs.Common.{◌≡◌, ◌<◌, ◌+◌, ℕ, suc, ℤ, List, [], ◌∷◌, ◌++◌, map, length, refl, sym, ap, ◌∙◌, arith}
use Rattle.std.proofs.Common.{zero-add, append_assoc, get_or}
use Rattle.std.specs.Prelude.{◌==◌, Option, Some, None, slice_get, codes, decimal, count_by, take}
use Rattle.std.specs.List.{enumerate_from, flat_map}
use Rattle.std.specs.Option.{option_and_then, option_map, option_map_or}
use Rattle.std.proofs.lemmas.List.{length-map}
use Rattle.std.proofs.lemmas.Option.{get_or_from_slice_get, same_Some}
use Rattle.net_core.proofs.Entries.{entry_at_turn, turn_of_entry}
use Rattle.net_core.proofs.FireValues.{vectors_at}
use Rattle.net_core.specs.Rules.{vector_at}
use Rattle.sanlp.specs.Access.{read_count}
use Rattle.sanlp.specs.Laws.{entries_of}
use Rattle.sanlp.specs.Points.{points_of, vectors_of}
use Rattle.sanlp.specs.Tags.{tag_at}
use Rattle.sanlp.specs.Trace.{trace}
use Rattle.sanlp.specs.Writers.{last_writer}
use Rattle.sanlp.specs.declared.nest.Nest.{Nest}
use Rattle.sanlp.specs.declared.nest.Point.{Point}
use Rattle.sanlp.specs.declared.nest.Tag.{Tag}
use Rattle.source_tree.proofs.TableNumbers.{read_at}
use Rattle.source_tree.specs.Sources.{read_number, read_sources, source_at, sources_of}
use Rattle.text_out.specs.Words.{line_text}
use Rattle.text_out.specs.Wrote.{Given, Wrote}
use Rattle.deps_text.specs.DepsText.{entry_text, fire_line, points_text, writing_point}
use Rattle.deps_text.specs.FireLines.{turn_line, turn_lines}

-- a piece for each number and what a list has there, where each is that of an item
numbered_alike : {X Y : Type 0} (piece : ℕ → Y → List ℕ) (text : X → List ℕ) (f : X → Y) (first : ℕ) (xs : List X)
    → ((i : ℕ) (x : X) → slice_get xs i ≡ Some x → piece (first + i) (f x) ≡ text x)
    → flat_map (λ numbered. piece numbered.0 numbered.1) (enumerate_from first (map f xs)) ≡ flat_map text xs
numbered_alike piece text f first [] same = refl
numbered_alike piece text f first (x ∷ xs) same =
    let start : first + 0 ≡ first = omega arith in
    let head : piece first (f x) ≡ text x = ap (λ k. piece k (f x)) (sym start) ∙ same 0 x refl in
    ap (λ front. front
    ++ flat_map (λ numbered. piece numbered.0 numbered.1) (enumerate_from (first + 1) (map f xs))) head
    ∙ ap (λ rest. text x ++ rest) (numbered_alike piece text f (first + 1) xs
    (λ i y found. let later : first + 1 + i ≡ first + suc i = omega arith in
    ap (λ k. piece k (f y)) later ∙ same (suc i) y found))

abbrev with_vector : ℕ → List ℤ → Point
with_vector s at = record { statement = s; at = at }

-- the point of a tag of the nest, and the tag of entry u, where p is its point
abbrev point_of_tag : Nest → Tag → Point
point_of_tag n t = with_vector t.process (vector_at (points_of n) t.process t.turn)

abbrev tag_of : Nest → ℕ → Point → Tag
tag_of n u p =
    record { process = p.statement; turn = count_by (λ q. q.statement == p.statement) (take u (trace n)) }

-- what a table has for a read
abbrev row_of : Nest → ℕ → ℕ → List (List (Option Tag)) → List (Option Tag)
row_of n s k table = get_or table (read_number n s k) []

module _ (n : Nest) where
  -- the vector at a turn is that of the turn's entry
  turn_vector : (s f t : ℕ) (p : Point) → slice_get (entries_of (trace n) s) f ≡ Some t
      → slice_get (trace n) t ≡ Some p → vector_at (points_of n) s f ≡ p.at
  turn_vector s f t p turn is =
      let e = entry_at_turn 0 (trace n) s f t turn in
      let place : e.place ≡ t = sym (e.is ∙ zero-add e.place) in
      let same : e.point ≡ p = same_Some e.point p (sym e.found ∙ ap (slice_get (trace n)) place ∙ is) in
      ap (λ (vectors : List (List ℤ)). get_or vectors f []) (vectors_at n s)
      ∙ get_or_from_slice_get (vectors_of (trace n) s) f e.point.at [] e.vector
      ∙ ap (λ (q : Point). q.at) same

  -- the point of a tag is that of the tag's entry
  tag_point : (u : ℕ) (found : Option Point) → slice_get (trace n) u ≡ found
      → option_map (point_of_tag n) (option_map (tag_of n u) found) ≡ found
  tag_point u None is = refl
  tag_point u (Some p) is =
      ap (λ (at : List ℤ). Some (with_vector p.statement at))
      (turn_vector p.statement (tag_of n u p).turn u p (turn_of_entry 0 (trace n) u p is ∙ ap Some (zero-add u)) is)

  writer_point : (writer : Option ℕ)
      → option_map (point_of_tag n) (option_and_then (tag_at (trace n)) writer)
      ≡ option_and_then (slice_get (trace n)) writer
  writer_point None = refl
  writer_point (Some u) = tag_point u (slice_get (trace n) u) refl

  -- the line of a turn is that of its entry
  line_of_turn : (s k f t : ℕ) → slice_get (entries_of (trace n) s) f ≡ Some t
      → turn_line (points_of n) s f (source_at n (trace n) k t) ≡ entry_text n k t
  line_of_turn s k f t turn =
      let e = entry_at_turn 0 (trace n) s f t turn in
      let place : e.place ≡ t = sym (e.is ∙ zero-add e.place) in
      let is : slice_get (trace n) t ≡ Some e.point = ap (slice_get (trace n)) (sym place) ∙ e.found in
      ap (λ (at : List ℤ). fire_line at (option_map (point_of_tag n) (source_at n (trace n) k t)))
      (turn_vector s f t e.point turn is)
      ∙ ap (fire_line e.point.at) (writer_point (last_writer n t k))
      ∙ sym (ap (λ (found : Option Point). option_map_or (λ p. fire_line p.at (writing_point n k t)) found []) is)

  lines_of_turns : (s k : ℕ) → turn_lines (points_of n) s (read_sources n (trace n) s k)
      ≡ flat_map (entry_text n k) (entries_of (trace n) s)
  lines_of_turns s k =
      numbered_alike (turn_line (points_of n) s) (entry_text n k) (source_at n (trace n) k) 0 (entries_of (trace n) s)
      (λ f t turn. ap (λ i. turn_line (points_of n) s i (source_at n (trace n) k t)) (zero-add f)
      ∙ line_of_turn s k f t turn)

  -- what the table has for a read
  table_row : (s k : ℕ) → k < read_count n s → row_of n s k (sources_of n) ≡ read_sources n (trace n) s k
  unfolding sources_of
  table_row s k h =
      get_or_from_slice_get _ (read_number n s k) (read_sources n (trace n) s k) []
      (read_at n (trace n) 0 n.statements s k h ∙ ap (λ p. Some (read_sources n (trace n) p k)) (zero-add s))

abbrev count_line : ℕ → List ℕ
count_line m = line_text (codes "points" ∷ decimal m ∷ [])

-- the number of points and their lines make the text of a read
pub points_told : {W : Type 0} (given : W → Given) (n : Nest) (s k : ℕ) {a b c : W}
    (points : List (List (List ℤ))) (table : List (List (Option Tag))) (sources : List (Option Tag))
    → points ≡ points_of n → table ≡ sources_of n → sources ≡ row_of n s k table
    → k < read_count n s
    → Wrote given a b (count_line (length sources))
    → Wrote given b c (turn_lines points s sources) → Wrote given a c (points_text n s k)
points_told given n s k {a} {b} {c} points table sources points_are table_is sources_are h one two =
    let are : sources ≡ read_sources n (trace n) s k =
    sources_are ∙ ap (row_of n s k) table_is ∙ table_row n s k h in
    let count : length sources ≡ length (entries_of (trace n) s) =
    ap (λ (l : List (Option Tag)). length l) are ∙ length-map (entries_of (trace n) s) (source_at n (trace n) k) in
    let lines : turn_lines points s sources ≡ flat_map (entry_text n k) (entries_of (trace n) s) =
    ap (λ (l : List (List (List ℤ))). turn_lines l s sources) points_are
    ∙ ap (λ (l : List (Option Tag)). turn_lines (points_of n) s l) are
    ∙ lines_of_turns n s k in (
      two.0 ∙ one.0,
      two.1 ∙ ap (λ (text : List ℕ). text ++ turn_lines points s sources) one.1
          ∙ append_assoc (given a).text (count_line (length sources)) (turn_lines points s sources)
          ∙ ap (λ (m : ℕ). (given a).text ++ (count_line m ++ turn_lines points s sources)) count
          ∙ ap (λ (rest : List ℕ). (given a).text ++ (count_line (length (entries_of (trace n) s)) ++ rest)) lines,
    )
