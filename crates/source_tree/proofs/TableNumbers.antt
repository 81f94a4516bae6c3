-- The exact table by the numbers of its reads.
use Rattle.std.proofs.Common.{◌≡◌, ◌<◌, ◌+◌, ℕ, zero, suc, List, [], ◌∷◌, ◌++◌, map, length, take, sym, ap, ◌∙◌}
use Rattle.std.proofs.Common.{arith, add_assoc}
use Rattle.std.specs.Prelude.{Some, slice_get}
use Rattle.std.specs.List.{range_with_len, sum_by}
use Rattle.std.specs.Option.{option_and_then, option_map, option_map_or}
use Rattle.std.proofs.lemmas.List.FromFn.{length-map-range_with_len}
use Rattle.std.proofs.lemmas.List.Sums.{sum_by-cons}
use Rattle.std.proofs.lemmas.Option.{slice_get-map}
use Rattle.plain_data.proofs.Lists.{slice_get-append_some, slice_get-append_right}
use Rattle.sanlp.specs.declared.nest.Nest.{Nest}
use Rattle.sanlp.specs.declared.nest.Point.{Point}
use Rattle.sanlp.specs.declared.nest.Statement.{Statement}
use Rattle.sanlp.specs.Laws.{entries_of}
use Rattle.sanlp.specs.Trace.{trace}
use Rattle.sanlp.proofs.Lists.{slice_get-map-range_with_len}
use Rattle.source_tree.specs.Sources.{GivesLastWriters, read_sources, source_at, sources_from, sources_of}

module _ (n : Nest) (points : List Point) where
  -- the list of one read, among those of statements of which the first has number p
  pub read_at : (p : ℕ) (statements : List Statement) (j k : ℕ)
      → k < option_map_or (λ s. length s.reads) (slice_get statements j) 0
      → slice_get (sources_from n points p statements) (sum_by (λ s. length s.reads) (take j statements) + k)
      ≡ Some (read_sources n points (p + j) k)
  read_at p [] j k h = absurd (omega arith)
  read_at p (s ∷ statements) zero k h =
      let reads : List ℕ = range_with_len 0 (length s.reads) in
      let front : 0 + k ≡ k = omega arith in
      let first : p ≡ p + 0 = omega arith in
      ap (slice_get (map (read_sources n points p) reads ++ sources_from n points (p + 1) statements)) front
      ∙ slice_get-append_some (map (read_sources n points p) reads) _ k (read_sources n points p k)
      (slice_get-map-range_with_len (read_sources n points p) 0 (length s.reads) k k h front)
      ∙ ap (λ q. Some (read_sources n points q k)) first
  read_at p (s ∷ statements) (suc j) k h =
      let reads : List ℕ = range_with_len 0 (length s.reads) in
      let before : ℕ = sum_by (λ s. length s.reads) (take j statements) in
      let later : p + 1 + j ≡ p + suc j = omega arith in
      ap (slice_get (map (read_sources n points p) reads ++ sources_from n points (p + 1) statements))
      (ap (λ w. w + k) (sum_by-cons (λ s. length s.reads) s (take j statements))
      ∙ add_assoc (length s.reads) before k
      ∙ ap (λ w. w + (before + k)) (sym (length-map-range_with_len (read_sources n points p) 0 (length s.reads))))
      ∙ slice_get-append_right (map (read_sources n points p) reads) (sources_from n points (p + 1) statements)
      (before + k)
      ∙ read_at (p + 1) statements j k h
      ∙ ap (λ q. Some (read_sources n points q k)) later

pub gives_last_writers : (n : Nest) → GivesLastWriters n
unfolding sources_of
gives_last_writers n p k f t h e =
    let from_first : 0 + p ≡ p = omega arith in
    ap (option_and_then (λ sources. slice_get sources f)) (read_at n (trace n) 0 n.statements p k h)
    ∙ ap (λ q. slice_get (read_sources n (trace n) q k) f) from_first
    ∙ slice_get-map (source_at n (trace n) k) (entries_of (trace n) p) f
    ∙ ap (option_map (source_at n (trace n) k)) e
