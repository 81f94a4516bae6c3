-- The accesses of an entry of the trace, by its statement's narrow forms.
use Rattle.std.proofs.Common.{◌≡◌, ◌≤◌, ◌-◌, ℕ, ℤ, List, ◌∷◌, map, length, drop, get_or, sym, ap, ◌∙◌, arith}
use Rattle.std.specs.Prelude.{Option, Some, true, nat_le, slice_get}
use Rattle.std.specs.List.{list_all}
use Rattle.std.specs.Option.{option_map, option_map_or}
use Rattle.std.proofs.lemmas.Bool.{and_parts, leb-true}
use Rattle.sanlp.specs.declared.nest.Nest.{Nest}
use Rattle.sanlp.specs.declared.nest.Point.{Point}
use Rattle.sanlp.specs.declared.nest.Statement.{Statement}
use Rattle.sanlp.specs.declared.nest.Tag.{Tag}
use Rattle.sanlp.specs.Access.{cell_at}
use Rattle.sanlp.specs.Trace.{trace}
use Rattle.sanlp.proofs.ReadCounts.{trace-next_statement}
use Rattle.cell_rows.specs.declared.narrow_access.NarrowStatement.{NarrowStatement}
use Rattle.cell_rows.specs.Narrow.{narrowed}
use Rattle.cell_rows.specs.ShortAccesses.{access_short, statement_short}
use Rattle.cell_rows.proofs.NarrowStatements.{statement_of_narrow}
use Rattle.cell_rows.proofs.ShortStatements.{found_is_short, short_reads, short_write}
use Rattle.shadow_sweep.specs.LastWrites.{LastWrites, noted, with_sources}
use Rattle.shadow_sweep.proofs.SweepState.{depth_is}

few_of : (depth : ℕ) (accesses : NarrowStatement) (s : Statement) → accesses ≡ narrowed s
    → statement_short depth s ≡ true → length accesses.reads ≤ 8
few_of depth accesses s same short =
    let write = and_parts _ _ (and_parts _ _ short).0 in
    let reads = and_parts (nat_le (length s.reads) 8) (list_all (access_short depth) s.reads) write.0 in
    omega (arith, leb-true (length s.reads) 8 reads.0, ap (λ (a : NarrowStatement). length a.reads) same)

-- these are the accesses of the point's statement, and fit its depth
pub record AreAccessesOf (n : Nest) (p : Point) (accesses : NarrowStatement) : Type 0 where
  pub statement : Statement
  pub found : slice_get n.statements p.statement ≡ Some statement
  pub same : accesses ≡ narrowed statement
  pub few_reads : length accesses.reads ≤ 8
  pub reads_short : list_all (access_short (length p.at)) accesses.reads ≡ true
  pub write_short : option_map_or (access_short (length p.at)) accesses.write true ≡ true

pub accesses_of : (n : Nest) (left later : List Point) (p : Point)
    → drop (length (trace n) - length left) (trace n) ≡ left → left ≡ p ∷ later
    → (all : List NarrowStatement) (accesses : NarrowStatement) → all ≡ map narrowed n.statements
    → accesses ≡ get_or all p.statement accesses
    → AreAccessesOf n p accesses
accesses_of n left later p e f all accesses same is =
    let exists = trace-next_statement n left later p e f in
    let s = statement_of_narrow n.statements all p.statement accesses same exists is in
    let depth = depth_is n left later p e f s.0 s.1 in
    let short : statement_short (length p.at) s.0 ≡ true =
    ap (λ (depth : ℕ). statement_short depth s.0) (sym depth) ∙ found_is_short n p.statement s.0 s.1 in
    record {
      statement = s.0;
      found = s.1;
      same = s.2;
      few_reads = few_of (length p.at) accesses s.0 s.2 short;
      reads_short =
          ap (λ (a : NarrowStatement). list_all (access_short (length p.at)) a.reads) s.2
          ∙ short_reads (length p.at) s.0 short;
      write_short =
          ap (λ (a : NarrowStatement). option_map_or (access_short (length p.at)) a.write true) s.2
          ∙ short_write (length p.at) s.0 short;
    }

module _ (n : Nest) (p : Point) (accesses : NarrowStatement) (at : List ℤ) (here : AreAccessesOf n p accesses)
    (same : at ≡ p.at) where
  pub reads_fit : list_all (access_short (length at)) accesses.reads ≡ true
  reads_fit = ap (λ (at : List ℤ). list_all (access_short (length at)) accesses.reads) same ∙ here.reads_short

  pub write_fits : option_map_or (access_short (length at)) accesses.write true ≡ true
  write_fits =
      ap (λ (at : List ℤ). option_map_or (access_short (length at)) accesses.write true) same ∙ here.write_short

  pub reads_are : (lists : List (List (Option Tag))) (first : ℕ) (writes : LastWrites)
      → with_sources lists first (map writes (map (cell_at at) accesses.reads))
      ≡ with_sources lists first (map writes (map (cell_at p.at) here.statement.reads))
  reads_are lists first writes =
      ap (λ (at : List ℤ). with_sources lists first (map writes (map (cell_at at) accesses.reads))) same
      ∙ ap (λ (a : NarrowStatement). with_sources lists first (map writes (map (cell_at p.at) a.reads))) here.same

  pub write_is : (writes : LastWrites) (tag : Tag)
      → noted writes (option_map (cell_at at) accesses.write) tag
      ≡ noted writes (option_map (cell_at p.at) here.statement.write) tag
  write_is writes tag =
      ap (λ (at : List ℤ). noted writes (option_map (cell_at at) accesses.write) tag) same
      ∙ ap (λ (a : NarrowStatement). noted writes (option_map (cell_at p.at) a.write) tag) here.same
