-- The reads of the statements of a nest, and lists of them.
use Rattle.std.proofs.Common.{◌≡◌, ◌∙◌, ◌<◌, ◌+◌, ℕ, zero, suc, List, [], ◌∷◌, ◌++◌, map, length, ap, sym, arith}
use Rattle.std.proofs.Common.{append_assoc, zero-add}
use Rattle.std.proofs.lemmas.List.{map-append}
use Rattle.std.proofs.lemmas.List.FromFn.{map-range_with_len_more}
use Rattle.std.specs.List.{range_with_len}
use Rattle.std.specs.Prelude.{slice_get}
use Rattle.std.specs.Option.{option_map_or}
use Rattle.sanlp.specs.declared.nest.Statement.{Statement}
use Rattle.deps_text.specs.Dependences.{read_of}
use Rattle.deps_text.specs.declared.dependence.Dependence.{Dependence}

-- a statement with a read is there
pub statement_of_read : (statements : List Statement) (s k : ℕ)
    → k < option_map_or (λ st. length st.reads) (slice_get statements s) 0 → s < length statements
statement_of_read [] s k h = absurd (omega arith)
statement_of_read (x ∷ statements) zero k h = omega arith
statement_of_read (x ∷ statements) (suc s) k h = let rest = statement_of_read statements s k h in omega arith

-- a dependence more, of the next read of a statement
pub one_read_more : (s number : ℕ) (old front new : List Dependence) (d : Dependence) → new ≡ front ++ d ∷ []
    → d.statement ≡ s → d.read ≡ number
    → map read_of front ≡ map read_of old ++ map {B = ℕ × ℕ} (λ k. (s, k)) (range_with_len 0 number)
    → map read_of new ≡ map read_of old ++ map {B = ℕ × ℕ} (λ k. (s, k)) (range_with_len 0 (number + 1))
one_read_more s number old front new d pushed statement read so_far =
    let reads : List (ℕ × ℕ) = map {B = ℕ × ℕ} (λ k. (s, k)) (range_with_len 0 number) in
    let last : read_of d ≡ (s, number) = ap (λ (t : ℕ). (t, d.read)) statement ∙ ap (λ (k : ℕ). (s, k)) read in
    ap (map read_of) pushed
    ∙ map-append read_of front (d ∷ [])
    ∙ ap (λ (xs : List (ℕ × ℕ)). xs ++ read_of d ∷ []) so_far
    ∙ append_assoc (map read_of old) reads (read_of d ∷ [])
    ∙ ap (λ (r : ℕ × ℕ). map read_of old ++ (reads ++ r ∷ [])) last
    ∙ ap (λ (xs : List (ℕ × ℕ)). map read_of old ++ xs)
    (sym (map-range_with_len_more {X = ℕ × ℕ} (λ k. (s, k)) 0 number number (zero-add number)))
