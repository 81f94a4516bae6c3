-- The origins of reads, added one by one in the order of statements and reads.
--
-- Reads are numbered by their statement, and then by their place among its reads, so each number is that of one read
-- alone. Therefore an origin that is added at the end stands for the read whose number is the count so far, and for no
-- other: what held of the origins before it goes on to hold.
use Rattle.std.proofs.Common.{◌≡◌, ◌∙◌, ◌+◌, ◌<◌, ◌≤◌, ℕ, List, [], ◌∷◌, ◌++◌, Some, length, take}
use Rattle.std.proofs.Common.{inl, inr, slice_get, sym, ap, subst, arith, take-take}
use Rattle.std.specs.List.{sum_by}
use Rattle.std.proofs.lemmas.Bool.{cases_order}
use Rattle.std.proofs.lemmas.List.{length_push}
use Rattle.std.proofs.lemmas.List.Sums.{sum_by-take-le}
use Rattle.net_checker.specs.Shapes.{read_total}
use Rattle.net_checker.specs.Sources.{AreUsable}
use Rattle.net_checker.proofs.Usable.{statement_there}
use Rattle.sanlp.specs.Access.{read_count}
use Rattle.sanlp.specs.declared.nest.Nest.{Nest}
use Rattle.sanlp.specs.declared.nest.Statement.{Statement}
use Rattle.sanlp.proofs.ReadCounts.{read_count-some}
use Rattle.source_tree.specs.declared.cert.Cert.{Cert}
use Rattle.source_tree.specs.declared.cert.Origin.{Origin}
use Rattle.source_tree.specs.declared.cert.Origin.TheVariants as origin
use Rattle.source_tree.specs.declared.tree.Tree.{Tree}
use Rattle.source_tree.specs.Sources.{read_number}
use Rattle.std.proofs.Math.Seq.{take-length}
use Rattle.tree_text.specs.TreeText.{TreeIsInRange}
use Rattle.net_maker.specs.Origins.{HasOrigins, IsUsableOrigin}
use Rattle.plain_data.proofs.Lists.{slice_get-some, sum_by_more_some, slice_get_push-cases}

-- Numbers of reads

-- the first read of the next statement comes behind those of this one
pub next_statement : (n : Nest) (s : ℕ) → s < length n.statements
    → read_number n (s + 1) 0 ≡ read_number n s (read_count n s)
next_statement n s lt =
    let there = slice_get-some n.statements s lt in
    omega (arith, sum_by_more_some (λ (st : Statement). length st.reads) n.statements s there.0 there.1, read_count-some n s there.0 there.1)

reads_of_less : (n : Nest) (a b : ℕ) → a ≤ b → read_number n a 0 ≤ read_number n b 0
reads_of_less n a b le =
    let reads : List Statement → ℕ = λ sts. sum_by (λ (st : Statement). length st.reads) sts in
    omega (
      arith,
      sum_by-take-le (λ (st : Statement). length st.reads) (take b n.statements) a,
      ap reads (take-take a b n.statements le),
    )

-- a read of a statement before has a lower number
before : (n : Nest) (p s q k : ℕ) → q < read_count n p → p < s → read_number n p q < read_number n s k
before n p s q k lt less =
    omega (arith, lt, next_statement n p (statement_there n p q lt), reads_of_less n (p + 1) s (omega arith))

same_read : (n : Nest) (p s q k : ℕ) → q < read_count n p → k < read_count n s
    → read_number n p q ≡ read_number n s k → (p ≡ s) × (q ≡ k)
same_read n p s q k few less same = elim (cases_order p s) [
  | inl at ↦ (at, omega (arith, same, ap (λ (i : ℕ). read_number n i 0) at))
  | inr other ↦ elim other [
    | inl below ↦ absurd (omega (arith, same, before n p s q k few below))
    | inr above ↦ absurd (omega (arith, same, before n s p k q less above))
  ]
]

-- One origin more

module _ (n : Nest) (s k : ℕ) (sources after : List Origin) (o : Origin) (few : k < read_count n s)
    (h : HasOrigins n (read_number n s k) sources) (is : after ≡ sources ++ o ∷ []) (fit : IsUsableOrigin n s k o) where
  each_more : (p q : ℕ) (x : Origin) → q < read_count n p → slice_get after (read_number n p q) ≡ Some x
      → IsUsableOrigin n p q x
  each_more p q x lt at =
      elim (slice_get_push-cases sources o (read_number n p q) x
      (ap (λ xs. slice_get xs (read_number n p q)) (sym is) ∙ at)) [
        | inl front ↦ h.each p q x lt front
        | inr end ↦
            (let same = same_read n p s q k lt few (omega (arith, h.total, end.0)) in
            subst (λ p. IsUsableOrigin n p q x) (sym same.0)
            (subst (λ q. IsUsableOrigin n s q x) (sym same.1) (subst (IsUsableOrigin n s k) end.1 fit)))
      ]

  range_more : (j : ℕ) (tree : Tree) → slice_get after j ≡ Some (origin.Tree tree) → TreeIsInRange tree
  range_more j tree at =
      elim (slice_get_push-cases sources o j (origin.Tree tree) (ap (λ xs. slice_get xs j) (sym is) ∙ at)) [
        | inl front ↦ h.in_range j tree front
        | inr end ↦ (subst (IsUsableOrigin n s k) end.1 fit).1
      ]

  pub origins_more : HasOrigins n (read_number n s (k + 1)) after
  origins_more = record {
    total = omega (arith, ap length is, length_push sources o, h.total);
    each = each_more;
    in_range = range_more;
  }

-- Before the first, and behind the last

pub origins_whole : (n : Nest) (s : ℕ) (sources : List Origin) → s ≡ length n.statements
    → HasOrigins n (read_number n s 0) sources → HasOrigins n (read_total n) sources
origins_whole n s sources all h =
    let reads : List Statement → ℕ = λ sts. sum_by (λ (st : Statement). length st.reads) sts in
    let whole : read_number n s 0 ≡ read_total n =
    omega (arith, ap (λ (i : ℕ). read_number n i 0) all, ap reads (take-length n.statements)) in
    subst (λ (count : ℕ). HasOrigins n count sources) whole h

-- so the trees of a certificate with these origins are usable
pub origins_are_usable : (n : Nest) (cert : Cert) → HasOrigins n (read_total n) cert.sources → AreUsable n cert
origins_are_usable n cert h s k tree lt is = (h.each s k (origin.Tree tree) lt is).0
