-- How many entries of a trace are of its first so many statements. With one statement more come that statement's
-- points, and each entry is of a statement that is there, so all points together are the trace. The induction goes
-- over the entries: one of them is of the next statement, of an earlier one, or of a later one. Nothing is said of
-- their order.
use Rattle.std.proofs.Common.{◌≡◌, ◌+◌, ◌<◌, ◌≤◌, ℕ, ℤ, suc, Bool, true, false, cond, List, [], ◌∷◌, Some, length, get_or, count_by, slice_get, refl, sym, ap, ◌∙◌, arith, inl, inr, nat_lt, eqb, eq-eqb, ne_eqb}
use Rattle.std.proofs.lemmas.Bool.{cases_lt, le-ltb, lt-ltb}
use Rattle.std.proofs.lemmas.List.Sums.{count_by-le-length}
use Rattle.std.proofs.lemmas.Option.{get_or_from_slice_get, slice_get_read}
use Rattle.sanlp.specs.declared.nest.Nest.{Nest}
use Rattle.sanlp.specs.declared.nest.Point.{Point}
use Rattle.sanlp.specs.Points.{points_of, vectors_of}
use Rattle.sanlp.specs.Trace.{trace}
use Rattle.sanlp.proofs.ReadCounts.{trace-statement}
use Rattle.net_core.proofs.EventCounts.{count_cons}
use Rattle.net_core.proofs.FireValues.{vectors_at}

-- the entry is of one of the first so many statements
abbrev pub is_below : ℕ → Point → Bool
is_below m p = nat_lt p.statement m

pub none_below : (points : List Point) → count_by (is_below 0) points ≡ 0
none_below [] = refl
none_below (p ∷ points) =
    let here : nat_lt p.statement 0 ≡ false = le-ltb p.statement 0 (omega arith) in
    omega (arith, count_cons (is_below 0) p points, ap (λ b. cond {A = ℕ} b 1 0) here, none_below points)

-- an entry of the first so many statements and one more is of those, or of the next
here_more : (s m : ℕ)
    → cond {A = ℕ} (nat_lt s (m + 1)) 1 0 ≡ cond {A = ℕ} (nat_lt s m) 1 0 + cond {A = ℕ} (eqb s m) 1 0
here_more s m =
    elim (cases_lt s m) [
      | inl low ↦ rw (lt-ltb s (m + 1) (omega arith), lt-ltb s m low, ne_eqb s m (λ e. omega (arith, low, e))) refl
      | inr high ↦ elim (cases_lt m s) [
        | inl later ↦ rw
            (le-ltb s (m + 1) (omega arith), le-ltb s m (omega arith), ne_eqb s m (λ e. omega (arith, later, e)))
            refl
        | inr same ↦ rw (lt-ltb s (m + 1) (omega arith), le-ltb s m (omega arith), eq-eqb s m (omega arith)) refl
      ]
    ]

length-cond : {X : Type 0} (t : Bool) (x : X) (xs : List X)
    → length (cond t (x ∷ xs) xs) ≡ cond {A = ℕ} t 1 0 + length xs
length-cond true x xs = omega arith
length-cond false x xs = omega arith

one_more : (points : List Point) (m : ℕ)
    → count_by (is_below (m + 1)) points ≡ count_by (is_below m) points + length (vectors_of points m)
one_more [] m = refl
one_more (p ∷ points) m =
    omega (
      arith,
      one_more points m,
      count_cons (is_below (m + 1)) p points,
      count_cons (is_below m) p points,
      here_more p.statement m,
      length-cond (eqb p.statement m) p.at (vectors_of points m),
    )

-- one statement more
pub statement_more : (n : Nest) (m : ℕ)
    → count_by (is_below (m + 1)) (trace n) ≡ count_by (is_below m) (trace n) + length (get_or (points_of n) m [])
statement_more n m = one_more (trace n) m ∙ ap (λ k. count_by (is_below m) (trace n) + length k) (sym (vectors_at n m))

all_of : (points : List Point) (m : ℕ) → ((u : ℕ) (p : Point) → slice_get points u ≡ Some p → p.statement < m)
    → count_by (is_below m) points ≡ length points
all_of [] m there = refl
all_of (p ∷ points) m there =
    let here : nat_lt p.statement m ≡ true = lt-ltb p.statement m (there 0 p refl) in
    omega (
      arith,
      count_cons (is_below m) p points,
      ap (λ b. cond {A = ℕ} b 1 0) here,
      all_of points m (λ u q is. there (suc u) q is),
    )

pub all_entries : (n : Nest) → count_by (is_below (length n.statements)) (trace n) ≡ length (trace n)
all_entries n = all_of (trace n) (length n.statements) (λ u p is. trace-statement n u p is)

pub few_below : (n : Nest) (m : ℕ) → count_by (is_below m) (trace n) ≤ length (trace n)
few_below n m = count_by-le-length (is_below m) (trace n)

-- an item of the points is the points of its statement
pub item_is : (n : Nest) (of items : List (List (List ℤ))) (i : ℕ) (item : List (List ℤ)) → of ≡ points_of n → items ≡ of
    → i < length items → item ≡ get_or items i item → get_or (points_of n) i [] ≡ item
item_is n of items i item whole same lt is =
    ap (λ xs. get_or xs i []) (sym (same ∙ whole))
    ∙ get_or_from_slice_get items i item [] (slice_get_read items (length items) i item refl lt is)
