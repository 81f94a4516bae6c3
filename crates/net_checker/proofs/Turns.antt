-- The turn of a point among those of its statement, and its tag.
--
-- The points of one statement stand in lexicographic order in the trace, since all of their loops are common; so its
-- iteration vectors do too, and each stands there once. A binary search therefore finds the place of a vector that is
-- there: below that place all are less, and above it greater.
use Rattle.std.proofs.Common.{◌≡◌, ◌+◌, ◌^◌, ◌<◌, ◌≤◌, ◌==◌, ℕ, zero, suc, ℤ, List, [], ◌∷◌, length, take, get_or, eqb}
use Rattle.std.proofs.Common.{Bool, true, false, refl, sym, ap, ◌∙◌, subst, inl, inr, arith}
use Rattle.std.proofs.Common.{zero-add}
use Rattle.std.specs.Prelude.{Option, Some, None, Result, Ok, Err, slice_get, count_by, nat_lt}
use Rattle.std.specs.Cmp.{IsTotalOrder}
use Rattle.std.specs.Cmp.Lexicographic.{slice_cmp, lists_total}
use Rattle.std.specs.List.Sorted.{IsBinarySearchResult, IsNonDecreasingBy, IsSearchInRange}
use Rattle.std.specs.Option.{option_and_then, option_map, option_map_or}
use Rattle.std.specs.Ordering.{int_cmp, ordering_index, ordering_reverse}
use Rattle.std.specs.Result.{result_ok}
use Rattle.std.specs.declared.cmp.Ordering.{Ordering}
use Rattle.std.specs.declared.cmp.Ordering.TheVariants.{Less, Equal, Greater}
use Rattle.std.proofs.lemmas.Bool.{cases_Bool, cases_lt}
use Rattle.std.proofs.lemmas.Cmp.{int_cmp_total}
use Rattle.std.proofs.lemmas.Option.{same_Some, slice_get_within, slice_get-get_or, get_or_from_slice_get}
use Rattle.std.proofs.Math.Seq.{take-length}
use Rattle.sanlp.specs.declared.nest.Nest.{Nest}
use Rattle.sanlp.specs.declared.nest.Point.{Point}
use Rattle.sanlp.specs.declared.nest.Statement.{Statement}
use Rattle.sanlp.specs.Laws.{entries_from}
use Rattle.sanlp.specs.declared.nest.Tag.{Tag}
use Rattle.sanlp.specs.Order.{IsPoint, Precedes, common_loops, loops_round_point}
use Rattle.sanlp.specs.Points.{points_of, vectors_of}
use Rattle.sanlp.specs.Size.{SizeIsOk}
use Rattle.sanlp.specs.Tags.{tag_at}
use Rattle.sanlp.specs.Trace.{trace}
use Rattle.sanlp.proofs.Enumerates.{enumerates_domains}
use Rattle.sanlp.proofs.NestFacts.{trace_within}
use Rattle.sanlp.proofs.Precedence.{IsDecided, decided, loops_found, common_loops-same}
use Rattle.source_tree.specs.declared.tree.Found.{Found}
use Rattle.source_tree.specs.declared.tree.Found.TheVariants.{At}
use Rattle.source_tree.specs.declared.tree.Tree.{Tree}
use Rattle.source_tree.specs.Exact.{IsPointOf}
use Rattle.source_tree.specs.Gives.{gives}
use Rattle.source_tree.proofs.TreeValues.{eval_gives}
use Rattle.net_core.specs.Shape.{turns}
use Rattle.net_core.proofs.Entries.{entry_at_turn, turn_of_entry}
use Rattle.net_core.proofs.FireValues.{turn_entry, vectors_at}
use Rattle.net_checker.specs.Tables.{AreInOrder, GivesTag}
use Rattle.plain_data.proofs.Tests.{ltb-same}

-- Order

order : IsTotalOrder (slice_cmp int_cmp)
order = lists_total int_cmp_total

itself : (a : List ℤ) → slice_cmp int_cmp a a ≡ Equal
itself a = go (slice_cmp int_cmp a a) (order.antisymm a a) where
  go : (r : Ordering) → r ≡ ordering_reverse r → r ≡ Equal
  go Less e = absurd (cc)
  go Equal e = refl
  go Greater e = absurd (cc)

other_way : (a b : List ℤ) → slice_cmp int_cmp a b ≡ Less → slice_cmp int_cmp b a ≡ Greater
other_way a b h = order.antisymm b a ∙ ap ordering_reverse h

index_small : (r : Ordering) → ordering_index r ≤ 2
index_small Less = omega arith
index_small Equal = omega arith
index_small Greater = omega arith

module _ (vectors : List (List ℤ)) (sorted : AreInOrder vectors) (f : ℕ) (at : List ℤ)
    (here : slice_get vectors f ≡ Some at) where
  within : f < length vectors
  within = slice_get_within vectors f at here

  less_below : (j : ℕ) (d : List ℤ) → j < f → slice_cmp int_cmp (get_or vectors j d) at ≡ Less
  less_below j d lt =
      sorted j f (get_or vectors j d) at lt (slice_get-get_or vectors j d (omega (arith, lt, within))) here

  greater_above : (j : ℕ) (d : List ℤ) → f < j → j < length vectors → slice_cmp int_cmp (get_or vectors j d) at
      ≡ Greater
  greater_above j d lt short = other_way at (get_or vectors j d)
      (sorted f j at (get_or vectors j d) lt here (slice_get-get_or vectors j d short))

  equal_here : (d : List ℤ) → slice_cmp int_cmp (get_or vectors f d) at ≡ Equal
  equal_here d = ap (λ v. slice_cmp int_cmp v at) (get_or_from_slice_get vectors f at d here) ∙ itself at

  rises : IsNonDecreasingBy (λ y. ordering_index (slice_cmp int_cmp y at)) vectors
  rises i j d le short =
      elim (cases_lt i f) [
        | inl low ↦ omega (arith, ap ordering_index (less_below i d low))
        | inr high ↦
            elim (cases_lt f j) [
              | inl later ↦ omega (
                arith,
                ap ordering_index (greater_above j d later short),
                index_small (slice_cmp int_cmp (get_or vectors i d) at),
              )
              | inr same ↦
                  let e : i ≡ j = omega arith in
                  omega (arith, ap (λ k. ordering_index (slice_cmp int_cmp (get_or vectors k d) at)) e)
            ]
      ]

  pub search_found : (r : Result ℕ ℕ) → IsSearchInRange r (length vectors)
      → IsBinarySearchResult (λ y. slice_cmp int_cmp y at) vectors r → result_ok r ≡ Some f
  search_found (Ok i) range equal =
      elim (cases_lt i f) [
        | inl low ↦ absurd (let e : Less ≡ Equal = sym (less_below i [] low) ∙ equal [] in cc)
        | inr high ↦
            elim (cases_lt f i) [
              | inl later ↦ absurd (let e : Greater ≡ Equal = sym (greater_above i [] later range) ∙ equal [] in cc)
              | inr same ↦ ap Some (omega arith)
            ]
      ]
  search_found (Err i) range parted =
      elim (cases_lt f i) [
        | inl low ↦ absurd (let e : Equal ≡ Less = sym (equal_here []) ∙ (parted rises).0 f [] (omega arith) low in cc)
        | inr high ↦ absurd (let e : Equal ≡ Greater = sym (equal_here []) ∙ (parted rises).1 f [] high within in cc)
      ]

  -- a vector stands at one place alone
  pub once : (g : ℕ) → slice_get vectors g ≡ Some at → Some g ≡ Some f
  once g there =
      elim (cases_lt g f) [
        | inl low ↦ absurd (let e : Less ≡ Equal = sym (sorted g f at at low there here) ∙ itself at in cc)
        | inr high ↦
            elim (cases_lt f g) [
              | inl later ↦ absurd (let e : Less ≡ Equal = sym (sorted f g at at later here there) ∙ itself at in cc)
              | inr same ↦ ap Some (omega arith)
            ]
      ]

-- The vectors of a statement

decided_less : (r : Ordering) (P : Type 0) (less : Bool) → less ≡ false → IsDecided r P less → P → r ≡ Less
decided_less Less P less e h p = refl
decided_less Equal P less e h p = absurd (let f : false ≡ true = sym e ∙ h.0 p in cc)
decided_less Greater P less e h p = absurd (h p)

module _ (n : Nest) where
  vectors_precede : (p q : Point) → IsPoint n p → IsPoint n q → p.statement ≡ q.statement → Precedes n p q
      → slice_cmp int_cmp p.at q.at ≡ Less
  vectors_precede p q a b same precedes =
      let ks : List ℕ = loops_round_point n p in
      let ls : List ℕ = loops_round_point n q in
      let alike : ks ≡ ls = ap (λ s. option_map_or (λ (s : Statement). s.loops) (slice_get n.statements s) []) same in
      let common : common_loops ks ls ≡ length ks = sym (ap (common_loops ks) alike) ∙ common_loops-same ks in
      let deep_p : length p.at ≡ length ks = a.deep ∙ ap length (sym (loops_found n p a.statement a.found)) in
      let deep_q : length q.at ≡ length ks = b.deep ∙ ap length (sym (loops_found n q b.statement b.found))
      ∙ ap length (sym alike) in
      let less : nat_lt p.statement q.statement ≡ false = ap (nat_lt p.statement) (sym same)
      ∙ ltb-same p.statement in
      let is = decided (common_loops ks ls) (nat_lt p.statement q.statement) p.at q.at (omega (arith, common, deep_p))
      (omega (arith, common, deep_q)) in
      let whole_p : take (common_loops ks ls) p.at ≡ p.at = ap (λ c. take c p.at) (common ∙ sym deep_p) ∙ take-length p.at
      in
      let whole_q : take (common_loops ks ls) q.at ≡ q.at = ap (λ c. take c q.at) (common ∙ sym deep_q) ∙ take-length q.at
      in
      sym (ap (λ xs. slice_cmp int_cmp xs (take (common_loops ks ls) q.at)) whole_p
      ∙ ap (slice_cmp int_cmp p.at) whole_q)
      ∙ decided_less (slice_cmp int_cmp (take (common_loops ks ls) p.at) (take (common_loops ks ls) q.at))
      (Precedes n p q) (nat_lt p.statement q.statement) less is precedes

-- the entries of a statement rise
module _ (s : ℕ) where
  head_rises : (t : ℕ) (points : List Point) (f g u v : ℕ) → f < g → slice_get (t ∷ entries_from (t + 1) points s) f
      ≡ Some u → slice_get (t ∷ entries_from (t + 1) points s) g ≡ Some v
      → ((i j : ℕ) → i < j → slice_get (entries_from (t + 1) points s) i ≡ Some u
      → slice_get (entries_from (t + 1) points s) j ≡ Some v → u < v) → u < v
  head_rises t points zero zero u v lt a b rest = absurd (omega arith)
  head_rises t points zero (suc g) u v lt a b rest =
      omega (arith, same_Some t u a, (entry_at_turn (t + 1) points s g v b).is)
  head_rises t points (suc f) zero u v lt a b rest = absurd (omega arith)
  head_rises t points (suc f) (suc g) u v lt a b rest = rest f g (omega arith) a b

  entries_rise : (t : ℕ) (points : List Point) (f g u v : ℕ) → f < g → slice_get (entries_from t points s) f ≡ Some u
      → slice_get (entries_from t points s) g ≡ Some v → u < v
  entries_rise t [] f g u v lt a b = absurd (let e : None ≡ Some u = a in cc)
  entries_rise t (p ∷ points) f g u v lt a b =
      elim (cases_Bool (eqb p.statement s)) [
        | inl here ↦
            let a' : slice_get (t ∷ entries_from (t + 1) points s) f ≡ Some u = rw here at a in
            let b' : slice_get (t ∷ entries_from (t + 1) points s) g ≡ Some v = rw here at b in
            head_rises t points f g u v lt a' b' (λ i j. entries_rise (t + 1) points i j u v)
        | inr there ↦
            let a' : slice_get (entries_from (t + 1) points s) f ≡ Some u = rw there at a in
            let b' : slice_get (entries_from (t + 1) points s) g ≡ Some v = rw there at b in
            entries_rise (t + 1) points f g u v lt a' b'
      ]

pub vectors_in_order : (n : Nest) (s : ℕ) → AreInOrder (get_or (points_of n) s [])
vectors_in_order n s f g a b lt at_f at_g =
    let e = turn_entry n s f (slice_get_within (get_or (points_of n) s []) f a at_f) in
    let h = turn_entry n s g (slice_get_within (get_or (points_of n) s []) g b at_g) in
    let first : a ≡ e.point.at = sym (get_or_from_slice_get (get_or (points_of n) s []) f a [] at_f) ∙ e.vector in
    let second : b ≡ h.point.at = sym (get_or_from_slice_get (get_or (points_of n) s []) g b [] at_g) ∙ h.vector in
    let enumerated = enumerates_domains n in
    let precedes = enumerated.later e.entry h.entry e.point h.point e.found h.found
    (entries_rise s 0 (trace n) f g e.entry h.entry lt e.is h.is) in
    ap (λ xs. slice_cmp int_cmp xs b) first ∙ ap (slice_cmp int_cmp e.point.at) second
    ∙ vectors_precede n e.point h.point (enumerated.entry e.entry e.point e.found)
    (enumerated.entry h.entry h.point h.found) (e.process ∙ sym h.process) precedes

-- Tags

-- the number of an entry's point among those of its statement
abbrev pub turn_number : Nest → ℕ → Point → ℕ
turn_number n u p = count_by (λ q. q.statement == p.statement) (take u (trace n))

module _ (n : Nest) (u : ℕ) (p : Point) (is : slice_get (trace n) u ≡ Some p) where
  pub vector_at_turn : slice_get (get_or (points_of n) p.statement []) (turn_number n u p) ≡ Some p.at
  vector_at_turn =
      let e = entry_at_turn 0 (trace n) p.statement (turn_number n u p) u
      (turn_of_entry 0 (trace n) u p is ∙ ap Some (zero-add u)) in
      let same : e.point ≡ p =
      same_Some e.point p (sym e.found ∙ ap (slice_get (trace n)) (sym (e.is ∙ zero-add e.place)) ∙ is) in
      ap (λ vectors. slice_get vectors (turn_number n u p)) (vectors_at n p.statement) ∙ e.vector
      ∙ ap (λ (q : Point). Some q.at) same

  pub tag_of_entry : Some (record { process = p.statement; turn = turn_number n u p }) ≡ tag_at (trace n) u
  tag_of_entry = sym (ap (option_map (λ (q : Point). record {
    process = q.statement;
    turn =
        count_by (λ (r : Point). r.statement == q.statement) (take u (trace n));
  })) is)

-- the entry whose point was found
pub entry_found : (n : Nest) (w : Option ℕ) (found : Found) (p : Point) → At p ≡ found → IsPointOf (trace n) w found
    → (u : ℕ) × (w ≡ Some u) × (slice_get (trace n) u ≡ Some p)
entry_found n w found p is h = subst (IsPointOf (trace n) w) (sym is) h

-- a statement has few points
pub few_vectors : (n : Nest) (s : ℕ) → SizeIsOk n → turns (points_of n) s < 2 ^ 32
few_vectors n s ok =
    omega (arith, ok.size_within, trace_within n, ap length (vectors_at n s), short_vectors (trace n) s) where
      short_vectors : (points : List Point) (s : ℕ) → length (vectors_of points s) ≤ length points
      short_vectors [] s = omega arith
      short_vectors (p ∷ points) s =
          elim (cases_Bool (eqb p.statement s)) [
            | inl here ↦ rw here (omega (arith, short_vectors points s))
            | inr there ↦ rw there (omega (arith, short_vectors points s))
          ]

module _ (n : Nest) (u : ℕ) (p : Point) (is : slice_get (trace n) u ≡ Some p) where
  -- what is found among the vectors of its statement
  pub turn_is : (of : List (List (List ℤ))) (vectors : List (List ℤ)) → of ≡ points_of n → vectors
      ≡ get_or of p.statement [] → (r : Option ℕ)
      → ((f : ℕ) → AreInOrder vectors → slice_get vectors f ≡ Some p.at → r ≡ Some f) → r ≡ Some (turn_number n u p)
  turn_is of vectors points found r searched =
      let whole : vectors ≡ get_or (points_of n) p.statement [] = found
      ∙ ap (λ (of : List (List (List ℤ))). get_or of p.statement []) points in
      searched (turn_number n u p) (subst AreInOrder (sym whole) (vectors_in_order n p.statement))
      (ap (λ vectors. slice_get vectors (turn_number n u p)) whole ∙ vector_at_turn n u p is)

  pub turn_small : SizeIsOk n → turn_number n u p < 2 ^ 32
  turn_small ok =
      omega (
        arith,
        slice_get_within (get_or (points_of n) p.statement []) (turn_number n u p) p.at
            (vector_at_turn n u p is),
        few_vectors n p.statement ok,
      )

-- the tag of a point that is given
pub given_tag : (n : Nest) (points : List (List (List ℤ))) (tree : Tree) (at : List ℤ) (tag : Tag)
    → points ≡ points_of n → GivesTag points tree at tag → (writer : Option ℕ)
    → IsPointOf (trace n) writer (gives tree at) → Some tag ≡ option_and_then (tag_at (trace n)) writer
given_tag n points tree at tag whole told writer h =
    let p : Point = record { statement = tag.process; at = told.point } in
    let is : At p ≡ gives tree at = eval_gives {E = Unit {0}} tree at (Ok (At p)) (sym told.is) in
    let entry = entry_found n writer (gives tree at) p is h in
    let turn = turn_is n entry.0 p entry.2 points (get_or points tag.process []) whole refl (Some tag.turn)
    (λ f sorted here. once (get_or points tag.process []) sorted f p.at here tag.turn told.there) in
    ap (λ t. Some (record { process = tag.process; turn = t })) (same_Some _ _ turn)
    ∙ tag_of_entry n entry.0 p entry.2 ∙ sym (ap (option_and_then (tag_at (trace n))) entry.1)
