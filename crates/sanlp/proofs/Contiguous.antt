-- The text of a loop is one stretch.
--
-- Of three places in the order of the text, the outer two have no more loops in common than either has with the middle
-- one. It is shown of the places of each node, by induction on nodes. All places of a node stand in the loops round it,
-- and then in loops of its own (`Inner`). So two places of one part have at least the loops round the parts in common;
-- and two of different parts have just these, since the loops are numbered in ascending order, so that no part has a
-- loop of another. That the outer two have no fewer in common than the middle one has with both holds of any lists
-- (`common_least`). Nothing here speaks of rows or values.
use Rattle.std.proofs.Common.{◌≡◌, ◌<◌, ◌≤◌, ℕ, zero, suc, ◌+◌, ℤ, List, [], ◌∷◌, ◌++◌, map, length, inl, inr, refl}
use Rattle.std.proofs.Common.{sym, ap, ◌∙◌, subst, arith}
use Rattle.std.specs.Prelude.{Some, slice_get}
use Rattle.std.proofs.lemmas.List.{append-nil, append_assoc}
use Rattle.std.proofs.lemmas.Option.{same_Some}
use Rattle.affine_core.specs.declared.form.Form.{Form}
use Rattle.sanlp.specs.declared.nest.Nest.{Nest}
use Rattle.sanlp.specs.declared.nest.Node.{Node}
use Rattle.sanlp.specs.declared.nest.Node.TheViews.{Loop, Guard}
use Rattle.sanlp.specs.declared.nest.Node.TheVariants.{Assign}
use Rattle.sanlp.specs.Order.{common_loops}
use Rattle.sanlp.specs.Text.{IsContiguous}
use Rattle.sanlp.specs.WellFormed.{Place, all_loops, in_each, loops_of, loops_step, places_of, said_from}
use Rattle.sanlp.proofs.Domains.{inner_rows, places_assign, places_guard, places_loop}
use Rattle.sanlp.proofs.Each.{Each, each_append, each_of, each_then}
use Rattle.sanlp.proofs.Enumerates.{place_of, said_at}
use Rattle.sanlp.proofs.Folds.{by_parts, fold_guard, fold_loop}
use Rattle.sanlp.proofs.Members.{In, Pairwise, each_from_in, each_in, in_left, in_right, pairwise_across}
use Rattle.sanlp.proofs.Members.{pairwise_append, pairwise_at, pairwise_left, pairwise_right, range_with_len_ascends}
use Rattle.sanlp.proofs.Precedence.{common_front, common_least, common_none}

-- the loops round a place are these, and then some of these numbers
record Inner (loops ids : List ℕ) (place : Place) : Type 0 where
  pub inner : List ℕ
  pub rounds : place.loops ≡ loops ++ inner
  pub inside : Each (λ k. In k ids) inner

inner_more : (loops ids more : List ℕ) → ((k : ℕ) → In k ids → In k more) → (place : Place)
    → Inner loops ids place → Inner loops more place
inner_more loops ids more f place i = record {
  inner = i.inner;
  rounds = i.rounds;
  inside = each_then (λ k. In k ids) (λ k. In k more) i.inner f i.inside;
}

abbrev HasInner : Node → Type 0
HasInner node = (loops : List ℕ) (rows : List Form) → Each (Inner loops (loops_of node)) (places_of node loops rows)

parts_inner : (nodes : List Node) → Each HasInner nodes → (loops : List ℕ) (rows : List Form)
    → Each (Inner loops (all_loops nodes)) (in_each (map places_of nodes) loops rows)
parts_inner [] h loops rows = tt
parts_inner (node ∷ nodes) h loops rows =
    let own : List ℕ = loops_of node in
    let others : List ℕ = all_loops nodes in
    let places : List Place = places_of node loops rows in
    let rest : List Place = in_each (map places_of nodes) loops rows in
    each_append (Inner loops (own ++ others)) places rest
    (each_then (Inner loops own) (Inner loops (own ++ others)) places
    (inner_more loops own (own ++ others) (λ k. in_left k own others)) (h.0 loops rows))
    (each_then (Inner loops others) (Inner loops (own ++ others)) rest
    (inner_more loops others (own ++ others) (λ k. in_right k own others)) (parts_inner nodes h.1 loops rows))

-- inside one more loop
inner_deeper : (id : ℕ) (loops ids : List ℕ) (place : Place) → Inner (loops ++ id ∷ []) ids place
    → Inner loops (id ∷ ids) place
inner_deeper id loops ids place i = record {
  inner = id ∷ i.inner;
  rounds = i.rounds ∙ append_assoc loops (id ∷ []) i.inner;
  inside = (inl refl, each_then (λ k. In k ids) (λ k. In k (id ∷ ids)) i.inner (λ k h. inr h) i.inside);
}

inner_loop : (id : ℕ) (lower upper : List Form) (step : ℤ) (body : List Node) → Each HasInner body
    → HasInner (Loop id lower upper step body)
inner_loop id lower upper step body h loops rows =
    let own : List ℕ = loops_of (Loop id lower upper step body) in
    let ids : List ℕ = all_loops body in
    let deeper : List Form = inner_rows (length loops) rows lower upper step in
    let places : List Place = in_each (map places_of body) (loops ++ id ∷ []) deeper in
    subst (Each (Inner loops own)) (sym (places_loop id lower upper step body loops rows))
    (subst (λ own. Each (Inner loops own) places) (sym (fold_loop (List ℕ) loops_step id lower upper step body))
    (each_then (Inner (loops ++ id ∷ []) ids) (Inner loops (id ∷ ids)) places (inner_deeper id loops ids)
    (parts_inner body h (loops ++ id ∷ []) deeper)))

inner_guard : (guards : List Form) (body : List Node) → Each HasInner body → HasInner (Guard guards body)
inner_guard guards body h loops rows =
    let places : List Place = in_each (map places_of body) loops (rows ++ guards) in
    subst (Each (Inner loops (loops_of (Guard guards body)))) (sym (places_guard guards body loops rows))
    (subst (λ ids. Each (Inner loops ids) places) (sym (fold_guard (List ℕ) loops_step guards body))
    (parts_inner body h loops (rows ++ guards)))

inner_assign : (s : ℕ) → HasInner (Assign s)
inner_assign s loops rows =
    subst (Each (Inner loops (loops_of (Assign s)))) (sym (places_assign s loops rows))
    (record { inner = []; rounds = sym (append-nil loops); inside = tt }, tt)

has_inner : (node : Node) → HasInner node
has_inner = by_parts HasInner inner_loop inner_guard inner_assign

-- Three places in a row

abbrev common : Place → Place → ℕ
common a b = common_loops a.loops b.loops

abbrev Spans : Place → Place → Place → Type 0
Spans a b c = (common a c ≤ common a b) × (common a c ≤ common b c)

-- each three places in this order
abbrev Contiguous : List Place → Type 0
Contiguous [] = Unit {0}
Contiguous (p ∷ places) = Pairwise (Spans p) places × Contiguous places

pairwise_of : {X : Type 0} (R : X → X → Type 0) (xs : List X) → ((x y : X) → In x xs → In y xs → R x y)
    → Pairwise R xs
pairwise_of R [] f = tt
pairwise_of R (x ∷ xs) f = (
  each_from_in (R x) xs (λ y h. f x y (inl refl) (inr h)),
  pairwise_of R xs (λ y z h k. f y z (inr h) (inr k)),
)

-- two lists whose places have so many loops in common, and no more with those of the other list
contiguous_append : (c : ℕ) (xs ys : List Place) → Contiguous xs → Contiguous ys
    → ((x y : Place) → In x xs → In y xs → c ≤ common x y)
    → ((x y : Place) → In x ys → In y ys → c ≤ common x y)
    → ((x y : Place) → In x xs → In y ys → common x y ≡ c) → Contiguous (xs ++ ys)
contiguous_append c [] ys h k in_xs in_ys across = k
contiguous_append c (p ∷ xs) ys h k in_xs in_ys across =
    let to : (y : Place) → In y ys → common p y ≡ c = λ y j. across p y (inl refl) j in (
      pairwise_append (Spans p) xs ys h.0
          (pairwise_of (Spans p) ys (λ x y i j. (omega (arith, to x i, to y j), omega (arith, to y j, in_ys x y i j))))
          (λ x y i j. (
            omega (arith, to y j, in_xs p x (inl refl) (inr i)),
            omega (arith, to y j, across x y (inr i) j),
          )),
      contiguous_append c xs ys h.1 k (λ x y i j. in_xs x y (inr i) (inr j)) in_ys (λ x y i j. across x y (inr i) j),
    )

-- the loops common to two places inside the same loops
front_common : (loops ids ids' : List ℕ) (x y : Place) (i : Inner loops ids x) (j : Inner loops ids' y)
    → common x y ≡ length loops + common_loops i.inner j.inner
front_common loops ids ids' x y i j =
    ap (λ ks. common_loops ks y.loops) i.rounds ∙ ap (common_loops (loops ++ i.inner)) j.rounds
    ∙ common_front loops i.inner j.inner

at_least : (loops ids : List ℕ) (places : List Place) → Each (Inner loops ids) places → (x y : Place)
    → In x places → In y places → length loops ≤ common x y
at_least loops ids places all x y i j =
    omega (arith, front_common loops ids ids x y (each_in _ x places all i) (each_in _ y places all j))

-- in different parts
just : (loops ids ids' : List ℕ) (x y : Place) → ((k l : ℕ) → In k ids → In l ids' → k < l)
    → Inner loops ids x → Inner loops ids' y → common x y ≡ length loops
just loops ids ids' x y apart i j =
    let none : common_loops i.inner j.inner ≡ 0 =
    common_none i.inner j.inner
    (λ k l h g. apart k l (each_in _ k i.inner i.inside h) (each_in _ l j.inner j.inside g)) in
    omega (arith, front_common loops ids ids' x y i j, none)

abbrev Ascend : List ℕ → Type 0
Ascend ids = Pairwise (λ j k. j < k) ids

abbrev IsInOneStretch : Node → Type 0
IsInOneStretch node = (loops : List ℕ) (rows : List Form) → Ascend (loops_of node)
    → Contiguous (places_of node loops rows)

parts_contiguous : (nodes : List Node) → Each IsInOneStretch nodes → (loops : List ℕ) (rows : List Form)
    → Ascend (all_loops nodes) → Contiguous (in_each (map places_of nodes) loops rows)
parts_contiguous [] h loops rows numbered = tt
parts_contiguous (node ∷ nodes) h loops rows numbered =
    let own : List ℕ = loops_of node in
    let others : List ℕ = all_loops nodes in
    let places : List Place = places_of node loops rows in
    let rest : List Place = in_each (map places_of nodes) loops rows in
    let first : Each (Inner loops own) places = has_inner node loops rows in
    let later : Each (Inner loops others) rest = parts_inner nodes (each_of HasInner nodes has_inner) loops rows in
    contiguous_append (length loops) places rest
    (h.0 loops rows (pairwise_left (λ j k. j < k) own others numbered))
    (parts_contiguous nodes h.1 loops rows (pairwise_right (λ j k. j < k) own others numbered))
    (at_least loops own places first) (at_least loops others rest later)
    (λ x y i j. just loops own others x y (λ k l h g. pairwise_across (λ j k. j < k) own others k l numbered h g)
    (each_in _ x places first i) (each_in _ y rest later j))

contiguous_loop : (id : ℕ) (lower upper : List Form) (step : ℤ) (body : List Node) → Each IsInOneStretch body
    → IsInOneStretch (Loop id lower upper step body)
contiguous_loop id lower upper step body h loops rows numbered =
    let ids : Ascend (id ∷ all_loops body) =
    subst Ascend (fold_loop (List ℕ) loops_step id lower upper step body) numbered in
    subst Contiguous (sym (places_loop id lower upper step body loops rows))
    (parts_contiguous body h (loops ++ id ∷ []) (inner_rows (length loops) rows lower upper step) ids.1)

contiguous_guard : (guards : List Form) (body : List Node) → Each IsInOneStretch body
    → IsInOneStretch (Guard guards body)
contiguous_guard guards body h loops rows numbered =
    subst Contiguous (sym (places_guard guards body loops rows))
    (parts_contiguous body h loops (rows ++ guards)
    (subst Ascend (fold_guard (List ℕ) loops_step guards body) numbered))

contiguous_assign : (s : ℕ) → IsInOneStretch (Assign s)
contiguous_assign s loops rows numbered = subst Contiguous (sym (places_assign s loops rows)) (tt, tt)

in_one_stretch : (node : Node) → IsInOneStretch node
in_one_stretch = by_parts IsInOneStretch contiguous_loop contiguous_guard contiguous_assign

contiguous_at : (places : List Place) (i j k : ℕ) (a b c : Place) → Contiguous places
    → slice_get places i ≡ Some a → slice_get places j ≡ Some b → slice_get places k ≡ Some c
    → i < j → j < k → Spans a b c
contiguous_at [] i j k a b c h e f g l m = absurd (cc)
contiguous_at (p ∷ places) zero zero k a b c h e f g l m = absurd (omega arith)
contiguous_at (p ∷ places) zero (suc j) zero a b c h e f g l m = absurd (omega arith)
contiguous_at (p ∷ places) zero (suc j) (suc k) a b c h e f g l m =
    subst (λ q. Spans q b c) (same_Some p a e) (pairwise_at (Spans p) places j k b c h.0 f g (omega (arith, m)))
contiguous_at (p ∷ places) (suc i) zero k a b c h e f g l m = absurd (omega arith)
contiguous_at (p ∷ places) (suc i) (suc j) zero a b c h e f g l m = absurd (omega arith)
contiguous_at (p ∷ places) (suc i) (suc j) (suc k) a b c h e f g l m =
    contiguous_at places i j k a b c h.1 e f g (omega (arith, l)) (omega (arith, m))

pub text_is_contiguous : (n : Nest) → IsContiguous n
text_is_contiguous n a b c first middle last e f g l m =
    let loops : Ascend (all_loops n.body) =
    subst Ascend (sym n.well_formed.loops_numbered) (range_with_len_ascends 0 (length (all_loops n.body))) in
    let whole : Contiguous (said_from 0 n.statements) =
    subst Contiguous n.well_formed.placed
    (parts_contiguous n.body (each_of IsInOneStretch n.body in_one_stretch) [] [] loops) in
    let spans : Spans (place_of (0 + a) first) (place_of (0 + b) middle) (place_of (0 + c) last) =
    contiguous_at (said_from 0 n.statements) a b c _ _ _ whole (said_at 0 n.statements a first e)
    (said_at 0 n.statements b middle f) (said_at 0 n.statements c last g) l m in
    omega (arith, spans.0, spans.1, common_least first.loops middle.loops last.loops)
