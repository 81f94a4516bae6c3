-- The count is the size, where it is within its limit and all loops that are entered are too.
--
-- Of each part of a body is kept what it does to any count that hasn't passed the limit (`IsMeasured`): it adds the
-- part's own size, and refuses exactly where the sum passes the limit, given that the part's loops are within theirs.
-- Two such parts in sequence are one, since a count that has passed the limit stays refused whatever comes
-- (`measured_then`). So it holds of a loop's turns by induction along the values, and of all bodies by induction over
-- the tree. Which refusal comes where a loop isn't within its limit isn't told here: only that some does.
use Rattle.std.proofs.Common.{◌≡◌, ◌<◌, ◌≤◌, ◌+◌, ◌*◌, ℕ, zero, suc, ℤ, pos, ◌+ℤ◌, ◌-ℤ◌, List, [], ◌∷◌, ◌++◌, map}
use Rattle.std.proofs.Common.{length, refl, sym, ap, ◌∙◌, subst, inl, inr, arith, add-one, suc-mul, length-append}
use Rattle.std.specs.Prelude.{Bool, true, false, cond, ◌&&◌, Result, Ok, Err, IfOk, ◌↔◌, nat_le}
use Rattle.std.specs.List.{list_all, sum_by}
use Rattle.std.proofs.lemmas.List.{map-id}
use Rattle.std.proofs.lemmas.List.Sums.{sum_by-cons}
use Rattle.std.proofs.lemmas.Bool.{and_parts, cases_lt, le-leb, lt-leb, false≢true}
use Rattle.sanlp.specs.declared.nest.Nest.{Nest}
use Rattle.sanlp.specs.declared.nest.Node.{Node}
use Rattle.sanlp.specs.declared.nest.Node.TheOpen.{Node-F, Loop, Guard, Assign}
use Rattle.sanlp.specs.declared.nest.Node.TheFolds.{map-Node, fold-roll-Node, ind-Node}
use Rattle.sanlp.specs.declared.nest.Node.TheViews.{roll-Node}
use Rattle.sanlp.specs.declared.nest.Point.{Point}
use Rattle.sanlp.specs.Loops.{loop_values, all_hold, interval}
use Rattle.sanlp.specs.Cells.{counted as counted_from, natural}
use Rattle.sanlp.specs.Size.{size, turns_step, turns_of_node, SizeIsOk, loop_within, node_within, size_limit}
use Rattle.sanlp.specs.Size.{within_step}
use Rattle.sanlp.specs.Trace.{PointsAt, all_points, turn_points, trace_step, trace_node, trace}
use Rattle.sanlp.proofs.Folds.{by_parts, fold_assign_at, fold_guard, fold_loop}
use Rattle.loop_walk.specs.Counting.{Count, and_then, assignment_step, capped, count_step, counted, counted_node}
use Rattle.loop_walk.specs.Counting.{counted_parts, counted_turn, counted_turns, in_order, is_assignment, one_more}
use Rattle.loop_walk.specs.declared.count.SizeError.{SizeError}
use Rattle.loop_walk.specs.declared.count.SizeError.TheVariants.{Limit, LoopValue}

abbrev past_limit : Result ℕ SizeError
past_limit = Err (Limit (size_limit + 1))

capped_within : (t : ℕ) → t ≤ size_limit → capped t ≡ Ok t
capped_within t h = ap (λ b. cond b (Ok t) past_limit) (le-leb t size_limit h)

capped_past : (t : ℕ) → size_limit < t → capped t ≡ past_limit
capped_past t h = ap (λ b. cond b (Ok t) past_limit) (lt-leb t size_limit h)

-- A part that adds its size to a count that has not passed the limit, if its loops are within theirs.
record IsMeasured (part : Count) (within : Bool) (weight : ℕ) : Type 0 where
  counts : (count : ℕ) → count ≤ size_limit → within ≡ true → part count ≡ capped (count + weight)
  passed : (count total : ℕ) → part count ≡ Ok total → within ≡ true

measured_along : (part : Count) (within within' : Bool) (weight weight' : ℕ) → within ≡ within' → weight ≡ weight'
    → IsMeasured part within weight → IsMeasured part within' weight'
measured_along part within within' weight weight' e f m =
    subst (λ w. IsMeasured part w weight') e (subst (IsMeasured part within) f m)

measured_as : (part part' : Count) (within within' : Bool) (weight weight' : ℕ) → part ≡ part' → within ≡ within'
    → weight ≡ weight'
    → IsMeasured part within weight → IsMeasured part' within' weight'
measured_as part part' within within' weight weight' d e f m =
    subst (λ p. IsMeasured p within' weight') d (measured_along part within within' weight weight' e f m)

measured_none : IsMeasured (in_order []) true 0
measured_none = record {
  counts = λ count le w. sym (capped_within count le) ∙ ap capped (omega arith);
  passed = λ count total e. refl;
}

measured_one : IsMeasured one_more true 1
measured_one = record {
  counts = λ count le w. ap (λ k. cond (nat_le k size_limit) (Ok (count + 1)) past_limit) (sym (add-one count));
  passed = λ count total e. refl;
}

then_capped : (t v : ℕ) (next : Count) → (t ≤ size_limit → next t ≡ capped (t + v))
    → and_then (capped t) next ≡ capped (t + v)
then_capped t v next h = elim (cases_lt size_limit t) [
  | inl past ↦ ap (λ r. and_then r next) (capped_past t past) ∙ sym (capped_past (t + v) (omega arith))
  | inr le ↦ ap (λ r. and_then r next) (capped_within t le) ∙ h le
]

then_passed : (r : Result ℕ SizeError) (p q : Bool) (next : Count) (total : ℕ)
    → ((c : ℕ) → r ≡ Ok c → p ≡ true) → ((c : ℕ) → next c ≡ Ok total → q ≡ true) → and_then r next ≡ Ok total
    → p && q ≡ true
then_passed (Ok c) p q next total first second e = ap (λ b. b && q) (first c refl) ∙ second c e
then_passed (Err x) p q next total first second e = cc

measured_then : (part next : Count) (p q : Bool) (v w : ℕ)
    → IsMeasured part p v → IsMeasured next q w → IsMeasured (λ count. and_then (part count) next) (p && q) (v + w)
measured_then part next p q v w first second = record {
  counts = λ count le both.
      let tests = and_parts p q both in
      ap (λ r. and_then r next) (first.counts count le tests.0)
      ∙ then_capped (count + v) w next (λ l. second.counts (count + v) l tests.1)
      ∙ ap capped (omega arith);
  passed = λ count total e. then_passed (part count) p q next total (first.passed count) (λ c. second.passed c total) e;
}

-- a loop: it is refused where one of its forms is not within the limit
measured_loop : (b : Bool) (part : Count) (p : Bool) (w id : ℕ)
    → IsMeasured part p w → IsMeasured (λ count. cond b (part count) (Err (LoopValue id))) (b && p) w
measured_loop true part p w id m = m
measured_loop false part p w id m =
    record { counts = λ count le e. absurd (false≢true e); passed = λ count total e. cc }

-- a guard: it runs its body where its rows hold
measured_guard : (b : Bool) (part : Count) (p : Bool) (points : List Point) (v : ℕ)
    → IsMeasured part p (length points + v)
    → IsMeasured (λ count. cond b (part count) (Ok count)) (cond b p true) (length (cond b points []) + cond b v 0)
measured_guard true part p points v m = m
measured_guard false part p points v m = record {
  counts = λ count le w. sym (capped_within count le) ∙ ap capped (omega arith);
  passed = λ count total e. refl;
}

-- the size of a part of the body
abbrev node_size : Node → List ℤ → ℕ
node_size node at = length (trace_node node at) + turns_of_node node at

abbrev IsMeasuredNode : Node → Type 0
IsMeasuredNode node = (at : List ℤ) → IsMeasured (counted_node node at) (node_within node at) (node_size node at)

abbrev Measured : Type 0
Measured = (node : Node) × IsMeasuredNode node

weights : (xs ys : List Point) (a b : ℕ) → (length xs + a) + (length ys + b) ≡ length (xs ++ ys) + (a + b)
weights xs ys a b = omega (arith, length-append xs ys)

turn_weights : (xs ys : List Point) (a b : ℕ)
    → (1 + (length xs + a)) + (length ys + b) ≡ length (xs ++ ys) + ((a + 1) + b)
turn_weights xs ys a b = omega (arith, length-append xs ys)

-- the parts of a body, and what is said of them
module _ (X : Type 0) (node : X → Node) (measured : (x : X) → IsMeasuredNode (node x)) where
  abbrev counts_of : List X → List (List ℤ → Count)
  counts_of parts = map counted_node (map node parts)

  abbrev parts_within : List X → List ℤ → Bool
  parts_within parts at = list_all (λ part. part at) (map node_within (map node parts))

  abbrev parts_points : List X → List ℤ → List Point
  parts_points parts at = all_points (map trace_node (map node parts)) at

  abbrev parts_turns : List X → List ℤ → ℕ
  parts_turns parts at = sum_by (λ part. part at) (map turns_of_node (map node parts))

  parts_measured : (parts : List X) (at : List ℤ)
      → IsMeasured (counted_parts (counts_of parts) at) (parts_within parts at)
      (length (parts_points parts at) + parts_turns parts at)
  parts_measured [] at = measured_along (in_order []) true true 0 (0 + 0) refl (omega arith) measured_none
  parts_measured (x ∷ parts) at =
      measured_along _ _ _ _ _ refl
      (weights (trace_node (node x) at) (parts_points parts at) (turns_of_node (node x) at) (parts_turns parts at)
      ∙ ap (λ w. length (parts_points (x ∷ parts) at) + w)
      (sym (sum_by-cons (λ part. part at) (turns_of_node (node x)) (map turns_of_node (map node parts)))))
      (measured_then (counted_node (node x) at) (counted_parts (counts_of parts) at) _ _ _ _ (measured x at)
      (parts_measured parts at))

  turn_measured : (parts : List X) (at : List ℤ) (value : ℤ)
      → IsMeasured (counted_turn (counts_of parts) at value) (parts_within parts (at ++ value ∷ []))
      (1 + (length (parts_points parts (at ++ value ∷ [])) + parts_turns parts (at ++ value ∷ [])))
  turn_measured parts at value =
      measured_then one_more (counted_parts (counts_of parts) (at ++ value ∷ [])) true _ 1 _ measured_one
      (parts_measured parts (at ++ value ∷ []))

  turns_measured : (parts : List X) (at values : List ℤ)
      → IsMeasured (counted_turns (counts_of parts) at values)
      (list_all (λ value. parts_within parts (at ++ value ∷ [])) values)
      (length (turn_points (parts_points parts) values at) + sum_by
      (λ value. parts_turns parts (at ++ value ∷ []) + 1) values)
  turns_measured parts at [] = measured_along (in_order []) true true 0 (0 + 0) refl (omega arith) measured_none
  turns_measured parts at (value ∷ values) =
      measured_along _ _ _ _ _ refl
      (turn_weights (parts_points parts (at ++ value ∷ [])) (turn_points (parts_points parts) values at)
      (parts_turns parts (at ++ value ∷ [])) (sum_by (λ value. parts_turns parts (at ++ value ∷ []) + 1) values)
      ∙ ap (λ w. length (turn_points (parts_points parts) (value ∷ values) at) + w)
      (sym (sum_by-cons (λ value. parts_turns parts (at ++ value ∷ []) + 1) value values)))
      (measured_then (counted_turn (counts_of parts) at value) (counted_turns (counts_of parts) at values) _ _ _ _
      (turn_measured parts at value) (turns_measured parts at values))

  layer_measured : (y : Node-F X) → IsMeasuredNode (roll-Node (map-Node X Node node y))
  layer_measured (Loop id lower upper step body) at =
      measured_as _ _ _ _ _ _
      (ap (λ part. part at)
      (sym (fold-roll-Node (List ℤ → Count) count_step (Loop id lower upper step (map node body)))))
      (ap (λ part. part at)
      (sym (fold-roll-Node (List ℤ → Bool) within_step (Loop id lower upper step (map node body)))))
      (ap (λ part.
      length (part at) + sum_by (λ value. parts_turns body (at ++ value ∷ []) + 1)
      (loop_values lower upper step at))
      (sym (fold-roll-Node PointsAt trace_step (Loop id lower upper step (map node body))))
      ∙ ap (λ part. length (trace_node (roll-Node (Loop id lower upper step (map node body))) at) + part at)
      (sym (fold-roll-Node (List ℤ → ℕ) turns_step (Loop id lower upper step (map node body)))))
      (measured_loop (loop_within lower upper at) _ _ _ id (turns_measured body at (loop_values lower upper step at)))
  layer_measured (Guard rows body) at =
      measured_as _ _ _ _ _ _
      (ap (λ part. part at) (sym (fold-roll-Node (List ℤ → Count) count_step (Guard rows (map node body)))))
      (ap (λ part. part at) (sym (fold-roll-Node (List ℤ → Bool) within_step (Guard rows (map node body)))))
      (ap (λ part. length (part at) + cond (all_hold rows at) (parts_turns body at) 0)
      (sym (fold-roll-Node PointsAt trace_step (Guard rows (map node body))))
      ∙ ap (λ part. length (trace_node (roll-Node (Guard rows (map node body))) at) + part at)
      (sym (fold-roll-Node (List ℤ → ℕ) turns_step (Guard rows (map node body)))))
      (measured_guard (all_hold rows at) _ _ (parts_points body at) (parts_turns body at) (parts_measured body at))
  layer_measured (Assign s) at =
      measured_as _ _ _ _ _ _
      (ap (λ part. part at) (sym (fold-roll-Node (List ℤ → Count) count_step (Assign s))))
      (ap (λ part. part at) (sym (fold-roll-Node (List ℤ → Bool) within_step (Assign s))))
      (ap (λ part. length (part at) + 0) (sym (fold-roll-Node PointsAt trace_step (Assign s)))
      ∙ ap (λ part. length (trace_node (roll-Node (Assign s)) at) + part at)
      (sym (fold-roll-Node (List ℤ → ℕ) turns_step (Assign s))))
      measured_one

node_measured : (node : Node) → IsMeasuredNode node
node_measured =
    ind-Node IsMeasuredNode
    (λ x y is. subst (λ z. IsMeasuredNode (roll-Node z)) is (layer_measured Measured (λ e. e.0) (λ e. e.1) y))

abbrev nest_within : Nest → Bool
nest_within n = list_all (λ part. part []) (map node_within n.body)

nest_measured : (n : Nest) → IsMeasured (counted_parts (map counted_node n.body) []) (nest_within n) (size n)
unfolding size trace
nest_measured n =
    subst (λ nodes.
    IsMeasured (counted_parts (map counted_node nodes) []) (list_all (λ part. part []) (map node_within nodes))
    (length (all_points (map trace_node nodes) []) + sum_by (λ part. part []) (map turns_of_node nodes)))
    (map-id n.body) (parts_measured Node (λ x. x) node_measured n.body [])

-- the count of a nest whose loops are within their limit
counted_is : (n : Nest) → nest_within n ≡ true → counted n ≡ capped (size n)
unfolding counted
counted_is n within = (nest_measured n).counts 0 (omega arith) within ∙ ap capped (omega arith)

pub counted_all : (n : Nest) → SizeIsOk n → counted n ≡ Ok (size n)
counted_all n ok = counted_is n ok.loops_within ∙ capped_within (size n) ok.size_within

capped_ok : (t total : ℕ) → Ok total ≡ capped t → (total ≡ t) × (t ≤ size_limit)
capped_ok t total e = elim (cases_lt size_limit t) [
  | inl past ↦ (let f = e ∙ capped_past t past in cc)
  | inr le ↦ (let f = e ∙ capped_within t le in (cc, le))
]

counted_size : (n : Nest) (total : ℕ) → counted n ≡ Ok total → (total ≡ size n) × SizeIsOk n
unfolding counted
counted_size n total e =
    let within = (nest_measured n).passed 0 total e in
    let is = capped_ok (size n) total (sym e ∙ counted_is n within) in
    (is.0, record { size_within = is.1; loops_within = within })

pub size_of_ok : (n : Nest) (r : Result ℕ SizeError) → r ≡ counted n → IfOk r (λ total. (total ≡ size n) × SizeIsOk n)
size_of_ok n (Ok total) e = counted_size n total (sym e)
size_of_ok n (Err refusal) e = tt

-- where the loops are within their limit, the count is refused exactly where the size is past its own
capped_refused : (t : ℕ) → capped t ≡ past_limit ↔ size_limit < t
capped_refused t = (
  λ e. elim (cases_lt size_limit t) [
    | inl past ↦ past
    | inr le ↦ absurd (let f = sym e ∙ capped_within t le in cc)
  ],
  capped_past t,
)

pub size_past_limit : (n : Nest) (r : Result ℕ SizeError) → r ≡ counted n → nest_within n ≡ true
    → r ≡ past_limit ↔ size_limit < size n
size_past_limit n r e within =
    let is = e ∙ counted_is n within in
    let refused = capped_refused (size n) in
    (λ f. refused.0 (sym is ∙ f), λ past. is ∙ refused.1 past)

-- a part that is an assignment adds one
one_assignment : (node : Node) → is_assignment node ≡ true → (at : List ℤ) → counted_node node at ≡ one_more
one_assignment = by_parts (λ node. is_assignment node ≡ true → (at : List ℤ) → counted_node node at ≡ one_more)
    (λ id lower upper step body each h at.
    absurd (false≢true (sym (fold_loop Bool assignment_step id lower upper step body) ∙ h)))
    (λ rows body each h at. absurd (false≢true (sym (fold_guard Bool assignment_step rows body) ∙ h)))
    (λ s h at. fold_assign_at (List ℤ) Count count_step s at)

assignments_measured : (parts : List Node) (at : List ℤ) → list_all is_assignment parts ≡ true
    → IsMeasured (counted_parts (map counted_node parts) at) true (length parts)
assignments_measured [] at h = measured_none
assignments_measured (node ∷ parts) at h =
    let tests = and_parts (is_assignment node) (list_all is_assignment parts) h in
    let e : 1 + length parts ≡ suc (length parts) = omega arith in
    measured_along _ true true (1 + length parts) (suc (length parts)) refl e
    (measured_then (counted_node node at) (counted_parts (map counted_node parts) at) true true 1 (length parts)
    (subst (λ part. IsMeasured part true 1) (sym (one_assignment node tests.0 at)) measured_one)
    (assignments_measured parts at tests.1))

turns_of_assignments : (parts : List Node) (at values : List ℤ) → list_all is_assignment parts ≡ true
    → IsMeasured (counted_turns (map counted_node parts) at values) true (length values * (1 + length parts))
turns_of_assignments parts at [] h =
    measured_along (in_order []) true true 0 (0 * (1 + length parts)) refl (omega arith) measured_none
turns_of_assignments parts at (value ∷ values) h =
    let e : (1 + length parts) + length values * (1 + length parts) ≡ suc (length values) * (1 + length parts) =
    omega (arith, suc-mul (length values) (1 + length parts)) in
    measured_along _ true true ((1 + length parts) + length values * (1 + length parts))
    (suc (length values) * (1 + length parts)) refl e
    (measured_then (counted_turn (map counted_node parts) at value)
    (counted_turns (map counted_node parts) at values) true true (1 + length parts)
    (length values * (1 + length parts))
    (measured_then one_more (counted_parts (map counted_node parts) (at ++ value ∷ [])) true true 1
    (length parts) measured_one (assignments_measured parts (at ++ value ∷ []) h))
    (turns_of_assignments parts at values h))

pub length-counted : (a : ℤ) (n : ℕ) → length (counted_from a n) ≡ n
length-counted a zero = refl
length-counted a (suc n) = ap suc (length-counted (a +ℤ pos 1) n)

-- the turns of a loop whose body has nothing but assignments
pub equal_turns : (parts : List Node) (at : List ℤ) (first last : ℤ) (count : ℕ) → count ≤ size_limit
    → list_all is_assignment parts ≡ true
    → capped (count + natural (last +ℤ pos 1 -ℤ first) * (1 + length parts))
    ≡ counted_turns (map counted_node parts) at (interval first last) count
equal_turns parts at first last count le h =
    ap (λ turns. capped (count + turns * (1 + length parts)))
    (sym (length-counted first (natural (last +ℤ pos 1 -ℤ first))))
    ∙ sym ((turns_of_assignments parts at (interval first last) h).counts count le refl)
