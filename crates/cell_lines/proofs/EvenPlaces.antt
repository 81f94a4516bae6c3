-- The places of an access along a loop: where its first and its last cell lie within the extents, so do those between,
-- and their places change evenly. A subscript is a number plus the loop's value times another, so between two values at
-- which it lies within its extent it lies there too, and so does the place with its limit. The induction goes over the
-- subscripts: the place after each is again a number plus the value times another. Nothing is said of a cell before the
-- first or behind the last.
use Rattle.std.proofs.Common.{◌≡◌, ◌<◌, ◌+◌, ◌*◌, ℕ, ℤ, pos, negsuc, ◌+ℤ◌, ◌-ℤ◌, ◌*ℤ◌, ◌≤ℤ◌, ◌<ℤ◌, List, [], ◌∷◌, ◌++◌}
use Rattle.std.proofs.Common.{map, refl, sym, ap, ◌∙◌, subst, ◌⊎◌, inl, inr, arith}
use Rattle.std.specs.Prelude.{Option, Some, None, is_some, true, nat_lt, cond}
use Rattle.std.specs.Option.{option_and_then}
use Rattle.std.proofs.Math.IntN.{*ℤ_comm, *ℤ-one, zero-*ℤ}
use Rattle.std.proofs.lemmas.Bool.{lt-ltb, ltb-true}
use Rattle.std.proofs.lemmas.Int.{by_lt_z, ints}
use Rattle.std.proofs.lemmas.Option.{cond_some}
use Rattle.affine_core.specs.declared.form.Form.{Form}
use Rattle.affine_core.specs.Affine.{combined, form_at}
use Rattle.affine_core.proofs.Ring.{sum_times, times_assoc, times_sum, times_at_most}
use Rattle.sanlp.specs.Cells.{natural}
use Rattle.sanlp.proofs.Intervals.{natural_pos}
use Rattle.cell_rows.specs.RowPlaces.{inside, place_after, place_from, row_limit, within_limit}
use Rattle.cell_rows.proofs.RowCells.{after_parts}
use Rattle.plain_data.proofs.Options.{option_and_then-some}

-- a number that changes evenly with the value of a loop
pub record IsEven (f : ℤ → ℤ) : Type 0 where
  pub start : ℤ
  pub slope : ℤ
  pub is : (v : ℤ) → f v ≡ start +ℤ (v *ℤ slope)

no_more : (sum : ℤ) (coefs : List ℤ) → combined sum coefs [] ≡ sum
no_more sum [] = refl
no_more sum (c ∷ coefs) = refl

-- the value of a form changes evenly with the value of the innermost loop
pub form_even : (sum : ℤ) (coefs at : List ℤ) → IsEven (λ v. combined sum coefs (at ++ v ∷ []))
form_even sum [] [] = record { start = sum; slope = pos 0; is = λ v. omega (arith, ints, *ℤ_comm v (pos 0), zero-*ℤ v) }
form_even sum [] (x ∷ at) =
    record { start = sum; slope = pos 0; is = λ v. omega (arith, ints, *ℤ_comm v (pos 0), zero-*ℤ v) }
form_even sum (c ∷ coefs) [] =
    record { start = sum; slope = c; is = λ v. no_more (sum +ℤ (c *ℤ v)) coefs ∙ ap (λ z. sum +ℤ z) (*ℤ_comm c v) }
form_even sum (c ∷ coefs) (x ∷ at) = form_even (sum +ℤ (c *ℤ x)) coefs at

opposite_product : (a c d : ℤ) → c +ℤ d ≡ pos 0 → (a *ℤ c) +ℤ (a *ℤ d) ≡ pos 0
opposite_product a c d e = sym (times_sum a c d) ∙ ap (λ z. a *ℤ z) e ∙ *ℤ_comm a (pos 0) ∙ zero-*ℤ a

earlier_product : (low high c : ℤ) → low ≤ℤ high → c ≤ℤ pos 0 → (high *ℤ c) ≤ℤ (low *ℤ c)
earlier_product low high c le h =
    let d : ℤ = pos 0 -ℤ c in
    let positive : pos 0 ≤ℤ (pos 0 -ℤ c) = omega (arith, ints) in
    let none : c +ℤ (pos 0 -ℤ c) ≡ pos 0 = omega (arith, ints) in
    let first = opposite_product low c (pos 0 -ℤ c) none in
    let second = opposite_product high c (pos 0 -ℤ c) none in
    let more = times_at_most low high (pos 0 -ℤ c) le positive in
    omega (arith, ints)

signs : (c : ℤ) → (pos 0 ≤ℤ c) ⊎ (c ≤ℤ pos 0)
signs (pos n) = inl (omega (arith, ints))
signs (negsuc n) = inr (omega (arith, ints))

module _ (a c low high v : ℤ) (from : low ≤ℤ v) (to : v ≤ℤ high) where
  -- what is not negative at both ends is so between, and likewise with a limit
  pub not_negative_between : pos 0 ≤ℤ (a +ℤ (low *ℤ c)) → pos 0 ≤ℤ (a +ℤ (high *ℤ c)) → pos 0 ≤ℤ (a +ℤ (v *ℤ c))
  not_negative_between first last = elim (signs c) [
    | inl h ↦ (let more = times_at_most low v c from h in omega (arith, ints))
    | inr h ↦ (let more = earlier_product v high c to h in omega (arith, ints))
  ]

  pub below_between : (limit : ℤ) → (a +ℤ (low *ℤ c)) <ℤ limit → (a +ℤ (high *ℤ c)) <ℤ limit → (a +ℤ (v *ℤ c)) <ℤ limit
  below_between limit first last = elim (signs c) [
    | inl h ↦ (let more = times_at_most v high c to h in omega (arith, ints))
    | inr h ↦ (let more = earlier_product low v c from h in omega (arith, ints))
  ]

-- the place after one subscript more, where it is within its extent and the limit
after_is : (before m : ℕ) (extent v : ℤ) → v ≡ pos m → m < natural extent → before * natural extent + m < row_limit
    → place_after before extent v ≡ Some (before * natural extent + m)
after_is before m extent v e within limit =
    ap (place_after before extent) e
    ∙ ap (λ b. option_and_then (λ n. within_limit (before * natural extent + n)) (cond b (Some m) None))
    (lt-ltb m (natural extent) within)
    ∙ ap (λ b. cond b (Some (before * natural extent + m)) None) (lt-ltb (before * natural extent + m) row_limit limit)

after_limit : (before : ℕ) (extent v : ℤ) (place : ℕ) → place_after before extent v ≡ Some place → place < row_limit
after_limit before extent (pos n) place e =
    let outer = option_and_then-some (λ m. within_limit (before * natural extent + m)) (inside extent (pos n)) place e in
    let limit =
    cond_some (nat_lt (before * natural extent + outer.0) row_limit)
    (before * natural extent + outer.0) place outer.2 in
    subst (λ k. k < row_limit) limit.1 (ltb-true (before * natural extent + outer.0) row_limit limit.0)
after_limit before extent (negsuc n) place e = cc e

-- the next place along the loop
next_even : (start slope a c v width : ℤ)
    → ((start +ℤ (v *ℤ slope)) *ℤ width) +ℤ (a +ℤ (v *ℤ c)) ≡ ((start *ℤ width) +ℤ a) +ℤ (v *ℤ ((slope *ℤ width) +ℤ c))
next_even start slope a c v width =
    omega (arith, ints, sum_times start (v *ℤ slope) width, times_assoc v slope width, times_sum v (slope *ℤ width) c)

-- one subscript more along the loop
module _ (extent start slope a c low high : ℤ) (f : ℤ → ℤ) (is : (v : ℤ) → f v ≡ a +ℤ (v *ℤ c))
    (le : low ≤ℤ high) (there : (v : ℤ) → low ≤ℤ v → v ≤ℤ high → pos 0 ≤ℤ (start +ℤ (v *ℤ slope))) where
  abbrev width : ℤ
  width = pos (natural extent)

  abbrev next_start : ℤ
  next_start = (start *ℤ width) +ℤ a

  abbrev next_slope : ℤ
  next_slope = (slope *ℤ width) +ℤ c

  abbrev before : ℤ → ℕ
  before v = natural (start +ℤ (v *ℤ slope))

  -- the place after a subscript, as a number
  place_is : (v : ℤ) (n : ℕ) → low ≤ℤ v → v ≤ℤ high → f v ≡ pos n
      → pos (before v * natural extent + n) ≡ next_start +ℤ (v *ℤ next_slope)
  place_is v n from to e =
      let product : pos (before v * natural extent) ≡ (start +ℤ (v *ℤ slope)) *ℤ width =
      ap (λ z. z *ℤ width) (natural_pos (start +ℤ (v *ℤ slope)) (there v from to)) in
      let g = sym (is v) ∙ e in
      let split : pos (before v * natural extent + n) ≡ pos (before v * natural extent) +ℤ pos n = refl in
      split ∙ ap (λ z. z +ℤ pos n) product ∙ ap (λ z. ((start +ℤ (v *ℤ slope)) *ℤ width) +ℤ z) (sym g)
      ∙ next_even start slope a c v width

  -- what an end of the loop says
  record IsEnd (v : ℤ) : Type 0 where
    subscript : pos 0 ≤ℤ (a +ℤ (v *ℤ c))
    within : (a +ℤ (v *ℤ c)) <ℤ width
    place : pos 0 ≤ℤ (next_start +ℤ (v *ℤ next_slope))
    limit : (next_start +ℤ (v *ℤ next_slope)) <ℤ pos row_limit

  end_of : (v : ℤ) (place : ℕ) → low ≤ℤ v → v ≤ℤ high → place_after (before v) extent (f v) ≡ Some place → IsEnd v
  end_of v place from to e =
      let parts = after_parts (before v) extent (f v) place e in
      let g : a +ℤ (v *ℤ c) ≡ pos parts.0 = sym (is v) ∙ parts.1 in
      let p : pos place ≡ next_start +ℤ (v *ℤ next_slope) =
      ap (λ n. pos n) parts.3 ∙ place_is v parts.0 from to parts.1 in
      let limit = after_limit (before v) extent (f v) place e in
      let within = parts.2 in
      record {
        subscript = omega (arith, ints);
        within = omega (arith, ints);
        place = omega (arith, ints);
        limit = omega (arith, ints);
      }

  pub even_step : (p q : ℕ) → place_after (before low) extent (f low) ≡ Some p
      → place_after (before high) extent (f high) ≡ Some q
      → (v : ℤ) → low ≤ℤ v → v ≤ℤ high
      → (pos 0 ≤ℤ (next_start +ℤ (v *ℤ next_slope)))
      × (place_after (before v) extent (f v) ≡ Some (natural (next_start +ℤ (v *ℤ next_slope))))
  even_step p q first last v from to =
      let here : low ≤ℤ low = omega (arith, ints) in
      let there : high ≤ℤ high = omega (arith, ints) in
      let low_end = end_of low p here le first in
      let high_end = end_of high q le there last in
      let subscript = not_negative_between a c low high v from to low_end.subscript high_end.subscript in
      let within = below_between a c low high v from to width low_end.within high_end.within in
      let place = not_negative_between next_start next_slope low high v from to low_end.place high_end.place in
      let limit = below_between next_start next_slope low high v from to (pos row_limit) low_end.limit high_end.limit in
      let n : ℕ = natural (a +ℤ (v *ℤ c)) in
      let number : pos (natural (a +ℤ (v *ℤ c))) ≡ a +ℤ (v *ℤ c) = natural_pos (a +ℤ (v *ℤ c)) subscript in
      let e : f v ≡ pos (natural (a +ℤ (v *ℤ c))) = is v ∙ sym number in
      let whole = place_is v n from to e in
      let inside : natural (a +ℤ (v *ℤ c)) < natural extent = omega (arith, ints) in
      let limited : before v * natural extent + natural (a +ℤ (v *ℤ c)) < row_limit = omega (arith, ints) in
      (place, after_is (before v) n extent (f v) e inside limited ∙ ap (λ z. Some (natural z)) whole)

-- the places along the loop
pub record HasLine (extents : List ℤ) (forms : List Form) (at : List ℤ) (start slope low high : ℤ) : Type 0 where
  pub line_start : ℤ
  pub line_slope : ℤ
  pub not_negative : (v : ℤ) → low ≤ℤ v → v ≤ℤ high → pos 0 ≤ℤ (line_start +ℤ (v *ℤ line_slope))
  pub places : (v : ℤ) → low ≤ℤ v → v ≤ℤ high
      → place_from (natural (start +ℤ (v *ℤ slope))) extents (map (λ form. form_at form (at ++ v ∷ [])) forms)
      ≡ Some (natural (line_start +ℤ (v *ℤ line_slope)))

same_some : (m n : ℕ) (o : Option ℕ) → o ≡ Some m → o ≡ Some n → m ≡ n
same_some m n o e f = let g : ◌≡◌ {A = Option ℕ} (Some m) (Some n) = sym e ∙ f in cc g

pub has_line : (extents : List ℤ) (forms : List Form) (at : List ℤ) (start slope low high : ℤ) (p q : ℕ) → low ≤ℤ high
    → ((v : ℤ) → low ≤ℤ v → v ≤ℤ high → pos 0 ≤ℤ (start +ℤ (v *ℤ slope)))
    → place_from (natural (start +ℤ (low *ℤ slope))) extents (map (λ form. form_at form (at ++ low ∷ [])) forms)
    ≡ Some p
    → place_from (natural (start +ℤ (high *ℤ slope))) extents (map (λ form. form_at form (at ++ high ∷ [])) forms)
    ≡ Some q
    → HasLine extents forms at start slope low high
has_line [] [] at start slope low high p q le there first last =
    record { line_start = start; line_slope = slope; not_negative = there; places = λ v from to. refl }
has_line [] (form ∷ forms) at start slope low high p q le there first last = cc first
has_line (extent ∷ extents) [] at start slope low high p q le there first last = cc first
has_line (extent ∷ extents) (form ∷ forms) at start slope low high p q le there first last =
    let even = form_even form.constant form.coefs at in
    let f : ℤ → ℤ = λ v. form_at form (at ++ v ∷ []) in
    let is : (v : ℤ) → form_at form (at ++ v ∷ []) ≡ even.start +ℤ (v *ℤ even.slope) = even.is in
    let rest : ℤ → ℕ → Option ℕ =
    λ v place. place_from place extents (map (λ form. form_at form (at ++ v ∷ [])) forms) in
    let low_parts = option_and_then-some (rest low) (place_after (natural (start +ℤ (low *ℤ slope))) extent (f low)) p first in
    let high_parts =
    option_and_then-some (rest high) (place_after (natural (start +ℤ (high *ℤ slope))) extent (f high)) q last in
    let step =
    even_step extent start slope even.start even.slope low high f is le there low_parts.0 high_parts.0 low_parts.1
    high_parts.1 in
    let here : low ≤ℤ low = omega (arith, ints) in
    let end : high ≤ℤ high = omega (arith, ints) in
    let low_same = same_some _ _ _ low_parts.1 (step low here le).1 in
    let high_same = same_some _ _ _ high_parts.1 (step high le end).1 in
    let inner =
    has_line extents forms at ((start *ℤ pos (natural extent)) +ℤ even.start)
    ((slope *ℤ pos (natural extent)) +ℤ even.slope) low high p q le
    (λ v from to. (step v from to).0)
    (ap (rest low) (sym low_same) ∙ low_parts.2) (ap (rest high) (sym high_same) ∙ high_parts.2) in
    record {
      line_start = inner.line_start;
      line_slope = inner.line_slope;
      not_negative = inner.not_negative;
      places = λ v from to. ap (option_and_then (rest v)) (step v from to).1 ∙ inner.places v from to;
    }

-- a place is within the limit
pub place_limit : (before : ℕ) (extents at : List ℤ) (place : ℕ) → before < row_limit
    → place_from before extents at ≡ Some place → place < row_limit
place_limit before [] [] place h e =
    let same : before ≡ place =
    (let f : ◌≡◌ {A = Option ℕ} (Some before) (Some place) = e in cc f) in subst (λ k. k < row_limit) same h
place_limit before [] (v ∷ at) place h e = cc e
place_limit before (extent ∷ extents) [] place h e = cc e
place_limit before (extent ∷ extents) (v ∷ at) place h e =
    let parts = option_and_then-some (λ p. place_from p extents at) (place_after before extent v) place e in
    place_limit parts.0 extents at place (after_limit before extent v parts.0 parts.1) parts.2

none_before : (v : ℤ) → natural (pos 0 +ℤ (v *ℤ pos 0)) ≡ 0
none_before v =
    ap natural (let e : pos 0 +ℤ (v *ℤ pos 0) ≡ pos 0 = omega (arith, ints, *ℤ_comm v (pos 0), zero-*ℤ v) in e)

one_value : (first last v : ℤ) → first ≤ℤ v → v ≤ℤ last → last ≤ℤ first → v ≡ first
one_value first last v from to end = omega (arith, ints)

pub either : (first last : ℤ) → (first <ℤ last) ⊎ (last ≤ℤ first)
either first last = by_lt_z first last (λ h. inl h) (λ h. inr h)

at_turn : (place next : ℕ) (first last v start slope : ℤ) → pos place ≡ start +ℤ (first *ℤ slope)
    → (first <ℤ last → pos next -ℤ pos place ≡ slope)
    → first ≤ℤ v → v ≤ℤ last → start +ℤ (v *ℤ slope) ≡ pos place +ℤ ((v -ℤ first) *ℤ (pos next -ℤ pos place))
at_turn place next first last v start slope number step from to = elim (either first last) [
  | inl lt ↦ (
      let e : first +ℤ (v -ℤ first) ≡ v = omega (arith, ints) in
      let split : (first *ℤ slope) +ℤ ((v -ℤ first) *ℤ slope) ≡ v *ℤ slope =
      sym (sum_times first (v -ℤ first) slope) ∙ ap (λ z. z *ℤ slope) e in
      let whole : start +ℤ (v *ℤ slope) ≡ pos place +ℤ ((v -ℤ first) *ℤ slope) = omega (arith, ints) in
      whole ∙ ap (λ z. pos place +ℤ ((v -ℤ first) *ℤ z)) (sym (step lt)))
  | inr end ↦ (
      let same = one_value first last v from to end in
      let none : v -ℤ first ≡ pos 0 = omega (arith, ints) in
      let product : (v -ℤ first) *ℤ (pos next -ℤ pos place) ≡ pos 0 =
      ap (λ z. z *ℤ (pos next -ℤ pos place)) none ∙ zero-*ℤ (pos next -ℤ pos place) in
      let first_is : start +ℤ (v *ℤ slope) ≡ pos place = ap (λ w. start +ℤ (w *ℤ slope)) same ∙ sym number in
      omega (arith, ints))
]

module _ (extents : List ℤ) (forms : List Form) (at : List ℤ) (first last : ℤ) (le : first ≤ℤ last) where
  abbrev place_of : ℤ → Option ℕ
  place_of v = place_from 0 extents (map (λ form. form_at form (at ++ v ∷ [])) forms)

  from_none : (w : ℤ)
      → place_from (natural (pos 0 +ℤ (w *ℤ pos 0))) extents (map (λ form. form_at form (at ++ w ∷ [])) forms)
      ≡ place_of w
  from_none w = ap (λ k. place_from k extents (map (λ form. form_at form (at ++ w ∷ [])) forms)) (none_before w)

  the_line : (place end : ℕ) → place_of first ≡ Some place → place_of last ≡ Some end
      → HasLine extents forms at (pos 0) (pos 0) first last
  the_line place end e f =
      has_line extents forms at (pos 0) (pos 0) first last place end le
      (λ w a b. let z = *ℤ_comm w (pos 0) in let y = zero-*ℤ w in omega (arith, ints))
      (from_none first ∙ e) (from_none last ∙ f)

  -- where the first and the last turn have places, so have those between
  pub placed_between : (place end : ℕ) → place_of first ≡ Some place → place_of last ≡ Some end
      → (v : ℤ) → first ≤ℤ v → v ≤ℤ last → is_some (place_of v) ≡ true
  placed_between place end e f v from to =
      let line = the_line place end e f in
      ap is_some (sym (from_none v) ∙ line.places v from to)

  -- the place at the first turn and at the next give all places
  pub line_places : (place end next : ℕ) → place_of first ≡ Some place → place_of last ≡ Some end
      → (first <ℤ last → place_of (first +ℤ pos 1) ≡ Some next) → (last ≤ℤ first → next ≡ end)
      → (v : ℤ) → first ≤ℤ v → v ≤ℤ last
      → place_of v ≡ Some (natural (pos place +ℤ ((v -ℤ first) *ℤ (pos next -ℤ pos place))))
  line_places place end next e f g h v from to =
      let line = the_line place end e f in
      let here : first ≤ℤ first = omega (arith, ints) in
      let start : place ≡ natural (line.line_start +ℤ (first *ℤ line.line_slope)) =
      same_some _ _ _ e (sym (from_none first) ∙ line.places first here le) in
      let number : pos place ≡ line.line_start +ℤ (first *ℤ line.line_slope) =
      ap (λ n. pos n) start ∙ natural_pos _ (line.not_negative first here le) in
      let step : first <ℤ last → pos next -ℤ pos place ≡ line.line_slope = λ lt.
      let a : first ≤ℤ (first +ℤ pos 1) = omega (arith, ints) in
      let b : (first +ℤ pos 1) ≤ℤ last = omega (arith, ints) in
      let second : next ≡ natural (line.line_start +ℤ ((first +ℤ pos 1) *ℤ line.line_slope)) =
      same_some _ _ _ (g lt) (sym (from_none (first +ℤ pos 1)) ∙ line.places (first +ℤ pos 1) a b) in
      let value : pos next ≡ line.line_start +ℤ ((first +ℤ pos 1) *ℤ line.line_slope) =
      ap (λ n. pos n) second ∙ natural_pos _ (line.not_negative (first +ℤ pos 1) a b) in
      omega (
        arith,
        ints,
        sum_times first (pos 1) line.line_slope,
        *ℤ_comm (pos 1) line.line_slope,
        *ℤ-one line.line_slope,
      ) in
      sym (from_none v) ∙ line.places v from to
      ∙ ap (λ z. Some (natural z)) (at_turn place next first last v line.line_start line.line_slope number step from to)
