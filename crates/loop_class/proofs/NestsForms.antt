-- Six coefficients that are 0 beyond the loops round a place, and what `form_over` leaves of them.
--
-- Coefficients over six loops of which only the first so many may be other than 0 (`IsOver`) lose nothing where the
-- zeros behind are cut off. This property passes through sums, differences, negations and multiples, and from a place
-- to one inside more loops. So a form that was cut for a place and widened for one further in is the form that is cut
-- there (`form_wider`), and the rows that a nest makes of a loop's cut forms are the cut rows of binding (`lower_over`,
-- `upper_over`, `turn_row_over`). All inductions are along the coefficients.
use Rattle.std.proofs.Common.{◌≡◌, ◌<◌, ◌≤◌, ℕ, zero, suc, ◌+◌, ◌-◌, ℤ, pos, negsuc, neg_ℤ, ◌+ℤ◌, ◌-ℤ◌, ◌*ℤ◌, List, []}
use Rattle.std.proofs.Common.{◌∷◌, ◌++◌, map, length, take, replicate, refl, sym, ap, ◌∙◌, arith}
use Rattle.std.specs.Prelude.{slice_set}
use Rattle.std.proofs.lemmas.Int.{ints}
use Rattle.affine_core.specs.Affine.{widened_form, variable_form, sums}
use Rattle.sanlp.specs.WellFormed.{lower_row, upper_row, turn_row}
use Rattle.loop_bind.specs.declared.affine.Affine.{Affine}
use Rattle.loop_bind.specs.Forms.{termwise, loop_form, difference_form, form_over}
use Rattle.loop_bind.specs.Rows as rows

-- a list of so many numbers, which are 0 from place d on
abbrev pub IsOver : ℕ → ℕ → List ℤ → Type 0
IsOver zero d [] = Unit {0}
IsOver zero d (c ∷ cs) = ⊥
IsOver (suc room) d [] = ⊥
IsOver (suc room) zero (c ∷ cs) = (c ≡ pos 0) × IsOver room zero cs
IsOver (suc room) (suc d) (c ∷ cs) = IsOver room d cs

pub over_length : (room d : ℕ) (cs : List ℤ) → IsOver room d cs → length cs ≡ room
over_length zero d [] h = refl
over_length zero d (c ∷ cs) h = absurd h
over_length (suc room) d [] h = absurd h
over_length (suc room) zero (c ∷ cs) h = ap suc (over_length room zero cs h.1)
over_length (suc room) (suc d) (c ∷ cs) h = ap suc (over_length room d cs h)

pub over_zeros : (room d : ℕ) → IsOver room d (replicate room (pos 0))
over_zeros zero d = tt
over_zeros (suc room) zero = (refl, over_zeros room zero)
over_zeros (suc room) (suc d) = over_zeros room d

pub over_deeper : (room d e : ℕ) (cs : List ℤ) → d ≤ e → IsOver room d cs → IsOver room e cs
over_deeper zero d e [] le h = tt
over_deeper zero d e (c ∷ cs) le h = absurd h
over_deeper (suc room) d e [] le h = absurd h
over_deeper (suc room) zero zero (c ∷ cs) le h = h
over_deeper (suc room) zero (suc e) (c ∷ cs) le h = over_deeper room zero e cs (omega arith) h.1
over_deeper (suc room) (suc d) zero (c ∷ cs) le h = absurd (omega arith)
over_deeper (suc room) (suc d) (suc e) (c ∷ cs) le h = over_deeper room d e cs (omega arith) h

pub over_map : (op : ℤ → ℤ) → op (pos 0) ≡ pos 0 → (room d : ℕ) (cs : List ℤ) → IsOver room d cs
    → IsOver room d (map op cs)
over_map op z zero d [] h = tt
over_map op z zero d (c ∷ cs) h = absurd h
over_map op z (suc room) d [] h = absurd h
over_map op z (suc room) zero (c ∷ cs) h = (ap op h.0 ∙ z, over_map op z room zero cs h.1)
over_map op z (suc room) (suc d) (c ∷ cs) h = over_map op z room d cs h

pub over_termwise : (op : ℤ → ℤ → ℤ) → op (pos 0) (pos 0) ≡ pos 0 → (room d : ℕ) (xs ys : List ℤ)
    → IsOver room d xs → IsOver room d ys → IsOver room d (termwise op xs ys)
over_termwise op z zero d [] ys h k = tt
over_termwise op z zero d (x ∷ xs) ys h k = absurd h
over_termwise op z (suc room) d [] ys h k = absurd h
over_termwise op z (suc room) d (x ∷ xs) [] h k = absurd k
over_termwise op z (suc room) zero (x ∷ xs) (y ∷ ys) h k =
    ((λ i. op (h.0 i) (k.0 i)) ∙ z, over_termwise op z room zero xs ys h.1 k.1)
over_termwise op z (suc room) (suc d) (x ∷ xs) (y ∷ ys) h k = over_termwise op z room d xs ys h k

-- a multiple of the variable of a loop that stands round the place
pub over_multiple : (room d v : ℕ) (k : ℤ) → v < d → IsOver room d (slice_set (replicate room (pos 0)) v k)
over_multiple zero d v k h = tt
over_multiple (suc room) zero v k h = absurd (omega arith)
over_multiple (suc room) (suc d) zero k h = over_zeros room d
over_multiple (suc room) (suc d) (suc v) k h = over_multiple room d v k (omega arith)

-- more coefficients are zeros
over_take : (room d k e : ℕ) (cs : List ℤ) → d + k ≡ e → e ≤ room → IsOver room d cs
    → take d cs ++ replicate k (pos 0) ≡ take e cs
over_take zero (suc d) k e cs is le h = absurd (omega arith)
over_take zero d (suc k) e cs is le h = absurd (omega arith)
over_take zero d k (suc e) cs is le h = absurd (omega arith)
over_take zero zero zero zero cs is le h = refl
over_take (suc room) d k e [] is le h = absurd h
over_take (suc room) zero zero zero (c ∷ cs) is le h = refl
over_take (suc room) zero zero (suc e) (c ∷ cs) is le h = absurd (omega arith)
over_take (suc room) zero (suc k) zero (c ∷ cs) is le h = absurd (omega arith)
over_take (suc room) zero (suc k) (suc e) (c ∷ cs) is le h =
    let rest : replicate k (pos 0) ≡ take e cs = over_take room zero k e cs (omega arith) (omega arith) h.1 in
    λ i. (sym h.0) i ∷ rest i
over_take (suc room) (suc d) k zero (c ∷ cs) is le h = absurd (omega arith)
over_take (suc room) (suc d) k (suc e) (c ∷ cs) is le h =
    ap (λ l. c ∷ l) (over_take room d k e cs (omega arith) (omega arith) h)

pub take_length : (room d : ℕ) (cs : List ℤ) → length cs ≡ room → d ≤ room → length (take d cs) ≡ d
take_length room zero cs e le = refl
take_length room (suc d) [] e le = absurd (omega arith)
take_length zero (suc d) (c ∷ cs) e le = absurd (omega arith)
take_length (suc room) (suc d) (c ∷ cs) e le = ap suc (take_length room d cs (omega arith) (omega arith))

pub over_wider : (room d e : ℕ) (cs : List ℤ) → d ≤ e → e ≤ room → IsOver room d cs
    → take d cs ++ replicate (e - length (take d cs)) (pos 0) ≡ take e cs
over_wider room d e cs le in_room h =
    let len : length (take d cs) ≡ d = take_length room d cs (over_length room d cs h) (omega arith) in
    over_take room d (e - length (take d cs)) e cs (omega arith) in_room h

-- the same form over more loops
pub form_wider : (d e : ℕ) (f : Affine) → d ≤ e → e ≤ 6 → IsOver 6 d f.coefs
    → widened_form e (form_over d f) ≡ form_over e f
form_wider d e f le in_room h =
    ap (λ cs. record { constant = f.constant; coefs = cs }) (over_wider 6 d e f.coefs le in_room h)

minus_is : (c : ℤ) → pos 0 -ℤ c ≡ c *ℤ negsuc 0
minus_is c = omega (arith, ints)

lower_coefs : (room d : ℕ) (cs : List ℤ) → d < room → IsOver room d cs
    → take (suc d) (termwise ◌-ℤ◌ (slice_set (replicate room (pos 0)) d (pos 1)) cs)
    ≡ map (λ c. c *ℤ negsuc 0) (take d cs) ++ pos 1 ∷ []
lower_coefs zero d cs lt h = absurd (omega arith)
lower_coefs (suc room) d [] lt h = absurd h
lower_coefs (suc room) zero (c ∷ cs) lt h = ap (λ z. (pos 1 -ℤ z) ∷ []) h.0
lower_coefs (suc room) (suc d) (c ∷ cs) lt h =
    let rest = lower_coefs room d cs (omega arith) h in
    λ i. minus_is c i ∷ rest i

upper_coefs : (room d : ℕ) (cs : List ℤ) → d < room → IsOver room d cs
    → take (suc d) (termwise ◌-ℤ◌ cs (slice_set (replicate room (pos 0)) d (pos 1))) ≡ take d cs ++ negsuc 0 ∷ []
upper_coefs zero d cs lt h = absurd (omega arith)
upper_coefs (suc room) d [] lt h = absurd h
upper_coefs (suc room) zero (c ∷ cs) lt h = ap (λ z. (z -ℤ pos 1) ∷ []) h.0
upper_coefs (suc room) (suc d) (c ∷ cs) lt h =
    let rest = upper_coefs room d cs (omega arith) h in
    let same : c -ℤ pos 0 ≡ c = omega (arith, ints) in
    λ i. same i ∷ rest i

-- the rows of a loop are those of its lower and upper forms
pub lower_over : (d : ℕ) (f : Affine) → d < 6 → IsOver 6 d f.coefs
    → form_over (suc d) (difference_form (loop_form d) f) ≡ lower_row (form_over d f)
lower_over d f lt h =
    let rest = lower_coefs 6 d f.coefs lt h in
    λ i. record { constant = minus_is f.constant i; coefs = rest i }

pub upper_over : (d : ℕ) (f : Affine) → d < 6 → IsOver 6 d f.coefs
    → form_over (suc d) (difference_form f (loop_form d)) ≡ upper_row (form_over d f)
upper_over d f lt h =
    let same : f.constant -ℤ pos 0 ≡ f.constant = omega (arith, ints) in
    let rest = upper_coefs 6 d f.coefs lt h in
    λ i. record { constant = same i; coefs = rest i }

variable_coefs : (room d : ℕ) → d < room
    → take (suc d) (slice_set (replicate room (pos 0)) d (pos 1)) ≡ replicate d (pos 0) ++ pos 1 ∷ []
variable_coefs zero d lt = absurd (omega arith)
variable_coefs (suc room) zero lt = refl
variable_coefs (suc room) (suc d) lt = ap (λ cs. pos 0 ∷ cs) (variable_coefs room d (omega arith))

-- a turn as a row
pub turn_over : (d : ℕ) → d < 6 → form_over (suc d) (loop_form d) ≡ variable_form (d + 1) d
turn_over d lt =
    let none : 0 ≡ (d + 1) - (d + 1) = omega arith in
    let coefs : take (suc d) (loop_form d).coefs
    ≡ replicate d (pos 0) ++ pos 1 ∷ replicate ((d + 1) - (d + 1)) (pos 0) =
    variable_coefs 6 d lt ∙ ap (λ n. replicate d (pos 0) ++ pos 1 ∷ replicate n (pos 0)) none in
    λ i. record { constant = pos 0; coefs = coefs i }

reach_is : (u l : ℤ) → (u -ℤ l) -ℤ pos 0 ≡ u +ℤ (l *ℤ negsuc 0)
reach_is u l = omega (arith, ints)

negated_is : (u l k : ℤ) → u ≡ pos 0 → l ≡ pos 0 → (u -ℤ l) -ℤ k ≡ neg_ℤ k
negated_is u l k first second = omega (arith, ints)

turn_coefs : (room d : ℕ) (k : ℤ) (us ls : List ℤ) → d < room → IsOver room d us → IsOver room d ls
    → take (suc d) (termwise ◌-ℤ◌ (termwise ◌-ℤ◌ us ls) (slice_set (replicate room (pos 0)) d k))
    ≡ sums (take d us) (map (λ c. c *ℤ negsuc 0) (take d ls)) ++ neg_ℤ k ∷ []
turn_coefs zero d k us ls lt h j = absurd (omega arith)
turn_coefs (suc room) d k [] ls lt h j = absurd h
turn_coefs (suc room) d k (u ∷ us) [] lt h j = absurd j
turn_coefs (suc room) zero k (u ∷ us) (l ∷ ls) lt h j = ap (λ c. c ∷ []) (negated_is u l k h.0 j.0)
turn_coefs (suc room) (suc d) k (u ∷ us) (l ∷ ls) lt h j =
    let rest = turn_coefs room d k us ls (omega arith) h j in
    λ i. reach_is u l i ∷ rest i

-- the row of an upper form of a loop of a step above 1
pub turn_row_over : (d : ℕ) (first : Affine) (step : ℤ) (upper : Affine) → d < 6 → IsOver 6 d first.coefs
    → IsOver 6 d upper.coefs
    → form_over (suc d) (rows.turn_row d first step upper) ≡ turn_row step (form_over d first) (form_over d upper)
turn_row_over d first step upper lt h j =
    let rest = turn_coefs 6 d step upper.coefs first.coefs lt j h in
    λ i. record { constant = reach_is upper.constant first.constant i; coefs = rest i }
