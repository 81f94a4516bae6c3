-- A form along the innermost loop. Its partial sums before the last product are the same at each turn, and the last product
-- goes on by the last coefficient, or by 0 where no coefficient stands for the innermost loop. So where the first value has
-- 64 bits and that coefficient is less than 2^30, and there are no more than 2^30 turns, the last product has less than 2^94,
-- and the sum is the value at the first turn plus the turn times the coefficient, which stays within 128 bits. How large the
-- partial sum before it is doesn't matter. Nothing is said of a turn before the first one: there the product might leave the
-- bound. The value at a later turn may have more than 64 bits.
use Rattle.std.proofs.Common.{◌≡◌, ◌≤◌, ◌*◌, ◌/◌, ◌^◌, ◌<◌, ℕ, ℤ, pos, negsuc, ◌+ℤ◌, ◌-ℤ◌, ◌*ℤ◌, ◌≤ℤ◌, ◌<ℤ◌, List, [], ◌∷◌, ◌++◌, length, get_or, refl, sym, ap, ◌∙◌}
use Rattle.std.proofs.Common.{true, false, subst, arith, lit≤, FitsSigned, w64}
use Rattle.std.specs.Prelude.{Option, Some, None, unsigned_abs, cond}
use Rattle.std.specs.Option.{option_and_then}
use Rattle.std.specs.Int.RustNames.{int_le}
use Rattle.std.proofs.Math.IntN.{*ℤ_comm, zero-*ℤ}
use Rattle.std.proofs.Math.Nat.{mul-le-mul, mul_comm}
use Rattle.std.proofs.lemmas.Bool.{lt-ltb}
use Rattle.std.proofs.lemmas.Int.{ints, unsigned_abs-mul}
use Rattle.std.proofs.lemmas.List.{get_or_past}
use Rattle.std.proofs.lemmas.Option.{same_Some}
use Rattle.affine_core.specs.declared.form.Form.{Form}
use Rattle.affine_core.specs.Within.{combined_in_128_bits, fits_128_bits, number_in_128_bits, sum_in_128_bits}
use Rattle.affine_core.specs.Within.{value_in_128_bits}
use Rattle.affine_core.proofs.Linear.{sum_in_128_bits_is}
use Rattle.affine_core.proofs.Ring.{times_sum}
use Rattle.affine_core.proofs.Integers.{unsigned_abs-signed}
use Rattle.sanlp.proofs.ModerateForms.{product_small}
use Rattle.tree_eval.specs.Stretches.{IsLine}

fits_of_size : (z : ℤ) → unsigned_abs z ≤ 39614081257132168796771975168 → fits_128_bits z ≡ true
fits_of_size (pos n) h = lt-ltb n (2 ^ 127) (omega arith)
fits_of_size (negsuc n) h = lt-ltb n (2 ^ 127) (omega arith)

in_bits : (z : ℤ) → unsigned_abs z ≤ 39614081257132168796771975168 → number_in_128_bits z ≡ Some z
in_bits z h = ap (λ b. cond b (Some z) None) (fits_of_size z h)

-- the sum at a turn, from that at the first turn
sum_along : (sum c first value turn : ℤ) → FitsSigned w64 first → FitsSigned w64 value
    → sum_in_128_bits sum c first ≡ Some value → unsigned_abs c ≤ 1073741824 → pos 0 ≤ℤ turn → turn ≤ℤ pos 1073741824
    → sum_in_128_bits sum c (first +ℤ turn) ≡ Some (value +ℤ (turn *ℤ c))
sum_along sum c first value turn begin short is small from to =
    let start = unsigned_abs-signed first begin in
    let size = unsigned_abs-signed value short in
    let here = sum_in_128_bits_is sum c first value is in
    let few : unsigned_abs turn ≤ 1073741824 = omega (arith, ints) in
    let last : unsigned_abs (first +ℤ turn) ≤ 9223372037928517632 = omega (arith, ints) in
    let product = product_small 1073741824 9223372037928517632 19807040628566084398385987584 c (first +ℤ turn) (lit≤ tt)
    small last in
    let way = product_small 1073741824 1073741824 1152921504606846976 turn c (lit≤ tt) few small in
    let same : sum +ℤ (c *ℤ (first +ℤ turn)) ≡ value +ℤ (turn *ℤ c) =
    omega (arith, ints, times_sum c first turn, *ℤ_comm c turn) in
    let within : unsigned_abs (sum +ℤ (c *ℤ (first +ℤ turn))) ≤ 39614081257132168796771975168 = omega (arith, ints) in
    ap (option_and_then (λ product. number_in_128_bits (sum +ℤ product)))
    (in_bits (c *ℤ (first +ℤ turn)) (omega arith))
    ∙ in_bits (sum +ℤ (c *ℤ (first +ℤ turn))) within
    ∙ ap Some same

no_more : (total : ℤ) (coefs : List ℤ) → combined_in_128_bits total coefs [] ≡ Some total
no_more total [] = refl
no_more total (c ∷ coefs) = refl

last_value : (coefs : List ℤ) (sum : Option ℤ) (value : ℤ)
    → option_and_then (λ next. combined_in_128_bits next coefs []) sum ≡ Some value → sum ≡ Some value
last_value coefs None value is = cc
last_value coefs (Some next) value is = sym (no_more next coefs) ∙ is

through : (f h : ℤ → Option ℤ) (sum : Option ℤ) (value all : ℤ) → ((s : ℤ) → f s ≡ Some value → h s ≡ Some all)
    → option_and_then f sum ≡ Some value → option_and_then h sum ≡ Some all
through f h None value all step is = cc
through f h (Some s) value all step is = step s is

-- the value at a turn, from that at the first turn and the coefficient of the innermost loop
value_along : (coefs outer : List ℤ) (total first value step turn : ℤ) → FitsSigned w64 first → FitsSigned w64 value
    → combined_in_128_bits total coefs (outer ++ first ∷ []) ≡ Some value
    → step ≡ get_or coefs (length outer) (pos 0) → unsigned_abs step ≤ 1073741824 → pos 0 ≤ℤ turn
    → turn ≤ℤ pos 1073741824
    → combined_in_128_bits total coefs (outer ++ (first +ℤ turn) ∷ []) ≡ Some (value +ℤ (turn *ℤ step))
value_along [] outer total first value step turn begin short is is_step small from to =
    let here : total ≡ value = same_Some total value is in
    let none : step ≡ pos 0 = is_step ∙ get_or_past [] (length outer) (pos 0) (omega arith) in
    let nothing : turn *ℤ step ≡ pos 0 = ap (λ z. turn *ℤ z) none ∙ *ℤ_comm turn (pos 0) ∙ zero-*ℤ turn in
    ap Some (omega (arith, ints))
value_along (c ∷ coefs) [] total first value step turn begin short is is_step small from to =
    let low : unsigned_abs c ≤ 1073741824 = subst (λ z. unsigned_abs z ≤ 1073741824) is_step small in
    let last = sum_along total c first value turn begin short
    (last_value coefs (sum_in_128_bits total c first) value is) low from to in
    ap (option_and_then (λ next. combined_in_128_bits next coefs [])) last
    ∙ no_more (value +ℤ (turn *ℤ c)) coefs
    ∙ ap (λ z. Some (value +ℤ (turn *ℤ z))) (sym is_step)
value_along (c ∷ coefs) (x ∷ outer) total first value step turn begin short is is_step small from to =
    through (λ s. combined_in_128_bits s coefs (outer ++ first ∷ []))
    (λ s. combined_in_128_bits s coefs (outer ++ (first +ℤ turn) ∷ [])) (sum_in_128_bits total c x) value
    (value +ℤ (turn *ℤ step))
    (λ s here. value_along coefs outer s first value step turn begin short here is_step small from to) is

-- a line by a form's first value and its coefficient of the innermost loop
pub line_along : (form : Form) (outer here : List ℤ) (first value step : ℤ) (n : ℕ) → FitsSigned w64 first
    → FitsSigned w64 value → here ≡ outer ++ first ∷ [] → value_in_128_bits form here ≡ Some value → n ≡ length outer
    → step ≡ get_or form.coefs n (pos 0) → unsigned_abs step ≤ 1073741824
    → IsLine (λ turn. value_in_128_bits form (outer ++ (first +ℤ turn) ∷ [])) (record { value = value; step = step })
line_along form outer here first value step n begin short e is places is_step small = record {
  small = small;
  is = λ turn from to.
      value_along form.coefs outer form.constant first value step turn begin short
      (sym (ap (value_in_128_bits form) e) ∙ is)
      (is_step ∙ ap (λ k. get_or form.coefs k (pos 0)) places) small from to;
}

-- a number that is not negative stays so while it falls by no more than it is
falls : (value step turn : ℤ) (most : ℕ) → pos 0 ≤ℤ value → most * unsigned_abs step ≤ unsigned_abs value
    → pos 0 ≤ℤ turn → turn ≤ℤ pos most → pos 0 ≤ℤ (value +ℤ (turn *ℤ step))
falls value step turn most h within from to =
    let few : unsigned_abs turn ≤ most = omega (arith, ints) in
    let same : unsigned_abs step ≤ unsigned_abs step = omega arith in
    let product = mul-le-mul few same in
    let size = unsigned_abs-mul turn step in
    let less : unsigned_abs (turn *ℤ step) ≤ unsigned_abs value = omega arith in
    omega (arith, ints)

pub quotient_falls : (value step turn : ℤ) (u w : ℕ) → u ≡ unsigned_abs value → w ≡ unsigned_abs step → step <ℤ pos 0
    → pos 0 ≤ℤ value → pos 0 ≤ℤ turn → turn ≤ℤ pos (u / w) → pos 0 ≤ℤ (value +ℤ (turn *ℤ step))
quotient_falls value step turn u w e f negative h from to =
    let some : 0 < w = omega (arith, ints) in
    let part : w * (u / w) ≤ u = omega arith in
    falls value step turn (u / w) h
    (let same = ap (λ n. (u / w) * n) f in omega (arith, mul_comm (u / w) w)) from to

-- the sign of a line
pub not_negative : (a : ℤ) → pos 0 ≤ℤ a → int_le (pos 0) a ≡ true
not_negative a h = grind (arith, ints)

pub negative : (a : ℤ) → a <ℤ pos 0 → int_le (pos 0) a ≡ false
negative a h = grind (arith, ints)

pub stays_below : (value step value' step' turn : ℤ) → value' ≡ negsuc 0 -ℤ value → step' ≡ pos 0 -ℤ step
    → pos 0 ≤ℤ (value' +ℤ (turn *ℤ step')) → (value +ℤ (turn *ℤ step)) <ℤ pos 0
stays_below value step value' step' turn e f h =
    let none : step +ℤ step' ≡ pos 0 = omega (arith, ints) in
    let products : (turn *ℤ step) +ℤ (turn *ℤ step') ≡ pos 0 =
    sym (times_sum turn step step') ∙ ap (λ z. turn *ℤ z) none ∙ *ℤ_comm turn (pos 0) ∙ zero-*ℤ turn in
    omega (arith, ints)
