-- The range of a loop.
--
-- The greatest and the least value are found form by form, and they are loop values where the values of all forms are.
-- With a step above 1 the turns run from 0 to the quotient of their difference and the step, rounded down. The
-- difference of two loop values has up to twice their limit, and so its quotient by a step of at least 2 is a loop
-- value again.
use Rattle.std.proofs.Common.{◌≡◌, ◌<◌, ◌+◌, ℕ, zero, suc, ℤ, List, [], ◌∷◌, length, get_or, take, map, sym, ap, ◌∙◌}
use Rattle.std.proofs.Common.{arith, add-one, pos, negsuc, ◌-ℤ◌, ◌*ℤ◌, ◌≤ℤ◌}
use Rattle.std.specs.List.{fold, list_all}
use Rattle.std.specs.Prelude.{Bool, true, false, cond, IsTrue, if◌then◌else◌, int_lt}
use Rattle.std.specs.Int.{int_div_euclid, int_max, int_min}
use Rattle.std.specs.Ordering.{int_eq}
use Rattle.std.proofs.lemmas.Bool.{and_parts}
use Rattle.std.proofs.lemmas.Bool.Decides.{nat_tests}
use Rattle.std.proofs.lemmas.Int.{by_lt_z, ints}
use Rattle.affine_core.specs.declared.form.Form.{Form}
use Rattle.affine_core.specs.Affine.{form_at}
use Rattle.sanlp.specs.Loops.{greatest, interval, least, turns_up_to}
use Rattle.sanlp.specs.Size.{all_within, is_loop_value}
use Rattle.sanlp.proofs.Turns.{below_quotient, to_quotient, turns_are}

one_further : {X : Type 0} (op : ℤ → ℤ → ℤ) (f : X → ℤ) (a : ℤ) (xs : List X) (i : ℕ) (x : X)
    → i < length xs → x ≡ get_or xs i x → fold op a (map f (take (suc i) xs)) ≡ op (fold op a (map f (take i xs))) (f x)
one_further op f a [] i x lt e = absurd (omega arith)
one_further op f a (y ∷ xs) zero x lt e = ap (λ z. op a (f z)) (sym e)
one_further op f a (y ∷ xs) (suc i) x lt e = one_further op f (op a (f y)) xs i x (omega arith) e

pub fold_map_more : {X : Type 0} (op : ℤ → ℤ → ℤ) (f : X → ℤ) (a : ℤ) (xs : List X) (i : ℕ) (x : X)
    (value here next : ℤ)
    → i < length xs → x ≡ get_or xs i x → value ≡ fold op a (map f (take i xs)) → here ≡ f x → next ≡ op value here
    → next ≡ fold op a (map f (take (i + 1) xs))
fold_map_more op f a xs i x value here next lt e before at is =
    is ∙ ap (λ v. op v here) before ∙ ap (op _) at ∙ sym (one_further op f a xs i x lt e)
    ∙ ap (λ k. fold op a (map f (take k xs))) (sym (add-one i))

-- the greatest and the least of loop values are loop values
kept : {X : Type 0} (op : ℤ → ℤ → ℤ) (test : ℤ → Bool) (f : X → ℤ)
    → ((x y : ℤ) → IsTrue (test x) → IsTrue (test y) → IsTrue (test (op x y)))
    → (a : ℤ) (xs : List X) → IsTrue (test a) → IsTrue (list_all (λ x. test (f x)) xs)
    → IsTrue (test (fold op a (map f xs)))
kept op test f closed a [] first others = first
kept op test f closed a (x ∷ xs) first others =
    let tests = and_parts (test (f x)) (list_all (λ y. test (f y)) xs) others in
    kept op test f closed (op a (f x)) xs (closed a (f x) first tests.0) tests.1

max_kept : (x y : ℤ) → IsTrue (is_loop_value x) → IsTrue (is_loop_value y) → IsTrue (is_loop_value (int_max x y))
max_kept x y p q = elim (int_lt y x) as (λ b. IsTrue (is_loop_value (cond b x y))) [ true ↦ p | false ↦ q ]

min_kept : (x y : ℤ) → IsTrue (is_loop_value x) → IsTrue (is_loop_value y) → IsTrue (is_loop_value (int_min x y))
min_kept x y p q = elim (int_lt y x) as (λ b. IsTrue (is_loop_value (cond b y x))) [ true ↦ q | false ↦ p ]

-- the greatest and the least value of forms that passed
pub greatest_within : (forms : List Form) (at : List ℤ) (passed : Bool) (value : ℤ)
    → passed ≡ all_within forms at → passed ≡ true → value ≡ greatest (map (λ form. form_at form at) forms)
    → IsTrue (is_loop_value value)
greatest_within [] at passed value e h is = ap is_loop_value is
greatest_within (form ∷ forms) at passed value e h is =
    let tests = and_parts (is_loop_value (form_at form at)) (all_within forms at) (sym e ∙ h) in
    ap is_loop_value is
    ∙ kept int_max is_loop_value (λ form. form_at form at) max_kept (form_at form at) forms tests.0 tests.1

pub least_within : (forms : List Form) (at : List ℤ) (passed : Bool) (value : ℤ)
    → passed ≡ all_within forms at → passed ≡ true → value ≡ least (map (λ form. form_at form at) forms)
    → IsTrue (is_loop_value value)
least_within [] at passed value e h is = ap is_loop_value is
least_within (form ∷ forms) at passed value e h is =
    let tests = and_parts (is_loop_value (form_at form at)) (all_within forms at) (sym e ∙ h) in
    ap is_loop_value is
    ∙ kept int_min is_loop_value (λ form. form_at form at) min_kept (form_at form at) forms tests.0 tests.1

-- the last turn of a loop between loop values is a loop value
pub quotient_within : (first last step : ℤ) → IsTrue (is_loop_value first) → IsTrue (is_loop_value last) → pos 2 ≤ℤ step
    → IsTrue (is_loop_value (int_div_euclid (last -ℤ first) step))
quotient_within first last step f l h =
    let z : ℤ = last -ℤ first in
    let q : ℤ = int_div_euclid z step in
    let counts : pos 1 ≤ℤ step = omega (arith, ints) in
    let above : negsuc 9223372036854775807 ≤ℤ z = grind (arith, ints, nat_tests) in
    let below : z ≤ℤ pos 9223372036854775808 = grind (arith, ints, nat_tests) in
    let low : negsuc 4611686018427387903 ≤ℤ q
    = to_quotient z step (negsuc 4611686018427387903) counts (omega (arith, ints, above)) in
    let high : q ≤ℤ pos 4611686018427387904
    = by_lt_z (pos 4611686018427387904) q
    (λ lt. absurd
    (let past : (step *ℤ pos 4611686018427387905) ≤ℤ z = below_quotient z step (pos 4611686018427387905) counts
    (omega (arith, ints, lt)) in omega (arith, ints, below)))
    (λ le. le) in
    grind (arith, ints, nat_tests)

pub above_one : (step : ℤ) → pos 2 ≤ℤ step → int_eq step (pos 1) ≡ false
above_one step h = grind (arith, ints)

-- the values of a loop of a step above 1
pub range_of_turns : (first last step result : ℤ) → pos 2 ≤ℤ step → result ≡ int_div_euclid (last -ℤ first) step
    → (if int_eq step (pos 1) then interval first last else turns_up_to first last step) ≡ interval (pos 0) result
range_of_turns first last step result h is =
    ap (λ b. cond b (interval first last) (turns_up_to first last step)) (above_one step h)
    ∙ turns_are first last step (omega (arith, ints)) ∙ ap (interval (pos 0)) (sym is)
