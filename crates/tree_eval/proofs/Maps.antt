-- The values of a map along the innermost loop. The lines of its forms are added one after the other: after each, the
-- values so far at a turn and those of the forms that are left are all values of the map there.
use Rattle.std.proofs.Common.{◌≡◌, ◌≤◌, ◌^◌, suc, ℤ, pos, negsuc, ◌+ℤ◌, ◌*ℤ◌, ◌≤ℤ◌, List, [], ◌∷◌, ◌++◌, length, refl, sym, ap, ◌∙◌}
use Rattle.std.proofs.Common.{Bool, true, subst, arith, lit≤, append_assoc, FitsSigned, w64}
use Rattle.std.specs.Bool.{OnTrue}
use Rattle.std.specs.Prelude.{Option, Some, None, unsigned_abs, cond, IsTrue, ◌↔◌}
use Rattle.std.specs.Option.{option_and_then, option_map}
use Rattle.std.proofs.lemmas.Bool.{lt-ltb, OnTrue_at, OnTrue_from}
use Rattle.std.proofs.lemmas.Int.{fits_signed_from_abs, ints}
use Rattle.affine_core.specs.declared.form.Form.{Form}
use Rattle.affine_core.specs.Within.{fits_64_bits, number_in_64_bits, value_in_128_bits}
use Rattle.affine_core.proofs.Integers.{unsigned_abs-sum}
use Rattle.sanlp.proofs.ModerateForms.{product_small}
use Rattle.source_tree.specs.Walk.{map_values, mapped_value}
use Rattle.tree_eval.specs.declared.line.Line.{Line}
use Rattle.tree_eval.specs.Stretches.{AddsLines, AreSmall, IsLine, line_at, values_at}

-- the numbers of a line that is small
pub product_fits : (turn step : ℤ) → unsigned_abs turn ≤ 1073741824 → unsigned_abs step ≤ 1073741824
    → FitsSigned w64 (turn *ℤ step)
product_fits turn step few small =
    let product = product_small 1073741824 1073741824 1152921504606846976 turn step (lit≤ tt) few small in
    fits_signed_from_abs w64 (turn *ℤ step) (omega arith)

value_size : (start turn step : ℤ) → unsigned_abs start ≤ 2305843009213693952 → unsigned_abs turn ≤ 1073741824
    → unsigned_abs step ≤ 1073741824 → unsigned_abs (start +ℤ (turn *ℤ step)) ≤ 4611686018427387904
value_size start turn step begin few small =
    let product = product_small 1073741824 1073741824 1152921504606846976 turn step (lit≤ tt) few small in
    let size = unsigned_abs-sum start (turn *ℤ step) in
    omega arith

pub value_fits : (start turn step : ℤ) → unsigned_abs start ≤ 2305843009213693952 → unsigned_abs turn ≤ 1073741824
    → unsigned_abs step ≤ 1073741824 → FitsSigned w64 (start +ℤ (turn *ℤ step))
value_fits start turn step begin few small =
    let size = value_size start turn step begin few small in
    fits_signed_from_abs w64 (start +ℤ (turn *ℤ step)) (omega arith)

fits_of_size : (z : ℤ) → unsigned_abs z ≤ 4611686018427387904 → fits_64_bits z ≡ true
fits_of_size (pos n) h = lt-ltb n (2 ^ 63) (omega arith)
fits_of_size (negsuc n) h = lt-ltb n (2 ^ 63) (omega arith)

in_bits : (z : ℤ) → unsigned_abs z ≤ 4611686018427387904 → number_in_64_bits z ≡ Some z
in_bits z h = ap (λ b. cond b (Some z) None) (fits_of_size z h)

pub few_turns : (turn : ℤ) → pos 0 ≤ℤ turn → turn ≤ℤ pos 1073741824 → unsigned_abs turn ≤ 1073741824
few_turns (pos n) from to = omega (arith, ints)
few_turns (negsuc n) from to = absurd (omega (arith, ints))

pub turn_fits : (turn : ℤ) → pos 0 ≤ℤ turn → turn ≤ℤ pos 1073741824 → FitsSigned w64 turn
turn_fits turn from to = fits_signed_from_abs w64 turn (let size = few_turns turn from to in omega arith)

pub between_fits : (low z : ℤ) → FitsSigned w64 low → low ≤ℤ z → z ≤ℤ pos 9223372036854775807 → FitsSigned w64 z
between_fits low (pos n) short from to = fits_signed_from_abs w64 (pos n) (omega (arith, ints))
between_fits low (negsuc n) short from to = record { sfits = omega (arith, ints) }

-- lists of starts and steps
pub small_length : (starts steps : List ℤ) → AreSmall starts steps → length starts ≡ length steps
small_length [] [] h = refl
small_length [] (c ∷ steps) h = absurd h
small_length (a ∷ starts) [] h = absurd h
small_length (a ∷ starts) (c ∷ steps) h = ap (λ n. suc n) (small_length starts steps h.2)

small_more : (starts steps : List ℤ) (a c : ℤ) → AreSmall starts steps → unsigned_abs a ≤ 2305843009213693952
    → unsigned_abs c ≤ 1073741824
    → AreSmall (starts ++ a ∷ []) (steps ++ c ∷ [])
small_more [] [] a c h start step = (start, step, tt)
small_more [] (d ∷ steps) a c h start step = absurd h
small_more (b ∷ starts) [] a c h start step = absurd h
small_more (b ∷ starts) (d ∷ steps) a c h start step = (h.0, h.1, small_more starts steps a c h.2 start step)

moved_more : (turn : ℤ) (starts steps : List ℤ) (a c : ℤ) → AreSmall starts steps
    → values_at turn (starts ++ a ∷ []) (steps ++ c ∷ []) ≡ values_at turn starts steps ++ (a +ℤ (turn *ℤ c)) ∷ []
moved_more turn [] [] a c h = refl
moved_more turn [] (d ∷ steps) a c h = absurd h
moved_more turn (b ∷ starts) [] a c h = absurd h
moved_more turn (b ∷ starts) (d ∷ steps) a c h = ap (λ values. (b +ℤ (turn *ℤ d)) ∷ values) (moved_more turn starts steps a c h.2)

-- one form more
mapped_more : (form : Form) (forms : List Form) (at done whole : List ℤ) (v : ℤ) → mapped_value form at ≡ Some v
    → option_map (λ values. (done ++ v ∷ []) ++ values) (map_values forms at) ≡ Some whole
    → option_map (λ values. done ++ values) (map_values (form ∷ forms) at) ≡ Some whole
mapped_more form forms at done whole v is rest =
    ap (λ o. option_map (λ values. done ++ values)
    (option_and_then (λ v. option_map (λ rest. v ∷ rest) (map_values forms at)) o)) is
    ∙ join (map_values forms at) ∙ rest where
      join : (o : Option (List ℤ))
          → option_map (λ values. done ++ values) (option_map (λ (rest : List ℤ). v ∷ rest) o)
          ≡ option_map (λ values. (done ++ v ∷ []) ++ values) o
      join None = refl
      join (Some values) = ap Some (sym (append_assoc done (v ∷ []) values))

mapped_is : (form : Form) (at : List ℤ) (v : ℤ) → value_in_128_bits form at ≡ Some v
    → unsigned_abs v ≤ 4611686018427387904 → mapped_value form at ≡ Some v
mapped_is form at v is size = ap (option_and_then number_in_64_bits) is ∙ in_bits v size

lines_more : (form : Form) (forms : List Form) (at : ℤ → List ℤ) (line : Line)
    (starts steps starts' steps' new_starts new_steps : List ℤ)
    → AreSmall starts steps → IsLine (λ turn. value_in_128_bits form (at turn)) line
    → unsigned_abs line.value ≤ 2305843009213693952
    → starts' ≡ starts ++ line.value ∷ [] → steps' ≡ steps ++ line.step ∷ []
    → AddsLines (λ turn. map_values forms (at turn)) starts' steps' new_starts new_steps
    → AddsLines (λ turn. map_values (form ∷ forms) (at turn)) starts steps new_starts new_steps
lines_more form forms at line starts steps starts' steps' new_starts new_steps small is start e f rest = record {
  small = rest.small;
  are = λ turn from to.
      let size = value_size line.value turn line.step start (few_turns turn from to) is.small in
      let done : values_at turn starts' steps' ≡ values_at turn starts steps ++ line_at line turn ∷ [] =
      ap (λ xs. values_at turn xs steps') e ∙ ap (values_at turn (starts ++ line.value ∷ [])) f
      ∙ moved_more turn starts steps line.value line.step small in
      mapped_more form forms (at turn) (values_at turn starts steps) (values_at turn new_starts new_steps) (line_at line turn)
      (mapped_is form (at turn) (line_at line turn) (is.is turn from to) size)
      (ap (λ (done : List ℤ). option_map (λ values. done ++ values) (map_values forms (at turn))) (sym done)
      ∙ rest.are turn from to);
}

pub lines_added : (b : Bool) (form : Form) (forms whole : List Form) (at : ℤ → List ℤ) (line : Line)
    (starts steps starts' steps' new_starts new_steps : List ℤ)
    → whole ≡ form ∷ forms → AreSmall starts steps → IsLine (λ turn. value_in_128_bits form (at turn)) line
    → unsigned_abs line.value ≤ 2305843009213693952
    → starts' ≡ starts ++ line.value ∷ [] → steps' ≡ steps ++ line.step ∷ []
    → OnTrue b (AddsLines (λ turn. map_values forms (at turn)) starts' steps' new_starts new_steps)
    → OnTrue b (AddsLines (λ turn. map_values whole (at turn)) starts steps new_starts new_steps)
lines_added b form forms whole at line starts steps starts' steps' new_starts new_steps g small is start e f rest =
    OnTrue_from b _ (λ true.
    subst (λ list. AddsLines (λ turn. map_values list (at turn)) starts steps new_starts new_steps) (sym g)
    (lines_more form forms at line starts steps starts' steps' new_starts new_steps small is start e f
    (OnTrue_at true rest)))

pub small_parts : (starts steps starts' steps' : List ℤ) (a c : ℤ) → starts ≡ a ∷ starts' → steps ≡ c ∷ steps'
    → AreSmall starts steps
    → (unsigned_abs a ≤ 2305843009213693952) × (unsigned_abs c ≤ 1073741824) × AreSmall starts' steps'
small_parts starts steps starts' steps' a c e f h =
    let g : AreSmall (a ∷ starts') (c ∷ steps') = rw (e, f) at h in g

pub moved_step : (turn : ℤ) (starts steps starts' steps' : List ℤ) (a c : ℤ) (out middle new : List ℤ)
    → starts ≡ a ∷ starts' → steps ≡ c ∷ steps' → middle ≡ out ++ (a +ℤ (turn *ℤ c)) ∷ []
    → new ≡ middle ++ values_at turn starts' steps' → new ≡ out ++ values_at turn starts steps
moved_step turn starts steps starts' steps' a c out middle new e f g h =
    h ∙ ap (λ xs. xs ++ values_at turn starts' steps') g
    ∙ append_assoc out ((a +ℤ (turn *ℤ c)) ∷ []) (values_at turn starts' steps')
    ∙ ap (λ xs. out ++ values_at turn xs (c ∷ steps')) (sym e) ∙ ap (λ xs. out ++ values_at turn starts xs) (sym f)

-- values are those of a map at a turn exactly where the first is, and the others are those of the other lines
pub values_step : (turn : ℤ) (starts steps starts' steps' values values' : List ℤ) (a c v : ℤ) (b : Bool)
    → starts ≡ a ∷ starts' → steps ≡ c ∷ steps' → values ≡ v ∷ values' → v ≡ a +ℤ (turn *ℤ c)
    → IsTrue b ↔ values_at turn starts' steps' ≡ values'
    → IsTrue b ↔ values_at turn starts steps ≡ values
values_step turn starts steps starts' steps' values values' a c v b e f g is rest =
    let whole : values_at turn starts steps ≡ (a +ℤ (turn *ℤ c)) ∷ values_at turn starts' steps' =
    ap (λ xs. values_at turn xs steps) e ∙ ap (values_at turn (a ∷ starts')) f in (
      λ told. whole ∙ ap (λ xs. (a +ℤ (turn *ℤ c)) ∷ xs) (rest.0 told) ∙ ap (λ z. z ∷ values') (sym is) ∙ sym g,
      λ same.
          let lists : (a +ℤ (turn *ℤ c)) ∷ values_at turn starts' steps' ≡ v ∷ values' = sym whole ∙ same ∙ g in
          let others : values_at turn starts' steps' ≡ values' = cc in
          rest.1 others,
    )

pub small_lines : (starts steps starts' steps' : List ℤ) (a c : ℤ) → AreSmall starts steps
    → unsigned_abs a ≤ 2305843009213693952 → unsigned_abs c ≤ 1073741824
    → starts' ≡ starts ++ a ∷ [] → steps' ≡ steps ++ c ∷ [] → AreSmall starts' steps'
small_lines starts steps starts' steps' a c small start step e f = rw (e, f) (small_more starts steps a c small start step)
