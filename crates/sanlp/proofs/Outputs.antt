-- The values of the sinks' points are the arrays after the nest.
use Rattle.std.proofs.Common.{◌≡◌, ℕ, zero, suc, ◌+◌, ◌-◌, ℤ, List, [], ◌∷◌, ◌++◌, map, length, replicate, Bool, true}
use Rattle.std.proofs.Common.{false, cond, ◌⊎◌, inl, inr, refl, sym, ap, ◌∙◌, arith}
use Rattle.std.specs.Prelude.{Option, Some, None, slice_get}
use Rattle.std.specs.Option.{option_map, option_map_or}
use Rattle.std.proofs.lemmas.List.{length-map, length-replicate}
use Rattle.std.proofs.lemmas.Option.{same_Some, slice_get-map}
use Rattle.sanlp.specs.declared.nest.ArrayDecl.{ArrayDecl}
use Rattle.sanlp.specs.declared.nest.Inputs.{Inputs}
use Rattle.sanlp.specs.declared.nest.Nest.{Nest}
use Rattle.sanlp.specs.declared.nest.Role.{Role}
use Rattle.sanlp.specs.declared.nest.Role.TheVariants.{Source, Assign, Sink}
use Rattle.sanlp.specs.Access.{extents_of}
use Rattle.sanlp.specs.Cells.{all_subscripts, is_output}
use Rattle.sanlp.specs.Laws.{HasRole, SinksReadCells, SinksGiveArrays, sink_values_from, sink_values, values_of}
use Rattle.sanlp.specs.Meaning.{arrays, arrays_from, exec, output_values}
use Rattle.sanlp.specs.Memory.{Memory, cell_value}
use Rattle.sanlp.specs.WellFormed.{input_numbers, numbers_from, output_numbers}
use Rattle.sanlp.proofs.Roles.{Passes, passes_at, first_sink, inputs, length_statements}
use Rattle.sanlp.proofs.Sinks.{values_of_sink}

-- an element of two lists is in the first, or in the second
get_cases : {X : Type 0} (xs ys : List X) (i : ℕ) (x : X) → slice_get (xs ++ ys) i ≡ Some x
    → (slice_get xs i ≡ Some x) ⊎ ((j : ℕ) × (i ≡ length xs + j) × (slice_get ys j ≡ Some x))
get_cases [] ys i x e = let i-is : i ≡ 0 + i = omega arith in inr (i, i-is, e)
get_cases (y ∷ xs) ys zero x e = inl e
get_cases (y ∷ xs) ys (suc i) x e =
    elim (get_cases xs ys i x e) [
      | inl h ↦ inl h
      | inr h ↦ (let i-is : suc i ≡ suc (length xs) + h.0 = omega (arith, h.1) in inr (h.0, i-is, h.2))
    ]

no_source : (numbers : List ℕ) (i a : ℕ) → slice_get (map Source numbers) i ≡ Some (Sink a) → ⊥
no_source numbers i a e = by_found (slice_get numbers i) (sym (slice_get-map Source numbers i) ∙ e) where
  by_found : (o : Option ℕ) → option_map Source o ≡ Some (Sink a) → ⊥
  by_found None e = cc
  by_found (Some b) e = cc

no_assignment : (n i a : ℕ) → slice_get (replicate n Assign) i ≡ Some (Sink a) → ⊥
no_assignment zero i a e = cc
no_assignment (suc n) zero a e = cc
no_assignment (suc n) (suc i) a e = no_assignment n i a e

sink_number : (numbers : List ℕ) (i a : ℕ) → slice_get (map Sink numbers) i ≡ Some (Sink a)
    → slice_get numbers i ≡ Some a
sink_number numbers i a e = by_found (slice_get numbers i) (sym (slice_get-map Sink numbers i) ∙ e) where
  by_found : (o : Option ℕ) → option_map Sink o ≡ Some (Sink a) → o ≡ Some a
  by_found None e = absurd (cc)
  by_found (Some b) e = let same : b ≡ a = cc in ap Some same

-- the array of a sink is the output array of its place among the sinks
pub sink_place : (n : Nest) (s a : ℕ) → HasRole n s (Sink a)
    → (j : ℕ) × (s ≡ first_sink n + j) × (slice_get (output_numbers n.arrays) j ≡ Some a)
sink_place n s a e =
    let sources : List Role = map Source (input_numbers n.arrays) in
    let middle : List Role = replicate (length n.statements - (inputs n + length (output_numbers n.arrays))) Assign in
    let sinks : List Role = map Sink (output_numbers n.arrays) in
    let ordered : slice_get (sources ++ (middle ++ sinks)) s ≡ Some (Sink a) =
    ap (λ roles. slice_get roles s) (sym n.well_formed.roles_in_order) ∙ e in
    elim (get_cases sources (middle ++ sinks) s (Sink a) ordered) [
      | inl h ↦ absurd (no_source (input_numbers n.arrays) s a h)
      | inr h ↦ elim (get_cases middle sinks h.0 (Sink a) h.2) [
        | inl k ↦ absurd (no_assignment _ h.0 a k)
        | inr k ↦
            let place : s ≡ first_sink n + k.0 =
            omega (
              arith,
              h.1,
              k.1,
              length_statements n,
              length-map (input_numbers n.arrays) Source,
              length-replicate (length n.statements - (inputs n + length (output_numbers n.arrays))) Assign,
            ) in
            (k.0, place, sink_number (output_numbers n.arrays) k.0 a k.2)
      ]
    ]

pub sinks_read_cells : (n : Nest) (d : Inputs) → SinksReadCells n d
sinks_read_cells n d s a e =
    let place = sink_place n s a e in
    ap (values_of n d) place.1 ∙ values_of_sink n d place.0 a place.2

arrays_at : (m : Memory) (k : ℕ) (declared : List ArrayDecl) (i : ℕ) (array : ArrayDecl)
    → slice_get declared i ≡ Some array
    → slice_get (arrays_from m k declared) i ≡ Some (output_values m (k + i) array)
arrays_at m k [] i array e = absurd (cc)
arrays_at m k (first ∷ declared) zero array e =
    let same : first ≡ array = same_Some first array e in let at : k ≡ k + 0 = omega arith in
    ap (λ a. Some (output_values m k a)) same ∙ ap (λ b. Some (output_values m b array)) at
arrays_at m k (first ∷ declared) (suc i) array e =
    let at : k + 1 + i ≡ k + suc i = omega arith in
    arrays_at m (k + 1) declared i array e ∙ ap (λ b. Some (output_values m b array)) at

pub sinks_give_arrays : (n : Nest) (d : Inputs) → SinksGiveArrays n d
sinks_give_arrays n d s a e =
    let place = sink_place n s a e in
    let passes : Passes (λ array. is_output array.kind) 0 n.arrays place.0 a =
    passes_at (λ array. is_output array.kind) 0 n.arrays place.0 a place.2 in
    let at : passes.place ≡ a = omega (arith, passes.numbered) in
    let counted : 0 + a ≡ a = omega arith in
    let found : slice_get n.arrays a ≡ Some passes.array = ap (slice_get n.arrays) (sym at) ∙ passes.found in
    arrays_at (exec n d) 0 n.arrays a passes.array found
    ∙ ap (λ b. Some (output_values (exec n d) b passes.array)) counted
    ∙ ap (λ b. Some
    (cond b (map (λ at. cell_value (exec n d) (a, at)) (all_subscripts passes.array.extents)) [])) passes.passed
    ∙ ap (λ o. Some
    (map (λ at. cell_value (exec n d) (a, at)) (all_subscripts (option_map_or (λ array. array.extents) o []))))
    (sym found)
    ∙ ap Some (sym (sinks_read_cells n d s a e))

module _ (n : Nest) (d : Inputs) where
  abbrev printed : ArrayDecl → Bool
  printed array = is_output array.kind

  -- the values of the sinks from s on are the cells of these arrays
  abbrev AreCells : ℕ → ℕ → List ArrayDecl → Type 0
  AreCells k s declared =
      (j i : ℕ) (array : ArrayDecl) → slice_get (numbers_from printed k declared) j ≡ Some (k + i)
      → slice_get declared i ≡ Some array
      → values_of n d (s + j) ≡ map (λ at. cell_value (exec n d) (k + i, at)) (all_subscripts array.extents)

  abbrev cells : ℕ → ArrayDecl → List ℤ
  cells a array = map (λ at. cell_value (exec n d) (a, at)) (all_subscripts array.extents)

  -- the numbers of the arrays that are printed, where the first is or is not
  abbrev numbers_if : Bool → ℕ → List ArrayDecl → List ℕ
  numbers_if b k declared = cond b (k ∷ numbers_from printed (k + 1) declared) (numbers_from printed (k + 1) declared)

  arrays_are : (k s : ℕ) (declared : List ArrayDecl) → AreCells k s declared
      → arrays_from (exec n d) k declared ≡ sink_values_from n d s declared
  arrays_are k s [] h = refl
  arrays_are k s (first ∷ declared) h = by_first (λ s h. arrays_are (k + 1) s declared h) (printed first) refl where
    by_first : ((s : ℕ) → AreCells (k + 1) s declared
        → arrays_from (exec n d) (k + 1) declared ≡ sink_values_from n d s declared)
        → (b : Bool) → printed first ≡ b
        → cond b (cells k first) [] ∷ arrays_from (exec n d) (k + 1) declared
        ≡ cond b (values_of n d s ∷ sink_values_from n d (s + 1) declared) ([] ∷ sink_values_from n d s declared)
    by_first rest true is =
        let from : k ≡ k + 0 = omega arith in
        let start : s ≡ s + 0 = omega arith in
        let head : cells k first ≡ values_of n d s =
        ap (λ a. cells a first) from
        ∙ sym (h 0 0 first (ap (λ b. slice_get (numbers_if b k declared) 0) is ∙ ap Some from) refl)
        ∙ ap (values_of n d) (sym start) in
        ap (λ vs. vs ∷ arrays_from (exec n d) (k + 1) declared) head
        ∙ ap (λ lists. values_of n d s ∷ lists) (rest (s + 1) (λ j i array e f.
        let more : s + 1 + j ≡ s + suc j = omega arith in
        let next : k + 1 + i ≡ k + suc i = omega arith in
        ap (values_of n d) more
        ∙ h (suc j) (suc i) array (ap (λ b. slice_get (numbers_if b k declared) (suc j)) is ∙ e ∙ ap Some next) f
        ∙ ap (λ a. cells a array) (sym next)))
    by_first rest false is =
        ap (λ lists. [] ∷ lists) (rest s (λ j i array e f.
        let next : k + 1 + i ≡ k + suc i = omega arith in
        h j (suc i) array (ap (λ b. slice_get (numbers_if b k declared) j) is ∙ e ∙ ap Some next) f
        ∙ ap (λ a. cells a array) (sym next)))

  pub arrays_are_sink_values : arrays n d ≡ sink_values n d
  arrays_are_sink_values = arrays_are 0 (first_sink n) n.arrays (λ j i array e f.
      values_of_sink n d j (0 + i) e
      ∙ (let at : 0 + i ≡ i = omega arith in
      ap (λ a. map (λ at. cell_value (exec n d) (0 + i, at)) (all_subscripts (extents_of n a))) at
      ∙ ap (λ o. map (λ at. cell_value (exec n d) (0 + i, at))
      (all_subscripts (option_map_or (λ array. array.extents) o []))) f))
