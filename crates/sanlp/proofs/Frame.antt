-- The points of sources and sinks, and where they stand in the trace.
use Rattle.std.proofs.Common.{◌≡◌, ◌<◌, ◌≤◌, ℕ, suc, ◌+◌, ◌-◌, ℤ, List, [], ◌∷◌, ◌++◌, map, length, refl, sym, ap, ◌∙◌}
use Rattle.std.proofs.Common.{subst, arith, append_assoc}
use Rattle.std.specs.List.{flat_map, range_with_len, sum_by}
use Rattle.std.proofs.lemmas.List.{append_cancel_right, map-append}
use Rattle.std.proofs.lemmas.List.Concat.{flat_map-append}
use Rattle.sanlp.specs.declared.nest.Nest.{Nest}
use Rattle.sanlp.specs.declared.nest.Node.{Node}
use Rattle.sanlp.specs.declared.nest.Point.{Point}
use Rattle.sanlp.specs.Cells.{all_subscripts, is_input, is_output}
use Rattle.sanlp.specs.Trace.{all_points, trace, trace_node}
use Rattle.sanlp.specs.WellFormed.{all_loops, all_places, array_loops, between, input_extents, output_extents}
use Rattle.sanlp.specs.WellFormed.{places_of}
use Rattle.sanlp.proofs.Each.{Each, each_append, each_right, each_of, each_map, each_from_map, range_with_len_below}
use Rattle.sanlp.proofs.Lists.{range_with_len-append}
use Rattle.sanlp.proofs.Places.{numbers_of, numbers_said, numbers_array_loops, points_carry}
use Rattle.sanlp.proofs.Roles.{first_sink, inputs, outputs, inputs_come_first, length_numbers, length_statements}
use Rattle.sanlp.proofs.Rounds.{trace_round}

-- the points of a statement at these iteration vectors
abbrev pub points_at : ℕ → List (List ℤ) → List Point
points_at s vectors = map (λ at. record { statement = s; at = at }) vectors

-- the points of sources or sinks of arrays with these extents
abbrev pub array_points : ℕ → List (List ℤ) → List Point
array_points s [] = []
array_points s (e ∷ extents) = points_at s (all_subscripts e) ++ array_points (s + 1) extents

pub array_points-append : (s : ℕ) (xs ys : List (List ℤ))
    → array_points s (xs ++ ys) ≡ array_points s xs ++ array_points (s + length xs) ys
array_points-append s [] ys = let e : s ≡ s + 0 = omega arith in ap (λ k. array_points k ys) e
array_points-append s (e ∷ xs) ys =
    let later : s + 1 + length xs ≡ s + suc (length xs) = omega arith in
    ap (λ ps. points_at s (all_subscripts e) ++ ps)
    (array_points-append (s + 1) xs ys ∙ ap (λ k. array_points (s + 1) xs ++ array_points k ys) later)
    ∙ sym (append_assoc (points_at s (all_subscripts e)) (array_points (s + 1) xs)
    (array_points (s + suc (length xs)) ys))

of_points_at : (P : ℕ → Type 0) (s : ℕ) (vectors : List (List ℤ)) → P s
    → Each (λ p. P p.statement) (points_at s vectors)
of_points_at P s vectors h =
    each_map (λ p. P p.statement) (λ at. record { statement = s; at = at }) vectors
    (each_of (λ at. P s) vectors (λ at. h))

pub array_points_below : (s b : ℕ) (extents : List (List ℤ)) → s + length extents ≤ b
    → Each (λ p. p.statement < b) (array_points s extents)
array_points_below s b [] h = tt
array_points_below s b (e ∷ extents) h =
    each_append (λ p. p.statement < b) (points_at s (all_subscripts e)) _
    (of_points_at (λ k. k < b) s (all_subscripts e) (omega arith))
    (array_points_below (s + 1) b extents (omega arith))

pub array_points_above : (s b : ℕ) (extents : List (List ℤ)) → b ≤ s
    → Each (λ p. b ≤ p.statement) (array_points s extents)
array_points_above s b [] h = tt
array_points_above s b (e ∷ extents) h =
    each_append (λ p. b ≤ p.statement) (points_at s (all_subscripts e)) _
    (of_points_at (λ k. b ≤ k) s (all_subscripts e) h) (array_points_above (s + 1) b extents (omega arith))

pub trace_array_loops : (id s : ℕ) (extents : List (List ℤ))
    → all_points (map trace_node (array_loops id s extents)) [] ≡ array_points s extents
trace_array_loops id s [] = refl
trace_array_loops id s (e ∷ extents) =
    ap (λ ps. ps ++ all_points (map trace_node (array_loops (id + length e) (s + 1) extents)) [])
    (trace_round id 0 e s [])
    ∙ ap (λ ps. points_at s (all_subscripts e) ++ ps) (trace_array_loops (id + length e) (s + 1) extents)

points-append : (xs ys : List Node)
    → all_points (map trace_node (xs ++ ys)) [] ≡ all_points (map trace_node xs) [] ++ all_points (map trace_node ys) []
points-append xs ys =
    ap (λ parts. all_points parts []) (map-append trace_node xs ys)
    ∙ flat_map-append (λ part. part []) (map trace_node xs) (map trace_node ys)

places-append : (xs ys : List Node) → all_places (xs ++ ys) [] [] ≡ all_places xs [] [] ++ all_places ys [] []
places-append xs ys =
    ap (λ parts. flat_map (λ part. part [] []) parts) (map-append places_of xs ys)
    ∙ flat_map-append (λ part. part [] []) (map places_of xs) (map places_of ys)

module _ (n : Nest) where
  abbrev ins : List (List ℤ)
  ins = input_extents n.arrays

  abbrev pub outs : List (List ℤ)
  outs = output_extents n.arrays

  length_ins : length ins ≡ inputs n
  length_ins = sym (length_numbers (λ array. is_input array.kind) 0 n.arrays)

  pub length_outs : length outs ≡ outputs n
  length_outs = sym (length_numbers (λ array. is_output array.kind) 0 n.arrays)

  -- the parts of the body that are assignments
  abbrev middle : List Node
  middle = between (length ins) (length outs) n.body

  abbrev sinks : List Node
  sinks = array_loops (length (all_loops n.body) - sum_by length outs) (length n.statements - length outs) outs

  framed_so : n.body ≡ array_loops 0 0 ins ++ (middle ++ sinks)
  framed_so = n.well_formed.ends_framed

  abbrev middle_points : List Point
  middle_points = all_points (map trace_node middle) []

  abbrev pub before_sinks : List Point
  before_sinks = array_points 0 ins ++ middle_points

  pub trace_framed : trace n ≡ before_sinks ++ array_points (first_sink n) outs
  unfolding trace
  trace_framed =
      ap (λ body. all_points (map trace_node body) []) framed_so
      ∙ points-append (array_loops 0 0 ins) (middle ++ sinks)
      ∙ ap (λ ps. ps ++ all_points (map trace_node (middle ++ sinks)) []) (trace_array_loops 0 0 ins)
      ∙ ap (λ ps. array_points 0 ins ++ ps) (points-append middle sinks)
      ∙ ap (λ ps. array_points 0 ins ++ (middle_points ++ ps))
      (trace_array_loops _ (length n.statements - length outs) outs)
      ∙ ap (λ k. array_points 0 ins ++ (middle_points ++ array_points (length n.statements - k) outs)) length_outs
      ∙ sym (append_assoc (array_points 0 ins) middle_points (array_points (first_sink n) outs))

  -- the numbers of the statements in the body, in order
  numbers_split : range_with_len 0 (length ins)
      ++ (numbers_of (all_places middle [] []) ++ range_with_len (length n.statements - length outs) (length outs))
      ≡ range_with_len 0 (length n.statements)
  numbers_split =
      ap (λ ks. ks
      ++ (numbers_of (all_places middle [] []) ++ range_with_len (length n.statements - length outs) (length outs)))
      (sym (numbers_array_loops 0 0 ins))
      ∙ ap (λ ks. numbers_of (all_places (array_loops 0 0 ins) [] []) ++ (numbers_of (all_places middle [] []) ++ ks))
      (sym (numbers_array_loops _ (length n.statements - length outs) outs))
      ∙ ap (λ ks. numbers_of (all_places (array_loops 0 0 ins) [] []) ++ ks)
      (sym (map-append (λ place. place.statement) (all_places middle [] []) (all_places sinks [] []))
      ∙ ap numbers_of (sym (places-append middle sinks)))
      ∙ sym (map-append (λ place. place.statement) (all_places (array_loops 0 0 ins) [] [])
      (all_places (middle ++ sinks) [] []))
      ∙ ap numbers_of
      (sym (places-append (array_loops 0 0 ins) (middle ++ sinks))
      ∙ ap (λ body. all_places body [] []) (sym framed_so) ∙ n.well_formed.placed)
      ∙ numbers_said 0 n.statements

  middle_numbers : range_with_len 0 (length ins) ++ numbers_of (all_places middle [] [])
      ≡ range_with_len 0 (first_sink n)
  middle_numbers =
      let first : ℕ = length n.statements - length outs in
      let whole : length n.statements ≡ first + length outs = omega (arith, length_statements n, length_outs) in
      let from : 0 + first ≡ first = omega arith in
      append_cancel_right _ _ (range_with_len first (length outs))
      (append_assoc (range_with_len 0 (length ins)) (numbers_of (all_places middle [] []))
      (range_with_len first (length outs))
      ∙ numbers_split ∙ ap (range_with_len 0) whole ∙ range_with_len-append 0 first (length outs)
      ∙ ap (λ k. range_with_len 0 first ++ range_with_len k (length outs)) from
      ∙ ap (λ k. range_with_len 0 (length n.statements - k) ++ range_with_len first (length outs)) length_outs)

  -- no point before the sinks' is of a sink
  pub before_sinks_below : Each (λ p. p.statement < first_sink n) before_sinks
  before_sinks_below =
      each_append (λ p. p.statement < first_sink n) (array_points 0 ins) middle_points
      (array_points_below 0 (first_sink n) ins (omega (arith, inputs_come_first n, length_ins)))
      (points_carry (λ s. s < first_sink n) middle []
      (each_from_map (λ s. s < first_sink n) (λ place. place.statement) (all_places middle [] [])
      (each_right (λ s. s < first_sink n) (range_with_len 0 (length ins)) (numbers_of (all_places middle [] []))
      (subst (λ ks. Each (λ s. s < first_sink n) ks) (sym middle_numbers)
      (range_with_len_below 0 (first_sink n) (first_sink n) (omega arith))))))
