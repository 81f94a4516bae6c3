-- The values of a sink's points are the cells of its array in the memory after the nest, in row-major order.
--
-- The trace ends with the points of the sinks, array by array (Frame), and no sink writes. So from the first sink's
-- point on the memory is the last one, and each of these points reads its own cell of it: its value is that of the
-- cell's last writer, which by LastWriter is what the memory has. It goes over the sink's vectors one by one, with the
-- trace split before and behind. It isn't about which cells are printed: that is the order of `all_subscripts`, by
-- Rounds.
use Rattle.std.proofs.Common.{◌≡◌, ◌<◌, ◌≤◌, ◌+◌, ◌-◌, ℕ, suc, pos, ℤ, List, [], ◌∷◌, ◌++◌, length, take, drop, get_or}
use Rattle.std.proofs.Common.{map, true, false, cond, refl, sym, ap, ◌∙◌, subst, inl, inr, arith, append_assoc}
use Rattle.std.proofs.Common.{length-append}
use Rattle.std.specs.Prelude.{Option, Some, None, slice_get, unwrap_or, IsTrue, ◌==◌}
use Rattle.std.specs.Option.{option_map, option_and_then, option_map_or}
use Rattle.std.specs.List.{fold, list_all}
use Rattle.std.proofs.lemmas.Bool.{and_parts, cases_lt, eq-eqb, eqb-true, ne_eqb}
use Rattle.std.proofs.lemmas.List.{take_at}
use Rattle.std.proofs.lemmas.List.FromFn.{length-map-range_with_len}
use Rattle.std.proofs.lemmas.List.Sums.{fold-append}
use Rattle.std.proofs.lemmas.Option.{slice_get-get_or, slice_get_past}
use Rattle.affine_core.specs.Affine.{variable_form}
use Rattle.wrap_expr.specs.Value.{Operands, value_of, value_step}
use Rattle.wrap_expr.specs.declared.expr.Expr.TheVariants as expr
use Rattle.sanlp.specs.declared.nest.ArrayDecl.{ArrayDecl}
use Rattle.sanlp.specs.declared.nest.Inputs.{Inputs}
use Rattle.sanlp.specs.declared.nest.Nest.{Nest}
use Rattle.sanlp.specs.declared.nest.Point.{Point}
use Rattle.sanlp.specs.declared.nest.Role.TheVariants.{Sink}
use Rattle.sanlp.specs.declared.nest.Statement.{Statement}
use Rattle.sanlp.specs.Access.{cell_at, extents_of, given_at, result_of, write_of}
use Rattle.sanlp.specs.Cells.{Cell, all_subscripts, is_output}
use Rattle.sanlp.specs.Laws.{entries_from, values_of}
use Rattle.sanlp.specs.Meaning.{store, execute, exec}
use Rattle.sanlp.specs.Memory.{Memory, no_cells, cell_value}
use Rattle.sanlp.specs.Trace.{trace}
use Rattle.sanlp.specs.WellFormed.{access_fits, depth_of, form_fits, output_numbers, own_cell}
use Rattle.sanlp.specs.Writers.{value_at, memory_before}
use Rattle.sanlp.proofs.Each.{Each, each_append, each_then}
use Rattle.sanlp.proofs.ExecTrace.{follows_trace}
use Rattle.sanlp.proofs.Folds.{fold_read_at}
use Rattle.sanlp.proofs.Frame.{array_points, array_points-append, array_points_above, array_points_below, before_sinks}
use Rattle.sanlp.proofs.Frame.{before_sinks_below, outs, points_at, trace_framed}
use Rattle.sanlp.proofs.LastWriter.{holds_last_writers, value_at_is}
use Rattle.sanlp.proofs.Lists.{split_at}
use Rattle.sanlp.proofs.OwnCells.{length_subscripts, own_cell_at}
use Rattle.sanlp.proofs.Roles.{Passes, passes_at, StatementOf, first_sink, sink_role, statement_of_role}

get_after : (xs : List Point) (p : Point) (ys : List Point) → slice_get (xs ++ p ∷ ys) (length xs) ≡ Some p
get_after [] p ys = refl
get_after (x ∷ xs) p ys = get_after xs p ys

-- no point is of this statement
abbrev NoneIsOf : ℕ → List Point → Type 0
NoneIsOf s points = Each (λ p. (p.statement == s) ≡ false) points

-- no point writes
abbrev NoneWrites : Nest → List Point → Type 0
NoneWrites n points = Each (λ p. write_of n p ≡ None) points

entries_none : (t s : ℕ) (points : List Point) → NoneIsOf s points → entries_from t points s ≡ []
entries_none t s [] h = refl
entries_none t s (p ∷ points) h =
    ap (λ b. cond b (t ∷ entries_from (t + 1) points s) (entries_from (t + 1) points s)) h.0
    ∙ entries_none (t + 1) s points h.1

entries_append : (t s : ℕ) (xs ys : List Point) → NoneIsOf s xs
    → entries_from t (xs ++ ys) s ≡ entries_from (t + length xs) ys s
entries_append t s [] ys h = ap (λ k. entries_from k ys s) (let e : t ≡ t + 0 = omega arith in e)
entries_append t s (x ∷ xs) ys h =
    ap (λ b. cond b (t ∷ entries_from (t + 1) (xs ++ ys) s) (entries_from (t + 1) (xs ++ ys) s)) h.0
    ∙ entries_append (t + 1) s xs ys h.1
    ∙ ap (λ k. entries_from k ys s) (let e : t + 1 + length xs ≡ t + suc (length xs) = omega arith in e)

none_changes : (n : Nest) (d : Inputs) (points : List Point) (m : Memory) → NoneWrites n points
    → fold (execute n d) m points ≡ m
none_changes n d [] m h = refl
none_changes n d (p ∷ points) m h =
    ap (λ w. fold (execute n d) (store m w (result_of n d p (cell_value m))) points) h.0 ∙ none_changes n d points m h.1

module _ (n : Nest) (d : Inputs) (s a depth : ℕ) (points : List Point)
    (follows : exec n d ≡ fold (execute n d) no_cells points)
    (reads_cell : (at : List ℤ) (look : Cell → ℤ) → length at ≡ depth
    → result_of n d (record { statement = s; at = at }) look ≡ look (a, at)) where
  -- where nothing is written from entry t on, the memory before it is the last one
  memory_is_last : (before rest : List Point) → points ≡ before ++ rest → NoneWrites n rest
      → memory_before n d points (length before) ≡ exec n d
  memory_is_last before rest e h =
      ap (λ ps. fold (execute n d) no_cells (take (length before) ps)) e
      ∙ ap (fold (execute n d) no_cells) (take_at before rest (length before) refl)
      ∙ sym (none_changes n d rest (fold (execute n d) no_cells before) h)
      ∙ sym (fold-append (execute n d) no_cells before rest)
      ∙ ap (fold (execute n d) no_cells) (sym e)
      ∙ sym follows

  sink_value : (before : List Point) (at : List ℤ) (rest : List Point) → length at ≡ depth
      → points ≡ before ++ (record { statement = s; at = at }) ∷ rest
      → NoneWrites n ((record { statement = s; at = at }) ∷ rest)
      → value_at n d points (length before) ≡ cell_value (exec n d) (a, at)
  sink_value before at rest deep e h =
      let p : Point = record { statement = s; at = at } in
      let within : length before ≤ length points = omega (arith, ap length e, length-append before (p ∷ rest)) in
      value_at_is n d points (length before) p (ap (λ ps. slice_get ps (length before)) e ∙ get_after before p rest)
      ∙ reads_cell at _ deep
      ∙ ap (λ o. unwrap_or o (pos 0)) (sym (holds_last_writers n d points (length before) (a, at) within))
      ∙ ap (λ m. cell_value m (a, at)) (memory_is_last before (p ∷ rest) e h)

  sink_values : (before : List Point) (vectors : List (List ℤ)) (after : List Point)
      → Each (λ at. length at ≡ depth) vectors
      → points ≡ before ++ (points_at s vectors ++ after)
      → NoneWrites n (points_at s vectors ++ after) → NoneIsOf s after
      → map (value_at n d points) (entries_from (length before) (points_at s vectors ++ after) s)
      ≡ map (λ at. cell_value (exec n d) (a, at)) vectors
  sink_values before [] after deep e h none = ap (map (value_at n d points)) (entries_none (length before) s after none)
  sink_values before (at ∷ vectors) after deep e h none =
      let p : Point = record { statement = s; at = at } in
      let rest : List Point = points_at s vectors ++ after in
      let longer : points ≡ (before ++ p ∷ []) ++ rest = e ∙ sym (append_assoc before (p ∷ []) rest) in
      ap (λ b. map (value_at n d points)
      (cond b (length before ∷ entries_from (length before + 1) rest s) (entries_from (length before + 1) rest s)))
      (eq-eqb s s refl)
      ∙ ap (λ v. v ∷ map (value_at n d points) (entries_from (length before + 1) rest s))
      (sink_value before at rest deep.0 e h)
      ∙ ap (λ k. cell_value (exec n d) (a, at) ∷ map (value_at n d points) (entries_from k rest s))
      (sym (length-append before (p ∷ [])))
      ∙ ap (λ vs. cell_value (exec n d) (a, at) ∷ vs)
      (sink_values (before ++ p ∷ []) vectors after deep.1 longer h.1 none)

-- a sink reads the cell of its loop values
length_own : (depth a : ℕ) → length (own_cell depth a).subscripts ≡ depth
length_own depth a = length-map-range_with_len (variable_form depth) 0 depth

module _ (n : Nest) where
  sink_depth : (s a : ℕ) (is : StatementOf n s (Sink a)) → depth_of is.statement ≡ length (extents_of n a)
  sink_depth s a is =
      let st : Statement = is.statement in
      let reads : st.reads ≡ own_cell (depth_of st) a ∷ [] = ap (λ s. s.reads) (sym is.stands) in
      let fits : IsTrue (list_all (access_fits n.arrays (depth_of st)) (own_cell (depth_of st) a ∷ [])) =
      subst (λ accesses. IsTrue (list_all (access_fits n.arrays (depth_of st)) accesses)) reads is.fits.reads_fit in
      let exists =
      (and_parts _ (list_all (form_fits (depth_of st)) (own_cell (depth_of st) a).subscripts)
      (and_parts _ true fits).0).0 in
      by_found (slice_get n.arrays a) refl exists where
        by_found : (o : Option ArrayDecl) → slice_get n.arrays a ≡ o
            → IsTrue (option_map_or
            (λ array. length (own_cell (depth_of is.statement) a).subscripts == length array.extents) o false)
            → depth_of is.statement ≡ length (option_map_or (λ array. array.extents) (slice_get n.arrays a) [])
        by_found None found e = absurd (cc)
        by_found (Some array) found e =
            sym (length_own (depth_of is.statement) a) ∙ eqb-true _ _ e
            ∙ ap (λ o. length (option_map_or (λ array. array.extents) o [])) (sym found)

  sink_reads : (d : Inputs) (s a : ℕ) → StatementOf n s (Sink a) → (at : List ℤ) (look : Cell → ℤ)
      → length at ≡ length (extents_of n a)
      → result_of n d (record { statement = s; at = at }) look ≡ look (a, at)
  sink_reads d s a is at look deep =
      let st : Statement = is.statement in
      let depth : ℕ = depth_of st in
      let reads : st.reads ≡ own_cell depth a ∷ [] = ap (λ s. s.reads) (sym is.stands) in
      let reading : st.expr ≡ expr.Read 0 = ap (λ s. s.expr) (sym is.stands) in
      let p : Point = record { statement = s; at = at } in
      ap (λ o. option_map_or
      (λ s. value_of s.expr
      (record {
        at = at;
        reads = map look (option_map_or (λ s. map (cell_at at) s.reads) o []);
        given =
            given_at n d s.role at;
      })) o (pos 0)) is.found
      ∙ ap (λ e. value_of e
      (record { at = at; reads = map look (map (cell_at at) st.reads); given = given_at n d st.role at })) reading
      ∙ fold_read_at Operands ℤ value_step 0
      (record { at = at; reads = map look (map (cell_at at) st.reads); given = given_at n d st.role at })
      ∙ ap (λ accesses. get_or (map look (map (cell_at at) accesses)) 0 (pos 0)) reads
      ∙ ap look (own_cell_at depth a at (deep ∙ sym (sink_depth s a is)))

  -- a sink writes nothing, and no statement comes after the sinks
  sink_writes_nothing : (p : Point) (a : ℕ) → StatementOf n p.statement (Sink a) → write_of n p ≡ None
  sink_writes_nothing p a is =
      ap (option_and_then (λ s. option_map (cell_at p.at) s.write)) is.found
      ∙ ap (λ s. option_map (cell_at p.at) s.write) (sym is.stands)

  sinks_write_nothing : (p : Point) → first_sink n ≤ p.statement → write_of n p ≡ None
  sinks_write_nothing p h = elim (cases_lt p.statement (length n.statements)) [
    | inl within ↦
        let j : ℕ = p.statement - first_sink n in
        let a : ℕ = get_or (output_numbers n.arrays) j 0 in
        let place : first_sink n + j ≡ p.statement = omega arith in
        let numbered : slice_get (output_numbers n.arrays) j ≡ Some a =
        slice_get-get_or (output_numbers n.arrays) j 0 (omega arith) in
        sink_writes_nothing p a
        (statement_of_role n p.statement (Sink a)
        (ap (slice_get (map (λ s. s.role) n.statements)) (sym place) ∙ sink_role n j a numbered))
    | inr past ↦ ap (option_and_then (λ s. option_map (cell_at p.at) s.write))
        (slice_get_past n.statements p.statement past)
  ]

  -- the values of the sink of an output array
  pub values_of_sink : (d : Inputs) (j a : ℕ) → slice_get (output_numbers n.arrays) j ≡ Some a
      → values_of n d (first_sink n + j) ≡ map (λ at. cell_value (exec n d) (a, at)) (all_subscripts (extents_of n a))
  values_of_sink d j a numbered =
      let s : ℕ = first_sink n + j in
      let is : StatementOf n s (Sink a) = statement_of_role n s (Sink a) (sink_role n j a numbered) in
      let passes : Passes (λ array. is_output array.kind) 0 n.arrays j a =
      passes_at (λ array. is_output array.kind) 0 n.arrays j a numbered in
      let extents : List ℤ = extents_of n a in
      let place : a ≡ passes.place = omega (arith, passes.numbered) in
      let same : passes.array.extents ≡ extents =
      ap (λ o. option_map_or (λ array. array.extents) o []) (sym passes.found ∙ ap (slice_get n.arrays) (sym place)) in
      let split = split_at (outs n) j extents (passes.extents ∙ ap Some same) in
      let later : List (List ℤ) = drop (suc j) (outs n) in
      let earlier : List Point = array_points (first_sink n) (take j (outs n)) in
      let before : List Point = before_sinks n ++ earlier in
      let after : List Point = array_points (s + 1) later in
      let splits : trace n ≡ before ++ array_points s (extents ∷ later) =
      trace_framed n ∙ ap (λ es. before_sinks n ++ array_points (first_sink n) es) split.0
      ∙ ap (λ ps. before_sinks n ++ ps)
      (array_points-append (first_sink n) (take j (outs n)) (extents ∷ later)
      ∙ ap (λ k. earlier ++ array_points (first_sink n + k) (extents ∷ later)) split.1)
      ∙ sym (append_assoc (before_sinks n) earlier (array_points s (extents ∷ later))) in
      let none_before : NoneIsOf s before =
      each_append (λ p. (p.statement == s) ≡ false) (before_sinks n) earlier
      (each_then (λ p. p.statement < first_sink n) (λ p. (p.statement == s) ≡ false) (before_sinks n)
      (λ p h. ne_eqb p.statement s (λ e. absurd (omega arith))) (before_sinks_below n))
      (each_then (λ p. p.statement < s) (λ p. (p.statement == s) ≡ false) earlier
      (λ p h. ne_eqb p.statement s (λ e. absurd (omega arith)))
      (array_points_below (first_sink n) s (take j (outs n)) (omega (arith, split.1)))) in
      let none_after : NoneIsOf s after =
      each_then (λ p. s + 1 ≤ p.statement) (λ p. (p.statement == s) ≡ false) after
      (λ p h. ne_eqb p.statement s (λ e. absurd (omega arith)))
      (array_points_above (s + 1) (s + 1) later (omega arith)) in
      let none_writes : NoneWrites n (array_points s (extents ∷ later)) =
      each_then (λ p. first_sink n ≤ p.statement) (λ p. write_of n p ≡ None)
      (array_points s (extents ∷ later)) sinks_write_nothing
      (array_points_above s (first_sink n) (extents ∷ later) (omega arith)) in
      let start : 0 + length before ≡ length before = omega arith in
      ap (λ ps. map (value_at n d (trace n)) (entries_from 0 ps s)) splits
      ∙ ap (map (value_at n d (trace n))) (entries_append 0 s before (array_points s (extents ∷ later)) none_before)
      ∙ ap (λ k. map (value_at n d (trace n)) (entries_from k (array_points s (extents ∷ later)) s)) start
      ∙ sink_values n d s a (length extents) (trace n) (follows_trace n d) (sink_reads d s a is) before
      (all_subscripts extents) after (length_subscripts extents) splits none_writes none_after
