-- Where no reason stands in a tree, what is built of it is well formed.
--
-- A body is put together of three: the loops round the sources, the nodes of the source's own parts, and the loops
-- round the sinks. Each property of a nest is had by each of the three, from where the one before ended: the numbers of
-- loops and statements, the places of statements, the roles, the forms (`NestsTerminals` for the outer two,
-- `NestsParts` for the middle one, `NestsArrays` for the arrays). Here they are joined. The converse isn't shown: a
-- tree with a reason may well make something well formed.
use Rattle.std.proofs.Common.{◌≡◌, ◌≤◌, ℕ, ◌+◌, ◌-◌, ℤ, List, [], ◌∷◌, ◌++◌, map, length, take, drop, replicate, refl}
use Rattle.std.proofs.Common.{sym, ap, ◌∙◌, arith, subst}
use Rattle.std.specs.Prelude.{IsTrue, nat_le}
use Rattle.std.specs.List.{list_all, range_with_len, sum_by}
use Rattle.std.specs.Cmp.Derive.{both_true}
use Rattle.std.proofs.lemmas.Bool.{le-leb}
use Rattle.std.proofs.lemmas.List.{length-append, map-append}
use Rattle.std.proofs.lemmas.List.FromFn.{length-range_with_len}
use Rattle.std.proofs.Math.Seq.{take-append_seam, drop-append_seam}
use Rattle.sanlp.specs.declared.nest.ArrayDecl.{ArrayDecl}
use Rattle.sanlp.specs.declared.nest.Node.{Node}
use Rattle.sanlp.specs.declared.nest.Role.TheVariants as role
use Rattle.sanlp.specs.declared.nest.Statement.{Statement}
use Rattle.sanlp.specs.Cells.{is_input, is_output}
use Rattle.sanlp.specs.WellFormed.{IsWellFormed, input_numbers, output_numbers, input_extents, output_extents}
use Rattle.sanlp.specs.WellFormed.{statement_fits, in_role, roles_of, all_forms_fit, all_loops, all_places, said_from}
use Rattle.sanlp.specs.WellFormed.{array_loops, between, framed}
use Rattle.sanlp.proofs.Each.{Each, each_append, each_then}
use Rattle.sanlp.proofs.Roles.{length_numbers}
use Rattle.loop_grammar.specs.declared.tree.Tree.{Tree}
use Rattle.loop_bind.specs.Findings.{outer_context, body_made, findings}
use Rattle.loop_class.specs.Binding.{nest_of}
use Rattle.loop_bind.specs.Declarations.{Values, Declared, declared}
use Rattle.loop_bind.specs.Parts.{Made}
use Rattle.loop_bind.specs.Terminals.{sources_from, sinks_from, loop_count}
use Rattle.loop_class.proofs.NestsArrays.{GivesArrays, FewExtents, declarations_sound}
use Rattle.loop_class.proofs.NestsBody.{Numbered, numbered_append, placed_append, fit_append}
use Rattle.loop_class.proofs.NestsParts.{IsAssignment, GivesParts, all_well}
use Rattle.loop_class.proofs.NestsTerminals.{InRole, few_where, length_loops, loops_numbered, loops_fit, sources_length}
use Rattle.loop_class.proofs.NestsTerminals.{sinks_length, sources_roles, sinks_roles, sources_in_role, sinks_in_role}
use Rattle.loop_class.proofs.NestsTerminals.{sources_placed, sinks_placed, sources_fit, sinks_fit, from_start}
use Rattle.loop_class.proofs.NestsValues.{none_left, none_right, all_append}

roles_assign : (arrays : List ArrayDecl) (statements : List Statement) → Each (IsAssignment arrays) statements
    → map (λ s. s.role) statements ≡ replicate (length statements) role.Assign
roles_assign arrays [] h = refl
roles_assign arrays (s ∷ statements) h = let rest = roles_assign arrays statements h.1 in λ i. h.0.role i ∷ rest i

assign_in_role : (s : Statement) → s.role ≡ role.Assign → InRole s
assign_in_role s e = ap (λ r. in_role r s) e

all_in_role : (statements : List Statement) → Each InRole statements
    → map (λ s. in_role s.role s) statements ≡ statements
all_in_role [] h = refl
all_in_role (s ∷ statements) h = let rest = all_in_role statements h.1 in λ i. h.0 i ∷ rest i

all_statements_fit : (arrays : List ArrayDecl) (statements : List Statement) → Each (IsAssignment arrays) statements
    → IsTrue (list_all (statement_fits arrays) statements)
all_statements_fit arrays [] h = refl
all_statements_fit arrays (s ∷ statements) h = both_true h.0.fits (all_statements_fit arrays statements h.1)

few_extents_all : (arrays : List ArrayDecl) → Each FewExtents arrays
    → IsTrue (list_all (λ array. nat_le (length array.extents) 6) arrays)
few_extents_all [] h = refl
few_extents_all (array ∷ arrays) h = both_true (le-leb (length array.extents) 6 h.0.few) (few_extents_all arrays h.1)

-- what stands between a front and a back
between_is : (first middle last : List Node) (m n : ℕ) → length first ≡ m → length last ≡ n
    → between m n (first ++ (middle ++ last)) ≡ middle
between_is first middle last m n e f =
    let whole : List Node = first ++ (middle ++ last) in
    let size : length whole - (m + n) ≡ length middle =
    omega (arith, length-append first (middle ++ last), length-append middle last, e, f) in
    ap (λ k. take k (drop m whole)) size
    ∙ ap (λ k. take (length middle) (drop k whole)) (sym e)
    ∙ ap (take (length middle)) (drop-append_seam first (middle ++ last))
    ∙ take-append_seam middle last

module _ (d : Declared) (h : GivesArrays d) (made : Made)
    (stands : GivesParts d.arrays (outer_context d) (loop_count (input_extents d.arrays))
    (length (input_extents d.arrays)) made) where
  abbrev arrays : List ArrayDecl
  arrays = d.arrays

  abbrev inputs : List (List ℤ)
  inputs = input_extents d.arrays

  abbrev outputs : List (List ℤ)
  outputs = output_extents d.arrays

  abbrev sources : List Statement
  sources = sources_from 0 0 d.arrays

  abbrev sinks : List Statement
  sinks = sinks_from 0 made.next_loop d.arrays

  abbrev statements : List Statement
  statements = sources ++ (made.statements ++ sinks)

  abbrev first_loops : List Node
  first_loops = array_loops 0 0 inputs

  abbrev last_loops : List Node
  last_loops = array_loops made.next_loop (length inputs + length made.statements) outputs

  abbrev body : List Node
  body = first_loops ++ (made.nodes ++ last_loops)

  length_statements : length statements ≡ length inputs + (length made.statements + length outputs)
  length_statements =
      omega (
        arith,
        length-append sources (made.statements ++ sinks),
        length-append made.statements sinks,
        sources_length 0 0 d.arrays,
        sinks_length 0 made.next_loop d.arrays,
      )

  few_statements : length statements ≤ 64
  few_statements = omega (arith, length_statements, stands.few)

  input_count : length (input_numbers d.arrays) ≡ length inputs
  input_count = length_numbers (λ array. is_input array.kind) 0 d.arrays

  output_count : length (output_numbers d.arrays) ≡ length outputs
  output_count = length_numbers (λ array. is_output array.kind) 0 d.arrays

  roles_in_order : map (λ s. s.role) statements
      ≡ roles_of d.arrays (length statements - (length (input_numbers d.arrays) + length (output_numbers d.arrays)))
  roles_in_order =
      let count : length made.statements
      ≡ length statements - (length (input_numbers d.arrays) + length (output_numbers d.arrays)) =
      omega (arith, length_statements, input_count, output_count) in
      map-append (λ s. s.role) sources (made.statements ++ sinks)
      ∙ ap (λ roles. map (λ s. s.role) sources ++ roles) (map-append (λ s. s.role) made.statements sinks)
      ∙ (λ i. sources_roles 0 0 d.arrays i
      ++ (roles_assign d.arrays made.statements stands.assigns i ++ sinks_roles 0 made.next_loop d.arrays i))
      ∙ ap (roles_of d.arrays) count

  in_roles : map (λ s. in_role s.role s) statements ≡ statements
  in_roles =
      all_in_role statements
      (each_append InRole sources (made.statements ++ sinks) (sources_in_role 0 0 d.arrays)
      (each_append InRole made.statements sinks
      (each_then (IsAssignment d.arrays) InRole made.statements (λ s a. assign_in_role s a.role) stands.assigns)
      (sinks_in_role 0 made.next_loop d.arrays)))

  all_fit : IsTrue (list_all (statement_fits d.arrays) statements)
  all_fit =
      all_append (statement_fits d.arrays) sources (made.statements ++ sinks)
      (sources_fit 0 0 d.arrays d.arrays (from_start d.arrays) h.extents)
      (all_append (statement_fits d.arrays) made.statements sinks
      (all_statements_fit d.arrays made.statements stands.assigns)
      (sinks_fit 0 made.next_loop d.arrays d.arrays (from_start d.arrays) h.extents))

  placed : all_places body [] [] ≡ said_from 0 statements
  placed =
      let start : length inputs ≡ 0 + length sources = omega (arith, sources_length 0 0 d.arrays) in
      placed_append [] [] 0 first_loops (made.nodes ++ last_loops) sources (made.statements ++ sinks)
      (sources_placed 0 0 d.arrays 0 h.extents)
      (subst (λ k. all_places (made.nodes ++ last_loops) [] [] ≡ said_from k (made.statements ++ sinks)) start
      (placed_append [] [] (length inputs) made.nodes last_loops made.statements sinks
      (stands.placed [] (λ e le room. refl))
      (sinks_placed 0 made.next_loop d.arrays (length inputs + length made.statements) h.extents)))

  numbered : Numbered 0 (made.next_loop + sum_by length outputs) body
  numbered =
      numbered_append 0 (0 + sum_by length inputs) (made.next_loop + sum_by length outputs) first_loops
      (made.nodes ++ last_loops) (loops_numbered 0 0 inputs)
      (let start : sum_by length inputs ≡ 0 + sum_by length inputs = omega arith in
      subst (λ k. Numbered k (made.next_loop + sum_by length outputs) (made.nodes ++ last_loops)) start
      (numbered_append (sum_by length inputs) made.next_loop
      (made.next_loop + sum_by length outputs) made.nodes last_loops stands.numbered
      (loops_numbered made.next_loop (length inputs + length made.statements) outputs)))

  loop_total : length (all_loops body) ≡ numbered.count
  loop_total = ap length numbered.loops ∙ length-range_with_len 0 numbered.count

  in_order : all_loops body ≡ range_with_len 0 (length (all_loops body))
  in_order = numbered.loops ∙ ap (range_with_len 0) (sym loop_total)

  all_forms : IsTrue (all_forms_fit body 0)
  all_forms =
      fit_append 0 first_loops (made.nodes ++ last_loops)
      (loops_fit 0 0 inputs (few_where (λ array. is_input array.kind) d.arrays h.extents))
      (fit_append 0 made.nodes last_loops stands.fit
      (loops_fit made.next_loop (length inputs + length made.statements) outputs
      (few_where (λ array. is_output array.kind) d.arrays h.extents)))

  ends_framed : body ≡ framed d.arrays statements body
  ends_framed =
      let last_loop : length (all_loops body) - sum_by length outputs ≡ made.next_loop =
      omega (arith, loop_total, numbered.ends) in
      let last_statement : length statements - length outputs ≡ length inputs + length made.statements =
      omega (arith, length_statements) in
      let middle : between (length inputs) (length outputs) body ≡ made.nodes =
      between_is first_loops made.nodes last_loops (length inputs) (length outputs) (length_loops 0 0 inputs)
      (length_loops made.next_loop (length inputs + length made.statements) outputs) in
      λ i. first_loops ++ (sym middle i ++ array_loops (sym last_loop i) (sym last_statement i) outputs)

  assembled_well_formed : IsWellFormed d.arrays statements body
  assembled_well_formed = record {
    few_statements = few_statements;
    names_differ = h.differ;
    few_extents = few_extents_all d.arrays h.extents;
    roles_in_order = roles_in_order;
    in_roles = in_roles;
    statements_fit = all_fit;
    placed = placed;
    loops_numbered = in_order;
    forms_fit = all_forms;
    ends_framed = ends_framed;
  }

-- what is built of a tree in which no reason stands has all that the type of a nest keeps
pub bound_nest_well_formed : (tree : Tree) (params : Values) → findings tree params ≡ []
    → IsWellFormed (nest_of tree params).arrays (nest_of tree params).statements (nest_of tree params).body
unfolding findings nest_of
bound_nest_well_formed tree params none =
    let d : Declared = declared params tree.declarations in
    let h : GivesArrays d =
    declarations_sound params tree.declarations (none_left d.findings (body_made tree d).findings none) in
    assembled_well_formed d h (body_made tree d)
    (all_well d.arrays tree.parts (outer_context d) (loop_count (input_extents d.arrays))
    (length (input_extents d.arrays))
    (record { room = omega arith; scope = h.scope; rows = tt })
    (omega (arith, h.processes, h.few))
    (none_right d.findings (body_made tree d).findings none))
