-- The roles of statements, and what a statement of each role reads and writes.
use Rattle.std.proofs.Common.{◌≡◌, ◌≤◌, ℕ, zero, suc, ◌+◌, ◌-◌, List, [], ◌∷◌, ◌++◌, map, length, replicate, Bool, true}
use Rattle.std.proofs.Common.{false, cond, refl, sym, ap, ◌∙◌, arith}
use Rattle.std.specs.Prelude.{Option, Some, None, slice_get, IsTrue, nat_le}
use Rattle.std.specs.Option.{option_map, option_map_or}
use Rattle.std.specs.List.{list_all}
use Rattle.std.proofs.lemmas.Bool.{and_parts}
use Rattle.std.proofs.lemmas.List.{length-append, length-map, length-replicate}
use Rattle.std.proofs.lemmas.Option.{same_Some, slice_get-map}
use Rattle.plain_data.proofs.Lists.{slice_get-append_right}
use Rattle.wrap_expr.specs.Value.{uses_only}
use Rattle.sanlp.specs.declared.nest.ArrayDecl.{ArrayDecl}
use Rattle.sanlp.specs.declared.nest.Nest.{Nest}
use Rattle.sanlp.specs.declared.nest.Role.{Role}
use Rattle.sanlp.specs.declared.nest.Role.TheVariants.{Source, Assign, Sink}
use Rattle.sanlp.specs.declared.nest.Statement.{Statement}
use Rattle.sanlp.specs.WellFormed.{numbers_from, extents_where, input_numbers, output_numbers, depth_of, form_fits}
use Rattle.sanlp.specs.WellFormed.{access_fits, assigns, statement_fits, in_role}
use Rattle.sanlp.proofs.Elements.{list_all_at}

-- the facts of a statement that fits, one by one
pub record Fits (arrays : List ArrayDecl) (s : Statement) : Type 0 where
  pub few_loops : IsTrue (nat_le (depth_of s) 6)
  pub few_reads : IsTrue (nat_le (length s.reads) 8)
  pub few_rows : IsTrue (nat_le (length s.rows) 32)
  pub rows_fit : IsTrue (list_all (form_fits (depth_of s)) s.rows)
  pub write_fits : IsTrue (option_map_or (access_fits arrays (depth_of s)) s.write true)
  pub reads_fit : IsTrue (list_all (access_fits arrays (depth_of s)) s.reads)
  pub uses : IsTrue (uses_only (depth_of s) (length s.reads) s.expr)
  pub assignment : IsTrue (assigns s.role s)

pub fits_of : (arrays : List ArrayDecl) (s : Statement) → IsTrue (statement_fits arrays s) → Fits arrays s
fits_of arrays s h =
    let a = and_parts _ (assigns s.role s) h in
    let b = and_parts _ (uses_only (depth_of s) (length s.reads) s.expr) a.0 in
    let c = and_parts _ (list_all (access_fits arrays (depth_of s)) s.reads) b.0 in
    let d = and_parts _ (option_map_or (access_fits arrays (depth_of s)) s.write true) c.0 in
    let e = and_parts _ (list_all (form_fits (depth_of s)) s.rows) d.0 in
    let f = and_parts _ (nat_le (length s.rows) 32) e.0 in
    let g = and_parts (nat_le (depth_of s) 6) (nat_le (length s.reads) 8) f.0 in
    record {
      few_loops = g.0;
      few_reads = g.1;
      few_rows = f.1;
      rows_fit = e.1;
      write_fits = d.1;
      reads_fit = c.1;
      uses =
          b.1;
      assignment = a.1;
    }

-- an array that passes, at its place in the list of those that do
pub record Passes (passes : ArrayDecl → Bool) (k : ℕ) (arrays : List ArrayDecl) (j a : ℕ) : Type 0 where
  pub place : ℕ
  pub array : ArrayDecl
  pub numbered : a ≡ k + place
  pub found : slice_get arrays place ≡ Some array
  pub passed : passes array ≡ true
  pub extents : slice_get (extents_where passes arrays) j ≡ Some array.extents

passes_later : (passes : ArrayDecl → Bool) (k : ℕ) (first : ArrayDecl) (arrays : List ArrayDecl) (j j' a : ℕ)
    → slice_get (extents_where passes (first ∷ arrays)) j' ≡ slice_get (extents_where passes arrays) j
    → Passes passes (k + 1) arrays j a → Passes passes k (first ∷ arrays) j' a
passes_later passes k first arrays j j' a same p = record {
  place = suc p.place;
  array = p.array;
  numbered = omega (arith, p.numbered);
  found = p.found;
  passed = p.passed;
  extents = same ∙ p.extents;
}

pub passes_at : (passes : ArrayDecl → Bool) (k : ℕ) (arrays : List ArrayDecl) (j a : ℕ)
    → slice_get (numbers_from passes k arrays) j ≡ Some a → Passes passes k arrays j a
passes_at passes k [] j a e = absurd (cc)
passes_at passes k (first ∷ arrays) j a e =
    by_first (λ j e. passes_at passes (k + 1) arrays j a e) (passes first) refl j e where
      by_first : ((j : ℕ) → slice_get (numbers_from passes (k + 1) arrays) j ≡ Some a
          → Passes passes (k + 1) arrays j a)
          → (b : Bool) → passes first ≡ b → (j : ℕ)
          → slice_get (cond b (k ∷ numbers_from passes (k + 1) arrays) (numbers_from passes (k + 1) arrays)) j ≡ Some a
          → Passes passes k (first ∷ arrays) j a
      by_first rest true is zero e = record {
        place = 0;
        array = first;
        numbered = omega (arith, same_Some k a e);
        found = refl;
        passed = is;
        extents =
            ap (λ b. slice_get
            (cond b (first.extents ∷ extents_where passes arrays) (extents_where passes arrays)) 0) is;
      }
      by_first rest true is (suc j) e =
          passes_later passes k first arrays j (suc j) a
          (ap (λ b. slice_get (cond b (first.extents ∷ extents_where passes arrays) (extents_where passes arrays))
          (suc j)) is)
          (rest j e)
      by_first rest false is j e =
          passes_later passes k first arrays j j a
          (ap (λ b. slice_get
          (cond b (first.extents ∷ extents_where passes arrays) (extents_where passes arrays)) j) is)
          (rest j e)

pub length_numbers : (passes : ArrayDecl → Bool) (k : ℕ) (arrays : List ArrayDecl)
    → length (numbers_from passes k arrays) ≡ length (extents_where passes arrays)
length_numbers passes k [] = refl
length_numbers passes k (first ∷ arrays) = by_first (length_numbers passes (k + 1) arrays) (passes first) where
  by_first : length (numbers_from passes (k + 1) arrays) ≡ length (extents_where passes arrays) → (b : Bool)
      → length (cond b (k ∷ numbers_from passes (k + 1) arrays) (numbers_from passes (k + 1) arrays))
      ≡ length (cond b (first.extents ∷ extents_where passes arrays) (extents_where passes arrays))
  by_first rest true = ap suc rest
  by_first rest false = rest

-- a statement of the nest with its role
pub record StatementOf (n : Nest) (s : ℕ) (role : Role) : Type 0 where
  pub statement : Statement
  pub found : slice_get n.statements s ≡ Some statement
  pub is : statement.role ≡ role
  pub stands : in_role role statement ≡ statement
  pub fits : Fits n.arrays statement

module _ (n : Nest) where
  abbrev pub inputs : ℕ
  inputs = length (input_numbers n.arrays)

  abbrev pub outputs : ℕ
  outputs = length (output_numbers n.arrays)

  -- the number of the first sink
  abbrev pub first_sink : ℕ
  first_sink = length n.statements - outputs

  abbrev pub assignments : ℕ
  assignments = length n.statements - (inputs + outputs)

  pub length_statements : length n.statements ≡ inputs + (assignments + outputs)
  length_statements =
      sym (length-map n.statements (λ s. s.role)) ∙ ap length n.well_formed.roles_in_order
      ∙ length-append (map Source (input_numbers n.arrays))
      (replicate assignments Assign ++ map Sink (output_numbers n.arrays))
      ∙ omega (
        arith,
        length-map (input_numbers n.arrays) Source,
        length-append (replicate assignments Assign) (map Sink (output_numbers n.arrays)),
        length-replicate assignments Assign,
        length-map (output_numbers n.arrays) Sink,
      )

  pub inputs_come_first : inputs ≤ first_sink
  inputs_come_first = omega (arith, length_statements)

  -- the role of the sink of each output array
  pub sink_role : (j a : ℕ) → slice_get (output_numbers n.arrays) j ≡ Some a
      → slice_get (map (λ s. s.role) n.statements) (first_sink + j) ≡ Some (Sink a)
  sink_role j a e =
      let sources : List Role = map Source (input_numbers n.arrays) in
      let middle : List Role = replicate assignments Assign in
      let sinks : List Role = map Sink (output_numbers n.arrays) in
      let place : first_sink + j ≡ length sources + (length middle + j) =
      omega (arith, length_statements, length-map (input_numbers n.arrays) Source, length-replicate assignments Assign)
      in
      ap (λ roles. slice_get roles (first_sink + j)) n.well_formed.roles_in_order
      ∙ ap (slice_get (sources ++ (middle ++ sinks))) place
      ∙ slice_get-append_right sources (middle ++ sinks) (length middle + j)
      ∙ slice_get-append_right middle sinks j
      ∙ slice_get-map Sink (output_numbers n.arrays) j
      ∙ ap (option_map Sink) e

  pub statement_of_role : (s : ℕ) (role : Role) → slice_get (map (λ s. s.role) n.statements) s ≡ Some role
      → StatementOf n s role
  statement_of_role s role e =
      by_found (slice_get n.statements s) refl (sym (slice_get-map (λ s. s.role) n.statements s) ∙ e) where
        by_found : (o : Option Statement) → slice_get n.statements s ≡ o → option_map (λ s. s.role) o ≡ Some role
            → StatementOf n s role
        by_found None found e = absurd (cc)
        by_found (Some statement) found e =
            let is : statement.role ≡ role = same_Some statement.role role e in
            let stands : in_role statement.role statement ≡ statement =
            same_Some _ _
            (sym (ap (option_map (λ s. in_role s.role s)) found)
            ∙ sym (slice_get-map (λ s. in_role s.role s) n.statements s)
            ∙ ap (λ statements. slice_get statements s) n.well_formed.in_roles ∙ found) in
            record {
              statement = statement;
              found = found;
              is = is;
              stands = ap (λ r. in_role r statement) (sym is) ∙ stands;
              fits = fits_of n.arrays statement
                  (list_all_at (statement_fits n.arrays) n.statements s statement n.well_formed.statements_fit found);
            }
