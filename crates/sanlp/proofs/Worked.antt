-- The worked nests, computed from the definitions.
use Rattle.std.proofs.Common.{◌≡◌, ◌<◌, ℕ, zero, suc, pos, ℤ, List, [], ◌∷◌, length, refl, sym, ap, lit≤, arith}
use Rattle.std.specs.Prelude.{slice_get}
use Rattle.std.specs.Option.{option_map_or}
use Rattle.sanlp.specs.declared.nest.Inputs.{Inputs}
use Rattle.sanlp.specs.declared.nest.Nest.{Nest}
use Rattle.sanlp.specs.declared.nest.Point.{Point}
use Rattle.sanlp.specs.Examples.{delayed_body, delayed_statements, sums_body, sums_statements, y_and_v}
use Rattle.sanlp.specs.Order.{HasDepth}
use Rattle.sanlp.specs.Trace.{trace}
use Rattle.sanlp.specs.WellFormed.{IsWellFormed}
use Rattle.sanlp.specs.Writers.{last_before, values_before}
use Rattle.sanlp.proofs.Folds.{fold_add, fold_add_at, fold_assign, fold_assign_at, fold_assign_at_both, fold_const}
use Rattle.sanlp.proofs.Folds.{fold_const_at, fold_loop, fold_loop_at, fold_loop_at_both, fold_read, fold_read_at}
use Rattle.sanlp.proofs.Folds.{fold_var, fold_var_at}

pub sums_well_formed : IsWellFormed (y_and_v (pos 4)) sums_statements sums_body
sums_well_formed = record {
  few_statements = lit≤ tt;
  names_differ = refl;
  few_extents = refl;
  roles_in_order = refl;
  in_roles = refl;
  statements_fit = simp (fold_var, fold_read, fold_add);
  placed = simp (fold_loop_at_both, fold_assign_at_both);
  loops_numbered = simp (fold_loop, fold_assign);
  forms_fit = simp (fold_loop_at, fold_assign_at);
  ends_framed = simp (fold_loop, fold_assign);
}

pub delayed_well_formed : IsWellFormed (y_and_v (pos 3)) delayed_statements delayed_body
delayed_well_formed = record {
  few_statements = lit≤ tt;
  names_differ = refl;
  few_extents = refl;
  roles_in_order = refl;
  in_roles = refl;
  statements_fit = simp (fold_const, fold_var, fold_read, fold_add);
  placed = simp (fold_loop_at_both, fold_assign_at_both);
  loops_numbered = simp (fold_loop, fold_assign);
  forms_fit = simp (fold_loop_at, fold_assign_at);
  ends_framed = simp (fold_loop, fold_assign);
}

abbrev sums : Nest
sums = record {
  arrays = y_and_v (pos 4);
  statements = sums_statements;
  body = sums_body;
  well_formed =
      sums_well_formed;
}

abbrev delayed : Nest
delayed =
    record {
      arrays = y_and_v (pos 3);
      statements = delayed_statements;
      body = delayed_body;
      well_formed =
          delayed_well_formed;
    }

abbrev nothing : Inputs
nothing = record { arrays = [] ∷ [] ∷ [] }

abbrev at : ℕ → ℕ → Point
at s i = record { statement = s; at = pos i ∷ [] }

abbrev sums_points : List Point
sums_points =
    at 0 0 ∷ at 1 0 ∷ at 0 1 ∷ at 1 1 ∷ at 0 2 ∷ at 1 2 ∷ at 0 3 ∷ at 1 3 ∷ at 2 0 ∷ at 2 1 ∷ at 2 2 ∷ at 2 3 ∷ []

sums_trace : trace sums ≡ sums_points
unfolding trace
sums_trace = simp (fold_loop_at, fold_assign_at)

-- the sums as they grow, each followed by its copy, and then what is printed
sums_values : values_before sums nothing sums_points 12
    ≡ pos 0 ∷ pos 0 ∷ pos 1 ∷ pos 1 ∷ pos 3 ∷ pos 3 ∷ pos 6 ∷ pos 6 ∷ pos 0 ∷ pos 1 ∷ pos 3 ∷ pos 6 ∷ []
unfolding values_before last_before
sums_values = simp (fold_add_at, fold_read_at, fold_var_at)

abbrev delayed_points : List Point
delayed_points =
    at 0 0 ∷ at 1 0 ∷ at 2 0 ∷ at 0 1 ∷ at 1 1 ∷ at 2 1 ∷ at 0 2 ∷ at 1 2 ∷ at 2 2 ∷ at 3 0 ∷ at 3 1 ∷ at 3 2 ∷ []

delayed_trace : trace delayed ≡ delayed_points
unfolding trace
delayed_trace = simp (fold_loop_at, fold_assign_at)

-- what is printed is what the earlier turn left
delayed_values : values_before delayed nothing delayed_points 12
    ≡ pos 0 ∷ pos 0 ∷ pos 10 ∷ pos 10 ∷ pos 1 ∷ pos 11 ∷ pos 11 ∷ pos 2 ∷ pos 12 ∷ pos 0 ∷ pos 10 ∷ pos 11 ∷ []
unfolding values_before last_before
delayed_values = simp (fold_add_at, fold_const_at, fold_read_at, fold_var_at)

-- each statement of the running sums has one loop
pub depth_is_one : (n : Nest) (s : ℕ) (i : ℤ) → n.statements ≡ sums_statements → s < 3
    → HasDepth n (record { statement = s; at = i ∷ [] })
depth_is_one n zero i e h = (
  omega (arith, ap length e),
  sym (ap (λ statements. length (option_map_or (λ s. s.loops) (slice_get statements 0) [])) e),
)
depth_is_one n (suc zero) i e h = (
  omega (arith, ap length e),
  sym (ap (λ statements. length (option_map_or (λ s. s.loops) (slice_get statements 1) [])) e),
)
depth_is_one n (suc (suc zero)) i e h = (
  omega (arith, ap length e),
  sym (ap (λ statements. length (option_map_or (λ s. s.loops) (slice_get statements 2) [])) e),
)
depth_is_one n (suc (suc (suc s))) i e h = absurd (omega arith)
