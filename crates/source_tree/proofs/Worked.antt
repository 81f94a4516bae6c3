-- The exact table of a worked nest, computed from the definitions.
use Rattle.std.proofs.Common.{◌≡◌, ℕ, pos, List, [], ◌∷◌, refl, ap, ◌∙◌}
use Rattle.std.specs.Prelude.{Option, Some, None}
use Rattle.sanlp.specs.declared.nest.Nest.{Nest}
use Rattle.sanlp.specs.declared.nest.Point.{Point}
use Rattle.sanlp.specs.declared.nest.Tag.{Tag}
use Rattle.sanlp.specs.Examples.{delayed_body, delayed_statements, y_and_v}
use Rattle.sanlp.specs.Trace.{trace}
use Rattle.sanlp.specs.Writers.{last_before}
use Rattle.sanlp.proofs.Folds.{fold_assign_at, fold_loop_at}
use Rattle.sanlp.proofs.Worked.{delayed_well_formed}
use Rattle.source_tree.specs.Sources.{sources_from, sources_of}

-- out y[3]; var v; for (i = 0; i < 3; i++) { y[i] = v; v = i; v = v + 10; }
abbrev delayed : Nest
delayed =
    record {
      arrays = y_and_v (pos 3);
      statements = delayed_statements;
      body = delayed_body;
      well_formed =
          delayed_well_formed;
    }

abbrev at : ℕ → ℕ → Point
at s i = record { statement = s; at = pos i ∷ [] }

abbrev delayed_points : List Point
delayed_points =
    at 0 0 ∷ at 1 0 ∷ at 2 0 ∷ at 0 1 ∷ at 1 1 ∷ at 2 1 ∷ at 0 2 ∷ at 1 2 ∷ at 2 2 ∷ at 3 0 ∷ at 3 1 ∷ at 3 2 ∷ []

delayed_trace : trace delayed ≡ delayed_points
unfolding trace
delayed_trace = simp (fold_loop_at, fold_assign_at)

abbrev tag : ℕ → ℕ → Option Tag
tag process turn = Some (record { process = process; turn = turn })

abbrev delayed_sources : List (List (Option Tag))
delayed_sources =
    (None ∷ tag 2 0 ∷ tag 2 1 ∷ [])
    ∷ (tag 1 0 ∷ tag 1 1 ∷ tag 1 2 ∷ [])
    ∷ (tag 0 0 ∷ tag 0 1 ∷ tag 0 2 ∷ []) ∷ []

delayed_computed : sources_from delayed delayed_points 0 delayed_statements ≡ delayed_sources
unfolding last_before
delayed_computed = refl

delayed_table : sources_of delayed ≡ delayed_sources
unfolding sources_of
delayed_table = ap (λ points. sources_from delayed points 0 delayed_statements) delayed_trace ∙ delayed_computed
