-- The order rows of a level, in a context for a writer's point.
--
-- There are two for each loop above the level, and one more at a loop. Each says how a loop of the writer's point is to one
-- of the reader's, which are variables, so all can be made and their numbers are small.
use Rattle.std.proofs.Common.{◌≡◌, ◌+◌, ◌*◌, ◌^◌, ◌≤◌, ℕ, List, [], ◌++◌, length, cond, sym, ap, ◌∙◌, arith}
use Rattle.std.specs.Prelude.{nat_lt}
use Rattle.std.proofs.lemmas.List.Elements.{All-weaker}
use Rattle.tree_graphs.specs.Level.{common_of}
use Rattle.tree_graphs.proofs.OrderEdges.{length_variables}
use Rattle.tree_graphs.proofs.ZeroSystems.{level_exists, variables_taken}
use Rattle.tree_graphs.proofs.RowBounds.{are_made, level_at, most_made, small_append}
use Rattle.tree_graphs.proofs.RowBounds.{AreMade, AreSmall, AreTaken, IsSmallLevel}
use Rattle.tree_sums.specs.Parts.{IsWithin}
use Rattle.tree_sums.proofs.Within.{IsWithin-weaker}
use Rattle.source_tree.specs.Places.{order_rows}
use Rattle.source_tree.specs.Rows.{RowExpr}
use Rattle.source_tree.specs.Systems.{Context, Occurrence, reader_place, writer_place}
use Rattle.stride_trees.specs.Contexts.{AreMadeSmall}
use Rattle.stride_trees.specs.Strides.{depth_of_read, depth_of_write, read_of, write_of, IsStrided}
use Rattle.stride_trees.specs.declared.strides.Strides.{Strides}
use Rattle.stride_trees.proofs.ProblemBounds.{are_fitting, AreFitting}
use Rattle.stride_trees.proofs.Rows.{order_row_count}

pub made_small : (vars : ℕ) (rows : List RowExpr) → AreSmall vars rows → AreMadeSmall vars rows
made_small vars rows h =
    let m : AreMade vars rows = are_made vars rows h in
    record {
      forms = m.forms;
      are_made = m.are;
      within = All-weaker (IsWithin most_made) (IsWithin (2 ^ 90)) (λ f k. IsWithin-weaker most_made (2 ^ 90) f (omega arith) k)
          m.forms m.within;
    }

module _ (s : Strides) (strided : IsStrided s) (c : Context) (reader : depth_of_read s ≤ c.vars) where
  abbrev r : Occurrence
  r = read_of s

  abbrev w : Occurrence
  w = write_of s

  abbrev vars : ℕ
  vars = c.vars + depth_of_write s

  fits : AreFitting s.nest.now r w s.level
  fits = are_fitting s.nest.now r w s.level strided.strided

  pub own_taken : AreTaken vars (writer_place c w)
  own_taken = variables_taken vars c.vars (depth_of_write s) (omega arith)

  readers : AreTaken vars (reader_place r)
  readers = variables_taken vars 0 (length r.statement.loops) (omega (arith, reader))

  pub level : IsSmallLevel vars (order_rows (common_of w r) (nat_lt w.number r.number) (writer_place c w) (reader_place r))
      s.level
  level = level_at vars (common_of w r) s.level (nat_lt w.number r.number) (writer_place c w) (reader_place r)
      (omega (arith, length_variables c.vars (depth_of_write s), fits.common_loops))
      (omega (arith, length_variables 0 (length r.statement.loops), fits.common_vars))
      (level_exists r w s.level strided.strided.level) own_taken readers

  pub level_long : length level.rows ≡ 2 * s.level + cond (nat_lt s.level s.common) 1 0
  level_long =
      order_row_count (common_of w r) s.level (nat_lt w.number r.number) (writer_place c w) (reader_place r)
      level.rows level.is
      ∙ ap (λ n. 2 * s.level + cond {A = ℕ} (nat_lt s.level n) 1 0) (sym strided.common)

  -- with nothing behind
  pub only_small : AreSmall vars (level.rows ++ [])
  only_small = small_append vars level.rows [] level.small tt
