-- The order rows of the writer's levels, and those behind them, are as many as were counted.
use Rattle.std.proofs.Common.{◌≡◌, ◌≤◌, ℕ, List, length, sym, ap, ◌∙◌, subst}
use Rattle.std.specs.Prelude.{All}
use Rattle.std.specs.List.{range_with_len}
use Rattle.std.proofs.lemmas.List.{length-map}
use Rattle.std.proofs.lemmas.List.FromFn.{length-range_with_len}
use Rattle.std.proofs.lemmas.Result.{IfOk-weaker}
use Rattle.source_tree.specs.References.{occurrence_of}
use Rattle.source_tree.specs.Systems.{chosen_levels, Occurrence}
use Rattle.stride_trees.specs.Leaves.{counts_behind, fact_context, level_count_of, order_counts, which_of, write_vars}
use Rattle.stride_trees.specs.Leaves.{HaveOrderRows}
use Rattle.stride_trees.specs.Strides.{read_of, write_of}
use Rattle.stride_trees.proofs.LeafConversion.{few_behind, few_chosen, few_counts, further_rows, levels_of, writer_added}
use Rattle.stride_trees.proofs.LeafConversion.{writer_levels}
use Rattle.stride_trees.proofs.ProblemBounds.{are_fitting}
use Rattle.stride_trees.proofs.leaves.push_writer.Goals as goal
use Rattle.tree_graphs.specs.Level.{common_of}
use Rattle.tree_order.specs.Candidates.{levels_before}

pub row_counts-requires : goal.row_counts-requires
row_counts-requires c =
    let s = c.args.writer.now.strides in
    (are_fitting s.nest.now (read_of s) (write_of s) s.level c.requires.writer.of.strided.strided).few_loops

counted : (counts found : List ℕ) (u r : Occurrence) → counts ≡ found → found ≡ order_counts u r
    → length counts ≡ levels_before u r
counted counts found u r is made =
    ap length (is ∙ made) ∙ length-map (range_with_len 0 (levels_before u r)) (level_count_of (common_of u r))
    ∙ length-range_with_len 0 (levels_before u r)

pub chosen-levels-requires-clause-counts : goal.chosen-levels-requires-clause-counts
chosen-levels-requires-clause-counts c =
    counted c.as_slice.result.now c.in_ok-counts.counts (write_of c.args.writer.now.strides)
    (occurrence_of c.args.w.now.read) c.as_slice.ensures c.in_ok-counts.ensures

pub push_levels-requires-clause-levels : goal.push_levels-requires-clause-levels
push_levels-requires-clause-levels c =
    let w = c.args.w.now in
    let s = c.args.writer.now.strides in
    let u = write_of s in
    subst (All (λ k. k ≤ 32)) (sym c.chosen-levels.ensures)
    (few_chosen (which_of w) u.number c.as_slice.result.now
    (subst (All (λ k. k ≤ 32)) (sym (c.as_slice.ensures ∙ c.in_ok-counts.ensures))
    (few_counts u (occurrence_of w.read)
    (are_fitting s.nest.now (read_of s) u s.level c.requires.writer.of.strided.strided).few_loops)))

pub push_levels-requires-clause-orders : goal.push_levels-requires-clause-orders
push_levels-requires-clause-orders c =
    let s = c.args.writer.now.strides in
    subst (All (λ k. k ≤ 32)) (sym (c.as_slice-2.ensures ∙ c.in_ok-orders.ensures))
    (few_behind c.args.behind.now (write_of s) c.requires.behind)

pub returns-clause-proofs : goal.returns-clause-proofs
returns-clause-proofs c =
    let w = c.args.w.now in
    let x = c.args.writer.now in
    let u = write_of x.strides in
    let behind = c.args.behind.now in
    let chosen = chosen_levels (which_of w) u.number (order_counts u (occurrence_of w.read)) in
    let levels_are : c.chosen-levels.result.now ≡ chosen =
    c.chosen-levels.ensures ∙ ap (chosen_levels (which_of w) u.number) (c.as_slice.ensures ∙ c.in_ok-counts.ensures) in
    let orders_are : c.as_slice-2.result.now ≡ counts_behind behind u =
    c.as_slice-2.ensures ∙ c.in_ok-orders.ensures in
    IfOk-weaker c.push_levels.result _ _
    (λ left added rest further at h.
    (let cx = fact_context w rest in
    let levels = levels_of w x cx in
    writer_added w rest behind further x h c.args.told.now left.now c.args.proofs.now c.push_levels.new.proofs
    (added rest levels (further u) at
    (subst (λ ks. HaveOrderRows (write_vars w x) ks levels) (sym levels_are)
    (writer_levels w c.args.here rest x at c.requires.writer.of))
    (subst (λ ks. HaveOrderRows (write_vars w x) ks (further u)) (sym orders_are)
    (further_rows x.strides cx behind further h))))) c.push_levels.ensures.proofs
