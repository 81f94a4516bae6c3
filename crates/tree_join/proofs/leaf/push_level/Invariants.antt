use Rattle.std.proofs.Common.{List, ◌++◌, map, take}
use Rattle.std.specs.Prelude.{All}
use Rattle.affine_core.specs.declared.form.Form.{Form}
use Rattle.tree_graphs.specs.Contexts.{IsMadeAs}
use Rattle.tree_graphs.specs.Joint.{orders_behind, IsSum}
use Rattle.tree_order.specs.Positions.{IsPointAt}
use Rattle.tree_order.specs.Reads.{read_in, write_in}
use Rattle.tree_graphs.specs.Asked.{write_of}
use Rattle.tree_graphs.specs.Edges.{AreLevelRows}
use Rattle.source_tree.specs.Checked.{AreRefuted}
use Rattle.source_tree.specs.Rows.{RowExpr, RowSystem}
use Rattle.source_tree.specs.Systems.{Context, with_rows, with_write_at, writer_place}
use Rattle.tree_join.proofs.leaf.push_level.Given as goal

abbrev pub invariant-loop-q : goal.invariant-loop-q
invariant-loop-q l =
    let r = read_in l.state.read.now l.problem in
    let u = write_in l.problem in
    record {
      refuted : (place : List Form) → IsPointAt l.best place
          → (c : Context) (before : List RowSystem) (rows : List RowExpr) → IsMadeAs l.state.context.now c
          → AreLevelRows r u l.level (writer_place c u) rows → AreRefuted before l.initial.proofs
          → AreRefuted (before ++ map (λ order. with_rows (with_write_at r c u) (rows ++ order))
          (take l.q (orders_behind (write_of l.best.candidate.now.writes) place c u))) l.proofs;
      sums : All IsSum l.initial.proofs → All IsSum l.proofs;
    }
