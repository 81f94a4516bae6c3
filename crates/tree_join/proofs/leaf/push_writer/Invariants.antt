use Rattle.std.proofs.Common.{List, ◌++◌, map, take}
use Rattle.std.specs.List.{flat_map}
use Rattle.std.specs.Prelude.{All}
use Rattle.affine_core.specs.declared.form.Form.{Form}
use Rattle.tree_graphs.specs.Contexts.{IsMadeAs}
use Rattle.tree_graphs.specs.Joint.{orders_behind, IsSum}
use Rattle.tree_order.specs.Positions.{IsPointAt}
use Rattle.tree_order.specs.Reads.{read_in, write_in}
use Rattle.tree_graphs.specs.Asked.{write_of}
use Rattle.source_tree.specs.Checked.{AreRefuted}
use Rattle.source_tree.specs.Places.{before_rows}
use Rattle.source_tree.specs.Rows.{RowSystem}
use Rattle.source_tree.specs.Systems.{Context, reader_place, with_rows, with_write_at, writer_place}
use Rattle.tree_join.proofs.leaf.push_writer.Given as goal

abbrev pub invariant-loop-level : goal.invariant-loop-level
invariant-loop-level l =
    let r = read_in l.state.read.now l.problem in
    let u = write_in l.problem in
    record {
      refuted : (place : List Form) → IsPointAt l.best place
          → (c : Context) (before : List RowSystem) → IsMadeAs l.state.context.now c
          → AreRefuted before l.initial.proofs
          → AreRefuted (before ++ flat_map (λ p. map (λ q. with_rows (with_write_at r c u) (p ++ q))
          (orders_behind (write_of l.best.candidate.now.writes) place c u))
          (take l.level (before_rows u.number u.statement (writer_place c u) r.number r.statement (reader_place r))))
          l.proofs;
      sums : All IsSum l.initial.proofs → All IsSum l.proofs;
    }
