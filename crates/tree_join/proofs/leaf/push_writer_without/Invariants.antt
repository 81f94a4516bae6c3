use Rattle.std.proofs.Common.{◌++◌, List, map, take}
use Rattle.std.specs.List.{flat_map}
use Rattle.std.specs.Prelude.{All}
use Rattle.tree_graphs.specs.Contexts.{IsMadeAs}
use Rattle.tree_graphs.specs.Joint.{no_orders, IsSum}
use Rattle.tree_order.specs.Reads.{read_in, write_in}
use Rattle.source_tree.specs.Checked.{AreRefuted}
use Rattle.source_tree.specs.Places.{before_rows}
use Rattle.source_tree.specs.Rows.{RowSystem}
use Rattle.source_tree.specs.Systems.{Context, reader_place, with_rows, with_write_at, writer_place}
use Rattle.tree_join.proofs.leaf.push_writer_without.Given as goal

abbrev pub invariant-loop-level : goal.invariant-loop-level
invariant-loop-level l =
    let r = read_in l.state.read.now l.problem in
    let u = write_in l.problem in
    record {
      refuted : (c : Context) (before : List RowSystem) → IsMadeAs l.state.context.now c
          → AreRefuted before l.initial.proofs
          → AreRefuted (before ++ flat_map (λ p. map (λ q. with_rows (with_write_at r c u) (p ++ q)) (no_orders u))
          (take l.level (before_rows u.number u.statement (writer_place c u) r.number r.statement (reader_place r))))
          l.proofs;
      sums : All IsSum l.initial.proofs → All IsSum l.proofs;
    }
