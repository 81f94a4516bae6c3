use Rattle.std.proofs.Common.{List, map, take}
use Rattle.affine_core.specs.declared.form.Form.{Form}
use Rattle.int_polyhedra.specs.declared.system.System.{System}
use Rattle.lex_max.specs.Leaves.{after_levels, AddsProofs, AreOrderCerts}
use Rattle.source_tree.specs.Systems.{with_rows, Context}
use Rattle.lex_max.proofs.leaf.push_levels.Given as goal

abbrev pub invariant-loop-level : goal.invariant-loop-level
invariant-loop-level l =
    (c : Context) (context : System) (place : List Form) → AreOrderCerts l.w l.here c context place l.order
    → AddsProofs (map (with_rows c) (take l.level (after_levels l.w place))) l.fn.proofs l.proofs
