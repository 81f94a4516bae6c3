-- The context of a whole tree, and the Zero leaf of a negative sum.
--
-- A reader's domain rows are forms of the nest, so they are made as they are, and a point of the domain meets them. A
-- cycle of edges between loop variables whose sum is a negative number contradicts every context, with no term of it:
-- so the tree is one Zero leaf then.
use Rattle.std.proofs.Common.{◌≡◌, ◌≤◌, ℕ, ℤ, pos, ◌≤ℤ◌, List, [], ◌∷◌}
use Rattle.std.proofs.Common.{refl, sym, subst, arith}
use Rattle.std.specs.Prelude.{int_le, IsTrue}
use Rattle.std.proofs.lemmas.Bool.{and_parts}
use Rattle.std.proofs.lemmas.List.Elements.{All-nil, All-cons}
use Rattle.affine_core.specs.declared.form.Form.{Form}
use Rattle.affine_core.specs.Affine.{form_at}
use Rattle.affine_core.proofs.Integers.{int_le-true}
use Rattle.int_polyhedra.specs.declared.system.System.{System}
use Rattle.int_polyhedra.specs.Systems.{AreOver, Meets}
use Rattle.sanlp.specs.declared.nest.Nest.{Nest}
use Rattle.sanlp.specs.Loops.{all_hold}
use Rattle.lex_max.specs.Answer.{root_of, IsContextOf}
use Rattle.tree_graphs.specs.Asked.{depth_of_read, read_of, write_of, AreAsked}
use Rattle.tree_graphs.specs.declared.writes.Writes.{Writes}
use Rattle.tree_graphs.proofs.ProblemBounds.{are_fitting, AreFitting}
use Rattle.tree_graphs.proofs.MadeRows.{are_root, AreRoot}

pub root_context_of : (n : Nest) (w : Writes) (context : System) (room : ℕ)
    → AreAsked n (read_of w) (write_of w) w.level → w.vars ≡ depth_of_read w → context ≡ root_of w → room ≤ 4064
    → IsContextOf w room context
root_context_of n w context room asked vars_is is le =
    let f : AreFitting n (read_of w) (write_of w) w.level = are_fitting n (read_of w) (write_of w) w.level asked in
    let rows : List Form = w.read.statement.now.rows in
    let r : AreRoot (depth_of_read w) rows = are_root (depth_of_read w) rows f.reader_rows in
    subst (IsContextOf w room) (sym is)
    (record {
      vars = refl;
      over = subst (λ v. AreOver v rows) (sym vars_is) r.over;
      within = r.within;
      few = omega (arith, f.few_reader_rows, le);
    })

-- a point of the domain meets its rows
pub domain_meets : (rows : List Form) (x : List ℤ) → IsTrue (all_hold rows x) → Meets rows x
domain_meets [] x e = All-nil _
domain_meets (row ∷ rows) x e =
    let b = and_parts (int_le (pos 0) (form_at row x)) (all_hold rows x) e in
    All-cons (λ row. pos 0 ≤ℤ form_at row x) row rows (int_le-true (pos 0) (form_at row x) b.0) (domain_meets rows x b.1)
