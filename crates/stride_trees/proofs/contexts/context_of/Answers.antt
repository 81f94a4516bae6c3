use Rattle.std.proofs.Common.{length, sym, ap, ◌∙◌, subst, arith}
use Rattle.std.specs.Prelude.{All}
use Rattle.std.proofs.lemmas.Result.{IfOk-weaker}
use Rattle.int_polyhedra.specs.declared.system.System.{System}
use Rattle.tree_graphs.specs.Contexts.{IsMadeAs}
use Rattle.source_tree.specs.Systems.{root_context}
use Rattle.stride_trees.specs.Divisions.{divided_context}
use Rattle.stride_trees.specs.Strides.{read_of, tests_of, IsTestOf}
use Rattle.stride_trees.proofs.TestCounts.{few_tests, tests_are}
use Rattle.stride_trees.proofs.YesContexts.{made_from, root_made, root_small}
use Rattle.stride_trees.proofs.TestNodes.{fitting_of}
use Rattle.stride_trees.proofs.contexts.context_of.Goals as goal

pub overflow_cast-vars : goal.overflow_cast-vars
overflow_cast-vars c = omega (arith, c.len-vars.ensures, (fitting_of c.args.s.now c.requires.strided).few_vars)

pub with_quotients-requires-clause-tests : goal.with_quotients-requires-clause-tests
with_quotients-requires-clause-tests c =
    subst (All (IsTestOf c.args.s.now)) (sym c.requires.tests) (tests_are c.args.s.now)

pub with_quotients-requires-clause-few : goal.with_quotients-requires-clause-few
with_quotients-requires-clause-few c =
    omega (
      arith,
      c.len-vars.ensures,
      ap (λ (x : System). x.vars) c.in_ok-context.ensures,
      (fitting_of c.args.s.now c.requires.strided).few_vars,
      ap length c.requires.tests,
      few_tests c.args.s.now c.requires.strided,
    )

pub with_quotients-requires-clause-rows : goal.with_quotients-requires-clause-rows
with_quotients-requires-clause-rows c =
    root_small c.args.s.now c.requires.strided c.in_ok-context.context
    (ap (λ (x : System). x.vars) c.in_ok-context.ensures ∙ c.len-vars.ensures)
    (ap (λ (x : System). x.rows) c.in_ok-context.ensures ∙ c.as_slice.ensures)

pub returns : goal.returns
returns c =
    let s = c.args.s.now in
    let root = root_context (read_of s) in
    let made = root_made s c.requires.strided c.in_ok-context.context
    (ap (λ (x : System). x.vars) c.in_ok-context.ensures ∙ c.len-vars.ensures)
    (ap (λ (x : System). x.rows) c.in_ok-context.ensures ∙ c.as_slice.ensures) in
    IfOk-weaker c.with_quotients.result _ _
    (λ last h. made_from (divided_context root (tests_of s)) last h.0
    (subst (λ ds. IsMadeAs last (divided_context root ds)) c.requires.tests (h.1 root made)))
    c.with_quotients.ensures
