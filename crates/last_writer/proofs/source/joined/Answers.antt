-- The facts are what Cuts add to the context, and stand behind its rows. The answers are the same, so the context below them is.
use Rattle.std.proofs.Common.{◌++◌, length, refl, sym, ap, ◌∙◌, subst, arith, length-append}
use Rattle.int_polyhedra.specs.declared.system.System.{System}
use Rattle.int_polyhedra.specs.Systems.{AreOver}
use Rattle.last_writer.proofs.JointTrees.{add_facts, facts_made, facts_small, few_rows, same_answered}
use Rattle.stride_trees.specs.Leaves.{context_of}
use Rattle.tree_facts.specs.Facts.{AddFacts}
use Rattle.last_writer.proofs.source.joined.Goals as goal

pub tests_in-tests-requires : goal.tests_in-tests-requires
tests_in-tests-requires c = omega (arith, few_rows c.args.w.now c.requires.answered)

pub joined_in-requires-clause-answered : goal.joined_in-requires-clause-answered
joined_in-requires-clause-answered c = same_answered c.args.w.now _ c.requires.answered refl refl refl refl refl refl

pub joined_in-requires-clause-facts : goal.joined_in-requires-clause-facts
joined_in-requires-clause-facts c =
    let cx = context_of c.args.w.now in
    let found = c.in_ok-found.found in
    subst (λ cuts. AddFacts cx cuts c.as_slice-2.result.now) (sym c.as_slice.ensures)
    (subst (λ facts. AddFacts cx found.cuts facts) (sym c.as_slice-2.ensures)
    (add_facts cx c.args.context.now found c.requires.made c.requires.rows c.in_ok-found.ensures))

pub joined_in-requires-clause-made : goal.joined_in-requires-clause-made
joined_in-requires-clause-made c =
    let context = c.args.context.now in
    facts_made (context_of c.args.w.now) context c.in_ok-there.there c.as_slice-2.result.now c.requires.made
    (subst (λ facts. AreOver context.vars facts) (sym c.as_slice-2.ensures) c.in_ok-found.ensures.over)
    c.in_ok-there.ensures

pub joined_in-requires-clause-rows : goal.joined_in-requires-clause-rows
joined_in-requires-clause-rows c =
    let context = c.args.context.now in
    facts_small context c.in_ok-there.there c.in_ok-found.found c.requires.rows c.in_ok-found.ensures
    (c.in_ok-there.ensures ∙ ap (λ rows. record { vars = context.vars; rows = context.rows ++ rows }) c.as_slice-2.ensures)

pub joined_in-requires-clause-few : goal.joined_in-requires-clause-few
joined_in-requires-clause-few c =
    let context = c.args.context.now in
    omega (
      arith,
      ap (λ (s : System). length s.rows) c.in_ok-there.ensures,
      length-append context.rows c.as_slice-2.result.now,
      ap length c.as_slice-2.ensures,
      c.in_ok-found.ensures.few,
    )

pub returns : goal.returns
returns c = c.joined_in.ensures
