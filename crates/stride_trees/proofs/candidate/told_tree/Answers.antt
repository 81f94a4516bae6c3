use Rattle.std.proofs.Common.{refl, sym, subst}
use Rattle.std.proofs.lemmas.Result.{IfOk-weaker}
use Rattle.stride_trees.specs.Strides.{ArePlaces}
use Rattle.stride_trees.proofs.CandidatePromise.{context_is, places_are}
use Rattle.stride_trees.proofs.candidate.told_tree.Goals as goal

pub problem_of-requires-clause-places : goal.problem_of-requires-clause-places
problem_of-requires-clause-places c =
    let s = c.args.s.now in
    subst (ArePlaces s c.args.context.now.vars) (sym c.requires.places)
    (places_are s c.requires.strided c.args.context.now.vars (sym c.requires.context.vars))

pub told-w-requires-clause-told : goal.told-w-requires-clause-told
told-w-requires-clause-told c =
    let s = c.args.s.now in (
      c.args.places.now,
      subst (ArePlaces s c.args.context.now.vars) (sym c.requires.places)
          (places_are s c.requires.strided c.args.context.now.vars (sym c.requires.context.vars)),
      c.in_ok-problem.ensures,
    )

pub tree_of-requires : goal.tree_of-requires
tree_of-requires c =
    context_is c.args.s.now c.requires.strided c.told-w.result c.args.context.now c.args.context.now.vars
    c.requires.context c.told-w.ensures.vars refl

pub returns : goal.returns
returns c =
    IfOk-weaker c.tree_of.result _ _
    (λ tree answer. record {
      w = c.told-w.result;
      vars = c.told-w.ensures.vars;
      read = c.told-w.ensures.read c.args.places.now c.in_ok-problem.ensures;
      write = c.told-w.ensures.write;
      level = c.told-w.ensures.level;
      answer = answer;
    })
    c.tree_of.ensures
