use Rattle.std.proofs.Common.{◌∙◌, ap, sym, eq-eqb, eqb-true}
use Rattle.net_core.specs.declared.refs.Refs.TheInside.{Inside}
use Rattle.net_core.proofs.PackingLemmas.{IsPacked-other, IsPacked-same_slots}
use Rattle.net_core.proofs.refs.RefsPartialEq.eq.Goals as goal
use Rattle.net_core.proofs.refs.RefsPartialEq.eq.Goals.{then-self-other, else-self-other}

pub returns-then-self-other-2 : goal.returns-then-self-other-2
returns-then-self-other-2 c =
    elim c.if-self-other.branch [
      | then-self-other w ↦
          c.eq.ensures
          ∙ IsPacked-same_slots c.self.inside c.other.inside c.args.self.now c.args.other.now c.self.invariant
          c.other.invariant c.self.view_is c.other.view_is w.if-self-other.true
          (sym w.value-is ∙ c.if-self-other-2.true)
      | else-self-other w ↦
          absurd
          (
          w.if-self-other.false
          (eqb-true c.self.inside.len c.other.inside.len (sym w.value-is ∙ c.if-self-other-2.true))
          )
    ]

pub returns-else-self-other-2 : goal.returns-else-self-other-2
returns-else-self-other-2 c =
    elim c.if-self-other.branch [
      | then-self-other w ↦
          IsPacked-other c.self.inside c.other.inside c.args.self.now c.args.other.now c.self.invariant c.other.invariant
          c.self.view_is c.other.view_is c.if-self-other.value c.if-self-other-2.false
          (
          λ e. w.value-is ∙ eq-eqb c.self.inside.zeros c.other.inside.zeros (ap (λ (x : Inside). x.zeros) e)
          )
      | else-self-other w ↦
          IsPacked-other c.self.inside c.other.inside c.args.self.now c.args.other.now c.self.invariant c.other.invariant
          c.self.view_is c.other.view_is c.if-self-other.value c.if-self-other-2.false
          (λ e. absurd (w.if-self-other.false (ap (λ (x : Inside). x.len) e)))
    ]
