use Rattle.std.proofs.Common.{◌∙◌, sym, ap}
use Rattle.loop_grammar.specs.declared.tree.Operand.TheVariants.{Max}
use Rattle.std.proofs.lemmas.Bool.{false≢true}
use Rattle.loop_bind.proofs.Operands.{lower_operands_max, lower_operands_none, lower_operands_one}
use Rattle.loop_bind.proofs.judge.lower_parts.Goals as goal
use Rattle.loop_bind.proofs.judge.lower_parts.Goals.{in_default-via-in-Max+else-not-is_empty}
use Rattle.loop_bind.proofs.judge.lower_parts.Goals.{in_default-via-in_default}

pub returns-in-Max : goal.returns-in-Max
returns-in-Max c =
    let op = c.args.operand.now in
    c.as_slice.ensures
    ∙ sym (lower_operands_max op c.in-Max.token c.in-Max.list c.in-Max.is
    (λ e. absurd (false≢true (sym c.if-not-is_empty.true ∙ c.is_empty.ensures.1 e))))

pub returns-in_default : goal.returns-in_default
returns-in_default c =
    let op = c.args.operand.now in
    elim c.in_default.branch [
      | in_default-via-in-Max+else-not-is_empty w ↦
          c.from_ref.ensures.value
          ∙ sym (lower_operands_none op w.in-Max.token
          (w.in-Max.is ∙ ap (Max w.in-Max.token) (w.is_empty.ensures.0 w.if-not-is_empty.false)))
      | in_default-via-in_default w ↦ c.from_ref.ensures.value ∙ sym (lower_operands_one op w.in_default.not-Max)
    ]
