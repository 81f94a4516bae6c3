use Rattle.std.proofs.Common.{◌∙◌, sym, ap}
use Rattle.loop_grammar.specs.declared.tree.Operand.TheVariants.{Min}
use Rattle.std.proofs.lemmas.Bool.{false≢true}
use Rattle.loop_bind.proofs.Operands.{upper_operands_min, upper_operands_none, upper_operands_one}
use Rattle.loop_bind.proofs.judge.upper_parts.Goals as goal
use Rattle.loop_bind.proofs.judge.upper_parts.Goals.{in_default-via-in-Min+else-not-is_empty}
use Rattle.loop_bind.proofs.judge.upper_parts.Goals.{in_default-via-in_default}

pub returns-in-Min : goal.returns-in-Min
returns-in-Min c =
    let op = c.args.operand.now in
    c.as_slice.ensures
    ∙ sym (upper_operands_min op c.in-Min.token c.in-Min.list c.in-Min.is
    (λ e. absurd (false≢true (sym c.if-not-is_empty.true ∙ c.is_empty.ensures.1 e))))

pub returns-in_default : goal.returns-in_default
returns-in_default c =
    let op = c.args.operand.now in
    elim c.in_default.branch [
      | in_default-via-in-Min+else-not-is_empty w ↦
          c.from_ref.ensures.value
          ∙ sym (upper_operands_none op w.in-Min.token
          (w.in-Min.is ∙ ap (Min w.in-Min.token) (w.is_empty.ensures.0 w.if-not-is_empty.false)))
      | in_default-via-in_default w ↦ c.from_ref.ensures.value ∙ sym (upper_operands_one op w.in_default.not-Min)
    ]
