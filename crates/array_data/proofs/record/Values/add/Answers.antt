use Rattle.std.proofs.Common.{rules, List, [], Some, None, ◌≡◌, ◌∷◌, ◌++◌, sym, ◌∙◌, arith}
use Rattle.std.specs.Prelude.{OnOk}
use Rattle.std.proofs.lemmas.Result.{on_ok_weaker}
use Rattle.array_data.specs.Data.{value_of, without_blanks}
use Rattle.array_data.proofs.Readings.{faulty, row_behind, unvalued, valued}
use Rattle.array_data.proofs.record.Values.add.Goals as goal
use Rattle.array_data.proofs.record.Values.add.Goals.{then-self-most-via-then-self-most, then-self-most-via-else-self-most+then-is_some}

pub returns-then-self-most : goal.returns-then-self-most
returns-then-self-most c = λ fields are.
    row_behind c.args.most fields c.args.field.now c.args.self.now
    (record {
      count = c.saturating_add-self.result;
      values = c.args.self.now.values;
      fault = c.args.self.now.fault;
    }) are
    (λ few. omega (arith, few, c.saturating_add-self.ensures))
    (λ few within number. elim c.then-self-most.branch [
      | then-self-most-via-then-self-most w ↦ absurd (omega (arith, within, w.if-self-most.true))
      | then-self-most-via-else-self-most+then-is_some w ↦
          faulty number c.saturating_add-self.result (value_of (without_blanks c.args.field.now))
          c.args.self.now.values c.args.self.now.fault (sym w.is_some.ensures ∙ w.if-is_some.true)
    ])

pub returns-in-Some : goal.returns-in-Some
returns-in-Some c =
    let kept : OnOk c.push.result (c.push.new.self ≡ c.args.self.now.values ++ c.in-Some.value ∷ []) = search rules in
    on_ok_weaker c.push.result (λ pushed fields are.
    row_behind c.args.most fields c.args.field.now c.args.self.now
    (record { count = c.saturating_add-self.result; values = c.push.new.self; fault = c.args.self.now.fault }) are
    (λ few. omega (arith, few, c.saturating_add-self.ensures))
    (λ few within number.
    let text = c.without_blanks.ensures in let said = c.value_of.ensures in let is = c.in-Some.is in
    let value : value_of (without_blanks c.args.field.now) ≡ Some c.in-Some.value = cc in
    valued number c.saturating_add-self.result (value_of (without_blanks c.args.field.now)) c.in-Some.value
    c.args.self.now.values c.push.new.self c.args.self.now.fault (sym c.is_some.ensures ∙ c.if-is_some.false) value
    pushed)) kept

pub returns-in-None : goal.returns-in-None
returns-in-None c = λ fields are.
    row_behind c.args.most fields c.args.field.now c.args.self.now
    (record {
      count = c.saturating_add-self.result;
      values = c.args.self.now.values;
      fault = Some c.saturating_add-self.result;
    }) are
    (λ few. omega (arith, few, c.saturating_add-self.ensures))
    (λ few within number.
    let text = c.without_blanks.ensures in let said = c.value_of.ensures in let is = c.in-None.is in
    let none : value_of (without_blanks c.args.field.now) ≡ None = cc in
    unvalued number c.saturating_add-self.result (value_of (without_blanks c.args.field.now)) c.args.self.now.values
    c.args.self.now.fault (sym c.is_some.ensures ∙ c.if-is_some.false) none)
