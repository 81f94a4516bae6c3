use Rattle.rtl_answers.proofs.call.compaan_rtl.Goals as goal

pub returns : goal.returns
returns g c = record {
  status = c.carry_out.result;
  is_number = c.number.ensures;
  ends = c.carry_out.ensures;
}
