use Rattle.compaan_top.proofs.call.quiet.Goals as goal

pub returns : goal.returns
returns g c = rw c.number.ensures (c.what_ends_is_a_call.ensures _ _ _ _ _ c.carry_out_quietly.ensures)
