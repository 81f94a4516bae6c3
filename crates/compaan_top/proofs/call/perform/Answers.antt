use Rattle.compaan_top.proofs.call.perform.Goals as goal

pub returns-in-Seq : goal.returns-in-Seq
returns-in-Seq c = rw c.in-Seq.is c.run_by_interpreter.ensures

pub returns-in-Net : goal.returns-in-Net
returns-in-Net c = rw c.in-Net.is c.print_network.ensures

pub returns-in-Check : goal.returns-in-Check
returns-in-Check c = rw c.in-Check.is c.check_certificate.ensures

pub returns-in-Deps : goal.returns-in-Deps
returns-in-Deps c = rw c.in-Deps.is c.tell_dependences.ensures

pub returns-in-Vhdl : goal.returns-in-Vhdl
returns-in-Vhdl c = rw c.in-Vhdl.is c.describe_network.ensures

pub returns-in-Sim : goal.returns-in-Sim
returns-in-Sim c = rw c.in-Sim.is c.run_by_clock.ensures

pub returns-in-Trim : goal.returns-in-Trim
returns-in-Trim c = rw c.in-Trim.is c.trim_network.ensures
