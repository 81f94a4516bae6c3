use Rattle.rtl_answers.proofs.design.design_for.Goals as goal

pub returns-in-One : goal.returns-in-One
returns-in-One c = rw c.in-One.is c.design_of.ensures

pub returns-in-All : goal.returns-in-All
returns-in-All c = rw c.in-All.is c.port_design_of.ensures
