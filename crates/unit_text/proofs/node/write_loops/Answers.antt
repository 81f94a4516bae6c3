use Rattle.unit_text.proofs.node.write_loops.Goals as goal

pub returns : goal.returns
returns g c = rw c.as_slice.ensures at c.write_each_loop.ensures
