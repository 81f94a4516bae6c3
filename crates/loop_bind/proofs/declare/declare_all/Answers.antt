use Rattle.std.proofs.Common.{None, refl}
use Rattle.loop_bind.proofs.DeclareLemmas.{next_declaration, all_declared}
use Rattle.loop_bind.proofs.declare.declare_all.Goals as goal

pub loop-declaration-preserved : goal.loop-declaration-preserved
loop-declaration-preserved c =
    next_declaration c.args.params.now c.args.declarations.now c.loop-declaration.declaration-index
    c.declaration-item.result
    (record { scope = c.new.result; arrays = c.new-2.result; processes = 0; least = None }) c.loop-declaration.table
    c.declare_names.new.table
    c.loop-declaration-test.true c.declaration-item.is c.loop-declaration.invariant c.in_ok-declare_names.ensures

pub returns : goal.returns
returns c =
    all_declared c.args.params.now c.args.declarations.now c.loop-declaration.declaration-index
    (record { scope = c.new.result; arrays = c.new-2.result; processes = 0; least = None }) c.loop-declaration.table
    c.loop-declaration-test.false refl c.loop-declaration.invariant
