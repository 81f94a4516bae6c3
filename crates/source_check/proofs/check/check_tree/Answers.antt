use Rattle.std.proofs.Common.{refl, sym, ap}
use Rattle.source_check.specs.Verdict.{verdict_of}
use Rattle.source_check.proofs.Whole.{accepted_checked, accepted_exact, exact_verdict, read_found}
use Rattle.source_check.proofs.check.check_tree.Goals as goal

pub returns-in-Ok-clause-exact : goal.returns-in-Ok-clause-exact
returns-in-Ok-clause-exact c =
    let found = c.statement-reader.ensures.value in
    exact_verdict c.args.nest.now c.args.statement c.args.read _ _ found
    (read_found c.args.nest.now c.args.statement c.args.read _ _ _ found c.as_slice.ensures c.requires.read
    c.index-as_slice-read.is) c.args.tree.now _ _ _ c.len-vars.ensures (c.in_ok-check_part.ensures _ refl)
    (sym (ap verdict_of c.in-Ok.is))

pub returns-in-Ok-clause-checked : goal.returns-in-Ok-clause-checked
returns-in-Ok-clause-checked c =
    let found = c.statement-reader.ensures.value in
    accepted_checked c.args.nest.now c.args.statement c.args.read _ _ found
    (read_found c.args.nest.now c.args.statement c.args.read _ _ _ found c.as_slice.ensures c.requires.read
    c.index-as_slice-read.is) c.args.tree.now _ _ _ c.len-vars.ensures (c.in_ok-check_part.ensures _ refl)
    (sym (ap verdict_of c.in-Ok.is))

pub returns-in-Ok-clause-sound : goal.returns-in-Ok-clause-sound
returns-in-Ok-clause-sound c =
    let found = c.statement-reader.ensures.value in
    accepted_exact c.args.nest.now c.args.statement c.args.read _ _ found
    (read_found c.args.nest.now c.args.statement c.args.read _ _ _ found c.as_slice.ensures c.requires.read
    c.index-as_slice-read.is) c.args.tree.now _ _ _ c.len-vars.ensures (c.in_ok-check_part.ensures _ refl)
    (sym (ap verdict_of c.in-Ok.is))

pub returns-clause-exact : goal.returns-clause-exact
returns-clause-exact c =
    let found = c.statement-reader.ensures.value in
    exact_verdict c.args.nest.now c.args.statement c.args.read _ _ found
    (read_found c.args.nest.now c.args.statement c.args.read _ _ _ found c.as_slice.ensures c.requires.read
    c.index-as_slice-read.is) c.args.tree.now _ _ _ c.len-vars.ensures (c.in_ok-check_part.ensures _ refl)
    (sym (ap verdict_of c.in-Err.is))

pub returns-clause-checked : goal.returns-clause-checked
returns-clause-checked c =
    let found = c.statement-reader.ensures.value in
    accepted_checked c.args.nest.now c.args.statement c.args.read _ _ found
    (read_found c.args.nest.now c.args.statement c.args.read _ _ _ found c.as_slice.ensures c.requires.read
    c.index-as_slice-read.is) c.args.tree.now _ _ _ c.len-vars.ensures (c.in_ok-check_part.ensures _ refl)
    (sym (ap verdict_of c.in-Err.is))
