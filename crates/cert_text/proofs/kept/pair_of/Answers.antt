use Rattle.std.proofs.Common.{arith}
use Rattle.cert_text.proofs.Shortness.{each_short, short_where}
use Rattle.cert_text.specs.Kept.{scripts_of}
use Rattle.cert_text.proofs.kept.pair_of.Goals as goal

pub processes_of-requires : goal.processes_of-requires
processes_of-requires c = each_short c.args.kept.processes c.args.kept.schedule c.requires

pub into_script-requires : goal.into_script-requires
into_script-requires c =
    omega (arith, (short_where (scripts_of c.args.kept.processes) c.args.kept.schedule c.requires).1)
