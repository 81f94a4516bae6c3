use Rattle.std.proofs.Common.{arith}
use Rattle.cert_text.specs.Kept.{process_kept}
use Rattle.cert_lines.proofs.Many.{as_many}
use Rattle.cert_text.proofs.reading.read_kept.Goals as goal

pub returns-clause-few : goal.returns-clause-few
returns-clause-few c =
    let count = as_many (process_kept c.args.version) c.args.sizes.processes c.args.lines.now
    (c.in_ok-processes.processes, c.read_processes.new.lines) c.in_ok-processes.ensures in
    omega (arith, count)
