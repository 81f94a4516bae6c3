use Rattle.std.proofs.Common.{length, take, ap, ◌∙◌}
use Rattle.std.specs.List.{sum_by}
use Rattle.std.proofs.Math.Seq.{take-length}
use Rattle.sanlp.specs.declared.nest.Statement.{Statement}
use Rattle.net_checker.proofs.parts.read_total.Goals as goal

pub returns : goal.returns
returns c =
    let statements = c.args.nest.now.statements in
    c.reads_before.ensures.value
    ∙ ap (λ k. sum_by (λ (s : Statement). length s.reads) (take k statements)) c.len.ensures
    ∙ ap (sum_by (λ (s : Statement). length s.reads)) (take-length statements)
