use Rattle.std.proofs.Common.{◌≡◌, ◌∙◌, ◌+◌, [], ap, arith, get_or}
use Rattle.source_tree.specs.Sources.{read_number}
use Rattle.deps_text.proofs.Lookups.{nothing_past}
use Rattle.deps_text.proofs.points.sources_at.Goals as goal

pub returns-in-None : goal.returns-in-None
returns-in-None c =
    let place : c.reads_before.result + c.args.read ≡ read_number c.args.nest.now c.args.statement c.args.read =
    omega (arith, c.reads_before.ensures.value) in
    nothing_past c.args.table.now.of _ c.in-None.ensures.value
    ∙ ap (λ i. get_or c.args.table.now.of i []) place
