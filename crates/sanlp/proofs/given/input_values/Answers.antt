use Rattle.std.proofs.Common.{[], ◌∙◌, ap}
use Rattle.std.specs.Prelude.{unwrap_or}
use Rattle.std.proofs.lemmas.Option.{unwrap_or-slice_get}
use Rattle.sanlp.proofs.given.input_values.Goals as goal

pub returns-in-None : goal.returns-in-None
returns-in-None c =
    ap (λ o. unwrap_or o []) c.in-None.ensures.value ∙ unwrap_or-slice_get c.args.inputs.now.arrays c.args.array []
