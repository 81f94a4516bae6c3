use Rattle.std.proofs.Common.{[], ◌∷◌, Some, None}
use Rattle.std.proofs.lemmas.Bool.Decides.{Decides-eqb}
use Rattle.std.proofs.lemmas.Slice.Eq.{strip_prefix_is}
use Rattle.array_data.proofs.Readings.{behind_mark, no_mark}
use Rattle.array_data.proofs.reader.without_mark.Goals as goal

pub returns-in-Some : goal.returns-in-Some
returns-in-Some c =
    behind_mark c.args.bytes.now c.in-Some.rest.now
    (strip_prefix_is Decides-eqb c.args.bytes.now (239 ∷ 187 ∷ 191 ∷ []) (Some c.in-Some.rest) c.in-Some.ensures.cases)

pub returns-in-None : goal.returns-in-None
returns-in-None c =
    no_mark c.args.bytes.now
    (strip_prefix_is Decides-eqb c.args.bytes.now (239 ∷ 187 ∷ 191 ∷ []) None c.in-None.ensures.cases)
