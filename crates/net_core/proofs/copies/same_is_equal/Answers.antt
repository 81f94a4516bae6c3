use Rattle.std.proofs.Common.{eq-eqb, refl}
use Rattle.std.proofs.lemmas.Bool.{and_from}
use Rattle.net_core.specs.declared.network.Event.TheVariants.{Get, Fire, Put}
use Rattle.net_core.specs.ReferenceLaws.{refs_equiv}
use Rattle.net_core.proofs.copies.same_is_equal.Goals as goal

pub returns : goal.returns
returns c = elim [
  | Get channel slot ↦ and_from _ _ (eq-eqb channel channel refl) (eq-eqb slot slot refl)
  | Fire refs ↦ refs_equiv.refl refs
  | Put channel ↦ eq-eqb channel channel refl
]
