use Rattle.std.proofs.Common.{ap, ap₂, eqb-true}
use Rattle.std.proofs.lemmas.Bool.{and_parts}
use Rattle.net_core.specs.declared.network.Event.TheVariants.{Get, Fire, Put}
use Rattle.net_core.specs.ReferenceLaws.{ref_same, refs_same}
use Rattle.net_core.proofs.laws.equal_is_same.Goals as goal

pub returns : goal.returns
returns c =
    record {
      reference = ref_same;
      references = refs_same;
      event = elim [
        | Get x i ↦ elim [
          | Get y j ↦ λ h. (let p = and_parts _ _ h in ap₂ Get (eqb-true _ _ p.0) (eqb-true _ _ p.1))
          | Fire s ↦ λ h. cc
          | Put y ↦ λ h. cc
        ]
        | Fire r ↦ elim [ Get y j ↦ λ h. cc | Fire s ↦ λ h. ap Fire (refs_same r s h) | Put y ↦ λ h. cc ]
        | Put x ↦ elim [ Get y j ↦ λ h. cc | Fire s ↦ λ h. cc | Put y ↦ λ h. ap Put (eqb-true _ _ h) ]
      ];
    }
