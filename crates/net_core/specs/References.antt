-- When two references, and two lists of them, are equal.
use Rattle.std.specs.Prelude.{Bool, true, false, ◌==◌, List}
use Rattle.std.specs.Cmp.Lexicographic.{pointwise}
use Rattle.net_core.specs.declared.refs.Ref.{Ref}
use Rattle.net_core.specs.declared.refs.Ref.TheVariants.{Zero, Slot}

-- whether two references are equal
abbrev pub ref_eq : Ref → Ref → Bool
ref_eq Zero Zero = true
ref_eq Zero (Slot k) = false
ref_eq (Slot k) Zero = false
ref_eq (Slot k) (Slot j) = k == j

-- whether two lists of references are equal
abbrev pub refs_eq : List Ref → List Ref → Bool
refs_eq = pointwise ref_eq
