-- The uses of a channel.
use Rattle.std.specs.Prelude.{ℕ, zero, suc, if◌then◌else◌, ◌==◌, Option, Some, None, List, [], ◌∷◌, ◌++◌, length, slice_get}
use Rattle.std.specs.List.{flat_map}
use Rattle.net_core.specs.declared.refs.Ref.{Ref}
use Rattle.net_core.specs.declared.refs.Ref.TheVariants.{Zero, Slot}
use Rattle.net_core.specs.declared.network.Event.{Event}
use Rattle.net_core.specs.declared.network.Event.TheVariants.{Get, Fire, Put}
use Rattle.net_core.specs.Machine.{Net}
use Rattle.net_core.specs.Names.{latest_gets}

abbrev pub use_in : ℕ → Option (Option (ℕ × ℕ)) → List ℕ
use_in c None = []
use_in c (Some None) = []
use_in c (Some (Some got)) = if got.0 == c then got.1 ∷ [] else []

-- the Get of channel c that a reference names, if it names one
abbrev pub use_of : ℕ → List (Option (ℕ × ℕ)) → Ref → List ℕ
use_of c slots Zero = []
use_of c slots (Slot k) = use_in c (slice_get slots k)

abbrev pub uses_of : ℕ → List (Option (ℕ × ℕ)) → Option Event → List ℕ
uses_of c slots None = []
uses_of c slots (Some (Get channel slot)) = []
uses_of c slots (Some (Fire refs)) = flat_map (use_of c slots) refs
uses_of c slots (Some (Put channel)) = []

-- the uses of channel c before place k of p's script
abbrev pub uses_before : Net → ℕ → ℕ → ℕ → List ℕ
uses_before n c p zero = []
uses_before n c p (suc k) =
    uses_before n c p k ++ uses_of c (latest_gets n p k) (slice_get (n.script p) k)

-- for each reference of the reader's fires in order that names a token of channel c, which Get took the token
abbrev pub uses : Net → ℕ → List ℕ
uses n c = uses_before n c (n.reader c) (length (n.script (n.reader c)))
