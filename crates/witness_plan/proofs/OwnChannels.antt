-- Each process of a wired network names its own channels alone.
use Rattle.std.proofs.Common.{◌≡◌, ℕ, Some, slice_get}
use Rattle.net_core.specs.declared.network.Event.{Event}
use Rattle.net_core.specs.declared.network.Event.TheVariants.{Get, Fire, Put}
use Rattle.net_core.specs.Machine.{Net}
use Rattle.net_core.specs.Shape.{IsWired}
use Rattle.witness_plan.specs.Records.{IsOwn, IsThere}

-- the events of a wired script are its process's own
pub wired_own : (n : Net) → IsWired n → (p k : ℕ) (e : Event) → slice_get (n.script p) k ≡ Some e → IsOwn n p e
wired_own n wired p k (Get c slot) is = (wired.get_channel p k c slot is, wired.get_reader p k c slot is)
wired_own n wired p k (Fire refs) is = tt
wired_own n wired p k (Put c) is = (wired.put_channel p k c is, wired.put_writer p k c is)

pub put_there : (n : Net) → IsWired n → (p k : ℕ) (e : Event) → slice_get (n.script p) k ≡ Some e → IsThere n e
put_there n wired p k (Get c slot) is = tt
put_there n wired p k (Fire refs) is = tt
put_there n wired p k (Put c) is = wired.put_channel p k c is
