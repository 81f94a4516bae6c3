-- The classes of the channels: each is that of the channel's uses.
use Rattle.std.specs.Prelude.{ℕ, Bool, true, false, ◌&&◌, not, if◌then◌else◌, Option, Some, None, length, slice_get}
use Rattle.channel_class.specs.declared.ChannelClass.{ChannelClass}
use Rattle.channel_class.specs.declared.UseOrder.{UseOrder}
use Rattle.channel_class.specs.declared.UseOrder.TheVariants.{InOrder, Reorder}
use Rattle.channel_class.specs.Classes.{class_of}
use Rattle.net_core.specs.declared.network.Channel.{Channel}
use Rattle.net_core.specs.declared.network.Network.{Network}
use Rattle.net_core.specs.Machine.{net_of}
use Rattle.net_core.specs.Uses.{uses}
use Rattle.net_checker.specs.declared.verdict.Refusal.{Refusal}
use Rattle.net_checker.specs.declared.verdict.Refusal.TheVariants as refusal
use Rattle.net_checker.specs.Choice.{first_below}

abbrev pub same_order : UseOrder → UseOrder → Bool
same_order InOrder InOrder = true
same_order InOrder Reorder = false
same_order Reorder InOrder = false
same_order Reorder Reorder = true

abbrev pub same_bool : Bool → Bool → Bool
same_bool true b = b
same_bool false b = not b

abbrev pub same_class : ChannelClass → ChannelClass → Bool
same_class a b = same_order a.order b.order && same_bool a.multiplicity b.multiplicity

-- the class of channel c by its uses
abbrev pub used_class : Network → ℕ → ChannelClass
used_class network c = class_of (uses (net_of network) c)

abbrev pub channel_refusal : Network → ℕ → Option Channel → Option Refusal
channel_refusal network c None = None
channel_refusal network c (Some channel) =
    if same_class channel.class (used_class network c) then None
    else Some (refusal.Class c channel.class (used_class network c))

-- the first channel whose class isn't that of its uses
unfoldable pub class_refusal : Network → Option Refusal
class_refusal network =
    first_below (λ c. channel_refusal network c (slice_get network.channels c))
    (length network.channels)
