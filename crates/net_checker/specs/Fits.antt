-- When a certificate fits its network and its nest, and what the checker answers.
use Rattle.std.specs.Prelude.{◌≡◌, ℕ, List, Option, Some, None, length, slice_get}
use Rattle.std.specs.Option.{option_or}
use Rattle.channel_class.specs.Classes.{class_of}
use Rattle.sanlp.specs.declared.nest.Nest.{Nest}
use Rattle.source_tree.specs.declared.cert.Cert.{Cert}
use Rattle.net_core.specs.declared.network.Channel.{Channel}
use Rattle.net_core.specs.declared.network.Network.{Network}
use Rattle.net_core.specs.Machine.{net_of}
use Rattle.net_core.specs.Orders.{EndsAll}
use Rattle.net_core.specs.Rules.{tags}
use Rattle.net_core.specs.Sound.{FitsNest}
use Rattle.net_core.specs.Uses.{uses}
use Rattle.net_checker.specs.declared.verdict.Refusal.{Refusal}
use Rattle.net_checker.specs.declared.verdict.Verdict.{Verdict}
use Rattle.net_checker.specs.declared.verdict.Verdict.TheVariants.{Accepted, Refused}
use Rattle.net_checker.specs.Shapes.{read_total, shape_refusal}
use Rattle.net_checker.specs.Firings.{firing_refusal}
use Rattle.net_checker.specs.Sources.{source_refusal, AreUsable, NamesWanted}
use Rattle.net_checker.specs.Entries.{schedule_refusal}
use Rattle.net_checker.specs.Classes.{class_refusal}

-- The network and the certificate fit the nest.
pub record Fits (n : Nest) (network : Network) (cert : Cert) : Type 0 where
  -- the network's shape is that of the nest's points and reads
  pub shape : FitsNest n network
  -- there is one source for each read
  pub sources : length cert.sources ≡ read_total n
  -- every source is Sweep, or a checked tree that overflows at no point of its reader
  pub trees : AreUsable n cert
  -- the schedule is a run, and its last state is ended
  pub ends : EndsAll (net_of network) tags cert.schedule
  -- every reference of every fire names what its read wants under the certificate
  pub names : NamesWanted n cert (net_of network)
  -- each channel has the class of its uses
  pub classes : (c : ℕ) (channel : Channel) → slice_get network.channels c ≡ Some channel
      → channel.class ≡ class_of (uses (net_of network) c)

-- the certificate with these entries as its schedule, in place of its own
abbrev pub with_entries : Cert → List ℕ → Cert
with_entries cert entries = record { sources = cert.sources; schedule = entries }

-- what is wrong first with these entries in place of the certificate's own, if anything is
abbrev pub first_with : Nest → Network → Cert → List ℕ → Option Refusal
first_with n network cert entries =
    option_or (shape_refusal n network cert)
    (option_or (firing_refusal n network)
    (option_or (source_refusal n cert)
    (option_or (schedule_refusal n network entries) (class_refusal network))))

-- what is wrong first, if anything is
abbrev pub first : Nest → Network → Cert → Option Refusal
first n network cert = first_with n network cert cert.schedule

-- the verdict that goes with a reason or none
abbrev pub verdict_of : Option Refusal → Verdict
verdict_of None = Accepted
verdict_of (Some refusal) = Refused refusal
