-- The network and certificate that a text stands for.
use Rattle.std.specs.Prelude.{◌≡◌, ◌≤◌, ℕ, List, All, IsTrue, length}
use Rattle.std.specs.List.{AllZip, sum_by}
use Rattle.net_core.specs.declared.network.Channel.{Channel}
use Rattle.net_core.specs.declared.network.Network.{Network}
use Rattle.net_core.specs.declared.network.Process.{Process}
use Rattle.script_blocks.specs.Nesting.{is_proper, nesting}
use Rattle.source_tree.specs.declared.cert.Cert.{Cert}
use Rattle.cert_lines.specs.Words.{IsInRange}
use Rattle.cert_text.specs.CertText.{ChannelIsInRange, EventIsInRange, IsInRangeOf, OriginIsInRange, folded_text}
use Rattle.cert_text.specs.Folding.{Folded, FoldedProcess, cert_of, most_events, network_of, process_of, scripts}
use Rattle.cert_text.specs.Stretches.{stretch_blocks}
use Rattle.cert_text.specs.declared.places.Version.{Version}
use Rattle.cert_text.specs.declared.places.Version.TheVariants.{Two}

-- neither the scripts together nor the schedule are too long
pub record IsShort (network : Network) (cert : Cert) : Type 0 where
  pub events : sum_by length (scripts network) ≤ most_events
  pub entries : length cert.schedule ≤ most_events

-- The text is one, of version 1 or 2, of blocks for each script and for the schedule that stand for those of the pair; the
-- blocks are within their ranges, and the pair isn't too long.
pub record StandsFor (text : List ℕ) (network : Network) (cert : Cert) : Type 0 where
  pub version : Version
  pub folded : Folded
  pub is_text : text ≡ folded_text version folded
  pub in_range : IsInRangeOf version folded
  pub of_network : network ≡ network_of folded
  pub of_cert : cert ≡ cert_of folded
  pub short : IsShort network cert

-- Which pairs have a text: each number is at most 4,294,967,295, a fire has at most eight references, each tree is one whose
-- text can be read, and the pair isn't too long.
pub record HasText (network : Network) (cert : Cert) : Type 0 where
  pub process_count : IsInRange (length network.processes)
  pub channel_count : IsInRange (length network.channels)
  pub source_count : IsInRange (length cert.sources)
  pub slots : All (λ process. IsInRange process.slots) network.processes
  pub events : All (λ process. All EventIsInRange process.script) network.processes
  pub channels : All ChannelIsInRange network.channels
  pub sources : All OriginIsInRange cert.sources
  pub schedule : All IsInRange cert.schedule
  pub short : IsShort network cert

-- blocks of a process that stand for its script, in which each repeat has a count of at least 2 and a body with a part, and
-- repeats nest at most 512 deep
pub record IsFoldedOf (process : Process) (folded : FoldedProcess) : Type 0 where
  pub stands : process_of folded ≡ process
  pub proper : IsTrue (is_proper folded.script)
  pub shallow : nesting folded.script ≤ 512

-- What is written of processes with blocks, of channels and of a certificate: the version 2 text in which the blocks are those
-- of the processes, and each greatest stretch of equal entries of the schedule is a repeat.
abbrev pub written_text : List FoldedProcess → List Channel → Cert → List ℕ
written_text processes channels cert =
    folded_text Two (record {
      processes = processes;
      channels = channels;
      sources = cert.sources;
      schedule = stretch_blocks cert.schedule;
    })

-- The text is written of a pair, by some blocks that stand for the scripts.
pub record IsWrittenOf (text : List ℕ) (network : Network) (cert : Cert) : Type 0 where
  pub processes : List FoldedProcess
  pub are_folded : AllZip IsFoldedOf network.processes processes
  pub is_text : text ≡ written_text processes network.channels cert
