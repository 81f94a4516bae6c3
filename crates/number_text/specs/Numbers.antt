-- The numbers that the text of a network tells, and the text that tells them.
use Rattle.std.specs.Prelude.{◌≡◌, ℕ, List, ◌++◌, map}
use Rattle.std.specs.List.{flat_map, enumerate_from}
use Rattle.net_core.specs.declared.network.Network.{Network}
use Rattle.net_text.specs.NetworkText.{channel_numbers, channel_text, end_text, event_count, net_text, process_numbers}
use Rattle.net_text.specs.NetworkText.{process_text, version_line}
use Rattle.net_text.specs.declared.numbers.ChannelNumbers.{ChannelNumbers}
use Rattle.net_text.specs.declared.numbers.ProcessNumbers.{ProcessNumbers}
use Rattle.number_text.specs.declared.numbers.NetworkNumbers.{NetworkNumbers}
use Rattle.sanlp.specs.declared.nest.Nest.{Nest}

-- The numbers

-- the numbers of a network: of each process, of each channel, and that of all events
abbrev pub network_numbers : Network → NetworkNumbers
network_numbers network =
    record {
      processes = map process_numbers network.processes;
      channels = map (λ numbered. channel_numbers network numbered.0 numbered.1)
          (enumerate_from 0 network.channels);
      events = event_count network;
    }

-- The text

-- a line for each of these processes, the first having number 0
abbrev pub process_texts : Nest → List ProcessNumbers → List ℕ
process_texts nest processes =
    flat_map (λ numbered. process_text nest numbered.0 numbered.1) (enumerate_from 0 processes)

-- a line for each of these channels, the first having number 0
abbrev pub channel_texts : List ChannelNumbers → List ℕ
channel_texts channels =
    flat_map (λ numbered. channel_text numbered.0 numbered.1) (enumerate_from 0 channels)

-- the text that tells these numbers
abbrev pub numbers_text : Nest → NetworkNumbers → List ℕ
numbers_text nest numbers =
    version_line
    ++ (process_texts nest numbers.processes
    ++ (channel_texts numbers.channels ++ end_text numbers.events))

-- The text of a network tells its numbers, and of its scripts nothing else.
abbrev pub TellsNumbers : Nest → Network → Type 0
TellsNumbers nest network = net_text nest network ≡ numbers_text nest (network_numbers network)
