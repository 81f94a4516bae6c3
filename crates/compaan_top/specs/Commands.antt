-- What each command reads, and whether it waits for threads.
use Rattle.std.specs.Prelude.{◌≡◌, Bool, true, false, Option, Some, None}
use Rattle.command_line.specs.declared.words.Command.{Command}
use Rattle.command_line.specs.declared.words.Command.TheVariants.{Run, Seq, Net, Cert, Check, Deps, Vhdl, Load, Sim, Trim, Trace}
use Rattle.command_line.specs.declared.words.Order.{Order}
use Rattle.call_endings.specs.Reads.{Reads, source_alone, source_and_data, source_and_certificate, nothing}

-- the parts of a bundle that a command reads: the source, the source and the data, the source and the certificate, or
-- nothing
abbrev pub reads_of : Command → Reads
reads_of Run = source_and_data
reads_of Seq = source_and_data
reads_of Net = source_alone
reads_of Cert = source_alone
reads_of Check = source_and_certificate
reads_of Deps = source_alone
reads_of Vhdl = source_alone
reads_of Load = nothing
reads_of Sim = source_and_data
reads_of Trim = source_alone
reads_of Trace = source_alone

abbrev pub waits : Command → Bool
waits Run = true
waits Seq = false
waits Net = false
waits Cert = false
waits Check = false
waits Deps = false
waits Vhdl = false
waits Load = true
waits Sim = false
waits Trim = false
waits Trace = true

-- the commands that threads are waited for in
abbrev pub WaitsForThreads : Command → Type 0
WaitsForThreads command = waits command ≡ true

-- the commands that no thread is waited for in
abbrev pub WaitsForNobody : Command → Type 0
WaitsForNobody command = waits command ≡ false

-- what is read where this order is wanted, or None where the words are refused
abbrev pub read_by : Option Order → Reads
read_by None = nothing
read_by (Some order) = reads_of order.command
