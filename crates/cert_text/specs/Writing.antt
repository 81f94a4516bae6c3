-- What the writing of processes with a certificate comes to: each is written by blocks that it gives.
use Rattle.std.specs.Prelude.{List}
use Rattle.std.specs.List.{AllZip, flat_map}
use Rattle.net_core.specs.declared.network.Channel.{Channel}
use Rattle.source_tree.specs.declared.cert.Cert.{Cert}
use Rattle.text_out.specs.Wrote.{Given, Wrote}
use Rattle.cert_text.specs.CertText.{process_text}
use Rattle.cert_text.specs.Folding.{FoldedProcess}
use Rattle.cert_text.specs.StandsFor.{written_text}
use Rattle.cert_text.specs.declared.writing.ProcessBlocks.{ProcessBlocks}

-- a process with blocks, as texts have it
abbrev pub folded_process : ProcessBlocks → FoldedProcess
folded_process process = record { slots = process.slots; script = process.script.now }

pub record WritesProcess {P W : Type 0} (given : W → Given) (gives : P → FoldedProcess → Type 0)
    (old new : W) (process : P) : Type 0 where
  pub folded : FoldedProcess
  pub is_given : gives process folded
  pub wrote : Wrote given old new (process_text folded)

pub record WritesProcesses {P W : Type 0} (given : W → Given) (gives : P → FoldedProcess → Type 0)
    (old new : W) (processes : List P) : Type 0 where
  pub folded : List FoldedProcess
  pub are_given : AllZip gives processes folded
  pub wrote : Wrote given old new (flat_map process_text folded)

pub record WritesText {P W : Type 0} (given : W → Given) (gives : P → FoldedProcess → Type 0)
    (old new : W) (processes : List P) (channels : List Channel) (cert : Cert) : Type 0 where
  pub folded : List FoldedProcess
  pub are_given : AllZip gives processes folded
  pub wrote : Wrote given old new (written_text folded channels cert)
