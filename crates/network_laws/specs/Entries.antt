-- The text of a certificate with a run in the place of its schedule.
use Rattle.std.specs.Prelude.{ℕ, List, [], ◌∷◌, ◌++◌, codes, decimal, length}
use Rattle.std.specs.List.{flat_map}
use Rattle.net_core.specs.declared.network.Network.{Network}
use Rattle.source_tree.specs.declared.cert.Cert.{Cert}
use Rattle.text_out.specs.Words.{line_text}
use Rattle.trace_text.specs.TraceText.{entry_line}
use Rattle.cert_text.specs.CertText.{channel_text, end_text, head_text, process_text, source_text}
use Rattle.cert_text.specs.Folding.{Folded}
use Rattle.cert_text.specs.StandsFor.{StandsFor}

-- the line of sizes, with this number of parts of the schedule
abbrev pub sizes_text_with : Folded → ℕ → List ℕ
sizes_text_with folded parts = line_text (
    codes "sizes" ∷ decimal (length folded.processes) ∷ decimal (length folded.channels)
    ∷ decimal (length folded.sources)
    ∷ decimal parts ∷ [])

-- the text of a certificate behind its first line, with so many parts of the schedule, which have these lines
abbrev pub text_with_lines : Folded → ℕ → List ℕ → List ℕ
text_with_lines folded parts lines =
    sizes_text_with folded parts
    ++ (flat_map process_text folded.processes
    ++ (flat_map channel_text folded.channels
    ++ (flat_map source_text folded.sources
    ++ (lines
    ++ end_text))))

-- The text of a certificate with a run in the place of its schedule: a line for each event of the run, as `trace` writes it,
-- and their number in the line of sizes. All else stands as it did.
abbrev pub text_with_run : {text : List ℕ} {network : Network} {cert : Cert}
    → StandsFor text network cert → List ℕ → List ℕ
text_with_run stands run =
    head_text stands.version
    ++ text_with_lines stands.folded (length run) (flat_map entry_line run)
