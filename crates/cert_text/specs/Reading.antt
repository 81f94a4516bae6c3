-- What the reading of a text comes to.
use Rattle.std.specs.Prelude.{ℕ, zero, suc, List, Option, Some, None, codes, Result, Ok, Err}
use Rattle.net_core.specs.declared.network.Network.{Network}
use Rattle.script_blocks.specs.declared.blocks.BlockPart.{BlockPart}
use Rattle.script_blocks.specs.declared.blocks.BlockPart.TheVariants.{Item}
use Rattle.script_blocks.specs.declared.blocks.BlockPart.TheViews.{Repeat}
use Rattle.source_tree.specs.declared.cert.Cert.{Cert}
use Rattle.source_tree.specs.declared.cert.Origin.{Origin}
use Rattle.source_tree.specs.declared.cert.Origin.TheVariants.{Sweep, Tree}
use Rattle.cert_lines.specs.declared.error.CertError.{CertError}
use Rattle.cert_lines.specs.declared.error.CertError.TheVariants.{Deep, Long}
use Rattle.cert_lines.specs.declared.error.Fault.{Fault}
use Rattle.cert_lines.specs.Words.{just}
use Rattle.cert_lines.specs.Reading.{Part, followed_by, found, line, many, text_end}
use Rattle.cert_text.specs.declared.places.PartLine.{PartLine}
use Rattle.cert_text.specs.declared.places.PartLine.TheVariants as of_part
use Rattle.cert_text.specs.declared.places.Sizes.{Sizes}
use Rattle.cert_text.specs.declared.places.SourceLine.{SourceLine}
use Rattle.cert_text.specs.declared.places.SourceLine.TheVariants as of_source
use Rattle.cert_text.specs.declared.places.Version.{Version}
use Rattle.cert_text.specs.Folding.{Folded, FoldedProcess, cert_of, network_of, scripts, too_long}
use Rattle.cert_text.specs.Places.{sizes_line, process_line, event_line, channel_line, source_line, entry_line, part_line, version_line}
use Rattle.tree_text.specs.Reading.{tree}

-- Parts

-- what follows a line of a part that may hold no repeat: nothing, and the repeat of line n is too deep
abbrev pub shallow_behind : {T : Type 0} → ℕ → PartLine T → Part (BlockPart T)
shallow_behind n (of_part.Item x) at = Ok (Item x, at)
shallow_behind n (of_part.Repeat count parts) at = Err (Deep n)

-- what follows a line of a part, where `inner` reads the parts of a repeat
abbrev pub part_behind : {T : Type 0} → Part (BlockPart T) → PartLine T → Part (BlockPart T)
part_behind inner (of_part.Item x) at = Ok (Item x, at)
part_behind inner (of_part.Repeat count parts) at =
    followed_by (many inner parts at) (λ body at. Ok (Repeat count (record { parts = body }), at))

-- a part whose repeats nest at most so many levels deep; the line of one that nests deeper is judged first
unfoldable pub part : {T : Type 0} → (List (List ℕ) → Result T Fault) → Version → ℕ
    → Part (BlockPart T)
part item version zero at =
    followed_by (line (part_line item version) at) (shallow_behind at.line)
part item version (suc levels) at =
    followed_by (line (part_line item version) at) (part_behind (part item version levels))

-- The network

-- a line of a process, and its parts
abbrev pub process : Version → Part FoldedProcess
process version at =
    followed_by (line process_line at) (λ head at.
    followed_by (many (part event_line version 512) head.parts at) (λ parts at.
    Ok (record { slots = head.slots; script = record { parts = parts } }, at)))

-- a line of a source, and the tree that it announces
abbrev pub source_behind : SourceLine → Part Origin
source_behind of_source.Sweep at = Ok (Sweep, at)
source_behind of_source.Tree at = followed_by (tree at) (λ tree at. Ok (Tree tree, at))

abbrev pub source : Part Origin
source at = followed_by (line source_line at) source_behind

-- as many processes, channels, sources and parts of the schedule as the sizes say
abbrev pub folded : Version → Sizes → Part Folded
folded version sizes at =
    followed_by (many (process version) sizes.processes at) (λ processes at.
    followed_by (many (line channel_line) sizes.channels at) (λ channels at.
    followed_by (many source sizes.sources at) (λ sources at.
    followed_by (many (part entry_line version 512) sizes.parts at) (λ parts at.
    Ok (
      record {
        processes = processes;
        channels = channels;
        sources = sources;
        schedule = record { parts = parts };
      },
      at,
    )))))

-- the version, the sizes, what it keeps, `end`, and nothing behind it
abbrev pub whole_text : Part (Version × Folded)
whole_text at =
    followed_by (line version_line at) (λ version at.
    followed_by (line sizes_line at) (λ sizes at.
    followed_by (folded version sizes at) (λ folded at.
    followed_by (line (just (codes "end")) at) (λ last at.
    followed_by (text_end at) (λ nothing at.
    Ok ((version, folded), at))))))

-- the pair, unless its scripts or its schedule are too long
abbrev pub pair_unless : Option ℕ → Network → Cert → Result (Network × Cert) CertError
pair_unless None network cert = Ok (network, cert)
pair_unless (Some process) network cert = Err (Long process)

-- what stands for what was kept; that it is too long is told only where nothing else is wrong
abbrev pub unfolded : Result (Version × Folded) CertError → Result (Network × Cert) CertError
unfolded (Ok kept) =
    pair_unless (too_long (scripts (network_of kept.1)) (cert_of kept.1).schedule)
    (network_of kept.1) (cert_of kept.1)
unfolded (Err refusal) = Err refusal

-- the network and the certificate of a text, or why it is refused
unfoldable pub reading : List ℕ → Result (Network × Cert) CertError
reading text = unfolded (found (whole_text (record { line = 1; text = text })))
