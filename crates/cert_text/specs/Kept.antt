-- What the reading keeps of a text: lists in place of the blocks that stand for them.
use Rattle.std.specs.Prelude.{◌≡◌, ◌≢◌, ◌++◌, ℕ, List, Ok, Err, Result, codes, map}
use Rattle.net_core.specs.declared.network.Event.{Event}
use Rattle.net_core.specs.declared.network.Network.{Network}
use Rattle.net_core.specs.declared.network.Process.{Process}
use Rattle.script_blocks.specs.declared.blocks.BlockPart.{BlockPart}
use Rattle.script_blocks.specs.Expansion.{part_expansion, parts_expansion}
use Rattle.source_tree.specs.declared.cert.Cert.{Cert}
use Rattle.cert_lines.specs.declared.error.CertError.{CertError}
use Rattle.cert_lines.specs.declared.error.CertError.TheVariants.{Memory}
use Rattle.cert_lines.specs.Reading.{Part, Place, followed_by, line, many, text_end}
use Rattle.cert_lines.specs.Words.{just}
use Rattle.cert_text.specs.declared.kept.Kept.{Kept}
use Rattle.cert_text.specs.declared.kept.KeptProcess.{KeptProcess}
use Rattle.cert_text.specs.declared.places.Sizes.{Sizes}
use Rattle.cert_text.specs.declared.places.Version.{Version}
use Rattle.cert_text.specs.Places.{channel_line, entry_line, event_line, process_line, sizes_line, version_line}
use Rattle.cert_text.specs.Reading.{part, source}

-- Each part as its reading is defined, with lists for blocks

-- the list that so many parts stand for
abbrev pub lists_of : {T : Type 0} → Part (BlockPart T) → ℕ → Part (List T)
lists_of part count at =
    followed_by (many part count at) (λ parts at. Ok (parts_expansion parts, at))

-- the answer of what reads a part to the end of a list
abbrev pub AddsPart : {T : Type 0} → Result Unit CertError → List T → List T → Place
    → Result (BlockPart T × Place) CertError → Type 0
AddsPart (Ok done) old new at read =
    followed_by read (λ part at. Ok (old ++ part_expansion part, at)) ≡ Ok (new, at)
AddsPart (Err refusal) old new at read = refusal ≢ Memory → read ≡ Err refusal

abbrev pub process_kept : Version → Part KeptProcess
process_kept version at =
    followed_by (line process_line at) (λ head at.
    followed_by (lists_of (part event_line version 512) head.parts at) (λ script at.
    Ok (record { slots = head.slots; script = script }, at)))

abbrev pub pair_kept : Version → Sizes → Part Kept
pair_kept version sizes at =
    followed_by (many (process_kept version) sizes.processes at) (λ processes at.
    followed_by (many (line channel_line) sizes.channels at) (λ channels at.
    followed_by (many source sizes.sources at) (λ sources at.
    followed_by (lists_of (part entry_line version 512) sizes.parts at) (λ schedule at.
    Ok (
      record {
        processes = processes;
        channels = channels;
        sources = sources;
        schedule = schedule;
      },
      at,
    )))))

abbrev pub whole_kept : Part Kept
whole_kept at =
    followed_by (line version_line at) (λ version at.
    followed_by (line sizes_line at) (λ sizes at.
    followed_by (pair_kept version sizes at) (λ kept at.
    followed_by (line (just (codes "end")) at) (λ last at.
    followed_by (text_end at) (λ nothing at.
    Ok (kept, at))))))

-- the pair that was kept

abbrev pub process_of_kept : KeptProcess → Process
process_of_kept process = record { slots = process.slots; script = process.script }

abbrev pub network_of_kept : Kept → Network
network_of_kept kept =
    record { processes = map process_of_kept kept.processes; channels = kept.channels }

abbrev pub cert_of_kept : Kept → Cert
cert_of_kept kept = record { sources = kept.sources; schedule = kept.schedule }

abbrev pub scripts_of : List KeptProcess → List (List Event)
scripts_of processes = map (λ process. process.script) processes
