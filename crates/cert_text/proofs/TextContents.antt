-- What is kept of a text is what its blocks stand for.
--
-- Reading is defined on blocks, and the code keeps lists. Each part of the text is therefore read twice: as blocks,
-- and as the value of a function `keep` of these. `kept_by keep` turns the one reading into the other, and it passes
-- through each way in which parts follow one another: one after the other (`kept_behind`, `behind_kept`) and so many
-- of a kind (`many_kept`). Refusals are the same on both sides, since `keep` looks at what was read alone. So the
-- whole text is read the same, place by place.
use Rattle.std.proofs.Common.{◌≡◌, ℕ, zero, suc, List, ◌∷◌, Result, Ok, Err, codes, map, refl}
use Rattle.std.proofs.Common.{sym, ap, ◌∙◌}
use Rattle.std.proofs.lemmas.Simd.{map-map}
use Rattle.net_core.specs.declared.network.Channel.{Channel}
use Rattle.net_core.specs.declared.network.Event.{Event}
use Rattle.net_core.specs.declared.network.Network.{Network}
use Rattle.net_core.specs.declared.network.Process.{Process}
use Rattle.script_blocks.specs.declared.blocks.BlockPart.{BlockPart}
use Rattle.script_blocks.specs.Expansion.{expansion, parts_expansion}
use Rattle.source_tree.specs.declared.cert.Cert.{Cert}
use Rattle.source_tree.specs.declared.cert.Origin.{Origin}
use Rattle.cert_lines.specs.declared.error.CertError.{CertError}
use Rattle.cert_lines.specs.Reading.{Part, Place, followed_by, found, line, many, text_end}
use Rattle.cert_lines.specs.Words.{just}
use Rattle.cert_text.specs.declared.kept.Kept.{Kept}
use Rattle.cert_text.specs.declared.kept.KeptProcess.{KeptProcess}
use Rattle.cert_text.specs.declared.places.ProcessHead.{ProcessHead}
use Rattle.cert_text.specs.declared.places.Sizes.{Sizes}
use Rattle.cert_text.specs.declared.places.Version.{Version}
use Rattle.cert_text.specs.Folding.{Folded, FoldedProcess, cert_of, network_of, process_of, scripts, too_long}
use Rattle.cert_text.specs.Kept.{cert_of_kept, lists_of, network_of_kept, pair_kept, process_kept, process_of_kept}
use Rattle.cert_text.specs.Kept.{scripts_of, whole_kept}
use Rattle.cert_text.specs.Places.{channel_line, entry_line, event_line, process_line, sizes_line, version_line}
use Rattle.cert_text.specs.Reading.{folded, pair_unless, part, process, reading, source, unfolded, whole_text}

-- a reading of which a function's value is kept
abbrev kept_by : {A B : Type 0} → (A → B) → Result (A × Place) CertError → Result (B × Place) CertError
kept_by keep read = followed_by read (λ x at. Ok (keep x, at))

-- what is kept of what follows
kept_behind : {A B C : Type 0} (read : Result (A × Place) CertError) (f : A → Part B) (g : A → Part C) (keep : B → C)
    → ((x : A) (at : Place) → g x at ≡ kept_by keep (f x at)) → followed_by read g ≡ kept_by keep (followed_by read f)
kept_behind (Ok found) f g keep same = same found.0 found.1
kept_behind (Err refusal) f g keep same = refl

-- what follows what is kept
behind_kept : {A B C : Type 0} (read : Result (A × Place) CertError) (keep : A → B) (g : B → Part C)
    → followed_by (kept_by keep read) g ≡ followed_by read (λ x at. g (keep x) at)
behind_kept (Ok found) keep g = refl
behind_kept (Err refusal) keep g = refl

-- the same of so many parts
module _ {A B : Type 0} (keep : A → B) (p : Part A) (q : Part B)
    (same : (at : Place) → q at ≡ kept_by keep (p at)) where
  more_kept : (x : A) (read : Result (List A × Place) CertError)
      → followed_by (kept_by (map keep) read) (λ values at. Ok (keep x ∷ values, at))
      ≡ kept_by (map keep) (followed_by read (λ values at. Ok (x ∷ values, at)))
  more_kept x (Ok found) = refl
  more_kept x (Err refusal) = refl

  first_kept : (count : ℕ) → ((at : Place) → many q count at ≡ kept_by (map keep) (many p count at))
      → (read : Result (A × Place) CertError)
      → followed_by (kept_by keep read)
      (λ value at. followed_by (many q count at) (λ values at. Ok (value ∷ values, at)))
      ≡ kept_by (map keep)
      (followed_by read (λ value at. followed_by (many p count at) (λ values at. Ok (value ∷ values, at))))
  first_kept count more (Ok found) =
      ap (λ (read : Result (List B × Place) CertError). followed_by read (λ values at. Ok (keep found.0 ∷ values, at)))
      (more found.1)
      ∙ more_kept found.0 (many p count found.1)
  first_kept count more (Err refusal) = refl

  many_kept : (count : ℕ) (at : Place) → many q count at ≡ kept_by (map keep) (many p count at)
  unfolding many
  many_kept zero at = refl
  many_kept (suc count) at =
      ap (λ (read : Result (B × Place) CertError). followed_by read
      (λ value at. followed_by (many q count at) (λ values at. Ok (value ∷ values, at)))) (same at)
      ∙ first_kept count (many_kept count) (p at)

abbrev kept_process : FoldedProcess → KeptProcess
kept_process f = record { slots = f.slots; script = expansion f.script }

abbrev kept : Folded → Kept
kept f = record {
  processes = map kept_process f.processes;
  channels = f.channels;
  sources = f.sources;
  schedule = expansion f.schedule;
}

module _ (version : Version) where
  abbrev with_parts : ProcessHead → List (BlockPart Event) → Part FoldedProcess
  with_parts head parts at = Ok (record { slots = head.slots; script = record { parts = parts } }, at)

  abbrev with_script : ProcessHead → List Event → Part KeptProcess
  with_script head script at = Ok (record { slots = head.slots; script = script }, at)

  abbrev behind_head : ProcessHead → Part FoldedProcess
  behind_head head at = followed_by (many (part event_line version 512) head.parts at) (with_parts head)

  abbrev kept_head : ProcessHead → Part KeptProcess
  kept_head head at = followed_by (lists_of (part event_line version 512) head.parts at) (with_script head)

  head_same : (head : ProcessHead) (at : Place) → kept_head head at ≡ kept_by kept_process (behind_head head at)
  head_same head at =
      behind_kept (many (part event_line version 512) head.parts at) parts_expansion (with_script head)
      ∙ kept_behind (many (part event_line version 512) head.parts at) (with_parts head)
      (λ parts at. with_script head (parts_expansion parts) at) kept_process (λ parts at. refl)

  process_same : (at : Place) → process_kept version at ≡ kept_by kept_process (process version at)
  process_same at = kept_behind (line process_line at) behind_head kept_head kept_process head_same

  abbrev with_schedule : List FoldedProcess → List Channel → List Origin → List (BlockPart ℕ) → Part Folded
  with_schedule processes channels sources parts at =
      Ok (
        record { processes = processes; channels = channels; sources = sources; schedule = record { parts = parts } },
        at,
      )

  abbrev with_list : List FoldedProcess → List Channel → List Origin → List ℕ → Part Kept
  with_list processes channels sources list at =
      Ok (
        record { processes = map kept_process processes; channels = channels; sources = sources; schedule = list },
        at,
      )

  schedule_same : (sizes : Sizes) (processes : List FoldedProcess) (channels : List Channel) (sources : List Origin)
      (at : Place)
      → followed_by (lists_of (part entry_line version 512) sizes.parts at) (with_list processes channels sources)
      ≡ kept_by kept
      (followed_by (many (part entry_line version 512) sizes.parts at) (with_schedule processes channels sources))
  schedule_same sizes processes channels sources at =
      behind_kept (many (part entry_line version 512) sizes.parts at) parts_expansion
      (with_list processes channels sources)
      ∙ kept_behind (many (part entry_line version 512) sizes.parts at) (with_schedule processes channels sources)
      (λ parts at. with_list processes channels sources (parts_expansion parts) at) kept (λ parts at. refl)

  sources_same : (sizes : Sizes) (processes : List FoldedProcess) (channels : List Channel) (at : Place)
      → followed_by (many source sizes.sources at) (λ sources at. followed_by
      (lists_of (part entry_line version 512) sizes.parts at) (with_list processes channels sources))
      ≡ kept_by kept (followed_by (many source sizes.sources at)
      (λ sources at. followed_by (many (part entry_line version 512) sizes.parts at)
      (with_schedule processes channels sources)))
  sources_same sizes processes channels at =
      kept_behind (many source sizes.sources at)
      (λ sources at. followed_by (many (part entry_line version 512) sizes.parts at)
      (with_schedule processes channels sources))
      (λ sources at. followed_by (lists_of (part entry_line version 512) sizes.parts at)
      (with_list processes channels sources)) kept
      (schedule_same sizes processes channels)

  abbrev behind_channels : Sizes → List FoldedProcess → List Channel → Part Folded
  behind_channels sizes processes channels at = followed_by (many source sizes.sources at)
      (λ sources at. followed_by (many (part entry_line version 512) sizes.parts at)
      (with_schedule processes channels sources))

  abbrev kept_channels : Sizes → List FoldedProcess → List Channel → Part Kept
  kept_channels sizes processes channels at = followed_by (many source sizes.sources at)
      (λ sources at. followed_by (lists_of (part entry_line version 512) sizes.parts at)
      (with_list processes channels sources))

  abbrev behind_processes : Sizes → List FoldedProcess → Part Folded
  behind_processes sizes processes at =
      followed_by (many (line channel_line) sizes.channels at) (behind_channels sizes processes)

  abbrev kept_processes : Sizes → List FoldedProcess → Part Kept
  kept_processes sizes processes at =
      followed_by (many (line channel_line) sizes.channels at) (kept_channels sizes processes)

  channels_same : (sizes : Sizes) (processes : List FoldedProcess) (at : Place) → kept_processes sizes processes at
      ≡ kept_by kept (behind_processes sizes processes at)
  channels_same sizes processes at =
      kept_behind (many (line channel_line) sizes.channels at) (behind_channels sizes processes)
      (kept_channels sizes processes) kept
      (sources_same sizes processes)

  -- what follows the processes, by the processes that were kept
  abbrev behind_lists : Sizes → List KeptProcess → Part Kept
  behind_lists sizes processes at =
      followed_by (many (line channel_line) sizes.channels at) (λ channels at.
      followed_by (many source sizes.sources at) (λ sources at.
      followed_by (lists_of (part entry_line version 512) sizes.parts at) (λ schedule at.
      Ok (record { processes = processes; channels = channels; sources = sources; schedule = schedule }, at))))

  pair_same : (sizes : Sizes) (at : Place) → pair_kept version sizes at ≡ kept_by kept (folded version sizes at)
  pair_same sizes at =
      ap (λ (read : Result (List KeptProcess × Place) CertError). followed_by read (behind_lists sizes))
      (many_kept kept_process (process version) (process_kept version) process_same sizes.processes at)
      ∙ behind_kept (many (process version) sizes.processes at) (map kept_process) (behind_lists sizes)
      ∙ kept_behind (many (process version) sizes.processes at) (behind_processes sizes) (kept_processes sizes) kept
      (channels_same sizes)

abbrev behind_end : Version → Folded → Part (Version × Folded)
behind_end version f at = followed_by (line (just (codes "end")) at)
    (λ last at. followed_by (text_end at) (λ nothing at. Ok ((version, f), at)))

abbrev kept_end : Kept → Part Kept
kept_end k at =
    followed_by (line (just (codes "end")) at) (λ last at. followed_by (text_end at) (λ nothing at. Ok (k, at)))

abbrev keep : Version × Folded → Kept
keep read = kept read.1

end_same : (version : Version) (f : Folded) (at : Place) → kept_end (kept f) at ≡ kept_by keep (behind_end version f at)
end_same version f at =
    kept_behind (line (just (codes "end")) at)
    (λ last at. followed_by (text_end at) (λ nothing at. Ok ((version, f), at)))
    (λ last at. followed_by (text_end at) (λ nothing at. Ok (kept f, at))) keep
    (λ last at. kept_behind (text_end at) (λ nothing at. Ok ((version, f), at)) (λ nothing at. Ok (kept f, at)) keep
    (λ nothing at. refl))

sizes_same : (version : Version) (sizes : Sizes) (at : Place)
    → followed_by (pair_kept version sizes at) kept_end
    ≡ kept_by keep (followed_by (folded version sizes at) (behind_end version))
sizes_same version sizes at =
    ap (λ (read : Result (Kept × Place) CertError). followed_by read kept_end) (pair_same version sizes at)
    ∙ behind_kept (folded version sizes at) kept kept_end
    ∙ kept_behind (folded version sizes at) (behind_end version) (λ f at. kept_end (kept f) at) keep (end_same version)

whole_same : (at : Place) → whole_kept at ≡ kept_by keep (whole_text at)
whole_same at =
    kept_behind (line version_line at) (λ version at. followed_by (line sizes_line at)
    (λ sizes at. followed_by (folded version sizes at) (behind_end version)))
    (λ version at. followed_by (line sizes_line at) (λ sizes at. followed_by (pair_kept version sizes at) kept_end))
    keep
    (λ version at. kept_behind (line sizes_line at) (λ sizes at. followed_by (folded version sizes at)
    (behind_end version)) (λ sizes at. followed_by (pair_kept version sizes at) kept_end) keep (sizes_same version))

-- The pair

kept_network : (f : Folded) → network_of_kept (kept f) ≡ network_of f
kept_network f = ap (λ (ps : List Process). record { processes = ps; channels = f.channels })
    (map-map process_of_kept kept_process f.processes)

kept_scripts : (f : Folded) → scripts_of (kept f).processes ≡ scripts (network_of f)
kept_scripts f =
    map-map (λ (p : KeptProcess). p.script) kept_process f.processes
    ∙ sym (map-map (λ (p : Process). p.script) process_of f.processes)

-- what a text comes to, by what was kept of it
abbrev pub pair_of_kept : Result Kept CertError → Result (Network × Cert) CertError
pair_of_kept (Ok k) = pair_unless (too_long (scripts_of k.processes) k.schedule) (network_of_kept k) (cert_of_kept k)
pair_of_kept (Err refusal) = Err refusal

pair_same_of : (read : Result ((Version × Folded) × Place) CertError) → pair_of_kept (found (kept_by keep read))
    ≡ unfolded (found read)
pair_same_of (Ok r) =
    let f = r.0.1 in
    ap (λ (ss : List (List Event)). pair_unless (too_long ss (expansion f.schedule)) (network_of_kept (kept f))
    (cert_of f)) (kept_scripts f)
    ∙ ap (λ (n : Network). pair_unless (too_long (scripts (network_of f)) (expansion f.schedule)) n (cert_of f))
    (kept_network f)
pair_same_of (Err refusal) = refl

pub reading_kept : (text : List ℕ) → reading text ≡ pair_of_kept (found (whole_kept (record { line = 1; text = text })))
unfolding reading
reading_kept text =
    sym (ap (λ (read : Result (Kept × Place) CertError). pair_of_kept (found read))
    (whole_same (record { line = 1; text = text }))
    ∙ pair_same_of (whole_text (record { line = 1; text = text })))
