-- A text is read as the pair that it stands for, and as no other.
--
-- Each part of the text is read back from its spelling, whatever follows it, so the whole is, part by part, and what
-- the blocks stand for is short by what the text stands for. And what was read of a part has just the spelling that
-- was read, within the ranges of the version, so the whole text is that of the blocks that were read. Both are joined
-- of the codecs of the parts (`PartsBack` for scripts and schedule, `tree_text` for trees); that nothing follows `end`
-- makes the text the whole one.
use Rattle.std.proofs.Common.{◌≡◌, ℕ, Option, Some, None, List, [], ◌∷◌, ◌++◌, All, Result, Ok, Err, codes, decimal}
use Rattle.std.proofs.Common.{length, append_assoc, append-nil, false, refl, sym, ap, subst, ◌∙◌, arith}
use Rattle.std.specs.Prelude.{bytes_eq}
use Rattle.std.specs.List.{flat_map}
use Rattle.net_core.specs.declared.network.Event.{Event}
use Rattle.net_core.specs.declared.network.Event.TheVariants.{Get, Fire, Put}
use Rattle.net_core.specs.declared.network.Network.{Network}
use Rattle.source_tree.specs.declared.cert.Cert.{Cert}
use Rattle.source_tree.specs.declared.cert.Origin.{Origin}
use Rattle.source_tree.specs.declared.cert.Origin.TheVariants.{Sweep, Tree}
use Rattle.text_out.specs.Words.{line_text}
use Rattle.cert_lines.specs.declared.error.CertError.{CertError}
use Rattle.cert_lines.specs.Words.{IsInRange, just}
use Rattle.cert_lines.specs.Reading.{Part, Place, followed_by, found, line, many, text_end}
use Rattle.cert_lines.proofs.Codecs.{IsCodec, ReadsTo, followed, line_codec, many_codec, of_value, reads_first}
use Rattle.cert_lines.proofs.Verdicts.{just_spelled}
use Rattle.cert_text.specs.declared.places.Sizes.{Sizes}
use Rattle.cert_text.specs.declared.places.SourceLine.{SourceLine}
use Rattle.cert_text.specs.declared.places.SourceLine.TheVariants as of_source
use Rattle.cert_text.specs.declared.places.Version.{Version}
use Rattle.cert_text.specs.declared.places.Version.TheVariants.{One, Two}
use Rattle.cert_text.specs.CertText.{ChannelIsInRange, EventIsInRange, IsInRangeOf, OriginIsInRange, ProcessIsInRange}
use Rattle.cert_text.specs.CertText.{channel_text, end_text, entry_text, event_text, event_words, folded_text}
use Rattle.cert_text.specs.CertText.{head_text, most_levels, part_text, parts_text, process_head, process_text}
use Rattle.cert_text.specs.CertText.{sizes_text, source_text}
use Rattle.cert_text.specs.Folding.{Folded, FoldedProcess, PartIsInRange, cert_of, network_of}
use Rattle.cert_text.specs.Folding.{scripts, too_long}
use Rattle.cert_text.specs.Places.{channel_line, entry_line, event_line, process_line, sizes_line, source_line}
use Rattle.cert_text.specs.Places.{version_line}
use Rattle.cert_text.specs.Reading.{folded, pair_unless, part, process, reading, source, source_behind, unfolded}
use Rattle.cert_text.specs.Reading.{whole_text}
use Rattle.cert_text.specs.StandsFor.{IsShort, StandsFor}
use Rattle.tree_text.specs.Reading.{tree}
use Rattle.tree_text.specs.TreeText.{tree_text}
use Rattle.tree_text.proofs.ReadBack.{tree_codec}
use Rattle.cert_text.proofs.WordVerdicts.{not_r}
use Rattle.cert_text.proofs.PartsBack.{part_codec}
use Rattle.cert_text.proofs.Shortness.{short_where, short_so}
use Rattle.cert_text.proofs.Spellings.{HeadIsInRange, SizesAreInRange, channel_spelled, channel_words, entry_spelled}
use Rattle.cert_text.proofs.Spellings.{entry_words, event_spelled, head_spelled, head_words, sizes_spelled, sizes_words}
use Rattle.cert_text.proofs.Spellings.{source_spelled, source_words, version_spelled, version_words}

-- The parts of scripts and of the schedule

pub event_no_repeat : (e : Event) → EventIsInRange e → (word : List ℕ) (others : List (List ℕ)) → event_words e ≡ word
    ∷ others → bytes_eq word (codes "r") ≡ false
event_no_repeat (Get channel slot) k word others e = let same : codes "g" ≡ word = cc in rw (← same) refl
event_no_repeat (Fire refs) k word others e = let same : codes "f" ≡ word = cc in rw (← same) refl
event_no_repeat (Put channel) k word others e = let same : codes "p" ≡ word = cc in rw (← same) refl

pub entry_no_repeat : (n : ℕ) → IsInRange n → (word : List ℕ) (others : List (List ℕ)) → entry_words n ≡ word ∷ others
    → bytes_eq word (codes "r") ≡ false
entry_no_repeat n k word others e = let same : decimal n ≡ word = cc in rw (← same) (not_r n k)

event_codec : (version : Version)
    → IsCodec (part event_line version 512) (part_text event_text) (PartIsInRange EventIsInRange (most_levels version))
event_codec version = part_codec event_line event_words EventIsInRange event_spelled event_no_repeat version

entry_codec : (version : Version)
    → IsCodec (part entry_line version 512) (part_text entry_text) (PartIsInRange IsInRange (most_levels version))
entry_codec version = part_codec entry_line entry_words IsInRange entry_spelled entry_no_repeat version

events_codec : (version : Version) (count : ℕ) → IsCodec (many (part event_line version 512) count)
    (parts_text event_text) (λ ps. (length ps ≡ count) × All (PartIsInRange EventIsInRange (most_levels version)) ps)
events_codec version count = many_codec (part event_line version 512) (part_text event_text)
    (PartIsInRange EventIsInRange (most_levels version)) (event_codec version) count

entries_codec : (version : Version) (count : ℕ) → IsCodec (many (part entry_line version 512) count)
    (parts_text entry_text) (λ ps. (length ps ≡ count) × All (PartIsInRange IsInRange (most_levels version)) ps)
entries_codec version count = many_codec (part entry_line version 512) (part_text entry_text)
    (PartIsInRange IsInRange (most_levels version)) (entry_codec version) count

-- The lines

head_codec : IsCodec (line process_line) (λ h. line_text (head_words h)) HeadIsInRange
head_codec = line_codec process_line head_words HeadIsInRange head_spelled

channels_codec : (count : ℕ) → IsCodec (many (line channel_line) count) (flat_map channel_text)
    (λ xs. (length xs ≡ count) × All ChannelIsInRange xs)
channels_codec count = many_codec (line channel_line) channel_text ChannelIsInRange
    (line_codec channel_line channel_words ChannelIsInRange channel_spelled) count

-- a source is a line, and behind `tree` the lines of a tree
source_line_codec : IsCodec (line source_line) (λ l. line_text (source_words l)) (λ l. Unit {0})
source_line_codec = line_codec source_line source_words (λ l. Unit {0}) source_spelled

source_back : (origin : Origin) (n : ℕ) (rest : List ℕ) → OriginIsInRange origin
    → ReadsTo source n (source_text origin ++ rest) origin rest
source_back Sweep n rest k =
    let first = source_line_codec.back of_source.Sweep n rest tt in
    record {
      line = first.line;
      reads = reads_first (line source_line
          (record { line = n; text = line_text (codes "sweep" ∷ []) ++ rest })) source_behind of_source.Sweep
          (record { line = first.line; text = rest })
          (Ok (Sweep, record { line = first.line; text = rest })) first.reads refl;
    }
source_back (Tree t) n rest k =
    let head = line_text (codes "tree" ∷ []) in
    let first = source_line_codec.back of_source.Tree n (tree_text t ++ rest) tt in
    let more = (tree_codec 512).back t first.line rest k in
    let at_tree : Place = record { line = first.line; text = tree_text t ++ rest } in
    let end : Result (Origin × Place) CertError = Ok (Tree t, record { line = more.line; text = rest }) in
    let reads = reads_first (line source_line (record { line = n; text = head ++ (tree_text t ++ rest) })) source_behind
    of_source.Tree at_tree end first.reads
    (reads_first (tree at_tree) (λ t at. Ok (Tree t, at)) t
    (record { line = more.line; text = rest }) end more.reads refl) in
    let Q : List ℕ → Type 0 = λ text. ReadsTo source n text (Tree t) rest in
    subst Q (sym (append_assoc head (tree_text t) rest)) (record { line = more.line; reads = reads })

behind_forth : (l : SourceLine) (at next : Place) (origin : Origin) (all : List ℕ) → all ≡ line_text (source_words l)
    ++ at.text
    → source_behind l at ≡ Ok (origin, next) → (all ≡ source_text origin ++ next.text) × OriginIsInRange origin
behind_forth of_source.Sweep at next origin all text e =
    of_value source_text OriginIsInRange all Sweep origin at next e (text, tt)
behind_forth of_source.Tree at next origin all text e =
    let head = line_text (codes "tree" ∷ []) in
    let one = followed (tree at) (λ t at. Ok (Tree t, at)) origin next e in
    let lines = (tree_codec 512).forth at one.between one.value one.first in
    let whole : all ≡ source_text (Tree one.value) ++ one.between.text =
    text ∙ ap (λ (rest : List ℕ). head ++ rest) lines.0 ∙ sym (append_assoc head (tree_text one.value) one.between.text)
    in
    of_value source_text OriginIsInRange all (Tree one.value) origin one.between next one.second (whole, lines.1)

source_forth : (at next : Place) (origin : Origin) → source at ≡ Ok (origin, next)
    → (at.text ≡ source_text origin ++ next.text) × OriginIsInRange origin
source_forth at next origin e =
    let one = followed (line source_line at) source_behind origin next e in
    let head = source_line_codec.forth at one.between one.value one.first in
    behind_forth one.value one.between next origin at.text head.0 one.second

sources_codec : (count : ℕ)
    → IsCodec (many source count) (flat_map source_text) (λ xs. (length xs ≡ count) × All OriginIsInRange xs)
sources_codec count =
    many_codec source source_text OriginIsInRange (record { back = source_back; forth = source_forth }) count

sizes_codec : IsCodec (line sizes_line) (λ s. line_text (sizes_words s)) SizesAreInRange
sizes_codec = line_codec sizes_line sizes_words SizesAreInRange sizes_spelled

version_codec : IsCodec (line version_line) (λ v. line_text (version_words v)) (λ v. Unit {0})
version_codec = line_codec version_line version_words (λ v. Unit {0}) version_spelled

last_codec : IsCodec (line (just (codes "end"))) (λ (u : Unit). end_text) (λ u. Unit {0})
last_codec = line_codec (just (codes "end")) (λ (u : Unit). codes "end" ∷ []) (λ u. Unit {0})
    (just_spelled (codes "end" ∷ []) (omega arith) refl)

-- Processes

module _ (version : Version) where
  process_back : (p : FoldedProcess) (n : ℕ) (rest : List ℕ) → ProcessIsInRange (most_levels version) p
      → ReadsTo (process version) n (process_text p ++ rest) p rest
  process_back p n rest k =
      let count = length p.script.parts in
      let texts = parts_text event_text p.script.parts in
      let first =
      head_codec.back (record { slots = p.slots; parts = count }) n (texts ++ rest) (k.slots, k.script.count) in
      let more = (events_codec version count).back p.script.parts first.line rest (refl, k.script.parts) in
      let whole : process_text p ++ rest ≡ process_head p ++ (texts ++ rest) = append_assoc (process_head p) texts rest
      in
      let end : Result (FoldedProcess × Place) CertError = Ok (p, record { line = more.line; text = rest }) in
      let reads = reads_first (line process_line (record { line = n; text = process_head p ++ (texts ++ rest) }))
      (λ head at. followed_by (many (part event_line version 512) head.parts at)
      (λ parts at. Ok (record { slots = head.slots; script = record { parts = parts } }, at)))
      (record { slots = p.slots; parts = count }) (record { line = first.line; text = texts ++ rest }) end first.reads
      (reads_first (many (part event_line version 512) count (record { line = first.line; text = texts ++ rest }))
      (λ parts at. Ok (record { slots = p.slots; script = record { parts = parts } }, at)) p.script.parts
      (record { line = more.line; text = rest }) end more.reads refl) in
      subst (λ (text : List ℕ). ReadsTo (process version) n text p rest) (sym whole)
      (record { line = more.line; reads = reads })

  process_forth : (at next : Place) (p : FoldedProcess) → process version at ≡ Ok (p, next)
      → (at.text ≡ process_text p ++ next.text) × ProcessIsInRange (most_levels version) p
  process_forth at next p e =
      let one = followed (line process_line at) _ p next e in
      let two = followed (many (part event_line version 512) one.value.parts one.between) _ p next one.second in
      let head = head_codec.forth at one.between one.value one.first in
      let parts = (events_codec version one.value.parts).forth one.between two.between two.value two.first in
      let made : FoldedProcess = record { slots = one.value.slots; script = record { parts = two.value } } in
      let first : line_text (head_words one.value) ≡ process_head made =
      ap (λ (count : ℕ). line_text (head_words (record { slots = one.value.slots; parts = count }))) (sym parts.1.0)
      in
      let whole : at.text ≡ process_text made ++ two.between.text =
      head.0 ∙ ap (λ (front : List ℕ). front ++ one.between.text) first
      ∙ ap (λ (rest : List ℕ). process_head made ++ rest) parts.0
      ∙ sym (append_assoc (process_head made) (parts_text event_text two.value) two.between.text) in
      of_value process_text (ProcessIsInRange (most_levels version)) at.text made p two.between next two.second
      (whole, record { slots = head.1.0; script = record { count = rw parts.1.0 head.1.1; parts = parts.1.1 } })

  processes_codec : (count : ℕ) → IsCodec (many (process version) count) (flat_map process_text)
      (λ xs. (length xs ≡ count) × All (ProcessIsInRange (most_levels version)) xs)
  processes_codec count = many_codec (process version) process_text (ProcessIsInRange (most_levels version))
      (record { back = process_back; forth = process_forth }) count

-- What is kept

abbrev kept_text : Folded → List ℕ
kept_text f = flat_map process_text f.processes
    ++ (flat_map channel_text f.channels ++ (flat_map source_text f.sources ++ parts_text entry_text f.schedule.parts))

-- its numbers are in range, and its lists as long as the sizes say
record Fits (version : Version) (sizes : Sizes) (f : Folded) : Type 0 where
  process_count : length f.processes ≡ sizes.processes
  channel_count : length f.channels ≡ sizes.channels
  source_count : length f.sources ≡ sizes.sources
  part_count : length f.schedule.parts ≡ sizes.parts
  processes : All (ProcessIsInRange (most_levels version)) f.processes
  channels : All ChannelIsInRange f.channels
  sources : All OriginIsInRange f.sources
  parts : All (PartIsInRange IsInRange (most_levels version)) f.schedule.parts

pub four_parts : (a b c d rest : List ℕ) → (a ++ (b ++ (c ++ d))) ++ rest ≡ a ++ (b ++ (c ++ (d ++ rest)))
four_parts a b c d rest = simp append_assoc

folded_back : (version : Version) (sizes : Sizes) (f : Folded) (n : ℕ) (rest : List ℕ) → Fits version sizes f
    → ReadsTo (folded version sizes) n (kept_text f ++ rest) f rest
folded_back version sizes f n rest k =
    let channels = flat_map channel_text f.channels in
    let sources = flat_map source_text f.sources in
    let parts = parts_text entry_text f.schedule.parts in
    let one = (processes_codec version sizes.processes).back f.processes n (channels ++ (sources ++ (parts ++ rest)))
    (k.process_count, k.processes) in
    let two = (channels_codec sizes.channels).back f.channels one.line (sources ++ (parts ++ rest))
    (k.channel_count, k.channels) in
    let three = (sources_codec sizes.sources).back f.sources two.line (parts ++ rest) (k.source_count, k.sources) in
    let four = (entries_codec version sizes.parts).back f.schedule.parts three.line rest (k.part_count, k.parts) in
    let whole = four_parts (flat_map process_text f.processes) channels sources parts rest in
    record { line = four.line; reads = rw (whole, one.reads, two.reads, three.reads, four.reads) refl }

folded_forth : (version : Version) (sizes : Sizes) (at next : Place) (f : Folded) → folded version sizes at
    ≡ Ok (f, next) → (at.text ≡ kept_text f ++ next.text) × Fits version sizes f
folded_forth version sizes at next f e =
    let one = followed (many (process version) sizes.processes at) _ f next e in
    let two = followed (many (line channel_line) sizes.channels one.between) _ f next one.second in
    let three = followed (many source sizes.sources two.between) _ f next two.second in
    let four = followed (many (part entry_line version 512) sizes.parts three.between) _ f next three.second in
    let processes = (processes_codec version sizes.processes).forth at one.between one.value one.first in
    let channels = (channels_codec sizes.channels).forth one.between two.between two.value two.first in
    let sources = (sources_codec sizes.sources).forth two.between three.between three.value three.first in
    let parts = (entries_codec version sizes.parts).forth three.between four.between four.value four.first in
    let made : Folded = record {
      processes = one.value;
      channels = two.value;
      sources = three.value;
      schedule =
          record { parts = four.value };
    } in
    let behind : two.between.text ≡ flat_map source_text three.value
    ++ (parts_text entry_text four.value ++ four.between.text) = sources.0
    ∙ ap (λ (rest : List ℕ). flat_map source_text three.value ++ rest) parts.0 in
    let whole : at.text ≡ kept_text made ++ four.between.text =
    processes.0 ∙ ap (λ (rest : List ℕ). flat_map process_text one.value ++ rest)
    (channels.0 ∙ ap (λ (rest : List ℕ). flat_map channel_text two.value ++ rest) behind)
    ∙ sym (four_parts (flat_map process_text one.value) (flat_map channel_text two.value)
    (flat_map source_text three.value) (parts_text entry_text four.value) four.between.text) in
    of_value kept_text (Fits version sizes) at.text made f four.between next four.second (
      whole,
      record {
        process_count = processes.1.0;
        channel_count = channels.1.0;
        source_count =
            sources.1.0;
        part_count = parts.1.0;
        processes = processes.1.1;
        channels = channels.1.1;
        sources =
            sources.1.1;
        parts = parts.1.1;
      },
    )

-- The text

abbrev sizes_of : Folded → Sizes
sizes_of f = record {
  processes = length f.processes;
  channels = length f.channels;
  sources = length f.sources;
  parts =
      length f.schedule.parts;
}

same_head : (version : Version) → line_text (version_words version) ≡ head_text version
same_head One = refl
same_head Two = refl

regrouped : (h s a b c d e : List ℕ) → h ++ (s ++ (a ++ (b ++ (c ++ (d ++ e))))) ≡ h
    ++ (s ++ ((a ++ (b ++ (c ++ d))) ++ (e ++ [])))
regrouped h s a b c d e = simp (append_assoc, append-nil)

in_parts : (version : Version) (f : Folded) → folded_text version f ≡ head_text version
    ++ (sizes_text f ++ (kept_text f ++ (end_text ++ [])))
in_parts version f =
    regrouped (head_text version) (sizes_text f) (flat_map process_text f.processes) (flat_map channel_text f.channels)
    (flat_map source_text f.sources) (parts_text entry_text f.schedule.parts) end_text

abbrev behind_end : Version → Folded → Part (Version × Folded)
behind_end version f at = followed_by (text_end at) (λ nothing at. Ok ((version, f), at))

abbrev behind_kept : Version → Folded → Part (Version × Folded)
behind_kept version f at = followed_by (line (just (codes "end")) at) (λ last at. behind_end version f at)

abbrev behind_sizes : Version → Sizes → Part (Version × Folded)
behind_sizes version sizes at = followed_by (folded version sizes at) (λ f at. behind_kept version f at)

abbrev behind_version : Version → Part (Version × Folded)
behind_version version at = followed_by (line sizes_line at) (λ sizes at. behind_sizes version sizes at)

pub whole_back : (version : Version) (f : Folded) → IsInRangeOf version f
    → found (whole_text (record { line = 1; text = folded_text version f })) ≡ Ok (version, f)
whole_back version f k =
    let sizes = sizes_of f in
    let from_kept = kept_text f ++ (end_text ++ []) in
    let from_sizes = sizes_text f ++ from_kept in
    let head = version_codec.back version 1 from_sizes tt in
    let first : line version_line (record { line = 1; text = head_text version ++ from_sizes })
    ≡ Ok (version, record { line = head.line; text = from_sizes }) =
    ap (λ (front : List ℕ). line version_line (record { line = 1; text = front ++ from_sizes }))
    (sym (same_head version)) ∙ head.reads in
    let size = sizes_codec.back sizes head.line from_kept
    (record {
      processes = k.process_count;
      channels = k.channel_count;
      sources = k.source_count;
      parts =
          k.schedule.count;
    }) in
    let kept = folded_back version sizes f size.line (end_text ++ [])
    (record {
      process_count = refl;
      channel_count = refl;
      source_count = refl;
      part_count = refl;
      processes =
          k.processes;
      channels = k.channels;
      sources = k.sources;
      parts = k.schedule.parts;
    }) in
    let last = last_codec.back tt kept.line [] tt in
    let at_sizes : Place = record { line = head.line; text = from_sizes } in
    let at_kept : Place = record { line = size.line; text = from_kept } in
    let at_end : Place = record { line = kept.line; text = end_text ++ [] } in
    let all : Result ((Version × Folded) × Place) CertError = Ok ((version, f), record { line = last.line; text = [] })
    in
    let reads : whole_text (record { line = 1; text = head_text version ++ from_sizes }) ≡ all =
    reads_first (line version_line (record { line = 1; text = head_text version ++ from_sizes })) behind_version version
    at_sizes all first
    (reads_first (line sizes_line at_sizes) (behind_sizes version) sizes at_kept all size.reads
    (reads_first (folded version sizes at_kept) (behind_kept version) f at_end all kept.reads
    (reads_first (line (just (codes "end")) at_end) (λ u. behind_end version f) tt
    (record { line = last.line; text = [] }) all last.reads refl))) in
    ap (λ (text : List ℕ). found (whole_text (record { line = 1; text = text }))) (in_parts version f) ∙ ap found reads

pair_at : (text : List ℕ) (f : Folded) (n : Network) (c : Cert) → n ≡ network_of f → c ≡ cert_of f → IsShort n c
    → pair_unless (too_long (scripts (network_of f)) (cert_of f).schedule) (network_of f) (cert_of f) ≡ Ok (n, c)
pair_at text f n c of_network of_cert short =
    let is_short : too_long (scripts n) c.schedule ≡ None = short_so (scripts n) c.schedule short.events short.entries
    in
    let same : too_long (scripts (network_of f)) (cert_of f).schedule ≡ None = rw (of_network, of_cert) at is_short in
    ap (λ (long : Option ℕ). pair_unless long (network_of f) (cert_of f)) same ∙ both_are of_network of_cert
  where
    both_are : n ≡ network_of f → c ≡ cert_of f
        → ◌≡◌ {A = Result (Network × Cert) CertError} (Ok (network_of f, cert_of f)) (Ok (n, c))
    both_are p q = cc

-- what a text stands for is read from it
pub reads_back : (text : List ℕ) (n : Network) (c : Cert) → StandsFor text n c → reading text ≡ Ok (n, c)
unfolding reading
reads_back text n c k =
    ap (λ (t : List ℕ). unfolded (found (whole_text (record { line = 1; text = t })))) k.is_text
    ∙ ap unfolded (whole_back k.version k.folded k.in_range)
    ∙ pair_at text k.folded n c k.of_network k.of_cert k.short

found_ok : {A : Type 0} (read : Result (A × Place) CertError) (x : A) → found read ≡ Ok x → (next : Place)
    × (read ≡ Ok (x, next))
found_ok (Ok p) x e = let same : p.0 ≡ x = cc in (p.1, ap (λ (y : _). Ok (y, p.1)) same)
found_ok (Err refusal) x e = absurd (cc e)

nothing_left : (n : ℕ) (text : List ℕ) (u : Unit) (next : Place) → text_end (record { line = n; text = text })
    ≡ Ok (u, next) → text ≡ []
nothing_left n [] u next e = refl
nothing_left n (byte ∷ text) u next e = absurd (cc e)

sizes_are : (s : Sizes) (f : Folded) (version : Version) → Fits version s f → s ≡ sizes_of f
sizes_are s f version k = rw (k.process_count, k.channel_count, k.source_count, k.part_count) refl

abbrev pub IsKept : List ℕ → Version × Folded → Type 0
IsKept text kept = (text ≡ folded_text kept.0 kept.1) × IsInRangeOf kept.0 kept.1

pub whole_forth : (text : List ℕ) (kept : Version × Folded) → found (whole_text (record { line = 1; text = text }))
    ≡ Ok kept → IsKept text kept
whole_forth text kept e =
    let start : Place = record { line = 1; text = text } in
    let read = found_ok (whole_text start) kept e in
    let one = followed (line version_line start) _ kept read.0 read.1 in
    let two = followed (line sizes_line one.between) _ kept read.0 one.second in
    let three = followed (folded one.value two.value two.between) _ kept read.0 two.second in
    let four = followed (line (just (codes "end")) three.between) _ kept read.0 three.second in
    let five = followed (text_end four.between) _ kept read.0 four.second in
    let version = version_codec.forth start one.between one.value one.first in
    let size = sizes_codec.forth one.between two.between two.value two.first in
    let all = folded_forth one.value two.value two.between three.between three.value three.first in
    let last = last_codec.forth three.between four.between four.value four.first in
    let none = nothing_left four.between.line four.between.text five.value five.between five.first in
    let pair : ((one.value, three.value), five.between) ≡ (kept, read.0) = let f = five.second in cc f in
    let same : (one.value, three.value) ≡ kept = ap (λ (p : (Version × Folded) × Place). p.0) pair in
    let same_sizes : line_text (sizes_words two.value) ≡ sizes_text three.value =
    ap (λ (s : Sizes). line_text (sizes_words s)) (sizes_are two.value three.value one.value all.1) in
    let ended : three.between.text ≡ end_text ++ [] = last.0 ∙ ap (λ (rest : List ℕ). end_text ++ rest) none in
    let from_kept : two.between.text ≡ kept_text three.value ++ (end_text ++ []) = all.0
    ∙ ap (λ (rest : List ℕ). kept_text three.value ++ rest) ended in
    let from_sizes : one.between.text ≡ sizes_text three.value ++ (kept_text three.value ++ (end_text ++ [])) =
    size.0 ∙ ap (λ (front : List ℕ). front ++ two.between.text) same_sizes
    ∙ ap (λ (rest : List ℕ). sizes_text three.value ++ rest) from_kept in
    let whole : text ≡ folded_text one.value three.value =
    version.0 ∙ ap (λ (front : List ℕ). front ++ one.between.text) (same_head one.value)
    ∙ ap (λ (rest : List ℕ). head_text one.value ++ rest) from_sizes ∙ sym (in_parts one.value three.value) in
    let ranges : IsInRangeOf one.value three.value = record {
      process_count = rw all.1.process_count size.1.processes;
      channel_count = rw all.1.channel_count size.1.channels;
      source_count = rw all.1.source_count size.1.sources;
      processes = all.1.processes;
      channels = all.1.channels;
      sources = all.1.sources;
      schedule = record { count = rw all.1.part_count size.1.parts; parts = all.1.parts };
    } in
    subst (IsKept text) same (whole, ranges)

-- what was kept and isn't too long
kept_pair : (text : List ℕ) (kept : Version × Folded) (long : Option ℕ) (n : Network) (c : Cert) → IsKept text kept
    → too_long (scripts (network_of kept.1)) (cert_of kept.1).schedule ≡ long
    → pair_unless long (network_of kept.1) (cert_of kept.1) ≡ Ok (n, c) → StandsFor text n c
kept_pair text kept None n c k is e =
    let pair : (network_of kept.1, cert_of kept.1) ≡ (n, c) = cc in
    let network : network_of kept.1 ≡ n = ap (λ (p : Network × Cert). p.0) pair in
    let cert : cert_of kept.1 ≡ c = ap (λ (p : Network × Cert). p.1) pair in
    let short = short_where (scripts (network_of kept.1)) (cert_of kept.1).schedule is in
    let both : IsShort (network_of kept.1) (cert_of kept.1) = record { events = short.0; entries = short.1 } in
    record {
      version = kept.0;
      folded = kept.1;
      is_text = k.0;
      in_range = k.1;
      of_network = sym network;
      of_cert = sym cert;
      short = subst (λ (p : Network × Cert). IsShort p.0 p.1) pair both;
    }
kept_pair text kept (Some process) n c k is e = absurd (cc e)

unfolded_pair : (text : List ℕ) (read : Result (Version × Folded) CertError) (n : Network) (c : Cert)
    → ((kept : Version × Folded) → read ≡ Ok kept → IsKept text kept) → unfolded read ≡ Ok (n, c) → StandsFor text n c
unfolded_pair text (Ok kept) n c is e = kept_pair text kept _ n c (is kept refl) refl e
unfolded_pair text (Err refusal) n c is e = absurd (cc e)

-- a text stands for what is read from it
pub stands_for : (text : List ℕ) (n : Network) (c : Cert) → reading text ≡ Ok (n, c) → StandsFor text n c
unfolding reading
stands_for text n c e =
    unfolded_pair text (found (whole_text (record { line = 1; text = text }))) n c (whole_forth text) e
