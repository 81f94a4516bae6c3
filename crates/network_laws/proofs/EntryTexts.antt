-- The text of a certificate with the lines of a full run as its schedule stands for the certificate with that run.
--
-- A text keeps scripts, channels, sources and schedule apart, and just the number of the schedule's parts stands before. So
-- with other entries, one line for each (`entries_text`), it is a text of the same network and sources, where each entry is
-- in its range and there are not too many. That is so of a run that ends all: each of its entries is a process, and it has
-- as many as the scripts have events. Nothing is said of a run that doesn't end all.
use Rattle.std.proofs.Common.{◌≡◌, ℕ, ◌<◌, List, [], ◌∷◌, ◌++◌, map, length, refl, sym, ap, subst, ◌∙◌}
use Rattle.std.proofs.Common.{Option, Some, None, true, arith}
use Rattle.std.specs.Prelude.{All}
use Rattle.std.specs.List.{flat_map}
use Rattle.std.proofs.lemmas.List.Elements.{All-cons, All-head, All-nil, All-tail}
use Rattle.script_blocks.specs.declared.blocks.Blocks.{Blocks}
use Rattle.script_blocks.specs.declared.blocks.BlockPart.TheVariants.{Item}
use Rattle.script_blocks.specs.Expansion.{expansion, part_expansion}
use Rattle.script_blocks.proofs.Expansions.{expansion_item}
use Rattle.net_core.specs.declared.network.Network.{Network}
use Rattle.net_core.specs.declared.network.Event.{Event}
use Rattle.net_core.specs.Machine.{Net, Rule, State, can_come, net_of, next, start, step, IsRun}
use Rattle.net_core.specs.Shape.{FitsNumbers, IsWired}
use Rattle.net_core.proofs.EveryOrder.{ends_always}
use Rattle.net_core.proofs.Ready.{process_there}
use Rattle.net_core.specs.Rules.{tags}
use Rattle.net_checker.specs.Fits.{Fits}
use Rattle.sanlp.specs.declared.nest.Nest.{Nest}
use Rattle.source_tree.specs.declared.cert.Cert.{Cert}
use Rattle.source_tree.specs.declared.cert.Origin.{Origin}
use Rattle.trace_text.specs.TraceText.{entry_line}
use Rattle.cert_lines.specs.Words.{IsInRange}
use Rattle.cert_text.specs.CertText.{entry_text, parts_text}
use Rattle.cert_text.specs.CertText.{folded_text, head_text, most_levels}
use Rattle.cert_text.specs.Folding.{BlocksAreInRange, Folded, PartIsInRange}
use Rattle.cert_text.specs.StandsFor.{IsShort, StandsFor}
use Rattle.cert_text.proofs.Lengths.{all_events, few_events}
use Rattle.cert_text.proofs.Proper.{item_in_range}
use Rattle.cert_text.proofs.Texts.{text_item}
use Rattle.network_laws.specs.Entries.{text_with_run, text_with_lines}

-- a part for each entry
abbrev entry_blocks : List ℕ → Blocks ℕ
entry_blocks entries = record { parts = map Item entries }

-- the same blocks but for the schedule, which has a part for each of these entries
abbrev with_entries : Folded → List ℕ → Folded
with_entries folded entries = record folded { schedule = entry_blocks entries }

-- what the parts stand for
expansion-entry_blocks : (entries : List ℕ) → expansion (entry_blocks entries) ≡ entries
expansion-entry_blocks [] = refl
expansion-entry_blocks (entry ∷ entries) =
    ap (λ (l : List ℕ). l ++ flat_map part_expansion (map Item entries)) (expansion_item entry)
    ∙ ap (λ (l : List ℕ). entry ∷ l) (expansion-entry_blocks entries)

-- and their lines
parts_text-entry_blocks : (entries : List ℕ)
    → parts_text entry_text (entry_blocks entries).parts ≡ flat_map entry_line entries
parts_text-entry_blocks [] = refl
parts_text-entry_blocks (entry ∷ entries) =
    ap (λ (l : List ℕ). l ++ parts_text entry_text (map Item entries)) (text_item entry_text entry)
    ∙ ap (λ (l : List ℕ). entry_line entry ++ l) (parts_text-entry_blocks entries)

items_in_range : (levels : ℕ) (entries : List ℕ) → All IsInRange entries
    → All (PartIsInRange IsInRange levels) (map Item entries)
items_in_range levels [] each = All-nil (PartIsInRange IsInRange levels)
items_in_range levels (entry ∷ entries) each =
    All-cons (PartIsInRange IsInRange levels) (Item entry) (map Item entries)
    (item_in_range IsInRange levels entry (All-head IsInRange entry entries each))
    (items_in_range levels entries (All-tail IsInRange entry entries each))

length-items : (entries : List ℕ) → length (entry_blocks entries).parts ≡ length entries
length-items [] = refl
length-items (entry ∷ entries) = omega (arith, length-items entries)

-- each entry of a run is a process
entries_there : {T : Type 0} (net : Net) (rule : Rule T) → IsWired net → (s : State T) (run : List ℕ) → IsRun net rule s run
    → All (λ p. p < net.processes) run
entries_there net rule wired s [] goes = All-nil (λ p. p < net.processes)
entries_there net rule wired s (p ∷ run) goes =
    All-cons (λ q. q < net.processes) p run (there (next net s p) refl goes.0)
    (entries_there net rule wired (step net rule s p) run goes.1)
  where
    there : (o : Option Event) → next net s p ≡ o → can_come net s o ≡ true → p < net.processes
    there None is on = cc
    there (Some e) is on = process_there net wired p (s.local p).position e is

module _ (n : Nest) (network : Network) (cert : Cert) (text : List ℕ) (run : List ℕ)
    (stands : StandsFor text network cert) (fits : Fits n network (record { sources = cert.sources; schedule = run }))
  where
    abbrev other : Cert
    other = record { sources = cert.sources; schedule = run }

    same_sources : cert.sources ≡ stands.folded.sources
    same_sources = ap (λ (x : Cert). x.sources) stands.of_cert

    numbers : FitsNumbers (net_of network)
    numbers = few_events text network cert stands

    entries : All IsInRange run
    entries i d lt =
        let there =
        entries_there (net_of network) tags fits.shape.shaped.wired (start (net_of network)) run fits.ends.0 i d lt in
        omega (arith, there, numbers.processes)

    short : IsShort network other
    short = record {
      events = stands.short.events;
      entries =
          omega (
            arith,
            (ends_always (net_of network) tags fits.shape.shaped.wired run fits.ends.0 fits.ends.1).events run fits.ends,
            all_events network,
            stands.short.events,
          );
    }

    run_in_range : BlocksAreInRange IsInRange (most_levels stands.version) (entry_blocks run)
    run_in_range = record {
      count = omega (arith, length-items run, short.entries);
      parts = items_in_range (most_levels stands.version) run entries;
    }

    stands_folded : StandsFor (folded_text stands.version (with_entries stands.folded run)) network other
    stands_folded = record {
      version = stands.version;
      folded = with_entries stands.folded run;
      is_text = refl;
      in_range = record {
        process_count = stands.in_range.process_count;
        channel_count = stands.in_range.channel_count;
        source_count = stands.in_range.source_count;
        processes = stands.in_range.processes;
        channels = stands.in_range.channels;
        sources = stands.in_range.sources;
        schedule = run_in_range;
      };
      of_network = stands.of_network;
      of_cert =
          ap (λ (s : List Origin). let c : Cert = record { sources = s; schedule = run } in c) same_sources
          ∙ ap (λ (r : List ℕ). let c : Cert = record { sources = stands.folded.sources; schedule = r } in c)
          (sym (expansion-entry_blocks run));
      short = short;
    }

    -- which has these lines
    entries_text : folded_text stands.version (with_entries stands.folded run) ≡ text_with_run stands run
    entries_text =
        ap (λ (m : ℕ). head_text stands.version
        ++ text_with_lines stands.folded m (parts_text entry_text (entry_blocks run).parts)) (length-items run)
        ∙ ap (λ (lines : List ℕ). head_text stands.version ++ text_with_lines stands.folded (length run) lines)
        (parts_text-entry_blocks run)

    pub stands_with_run : StandsFor (text_with_run stands run) network other
    stands_with_run = subst (λ (bytes : List ℕ). StandsFor bytes network other) entries_text stands_folded
