-- What is written of a pair stands for it, where the pair has a text.
--
-- What is written has blocks for each script, of which it is known alone that they are proper, nest little and stand for
-- the script. Items in range make blocks in range: a count and a number of parts are at most as large as
-- the list that the blocks stand for (`Proper`), which is short. The schedule's blocks are its greatest stretches, of
-- which the same holds (`Stretching`).
use Rattle.std.proofs.Common.{◌≡◌, ℕ, ◌≤◌, List, [], ◌∷◌, All, length, map, refl, sym, ap, ◌∙◌, subst, arith}
use Rattle.std.specs.List.{AllZip, sum_by}
use Rattle.std.proofs.lemmas.List.Elements.{All-nil, All-cons, All-head, All-tail}
use Rattle.std.proofs.lemmas.List.Sums.{sum_by-cons}
use Rattle.std.proofs.lemmas.Slice.Zip.{AllZip-long}
use Rattle.net_core.specs.declared.network.Event.{Event}
use Rattle.net_core.specs.declared.network.Network.{Network}
use Rattle.net_core.specs.declared.network.Process.{Process}
use Rattle.script_blocks.specs.Expansion.{expansion}
use Rattle.source_tree.specs.declared.cert.Cert.{Cert}
use Rattle.cert_lines.specs.Words.{IsInRange}
use Rattle.cert_text.specs.CertText.{EventIsInRange, ProcessIsInRange}
use Rattle.cert_text.specs.Folding.{Folded, FoldedProcess, most_events, process_of}
use Rattle.cert_text.specs.StandsFor.{HasText, IsFoldedOf, IsWrittenOf, StandsFor}
use Rattle.cert_text.specs.Stretches.{stretch_blocks}
use Rattle.cert_text.specs.declared.places.Version.TheVariants.{Two}
use Rattle.cert_text.proofs.Proper.{blocks_in_range}
use Rattle.cert_text.proofs.StretchLists.{stretched, stretched_proper, stretched_shallow}

abbrev SlotsAreInRange : Process → Type 0
SlotsAreInRange p = IsInRange p.slots

abbrev EventsAreInRange : Process → Type 0
EventsAreInRange p = All EventIsInRange p.script

abbrev scripts_in : List Process → List (List Event)
scripts_in ps = map (λ (p : Process). p.script) ps

-- the processes for which these blocks stand
processes_stand : (ps : List Process) (fs : List FoldedProcess) → AllZip IsFoldedOf ps fs → map process_of fs ≡ ps
processes_stand [] [] all = refl
processes_stand [] (f ∷ fs) all = absurd all
processes_stand (p ∷ ps) [] all = absurd all
processes_stand (p ∷ ps) (f ∷ fs) all =
    ap (λ (q : Process). q ∷ map process_of fs) all.0.stands
    ∙ ap (λ (qs : List Process). p ∷ qs) (processes_stand ps fs all.1)

processes_in_range : (ps : List Process) (fs : List FoldedProcess) → AllZip IsFoldedOf ps fs → All SlotsAreInRange ps
    → All EventsAreInRange ps → sum_by length (scripts_in ps) ≤ most_events
    → All (ProcessIsInRange 512) fs
processes_in_range [] [] all slots events short = All-nil (ProcessIsInRange 512)
processes_in_range [] (f ∷ fs) all slots events short = absurd all
processes_in_range (p ∷ ps) [] all slots events short = absurd all
processes_in_range (p ∷ ps) (f ∷ fs) all slots events short =
    let sum = sum_by-cons (length {A = Event}) p.script (scripts_in ps) in
    let same : length (expansion f.script) ≡ length p.script =
    ap (λ (q : Process). length q.script) all.0.stands in
    let here : ProcessIsInRange 512 f = record {
      slots = subst SlotsAreInRange (sym all.0.stands) (All-head SlotsAreInRange p ps slots);
      script = blocks_in_range EventIsInRange 512 f.script all.0.proper all.0.shallow
          (subst EventsAreInRange (sym all.0.stands) (All-head EventsAreInRange p ps events))
          (omega (arith, sum, same, short));
    } in
    All-cons (ProcessIsInRange 512) f fs here
    (processes_in_range ps fs all.1 (All-tail SlotsAreInRange p ps slots) (All-tail EventsAreInRange p ps events)
    (omega (arith, sum, short)))

pub written_stands : (text : List ℕ) (n : Network) (c : Cert) → IsWrittenOf text n c → HasText n c → StandsFor text n c
written_stands text n c w h =
    let f : Folded = record {
      processes = w.processes;
      channels = n.channels;
      sources = c.sources;
      schedule = stretch_blocks c.schedule;
    } in
    let count : length f.processes ≡ length n.processes = AllZip-long IsFoldedOf n.processes f.processes w.are_folded in
    let list : expansion f.schedule ≡ c.schedule = stretched c.schedule in
    let entries : All IsInRange (expansion f.schedule) = subst (All IsInRange) (sym list) h.schedule in
    record {
      version = Two;
      folded = f;
      is_text = w.is_text;
      in_range = record {
        process_count = omega (arith, count, h.process_count);
        channel_count = h.channel_count;
        source_count = h.source_count;
        processes = processes_in_range n.processes f.processes w.are_folded h.slots h.events h.short.events;
        channels = h.channels;
        sources = h.sources;
        schedule = blocks_in_range IsInRange 512 f.schedule (stretched_proper c.schedule)
            (omega (arith, stretched_shallow c.schedule)) entries (omega (arith, ap length list, h.short.entries));
      };
      of_network =
          sym (ap (λ (ps : List Process). record { processes = ps; channels = n.channels })
          (processes_stand n.processes f.processes w.are_folded));
      of_cert = sym (ap (λ (es : List ℕ). record { sources = c.sources; schedule = es }) list);
      short = h.short;
    }
