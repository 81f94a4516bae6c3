-- A network and a certificate that fit a nest have a text, where the network's numbers and events are few, its
-- capacities small, and the certificate's trees in range.
--
-- A number in the text is mostly that of something which is there: the channel and the slot of an event, the process
-- of an entry, the read of a channel. That these are there is what the network's fitting the nest and being wired say,
-- and how many there are of each is below 2^32; a process has no more slots than Gets. The schedule is a run, so each
-- of its entries is of an enabled process (`entries_in_range`, by induction on the run), and it has as many entries as
-- the scripts have events. Small capacities and trees in range don't follow from the fit, so they are premises.
use Rattle.std.proofs.Common.{◌≡◌, ℕ, ◌<◌, ◌≤◌, ◌^◌, true, Option, Some, None, List, [], ◌∷◌, length, slice_get, get_or}
use Rattle.std.proofs.Common.{refl, ap, ◌∙◌, subst, arith, take_all}
use Rattle.std.specs.Prelude.{All}
use Rattle.std.specs.List.{sum_by}
use Rattle.std.specs.Option.{option_map_or}
use Rattle.std.proofs.lemmas.List.Elements.{All-cons, All-nil}
use Rattle.std.proofs.lemmas.List.Sums.{count_by-le-length}
use Rattle.std.proofs.lemmas.Option.{slice_get-get_or, slice_get_within}
use Rattle.cert_lines.specs.Words.{IsInRange}
use Rattle.cert_text.specs.CertText.{ChannelIsInRange, EventIsInRange, OriginIsInRange, RefIsInRange}
use Rattle.cert_text.specs.Folding.{most_events}
use Rattle.cert_text.specs.StandsFor.{HasText}
use Rattle.cert_text.proofs.Lengths.{all_events}
use Rattle.channel_plan.proofs.Nests.{few_before}
use Rattle.sanlp.proofs.NestFacts.{few_read_count}
use Rattle.net_checker.specs.Fits.{Fits}
use Rattle.net_checker.specs.Shapes.{read_total}
use Rattle.net_core.proofs.EveryOrder.{ends_always}
use Rattle.net_core.proofs.Ready.{process_there, script_short}
use Rattle.net_core.specs.declared.network.Channel.{Channel}
use Rattle.net_core.specs.declared.network.Event.{Event}
use Rattle.net_core.specs.declared.network.Event.TheVariants.{Get, Fire, Put}
use Rattle.net_core.specs.declared.network.Network.{Network}
use Rattle.net_core.specs.declared.network.Process.{Process}
use Rattle.net_core.specs.declared.refs.Ref.{Ref}
use Rattle.net_core.specs.declared.refs.Ref.TheVariants.{Zero, Slot}
use Rattle.net_core.specs.Machine.{Net, Rule, State, can_come, net_of, next, step, IsRun}
use Rattle.net_core.specs.Rules.{tags}
use Rattle.net_core.specs.Shape.{FitsNumbers, IsWired, IsWithin, events_below, is_any_get}
use Rattle.sanlp.specs.declared.nest.Nest.{Nest}
use Rattle.source_tree.specs.declared.cert.Cert.{Cert}

-- what holds of each element that is found holds of all
pub all_found : {X : Type 0} (P : X → Type 0) (xs : List X) → ((k : ℕ) (x : X) → slice_get xs k ≡ Some x → P x) → All P xs
all_found P xs each k d lt = each k (get_or xs k d) (slice_get-get_or xs k d lt)

-- the reads of all statements are few
few_read_total : (n : Nest) → read_total n ≤ 512
few_read_total n =
    subst (λ statements. sum_by (λ s. length s.reads) statements ≤ 512)
    (take_all (length n.statements) n.statements (omega arith)) (few_before n (length n.statements))

ref_in_range : (slots : ℕ) (r : Ref) → slots < 2 ^ 32 → IsWithin slots r → RefIsInRange r
ref_in_range slots Zero few within = tt
ref_in_range slots (Slot k) few within = omega (arith, few, within)

-- a process that may go on is there
enabled_there : {T : Type 0} (net : Net) → IsWired net → (s : State T) (p : ℕ) (o : Option Event) → next net s p ≡ o
    → can_come net s o ≡ true → p < net.processes
enabled_there net wired s p None is m = cc
enabled_there net wired s p (Some e) is m = process_there net wired p (s.local p).position e is

entries_in_range : {T : Type 0} (net : Net) (rule : Rule T) → IsWired net → FitsNumbers net
    → (s : State T) (run : List ℕ) → IsRun net rule s run → All IsInRange run
entries_in_range net rule wired few s [] goes = All-nil IsInRange
entries_in_range net rule wired few s (p ∷ run) goes =
    All-cons IsInRange p run (omega (arith, enabled_there net wired s p (next net s p) refl goes.0, few.processes))
    (entries_in_range net rule wired few (step net rule s p) run goes.1)

module _ (n : Nest) (network : Network) (cert : Cert) (fits : Fits n network cert)
    (few : FitsNumbers (net_of network)) where
  wired : IsWired (net_of network)
  wired = fits.shape.shaped.wired

  short : (p : ℕ) → length ((net_of network).script p) < 2 ^ 32
  short p = script_short (net_of network) wired few p

  few_slots : (p : ℕ) → (net_of network).slots p < 2 ^ 32
  few_slots p =
      omega (arith, fits.shape.shaped.few_slots p, count_by-le-length is_any_get ((net_of network).script p), short p)

  event_in_range : (p k : ℕ) (e : Event) → slice_get ((net_of network).script p) k ≡ Some e → EventIsInRange e
  event_in_range p k (Get c slot) is = (
    omega (arith, wired.get_channel p k c slot is, few.channels),
    omega (arith, wired.get_slot p k c slot is, few_slots p),
  )
  event_in_range p k (Fire refs) is = (
    omega (arith, fits.shape.references p k refs is, few_read_count n p),
    λ i d lt. ref_in_range ((net_of network).slots p) (get_or refs i d) (few_slots p)
        (wired.reference_slots p k refs is i d lt),
  )
  event_in_range p k (Put c) is = omega (arith, wired.put_channel p k c is, few.channels)

  slots_in_range : (p : ℕ) (process : Process) → slice_get network.processes p ≡ Some process → IsInRange process.slots
  slots_in_range p process there =
      let slots : (net_of network).slots p ≡ process.slots =
      ap (λ (o : Option Process). option_map_or (λ process. process.slots) o 0) there in
      omega (arith, slots, few_slots p)

  events_in_range : (p : ℕ) (process : Process) → slice_get network.processes p ≡ Some process
      → All EventIsInRange process.script
  events_in_range p process there =
      let script : (net_of network).script p ≡ process.script =
      ap (λ (o : Option Process). option_map_or (λ process. process.script) o []) there in
      all_found EventIsInRange process.script
      (λ k e is. event_in_range p k e (ap (λ es. slice_get es k) script ∙ is))

  channel_in_range : ((c : ℕ) → (net_of network).capacity c < 2 ^ 32) → (c : ℕ) (channel : Channel)
      → slice_get network.channels c ≡ Some channel → ChannelIsInRange channel
  channel_in_range small c channel there =
      let within : c < (net_of network).channels = slice_get_within network.channels c channel there in
      let writer : (net_of network).writer c ≡ channel.writer =
      ap (λ (o : Option Channel). option_map_or (λ channel. channel.writer) o 0) there in
      let reader : (net_of network).reader c ≡ channel.reader =
      ap (λ (o : Option Channel). option_map_or (λ channel. channel.reader) o 0) there in
      let capacity : (net_of network).capacity c ≡ channel.capacity =
      ap (λ (o : Option Channel). option_map_or (λ channel. channel.capacity) o 0) there in
      record {
        writer = omega (arith, writer, wired.writers c within, few.processes);
        reader = omega (arith, reader, wired.readers c within, few.processes);
        read = omega (arith, fits.shape.reads c channel there, few_read_count n channel.reader);
        capacity = omega (arith, capacity, small c);
      }

  pub has_text : ((c : ℕ) → (net_of network).capacity c < 2 ^ 32) → All OriginIsInRange cert.sources
      → events_below (net_of network) (net_of network).processes ≤ most_events → HasText network cert
  has_text small sources short = record {
    process_count = omega (arith, few.processes);
    channel_count = omega (arith, few.channels);
    source_count = omega (arith, fits.sources, few_read_total n);
    slots = all_found (λ (process : Process). IsInRange process.slots) network.processes slots_in_range;
    events = all_found (λ (process : Process). All EventIsInRange process.script) network.processes events_in_range;
    channels = all_found ChannelIsInRange network.channels (channel_in_range small);
    sources = sources;
    schedule = entries_in_range (net_of network) tags wired few _ cert.schedule fits.ends.0;
    short = record {
      events = omega (arith, all_events network, short);
      entries =
          omega (
            arith,
            (ends_always (net_of network) tags wired cert.schedule fits.ends.0 fits.ends.1).events
                cert.schedule fits.ends,
            short,
          );
    };
  }
