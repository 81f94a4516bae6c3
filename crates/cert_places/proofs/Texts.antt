-- A text is read by its lines, as some text is that may nest deeper.
--
-- Its parts are, one behind the other, and behind each a part can stand that needs the fewest lines: a process without a
-- script, `sweep`, no schedule, and `end`. What may nest to some levels may also nest to more, so all texts here nest to
-- the same levels, at least 514: a line that is too deep can still be followed by what it announces.
use Rattle.std.proofs.Common.{◌≡◌, inl, inr, ℕ, zero, suc, ◌+◌, ◌≤◌, ◌==◌, Bool, true, false, if◌then◌else◌, List, []}
use Rattle.std.proofs.Common.{◌∷◌, ◌++◌, All, Ok, codes, decimal, length, append-nil, refl, sym, ap, subst, ◌∙◌, arith}
use Rattle.std.specs.List.{flat_map}
use Rattle.std.proofs.lemmas.List.Elements.{All-nil, All-weaker}
use Rattle.channel_class.specs.declared.UseOrder.TheVariants.{InOrder}
use Rattle.int_polyhedra.specs.declared.system.Proof.{Proof, out-Proof}
use Rattle.int_polyhedra.specs.declared.system.Proof.TheOpen as proof_layer
use Rattle.net_core.specs.declared.network.Channel.{Channel}
use Rattle.net_core.specs.declared.network.Event.TheVariants.{Put}
use Rattle.script_blocks.specs.declared.blocks.Blocks.{Blocks}
use Rattle.script_blocks.specs.declared.blocks.BlockPart.{BlockPart, out-BlockPart}
use Rattle.script_blocks.specs.declared.blocks.BlockPart.TheOpen as layer
use Rattle.source_tree.specs.declared.cert.Origin.{Origin}
use Rattle.source_tree.specs.declared.cert.Origin.TheVariants as of_origin
use Rattle.source_tree.specs.declared.tree.Tree.{Tree, out-Tree}
use Rattle.source_tree.specs.declared.tree.Tree.TheOpen as tree_layer
use Rattle.text_out.specs.Words.{line_text}
use Rattle.cert_lines.specs.Words.{IsInRange, just, words_of}
use Rattle.cert_lines.specs.Reading.{Part, Place, followed_by, line, many}
use Rattle.cert_lines.proofs.Verdicts.{just_spelled}
use Rattle.tree_text.specs.TreeText.{ProofIsInRange, ProofStepIsInRange}
use Rattle.cert_text.specs.CertText.{ChannelIsInRange, EventIsInRange, ProcessIsInRange, channel_text, end_text}
use Rattle.cert_text.specs.CertText.{entry_text, event_text, event_words, folded_text, head_text, most_levels}
use Rattle.cert_text.specs.CertText.{parts_text, process_text, sizes_text, source_text}
use Rattle.cert_text.specs.Folding.{Folded, FoldedProcess, LayerIsInRange, PartIsInRange}
use Rattle.cert_text.specs.Places.{channel_line, entry_line, event_line, process_line, sizes_line, source_line}
use Rattle.cert_text.specs.Places.{version_line}
use Rattle.cert_text.specs.Reading.{folded, part, process, source, source_behind, whole_text}
use Rattle.cert_text.proofs.Spellings.{HeadIsInRange, SizesAreInRange, channel_spelled, channel_words, entry_spelled}
use Rattle.cert_text.proofs.Spellings.{entry_words, event_spelled, head_spelled, head_words, sizes_spelled, sizes_words}
use Rattle.cert_text.proofs.Spellings.{source_spelled, source_words, version_spelled, version_words}
use Rattle.cert_text.proofs.ReadBack.{event_no_repeat, entry_no_repeat, four_parts}
use Rattle.cert_places.specs.Depths.{NestsTo, NodeNestsTo, OriginNestsTo, TreeNestsTo, folded_depths, parts_depths}
use Rattle.cert_places.specs.Depths.{process_depths, repeat_levels, source_depths}
use Rattle.cert_places.specs.Places.{IsText}
use Rattle.cert_places.proofs.Blocks.{PartShape, parts_read}
use Rattle.cert_places.proofs.LineTypes.{IsVersion, ProcessHead, Sizes, SourceLine, Version, second_version}
use Rattle.cert_places.proofs.LineTypes.{source_said, sweep_line, tree_source_line, which_version}
use Rattle.cert_places.proofs.Patterns.{milds_channel, milds_end, milds_entry, milds_event, milds_process, milds_sizes}
use Rattle.cert_places.proofs.Patterns.{milds_source, no_range}
use Rattle.cert_places.proofs.Shapes.{Any, Apart, Fate, Last, LineShape, Many, Nil, Outcome, Reads, Shape, Step, Two}
use Rattle.cert_places.proofs.Shapes.{end_part, reads_alone, reads_end, reads_made, reads_many, reads_only}
use Rattle.cert_places.proofs.Shapes.{reads_spelled, reads_two, reads_value, spelled_answers, spelled_fate, within}
use Rattle.cert_places.proofs.Trees.{TreeShape, tree_reads}

-- More levels

proof_layer_more : (P Q : Proof → Type 0) → ((p : Proof) → P p → Q p) → (y : proof_layer.Proof-F Proof)
    → ProofStepIsInRange P y → ProofStepIsInRange Q y
proof_layer_more P Q k (proof_layer.Sum terms) r = r
proof_layer_more P Q k (proof_layer.Cut divisor terms p) r = (r.0, r.1, k p r.2)
proof_layer_more P Q k (proof_layer.Split form a b) r = (r.0, k a r.1, k b r.2)

proof_more : (n m : ℕ) → n ≤ m → (p : Proof) → ProofIsInRange n p → ProofIsInRange m p
unfolding ProofIsInRange
proof_more zero m more p r = absurd r
proof_more (suc n) zero more p r = absurd (omega (arith, more))
proof_more (suc n) (suc m) more p r =
    proof_layer_more (ProofIsInRange n) (ProofIsInRange m) (proof_more n m (omega (arith, more))) (out-Proof p) r

node_more : (low high : ℕ) → low ≤ high → (P Q : Tree → Type 0) → ((t : Tree) → P t → Q t)
    → (y : tree_layer.Tree-F Tree) → NodeNestsTo low P y → NodeNestsTo high Q y
node_more low high up P Q k (tree_layer.Test form a b) r = (r.0, k a r.1, k b r.2)
node_more low high up P Q k (tree_layer.Divides form divisor a b) r = (r.0, k a r.1, k b r.2)
node_more low high up P Q k (tree_layer.Writer statement place proofs) r =
    (r.0, record { count = r.1.count; each = All-weaker _ _ (proof_more low high up) proofs r.1.each })
node_more low high up P Q k (tree_layer.Zero proofs) r =
    record { count = r.count; each = All-weaker _ _ (proof_more low high up) proofs r.each }
node_more low high up P Q k (tree_layer.Dead p) r = proof_more low high up p r

tree_more : (low high : ℕ) → low ≤ high → (n m : ℕ) → n ≤ m → (t : Tree) → TreeNestsTo low n t → TreeNestsTo high m t
unfolding TreeNestsTo
tree_more low high up zero m more t r = absurd r
tree_more low high up (suc n) zero more t r = absurd (omega (arith, more))
tree_more low high up (suc n) (suc m) more t r =
    node_more low high up (TreeNestsTo low n) (TreeNestsTo high m) (tree_more low high up n m (omega (arith, more)))
    (out-Tree t) r

origin_more : (n m : ℕ) → n ≤ m → (o : Origin) → OriginNestsTo n o → OriginNestsTo m o
origin_more n m more of_origin.Sweep r = tt
origin_more n m more (of_origin.Tree t) r = tree_more n m more n m more t r

module _ {T : Type 0} (P : T → Type 0) where
  layer_more : (A B : BlockPart T → Type 0) → ((p : BlockPart T) → A p → B p)
      → (y : layer.BlockPart-F T (BlockPart T) (Blocks T)) → LayerIsInRange P A y → LayerIsInRange P B y
  layer_more A B k (layer.Item x) r = r
  layer_more A B k (layer.Repeat count body) r = (r.0, All-weaker A B k body.parts r.1)

  part_more : (n m : ℕ) → n ≤ m → (p : BlockPart T) → PartIsInRange P n p → PartIsInRange P m p
  unfolding PartIsInRange
  part_more zero zero more p r = r
  part_more zero (suc m) more p r =
      layer_more (λ _. ⊥) (PartIsInRange P m) (λ q none. absurd none) (out-BlockPart T p) r
  part_more (suc n) zero more p r = absurd (omega (arith, more))
  part_more (suc n) (suc m) more p r =
      layer_more (PartIsInRange P n) (PartIsInRange P m) (part_more n m (omega (arith, more))) (out-BlockPart T p) r

repeats_more : (version : Version) (n m : ℕ) → n ≤ m → repeat_levels version n ≤ repeat_levels version m
repeats_more version n m more = of_test (most_levels version == 0)
  where
    of_test : (test : Bool) → (if test then 0 else n) ≤ (if test then 0 else m)
    of_test true = omega arith
    of_test false = more

nests_more : (version : Version) (f : Folded) (n m : ℕ) → n ≤ m → NestsTo n version f → NestsTo m version f
nests_more version f n m more k =
    let up = repeats_more version n m more in
    record {
      process_count = k.process_count;
      channel_count = k.channel_count;
      source_count = k.source_count;
      processes = All-weaker (ProcessIsInRange (repeat_levels version n)) (ProcessIsInRange (repeat_levels version m))
          (λ p r. record {
            slots = r.slots;
            script = record {
              count = r.script.count;
              parts = All-weaker _ _ (part_more EventIsInRange _ _ up) p.script.parts r.script.parts;
            };
          }) f.processes k.processes;
      channels = k.channels;
      sources = All-weaker _ _ (origin_more n m more) f.sources k.sources;
      schedule = record {
        count = k.schedule.count;
        parts = All-weaker _ _ (part_more IsInRange _ _ up) f.schedule.parts k.schedule.parts;
      };
    }

-- Processes, channels and sources

put_fits : EventIsInRange (Put 0)
put_fits = omega arith

zero_fits : IsInRange 0
zero_fits = omega arith

zero_channel : Channel
zero_channel = record {
  writer = 0;
  reader = 0;
  read = 0;
  capacity = 0;
  class = record { order = InOrder; multiplicity = false };
}

zero_channel_fits : ChannelIsInRange zero_channel
unfolding zero_channel
zero_channel_fits = record { writer = omega arith; reader = omega arith; read = omega arith; capacity = omega arith }

abbrev ChannelShape : Shape
ChannelShape = LineShape channel_line channel_words ChannelIsInRange channel_spelled zero_channel zero_channel_fits

abbrev pub kept_of : List FoldedProcess → List Channel → List Origin → List (BlockPart ℕ) → Folded
kept_of processes channels sources parts = record {
  processes = processes;
  channels = channels;
  sources = sources;
  schedule = record { parts = parts };
}

abbrev tail_text : Folded → List ℕ
tail_text f = sizes_text f
    ++ (flat_map process_text f.processes
    ++ (flat_map channel_text f.channels
    ++ (flat_map source_text f.sources
    ++ (parts_text entry_text f.schedule.parts
    ++ end_text))))

abbrev tail_depths : Folded → List ℕ
tail_depths f = 0
    ∷ (flat_map process_depths f.processes
    ++ (flat_map (λ channel. 0 ∷ []) f.channels
    ++ (flat_map source_depths f.sources
    ++ (parts_depths f.schedule.parts
    ++ 0 ∷ []))))

-- what is read behind each part of a text

abbrev process_behind : Version → ProcessHead → Part FoldedProcess
process_behind version head at =
    followed_by (many (part event_line version 512) head.parts at)
    (λ parts at. Ok (record { slots = head.slots; script = record { parts = parts } }, at))

abbrev behind_kept : Version → Folded → Part (Version × Folded)
behind_kept version f at = followed_by (line (just (codes "end")) at) (λ last. end_part (version, f))

abbrev behind_sizes : Version → Sizes → Part (Version × Folded)
behind_sizes version sizes at = followed_by (folded version sizes at) (behind_kept version)

abbrev behind_version : Version → Part (Version × Folded)
behind_version version at = followed_by (line sizes_line at) (behind_sizes version)

same_head : (version : Version) → IsVersion version → line_text (version_words version) ≡ head_text version
same_head version (inl first) =
    subst (λ (v : Version). line_text (version_words v) ≡ head_text v) first refl
same_head version (inr second) =
    subst (λ (v : Version). line_text (version_words v) ≡ head_text v) second refl

pub every_version : (version : Version) → IsVersion version
every_version version = which_version (version_words version) version (version_spelled.back version tt)

abbrev pub Kept : Type 0
Kept = (Version × Folded) × Place

abbrev pub start : List ℕ → Place
start text = record { line = 1; text = text }

module _ (top : ℕ) (deep : 512 ≤ top) where
  -- the levels of these texts
  abbrev most : ℕ
  most = suc (suc top)

  module _ (version : Version) (known : IsVersion version) where
    abbrev ScriptShape : ℕ → Shape
    ScriptShape = Many (PartShape event_line event_words EventIsInRange event_spelled event_no_repeat (Put 0) put_fits
        version known most 1)

    abbrev ScheduleShape : ℕ → Shape
    ScheduleShape = Many (PartShape entry_line entry_words IsInRange entry_spelled entry_no_repeat 0 zero_fits version known
        most 1)

    abbrev ProcessShape : Shape
    ProcessShape = record {
      X = FoldedProcess;
      text = process_text;
      depths = process_depths;
      fits = ProcessIsInRange (repeat_levels version most);
      some = record { slots = 0; script = record { parts = [] } };
      some_fits = record {
        slots = omega arith;
        script = record { count = omega arith; parts = All-nil (PartIsInRange EventIsInRange (repeat_levels version most)) };
      };
    }

    abbrev process_step : (head : ProcessHead) → HeadIsInRange head
        → Step Any ProcessShape (line_text (head_words head)) (λ n. process_behind version head)
    process_step head r = record {
      S = ScriptShape head.parts;
      depth = 0;
      make = λ parts. record { slots = head.slots; script = record { parts = parts } };
      fits = λ parts f.
          record { slots = r.0; script = record { count = omega (arith, r.1, f.0); parts = f.1 } };
      text_is = λ parts f. ap (λ (n : ℕ). line_text (codes "process" ∷ decimal head.slots ∷ decimal n ∷ [])
          ++ parts_text event_text parts) f.0;
      depths_are = λ parts f. refl;
      behind = λ n. within (omega arith)
          (reads_made {B = FoldedProcess} (λ parts. record { slots = head.slots; script = record { parts = parts } })
          (parts_read event_line event_words EventIsInRange event_spelled event_no_repeat (Put 0) put_fits version known
          milds_event (suc top) head.parts (omega (arith, deep))));
    }

    process_reads : Reads Any (process version) ProcessShape
    process_reads =
        reads_spelled Any process_line head_words HeadIsInRange head_spelled (λ n. process_behind version) (process version)
        (λ at. refl) ProcessShape (λ read head e r. process_step head r)
        (λ p f.
        let head : ProcessHead = record { slots = p.slots; parts = length p.script.parts } in
        record {
          said = head;
          holds = (f.slots, f.script.count);
          step = process_step head (f.slots, f.script.count);
          x = p.script.parts;
          fits = (refl, f.script.parts);
          is = refl;
        }) milds_process

  abbrev SourceShape : Shape
  SourceShape = record {
    X = Origin;
    text = source_text;
    depths = source_depths;
    fits = OriginNestsTo most;
    some = of_origin.Sweep;
    some_fits = tt;
  }

  abbrev SourceStep : SourceLine → Type 1
  SourceStep l = Step Any SourceShape (line_text (source_words l)) (λ n. source_behind l)

  abbrev sweep_step : SourceStep sweep_line
  sweep_step = record {
    S = Nil;
    depth = 0;
    make = λ x. of_origin.Sweep;
    fits = λ x f. tt;
    text_is = λ x f. sym (append-nil (line_text (codes "sweep" ∷ [])));
    depths_are = λ x f. refl;
    behind = λ n. within (omega arith) (reads_value of_origin.Sweep);
  }

  abbrev tree_step : SourceStep tree_source_line
  tree_step = record {
    S = TreeShape top deep (suc top) 1;
    depth = 0;
    make = λ t. of_origin.Tree t;
    fits = λ t f. f;
    text_is = λ t f. refl;
    depths_are = λ t f. refl;
    behind = λ n. within (omega arith)
        (reads_made (λ t. of_origin.Tree t) (tree_reads top deep 512 top 1 refl deep));
  }

  abbrev SourceApart : Origin → Type 1
  SourceApart = Apart Any source_line source_words (λ l. Unit {0}) source_spelled (λ n. source_behind) source (λ at. refl)
      SourceShape

  source_apart : (o : Origin) → OriginNestsTo most o → SourceApart o
  source_apart of_origin.Sweep f =
      record { said = sweep_line; holds = tt; step = sweep_step; x = tt; fits = tt; is = refl }
  source_apart (of_origin.Tree t) f =
      record { said = tree_source_line; holds = tt; step = tree_step; x = t; fits = f; is = refl }

  source_reads : Reads Any source SourceShape
  source_reads =
      reads_spelled Any source_line source_words (λ l. Unit {0}) source_spelled (λ n. source_behind) source (λ at. refl)
      SourceShape (λ read l e r. source_said SourceStep sweep_step tree_step read l e) source_apart milds_source

  -- What is kept, and the end

  module _ (version : Version) (known : IsVersion version) where
    abbrev KeptShape : Sizes → Shape
    KeptShape sizes = Two (Many (ProcessShape version known) sizes.processes)
        (Two (Many ChannelShape sizes.channels)
        (Two (Many SourceShape sizes.sources) (ScheduleShape version known sizes.parts)))

    kept_reads : (sizes : Sizes) → Reads Any (folded version sizes) (KeptShape sizes)
    kept_reads sizes =
        reads_two (reads_many (ProcessShape version known) (process_reads version known) sizes.processes)
        (λ ps. reads_two (reads_many ChannelShape
        (reads_alone channel_line channel_words ChannelIsInRange channel_spelled zero_channel zero_channel_fits milds_channel)
        sizes.channels)
        (λ cs. reads_two (reads_many SourceShape source_reads sizes.sources)
        (λ ss. reads_made (λ parts. kept_of ps cs ss parts)
        (parts_read entry_line entry_words IsInRange entry_spelled entry_no_repeat 0 zero_fits version known milds_entry
        (suc top) sizes.parts (omega (arith, deep))))))

    abbrev EndShape : Shape
    EndShape = LineShape (just (codes "end")) (λ (u : Unit). codes "end" ∷ []) (λ u. Unit {0})
        (just_spelled (codes "end" ∷ []) (omega arith) refl) tt tt

    sizes_read : (sizes : Sizes) → Reads Last (behind_sizes version sizes) (Two (KeptShape sizes) EndShape)
    sizes_read sizes =
        reads_two (kept_reads sizes)
        (λ f. reads_only (just (codes "end")) (λ (u : Unit). codes "end" ∷ []) (λ u. Unit {0})
        (just_spelled (codes "end" ∷ []) (omega arith) refl) tt tt Last (λ last. end_part (version, f)) (behind_kept version f)
        (λ at. refl) (λ last. reads_end (version, f)) milds_end)

    abbrev TailShape : Shape
    TailShape = record {
      X = Folded;
      text = tail_text;
      depths = tail_depths;
      fits = NestsTo most version;
      some = kept_of [] [] [] [];
      some_fits = record {
        process_count = omega arith;
        channel_count = omega arith;
        source_count = omega arith;
        processes = All-nil (ProcessIsInRange (repeat_levels version most));
        channels = All-nil ChannelIsInRange;
        sources = All-nil (OriginNestsTo most);
        schedule = record {
          count = omega arith;
          parts = All-nil (PartIsInRange IsInRange (repeat_levels version most));
        };
      };
    }

    abbrev tail_step : (sizes : Sizes) → SizesAreInRange sizes
        → Step Last TailShape (line_text (sizes_words sizes)) (λ n. behind_sizes version sizes)
    tail_step sizes r = record {
      S = Two (KeptShape sizes) EndShape;
      depth = 0;
      make = λ z. kept_of z.0.0 z.0.1.0 z.0.1.1.0 z.0.1.1.1;
      fits = λ z f. record {
        process_count = omega (arith, r.processes, f.0.0.0);
        channel_count = omega (arith, r.channels, f.0.1.0.0);
        source_count = omega (arith, r.sources, f.0.1.1.0.0);
        processes = f.0.0.1;
        channels = f.0.1.0.1;
        sources = f.0.1.1.0.1;
        schedule = record { count = omega (arith, r.parts, f.0.1.1.1.0); parts = f.0.1.1.1.1 };
      };
      text_is = λ z f.
          let counts : record {
            processes = length z.0.0;
            channels = length z.0.1.0;
            sources = length z.0.1.1.0;
            parts = length z.0.1.1.1;
          } ≡ sizes = rw (f.0.0.0, f.0.1.0.0, f.0.1.1.0.0, f.0.1.1.1.0) refl in
          ap (λ (s : Sizes). line_text (sizes_words s) ++ (flat_map process_text z.0.0
          ++ (flat_map channel_text z.0.1.0 ++ (flat_map source_text z.0.1.1.0
          ++ (parts_text entry_text z.0.1.1.1 ++ end_text))))) counts
          ∙ ap (λ (t : List ℕ). line_text (sizes_words sizes) ++ t)
          (sym (four_parts (flat_map process_text z.0.0) (flat_map channel_text z.0.1.0)
          (flat_map source_text z.0.1.1.0) (parts_text entry_text z.0.1.1.1) end_text));
      depths_are = λ z f. ap (λ (ds : List ℕ). 0 ∷ ds)
          (sym (four_parts (flat_map process_depths z.0.0) (flat_map (λ channel. 0 ∷ []) z.0.1.0)
          (flat_map source_depths z.0.1.1.0) (parts_depths z.0.1.1.1) (0 ∷ [])));
      behind = λ n. within (omega arith) (sizes_read sizes);
    }

    tail_reads : Reads Last (behind_version version) TailShape
    tail_reads =
        reads_spelled Last sizes_line sizes_words SizesAreInRange sizes_spelled (λ n. behind_sizes version) (behind_version version)
        (λ at. refl) TailShape (λ read sizes e r. tail_step sizes r)
        (λ f k.
        let sizes : Sizes = record {
          processes = length f.processes;
          channels = length f.channels;
          sources = length f.sources;
          parts = length f.schedule.parts;
        } in
        let holds : SizesAreInRange sizes = record {
          processes = k.process_count;
          channels = k.channel_count;
          sources = k.source_count;
          parts = k.schedule.count;
        } in
        record {
          said = sizes;
          holds = holds;
          step = tail_step sizes holds;
          x = ((f.processes, (f.channels, (f.sources, f.schedule.parts))), tt);
          fits = (((refl, k.processes), ((refl, k.channels), ((refl, k.sources), (refl, k.schedule.parts)))), tt);
          is = refl;
        }) milds_sizes

  -- The text

  abbrev pub WholeShape : Shape
  WholeShape = record {
    X = Version × Folded;
    text = λ k. folded_text k.0 k.1;
    depths = λ k. folded_depths k.1;
    fits = λ k. NestsTo most k.0 k.1;
    some = (second_version, kept_of [] [] [] []);
    some_fits = (TailShape second_version (inr refl)).some_fits;
  }

  abbrev version_step : (version : Version) → IsVersion version
      → Step Last WholeShape (line_text (version_words version)) (λ n. behind_version version)
  version_step version known = record {
    S = TailShape version known;
    depth = 0;
    make = λ f. (version, f);
    fits = λ f k. k;
    text_is = λ f k. ap (λ (front : List ℕ). front ++ tail_text f) (sym (same_head version known));
    depths_are = λ f k. refl;
    behind = λ n. within (omega arith) (tail_reads version known);
  }

  abbrev TextApart : Version × Folded → Type 1
  TextApart = Apart Last version_line version_words (λ v. Unit {0}) version_spelled (λ n. behind_version) whole_text
      (λ at. refl) WholeShape

  text_apart : (k : Version × Folded) → NestsTo most k.0 k.1 → TextApart k
  text_apart k f = record {
    said = k.0;
    holds = tt;
    step = version_step k.0 (every_version k.0);
    x = k.1;
    fits = f;
    is = refl;
  }

  whole_fate : (text : List ℕ) → Fate Last whole_text WholeShape (start text) (whole_text (start text))
  whole_fate text =
      spelled_fate Last version_line version_words (λ v. Unit {0}) version_spelled (λ n. behind_version) whole_text
      (λ at. refl) WholeShape (λ read v e r. version_step v (which_version read v e)) text_apart (start text) (omega arith)
      (record {
        mends = λ line whole e. absurd (no_range (words_of line) e);
        stays = λ line other alike e. ap (λ (l : List ℕ). version_line (words_of l)) (sym (alike.1 (omega arith))) ∙ e;
      })

  whole_answers : (k : Version × Folded) → NestsTo most k.0 k.1
      → Outcome 1 [] (folded_depths k.1) (whole_text (start (folded_text k.0 k.1 ++ [])))
  whole_answers k f =
      spelled_answers Last version_line version_words (λ v. Unit {0}) version_spelled (λ n. behind_version) whole_text
      (λ at. refl) WholeShape (λ read v e r. version_step v (which_version read v e)) text_apart k 1 [] f refl

pub text_outcome : (text ds : List ℕ) → IsText text ds → Outcome 1 [] ds (whole_text (start text))
text_outcome text ds k =
    let nests = nests_more k.version k.folded k.levels (suc (suc (k.levels + 512))) (omega arith) k.nests in
    subst (λ (t : List ℕ). Outcome 1 [] ds (whole_text (start t)))
    (append-nil (folded_text k.version k.folded) ∙ k.is_text)
    (subst (λ (d : List ℕ). Outcome 1 [] d (whole_text (start (folded_text k.version k.folded ++ [])))) k.depths_are
    (whole_answers (k.levels + 512) (omega arith) (k.version, k.folded) nests))

pub enough : 512 ≤ 512
enough = omega arith

abbrev pub TextShape : Shape
TextShape = WholeShape 512 enough

pub text_fate : (text : List ℕ) → Fate Last whole_text TextShape (start text) (whole_text (start text))
text_fate = whole_fate 512 enough
