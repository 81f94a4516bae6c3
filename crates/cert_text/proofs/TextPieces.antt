-- What was written piece by piece.
--
-- That a writer was given a text adds up: one text and then another is both, one behind the other. A process is written
-- by the blocks that it gives, which may be any of several. They are gathered beside the text, in order, so that in the
-- end there is one list of blocks, one for each process, whose text was written whole. There are as many as processes,
-- which is what the second line counts.
use Rattle.std.proofs.Common.{◌≡◌, ℕ, List, [], ◌∷◌, ◌++◌, codes, decimal, length, append-nil}
use Rattle.std.proofs.Common.{refl, sym, ap, subst, ◌∙◌}
use Rattle.std.specs.List.{flat_map}
use Rattle.std.proofs.lemmas.Grind.{flat_map-append}
use Rattle.std.proofs.lemmas.List.{length-map}
use Rattle.std.proofs.lemmas.Slice.Zip.{AllZip-long, all_zipped_more}
use Rattle.net_core.specs.declared.network.Channel.{Channel}
use Rattle.source_tree.specs.declared.cert.Cert.{Cert}
use Rattle.text_out.specs.Words.{line_text}
use Rattle.text_out.specs.Wrote.{Given, Wrote}
use Rattle.text_out.proofs.Wrote.{Wrote-append}
use Rattle.cert_text.specs.CertText.{channel_text, end_text, entry_text, head_text, parts_text}
use Rattle.cert_text.specs.CertText.{process_text, sizes_text, source_text}
use Rattle.cert_text.specs.Folding.{Folded, FoldedProcess}
use Rattle.cert_text.specs.Stretches.{stretch_blocks, stretch_part, stretches}
use Rattle.cert_text.specs.declared.places.Version.TheVariants.{Two}
use Rattle.cert_text.specs.Writing.{WritesProcess, WritesProcesses, WritesText}

module _ {P W : Type 0} (given : W → Given) (gives : P → FoldedProcess → Type 0) where
  pub none_wrote : (a : W) → WritesProcesses given gives a a []
  none_wrote a = record {
    folded = [];
    are_given = tt;
    wrote = (refl, sym (append-nil (given a).text));
  }

  -- one process more
  pub process_wrote : (a b c : W) (ps : List P) (p : P) → WritesProcesses given gives a b ps
      → WritesProcess given gives b c p
      → WritesProcesses given gives a c (ps ++ p ∷ [])
  process_wrote a b c ps p before here =
      let text : flat_map process_text (before.folded ++ here.folded ∷ []) ≡ flat_map process_text before.folded
      ++ process_text here.folded =
      flat_map-append process_text before.folded (here.folded ∷ [])
      ∙ ap (λ (more : List ℕ). flat_map process_text before.folded ++ more) (append-nil (process_text here.folded)) in
      let all = Wrote-append given (flat_map process_text before.folded) (process_text here.folded) before.wrote here.wrote
      in
      record {
        folded = before.folded ++ here.folded ∷ [];
        are_given = all_zipped_more gives ps before.folded p here.folded before.are_given here.is_given;
        wrote = (all.0, all.1 ∙ ap (λ (more : List ℕ). (given a).text ++ more) (sym text));
      }

  -- the whole text
  pub text_wrote : (a b c d e f h i : W) (ps : List P) (channels : List Channel) (cert : Cert)
      → Wrote given a b (head_text Two)
      → Wrote given b c
      (line_text (codes "sizes" ∷ decimal (length ps) ∷ decimal (length channels)
      ∷ decimal (length cert.sources) ∷ decimal (length (stretches cert.schedule)) ∷ []))
      → WritesProcesses given gives c d ps
      → Wrote given d e (flat_map channel_text channels)
      → Wrote given e f (flat_map source_text cert.sources)
      → Wrote given f h (parts_text entry_text (stretch_blocks cert.schedule).parts)
      → Wrote given h i end_text
      → WritesText given gives a i ps channels cert
  text_wrote a b c d e f h i ps channels cert head sizes processes joins sources schedule end =
      let folded : Folded = record {
        processes = processes.folded;
        channels = channels;
        sources = cert.sources;
        schedule = stretch_blocks cert.schedule;
      } in
      let count : length processes.folded ≡ length ps =
      AllZip-long gives ps processes.folded processes.are_given in
      let parts : length folded.schedule.parts ≡ length (stretches cert.schedule) =
      length-map (stretches cert.schedule) stretch_part in
      let sizes_are : line_text (codes "sizes" ∷ decimal (length ps) ∷ decimal (length channels)
      ∷ decimal (length cert.sources) ∷ decimal (length (stretches cert.schedule)) ∷ []) ≡ sizes_text folded =
      sym (ap (λ (n : ℕ). line_text (codes "sizes" ∷ decimal n ∷ decimal (length channels)
      ∷ decimal (length cert.sources) ∷ decimal (length folded.schedule.parts) ∷ [])) count
      ∙ ap (λ (n : ℕ). line_text (codes "sizes" ∷ decimal (length ps) ∷ decimal (length channels)
      ∷ decimal (length cert.sources) ∷ decimal n ∷ [])) parts) in
      let entries = parts_text entry_text folded.schedule.parts in
      let origins = flat_map source_text cert.sources in
      let joined = flat_map channel_text channels in
      let scripts = flat_map process_text processes.folded in
      let six : Wrote given f i (entries ++ end_text) = Wrote-append given entries end_text schedule end in
      let five : Wrote given e i (origins ++ (entries ++ end_text)) =
      Wrote-append given origins (entries ++ end_text) sources six in
      let four : Wrote given d i (joined ++ (origins ++ (entries ++ end_text))) =
      Wrote-append given joined (origins ++ (entries ++ end_text)) joins five in
      let three : Wrote given c i (scripts ++ (joined ++ (origins ++ (entries ++ end_text)))) =
      Wrote-append given scripts (joined ++ (origins ++ (entries ++ end_text))) processes.wrote four in
      let two : Wrote given b i (sizes_text folded ++ (scripts ++ (joined ++ (origins ++ (entries ++ end_text))))) =
      Wrote-append given (sizes_text folded) (scripts ++ (joined ++ (origins ++ (entries ++ end_text))))
      (subst (λ (text : List ℕ). Wrote given b c text) sizes_are sizes) three in
      record {
        folded = processes.folded;
        are_given = processes.are_given;
        wrote = Wrote-append given (head_text Two)
            (sizes_text folded ++ (scripts ++ (joined ++ (origins ++ (entries ++ end_text))))) head two;
      }
