-- Parts of scripts and of the schedule are read by their lines.
--
-- As for trees, the depth of a repeat and the levels that are left add up to 513, and the shape lets repeats nest a level
-- deeper: a repeat that is too deep can still be followed by items. Version 1 has no line of a repeat, so there each part
-- is an item. What a line says isn't of a type known here, so what holds of items and of repeats holds of it by the words.
use Rattle.std.proofs.Common.{◌≡◌, inl, inr, ℕ, zero, suc, ◌+◌, ◌≤◌, true, false, List, [], ◌∷◌, ◌++◌, All, Result, Ok}
use Rattle.std.proofs.Common.{codes, decimal, length, map, append-nil, refl, sym, ap, subst, ◌∙◌, arith}
use Rattle.std.specs.Prelude.{bytes_eq}
use Rattle.std.specs.List.{flat_map, join_with_byte, list_all}
use Rattle.std.proofs.lemmas.List.Folds.{flat_map-map}
use Rattle.std.proofs.lemmas.List.Splits.{join_with_byte-slice_split}
use Rattle.script_blocks.specs.declared.blocks.Blocks.{Blocks}
use Rattle.script_blocks.specs.declared.blocks.BlockPart.{BlockPart, out-BlockPart}
use Rattle.script_blocks.specs.declared.blocks.BlockPart.TheOpen as layer
use Rattle.script_blocks.specs.declared.blocks.BlockPart.TheFolds.{fold-Blocks, fold-roll-BlockPart, fold-roll-Blocks}
use Rattle.script_blocks.specs.declared.blocks.BlockPart.TheViews.{Repeat, roll-BlockPart, roll-out-BlockPart}
use Rattle.script_blocks.specs.declared.blocks.BlockPart.TheViews.{rolls-Item, rolls-Repeat}
use Rattle.script_blocks.specs.declared.blocks.BlockPart.TheVariants.{Item}
use Rattle.text_out.specs.Words.{line_text}
use Rattle.cert_lines.specs.declared.error.Fault.{Fault}
use Rattle.cert_lines.specs.Words.{both, made, number, words_of}
use Rattle.cert_lines.specs.Reading.{Part, Place, followed_by, line, many}
use Rattle.cert_lines.proofs.Codecs.{IsSpelled}
use Rattle.cert_lines.proofs.LineWords.{is_word, line_lacks, word_of_number}
use Rattle.cert_lines.proofs.Verdicts.{at_keyword, both_ok, made_ok, same_words}
use Rattle.cert_text.specs.CertText.{part_text, parts_text, repeat_text}
use Rattle.cert_text.specs.Folding.{IsRepeat, LayerIsInRange, PartIsInRange}
use Rattle.cert_text.specs.Places.{part_line, repeat_words}
use Rattle.cert_text.specs.Reading.{part, part_behind, shallow_behind}
use Rattle.cert_text.specs.Words.{at_least}
use Rattle.cert_text.proofs.Proper.{item_in_range, repeat_in_range}
use Rattle.cert_text.proofs.PartsBack.{All-none, at_least_back, at_least_forth}
use Rattle.cert_text.proofs.Texts.{text_item, text_repeat}
use Rattle.cert_places.specs.Depths.{body_depths, layer_depths, part_depths, repeat_levels}
use Rattle.cert_places.specs.Fronts.{IsLine}
use Rattle.cert_places.proofs.LineTypes.{IsVersion, PartLine, Version, item_line, repeat_line, second_version}
use Rattle.cert_places.proofs.Patterns.{Milds, milds_part, words_of_joined}
use Rattle.cert_places.proofs.Shapes.{Any, Many, Nested, Nil, Reads, Shape, Step, Unrolled, behind_nested, deepest}
use Rattle.cert_places.proofs.Shapes.{lenient, nested, reads_line, reads_made, reads_many, reads_value, within}

-- Depths

module _ {T : Type 0} where
  pub depths_item : (x : T) (d : ℕ) → part_depths (Item x) d ≡ 0 ∷ []
  depths_item x d =
      ap (λ (p : BlockPart T). part_depths p d) (sym (rolls-Item x))
      ∙ ap (λ (f : ℕ → List ℕ). f d)
      (fold-roll-BlockPart T (ℕ → List ℕ) (List (ℕ → List ℕ)) layer_depths body_depths (layer.Item x))

  body_folds : (body : Blocks T)
      → fold-Blocks T (ℕ → List ℕ) (List (ℕ → List ℕ)) layer_depths body_depths body ≡ map part_depths body.parts
  body_folds body =
      fold-roll-Blocks T (ℕ → List ℕ) (List (ℕ → List ℕ)) layer_depths body_depths (record { parts = body.parts })

  pub depths_repeat : (count : ℕ) (body : Blocks T) (d : ℕ)
      → part_depths (Repeat count body) d ≡ d ∷ flat_map (λ part. part_depths part (d + 1)) body.parts
  depths_repeat count body d =
      ap (λ (p : BlockPart T). part_depths p d) (sym (rolls-Repeat count body))
      ∙ ap (λ (f : ℕ → List ℕ). f d)
      (fold-roll-BlockPart T (ℕ → List ℕ) (List (ℕ → List ℕ)) layer_depths body_depths (layer.Repeat count body))
      ∙ ap (λ (fs : List (ℕ → List ℕ)). d ∷ flat_map (λ (f : ℕ → List ℕ). f (d + 1)) fs) (body_folds body)
      ∙ ap (λ (t : List ℕ). d ∷ t) (flat_map-map (λ (f : ℕ → List ℕ). f (d + 1)) part_depths body.parts)

module _ {T : Type 0} (judge : List (List ℕ) → Result T Fault) (words : T → List (List ℕ)) (P : T → Type 0)
    (spelled : IsSpelled judge words P)
    (no_repeat : (x : T) → P x → (word : List ℕ) (others : List (List ℕ)) → words x ≡ word ∷ others
    → bytes_eq word (codes "r") ≡ false) where
  abbrev text_of : T → List ℕ
  text_of x = line_text (words x)

  abbrev line_words : ℕ → ℕ → List (List ℕ)
  line_words count parts = codes "r" ∷ decimal count ∷ decimal parts ∷ []

  -- What a line of a part says

  module _ (version : Version) (Q : List (List ℕ) → PartLine judge → Type 1)
      (items : (x : T) (read : List (List ℕ)) → join_with_byte 32 read ≡ join_with_byte 32 (words x) → P x
      → Q read (item_line judge x))
      (repeats : (count parts : ℕ) → second_version ≡ version → IsRepeat count parts
      → Q (line_words count parts) (repeat_line judge count parts)) where
    item_said : (l : PartLine judge) (read : List (List ℕ)) → made (item_line judge) (judge read) ≡ Ok l → Q read l
    item_said l read e =
        let k = made_ok (item_line judge) (judge read) l e in
        let s = spelled.forth read k.0 k.1 in
        subst (Q read) k.2 (items k.0 read s.0 s.1)

    repeat_said : (l : PartLine judge) (read : List (List ℕ)) → second_version ≡ version → repeat_words read ≡ Ok l
        → Q (codes "r" ∷ read) l
    repeat_said l [] second e = absurd (cc e)
    repeat_said l (a ∷ []) second e = absurd (cc e)
    repeat_said l (a ∷ (b ∷ [])) second e =
        let k = made_ok _ (both (at_least 2 (number a)) (at_least 1 (number b))) l e in
        let p = both_ok (at_least 2 (number a)) (at_least 1 (number b)) k.0 k.1 in
        let count = at_least_forth 2 a k.0.0 p.0 in
        let parts = at_least_forth 1 b k.0.1 p.1 in
        let same : codes "r" ∷ (a ∷ (b ∷ [])) ≡ line_words k.0.0 k.0.1 =
        same_words _ _ _ _ refl (same_words _ _ _ _ count.0 (same_words _ _ _ _ parts.0 refl)) in
        subst (Q (codes "r" ∷ (a ∷ (b ∷ [])))) k.2
        (subst (λ (read : List (List ℕ)). Q read (repeat_line judge k.0.0 k.0.1)) (sym same)
        (repeats k.0.0 k.0.1 second
        (record { twice = count.1.1; count_in_range = count.1.0; some = parts.1.1; parts_in_range = parts.1.0 })))
    repeat_said l (a ∷ (b ∷ (c ∷ more))) second e = absurd (cc e)

    second_said : (l : PartLine judge) (read : List (List ℕ)) → second_version ≡ version
        → part_line judge second_version read ≡ Ok l → Q read l
    second_said l [] second e = item_said l [] e
    second_said l (word ∷ read) second e = elim (at_keyword word (codes "r") _ _ l e) [
      | inl here ↦ subst (λ (w : List ℕ). Q (w ∷ read) l) (sym here.0) (repeat_said l read second here.1)
      | inr other ↦ item_said l (word ∷ read) other
    ]

    part_said : IsVersion version → (read : List (List ℕ)) (l : PartLine judge) → part_line judge version read ≡ Ok l
        → Q read l
    part_said (inl first) read l e =
        item_said l read (subst (λ (v : Version). part_line judge v read ≡ Ok l) (sym first) e)
    part_said (inr second) read l e =
        second_said l read second (subst (λ (v : Version). part_line judge v read ≡ Ok l) (sym second) e)

  -- and it is said of these words

  item_in_second : (x : T) (read : List (List ℕ)) → P x → words x ≡ read → judge read ≡ Ok x
      → part_line judge second_version read ≡ Ok (item_line judge x)
  item_in_second x [] k is said = rw said refl
  item_in_second x (word ∷ read) k is said = rw (no_repeat x k word read is, said) refl

  item_back : (version : Version) → IsVersion version → (x : T) → P x
      → part_line judge version (words x) ≡ Ok (item_line judge x)
  item_back version (inl first) x k =
      let said = spelled.back x k in
      subst (λ (v : Version). part_line judge v (words x) ≡ Ok (item_line judge x)) first (rw said refl)
  item_back version (inr second) x k =
      subst (λ (v : Version). part_line judge v (words x) ≡ Ok (item_line judge x)) second
      (item_in_second x (words x) k refl (spelled.back x k))

  repeat_back : (version : Version) → second_version ≡ version → (count parts : ℕ) → IsRepeat count parts
      → part_line judge version (line_words count parts) ≡ Ok (repeat_line judge count parts)
  repeat_back version second count parts k =
      subst (λ (v : Version). part_line judge v (line_words count parts) ≡ Ok (repeat_line judge count parts)) second
      (rw (at_least_back 2 count k.twice k.count_in_range, at_least_back 1 parts k.some k.parts_in_range) refl)

  repeat_are_words : (count parts : ℕ) → IsRepeat count parts → list_all is_word (line_words count parts) ≡ true
  repeat_are_words count parts k =
      rw (word_of_number count k.count_in_range, word_of_number parts k.parts_in_range) refl

  -- Parts

  module _ (one : T) (holds : P one) (version : Version) (known : IsVersion version) where
    abbrev InRange : ℕ → BlockPart T → Type 0
    InRange levels = PartIsInRange P (repeat_levels version levels)

    -- a part where a repeat is so deep, and nests so many levels from there
    abbrev pub PartShape : ℕ → ℕ → Shape
    PartShape levels depth = record {
      X = BlockPart T;
      text = part_text text_of;
      depths = λ p. part_depths p depth;
      fits = InRange levels;
      some = Item one;
      some_fits = item_in_range P (repeat_levels version levels) one holds;
    }

    abbrev repeat_behind : Part (BlockPart T) → ℕ × ℕ → Part (BlockPart T)
    repeat_behind inner said = part_behind inner (repeat_line judge said.0 said.1)

    repeat_fits : second_version ≡ version → (levels count : ℕ) (body : Blocks T) → IsRepeat count (length body.parts)
        → All (InRange levels) body.parts → InRange (suc levels) (Repeat count body)
    repeat_fits second levels count body =
        subst (λ (v : Version). IsRepeat count (length body.parts)
        → All (PartIsInRange P (repeat_levels v levels)) body.parts
        → PartIsInRange P (repeat_levels v (suc levels)) (Repeat count body)) second
        (repeat_in_range P levels count body)

    module _ (levels depth : ℕ) (second : ℕ → PartLine judge → Part (BlockPart T))
        (items : (n : ℕ) (x : T) → second n (item_line judge x) ≡ (λ at. Ok (Item x, at)))
        (k : Nested repeat_behind depth (PartShape levels (depth + 1))
        (λ (n : ℕ) (said : ℕ × ℕ). second n (repeat_line judge said.0 said.1))) where
      abbrev PartStep : List ℕ → PartLine judge → Type 1
      PartStep front l = Step Any (PartShape (suc levels) depth) front (λ n. second n l)

      abbrev item_step : (x : T) → P x → PartStep (text_of x) (item_line judge x)
      item_step x r = record {
        S = Nil;
        depth = 0;
        make = λ u. Item x;
        fits = λ u f. item_in_range P (repeat_levels version (suc levels)) x r;
        text_is = λ u f. text_item text_of x ∙ sym (append-nil (text_of x));
        depths_are = λ u f. depths_item x depth;
        behind = λ n. within (omega arith)
            (subst (λ (part : Part (BlockPart T)). Reads Any part Nil) (sym (items n x)) (reads_value (Item x)));
      }

      abbrev repeat_step : (count parts : ℕ) → second_version ≡ version → IsRepeat count parts
          → PartStep (line_text (line_words count parts)) (repeat_line judge count parts)
      repeat_step count parts is r = record {
        S = Many (PartShape levels (depth + 1)) parts;
        depth = depth;
        make = λ ps. Repeat count (record { parts = ps });
        fits = λ ps f.
            repeat_fits is levels count (record { parts = ps }) (subst (IsRepeat count) (sym f.0) r) f.1;
        text_is = λ ps f. text_repeat text_of count (record { parts = ps })
            ∙ ap (λ (n : ℕ). repeat_text count n ++ parts_text text_of ps) f.0;
        depths_are = λ ps f. depths_repeat count (record { parts = ps }) depth;
        behind = behind_nested repeat_behind depth (PartShape levels (depth + 1))
            (λ (n : ℕ) (said : ℕ × ℕ). second n (repeat_line judge said.0 said.1)) k (count, parts)
            (Many (PartShape levels (depth + 1)) parts)
            (λ inner reads. reads_made (λ ps. Repeat count (record { parts = ps }))
            (reads_many (PartShape levels (depth + 1)) reads parts));
      }

      each_part : (text : List ℕ) (l : PartLine judge) → IsLine text → part_line judge version (words_of text) ≡ Ok l
          → PartStep (text ++ 10 ∷ []) l
      each_part text l is_line e =
          subst (λ (t : List ℕ). PartStep (t ++ 10 ∷ []) l) (join_with_byte-slice_split 32 text)
          (part_said version (λ read l. PartStep (line_text read) l)
          (λ x read same r. subst (λ (t : List ℕ). PartStep (t ++ 10 ∷ []) (item_line judge x)) (sym same)
          (item_step x r))
          repeat_step known (words_of text) l e)

      module _ (whole : Part (BlockPart T))
          (whole_is : (at : Place) → whole at ≡ followed_by (line (part_line judge version) at) (second at.line)) where
        abbrev PartUnrolled : BlockPart T → Type 1
        PartUnrolled = Unrolled Any (part_line judge version) second whole whole_is (PartShape (suc levels) depth)

        layer_unrolled : (inner : BlockPart T → Type 0) (y : layer.BlockPart-F T (BlockPart T) (Blocks T))
            → LayerIsInRange P inner y
            → ((body : Blocks T) → 1 ≤ length body.parts → All inner body.parts
            → (second_version ≡ version) × All (InRange levels) body.parts)
            → PartUnrolled (roll-BlockPart T y)
        layer_unrolled inner (layer.Item x) r below =
            subst PartUnrolled (sym (rolls-Item x)) (record {
              text = join_with_byte 32 (words x);
              said = item_line judge x;
              is_line = line_lacks (words x) (spelled.spelled x r);
              says = ap (part_line judge version) (words_of_joined (words x) (spelled.some x) (spelled.spelled x r))
                  ∙ item_back version known x r;
              step = item_step x r;
              x = tt;
              fits = tt;
              is = refl;
            })
        layer_unrolled inner (layer.Repeat count body) r below =
            let b = below body r.0.some r.1 in
            let are = repeat_are_words count (length body.parts) r.0 in
            subst PartUnrolled (sym (rolls-Repeat count body)) (record {
              text = join_with_byte 32 (line_words count (length body.parts));
              said = repeat_line judge count (length body.parts);
              is_line = line_lacks (line_words count (length body.parts)) are;
              says = ap (part_line judge version)
                  (words_of_joined (line_words count (length body.parts)) (omega arith) are)
                  ∙ repeat_back version b.0 count (length body.parts) r.0;
              step = repeat_step count (length body.parts) b.0 r.0;
              x = body.parts;
              fits = (refl, b.1);
              is = refl;
            })

        unrolled_in : IsVersion version → (p : BlockPart T) → InRange (suc levels) p → PartUnrolled p
        unfolding PartIsInRange
        unrolled_in (inl first) p r =
            let flat : PartIsInRange P 0 p =
            subst (λ (v : Version). PartIsInRange P (repeat_levels v (suc levels)) p) (sym first) r in
            subst PartUnrolled (roll-out-BlockPart T p)
            (layer_unrolled (λ _. ⊥) (out-BlockPart T p) flat (λ body some all. absurd (All-none body.parts some all)))
        unrolled_in (inr second) p r =
            let level : PartIsInRange P (suc levels) p =
            subst (λ (v : Version). PartIsInRange P (repeat_levels v (suc levels)) p) (sym second) r in
            subst PartUnrolled (roll-out-BlockPart T p)
            (layer_unrolled (PartIsInRange P levels) (out-BlockPart T p) level
            (λ body some all. (
              second,
              subst (λ (v : Version). All (PartIsInRange P (repeat_levels v levels)) body.parts)
                  second all,
            )))

        reads_part_line : Milds judge → Reads Any whole (PartShape (suc levels) depth)
        reads_part_line milds =
            reads_line Any (part_line judge version) second whole whole_is (PartShape (suc levels) depth)
            (lenient (part_line judge version) (milds_part judge milds version known)) each_part (unrolled_in known)

    part_reads : Milds judge → (left levels depth : ℕ) → depth + left ≡ 513 → left ≤ levels
        → Reads Any (part judge version left) (PartShape (suc levels) depth)
    unfolding part
    part_reads milds zero levels depth sum enough =
        reads_part_line levels depth shallow_behind (λ n x. refl) (deepest (omega (arith, sum)) (λ n l at. refl))
        (part judge version 0) (λ at. refl) milds
    part_reads milds (suc left) zero depth sum enough = absurd (omega (arith, enough))
    part_reads milds (suc left) (suc levels) depth sum enough =
        reads_part_line (suc levels) depth (λ n. part_behind (part judge version left)) (λ n x. refl)
        (nested (omega (arith, sum)) (part judge version left) (λ n l. refl)
        (part_reads milds left levels (depth + 1) (omega (arith, sum)) (omega (arith, enough))))
        (part judge version (suc left)) (λ at. refl) milds

    -- so many, where they stand in no repeat
    pub parts_read : Milds judge → (levels count : ℕ) → 512 ≤ levels
        → Reads Any (many (part judge version 512) count) (Many (PartShape (suc levels) 1) count)
    parts_read milds levels count enough =
        reads_many (PartShape (suc levels) 1) (part_reads milds 512 levels 1 refl enough) count
