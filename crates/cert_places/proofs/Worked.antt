-- The definitions on small texts.
--
-- In `cert 2`, `sizes 0 0 0 1`, `r 1 1`, `0`, `end` the third line is wrong in a number: the two lines before it go on to a
-- text, also with `r 2 1`, as is shown by hand, and no text has a repeat that is made once. `cert 3` is wrong in its first
-- line, but not as a number is. The empty text is cut short, and so is one whose `end` lacks its line feed. That is so by
-- the law, since what is read of these texts is computed here. Each kind of refusal has rows of its own below, the lines of
-- which were counted by hand.
use Rattle.std.proofs.Common.{◌≡◌, ℕ, suc, ◌*◌, ◌≤◌, if◌then◌else◌, Some, None, List, [], ◌∷◌, ◌++◌, All, Err, codes}
use Rattle.std.proofs.Common.{length, append-nil, replicate, refl, sym, ap, ◌∙◌, ◌<◌, arith}
use Rattle.std.specs.Prelude.{nat_lt}
use Rattle.std.specs.Fmt.{digits}
use Rattle.std.specs.List.{concat}
use Rattle.std.specs.Option.{option_or}
use Rattle.std.proofs.lemmas.Fmt.{decimal_digit}
use Rattle.std.proofs.lemmas.List.Elements.{All-cons, All-nil}
use Rattle.affine_core.specs.declared.form.Form.{Form}
use Rattle.int_polyhedra.specs.declared.system.Proof.{Proof}
use Rattle.int_polyhedra.specs.declared.system.Proof.TheFolds.{fold-roll-Proof}
use Rattle.int_polyhedra.specs.declared.system.Proof.TheOpen as proof_layer
use Rattle.int_polyhedra.specs.declared.system.Proof.TheVariants.{Sum}
use Rattle.int_polyhedra.specs.declared.system.Proof.TheViews.{Split, rolls-Split, rolls-Sum}
use Rattle.int_polyhedra.specs.declared.system.Term.{Term}
use Rattle.script_blocks.specs.declared.blocks.Blocks.{Blocks}
use Rattle.script_blocks.specs.declared.blocks.BlockPart.{BlockPart}
use Rattle.script_blocks.specs.declared.blocks.BlockPart.TheVariants.{Item}
use Rattle.script_blocks.specs.declared.blocks.BlockPart.TheViews.{Repeat}
use Rattle.script_blocks.specs.Expansion.{expansion, part_expansion, parts_expansion}
use Rattle.script_blocks.proofs.Expansions.{expansion_item, expansion_repeat}
use Rattle.script_blocks.proofs.Repetitions.{length-repeated}
use Rattle.cert_lines.specs.declared.error.CertError.TheVariants.{Deep, Line, Long, Number, Truncated}
use Rattle.cert_lines.specs.Words.{IsInRange}
use Rattle.cert_lines.specs.Reading.{many}
use Rattle.tree_text.specs.Reading.{proof, tree_within}
use Rattle.cert_text.specs.CertText.{ChannelIsInRange, IsInRangeOf, OriginIsInRange, ProcessIsInRange, end_text}
use Rattle.cert_text.specs.CertText.{entry_text, folded_text, head_text, part_text, parts_text, repeat_text, sizes_text}
use Rattle.cert_text.specs.Folding.{Folded, PartIsInRange, long_script, most_events, too_long}
use Rattle.cert_text.specs.Reading.{part, reading}
use Rattle.cert_text.proofs.Proper.{item_in_range, repeat_in_range}
use Rattle.cert_text.proofs.Texts.{text_item, text_repeat}
use Rattle.cert_places.specs.Depths.{NestsTo, OriginNestsTo, part_depths, proof_depths, repeat_levels, step_depths}
use Rattle.cert_places.specs.Places.{IsCutShort, IsFront, IsOutOfRangeAt, IsShallow, IsText, IsTooDeepAt, IsTooLong}
use Rattle.cert_places.specs.Places.{IsWrongAt, pattern}
use Rattle.cert_places.proofs.Blocks.{depths_item, depths_repeat}
use Rattle.cert_places.proofs.ExactPlaces.{deep_is_too_deep, line_is_wrong, number_is_out_of_range}
use Rattle.cert_places.proofs.ExactPlaces.{truncated_is_cut_short, too_long_is_refused}
use Rattle.cert_places.proofs.LineTypes.{second_version}

-- no process, channel or source, and this schedule
abbrev scheduled : List (BlockPart ℕ) → Folded
scheduled parts = record { processes = []; channels = []; sources = []; schedule = record { parts = parts } }

scheduled_nests : (levels : ℕ) (parts : List (BlockPart ℕ)) → IsInRange (length parts)
    → All (PartIsInRange IsInRange levels) parts → NestsTo levels second_version (scheduled parts)
scheduled_nests levels parts count all = record {
  process_count = omega arith;
  channel_count = omega arith;
  source_count = omega arith;
  processes = All-nil (ProcessIsInRange (repeat_levels second_version levels));
  channels = All-nil ChannelIsInRange;
  sources = All-nil (OriginNestsTo levels);
  schedule = record { count = count; parts = all };
}

-- a list of one part
alone : (levels : ℕ) (p : BlockPart ℕ) → PartIsInRange IsInRange levels p → All (PartIsInRange IsInRange levels) (p ∷ [])
alone levels p k = All-cons (PartIsInRange IsInRange levels) p [] k (All-nil (PartIsInRange IsInRange levels))

one_entry_text : IsText (codes "cert 2\nsizes 0 0 0 1\n0\nend\n") (0 ∷ 0 ∷ 0 ∷ 0 ∷ [])
one_entry_text = record {
  levels = 0;
  version = second_version;
  folded = scheduled (Item 0 ∷ []);
  nests = scheduled_nests 0 (Item 0 ∷ []) (omega arith)
      (alone 0 (Item 0) (item_in_range IsInRange 0 0 (omega arith)));
  is_text = ap (λ (text : List ℕ). head_text second_version
      ++ (sizes_text (scheduled (Item 0 ∷ [])) ++ ((text ++ []) ++ end_text))) (text_item entry_text 0)
      ∙ rw (decimal_digit 0 (omega arith), decimal_digit 1 (omega arith)) refl;
  depths_are = ap (λ (ds : List ℕ). 0 ∷ 0 ∷ ((ds ++ []) ++ 0 ∷ [])) (depths_item 0 1);
}

-- `0` and `end` may follow
two_lines_are_a_front : IsFront (codes "cert 2" ∷ codes "sizes 0 0 0 1" ∷ [])
two_lines_are_a_front = record {
  rest = codes "0\nend\n";
  depths = 0 ∷ 0 ∷ [];
  others = 0 ∷ 0 ∷ [];
  in_text = one_entry_text;
  as_many = refl;
  shallow = All-cons IsShallow 0 (0 ∷ []) (omega arith) (All-cons IsShallow 0 [] (omega arith) (All-nil IsShallow));
}

-- the empty text has no whole line, and is none
empty_text_is_cut_short : IsCutShort []
unfolding reading
empty_text_is_cut_short = truncated_is_cut_short [] refl

-- `end` without its line feed
unended_line_is_cut_short : IsCutShort (codes "cert 2\nsizes 0 0 0 1\n0\nend")
unfolding reading many part
unended_line_is_cut_short = truncated_is_cut_short (codes "cert 2\nsizes 0 0 0 1\n0\nend") refl

-- there is no version 3
third_version_is_wrong : IsWrongAt (codes "cert 3\n") 1
unfolding reading
third_version_is_wrong = (line_is_wrong (codes "cert 3\n") 1 refl).0

-- and not in its numbers alone: nothing before it says of which kind the text is
first_line_has_no_range : IsOutOfRangeAt (codes "cert 3\n") 1 → ⊥
first_line_has_no_range at = let late : 1 < 1 = at.later in omega (arith, late)

-- Lines and their patterns

patterns_of_lines : (pattern (codes "process 0 4294967296") ≡ codes "process" ∷ codes "2" ∷ codes "2" ∷ [])
    × (pattern (codes "f z -7") ≡ codes "f" ∷ codes "z" ∷ codes "2" ∷ [])
    × (pattern (codes "m 01 -0") ≡ codes "m" ∷ codes "01" ∷ codes "-0" ∷ [])
    × (pattern (codes "cert 3") ≡ pattern (codes "cert 2"))
patterns_of_lines = (refl, refl, refl, refl)

-- Refusals

-- a word too few, nine references, a zero in front of a number, and something behind `end`
wrong_lines : (reading (codes "cert 2\nsizes 1 0 0 0\nprocess 0\n") ≡ Err (Line 3))
    × (reading (codes "cert 1\nsizes 1 0 0 0\nprocess 0 1\nf z z z z z z z z z\n") ≡ Err (Line 4))
    × (reading (codes "cert 1\nsizes 0 0 0 01\n") ≡ Err (Line 2))
    × (reading (codes "cert 2\nsizes 0 0 0 0\nend\nend\n") ≡ Err (Line 4))
unfolding reading many part
wrong_lines = (refl, refl, refl, refl)

-- there are versions 1 and 2, and no repeats in the first
wrong_versions : (reading (codes "cert 3\n") ≡ Err (Line 1))
    × (reading (codes "cert 1\nsizes 0 0 0 1\nr 2 1\n0\nend\n") ≡ Err (Line 3))
unfolding reading many part
wrong_versions = (refl, refl)

-- 2 ^ 32, a number below 0, a repeat that is made once, and 2 ^ 127 in a form
large_numbers : (reading (codes "cert 2\nsizes 1 0 0 0\nprocess 0 4294967296\n") ≡ Err (Number 3))
    × (reading (codes "cert 1\nsizes 0 -5 0 0\n") ≡ Err (Number 2))
    × (reading (codes "cert 2\nsizes 0 0 0 1\nr 1 1\n") ≡ Err (Number 3))
    × (reading (codes "cert 1\nsizes 0 0 1 0\ntree\nt 170141183460469231731687303715884105728\n") ≡ Err (Number 4))
unfolding reading many part tree_within
large_numbers = (refl, refl, refl, refl)

-- so by the law: there `r 2 1` may stand in the place of `r 1 1`
repeat_made_once_is_out_of_range : IsOutOfRangeAt (codes "cert 2\nsizes 0 0 0 1\nr 1 1\n") 3
repeat_made_once_is_out_of_range =
    number_is_out_of_range (codes "cert 2\nsizes 0 0 0 1\nr 1 1\n") 3 large_numbers.2

-- -0 is no number, and wrong words are told before a number out of range
wrong_before_large : reading (codes "cert 1\nsizes 4294967296 -0 0 0\n") ≡ Err (Line 2)
unfolding reading
wrong_before_large = refl

-- nothing at all, no `end`, and three last lines without a line feed, which aren't judged
short_texts : (reading [] ≡ Err Truncated)
    × (reading (codes "cert 2\nsizes 0 0 0 0\n") ≡ Err Truncated)
    × (reading (codes "cert 2\nsizes 0 0 0 0\nend") ≡ Err Truncated)
    × (reading (codes "cert 2\nsizes 0 0 0 0\n?") ≡ Err Truncated)
    × (reading (codes "cert 2\nsizes 0 0 0 0\nend\n?") ≡ Err Truncated)
unfolding reading many
short_texts = (refl, refl, refl, refl, refl)

-- The first of these repeats is line 3, and number 513 line 515. That one is too deep whatever follows, unless its own
-- words or numbers are wrong.

abbrev repeats : ℕ → List ℕ
repeats count = codes "cert 2\nsizes 0 0 0 1\n" ++ concat (replicate count (codes "r 2 1\n"))

deep_repeats : (reading (repeats 513) ≡ Err (Deep 515)) × (reading (repeats 512) ≡ Err Truncated)
    × (reading (repeats 512 ++ codes "r 1 1\n") ≡ Err (Number 515))
    × (reading (repeats 512 ++ codes "r 2\n") ≡ Err (Line 515))
unfolding reading many part
deep_repeats = (refl, refl, refl, refl)

deep_repeat_is_too_deep : IsTooDeepAt (repeats 513) 515
deep_repeat_is_too_deep = deep_is_too_deep (repeats 513) 515 deep_repeats.0

-- Tests from line 4, and the Splits of a proof from line 5, which count from the proof's root.

abbrev tests : ℕ → List ℕ
tests count = codes "cert 1\nsizes 0 0 1 0\ntree\n" ++ concat (replicate count (codes "t 0\n"))

abbrev splits : ℕ → List ℕ
splits count = codes "cert 1\nsizes 0 0 1 0\ntree\nx\n" ++ concat (replicate count (codes "b 0\n"))

deep_trees : (reading (tests 513) ≡ Err (Deep 516)) × (reading (tests 512) ≡ Err Truncated)
    × (reading (splits 513) ≡ Err (Deep 517)) × (reading (splits 512) ≡ Err Truncated)
unfolding reading many tree_within proof
deep_trees = (refl, refl, refl, refl)

-- a repeat in a repeat, and a proof that splits once

abbrev inner : Blocks ℕ
inner = record { parts = Item 0 ∷ [] }

abbrev outer : Blocks ℕ
outer = record { parts = Repeat 3 inner ∷ [] }

nested : part_depths (Repeat 2 outer) 1 ≡ 1 ∷ 2 ∷ 0 ∷ []
nested =
    depths_repeat 2 outer 1
    ∙ ap (λ (ds : List ℕ). 1 ∷ (ds ++ []))
    (depths_repeat 3 inner 2 ∙ ap (λ (ds : List ℕ). 2 ∷ (ds ++ [])) (depths_item {T = ℕ} 0 3))

depths_sum : (terms : List Term) (d : ℕ) → proof_depths (Sum terms) d ≡ d ∷ []
depths_sum terms d = ap (λ (p : Proof). proof_depths p d) (sym (rolls-Sum terms))
    ∙ ap (λ (f : ℕ → List ℕ). f d) (fold-roll-Proof (ℕ → List ℕ) step_depths (proof_layer.Sum terms))

split_once : (form : Form) → proof_depths (Split form (Sum []) (Sum [])) 1 ≡ 1 ∷ 2 ∷ 2 ∷ []
split_once form =
    ap (λ (p : Proof). proof_depths p 1) (sym (rolls-Split form (Sum []) (Sum [])))
    ∙ ap (λ (f : ℕ → List ℕ). f 1)
    (fold-roll-Proof (ℕ → List ℕ) step_depths (proof_layer.Split form (Sum []) (Sum [])))
    ∙ ap (λ (ds : List ℕ). 1 ∷ (ds ++ proof_depths (Sum []) 2)) (depths_sum [] 2)
    ∙ ap (λ (ds : List ℕ). 1 ∷ 2 ∷ ds) (depths_sum [] 2)

-- A schedule of one entry so many times

abbrev entries : ℕ → Folded
entries count = scheduled (Repeat count inner ∷ [])

entries_length : (count : ℕ) → length (expansion (entries count).schedule) ≡ count * 1
entries_length count =
    ap length (append-nil (part_expansion (Repeat count inner)) ∙ expansion_repeat count inner)
    ∙ length-repeated count (parts_expansion inner.parts)
    ∙ ap (λ (n : ℕ). count * n) (ap length (append-nil (part_expansion (Item 0)) ∙ expansion_item 0))

entries_in_range : (levels count : ℕ) → 2 ≤ count → count ≤ 4294967295
    → All (PartIsInRange IsInRange (suc levels)) (Repeat count inner ∷ [])
entries_in_range levels count twice small =
    alone (suc levels) (Repeat count inner)
    (repeat_in_range IsInRange levels count inner
    (record { twice = twice; count_in_range = small; some = omega arith; parts_in_range = omega arith })
    (alone levels (Item 0) (item_in_range IsInRange levels 0 (omega arith))))

entries_text : (count : ℕ) → parts_text entry_text (entries count).schedule.parts ≡ repeat_text count 1 ++ entry_text 0
entries_text count =
    append-nil (part_text entry_text (Repeat count inner)) ∙ text_repeat entry_text count inner
    ∙ ap (λ (text : List ℕ). repeat_text count 1 ++ text)
    (append-nil (part_text entry_text (Item 0)) ∙ text_item entry_text 0)

twice_text : folded_text second_version (entries 2) ≡ codes "cert 2\nsizes 0 0 0 1\nr 2 1\n0\nend\n"
unfolding digits
twice_text =
    ap (λ (text : List ℕ). head_text second_version ++ (sizes_text (entries 2) ++ (text ++ end_text))) (entries_text 2)

-- two times, it is 1 deep
repeat_made_twice_is_a_text : IsText (codes "cert 2\nsizes 0 0 0 1\nr 2 1\n0\nend\n") (0 ∷ 0 ∷ 1 ∷ 0 ∷ 0 ∷ [])
repeat_made_twice_is_a_text = record {
  levels = 1;
  version = second_version;
  folded = entries 2;
  nests = scheduled_nests 1 (Repeat 2 inner ∷ []) (omega arith) (entries_in_range 0 2 (omega arith) (omega arith));
  is_text = twice_text;
  depths_are = ap (λ (ds : List ℕ). 0 ∷ 0 ∷ ((ds ++ []) ++ 0 ∷ []))
      (depths_repeat 2 inner 1 ∙ ap (λ (ds : List ℕ). 1 ∷ (ds ++ [])) (depths_item {T = ℕ} 0 2));
}

-- 142,606,336 entries are the most, and one more is too long

abbrev long_text : List ℕ
long_text = codes "cert 2\nsizes 0 0 0 1\nr 142606337 1\n0\nend\n"

one_more_text : folded_text second_version (entries 142606337) ≡ long_text
unfolding digits
one_more_text =
    ap (λ (text : List ℕ). head_text second_version ++ (sizes_text (entries 142606337) ++ (text ++ end_text)))
    (entries_text 142606337)

one_more_in_range : IsInRangeOf second_version (entries 142606337)
one_more_in_range = record {
  process_count = omega arith;
  channel_count = omega arith;
  source_count = omega arith;
  processes = All-nil (ProcessIsInRange 512);
  channels = All-nil ChannelIsInRange;
  sources = All-nil OriginIsInRange;
  schedule = record {
    count = omega arith;
    parts = entries_in_range 511 142606337 (omega arith) (omega arith);
  };
}

-- there is no process, so the number told is 0
one_more_is_too_long : IsTooLong long_text 0
one_more_is_too_long = record {
  version = second_version;
  folded = entries 142606337;
  in_range = one_more_in_range;
  is_text = one_more_text;
  long = ap (λ (n : ℕ). option_or (long_script []) (if nat_lt most_events n then Some 0 else None))
      (entries_length 142606337);
}

-- with one entry less the schedule isn't too long
most_is_not_too_long : too_long [] (expansion (entries 142606336).schedule) ≡ None
most_is_not_too_long =
    ap (λ (n : ℕ). option_or (long_script []) (if nat_lt most_events n then Some 0 else None)) (entries_length 142606336)

long_is_refused : reading long_text ≡ Err (Long 0)
long_is_refused = too_long_is_refused long_text 0 one_more_is_too_long
