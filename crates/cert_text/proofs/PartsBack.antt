-- Parts are read as they are written, and as no others. It goes by the number of levels that are left, as for proofs
-- and trees: the line of a part is read back by its spelling, the parts of a repeat by the claim at one level less. At
-- no level a repeat's line is refused, and no repeat is in range, since its body has a part. Version 1 reads items
-- alone, at any level.
use Rattle.std.proofs.Common.{◌≡◌, inl, inr, ℕ, zero, suc, ◌<◌, ◌≤◌, true, false, nat_le, List, [], ◌∷◌, ◌++◌, All}
use Rattle.std.proofs.Common.{Result, Ok, Err, codes, decimal, length, append_assoc, refl, sym, ap, subst, ◌∙◌}
use Rattle.std.proofs.Common.{arith, leb-true, le-leb}
use Rattle.std.specs.Prelude.{bytes_eq}
use Rattle.std.specs.List.{join_with_byte, list_all}
use Rattle.std.proofs.lemmas.Bool.{cases_Bool}
use Rattle.script_blocks.specs.declared.blocks.Blocks.{Blocks}
use Rattle.script_blocks.specs.declared.blocks.BlockPart.{BlockPart, out-BlockPart}
use Rattle.script_blocks.specs.declared.blocks.BlockPart.TheOpen as layer
use Rattle.script_blocks.specs.declared.blocks.BlockPart.TheViews.{Repeat, roll-BlockPart}
use Rattle.script_blocks.specs.declared.blocks.BlockPart.TheViews.{roll-out-BlockPart, rolls-Item, rolls-Repeat}
use Rattle.script_blocks.specs.declared.blocks.BlockPart.TheVariants.{Item}
use Rattle.text_out.specs.Words.{line_text}
use Rattle.cert_lines.specs.declared.error.CertError.{CertError}
use Rattle.cert_lines.specs.declared.error.Fault.{Fault}
use Rattle.cert_lines.specs.declared.error.Fault.TheVariants.{Range}
use Rattle.cert_lines.specs.Words.{IsInRange, both, made, number}
use Rattle.cert_lines.specs.Reading.{Place, line, many}
use Rattle.cert_lines.proofs.Codecs.{IsCodec, IsSpelled, ReadsTo, followed, line_codec, many_codec, of_value}
use Rattle.cert_lines.proofs.Codecs.{reads_first}
use Rattle.cert_lines.proofs.Verdicts.{at_keyword, both_ok, made_ok, same_words}
use Rattle.cert_lines.proofs.Numerals.{decimal_of_number, number_of_decimal}
use Rattle.cert_lines.proofs.LineWords.{is_word, word_of_number}
use Rattle.cert_text.specs.declared.places.PartLine.{PartLine}
use Rattle.cert_text.specs.declared.places.PartLine.TheVariants as of_part
use Rattle.cert_text.specs.declared.places.Version.{Version}
use Rattle.cert_text.specs.declared.places.Version.TheVariants.{One, Two}
use Rattle.cert_text.specs.CertText.{most_levels, part_text, parts_text, repeat_text}
use Rattle.cert_text.specs.Folding.{IsRepeat, LayerIsInRange, PartIsInRange}
use Rattle.cert_text.specs.Places.{part_line, repeat_words}
use Rattle.cert_text.specs.Reading.{part, part_behind, shallow_behind}
use Rattle.cert_text.specs.Words.{at_least}
use Rattle.cert_text.proofs.Proper.{item_in_range, repeat_in_range}
use Rattle.cert_text.proofs.Texts.{text_item, text_repeat}

-- Lines of parts

-- a list of which nothing holds is empty
pub All-none : {A : Type 0} (xs : List A) → 1 ≤ length xs → All (λ (x : A). ⊥) xs → ⊥
All-none [] some all = omega arith
All-none (x ∷ xs) some all = all 0 x (omega arith)

pub at_least_back : (least n : ℕ) → least ≤ n → IsInRange n → at_least least (number (decimal n)) ≡ Ok n
at_least_back least n some few = rw (number_of_decimal n few, le-leb least n some) refl

pub at_least_forth : (least : ℕ) (word : List ℕ) (n : ℕ) → at_least least (number word) ≡ Ok n → (word ≡ decimal n)
    × (IsInRange n × (least ≤ n))
at_least_forth least word n e = judged (number word) refl e
  where
    tested : (m : ℕ) → number word ≡ Ok m → at_least least (Ok m) ≡ Ok n → (word ≡ decimal n)
        × (IsInRange n × (least ≤ n))
    tested m said e = elim (cases_Bool (nat_le least m)) [
      | inl some ↦
          let read : ◌≡◌ {A = Result ℕ Fault} (Ok m) (Ok n) = rw some at e in
          let same : m ≡ n = cc in
          let k = decimal_of_number word m said in
          rw (← same) (k.0, (k.1, leb-true least m some))
      | inr low ↦ let wrong : ◌≡◌ {A = Result ℕ Fault} (Err Range) (Ok n) = rw low at e in absurd (cc wrong)
    ]

    judged : (said : Result ℕ Fault) → number word ≡ said → at_least least said ≡ Ok n → (word ≡ decimal n)
        × (IsInRange n × (least ≤ n))
    judged (Ok m) is e = tested m is e
    judged (Err fault) is e = absurd (cc e)

module _ {T : Type 0} (judge : List (List ℕ) → Result T Fault) (words : T → List (List ℕ)) (P : T → Type 0)
    (spelled : IsSpelled judge words P)
    (no_repeat : (x : T) → P x → (word : List ℕ) (others : List (List ℕ)) → words x ≡ word ∷ others
    → bytes_eq word (codes "r") ≡ false) where
  abbrev text_of : T → List ℕ
  text_of x = line_text (words x)

  abbrev words_of_line : PartLine T → List (List ℕ)
  words_of_line (of_part.Item x) = words x
  words_of_line (of_part.Repeat count parts) = codes "r" ∷ decimal count ∷ decimal parts ∷ []

  -- which lines a version has
  abbrev IsLineOf : Version → PartLine T → Type 0
  IsLineOf version (of_part.Item x) = P x
  IsLineOf One (of_part.Repeat count parts) = ⊥
  IsLineOf Two (of_part.Repeat count parts) = IsRepeat count parts

  abbrev IsLine : Version → List (List ℕ) → PartLine T → Type 0
  IsLine version read l = (join_with_byte 32 read ≡ join_with_byte 32 (words_of_line l)) × IsLineOf version l

  of_line : (version : Version) (read : List (List ℕ)) (x y : PartLine T) → x ≡ y → IsLine version read x
      → IsLine version read y
  of_line version read x y same h = rw (← same) h

  item_forth : (version : Version) (read : List (List ℕ)) (l : PartLine T) → made of_part.Item (judge read) ≡ Ok l
      → IsLine version read l
  item_forth version read l e =
      let k = made_ok of_part.Item (judge read) l e in
      of_line version read (of_part.Item k.0) l k.2 (spelled.forth read k.0 k.1)

  repeat_forth : (read : List (List ℕ)) (l : PartLine T) → repeat_words {T = T} read ≡ Ok l
      → IsLine Two (codes "r" ∷ read) l
  repeat_forth [] l e = absurd (cc e)
  repeat_forth (a ∷ []) l e = absurd (cc e)
  repeat_forth (a ∷ (b ∷ [])) l e =
      let k = made_ok (λ (n : ℕ × ℕ). of_part.Repeat n.0 n.1) (both (at_least 2 (number a)) (at_least 1 (number b))) l e
      in
      let p = both_ok (at_least 2 (number a)) (at_least 1 (number b)) k.0 k.1 in
      let count = at_least_forth 2 a k.0.0 p.0 in
      let parts = at_least_forth 1 b k.0.1 p.1 in
      let same : codes "r" ∷ (a ∷ (b ∷ [])) ≡ codes "r" ∷ (decimal k.0.0 ∷ (decimal k.0.1 ∷ [])) =
      same_words _ _ _ _ refl (same_words _ _ _ _ count.0 (same_words _ _ _ _ parts.0 refl)) in
      of_line Two (codes "r" ∷ (a ∷ (b ∷ []))) (of_part.Repeat k.0.0 k.0.1) l k.2 (
        ap (join_with_byte 32) same,
        record { twice = count.1.1; count_in_range = count.1.0; some = parts.1.1; parts_in_range = parts.1.0 },
      )
  repeat_forth (a ∷ (b ∷ (c ∷ more))) l e = absurd (cc e)

  line_forth : (version : Version) (read : List (List ℕ)) (l : PartLine T) → part_line judge version read ≡ Ok l
      → IsLine version read l
  line_forth One read l e = item_forth One read l e
  line_forth Two [] l e = item_forth Two [] l e
  line_forth Two (word ∷ read) l e =
      elim (at_keyword word (codes "r") (repeat_words read) (made of_part.Item (judge (word ∷ read))) l e) [
        | inl here ↦ let k = repeat_forth read l here.1
            in (ap (λ (w : List ℕ). join_with_byte 32 (w ∷ read)) here.0 ∙ k.0, k.1)
        | inr other ↦ item_forth Two (word ∷ read) l other
      ]

  item_back : (version : Version) (x : T) (read : List (List ℕ)) → P x → words x ≡ read → judge read ≡ Ok x
      → part_line judge version read ≡ Ok (of_part.Item x)
  item_back One x read k is said = rw said refl
  item_back Two x [] k is said = rw said refl
  item_back Two x (word ∷ read) k is said = rw (no_repeat x k word read is, said) refl

  line_back : (version : Version) (l : PartLine T) → IsLineOf version l → part_line judge version (words_of_line l)
      ≡ Ok l
  line_back version (of_part.Item x) k = item_back version x (words x) k refl (spelled.back x k)
  line_back One (of_part.Repeat count parts) k = absurd k
  line_back Two (of_part.Repeat count parts) k =
      rw (at_least_back 2 count k.twice k.count_in_range, at_least_back 1 parts k.some k.parts_in_range) refl

  line_some : (l : PartLine T) → 0 < length (words_of_line l)
  line_some (of_part.Item x) = spelled.some x
  line_some (of_part.Repeat count parts) = omega arith

  line_are_words : (version : Version) (l : PartLine T) → IsLineOf version l → list_all is_word (words_of_line l) ≡ true
  line_are_words version (of_part.Item x) k = spelled.spelled x k
  line_are_words One (of_part.Repeat count parts) k = absurd k
  line_are_words Two (of_part.Repeat count parts) k =
      rw (word_of_number count k.count_in_range, word_of_number parts k.parts_in_range) refl

  part_line_codec : (version : Version)
      → IsCodec (line (part_line judge version)) (λ l. line_text (words_of_line l)) (IsLineOf version)
  part_line_codec version = line_codec (part_line judge version) words_of_line (IsLineOf version)
      (record {
        some = line_some;
        spelled = line_are_words version;
        back = line_back version;
        forth =
            line_forth version;
      })

  -- Parts

  abbrev IsLayer : (BlockPart T → Type 0) → layer.BlockPart-F T (BlockPart T) (Blocks T) → Type 0
  IsLayer inner y = LayerIsInRange P inner y

  -- what a text says behind the line of a part
  behind_line : (version : Version) (levels n : ℕ) (l : PartLine T) (rest : List ℕ) (p : BlockPart T) (more : List ℕ)
      → IsLineOf version l
      → ((m : ℕ) → ReadsTo (part_behind (part judge version levels) l) m rest p more)
      → ReadsTo (part judge version (suc levels)) n (line_text (words_of_line l) ++ rest) p more
  unfolding part
  behind_line version levels n l rest p more k reads =
      let first = (part_line_codec version).back l n rest k in
      let second = reads first.line in
      record {
        line = second.line;
        reads = reads_first (line (part_line judge version)
            (record { line = n; text = line_text (words_of_line l) ++ rest }))
            (part_behind (part judge version levels)) l (record { line = first.line; text = rest })
            (Ok (p, record { line = second.line; text = more })) first.reads second.reads;
      }

  behind_shallow : (version : Version) (n : ℕ) (x : T) (rest : List ℕ) → P x
      → ReadsTo (part judge version 0) n (text_of x ++ rest) (Item x) rest
  unfolding part
  behind_shallow version n x rest k =
      let first = (part_line_codec version).back (of_part.Item x) n rest k in
      record {
        line = first.line;
        reads = reads_first (line (part_line judge version) (record { line = n; text = text_of x ++ rest }))
            (shallow_behind n) (of_part.Item x) (record { line = first.line; text = rest })
            (Ok (Item x, record { line = first.line; text = rest })) first.reads refl;
      }

  item_reads : (version : Version) (levels n : ℕ) (x : T) (rest : List ℕ) → P x
      → ReadsTo (part judge version levels) n (part_text text_of (Item x) ++ rest) (Item x) rest
  item_reads version zero n x rest k =
      subst (λ (text : List ℕ). ReadsTo (part judge version 0) n (text ++ rest) (Item x) rest)
      (sym (text_item text_of x)) (behind_shallow version n x rest k)
  item_reads version (suc levels) n x rest k =
      subst (λ (text : List ℕ). ReadsTo (part judge version (suc levels)) n (text ++ rest) (Item x) rest)
      (sym (text_item text_of x))
      (behind_line version levels n (of_part.Item x) rest (Item x) rest k (λ m. record { line = m; reads = refl }))

  shallow_back : (version : Version) (levels : ℕ) (y : layer.BlockPart-F T (BlockPart T) (Blocks T)) (n : ℕ)
      (rest : List ℕ) → IsLayer (λ _. ⊥) y
      → ReadsTo (part judge version levels) n (part_text text_of (roll-BlockPart T y) ++ rest) (roll-BlockPart T y) rest
  shallow_back version levels (layer.Item x) n rest k =
      subst (λ (p : BlockPart T). ReadsTo (part judge version levels) n (part_text text_of p ++ rest) p rest)
      (sym (rolls-Item x)) (item_reads version levels n x rest k)
  shallow_back version levels (layer.Repeat count body) n rest k = absurd (All-none body.parts k.0.some k.1)

  IsRead : ℕ → List ℕ → BlockPart T → Place → Type 0
  IsRead levels all p next = (all ≡ part_text text_of p ++ next.text) × PartIsInRange P levels p

  item_told : (levels : ℕ) (x : T) (all : List ℕ) (at next : Place) (p : BlockPart T) → P x → all ≡ text_of x ++ at.text
      → ◌≡◌ {A = Result (BlockPart T × Place) CertError} (Ok (Item x, at)) (Ok (p, next)) → IsRead levels all p next
  unfolding IsRead
  item_told levels x all at next p k text e =
      of_value (part_text text_of) (PartIsInRange P levels) all (Item x) p at next e
      (text ∙ ap (λ (front : List ℕ). front ++ at.text) (sym (text_item text_of x)), item_in_range P levels x k)

  shallow_forth : (version : Version) (n : ℕ) (l : PartLine T) (all : List ℕ) (at next : Place) (p : BlockPart T)
      → IsLineOf version l → all ≡ line_text (words_of_line l) ++ at.text
      → shallow_behind n l at ≡ Ok (p, next) → IsRead 0 all p next
  shallow_forth version n (of_part.Item x) all at next p k text e = item_told 0 x all at next p k text e
  shallow_forth version n (of_part.Repeat count parts) all at next p k text e = absurd (cc e)

  plain_forth : (levels : ℕ) (l : PartLine T) (all : List ℕ) (at next : Place) (p : BlockPart T) → IsLineOf One l → all
      ≡ line_text (words_of_line l) ++ at.text
      → part_behind (part judge One levels) l at ≡ Ok (p, next) → IsRead 0 all p next
  plain_forth levels (of_part.Item x) all at next p k text e = item_told 0 x all at next p k text e
  plain_forth levels (of_part.Repeat count parts) all at next p k text e = absurd k

  level_forth : (levels : ℕ) → IsCodec (part judge Two levels) (part_text text_of) (PartIsInRange P levels)
      → (l : PartLine T) (all : List ℕ) (at next : Place) (p : BlockPart T)
      → IsLineOf Two l → all ≡ line_text (words_of_line l) ++ at.text → part_behind (part judge Two levels) l at
      ≡ Ok (p, next) → IsRead (suc levels) all p next
  unfolding IsRead
  level_forth levels inner (of_part.Item x) all at next p k text e = item_told (suc levels) x all at next p k text e
  level_forth levels inner (of_part.Repeat count parts) all at next p k text e =
      let one = followed (many (part judge Two levels) parts at)
      (λ body at. Ok (Repeat count (record { parts = body }), at)) p next e in
      let body = (many_codec (part judge Two levels) (part_text text_of) (PartIsInRange P levels) inner parts).forth at
      one.between one.value one.first in
      let blocks : Blocks T = record { parts = one.value } in
      let head : repeat_text count parts ≡ repeat_text count (length one.value) = ap (repeat_text count) (sym body.1.0)
      in
      let range : IsRepeat count (length one.value) = rw body.1.0 k in
      of_value (part_text text_of) (PartIsInRange P (suc levels)) all
      (Repeat count blocks) p one.between next one.second (
        text ∙ ap (λ (front : List ℕ). front ++ at.text) head
            ∙ ap (λ (more : List ℕ). repeat_text count (length one.value) ++ more) body.0
            ∙ sym (append_assoc (repeat_text count (length one.value)) (parts_text text_of one.value) one.between.text)
            ∙ ap (λ (front : List ℕ). front ++ one.between.text) (sym (text_repeat text_of count blocks)),
        repeat_in_range P levels count blocks range body.1.1,
      )

  repeat_reads : (levels : ℕ) → IsCodec (part judge Two levels) (part_text text_of) (PartIsInRange P levels)
      → (n count : ℕ) (body : Blocks T) (rest : List ℕ)
      → IsRepeat count (length body.parts) → All (PartIsInRange P levels) body.parts
      → ReadsTo (part judge Two (suc levels)) n (part_text text_of (Repeat count body) ++ rest) (Repeat count body) rest
  repeat_reads levels inner n count body rest k all =
      let parts = length body.parts in
      let texts = parts_text text_of body.parts in
      let whole : part_text text_of (Repeat count body) ++ rest ≡ repeat_text count parts ++ (texts ++ rest) =
      ap (λ (text : List ℕ). text ++ rest) (text_repeat text_of count body)
      ∙ append_assoc (repeat_text count parts) texts rest in
      subst (λ (text : List ℕ). ReadsTo (part judge Two (suc levels)) n text (Repeat count body) rest) (sym whole)
      (behind_line Two levels n (of_part.Repeat count parts) (texts ++ rest) (Repeat count body) rest k (λ m.
      let one = (many_codec (part judge Two levels) (part_text text_of) (PartIsInRange P levels) inner parts).back
      body.parts m rest (refl, all) in
      record {
        line = one.line;
        reads = reads_first (many (part judge Two levels) parts (record { line = m; text = texts ++ rest }))
            (λ ps at. Ok (Repeat count (record { parts = ps }), at)) body.parts
            (record { line = one.line; text = rest })
            (Ok (Repeat count body, record { line = one.line; text = rest })) one.reads refl;
      }))

  layer_back : (levels : ℕ) → IsCodec (part judge Two levels) (part_text text_of) (PartIsInRange P levels)
      → (y : layer.BlockPart-F T (BlockPart T) (Blocks T)) (n : ℕ) (rest : List ℕ)
      → IsLayer (PartIsInRange P levels) y → ReadsTo (part judge Two (suc levels)) n
      (part_text text_of (roll-BlockPart T y) ++ rest) (roll-BlockPart T y) rest
  layer_back levels inner (layer.Item x) n rest k =
      subst (λ (p : BlockPart T). ReadsTo (part judge Two (suc levels)) n (part_text text_of p ++ rest) p rest)
      (sym (rolls-Item x)) (item_reads Two (suc levels) n x rest k)
  layer_back levels inner (layer.Repeat count body) n rest k =
      subst (λ (p : BlockPart T). ReadsTo (part judge Two (suc levels)) n (part_text text_of p ++ rest) p rest)
      (sym (rolls-Repeat count body)) (repeat_reads levels inner n count body rest k.0 k.1)

  none_back : (version : Version) (levels : ℕ) (p : BlockPart T) (n : ℕ) (rest : List ℕ) → PartIsInRange P 0 p
      → ReadsTo (part judge version levels) n (part_text text_of p ++ rest) p rest
  unfolding PartIsInRange
  none_back version levels p n rest k = subst (λ (q : BlockPart T). ReadsTo (part judge version levels) n
      (part_text text_of q ++ rest) q rest) (roll-out-BlockPart T p)
      (shallow_back version levels (out-BlockPart T p) n rest k)

  some_back : (levels : ℕ) → IsCodec (part judge Two levels) (part_text text_of) (PartIsInRange P levels)
      → (p : BlockPart T) (n : ℕ) (rest : List ℕ)
      → PartIsInRange P (suc levels) p → ReadsTo (part judge Two (suc levels)) n (part_text text_of p ++ rest) p rest
  unfolding PartIsInRange
  some_back levels inner p n rest k = subst (λ (q : BlockPart T). ReadsTo (part judge Two (suc levels)) n
      (part_text text_of q ++ rest) q rest) (roll-out-BlockPart T p)
      (layer_back levels inner (out-BlockPart T p) n rest k)

  none_forth : (version : Version) (at next : Place) (p : BlockPart T) → part judge version 0 at ≡ Ok (p, next)
      → (at.text ≡ part_text text_of p ++ next.text) × PartIsInRange P 0 p
  unfolding part IsRead
  none_forth version at next p e =
      let one = followed (line (part_line judge version) at) (shallow_behind at.line) p next e in
      let l = (part_line_codec version).forth at one.between one.value one.first in
      shallow_forth version at.line one.value at.text one.between next p l.1 l.0 one.second

  one_forth : (levels : ℕ) (at next : Place) (p : BlockPart T) → part judge One (suc levels) at ≡ Ok (p, next)
      → (at.text ≡ part_text text_of p ++ next.text) × PartIsInRange P 0 p
  unfolding part IsRead
  one_forth levels at next p e =
      let one = followed (line (part_line judge One) at) (part_behind (part judge One levels)) p next e in
      let l = (part_line_codec One).forth at one.between one.value one.first in
      plain_forth levels one.value at.text one.between next p l.1 l.0 one.second

  two_forth : (levels : ℕ) → IsCodec (part judge Two levels) (part_text text_of) (PartIsInRange P levels)
      → (at next : Place) (p : BlockPart T)
      → part judge Two (suc levels) at ≡ Ok (p, next) → (at.text ≡ part_text text_of p ++ next.text)
      × PartIsInRange P (suc levels) p
  unfolding part IsRead
  two_forth levels inner at next p e =
      let one = followed (line (part_line judge Two) at) (part_behind (part judge Two levels)) p next e in
      let l = (part_line_codec Two).forth at one.between one.value one.first in
      level_forth levels inner one.value at.text one.between next p l.1 l.0 one.second

  two_codec : (levels : ℕ) → IsCodec (part judge Two levels) (part_text text_of) (PartIsInRange P levels)
  two_codec zero = record { back = λ p n rest k. none_back Two 0 p n rest k; forth = none_forth Two }
  two_codec (suc levels) =
      record { back = some_back levels (two_codec levels); forth = two_forth levels (two_codec levels) }

  -- of each part that a version has this is the text, and nothing else has this text
  pub part_codec : (version : Version)
      → IsCodec (part judge version 512) (part_text text_of) (PartIsInRange P (most_levels version))
  part_codec One = record { back = λ p n rest k. none_back One 512 p n rest k; forth = one_forth 511 }
  part_codec Two = two_codec 512
