-- A part by the levels that are left, and what it adds to a list.
--
-- The reading of a part unfolds by its levels, and the code has them as a number that falls. At each line the two
-- agree: an item adds itself; a repeat at no level is too deep, at the line where it stands; and at a level it adds so
-- many times what its parts stand for, which are read at one level less. A repeat that was read has a count of at
-- least 2, since its line was judged so.
use Rattle.std.proofs.Common.{◌≡◌, inl, inr, ℕ, zero, suc, ◌+◌, ◌-◌, ◌<◌, ◌≤◌, Option, Some, None, List}
use Rattle.std.proofs.Common.{[], ◌∷◌, ◌++◌, codes, Result, Ok, Err, ap, ◌∙◌, subst, arith, leb-true}
use Rattle.std.proofs.lemmas.Bool.{cases_Bool}
use Rattle.std.specs.Prelude.{nat_le}
use Rattle.script_blocks.specs.declared.blocks.BlockPart.{BlockPart}
use Rattle.script_blocks.specs.declared.blocks.BlockPart.TheVariants.{Item}
use Rattle.script_blocks.specs.declared.blocks.BlockPart.TheViews.{Repeat}
use Rattle.script_blocks.specs.Expansion.{part_expansion, parts_expansion, repeated}
use Rattle.script_blocks.proofs.Expansions.{expansion_item, expansion_repeat}
use Rattle.cert_lines.specs.declared.error.CertError.{CertError}
use Rattle.cert_lines.specs.declared.error.CertError.TheVariants.{Deep}
use Rattle.cert_lines.specs.declared.error.Fault.{Fault}
use Rattle.cert_lines.specs.declared.error.Fault.TheVariants.{Words, Range}
use Rattle.cert_lines.specs.Words.{both, made, number, words_of}
use Rattle.cert_lines.specs.Reading.{Place, cut_read, first_line, followed_by, line, line_read, many}
use Rattle.cert_lines.proofs.Verdicts.{at_keyword, both_ok, made_ok}
use Rattle.cert_text.specs.declared.places.PartLine.{PartLine}
use Rattle.cert_text.specs.declared.places.PartLine.TheVariants as of_part
use Rattle.cert_text.specs.declared.places.Version.{Version}
use Rattle.cert_text.specs.declared.places.Version.TheVariants.{One, Two}
use Rattle.cert_text.specs.Kept.{lists_of}
use Rattle.cert_text.specs.Places.{part_line, repeat_words}
use Rattle.cert_text.specs.Reading.{part, part_behind, shallow_behind}
use Rattle.cert_text.specs.Words.{at_least}

-- a line that was read said so
said_by : {A : Type 0} (judge : List (List ℕ) → Result A Fault) (at next : Place) (x : A) → line judge at ≡ Ok (x, next)
    → (words : List (List ℕ)) × (judge words ≡ Ok x)
said_by judge at next x e = cut_said (first_line at.text) e
  where
    read_said : (text : List ℕ) (said : Result _ Fault) → line_read at.line text said ≡ Ok (x, next) → said ≡ Ok x
    read_said text (Ok value) e =
        let same : (value, record { line = at.line + 1; text = text }) ≡ (x, next) = cc in
        ap (λ (p : _ × Place). Ok p.0) same
    read_said text (Err Words) e = absurd (cc e)
    read_said text (Err Range) e = absurd (cc e)

    cut_said : (o : Option (List ℕ × List ℕ)) → cut_read judge at.line o ≡ Ok (x, next)
        → (words : List (List ℕ)) × (judge words ≡ Ok x)
    cut_said None e = absurd (cc e)
    cut_said (Some cut) e = (words_of cut.0, read_said cut.1 (judge (words_of cut.0)) e)

-- A repeat's count is at least 2

least_of : (least : ℕ) (said : Result ℕ Fault) (n : ℕ) → at_least least said ≡ Ok n → least ≤ n
least_of least (Ok m) n e = elim (cases_Bool (nat_le least m)) [
  | inl some ↦
      let read : ◌≡◌ {A = Result ℕ Fault} (Ok m) (Ok n) = rw some at e in
      let same : m ≡ n = cc in
      rw (← same) (leb-true least m some)
  | inr low ↦ let wrong : ◌≡◌ {A = Result ℕ Fault} (Err Range) (Ok n) = rw low at e in absurd (cc wrong)
]
least_of least (Err fault) n e = absurd (cc e)

-- the count that a line of a part tells, if it tells one
abbrev IsTwice : {T : Type 0} → PartLine T → Type 0
IsTwice (of_part.Item x) = Unit {0}
IsTwice (of_part.Repeat count parts) = 2 ≤ count

item_twice : {T : Type 0} (said : Result T Fault) (l : PartLine T) → made of_part.Item said ≡ Ok l → IsTwice l
item_twice {T} said l e = let k = made_ok of_part.Item said l e in subst (λ (m : PartLine T). IsTwice m) k.2 tt

repeat_twice : {T : Type 0} (read : List (List ℕ)) (l : PartLine T) → repeat_words read ≡ Ok l → IsTwice l
repeat_twice {T} [] l e = absurd (cc e)
repeat_twice {T} (a ∷ []) l e = absurd (cc e)
repeat_twice {T} (a ∷ (b ∷ [])) l e =
    let k = made_ok (λ (n : ℕ × ℕ). of_part.Repeat n.0 n.1) (both (at_least 2 (number a)) (at_least 1 (number b))) l e
    in
    let p = both_ok (at_least 2 (number a)) (at_least 1 (number b)) k.0 k.1 in
    subst (λ (m : PartLine T). IsTwice m) k.2 (least_of 2 (number a) k.0.0 p.0)
repeat_twice {T} (a ∷ (b ∷ (c ∷ more))) l e = absurd (cc e)

line_twice : {T : Type 0} (item : List (List ℕ) → Result T Fault) (version : Version) (read : List (List ℕ))
    (l : PartLine T)
    → part_line item version read ≡ Ok l → IsTwice l
line_twice item One read l e = item_twice (item read) l e
line_twice item Two [] l e = item_twice (item []) l e
line_twice item Two (word ∷ read) l e =
    elim (at_keyword word (codes "r") (repeat_words read) (made of_part.Item (item (word ∷ read))) l e) [
      | inl here ↦ repeat_twice read l here.1
      | inr other ↦ item_twice (item (word ∷ read)) l other
    ]

module _ {T : Type 0} (item : List (List ℕ) → Result T Fault) (version : Version) where
  pub twice_of_line : (at next : Place) (count parts : ℕ)
      → line (part_line item version) at ≡ Ok (of_part.Repeat count parts, next) → 2 ≤ count
  twice_of_line at next count parts e =
      let said = said_by (part_line item version) at next (of_part.Repeat count parts) e in
      line_twice item version said.0 (of_part.Repeat count parts) said.1

  -- a line that is refused
  pub part_refused : (levels : ℕ) (at : Place) (refusal : CertError) → line (part_line item version) at ≡ Err refusal
      → part item version levels at ≡ Err refusal
  unfolding part
  part_refused zero at refusal e = ap (λ read. followed_by read (shallow_behind at.line)) e
  part_refused (suc levels) at refusal e = ap (λ read. followed_by read (part_behind (part item version levels))) e

  part_item : (levels : ℕ) (at next : Place) (x : T) → line (part_line item version) at ≡ Ok (of_part.Item x, next)
      → part item version levels at ≡ Ok (Item x, next)
  unfolding part
  part_item zero at next x e = ap (λ read. followed_by read (shallow_behind at.line)) e
  part_item (suc levels) at next x e = ap (λ read. followed_by read (part_behind (part item version levels))) e

  -- a repeat where no level is left
  pub part_deep : (levels : ℕ) (at next : Place) (count parts : ℕ) → levels ≡ 0
      → line (part_line item version) at ≡ Ok (of_part.Repeat count parts, next)
      → part item version levels at ≡ Err (Deep at.line)
  unfolding part
  part_deep zero at next count parts none e = ap (λ read. followed_by read (shallow_behind at.line)) e
  part_deep (suc levels) at next count parts none e = absurd (omega arith)

  part_repeat : (levels : ℕ) (at next : Place) (count parts : ℕ) → 0 < levels
      → line (part_line item version) at ≡ Ok (of_part.Repeat count parts, next)
      → part item version levels at ≡ part_behind (part item version (levels - 1)) (of_part.Repeat count parts) next
  unfolding part
  part_repeat zero at next count parts some e = absurd (omega arith)
  part_repeat (suc levels) at next count parts some e =
      let less : levels ≡ suc levels - 1 = omega arith in
      ap (λ read. followed_by read (part_behind (part item version levels))) e
      ∙ ap (λ (n : ℕ). part_behind (part item version n) (of_part.Repeat count parts) next) less

  -- what a part adds to a list
  abbrev pub added : List T → Result (BlockPart T × Place) CertError → Result (List T × Place) CertError
  added old read = followed_by read (λ part at. Ok (old ++ part_expansion part, at))

  pub item_added : (levels : ℕ) (at next : Place) (x : T) (old : List T)
      → line (part_line item version) at ≡ Ok (of_part.Item x, next)
      → added old (part item version levels at) ≡ Ok (old ++ x ∷ [], next)
  item_added levels at next x old e =
      ap (added old) (part_item levels at next x e) ∙ ap (λ (xs : List T). Ok (old ++ xs, next)) (expansion_item x)

  repeat_read : (count : ℕ) (old list : List T) (end : Place) (read : Result (List (BlockPart T) × Place) CertError)
      → followed_by read (λ parts at. Ok (parts_expansion parts, at)) ≡ Ok (list, end)
      → added old (followed_by read (λ body at. Ok (Repeat count (record { parts = body }), at)))
      ≡ Ok (old ++ repeated count list, end)
  repeat_read count old list end (Ok found) e =
      let same : (parts_expansion found.0, found.1) ≡ (list, end) = cc in
      let lists : parts_expansion found.0 ≡ list = ap (λ (p : List T × Place). p.0) same in
      let place : found.1 ≡ end = ap (λ (p : List T × Place). p.1) same in
      ap (λ (xs : List T). Ok (old ++ xs, found.1)) (expansion_repeat count (record { parts = found.0 }))
      ∙ ap (λ (xs : List T). Ok (old ++ repeated count xs, found.1)) lists
      ∙ ap (λ (at : Place). Ok (old ++ repeated count list, at)) place
  repeat_read count old list end (Err refusal) e = absurd (cc e)

  pub repeat_added : (levels : ℕ) (at next end : Place) (count parts : ℕ) (old list : List T) → 0 < levels
      → line (part_line item version) at ≡ Ok (of_part.Repeat count parts, next)
      → lists_of (part item version (levels - 1)) parts next ≡ Ok (list, end)
      → added old (part item version levels at) ≡ Ok (old ++ repeated count list, end)
  repeat_added levels at next end count parts old list some e body =
      ap (added old) (part_repeat levels at next count parts some e)
      ∙ repeat_read count old list end (many (part item version (levels - 1)) parts next) body

  refused_read : (count : ℕ) (refusal : CertError) (read : Result (List (BlockPart T) × Place) CertError)
      → followed_by read (λ parts at. Ok (parts_expansion parts, at)) ≡ Err refusal
      → ◌≡◌ {A = Result (BlockPart T × Place) CertError}
      (followed_by read (λ body at. Ok (Repeat count (record { parts = body }), at))) (Err refusal)
  refused_read count refusal (Ok found) e = absurd (cc e)
  refused_read count refusal (Err other) e = let same : other ≡ refusal = cc in ap (λ (r : CertError). Err r) same

  -- a body that is refused
  pub body_refused : (levels : ℕ) (at next : Place) (count parts : ℕ) (refusal : CertError) → 0 < levels
      → line (part_line item version) at ≡ Ok (of_part.Repeat count parts, next)
      → lists_of (part item version (levels - 1)) parts next ≡ Err refusal
      → part item version levels at ≡ Err refusal
  body_refused levels at next count parts refusal some e body =
      part_repeat levels at next count parts some e
      ∙ refused_read count refusal (many (part item version (levels - 1)) parts next) body
