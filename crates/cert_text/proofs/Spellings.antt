-- The lines of each place are read as they are written.
--
-- For each kind of line `IsSpelled` joins four facts: it has a word at least, its words are words, they are judged as
-- the value (`back`), and a line that is judged as a value is that value's, which is in range (`forth`). A first word
-- tells most kinds from others; behind it each number, class and reference is read back from its spelling, and too few
-- or too many words are refused, which is by cases on the list of words. The version alone is judged by the line as a
-- whole. How the lines follow one another isn't treated here.
use Rattle.std.proofs.Common.{◌≡◌, inl, inr, ℕ, ◌<◌, ◌≤◌, true, nat_le, List, [], ◌∷◌, Result, Ok, Err}
use Rattle.std.proofs.Common.{codes, decimal, map, length, refl, ap, arith}
use Rattle.std.specs.Prelude.{bytes_eq}
use Rattle.std.specs.List.{join_with_byte, list_all}
use Rattle.std.proofs.lemmas.Bool.{cases_Bool}
use Rattle.std.proofs.lemmas.Bool.Decides.{nat_tests}
use Rattle.std.proofs.lemmas.List.{length-map}
use Rattle.std.proofs.lemmas.Slice.Eq.{bytes_eq-Decides}
use Rattle.net_core.specs.declared.network.Channel.{Channel}
use Rattle.net_core.specs.declared.network.Event.{Event}
use Rattle.net_core.specs.declared.network.Event.TheVariants.{Get, Fire, Put}
use Rattle.net_text.specs.NetworkText.{class_word}
use Rattle.cert_lines.specs.declared.error.Fault.{Fault}
use Rattle.cert_lines.specs.declared.error.Fault.TheVariants.{Words}
use Rattle.cert_text.specs.declared.places.ProcessHead.{ProcessHead}
use Rattle.cert_text.specs.declared.places.Sizes.{Sizes}
use Rattle.cert_text.specs.declared.places.SourceLine.{SourceLine}
use Rattle.cert_text.specs.declared.places.SourceLine.TheVariants.{Sweep, Tree}
use Rattle.cert_text.specs.declared.places.Version.{Version}
use Rattle.cert_text.specs.declared.places.Version.TheVariants.{One, Two}
use Rattle.cert_text.specs.CertText.{ChannelIsInRange, EventIsInRange, event_words, ref_word}
use Rattle.cert_lines.specs.Words.{IsInRange, both, number}
use Rattle.cert_text.specs.Words.{class, references}
use Rattle.cert_text.specs.Places.{channel_line, entry_line, event_line, fire_words, get_words, process_line, put_words}
use Rattle.cert_text.specs.Places.{sizes_line, source_line, version_line}
use Rattle.cert_lines.proofs.Codecs.{IsSpelled, by_words}
use Rattle.cert_lines.proofs.Verdicts.{at_keyword, behind_keyword, both_ok, made_ok, of_equal, same_words, two_numbers}
use Rattle.cert_text.proofs.WordVerdicts.{class_of_word, class_word_is_word, references_of_words, ref_words_are_words}
use Rattle.cert_text.proofs.WordVerdicts.{word_of_class, words_of_references}
use Rattle.cert_lines.proofs.Numerals.{decimal_of_number, number_of_decimal}
use Rattle.cert_lines.proofs.LineWords.{is_word, word_of_number}

-- Versions

abbrev pub version_words : Version → List (List ℕ)
version_words One = codes "cert" ∷ codes "1" ∷ []
version_words Two = codes "cert" ∷ codes "2" ∷ []

version_forth : (read : List (List ℕ)) (v : Version) → version_line read ≡ Ok v
    → (join_with_byte 32 read ≡ join_with_byte 32 (version_words v)) × Unit {0}
version_forth read v e = elim (at_keyword (join_with_byte 32 read) (codes "cert 1") _ _ v e) [
  | inl here ↦ let same : One ≡ v = let f = here.1 in cc f in rw (← same) (here.0, tt)
  | inr other ↦
      let said = behind_keyword (join_with_byte 32 read) (codes "cert 2") _ v other in
      let same : Two ≡ v = let f = said.1 in cc f in
      rw (← same) (said.0, tt)
]

pub version_spelled : IsSpelled version_line version_words (λ v. Unit {0})
version_spelled = record { some = some; spelled = are_words; back = back; forth = version_forth }
  where
    some : (v : Version) → 0 < length (version_words v)
    some One = omega arith
    some Two = omega arith

    are_words : (v : Version) → Unit {0} → list_all is_word (version_words v) ≡ true
    are_words One k = refl
    are_words Two k = refl

    back : (v : Version) → Unit {0} → version_line (version_words v) ≡ Ok v
    back One k = refl
    back Two k = refl

-- Sizes

abbrev pub sizes_words : Sizes → List (List ℕ)
sizes_words s = codes "sizes" ∷ decimal s.processes ∷ decimal s.channels ∷ decimal s.sources ∷ decimal s.parts ∷ []

pub record SizesAreInRange (s : Sizes) : Type 0 where
  pub processes : IsInRange s.processes
  pub channels : IsInRange s.channels
  pub sources : IsInRange s.sources
  pub parts : IsInRange s.parts

sizes_forth : (read : List (List ℕ)) (s : Sizes) → sizes_line read ≡ Ok s → (read ≡ sizes_words s) × SizesAreInRange s
sizes_forth [] s e = absurd (cc e)
sizes_forth (w ∷ []) s e = absurd (cc e)
sizes_forth (w ∷ (a ∷ [])) s e = absurd (cc e)
sizes_forth (w ∷ (a ∷ (b ∷ []))) s e = absurd (cc e)
sizes_forth (w ∷ (a ∷ (b ∷ (c ∷ [])))) s e = absurd (cc e)
sizes_forth (w ∷ (a ∷ (b ∷ (c ∷ (d ∷ []))))) s e =
    let said = behind_keyword w (codes "sizes") _ s e in
    let k = made_ok _ (both (both (number a) (number b)) (both (number c) (number d))) s said.1 in
    let halves = both_ok (both (number a) (number b)) (both (number c) (number d)) k.0 k.1 in
    let first = two_numbers a b k.0.0 halves.0 in
    let second = two_numbers c d k.0.1 halves.1 in
    let sizes : record { processes = k.0.0.0; channels = k.0.0.1; sources = k.0.1.0; parts = k.0.1.1 } ≡ s = k.2 in
    let words : w ∷ (a ∷ (b ∷ (c ∷ (d ∷ []))))
    ≡ sizes_words (record { processes = k.0.0.0; channels = k.0.0.1; sources = k.0.1.0; parts = k.0.1.1 }) =
    same_words _ _ _ _ said.0 (same_words _ _ _ _ first.0.0
    (same_words _ _ _ _ first.1.0 (same_words _ _ _ _ second.0.0 (same_words _ _ _ _ second.1.0 refl)))) in
    of_equal sizes_words SizesAreInRange (w ∷ (a ∷ (b ∷ (c ∷ (d ∷ []))))) _ s sizes
    (words, record { processes = first.0.1; channels = first.1.1; sources = second.0.1; parts = second.1.1 })
sizes_forth (w ∷ (a ∷ (b ∷ (c ∷ (d ∷ (f ∷ more)))))) s e = absurd (cc e)

pub sizes_spelled : IsSpelled sizes_line sizes_words SizesAreInRange
sizes_spelled = by_words sizes_line sizes_words SizesAreInRange (λ s. omega arith)
    (λ s k. rw (
      word_of_number s.processes k.processes,
      word_of_number s.channels k.channels,
      word_of_number s.sources k.sources,
      word_of_number s.parts k.parts,
    ) refl)
    (λ s k. rw (
      number_of_decimal s.processes k.processes,
      number_of_decimal s.channels k.channels,
      number_of_decimal s.sources k.sources,
      number_of_decimal s.parts k.parts,
    ) refl)
    sizes_forth

-- The first line of a process

abbrev pub head_words : ProcessHead → List (List ℕ)
head_words h = codes "process" ∷ decimal h.slots ∷ decimal h.parts ∷ []

abbrev pub HeadIsInRange : ProcessHead → Type 0
HeadIsInRange h = IsInRange h.slots × IsInRange h.parts

head_forth : (read : List (List ℕ)) (h : ProcessHead) → process_line read ≡ Ok h → (read ≡ head_words h)
    × HeadIsInRange h
head_forth [] h e = absurd (cc e)
head_forth (w ∷ []) h e = absurd (cc e)
head_forth (w ∷ (a ∷ [])) h e = absurd (cc e)
head_forth (w ∷ (a ∷ (b ∷ []))) h e =
    let said = behind_keyword w (codes "process") _ h e in
    let k = made_ok _ (both (number a) (number b)) h said.1 in
    let two = two_numbers a b k.0 k.1 in
    let head : record { slots = k.0.0; parts = k.0.1 } ≡ h = k.2 in
    let words : w ∷ (a ∷ (b ∷ [])) ≡ head_words (record { slots = k.0.0; parts = k.0.1 }) =
    same_words _ _ _ _ said.0 (same_words _ _ _ _ two.0.0 (same_words _ _ _ _ two.1.0 refl)) in
    of_equal head_words HeadIsInRange (w ∷ (a ∷ (b ∷ []))) _ h head (words, (two.0.1, two.1.1))
head_forth (w ∷ (a ∷ (b ∷ (c ∷ more)))) h e = absurd (cc e)

pub head_spelled : IsSpelled process_line head_words HeadIsInRange
head_spelled = by_words process_line head_words HeadIsInRange (λ h. omega arith)
    (λ h k. rw (word_of_number h.slots k.0, word_of_number h.parts k.1) refl)
    (λ h k. rw (number_of_decimal h.slots k.0, number_of_decimal h.parts k.1) refl)
    head_forth

-- Events

get_forth : (words : List (List ℕ)) (e : Event) → get_words words ≡ Ok e → (codes "g" ∷ words ≡ event_words e)
    × EventIsInRange e
get_forth [] e said = absurd (cc said)
get_forth (a ∷ []) e said = absurd (cc said)
get_forth (a ∷ (b ∷ [])) e said =
    let k = made_ok (λ (n : ℕ × ℕ). Get n.0 n.1) (both (number a) (number b)) e said in
    let two = two_numbers a b k.0 k.1 in
    let event : Get k.0.0 k.0.1 ≡ e = k.2 in
    let words : codes "g" ∷ (a ∷ (b ∷ [])) ≡ event_words (Get k.0.0 k.0.1) =
    same_words _ _ _ _ refl (same_words _ _ _ _ two.0.0 (same_words _ _ _ _ two.1.0 refl)) in
    of_equal event_words EventIsInRange (codes "g" ∷ (a ∷ (b ∷ []))) _ e event (words, (two.0.1, two.1.1))
get_forth (a ∷ (b ∷ (c ∷ more))) e said = absurd (cc said)

few_words : (n : ℕ) → nat_le n 8 ≡ true → n ≤ 8
few_words n test = grind (arith, nat_tests)

few_test : (n : ℕ) → n ≤ 8 → nat_le n 8 ≡ true
few_test n few = grind (arith, nat_tests)

fire_forth : (words : List (List ℕ)) (e : Event) → fire_words words ≡ Ok e → (codes "f" ∷ words ≡ event_words e)
    × EventIsInRange e
fire_forth words e said = elim (cases_Bool (nat_le (length words) 8)) [
  | inl few ↦
      let k = made_ok Fire (references words) e (rw few at said) in
      let refs = words_of_references words k.0 k.1 in
      let event : Fire k.0 ≡ e = k.2 in
      let count : length k.0 ≤ 8 =
      omega (arith, few_words (length words) few, ap length refs.0, length-map k.0 ref_word) in
      let same : codes "f" ∷ words ≡ event_words (Fire k.0) = ap (λ (ws : List (List ℕ)). codes "f" ∷ ws) refs.0 in
      of_equal event_words EventIsInRange (codes "f" ∷ words) _ e event (same, (count, refs.1))
  | inr many ↦ let f : ◌≡◌ {A = Result Event Fault} (Err Words) (Ok e) = rw many at said in absurd (cc f)
]

put_forth : (words : List (List ℕ)) (e : Event) → put_words words ≡ Ok e → (codes "p" ∷ words ≡ event_words e)
    × EventIsInRange e
put_forth [] e said = absurd (cc said)
put_forth (a ∷ []) e said =
    let k = made_ok Put (number a) e said in
    let n = decimal_of_number a k.0 k.1 in
    let event : Put k.0 ≡ e = k.2 in
    let words : codes "p" ∷ (a ∷ []) ≡ event_words (Put k.0) = same_words _ _ _ _ refl (same_words _ _ _ _ n.0 refl) in
    of_equal event_words EventIsInRange (codes "p" ∷ (a ∷ [])) _ e event (words, n.1)
put_forth (a ∷ (b ∷ more)) e said = absurd (cc said)

first_is : (word wanted : List ℕ) (words : List (List ℕ)) (e : Event) → bytes_eq word wanted ≡ true
    → (wanted ∷ words ≡ event_words e) × EventIsInRange e
    → (word ∷ words ≡ event_words e) × EventIsInRange e
first_is word wanted words e same h = rw ((bytes_eq-Decides word wanted).0 same) h

event_forth : (read : List (List ℕ)) (e : Event) → event_line read ≡ Ok e → (read ≡ event_words e) × EventIsInRange e
event_forth [] e said = absurd (cc said)
event_forth (word ∷ words) e said = elim (cases_Bool (bytes_eq word (codes "g"))) [
  | inl g ↦ first_is word (codes "g") words e g (get_forth words e (rw g at said))
  | inr no_g ↦ elim (cases_Bool (bytes_eq word (codes "f"))) [
    | inl f ↦ first_is word (codes "f") words e f (fire_forth words e (rw (no_g, f) at said))
    | inr no_f ↦ elim (cases_Bool (bytes_eq word (codes "p"))) [
      | inl p ↦ first_is word (codes "p") words e p (put_forth words e (rw (no_g, no_f, p) at said))
      | inr no_p ↦ let wrong : ◌≡◌ {A = Result Event Fault} (Err Words) (Ok e) = rw (no_g, no_f, no_p) at said
          in absurd (cc wrong)
    ]
  ]
]

event_some : (e : Event) → 0 < length (event_words e)
event_some (Get channel slot) = omega arith
event_some (Fire refs) = omega arith
event_some (Put channel) = omega arith

event_are_words : (e : Event) → EventIsInRange e → list_all is_word (event_words e) ≡ true
event_are_words (Get channel slot) k = rw (word_of_number channel k.0, word_of_number slot k.1) refl
event_are_words (Fire refs) k = rw (ref_words_are_words refs k.1) refl
event_are_words (Put channel) k = rw (word_of_number channel k) refl

event_back : (e : Event) → EventIsInRange e → event_line (event_words e) ≡ Ok e
event_back (Get channel slot) k = rw (number_of_decimal channel k.0, number_of_decimal slot k.1) refl
event_back (Fire refs) k =
    let count : length (map ref_word refs) ≤ 8 = omega (arith, k.0, length-map refs ref_word) in
    rw (few_test (length (map ref_word refs)) count, references_of_words refs k.1) refl
event_back (Put channel) k = rw (number_of_decimal channel k) refl

pub event_spelled : IsSpelled event_line event_words EventIsInRange
event_spelled = by_words event_line event_words EventIsInRange event_some event_are_words event_back event_forth

-- Channels

abbrev pub channel_words : Channel → List (List ℕ)
channel_words c = codes "channel" ∷ decimal c.writer ∷ decimal c.reader ∷ decimal c.read ∷ decimal c.capacity
    ∷ class_word c.class ∷ []

channel_forth : (read : List (List ℕ)) (c : Channel) → channel_line read ≡ Ok c → (read ≡ channel_words c)
    × ChannelIsInRange c
channel_forth [] s e = absurd (cc e)
channel_forth (w ∷ []) s e = absurd (cc e)
channel_forth (w ∷ (a ∷ [])) s e = absurd (cc e)
channel_forth (w ∷ (a ∷ (b ∷ []))) s e = absurd (cc e)
channel_forth (w ∷ (a ∷ (b ∷ (c ∷ [])))) s e = absurd (cc e)
channel_forth (w ∷ (a ∷ (b ∷ (c ∷ (d ∷ []))))) s e = absurd (cc e)
channel_forth (w ∷ (a ∷ (b ∷ (c ∷ (d ∷ (o ∷ [])))))) s e =
    let said = behind_keyword w (codes "channel") _ s e in
    let k = made_ok _ (both (both (both (number a) (number b)) (both (number c) (number d))) (class o)) s said.1 in
    let parts = both_ok (both (both (number a) (number b)) (both (number c) (number d))) (class o) k.0 k.1 in
    let halves = both_ok (both (number a) (number b)) (both (number c) (number d)) k.0.0 parts.0 in
    let first = two_numbers a b k.0.0.0 halves.0 in
    let second = two_numbers c d k.0.0.1 halves.1 in
    let last = word_of_class o k.0.1 parts.1 in
    let n = k.0 in
    let channel : record { writer = n.0.0.0; reader = n.0.0.1; read = n.0.1.0; capacity = n.0.1.1; class = n.1 } ≡ s =
    k.2 in
    let words : w ∷ (a ∷ (b ∷ (c ∷ (d ∷ (o ∷ []))))) ≡ channel_words
    (record { writer = n.0.0.0; reader = n.0.0.1; read = n.0.1.0; capacity = n.0.1.1; class = n.1 }) =
    same_words _ _ _ _ said.0 (same_words _ _ _ _ first.0.0
    (same_words _ _ _ _ first.1.0
    (same_words _ _ _ _ second.0.0 (same_words _ _ _ _ second.1.0 (same_words _ _ _ _ last refl))))) in
    of_equal channel_words ChannelIsInRange (w ∷ (a ∷ (b ∷ (c ∷ (d ∷ (o ∷ [])))))) _ s channel
    (words, record { writer = first.0.1; reader = first.1.1; read = second.0.1; capacity = second.1.1 })
channel_forth (w ∷ (a ∷ (b ∷ (c ∷ (d ∷ (o ∷ (f ∷ more))))))) s e = absurd (cc e)

pub channel_spelled : IsSpelled channel_line channel_words ChannelIsInRange
channel_spelled = by_words channel_line channel_words ChannelIsInRange (λ c. omega arith)
    (λ c k. rw (
      word_of_number c.writer k.writer,
      word_of_number c.reader k.reader,
      word_of_number c.read k.read,
      word_of_number c.capacity k.capacity,
      class_word_is_word c.class,
    ) refl)
    (λ c k. rw (
      number_of_decimal c.writer k.writer,
      number_of_decimal c.reader k.reader,
      number_of_decimal c.read k.read,
      number_of_decimal c.capacity k.capacity,
      class_of_word c.class,
    ) refl)
    channel_forth

-- Entries of the schedule

abbrev pub entry_words : ℕ → List (List ℕ)
entry_words process = decimal process ∷ []

entry_forth : (read : List (List ℕ)) (process : ℕ) → entry_line read ≡ Ok process → (read ≡ entry_words process)
    × IsInRange process
entry_forth [] process e = absurd (cc e)
entry_forth (a ∷ []) process e = let n = decimal_of_number a process e in (ap (λ (word : List ℕ). word ∷ []) n.0, n.1)
entry_forth (a ∷ (b ∷ more)) process e = absurd (cc e)

pub entry_spelled : IsSpelled entry_line entry_words IsInRange
entry_spelled = by_words entry_line entry_words IsInRange (λ process. omega arith)
    (λ process few. rw (word_of_number process few) refl)
    (number_of_decimal)
    entry_forth

-- Sources

abbrev pub source_words : SourceLine → List (List ℕ)
source_words Sweep = codes "sweep" ∷ []
source_words Tree = codes "tree" ∷ []

source_forth : (read : List (List ℕ)) (l : SourceLine) → source_line read ≡ Ok l → (read ≡ source_words l) × Unit {0}
source_forth [] l e = absurd (cc e)
source_forth (w ∷ []) l e = elim (cases_Bool (bytes_eq w (codes "sweep"))) [
  | inl sweep ↦
      let f : ◌≡◌ {A = Result SourceLine Fault} (Ok Sweep) (Ok l) = rw sweep at e in
      let said : Sweep ≡ l = cc in
      let words : w ∷ [] ≡ source_words Sweep =
      ap (λ (word : List ℕ). word ∷ []) ((bytes_eq-Decides w (codes "sweep")).0 sweep) in
      of_equal source_words (λ l. Unit {0}) (w ∷ []) Sweep l said (words, tt)
  | inr no_sweep ↦ elim (cases_Bool (bytes_eq w (codes "tree"))) [
    | inl tree ↦
        let f : ◌≡◌ {A = Result SourceLine Fault} (Ok Tree) (Ok l) = rw (no_sweep, tree) at e in
        let said : Tree ≡ l = cc in
        let words : w ∷ [] ≡ source_words Tree =
        ap (λ (word : List ℕ). word ∷ []) ((bytes_eq-Decides w (codes "tree")).0 tree) in
        of_equal source_words (λ l. Unit {0}) (w ∷ []) Tree l said (words, tt)
    | inr no_tree ↦ let wrong : ◌≡◌ {A = Result SourceLine Fault} (Err Words) (Ok l) = rw (no_sweep, no_tree) at e
        in absurd (cc wrong)
  ]
]
source_forth (w ∷ (v ∷ more)) l e = absurd (cc e)

source_some : (l : SourceLine) → 0 < length (source_words l)
source_some Sweep = omega arith
source_some Tree = omega arith

source_are_words : (l : SourceLine) → Unit {0} → list_all is_word (source_words l) ≡ true
source_are_words Sweep k = refl
source_are_words Tree k = refl

source_back : (l : SourceLine) → Unit {0} → source_line (source_words l) ≡ Ok l
source_back Sweep k = refl
source_back Tree k = refl

pub source_spelled : IsSpelled source_line source_words (λ l. Unit {0})
source_spelled = by_words source_line source_words (λ l. Unit {0}) source_some source_are_words source_back source_forth
