-- The records of a text: reading shortens the text, and so it gives just the records that `records` lists.
--
-- A record takes at least one byte, if there is one; at the end of a text one record more is left at most, and none
-- behind that. So by induction on a bound above the length of the text the records that are listed are all of the text
-- (`listed_are_records`), and there are no more than bytes, and one. The records of a text are determined: those that
-- were reached stand at its front, and the others are those of the text that is left (`records_after`). So what the
-- code has read is a front of the records that are defined, and all of them where no more is read.
use Rattle.std.proofs.Common.{ℕ, zero, suc, List, ◌≡◌, ◌+◌, ◌<◌, ◌≤◌, ◌∷◌, ◌++◌, [], Bool, true, false, cond, length}
use Rattle.std.proofs.Common.{◌⊎◌, Option, Some, None, refl, sym, ◌∙◌, ap, arith, inl, inr, append_assoc}
use Rattle.std.proofs.lemmas.Bool.{cases_Bool}
use Rattle.std.proofs.lemmas.List.{append-nil}
use Rattle.csv.specs.declared.parser.Config.{Config}
use Rattle.csv.specs.declared.parser.State.{State}
use Rattle.csv.specs.declared.parser.State.TheVariants as st
use Rattle.csv.specs.Machine.{Read, ends_at_end, is_end, next_record, step}
use Rattle.csv.specs.Reading.{AreRecords, Reached, default_config, is_bom, records_from, strip_bom}
use Rattle.array_data.specs.Data.{Record, records_of}

next_cases : (o : Option Read) → (o ≡ None) ⊎ ((p : Read) × (o ≡ Some p))
next_cases None = inl refl
next_cases (Some p) = inr (p, refl)

-- a record at the end of a text leaves the start of a record, and no text
at_end : (b : Bool) (fields : List (List ℕ)) (p : Read) → cond b (Some (fields, st.StartRecord, [])) None ≡ Some p
    → (p.1 ≡ st.StartRecord) × (p.2 ≡ [])
at_end true fields p e = (cc, cc)
at_end false fields p e = cc e

next_at_end : (cfg : Config) (s : State) (fields : List (List ℕ)) (field : List ℕ) (p : Read)
    → next_record cfg s fields field [] ≡ Some p → (p.1 ≡ st.StartRecord) × (p.2 ≡ [])
unfolding next_record
next_at_end cfg s fields field p e = at_end (ends_at_end s) (fields ++ field ∷ []) p e

-- what is left where a byte ends the record
left_at_byte : (fields : List (List ℕ)) (s : State) (rest : List ℕ) (p : Read) → Some (fields, s, rest) ≡ Some p
    → length p.2 ≤ length rest
left_at_byte fields s rest p e = let same : rest ≡ p.2 = cc in omega (arith, ap length same)

-- a record takes at least one byte, if there is one
next_shorter : (cfg : Config) (rest : List ℕ) (b : ℕ) (s : State) (fields : List (List ℕ)) (field : List ℕ) (p : Read)
    → next_record cfg s fields field (b ∷ rest) ≡ Some p → length p.2 ≤ length rest
unfolding next_record
next_shorter cfg [] b s fields field p e = elim (cases_Bool (is_end (step cfg s b).1)) [
  | inl ended ↦ left_at_byte _ _ [] p (rw ended at e)
  | inr going ↦ let none = (next_at_end cfg _ _ _ p (rw going at e)).1 in omega (arith, ap length none)
]
next_shorter cfg (c ∷ more) b s fields field p e = elim (cases_Bool (is_end (step cfg s b).1)) [
  | inl ended ↦ left_at_byte _ _ (c ∷ more) p (rw ended at e)
  | inr going ↦ let less = next_shorter cfg more c _ _ _ p (rw going at e) in omega (arith, less)
]

next_at_start : (cfg : Config) → next_record cfg st.StartRecord [] [] [] ≡ None
unfolding next_record
next_at_start cfg = refl

-- nothing more is reached at the end of a text
nothing_after : (cfg : Config) (rows : List Record) (s : State) (left : List ℕ)
    → Reached cfg st.StartRecord [] rows s left → (rows ≡ []) × (left ≡ [])
unfolding Reached
nothing_after cfg [] s left h = (refl, sym h.1)
nothing_after cfg (row ∷ rows) s left h = absurd (let e = next_at_start cfg in let f = h.1 in cc (sym e ∙ f))

-- there are at most as many records as bytes, and one
pub reached_few : (cfg : Config) (s : State) (text : List ℕ) (rows : List Record) (t : State) (left : List ℕ)
    → Reached cfg s text rows t left → length rows + length left ≤ length text + 1
unfolding Reached
reached_few cfg s text [] t left h = let same = h.1 in omega (arith, ap length same)
reached_few cfg s [] (row ∷ rows) t left h =
    let e = next_at_end cfg s [] [] h.0 h.1 in
    let none = nothing_after cfg rows t left (rw (e.0, e.1) at h.3) in
    rw (none.0, none.1) (omega arith)
reached_few cfg s (b ∷ text) (row ∷ rows) t left h =
    let less = next_shorter cfg text b s [] [] h.0 h.1 in
    let few = reached_few cfg h.0.1 h.0.2 rows t left h.3 in
    omega (arith, less, few)

-- the records that are listed from the end of a text
at_end_of_text : (cfg : Config) (n : ℕ) → AreRecords cfg st.StartRecord [] (records_from cfg n st.StartRecord [])
unfolding Reached records_from
at_end_of_text cfg zero = (st.StartRecord, [], (refl, refl), next_at_start cfg)
at_end_of_text cfg (suc n) = rw (next_at_start cfg) (st.StartRecord, [], (refl, refl), next_at_start cfg)

-- one record more in front
record_before : (cfg : Config) (s : State) (text : List ℕ) (p : Read) (rows : List Record)
    → next_record cfg s [] [] text ≡ Some p → AreRecords cfg p.1 p.2 rows → AreRecords cfg s text (p.0 ∷ rows)
unfolding Reached
record_before cfg s text p rows e more = (more.0, more.1, (p, e, refl, more.2), more.3)

no_records : (cfg : Config) (s : State) (text : List ℕ) → next_record cfg s [] [] text ≡ None → AreRecords cfg s text []
unfolding Reached
no_records cfg s text e = (s, text, (refl, refl), e)

-- what is listed are the records of the text
pub listed_are_records : (cfg : Config) (n : ℕ) (s : State) (text : List ℕ) → length text < n
    → AreRecords cfg s text (records_from cfg n s text)
unfolding records_from
listed_are_records cfg zero s text few = absurd (omega arith)
listed_are_records cfg (suc n) s [] few = elim (next_cases (next_record cfg s [] [] [])) [
  | inl none ↦ rw none (no_records cfg s [] none)
  | inr found ↦
      let e = next_at_end cfg s [] [] found.0 found.1 in
      rw found.1 (record_before cfg s [] found.0 _ found.1 (rw (e.0, e.1) (at_end_of_text cfg n)))
]
listed_are_records cfg (suc n) s (b ∷ text) few = elim (next_cases (next_record cfg s [] [] (b ∷ text))) [
  | inl none ↦ rw none (no_records cfg s (b ∷ text) none)
  | inr found ↦
      let less = next_shorter cfg text b s [] [] found.0 found.1 in
      rw found.1 (record_before cfg s (b ∷ text) found.0 _ found.1
      (listed_are_records cfg n found.0.1 found.0.2 (omega (arith, less, few))))
]

same_parts : (a b : Record) (rows others : List Record) → a ≡ b → rows ≡ others → a ∷ rows ≡ b ∷ others
same_parts a b rows others e f = cc

-- the records of a text begin with those that were reached, and go on with those of what is left
pub records_after : (cfg : Config) (s : State) (text : List ℕ) (seen : List Record) (t : State) (left : List ℕ)
    (rows : List Record)
    → Reached cfg s text seen t left → AreRecords cfg s text rows
    → (rest : List Record) × (rows ≡ seen ++ rest) × AreRecords cfg t left rest
unfolding Reached
records_after cfg s text [] t left rows h all = (rows, refl, rw (h.0, h.1) at all)
records_after cfg s text (row ∷ seen) t left [] h all =
    let none : next_record cfg s [] [] text ≡ None = rw (all.2.0, all.2.1) all.3 in
    absurd (let some = h.1 in cc (sym none ∙ some))
records_after cfg s text (row ∷ seen) t left (other ∷ rows) h all =
    let k = all.2 in
    let same : k.0 ≡ h.0 = let a = k.1 in let b = h.1 in cc (sym a ∙ b) in
    let others : AreRecords cfg k.0.1 k.0.2 rows = (all.0, all.1, k.3, all.3) in
    let more = rw same at others in
    let rest = records_after cfg h.0.1 h.0.2 seen t left rows h.3 more in
    let first : other ≡ row = k.2 ∙ ap (λ (p : Read). p.0) same ∙ sym h.2 in
    (rest.0, same_parts other row rows (seen ++ rest.0) first rest.1, rest.2)

-- no records are those of a text that has none
pub none_left : (cfg : Config) (s : State) (text : List ℕ) (rows : List Record) → next_record cfg s [] [] text ≡ None
    → AreRecords cfg s text rows → rows ≡ []
unfolding Reached
none_left cfg s text [] e all = refl
none_left cfg s text (row ∷ rows) e all = let f = all.2.1 in absurd (cc (sym e ∙ f))

-- without a byte order mark a text is no longer
pub strip_bom_short : (text : List ℕ) → length (strip_bom text) ≤ length text
unfolding strip_bom
strip_bom_short [] = omega arith
strip_bom_short (a ∷ []) = omega arith
strip_bom_short (a ∷ b ∷ []) = omega arith
strip_bom_short (a ∷ b ∷ c ∷ rest) =
    elim (cases_Bool (is_bom a b c)) [ inl ended ↦ rw ended (omega arith) | inr other ↦ rw other (omega arith) ]

pub data_records : (bytes : List ℕ) → AreRecords default_config st.StartRecord (strip_bom bytes) (records_of bytes)
data_records bytes =
    listed_are_records default_config (length (strip_bom bytes) + 1) st.StartRecord (strip_bom bytes) (omega arith)

-- what was read of the data, and the text that is left
pub reached_more : (bytes : List ℕ) (seen : List Record) (row : Record) (t : State) (left : List ℕ)
    → Reached default_config st.StartRecord (strip_bom bytes) (seen ++ row ∷ []) t left
    → (rest : List Record) × (records_of bytes ≡ seen ++ row ∷ rest)
reached_more bytes seen row t left h =
    let k = records_after default_config st.StartRecord (strip_bom bytes) (seen ++ row ∷ []) t left (records_of bytes) h
    (data_records bytes) in
    (k.0, k.1 ∙ append_assoc seen (row ∷ []) k.0)

pub reached_all : (bytes : List ℕ) (seen : List Record) (t : State) (left : List ℕ)
    → Reached default_config st.StartRecord (strip_bom bytes) seen t left
    → next_record default_config t [] [] left ≡ None
    → records_of bytes ≡ seen
reached_all bytes seen t left h none =
    let k = records_after default_config st.StartRecord (strip_bom bytes) seen t left (records_of bytes) h
    (data_records bytes) in
    k.1 ∙ ap (λ (rest : List Record). seen ++ rest) (none_left default_config t left k.0 none k.2) ∙ append-nil seen

pub reached_length : (bytes : List ℕ) (seen : List Record) (t : State) (left : List ℕ)
    → Reached default_config st.StartRecord (strip_bom bytes) seen t left → length seen ≤ length bytes + 1
reached_length bytes seen t left h =
    let few = reached_few default_config st.StartRecord (strip_bom bytes) seen t left h in
    let short = strip_bom_short bytes in
    omega (arith, few, short)
