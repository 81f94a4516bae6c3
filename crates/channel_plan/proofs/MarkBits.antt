-- Marks that are kept as bits.
--
-- Words say for each turn whether it is marked (`mark_at`). To set one bit changes that at its own turn alone: another
-- turn of the same word has another bit, and one of another word isn't reached. So behind each mark of a list the words
-- have the marks up to there, and none of a later turn (`HasMarks`); this is inductive, since the next turn has none
-- yet, and gets one exactly where the list has it. At the list's end they say of each of its turns what it says.
use Rattle.std.proofs.Common.{◌≡◌, ◌≢◌, ◌<◌, ◌≤◌, ◌+◌, ◌*◌, ◌/◌, ◌%◌, ◌^◌, ℕ, List, Bool, true, false, length, map, replicate, set}
use Rattle.std.proofs.Common.{get_or, eqb, refl, sym, ap, ◌∙◌, inl, inr, arith, w64, bit_or, eq-eqb, get_or-set_same, get_or-set_other}
use Rattle.std.specs.Int.{bit_at}
use Rattle.std.specs.List.{range_with_len}
use Rattle.std.proofs.lemmas.Bool.{cases_eq}
use Rattle.std.proofs.lemmas.List.{get_or_past, length-replicate}
use Rattle.std.proofs.lemmas.List.FromFn.{fill_by_all, get_or-map-range_with_len, length-map-range_with_len}
use Rattle.std.proofs.lemmas.Nat.Bits.{bit_at_set_same, bit_at_set_other, bit_at-zero}
use Rattle.plain_data.proofs.Lists.{get_or-replicate_same}
use Rattle.channel_plan.specs.MarkBits.{mark_at, marks_in}

-- One bit more

module _ (words : List ℕ) (turn word : ℕ) (room : turn < 64 * length words)
    (read : word ≡ get_or words (turn / 64) 0) where
  abbrev pub with_mark : List ℕ
  with_mark = set words (turn / 64) (bit_or word (1 * 2 ^ (turn % 64) % 2 ^ 64))

  pub mark_there : mark_at with_mark turn ≡ true
  mark_there =
      let v : ℕ = bit_or word (1 * 2 ^ (turn % 64) % 2 ^ 64) in
      ap (λ x. eqb (bit_at x (turn % 64)) 1) (get_or-set_same words (turn / 64) v 0 (omega arith))
      ∙ eq-eqb _ 1 (bit_at_set_same w64 word (turn % 64) (omega arith))

  pub mark_elsewhere : (k : ℕ) → k ≢ turn → mark_at with_mark k ≡ mark_at words k
  mark_elsewhere k other =
      let v : ℕ = bit_or word (1 * 2 ^ (turn % 64) % 2 ^ 64) in
      elim (cases_eq (k / 64) (turn / 64)) [
        | inl same ↦
            ap (λ x. eqb (bit_at (get_or (set words (turn / 64) v) x 0) (k % 64)) 1) same
            ∙ ap (λ x. eqb (bit_at x (k % 64)) 1) (get_or-set_same words (turn / 64) v 0 (omega arith))
            ∙ ap (λ x. eqb x 1) (bit_at_set_other w64 word (turn % 64) (omega arith) (k % 64) (omega arith))
            ∙ ap (λ x. eqb (bit_at x (k % 64)) 1) (read ∙ ap (λ x. get_or words x 0) (sym same))
        | inr apart ↦ ap (λ x. eqb (bit_at x (k % 64)) 1) (get_or-set_other words (turn / 64) (k / 64) v 0 apart)
      ]

-- A list of marks

-- the words have room for all marks, those of the first so many turns, and none of a later one
pub record HasMarks (marks : List Bool) (turn : ℕ) (words : List ℕ) : Type 0 where
  pub room : length marks ≤ 64 * length words
  pub below : (k : ℕ) → k < turn → mark_at words k ≡ get_or marks k false
  pub above : (k : ℕ) → turn ≤ k → mark_at words k ≡ false

none_marked : (n k : ℕ) → mark_at (replicate n 0) k ≡ false
none_marked n k =
    ap (λ x. eqb (bit_at x (k % 64)) 1) (get_or-replicate_same n (k / 64) 0)
    ∙ ap (λ x. eqb x 1) (bit_at-zero (k % 64))

pub no_marks : (marks : List Bool) (words : List ℕ) → words ≡ replicate (length marks / 64 + 1) 0
    → HasMarks marks 0 words
no_marks marks words none = record {
  room = omega (arith, ap length none, length-replicate {A = ℕ} (length marks / 64 + 1) 0);
  below = λ k lt. absurd (omega arith);
  above = λ k le. ap (λ ws. mark_at ws k) none ∙ none_marked (length marks / 64 + 1) k;
}

module _ (marks : List Bool) (turn : ℕ) (words : List ℕ) (had : HasMarks marks turn words) where
  -- the next turn is marked
  pub marks_with : (more : List ℕ) → length more ≡ length words → mark_at more turn ≡ true
      → ((k : ℕ) → k ≢ turn → mark_at more k ≡ mark_at words k) → get_or marks turn false ≡ true
      → HasMarks marks (turn + 1) more
  marks_with more long here others is = record {
    room = omega (arith, had.room, long);
    below = λ k lt. elim (cases_eq k turn) [
      | inl same ↦ ap (mark_at more) same ∙ here ∙ sym is ∙ ap (λ j. get_or marks j false) (sym same)
      | inr other ↦ others k other ∙ had.below k (omega arith)
    ];
    above = λ k le.
        let other : k ≡ turn → ⊥ = λ e. omega arith in
        others k other ∙ had.above k (omega arith);
  }

  -- the next turn isn't
  pub marks_without : get_or marks turn false ≡ false → HasMarks marks (turn + 1) words
  marks_without isnt = record {
    room = had.room;
    below = λ k lt. elim (cases_eq k turn) [
      | inl same ↦ had.above k (omega arith) ∙ sym isnt ∙ ap (λ j. get_or marks j false) (sym same)
      | inr other ↦ had.below k (omega arith)
    ];
    above = λ k le. had.above k (omega arith);
  }

pub all_marks : (marks : List Bool) (words : List ℕ) → HasMarks marks (length marks) words
    → marks_in (length marks) words ≡ marks
unfolding marks_in
all_marks marks words had =
    sym (fill_by_all (mark_at words) marks (length marks) false refl (λ k lt. sym (had.below k lt)))

-- One mark of so many

pub mark_within : (count : ℕ) (words : List ℕ) (k : ℕ) → k < count
    → get_or (marks_in count words) k false ≡ mark_at words k
unfolding marks_in
mark_within count words k lt = get_or-map-range_with_len (mark_at words) 0 count k k false lt (omega arith)

pub mark_past : (count : ℕ) (words : List ℕ) (k : ℕ) → count ≤ k → get_or (marks_in count words) k false ≡ false
unfolding marks_in
mark_past count words k le =
    get_or_past (map (mark_at words) (range_with_len 0 count)) k false
    (omega (arith, length-map-range_with_len (mark_at words) 0 count))
