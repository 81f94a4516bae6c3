-- The greatest stretches of equal entries: what they stand for, and how they are found one after the other.
--
-- `stretches` goes from the end: an entry in front of stretches joins the first of them, or begins one. So by
-- induction along the list the blocks of the stretches stand for the list, each stretch has an entry at least, and
-- repeats nest one deep. The code goes from the front: it counts how many of the following entries are the first one,
-- and drops them. That this takes off the first stretch whole is `stretch_first`, by induction along what follows the
-- first entry.
use Rattle.std.proofs.Common.{◌≡◌, ℕ, suc, ◌+◌, ◌≤◌, ◌==◌, Bool, true, false, ◌&&◌, if◌then◌else◌, cond}
use Rattle.std.proofs.Common.{List, [], ◌∷◌, ◌++◌, map, drop, refl, sym, ap, ◌∙◌, arith, add-one, eqb-true}
use Rattle.std.specs.Prelude.{nat_le}
use Rattle.std.specs.List.{prefix_len}
use Rattle.std.proofs.lemmas.Bool.{and_from, le-leb}
use Rattle.std.proofs.lemmas.Bool.Decides.{nat_tests}
use Rattle.script_blocks.specs.declared.blocks.BlockPart.TheVariants.{Item}
use Rattle.script_blocks.specs.declared.blocks.BlockPart.TheViews.{Repeat}
use Rattle.script_blocks.specs.Expansion.{expansion, part_expansion, parts_expansion, repeated}
use Rattle.script_blocks.specs.Nesting.{are_proper, is_body, is_proper, is_proper_part, nesting, part_nesting}
use Rattle.script_blocks.specs.Nesting.{parts_nesting}
use Rattle.script_blocks.proofs.Expansions.{expansion_item, expansion_repeat, nesting_item, nesting_repeat, proper_item}
use Rattle.script_blocks.proofs.Expansions.{proper_repeat}
use Rattle.script_blocks.proofs.Repetitions.{repeated_next, repeated_once}
use Rattle.cert_text.specs.Stretches.{Stretch, before_stretches, stretch_blocks, stretch_part, stretches}

single : (x : ℕ) → parts_expansion (Item x ∷ []) ≡ x ∷ []
single x = ap (λ (xs : List ℕ). xs ++ []) (expansion_item x)

-- one copy more
next : (n x : ℕ) → repeated (n + 1) (x ∷ []) ≡ x ∷ repeated n (x ∷ [])
next n x = ap (λ (k : ℕ). repeated k (x ∷ [])) (add-one n) ∙ repeated_next n (x ∷ [])

-- a stretch stands for so many equal entries
stretch_expansion : (times entry : ℕ)
    → part_expansion (stretch_part (record { times = times; entry = entry })) ≡ repeated times (entry ∷ [])
stretch_expansion times entry = by_test (times == 1) refl
  where
    by_test : (t : Bool) → (times == 1) ≡ t
        → part_expansion (if t then Item entry else Repeat times (record { parts = Item entry ∷ [] }))
        ≡ repeated times (entry ∷ [])
    by_test true e =
        let one : 1 ≡ times = sym (eqb-true times 1 e) in
        expansion_item entry ∙ sym (repeated_once (entry ∷ [])) ∙ ap (λ (k : ℕ). repeated k (entry ∷ [])) one
    by_test false e =
        expansion_repeat times (record { parts = Item entry ∷ [] }) ∙ ap (repeated times) (single entry)

before_expansion : (x : ℕ) (ss : List Stretch)
    → parts_expansion (map stretch_part (before_stretches x ss)) ≡ x ∷ parts_expansion (map stretch_part ss)
before_expansion x [] = single x
before_expansion x (s ∷ others) = by_test (s.entry == x) refl
  where
    by_test : (t : Bool) → (s.entry == x) ≡ t
        → parts_expansion (map stretch_part (if t then record { times = s.times + 1; entry = x }
        ∷ others else record { times = 1; entry = x } ∷ (s ∷ others)))
        ≡ x ∷ parts_expansion (map stretch_part (s ∷ others))
    by_test true e =
        let same : x ≡ s.entry = sym (eqb-true s.entry x e) in
        let behind = parts_expansion (map stretch_part others) in
        let more : repeated (s.times + 1) (x ∷ []) ≡ x ∷ part_expansion (stretch_part s) =
        next s.times x
        ∙ ap (λ (entry : ℕ). x ∷ repeated s.times (entry ∷ [])) same
        ∙ ap (λ (xs : List ℕ). x ∷ xs) (sym (stretch_expansion s.times s.entry)) in
        ap (λ (xs : List ℕ). xs ++ behind) (stretch_expansion (s.times + 1) x ∙ more)
    by_test false e = ap (λ (xs : List ℕ). xs ++ parts_expansion (map stretch_part (s ∷ others))) (expansion_item x)

-- the stretches of a list stand for it
pub stretched : (es : List ℕ) → expansion (stretch_blocks es) ≡ es
stretched [] = refl
stretched (e ∷ es) = before_expansion e (stretches es) ∙ ap (λ (xs : List ℕ). e ∷ xs) (stretched es)

-- Each has an entry at least

abbrev AreSome : List Stretch → Type 0
AreSome [] = Unit {0}
AreSome (s ∷ ss) = (1 ≤ s.times) × AreSome ss

before_some : (x : ℕ) (ss : List Stretch) → AreSome ss → AreSome (before_stretches x ss)
before_some x [] all = (omega arith, tt)
before_some x (s ∷ others) all = by_test (s.entry == x)
  where
    by_test : (t : Bool) → AreSome (if t then record { times = s.times + 1; entry = x }
        ∷ others else record { times = 1; entry = x } ∷ (s ∷ others))
    by_test true = (omega arith, all.1)
    by_test false = (omega arith, all)

stretches_some : (es : List ℕ) → AreSome (stretches es)
stretches_some [] = tt
stretches_some (e ∷ es) = before_some e (stretches es) (stretches_some es)

more_than_one : (times : ℕ) → 1 ≤ times → (times == 1) ≡ false → 2 ≤ times
more_than_one times some e = grind (arith, nat_tests)

stretch_proper : (times entry : ℕ) → 1 ≤ times → is_proper_part (stretch_part (record { times = times; entry = entry }))
    ≡ true
stretch_proper times entry some = by_test (times == 1) refl
  where
    by_test : (t : Bool) → (times == 1) ≡ t
        → is_proper_part (if t then Item entry else Repeat times (record { parts = Item entry ∷ [] })) ≡ true
    by_test true e = proper_item entry
    by_test false e =
        let body : is_body (map is_proper_part (Item entry ∷ [])) ≡ true =
        ap (λ (b : Bool). b && true) (proper_item entry) in
        proper_repeat times (record { parts = Item entry ∷ [] })
        ∙ and_from (nat_le 2 times) (is_body (map is_proper_part (Item entry ∷ [])))
        (le-leb 2 times (more_than_one times some e)) body

parts_proper : (ss : List Stretch) → AreSome ss → are_proper (map stretch_part ss) ≡ true
parts_proper [] all = refl
parts_proper (s ∷ ss) all = and_from (is_proper_part (stretch_part s)) (are_proper (map stretch_part ss))
    (stretch_proper s.times s.entry all.0) (parts_proper ss all.1)

stretch_shallow : (times entry : ℕ) → part_nesting (stretch_part (record { times = times; entry = entry })) ≤ 1
stretch_shallow times entry = by_test (times == 1)
  where
    by_test : (t : Bool)
        → part_nesting (if t then Item entry else Repeat times (record { parts = Item entry ∷ [] })) ≤ 1
    by_test true = omega (arith, nesting_item entry)
    by_test false = omega (arith, nesting_repeat times (record { parts = Item entry ∷ [] }), nesting_item entry)

parts_shallow : (ss : List Stretch) → parts_nesting (map stretch_part ss) ≤ 1
parts_shallow [] = omega arith
parts_shallow (s ∷ ss) = let here = stretch_shallow s.times s.entry in let more = parts_shallow ss in omega arith

pub stretched_proper : (es : List ℕ) → is_proper (stretch_blocks es) ≡ true
stretched_proper es = parts_proper (stretches es) (stretches_some es)

pub stretched_shallow : (es : List ℕ) → nesting (stretch_blocks es) ≤ 1
stretched_shallow es = parts_shallow (stretches es)

-- One after the other

abbrev equal_in_front : ℕ → List ℕ → ℕ
equal_in_front x xs = prefix_len (λ (other : ℕ). other == x) xs

-- the first stretch, and those of what follows it
pub stretch_first : (x : ℕ) (xs : List ℕ)
    → stretches (x ∷ xs) ≡ record { times = equal_in_front x xs + 1; entry = x }
    ∷ stretches (drop (equal_in_front x xs) xs)
stretch_first x [] = refl
stretch_first x (y ∷ ys) = ap (before_stretches x) (stretch_first y ys) ∙ by_test (stretch_first y ys) (y == x) refl
  where
    same_front : y ≡ x → equal_in_front y ys ≡ equal_in_front x ys
    same_front e = ap (λ (entry : ℕ). equal_in_front entry ys) e

    made : (a b c d : ℕ) → a ≡ b → c ≡ d → ◌≡◌ {A = List Stretch}
        (record { times = a; entry = x } ∷ stretches (drop c ys))
        (record { times = b; entry = x } ∷ stretches (drop d ys))
    made a b c d p q = ap (λ (n : ℕ). record { times = n; entry = x } ∷ stretches (drop c ys)) p
        ∙ ap (λ (n : ℕ). record { times = b; entry = x } ∷ stretches (drop n ys)) q

    by_test : stretches (y ∷ ys) ≡ record { times = equal_in_front y ys + 1; entry = y }
        ∷ stretches (drop (equal_in_front y ys) ys)
        → (t : Bool) → (y == x) ≡ t
        → (if t then record { times = (equal_in_front y ys + 1) + 1; entry = x }
        ∷ stretches (drop (equal_in_front y ys) ys)
        else record { times = 1; entry = x }
        ∷ (record { times = equal_in_front y ys + 1; entry = y } ∷ stretches (drop (equal_in_front y ys) ys)))
        ≡ record { times = cond t (1 + equal_in_front x ys) 0 + 1; entry = x }
        ∷ stretches (drop (cond t (1 + equal_in_front x ys) 0) (y ∷ ys))
    by_test first true e =
        let front = same_front (eqb-true y x e) in
        let more : 1 + equal_in_front x ys ≡ suc (equal_in_front x ys) = omega arith in
        made ((equal_in_front y ys + 1) + 1) ((1 + equal_in_front x ys) + 1) (equal_in_front y ys) (equal_in_front x ys)
        (omega (arith, front)) front
        ∙ ap (λ (n : ℕ). record { times = (1 + equal_in_front x ys) + 1; entry = x } ∷ stretches (drop n (y ∷ ys)))
        (sym more)
    by_test first false e = ap (λ (ss : List Stretch). record { times = 1; entry = x } ∷ ss) (sym first)
