-- The channels of worked reads, computed from the definitions.
use Rattle.std.proofs.Common.{◌≡◌, ℕ, true, false, List, [], ◌∷◌, refl}
use Rattle.std.specs.Prelude.{Option, Some, None}
use Rattle.sanlp.specs.declared.nest.Tag.{Tag}
use Rattle.channel_plan.specs.Tokens.{tokens_among, tokens_below, turns_used, uses_of, writers_of}

abbrev tag : ℕ → ℕ → Option Tag
tag process turn = Some (record { process = process; turn = turn })

-- for j < 2 for i < 2 b[j][i] = a[i][j]
abbrev turned : List (Option Tag)
turned = tag 0 0 ∷ tag 0 2 ∷ tag 0 1 ∷ tag 0 3 ∷ []

turned_uses : uses_of (turns_used 0 turned) ≡ 0 ∷ 2 ∷ 1 ∷ 3 ∷ []
turned_uses = refl

turned_tokens : tokens_below (turns_used 0 turned) 4 ≡ 4
turned_tokens = refl

-- for i < 2 for j < 3 b[i][j] = x[2-j]
abbrev reversed_twice : List (Option Tag)
reversed_twice = tag 0 2 ∷ tag 0 1 ∷ tag 0 0 ∷ tag 0 2 ∷ tag 0 1 ∷ tag 0 0 ∷ []

reversed_uses : uses_of (turns_used 0 reversed_twice) ≡ 2 ∷ 1 ∷ 0 ∷ 2 ∷ 1 ∷ 0 ∷ []
reversed_uses = refl

reversed_tokens : tokens_below (turns_used 0 reversed_twice) 3 ≡ 3
reversed_tokens = refl

-- for i < 4 c[i] = a[i] + b[3]: one turn of four is a token, and its number is 0
abbrev last_alone : List (Option Tag)
last_alone = tag 1 3 ∷ tag 1 3 ∷ tag 1 3 ∷ tag 1 3 ∷ []

last_marks : tokens_among 4 (turns_used 1 last_alone) ≡ false ∷ false ∷ false ∷ true ∷ []
last_marks = refl

last_uses : uses_of (turns_used 1 last_alone) ≡ 0 ∷ 0 ∷ 0 ∷ 0 ∷ []
last_uses = refl

-- a read that has nothing at first, then two points of process 2 and one of process 1
abbrev two_writers : List (Option Tag)
two_writers = None ∷ tag 2 0 ∷ tag 2 2 ∷ tag 1 2 ∷ []

both_writers : writers_of 4 two_writers ≡ 1 ∷ 2 ∷ []
both_writers = refl

second_marks : tokens_among 3 (turns_used 2 two_writers) ≡ true ∷ false ∷ true ∷ []
second_marks = refl

second_uses : uses_of (turns_used 2 two_writers) ≡ 0 ∷ 1 ∷ []
second_uses = refl

first_uses : uses_of (turns_used 1 two_writers) ≡ 0 ∷ []
first_uses = refl
