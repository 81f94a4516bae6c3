-- A proof whose rows are numbered anew: once a row is away, or once it is moved behind the others.
use Rattle.std.specs.Prelude.{ℕ, ◌-◌, ◌==◌, ◌||◌, nat_lt, List, map, if◌then◌else◌}
use Rattle.int_polyhedra.specs.declared.system.Proof.{Proof}
use Rattle.int_polyhedra.specs.declared.system.Proof.TheOpen as layer
use Rattle.int_polyhedra.specs.declared.system.Proof.TheFolds.{fold-Proof}
use Rattle.int_polyhedra.specs.declared.system.Proof.TheVariants.{Sum}
use Rattle.int_polyhedra.specs.declared.system.Proof.TheViews.{Cut, Split}
use Rattle.int_polyhedra.specs.declared.system.Term.{Term}
use Rattle.tree_trim.specs.declared.renumbering.Renumbering.{Renumbering}
use Rattle.tree_trim.specs.declared.renumbering.Renumbering.TheVariants.{Behind, Without}

-- the number of row i once row k is away
abbrev pub number_without : ℕ → ℕ → ℕ
number_without k i = if nat_lt k i then i - 1 else i

-- the number of row i once row k is the last one, which has the number n
abbrev pub number_behind : ℕ → ℕ → ℕ → ℕ
number_behind k n i =
    if nat_lt i k || nat_lt n i then i else (if i == k then n else i - 1)

-- the new number of row i
abbrev pub number_by : Renumbering → ℕ → ℕ
number_by (Without k) i = number_without k i
number_by (Behind k n) i = number_behind k n i

-- a term with the new number
abbrev pub term_by : Renumbering → Term → Term
term_by r term = record { row = number_by r term.row; times = term.times }

-- terms with the new numbers
abbrev pub terms_by : Renumbering → List Term → List Term
terms_by r terms = map (term_by r) terms

-- a step with the new numbers, over rests that have them
abbrev pub step_by : Renumbering → layer.Proof-F Proof → Proof
step_by r (layer.Sum terms) = Sum (terms_by r terms)
step_by r (layer.Cut divisor terms rest) = Cut divisor (terms_by r terms) rest
step_by r (layer.Split form above below) = Split form above below

-- The proof with the new numbers. The rows that steps add are behind those of the system, and change their numbers where a
-- row is away.
abbrev pub proof_by : Renumbering → Proof → Proof
proof_by r = fold-Proof Proof (step_by r)

-- a term once row k is away
abbrev pub term_without : ℕ → Term → Term
term_without k = term_by (Without k)

-- terms once row k is away
abbrev pub terms_without : ℕ → List Term → List Term
terms_without k = terms_by (Without k)

-- the proof once row k is away
abbrev pub proof_without : ℕ → Proof → Proof
proof_without k = proof_by (Without k)

-- terms once row k is row n
abbrev pub terms_behind : ℕ → ℕ → List Term → List Term
terms_behind k n = terms_by (Behind k n)

-- the proof once row k is row n, the last of the system's
abbrev pub proof_behind : ℕ → ℕ → Proof → Proof
proof_behind k n = proof_by (Behind k n)
