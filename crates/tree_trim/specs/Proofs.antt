-- Rows that a proof names.
use Rattle.std.specs.Prelude.{ℕ, ◌==◌, Bool, ◌||◌, List}
use Rattle.std.specs.List.{list_any}
use Rattle.int_polyhedra.specs.declared.system.Proof.{Proof}
use Rattle.int_polyhedra.specs.declared.system.Proof.TheOpen as layer
use Rattle.int_polyhedra.specs.declared.system.Proof.TheFolds.{fold-Proof}
use Rattle.int_polyhedra.specs.declared.system.Term.{Term}

-- whether one of the terms names row k
abbrev pub terms_name : ℕ → List Term → Bool
terms_name k terms = list_any (λ term. term.row == k) terms

-- whether a step names row k, or one of its rests does
abbrev pub naming_step : ℕ → layer.Proof-F Bool → Bool
naming_step k (layer.Sum terms) = terms_name k terms
naming_step k (layer.Cut divisor terms rest) = terms_name k terms || rest
naming_step k (layer.Split form above below) = above || below

-- whether a step of the proof names row k
abbrev pub names_row : ℕ → Proof → Bool
names_row k = fold-Proof Bool (naming_step k)
