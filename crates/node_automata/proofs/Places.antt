-- The item at a place of a list that was made from a numbered one, and how many automata there are.
use Rattle.std.proofs.Common.{◌≡◌, ℕ, zero, suc, ◌+◌, Some, List, [], ◌∷◌, map, length, slice_get, refl, ap, arith}
use Rattle.std.specs.List.{enumerate_from}
use Rattle.net_core.specs.declared.network.Network.{Network}
use Rattle.node_automata.specs.Automata.{automata, automaton_of}
use Rattle.sanlp.specs.declared.nest.Nest.{Nest}

made_from : {X Y : Type 0} (f : ℕ × X → Y) (n : ℕ) (xs : List X) (i k : ℕ) (x : X) → n + i ≡ k → slice_get xs i ≡ Some x
    → slice_get (map f (enumerate_from n xs)) i ≡ Some (f (k, x))
made_from f n [] i k x sum e = cc
made_from f n (y ∷ ys) zero k x sum e =
    let same : y ≡ x = cc in let number : n ≡ k = omega arith in rw (same, number) refl
made_from f n (y ∷ ys) (suc i) k x sum e = made_from f (n + 1) ys i k x (omega arith) e

pub made_at : {X Y : Type 0} (f : ℕ × X → Y) (xs : List X) (i : ℕ) (x : X) → slice_get xs i ≡ Some x
    → slice_get (map f (enumerate_from 0 xs)) i ≡ Some (f (i, x))
made_at f xs i x e = made_from f 0 xs i i x (omega arith) e

pub length_made : {X Y : Type 0} (f : ℕ × X → Y) (n : ℕ) (xs : List X) → length (map f (enumerate_from n xs)) ≡ length xs
length_made f n [] = refl
length_made f n (x ∷ xs) = ap suc (length_made f (n + 1) xs)

-- there is one automaton for each statement
pub automata_length : (nest : Nest) (network : Network) → length (automata nest network) ≡ length nest.statements
automata_length nest network =
    length_made (λ numbered. automaton_of nest network numbered.0 numbered.1) 0 nest.statements
