-- Which automaton is the first with too long a script, as the network tells it.
--
-- The automata are made of the statements in order, and each has its process's script as its events, so the test of an
-- automaton is a test of its process's number. Along the statements, from a number on: where no number passes, no
-- automaton does; and where those below a number fail and it passes, its automaton is the first. Nothing else is asked
-- of the nest than that it has as many statements as the network has processes.
use Rattle.std.proofs.Common.{◌≡◌, ◌∙◌, ◌+◌, ◌<◌, ◌≤◌, ℕ, zero, suc, Bool, true, false, cond, Option, Some, None, List, []}
use Rattle.std.proofs.Common.{◌∷◌, length, map, refl, sym, ap, subst, inl, inr, arith}
use Rattle.std.specs.List.{enumerate_from, find}
use Rattle.std.specs.Option.{option_map}
use Rattle.std.proofs.lemmas.Bool.{cases_lt}
use Rattle.net_core.specs.declared.network.Network.{Network}
use Rattle.net_core.specs.Machine.{net_of}
use Rattle.node_automata.specs.Automata.{automata, automaton_of}
use Rattle.node_automata.specs.declared.node.NodeAuto.{NodeAuto}
use Rattle.sanlp.specs.declared.nest.Nest.{Nest}
use Rattle.sanlp.specs.declared.nest.Statement.{Statement}
use Rattle.vhdl_text.specs.Refusal.{are_too_many, first_too_long, is_too_long, process_and_length}

-- process p has too many events
abbrev pub is_long : Network → ℕ → Bool
is_long network p = are_too_many (length ((net_of network).script p))

module _ (nest : Nest) (network : Network) where
  abbrev made : ℕ → List Statement → List NodeAuto
  made k statements =
      map (λ numbered. automaton_of nest network numbered.0 numbered.1) (enumerate_from k statements)

  abbrev first : ℕ → List Statement → Option (ℕ × ℕ)
  first k statements = option_map process_and_length (find is_too_long (made k statements))

  -- an automaton is the first where its process has too many events, and else one behind it
  first_here : (k : ℕ) (s : Statement) (statements : List Statement) → is_long network k ≡ true
      → first k (s ∷ statements) ≡ Some (k, length ((net_of network).script k))
  first_here k s statements long =
      ap (λ (b : Bool). option_map process_and_length
      (cond b (Some (automaton_of nest network k s)) (find is_too_long (made (k + 1) statements)))) long

  first_later : (k : ℕ) (s : Statement) (statements : List Statement) → is_long network k ≡ false
      → first k (s ∷ statements) ≡ first (k + 1) statements
  first_later k s statements short =
      ap (λ (b : Bool). option_map process_and_length
      (cond b (Some (automaton_of nest network k s)) (find is_too_long (made (k + 1) statements)))) short

  none_from : (k : ℕ) (statements : List Statement)
      → ((q : ℕ) → k ≤ q → q < k + length statements → is_long network q ≡ false) → first k statements ≡ None
  none_from k [] short = refl
  none_from k (s ∷ statements) short =
      first_later k s statements (short k (omega arith) (omega arith))
      ∙ none_from (k + 1) statements (λ q low lt. short q (omega arith) (omega arith))

  first_from : (k : ℕ) (statements : List Statement) (p : ℕ) → k ≤ p → p < k + length statements
      → ((q : ℕ) → k ≤ q → q < p → is_long network q ≡ false) → is_long network p ≡ true
      → first k statements ≡ Some (p, length ((net_of network).script p))
  first_from k [] p low lt short long = absurd (omega arith)
  first_from k (s ∷ statements) p low lt short long = elim (cases_lt k p) [
    | inl above ↦
        first_later k s statements (short k (omega arith) above)
        ∙ first_from (k + 1) statements p (omega arith) (omega arith) (λ q low lt. short q (omega arith) lt) long
    | inr here ↦
        (let same : k ≡ p = omega arith in
        subst (λ (q : ℕ). first k (s ∷ statements) ≡ Some (q, length ((net_of network).script q))) same
        (first_here k s statements (subst (λ (q : ℕ). is_long network q ≡ true) (sym same) long)))
  ]

  pub none_found : length nest.statements ≡ length network.processes
      → ((q : ℕ) → q < length network.processes → is_long network q ≡ false)
      → None ≡ option_map process_and_length (first_too_long (automata nest network))
  none_found many short = sym (none_from 0 nest.statements (λ q low lt. short q (omega (arith, many))))

  pub first_found : (p events : ℕ) → length nest.statements ≡ length network.processes
      → p < length network.processes → ((q : ℕ) → q < p → is_long network q ≡ false)
      → events ≡ length ((net_of network).script p) → are_too_many events ≡ true
      → Some (p, events) ≡ option_map process_and_length (first_too_long (automata nest network))
  first_found p events many lt short is long =
      ap (λ (e : ℕ). Some (p, e)) is
      ∙ sym (first_from 0 nest.statements p (omega arith) (omega (arith, many)) (λ q low less. short q less)
      (subst (λ (e : ℕ). are_too_many e ≡ true) is long))
