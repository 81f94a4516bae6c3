-- What the tests of a leaf's proofs, one system after the other, come to.
--
-- After some tests the count is the number of systems so far, and the rule is that of the first proof, from the start
-- of these tests on, that doesn't refute its system. A further system with a proof at that number changes the rule only
-- where there is none yet, and one past the last proof changes nothing. So at the end the count tells whether there are
-- as many proofs as systems, and then the rule is that of the first proof that fails.
use Rattle.std.proofs.Common.{◌≡◌, ◌+◌, ◌-◌, ◌^◌, ◌<◌, ◌==◌, ℕ, zero, suc, min, List, [], ◌∷◌, ◌++◌, length, drop, cond}
use Rattle.std.proofs.Common.{refl, sym, ap, ◌∙◌, arith}
use Rattle.std.specs.Prelude.{Option, Some, None, slice_get}
use Rattle.std.specs.Option.{option_and_then, option_map, option_or}
use Rattle.int_polyhedra.specs.declared.system.Proof.{Proof}
use Rattle.int_polyhedra.specs.declared.system.Reason.{Reason}
use Rattle.int_polyhedra.specs.declared.system.System.{System}
use Rattle.source_check.specs.declared.tested.Leaf.{Leaf}
use Rattle.source_check.specs.declared.tested.Tested.{Tested}
use Rattle.source_check.specs.declared.verdict.Rule.{Rule}
use Rattle.source_check.specs.declared.verdict.Rule.TheVariants as rule
use Rattle.source_check.specs.Tests.{rule_of, no_test, after_one, after_all, made_systems, leaf_result}
use Rattle.source_check.specs.Verdict.{made_system, refusal_of, system_refusal, proof_rule, proofs_refusal}
use Rattle.source_check.specs.Verdict.{leaf_refusal}
use Rattle.source_check.proofs.Levels.{made_append}
use Rattle.source_tree.specs.Rows.{RowSystem}

-- the tests of two lists of systems, one after the other
pub after_append : (leaf : Leaf) (t : Tested) (xs ys : List (Option System))
    → after_all leaf t (xs ++ ys) ≡ after_all leaf (after_all leaf t xs) ys
after_append leaf t [] ys = refl
after_append leaf t (x ∷ xs) ys = after_append leaf (after_one leaf t x) xs ys

pub tests_append : (leaf : Leaf) (t : Tested) (xs ys : List RowSystem)
    → after_all leaf t (made_systems (xs ++ ys)) ≡ after_all leaf (after_all leaf t (made_systems xs)) (made_systems ys)
tests_append leaf t xs ys =
    ap (after_all leaf t) (made_append xs ys) ∙ after_append leaf t (made_systems xs) (made_systems ys)

or_none : (o : Option Rule) → option_or o None ≡ o
or_none None = refl
or_none (Some x) = refl

or_assoc : (a b c : Option Rule) → option_or (option_or a b) c ≡ option_or a (option_or b c)
or_assoc None b c = refl
or_assoc (Some x) b c = refl

no_proofs : (leaf k : ℕ) (systems : List RowSystem) → proofs_refusal leaf k systems [] ≡ None
no_proofs leaf k [] = refl
no_proofs leaf k (s ∷ systems) = refl

-- the proof at a place, and those after it
next_proof : (leaf k : ℕ) (s : RowSystem) (systems : List RowSystem) (proofs : List Proof) (j : ℕ)
    → proofs_refusal leaf k (s ∷ systems) (drop j proofs)
    ≡ option_or (option_and_then
    (λ proof. option_map (λ reason. rule.Proof leaf k reason) (refusal_of (made_system s.vars s.rows) proof))
    (slice_get proofs j))
    (proofs_refusal leaf (k + 1) systems (drop (suc j) proofs))
next_proof leaf k s systems [] zero = sym (no_proofs leaf (k + 1) systems)
next_proof leaf k s systems [] (suc j) = sym (no_proofs leaf (k + 1) systems)
next_proof leaf k s systems (p ∷ proofs) zero = first (system_refusal s p) where
  first : (o : Option Reason) → proof_rule leaf k o (proofs_refusal leaf (k + 1) systems proofs)
      ≡ option_or (option_map (λ reason. rule.Proof leaf k reason) o) (proofs_refusal leaf (k + 1) systems proofs)
  first None = refl
  first (Some reason) = refl
next_proof leaf k s systems (p ∷ proofs) (suc j) = next_proof leaf k s systems proofs j

record ComesTo (leaf : Leaf) (systems : List RowSystem) (t end : Tested) : Type 0 where
  count : end.count ≡ t.count + length systems
  refused : end.rule ≡ option_or t.rule (proofs_refusal leaf.number t.count systems (drop t.count leaf.proofs.now))

comes_to : (leaf : Leaf) (systems : List RowSystem) (t : Tested) → t.count + length systems < 2 ^ 64
    → ComesTo leaf systems t (after_all leaf t (made_systems systems))
comes_to leaf [] t few = record { count = omega arith; refused = sym (or_none t.rule) }
comes_to leaf (s ∷ systems) t few =
    let one : Option System = made_system s.vars s.rows in
    let next : min (t.count + 1) (2 ^ 64 - 1) ≡ t.count + 1 = omega arith in
    let more : ComesTo leaf systems (after_one leaf t one)
    (after_all leaf (after_one leaf t one) (made_systems systems))
    = comes_to leaf systems (after_one leaf t one) (omega arith) in
    record {
      count = omega (arith, more.count, next);
      refused = more.refused
          ∙ ap (λ k. option_or (option_or t.rule (rule_of leaf one t.count))
          (proofs_refusal leaf.number k systems (drop k leaf.proofs.now))) next
          ∙ or_assoc t.rule (rule_of leaf one t.count)
          (proofs_refusal leaf.number (t.count + 1) systems (drop (t.count + 1) leaf.proofs.now))
          ∙ ap (λ k. option_or t.rule
          (option_or (rule_of leaf one t.count)
          (proofs_refusal leaf.number (t.count + 1) systems (drop k leaf.proofs.now))))
          (let e : t.count + 1 ≡ suc t.count = omega arith in e)
          ∙ ap (option_or t.rule) (sym (next_proof leaf.number t.count s systems leaf.proofs.now t.count));
    }

pub leaf_is : (leaf : Leaf) (systems : List RowSystem) → length systems < 2 ^ 64
    → leaf_result leaf (after_all leaf no_test (made_systems systems))
    ≡ leaf_refusal leaf.number systems leaf.proofs.now
leaf_is leaf systems few =
    let end : Tested = after_all leaf no_test (made_systems systems) in
    let got : ℕ = length leaf.proofs.now in
    let all : ComesTo leaf systems no_test end = comes_to leaf systems no_test (omega arith) in
    let count : end.count ≡ length systems = omega (arith, all.count) in
    ap (λ k. cond (got == k) end.rule (Some (rule.Proofs leaf.number got k))) count
    ∙ ap (λ o. cond (got == length systems) o (Some (rule.Proofs leaf.number got (length systems)))) all.refused
