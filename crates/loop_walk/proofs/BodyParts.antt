-- A part of a body whose parts all pass.
use Rattle.std.proofs.Common.{◌≡◌, ◌<◌, ℕ, zero, suc, List, [], ◌∷◌, map, length, get_or, ap, ◌∙◌, arith}
use Rattle.std.specs.Prelude.{Bool, IsTrue}
use Rattle.std.specs.List.{list_all}
use Rattle.std.proofs.lemmas.Bool.{and_parts}
use Rattle.sanlp.specs.declared.nest.Node.{Node}

pub part_passes : {A : Type 0} (test : Node → A → Bool) (parts : List Node) (a : A) (i : ℕ) (part : Node)
    → IsTrue (list_all (λ passes. passes a) (map test parts)) → i < length parts → part ≡ get_or parts i part
    → IsTrue (test part a)
part_passes test [] a i part h lt e = absurd (omega arith)
part_passes test (p ∷ parts) a zero part h lt e =
    ap (λ x. test x a) e ∙ (and_parts (test p a) (list_all (λ passes. passes a) (map test parts)) h).0
part_passes test (p ∷ parts) a (suc i) part h lt e =
    part_passes test parts a i part (and_parts (test p a) (list_all (λ passes. passes a) (map test parts)) h).1
    (omega arith) e
