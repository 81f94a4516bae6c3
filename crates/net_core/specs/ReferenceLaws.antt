-- The equality of references is an equivalence, and says that they are the same.
use Rattle.std.proofs.Common.{◌≡◌, true, List, [], ◌∷◌, ap, ap₂, ◌∙◌, refl, eqb-true, eq-eqb}
use Rattle.std.specs.Cmp.{IsPartialEquivalence, IsEquivalence, equiv, nat_eq_equiv}
use Rattle.std.specs.Cmp.Lexicographic.{lists_per, lists_equiv, pointwise}
use Rattle.std.proofs.lemmas.Bool.{and_parts}
use Rattle.net_core.specs.declared.refs.Ref.{Ref}
use Rattle.net_core.specs.declared.refs.Ref.TheVariants.{Zero, Slot}
use Rattle.net_core.specs.References.{ref_eq, refs_eq}

pub ref_same : (x y : Ref) → ref_eq x y ≡ true → x ≡ y
ref_same Zero Zero h = refl
ref_same Zero (Slot k) h = cc
ref_same (Slot k) Zero h = cc
ref_same (Slot k) (Slot j) h = ap Slot (eqb-true k j h)

ref_refl : (x : Ref) → ref_eq x x ≡ true
ref_refl Zero = refl
ref_refl (Slot k) = eq-eqb k k refl

ref_symm : (x y : Ref) → ref_eq x y ≡ ref_eq y x
ref_symm Zero Zero = refl
ref_symm Zero (Slot k) = refl
ref_symm (Slot k) Zero = refl
ref_symm (Slot k) (Slot j) = nat_eq_equiv.symm k j

pub ref_per : IsPartialEquivalence ref_eq
ref_per = record { symm = ref_symm; trans = λ x y z h k. ap (λ w. ref_eq w z) (ref_same x y h) ∙ k }

pub ref_equiv : IsEquivalence ref_eq
ref_equiv = equiv ref_per ref_refl

pub refs_per : IsPartialEquivalence refs_eq
refs_per = lists_per ref_per

pub refs_equiv : IsEquivalence refs_eq
refs_equiv = lists_equiv ref_equiv

pub refs_same : (xs ys : List Ref) → refs_eq xs ys ≡ true → xs ≡ ys
refs_same [] [] h = refl
refs_same [] (y ∷ ys) h = cc
refs_same (x ∷ xs) [] h = cc
refs_same (x ∷ xs) (y ∷ ys) h =
    let parts = and_parts (ref_eq x y) (pointwise ref_eq xs ys) h in
    ap₂ (λ z zs. z ∷ zs) (ref_same x y parts.0) (refs_same xs ys parts.1)
