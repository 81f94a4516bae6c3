-- Systems that are refuted one by one, each by a proof of its own.
use Rattle.std.proofs.Common.{◌≡◌, suc, List, [], ◌∷◌, ◌++◌, length, refl, ap}
use Rattle.int_polyhedra.specs.declared.system.Proof.{Proof}
use Rattle.source_tree.specs.Checked.{AreRefuted}
use Rattle.source_tree.specs.Rows.{RowSystem}

pub AreRefuted-append : (xs ys : List RowSystem) (ps qs : List Proof) → AreRefuted xs ps → AreRefuted ys qs
    → AreRefuted (xs ++ ys) (ps ++ qs)
AreRefuted-append [] ys [] qs h k = k
AreRefuted-append [] ys (p ∷ ps) qs h k = absurd h
AreRefuted-append (x ∷ xs) ys [] qs h k = absurd h
AreRefuted-append (x ∷ xs) ys (p ∷ ps) qs h k = (h.0, AreRefuted-append xs ys ps qs h.1 k)

pub length-AreRefuted : (xs : List RowSystem) (ps : List Proof) → AreRefuted xs ps → length ps ≡ length xs
length-AreRefuted [] [] h = refl
length-AreRefuted [] (p ∷ ps) h = absurd h
length-AreRefuted (x ∷ xs) [] h = absurd h
length-AreRefuted (x ∷ xs) (p ∷ ps) h = ap suc (length-AreRefuted xs ps h.1)
