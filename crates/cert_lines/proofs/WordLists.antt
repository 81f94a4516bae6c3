-- Values that are gathered word by word: wrong words are told before numbers out of range, wherever they stand.
use Rattle.std.proofs.Common.{◌≡◌, List, [], ◌∷◌, ◌++◌, Result, Ok, Err, append_assoc, refl, ap}
use Rattle.cert_lines.specs.declared.error.Fault.{Fault}
use Rattle.cert_lines.specs.declared.error.Fault.TheVariants.{Words, Range}
use Rattle.cert_lines.specs.Words.{both, made}

-- these values, and then those of others
abbrev pub gathered : {A : Type 0} → Result (List A) Fault → Result (List A) Fault → Result (List A) Fault
gathered front others = made (λ pair. pair.0 ++ pair.1) (both front others)

-- these values, one more, and others: the order in which they are joined is free
pub one_gathered : {A : Type 0} (a : Result (List A) Fault) (one : Result A Fault) (b : Result (List A) Fault)
    → gathered (made (λ pair. pair.0 ++ pair.1 ∷ []) (both a one)) b
    ≡ gathered a (made (λ pair. pair.0 ∷ pair.1) (both one b))
one_gathered (Ok a) (Ok one) (Ok b) = ap (λ (all : List _). Ok all) (append_assoc a (one ∷ []) b)
one_gathered (Ok a) (Ok one) (Err fault) = refl
one_gathered (Ok a) (Err Words) b = refl
one_gathered (Ok a) (Err Range) (Ok b) = refl
one_gathered (Ok a) (Err Range) (Err Words) = refl
one_gathered (Ok a) (Err Range) (Err Range) = refl
one_gathered (Err Words) one b = refl
one_gathered (Err Range) (Ok one) (Ok b) = refl
one_gathered (Err Range) (Ok one) (Err Words) = refl
one_gathered (Err Range) (Ok one) (Err Range) = refl
one_gathered (Err Range) (Err Words) b = refl
one_gathered (Err Range) (Err Range) (Ok b) = refl
one_gathered (Err Range) (Err Range) (Err Words) = refl
one_gathered (Err Range) (Err Range) (Err Range) = refl
