-- Parts of one kind, one after the other.
use Rattle.std.proofs.Common.{◌≡◌, ℕ, zero, suc, ◌+◌, ◌-◌, ◌<◌, ◌≤◌, arith, List, [], ◌∷◌, ◌++◌, length, Result, Ok}
use Rattle.std.proofs.Common.{Err, append_assoc, append-nil, refl, sym, ap, ◌∙◌}
use Rattle.cert_lines.specs.declared.error.CertError.{CertError}
use Rattle.cert_lines.specs.Reading.{Part, Place, followed_by, many}

-- these items, and then those of a part
abbrev pub items_before : {A : Type 0} → List A → Result (List A × Place) CertError → Result (List A × Place) CertError
items_before items read = followed_by read (λ more at. Ok (items ++ more, at))

join_item : {A : Type 0} (items : List A) (item : A) (read : Result (List A × Place) CertError)
    → items_before items (followed_by read (λ more at. Ok (item ∷ more, at))) ≡ items_before (items ++ item ∷ []) read
join_item items item (Ok found) =
    ap (λ (all : List _). Ok (all, found.1)) (sym (append_assoc items (item ∷ []) found.0))
join_item items item (Err refusal) = refl

-- one more part was read
pub one_read : {A : Type 0} (part : Part A) (items : List A) (count : ℕ) (at next : Place) (item : A)
    → part at ≡ Ok (item, next)
    → items_before items (many part (suc count) at) ≡ items_before (items ++ item ∷ []) (many part count next)
unfolding many
one_read part items count at next item e = rw e (join_item items item (many part count next))

-- one more part was refused
pub one_refused : {A : Type 0} (part : Part A) (items : List A) (count : ℕ) (at : Place) (refusal : CertError)
    → part at ≡ Err refusal
    → items_before items (many part (suc count) at) ≡ Err refusal
unfolding many
one_refused part items count at refusal e = rw e refl

pub all_read : {A : Type 0} (part : Part A) (items : List A) (at : Place)
    → items_before items (many part 0 at) ≡ Ok (items, at)
unfolding many
all_read part items at = ap (λ (all : List _). Ok (all, at)) (append-nil items)

-- the same in a loop that counts up, with the items before it
pub read_on : {A : Type 0} (part : Part A) (items : List A) (count done : ℕ) (at next : Place) (item : A)
    (all : Result (List A × Place) CertError) → done < count
    → items_before items (many part (count - done) at) ≡ all → part at ≡ Ok (item, next)
    → items_before (items ++ item ∷ []) (many part (count - (done + 1)) next) ≡ all
read_on part items count done at next item all within before e =
    let left : count - done ≡ suc (count - (done + 1)) = omega arith in
    sym (one_read part items (count - (done + 1)) at next item e)
    ∙ ap (λ (n : ℕ). items_before items (many part n at)) (sym left) ∙ before

pub refused_on : {A : Type 0} (part : Part A) (items : List A) (count done : ℕ) (at : Place) (refusal : CertError)
    (all : Result (List A × Place) CertError) → done < count
    → items_before items (many part (count - done) at) ≡ all → part at ≡ Err refusal → all ≡ Err refusal
refused_on part items count done at refusal all within before e =
    let left : count - done ≡ suc (count - (done + 1)) = omega arith in
    sym before ∙ ap (λ (n : ℕ). items_before items (many part n at)) left
    ∙ one_refused part items (count - (done + 1)) at refusal e

pub read_out : {A : Type 0} (part : Part A) (items : List A) (count done : ℕ) (at : Place)
    (all : Result (List A × Place) CertError) → count ≤ done
    → items_before items (many part (count - done) at) ≡ all → all ≡ Ok (items, at)
read_out part items count done at all past before =
    let left : count - done ≡ 0 = omega arith in
    sym before ∙ ap (λ (n : ℕ). items_before items (many part n at)) left ∙ all_read part items at

-- there are as many items as parts
item_more : {A : Type 0} (item : A) (count : ℕ) (read : Result (List A × Place) CertError) (all : List A × Place)
    → ((found : List A × Place) → read ≡ Ok found → length found.0 ≡ count)
    → followed_by read (λ values at. Ok (item ∷ values, at)) ≡ Ok all → length all.0 ≡ suc count
item_more item count (Ok found) all each e =
    let same : (item ∷ found.0, found.1) ≡ all = cc in
    sym (ap (λ (f : List _ × Place). length f.0) same) ∙ ap suc (each found refl)
item_more item count (Err refusal) all each e = cc

first_more : {A : Type 0} (part : Part A) (count : ℕ) (first : Result (A × Place) CertError) (all : List A × Place)
    → ((at : Place) (found : List A × Place) → many part count at ≡ Ok found → length found.0 ≡ count)
    → followed_by first (λ value at. followed_by (many part count at) (λ values at. Ok (value ∷ values, at))) ≡ Ok all
    → length all.0 ≡ suc count
first_more part count (Ok item) all each e = item_more item.0 count (many part count item.1) all (each item.1) e
first_more part count (Err refusal) all each e = cc

pub as_many : {A : Type 0} (part : Part A) (count : ℕ) (at : Place) (all : List A × Place) → many part count at ≡ Ok all
    → length all.0 ≡ count
unfolding many
as_many part zero at all e =
    let same : ([], at) ≡ all = cc in
    sym (ap (λ (f : List _ × Place). length f.0) same)
as_many part (suc count) at all e = first_more part count (part at) all (as_many part count) e
