-- A pair is too long just where its scripts together, or its schedule, have too many items.
--
-- The events of the scripts up to a process never fall as the process rises. So where none up to some process is too
-- many, all together are few, and the least process up to which they are too many is the first that the code meets as
-- it adds up. The code counts no script further than one past the most, which tells as well whether the sum passes it.
use Rattle.std.proofs.Common.{◌≡◌, ℕ, ◌+◌, ◌-◌, ◌<◌, ◌≤◌, Bool, true, false, if◌then◌else◌, Option}
use Rattle.std.proofs.Common.{Some, None, List, [], ◌∷◌, length, take, get_or, refl, sym, ap, ◌∙◌, subst, arith}
use Rattle.std.proofs.Common.{ltb-false, le-ltb}
use Rattle.std.specs.Prelude.{All, nat_lt, find}
use Rattle.std.specs.Option.{option_or}
use Rattle.std.specs.List.{range_with_len, sum_by}
use Rattle.std.proofs.lemmas.List.{get_or-map, length-map, take_all}
use Rattle.std.proofs.lemmas.List.Sums.{sum_by-cons, sum_by-take-le, sum_by_more, sum_by_more_le}
use Rattle.std.proofs.iter.Rest.{range_with_len_first}
use Rattle.plain_data.proofs.Lists.{find-range_with_len_none}
use Rattle.net_core.specs.declared.network.Event.{Event}
use Rattle.cert_text.specs.declared.kept.KeptProcess.{KeptProcess}
use Rattle.cert_text.specs.Folding.{are_long_to, long_script, most_events, too_long}
use Rattle.cert_text.specs.Kept.{scripts_of}

find_none : {X : Type 0} (p : X → Bool) (xs : List X) → ((x : X) → p x ≡ false) → find p xs ≡ None
find_none p [] never = refl
find_none p (x ∷ xs) never = rw (never x) (find_none p xs never)

pub short_so : (scripts : List (List Event)) (schedule : List ℕ) → sum_by length scripts ≤ most_events
    → length schedule ≤ most_events → too_long scripts schedule ≡ None
short_so scripts schedule events entries =
    let each : (p : ℕ) → are_long_to scripts p ≡ false = λ p.
    le-ltb most_events (sum_by length (take (p + 1) scripts))
    (omega (arith, sum_by-take-le (length {A = Event}) scripts (p + 1), events)) in
    let none : long_script scripts ≡ None = find_none (are_long_to scripts) (range_with_len 0 (length scripts)) each in
    let few : nat_lt most_events (length schedule) ≡ false = le-ltb most_events (length schedule) entries in
    ap (λ (o : Option ℕ). option_or o (if nat_lt most_events (length schedule) then Some (length scripts) else None))
    none
    ∙ ap (λ (b : Bool). option_or None (if b then Some (length scripts) else None)) few

none_of : (a b : Option ℕ) → option_or a b ≡ None → (a ≡ None) × (b ≡ None)
none_of None b e = (refl, e)
none_of (Some x) b e = absurd (cc e)

no_test : (t : Bool) (n : ℕ) → ◌≡◌ {A = Option ℕ} (if t then Some n else None) None → t ≡ false
no_test true n e = absurd (cc e)
no_test false n e = refl

all_events : (scripts : List (List Event)) → long_script scripts ≡ None → sum_by length scripts ≤ most_events
all_events [] e = omega arith
all_events (s ∷ more) e =
    let n = length more in
    let fails = find-range_with_len_none (are_long_to (s ∷ more)) 0 (length (s ∷ more))
    e n (omega arith) (omega arith) in
    let le = ltb-false most_events (sum_by length (take (n + 1) (s ∷ more))) fails in
    subst (λ (xs : List (List Event)). sum_by length xs ≤ most_events) (take_all (n + 1) (s ∷ more) (omega arith)) le

pub short_where : (scripts : List (List Event)) (schedule : List ℕ) → too_long scripts schedule ≡ None
    → (sum_by length scripts ≤ most_events) × (length schedule ≤ most_events)
short_where scripts schedule e =
    let parts = none_of (long_script scripts)
    (if nat_lt most_events (length schedule) then Some (length scripts) else None) e in (
      all_events scripts parts.0,
      ltb-false most_events (length schedule) (no_test (nat_lt most_events (length schedule)) (length scripts) parts.1),
    )

-- A walk over the scripts

abbrev pub long_from : List (List Event) → ℕ → Option ℕ
long_from scripts i = find (are_long_to scripts) (range_with_len i (length scripts - i))

pub long_later : (scripts : List (List Event)) (i : ℕ) → i < length scripts → are_long_to scripts i ≡ false
    → long_from scripts (i + 1) ≡ long_from scripts i
long_later scripts i lt few =
    sym (ap (find (are_long_to scripts)) (range_with_len_first i (length scripts) lt)
    ∙ found (are_long_to scripts) i (range_with_len (i + 1) (length scripts - (i + 1))) few)
  where
    found : (p : ℕ → Bool) (x : ℕ) (xs : List ℕ) → p x ≡ false → find p (x ∷ xs) ≡ find p xs
    found p x xs e = rw e refl

pub long_here : (scripts : List (List Event)) (i : ℕ) → i < length scripts → are_long_to scripts i ≡ true
    → long_from scripts i ≡ Some i
long_here scripts i lt many =
    ap (find (are_long_to scripts)) (range_with_len_first i (length scripts) lt)
    ∙ found (are_long_to scripts) i (range_with_len (i + 1) (length scripts - (i + 1))) many
  where
    found : (p : ℕ → Bool) (x : ℕ) (xs : List ℕ) → p x ≡ true → find p (x ∷ xs) ≡ Some x
    found p x xs e = rw e refl

pub long_none : (scripts : List (List Event)) (i : ℕ) → length scripts ≤ i → long_from scripts i ≡ None
long_none scripts i le =
    let none : length scripts - i ≡ 0 = omega arith
    in ap (λ (n : ℕ). find (are_long_to scripts) (range_with_len i n)) none

-- one script more
pub more_events : (ps : List KeptProcess) (i : ℕ) (p : KeptProcess) → i < length ps → p ≡ get_or ps i p
    → sum_by length (take (i + 1) (scripts_of ps)) ≡ sum_by length (take i (scripts_of ps)) + length p.script
more_events ps i p lt is =
    let count : length (scripts_of ps) ≡ length ps = length-map ps (λ (q : KeptProcess). q.script) in
    let inside : i < length (scripts_of ps) = omega arith in
    let here : get_or (scripts_of ps) i p.script ≡ p.script =
    get_or-map (λ (q : KeptProcess). q.script) ps i p p.script lt ∙ ap (λ (q : KeptProcess). q.script) (sym is) in
    sum_by_more (length {A = Event}) (scripts_of ps) i p.script inside
    ∙ ap (λ (s : List Event). sum_by length (take i (scripts_of ps)) + length s) here

pub scripts_count : (ps : List KeptProcess) → length (scripts_of ps) ≡ length ps
scripts_count ps = length-map ps (λ (q : KeptProcess). q.script)

script_sum : (ps : List KeptProcess) → sum_by length (scripts_of ps) ≡ sum_by (λ (p : KeptProcess). length p.script) ps
script_sum [] = refl
script_sum (p ∷ ps) =
    sum_by-cons (length {A = Event}) p.script (scripts_of ps)
    ∙ ap (λ (n : ℕ). length p.script + n) (script_sum ps)
    ∙ sym (sum_by-cons (λ (p : KeptProcess). length p.script) p ps)

-- none of the scripts is too long by itself
pub each_short : (ps : List KeptProcess) (schedule : List ℕ) → too_long (scripts_of ps) schedule ≡ None
    → All (λ (p : KeptProcess). length p.script ≤ most_events) ps
each_short ps schedule e = λ i d lt.
    omega (
      arith,
      sum_by_more_le (λ (p : KeptProcess). length p.script) ps i d lt,
      script_sum ps,
      (short_where (scripts_of ps) schedule e).0,
    )
