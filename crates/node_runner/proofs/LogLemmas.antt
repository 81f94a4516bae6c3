-- Lists of ends that grow by one.
use Rattle.std.proofs.Common.{◌≡◌, ◌<◌, ◌≤◌, ◌+◌, ◌==◌, ℕ, zero, suc, Bool, true, false, cond, ℤ, Option, Some, None}
use Rattle.std.proofs.Common.{List, [], ◌∷◌, ◌++◌, length, take, slice_get, get_or, refl, sym, ap, ◌∙◌, subst, arith}
use Rattle.std.proofs.Common.{inl, inr}
use Rattle.std.specs.Prelude.{slice_index_or}
use Rattle.std.specs.Option.{option_map_or, option_and_then}
use Rattle.std.specs.declared.vec.Vec.{Vec}
use Rattle.std.specs.Global.{Global}
use Rattle.std.proofs.lemmas.Bool.{cases_eq, cases_lt}
use Rattle.std.proofs.lemmas.List.{get_or_past}
use Rattle.std.proofs.lemmas.List.Sums.{sum_by_push, sum_by_more}
use Rattle.std.proofs.lemmas.Option.{slice_get_past, slice_get-get_or}
use Rattle.net_core.specs.declared.network.Channel.{Channel}
use Rattle.net_core.specs.declared.network.Network.{Network}
use Rattle.ruled_links.specs.Ports.{Port, fresh}
use Rattle.node_runner.specs.Nodes.{Ports, incoming, outgoing}
use Rattle.node_runner.specs.Logs.{left_of, left_in, nth_stream, value_count}
use Rattle.plain_data.proofs.Lists.{slice_get_read_same}

before_last : {X : Type 0} (xs : List X) (x d : X) (c : ℕ) → c < length xs
    → slice_index_or (xs ++ x ∷ []) c d ≡ slice_index_or xs c d
before_last [] x d c lt = absurd (omega arith)
before_last (y ∷ xs) x d zero lt = refl
before_last (y ∷ xs) x d (suc c) lt = before_last xs x d c (omega arith)

last_one : {X : Type 0} (xs : List X) (x d : X) → slice_index_or (xs ++ x ∷ []) (length xs) d ≡ x
last_one [] x d = refl
last_one (y ∷ xs) x d = last_one xs x d

pub more_ends : (ports ports' : List (Option Port)) (x : Option Port) (at : ℕ) (f : Ports) → ports' ≡ ports ++ x ∷ []
    → length ports ≡ at → ((c : ℕ) → c < at → slice_index_or ports c None ≡ f c) → x ≡ f at
    → (c : ℕ) → c < at + 1 → slice_index_or ports' c None ≡ f c
more_ends ports ports' x at f grown many before here c lt =
    ap (λ l. slice_index_or l c None) grown
    ∙ elim (cases_eq c at) [
      | inl same ↦
          ap (λ i. slice_index_or (ports ++ x ∷ []) i None) (same ∙ sym many) ∙ last_one ports x None ∙ here
          ∙ ap f (sym same)
      | inr other ↦
          let lower : c < at = omega arith in
          before_last ports x None c (omega (arith, many)) ∙ before c lower
    ]

left_fresh : (there : Bool) (stream : List ℤ) → left_of (cond there (Some (fresh stream)) None) ≤ length stream
left_fresh true stream = omega arith
left_fresh false stream = omega arith

pub more_left : (ports ports' : List (Option Port)) (x : Option Port) (there : Bool) (streams : List (Vec ℤ Global))
    (stream : Vec ℤ Global) (values : List ℤ) (at : ℕ) → ports' ≡ ports ++ x ∷ [] → values ≡ stream.items
    → x ≡ cond there (Some (fresh values)) None
    → at < length streams → stream ≡ get_or streams at stream → left_in ports ≤ value_count (take at streams)
    → left_in ports' ≤ value_count (take (at + 1) streams)
more_left ports ports' x there streams stream values at grown values_are is lt read left =
    let sum = ap left_in grown ∙ sum_by_push left_of ports x in
    let small : left_of x ≤ length stream.items =
    subst (λ o. left_of o ≤ length stream.items) (sym (is ∙ ap (λ l. cond there (Some (fresh l)) None) values_are))
    (left_fresh there stream.items) in
    let more = sum_by_more (λ (s : Vec ℤ Global). length s.items) streams at stream lt in
    let here : length stream.items ≡ length (get_or streams at stream).items =
    ap (λ (s : Vec ℤ Global). length s.items) read in
    omega (arith, sum, small, more, here, left)

-- the end at a channel that may be a process's own
pub end_here : (streams : List (Vec ℤ Global)) (network : Network) → length streams ≡ length network.channels
    → (own : Channel → Bool) (at : ℕ) (channels : List Channel) (other : Channel) (stream : Vec ℤ Global)
    (values : List ℤ) (x : Option Port) → channels ≡ network.channels → at < length channels
    → stream ≡ get_or streams at stream → values ≡ stream.items
    → x ≡ cond (own (get_or channels at other)) (Some (fresh values)) None
    → x ≡ option_and_then (λ (ch : Channel). cond (own ch) (Some (fresh (nth_stream streams at))) None)
    (slice_get network.channels at)
end_here streams network same own at channels other stream values x are lt stream_is values_are is =
    let channel = get_or channels at other in
    let found : slice_get network.channels at ≡ Some channel =
    ap (λ l. slice_get l at) (sym are) ∙ slice_get-get_or channels at other lt in
    let there : slice_get streams at ≡ Some stream =
    slice_get_read_same streams streams at stream refl (omega (arith, lt, ap length are, same)) stream_is in
    let nth : nth_stream streams at ≡ stream.items =
    ap (λ o. option_map_or (λ (s : Vec ℤ Global). s.items) o []) there in
    is ∙ ap (λ l. cond (own channel) (Some (fresh l)) None) (values_are ∙ sym nth)
    ∙ sym (ap (λ o.
    option_and_then (λ (ch : Channel). cond (own ch) (Some (fresh (nth_stream streams at))) None) o) found)

-- past the channels there is no end
pub all_ends : (ports : List (Option Port)) (n at : ℕ) (f : Ports) → n ≤ at → length ports ≡ at
    → ((c : ℕ) → n ≤ c → f c ≡ None) → ((c : ℕ) → c < at → slice_index_or ports c None ≡ f c) → (c : ℕ)
    → slice_index_or ports c None ≡ f c
all_ends ports n at f le many none before c =
    elim (cases_lt c at) [
      | inl lt ↦ before c lt
      | inr past ↦ get_or_past ports c None (omega (arith, many)) ∙ sym (none c (omega arith))
    ]

pub incoming_past : (streams : ℕ → List ℤ) (network : Network) (p c : ℕ) → length network.channels ≤ c
    → incoming streams network p c ≡ None
incoming_past streams network p c le =
    ap (λ o. option_and_then (λ (ch : Channel). cond (ch.reader == p) (Some (fresh (streams c))) None) o)
    (slice_get_past network.channels c le)

pub outgoing_past : (streams : ℕ → List ℤ) (network : Network) (p c : ℕ) → length network.channels ≤ c
    → outgoing streams network p c ≡ None
outgoing_past streams network p c le =
    ap (λ o. option_and_then (λ (ch : Channel). cond (ch.writer == p) (Some (fresh (streams c))) None) o)
    (slice_get_past network.channels c le)
