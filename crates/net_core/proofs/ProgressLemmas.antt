-- What the code's lists say without values, and that one event more keeps it so.
--
-- The invariant is `IsProgress`: what is left of each script and what each channel has had are those at the positions. All
-- three are functions of the cut, and an event moves the cut on by one at its process. So that process loses the first event
-- that it had left, and the others lose none; a Get or a Put adds one to its own channel's count, and all others stay
-- (`counts_more`). Counts are no greater than scripts, which are short, so one more fits (`can_count`). Whether the event
-- could come isn't asked: both counts are kept, and not their difference, which would be wrong after a Get without a token.
use Rattle.std.proofs.Common.{◌≡◌, ℕ, zero, suc, ◌+◌, ◌^◌, ◌<◌, Bool, true, false, cond, Option, Some, List, []}
use Rattle.std.proofs.Common.{◌∷◌, map, set, drop, take, length, replicate, count_by, slice_get, get_or, refl, sym, ap, ◌∙◌}
use Rattle.std.proofs.Common.{subst, inl, inr, arith, eq-eqb, ne_eqb, get_or-set_other, get_or-set_same, length-set}
use Rattle.std.specs.List.{range_with_len}
use Rattle.std.specs.Option.{option_map_or}
use Rattle.std.specs.Prelude.{slice_index}
use Rattle.std.proofs.lemmas.Bool.{cases_eq}
use Rattle.std.proofs.lemmas.List.{get_or_read, length-map, length-replicate}
use Rattle.std.proofs.lemmas.List.Sums.{count_by-le-length}
use Rattle.std.proofs.lemmas.List.FromFn.{fill_by_all, get_or-map-range_with_len, length-map-range_with_len}
use Rattle.std.proofs.lemmas.Option.{slice_get_within}
use mathlib.Core.Path.{fun_ext}
use Rattle.net_core.specs.declared.network.Event.{Event}
use Rattle.net_core.specs.declared.network.Event.TheVariants.{Get, Fire, Put}
use Rattle.net_core.specs.declared.network.Network.{Network}
use Rattle.net_core.specs.declared.network.Process.{Process}
use Rattle.net_core.specs.declared.progress.Progress.{Progress}
use Rattle.net_core.specs.declared.progress.TokenCounts.{TokenCounts}
use Rattle.net_core.specs.Cuts.{Cut, advanced, gets_at, opening, puts_at}
use Rattle.net_core.specs.Machine.{Net, net_of}
use Rattle.net_core.specs.Shape.{FitsNumbers, IsWired, is_get, is_put}
use Rattle.net_core.specs.Progress.{CanCount, IsProgress, counts_after, counts_at, cut_of, left_at, no_counts, place_list}
use Rattle.net_core.specs.Progress.{with_one_get, with_one_put}
use Rattle.net_core.proofs.CountedLists.{set_at}
use Rattle.net_core.proofs.CutOrder.{advanced_here, advanced_there}
use Rattle.net_core.proofs.Positions.{gets_advanced, puts_advanced}
use Rattle.net_core.proofs.Ready.{count_all, script_short}
use Rattle.plain_data.proofs.Lists.{drop-some, get_or-replicate_same, slice_get-drop}

-- At first

pub no_places : (m : ℕ) → slice_index (replicate m 0) ≡ opening
no_places m = fun_ext (λ p. get_or-replicate_same m p 0)

script_at : (processes : List Process) (p : ℕ)
    → get_or (map (λ process. process.script) processes) p []
    ≡ option_map_or (λ (process : Process). process.script) (slice_get processes p) []
script_at [] p = refl
script_at (process ∷ processes) zero = refl
script_at (process ∷ processes) (suc p) = script_at processes p

scripts_left : (network : Network)
    → map (λ process. process.script) network.processes
    ≡ map (left_at (net_of network) opening) (range_with_len 0 (length network.processes))
scripts_left network =
    fill_by_all (left_at (net_of network) opening) (map (λ process. process.script) network.processes)
    (length network.processes) [] (length-map network.processes (λ process. process.script))
    (λ p lt. script_at network.processes p)

no_count : (m c : ℕ) → get_or (replicate m no_counts) c no_counts ≡ no_counts
no_count zero c = refl
no_count (suc m) zero = refl
no_count (suc m) (suc c) = no_count m c

none_counted : (n : Net) (m : ℕ) → replicate m no_counts ≡ map (counts_at n opening) (range_with_len 0 m)
none_counted n m =
    fill_by_all (counts_at n opening) (replicate m no_counts) m no_counts (length-replicate m no_counts)
    (λ c lt. no_count m c)

pub progress_first : (network : Network) → IsWired (net_of network) → FitsNumbers (net_of network)
    → (progress : Progress) → place_list progress ≡ replicate (length network.processes) 0
    → progress.cursors.items ≡ map (λ process. process.script) network.processes
    → progress.counts.items ≡ replicate (length network.channels) no_counts
    → IsProgress (net_of network) progress
progress_first network wired numbers progress e f g =
    let n = net_of network in
    let at : cut_of progress ≡ opening = ap slice_index e ∙ no_places (length network.processes) in
    record {
      wired = wired;
      numbers = numbers;
      number = ap length e ∙ length-replicate (length network.processes) zero;
      inside = λ p. omega (arith, ap (λ (k : Cut). k p) at);
      left = f ∙ scripts_left network
          ∙ ap (λ (k : Cut). map (left_at n k) (range_with_len 0 (length network.processes))) (sym at);
      counts = g ∙ none_counted n (length network.channels)
          ∙ ap (λ (k : Cut). map (counts_at n k) (range_with_len 0 (length network.channels))) (sym at);
    }

-- What is read

module _ (n : Net) (progress : Progress) (is : IsProgress n progress) where
  pub left_long : length progress.cursors.items ≡ n.processes
  left_long = ap length is.left ∙ length-map-range_with_len (left_at n (cut_of progress)) 0 n.processes

  pub counts_long : length progress.counts.items ≡ n.channels
  counts_long = ap length is.counts ∙ length-map-range_with_len (counts_at n (cut_of progress)) 0 n.channels

  -- what a process has left
  pub left_found : (p : ℕ) → p < n.processes → (left : List Event) → left ≡ get_or progress.cursors.items p left
      → left ≡ left_at n (cut_of progress) p
  left_found p lt left read =
      get_or_read progress.cursors.items p left (omega (arith, lt, left_long)) read []
      ∙ ap (λ (l : List (List Event)). get_or l p []) is.left
      ∙ get_or-map-range_with_len (left_at n (cut_of progress)) 0 n.processes p p [] lt (omega arith)

  -- what a channel has had
  pub counts_found : (c : ℕ) → c < n.channels → (counts : TokenCounts) → counts ≡ get_or progress.counts.items c counts
      → counts ≡ counts_at n (cut_of progress) c
  counts_found c lt counts read =
      get_or_read progress.counts.items c counts (omega (arith, lt, counts_long)) read no_counts
      ∙ ap (λ (l : List TokenCounts). get_or l c no_counts) is.counts
      ∙ get_or-map-range_with_len (counts_at n (cut_of progress)) 0 n.channels c c no_counts lt (omega arith)

-- the event that a process makes next
pub event_found : (n : Net) (k : Cut) (p : ℕ) (left : List Event) (o : Option Event) → left ≡ left_at n k p
    → o ≡ slice_get left 0 → slice_get (n.script p) (k p) ≡ o
event_found n k p left o is read =
    sym (slice_get-drop (k p) (n.script p)) ∙ ap (λ (l : List Event). slice_get l 0) (sym is) ∙ sym read

-- Whether it has ended

-- Positions after one event more

pub advanced_list : (positions : List ℕ) (p value : ℕ) → p < length positions → value ≡ get_or positions p 0 + 1
    → (λ q. get_or (set positions p value) q 0) ≡ advanced (λ q. get_or positions q 0) p
advanced_list positions p value lt is =
    fun_ext (λ q. elim (cases_eq q p) [
      | inl same ↦
          let here : get_or (set positions p value) q 0 ≡ value =
          ap (λ r. get_or (set positions p value) r 0) same ∙ get_or-set_same positions p value 0 lt in
          omega (
            arith,
            here,
            is,
            ap (λ r. get_or positions r 0) same,
            advanced_here (λ r. get_or positions r 0) p q same,
          )
      | inr other ↦
          get_or-set_other positions p q value 0 other ∙ sym (advanced_there (λ r. get_or positions r 0) p q other)
    ])

-- What is left after it

-- p's event is the first that it has left
pub left_first : (n : Net) (k : Cut) (p : ℕ) (e : Event) → slice_get (n.script p) (k p) ≡ Some e
    → left_at n k p ≡ e ∷ left_at n (advanced k p) p
left_first n k p e is =
    drop-some (n.script p) (k p) e is ∙ ap (λ i. e ∷ drop i (n.script p)) (sym (advanced_here k p p refl))

left_more : (n : Net) (k : Cut) (p : ℕ) (lists : List (List Event)) (later : List Event)
    → lists ≡ map (left_at n k) (range_with_len 0 n.processes) → p < n.processes
    → later ≡ left_at n (advanced k p) p
    → set lists p later ≡ map (left_at n (advanced k p)) (range_with_len 0 n.processes)
left_more n k p lists later are there is =
    ap (λ all. set all p later) are
    ∙ set_at (left_at n k) (left_at n (advanced k p)) n.processes p later there (sym is)
    (λ q other. ap (λ i. drop i (n.script q)) (sym (advanced_there k p q other)))

-- Counts after it

same_counts : (puts puts' gets gets' : ℕ) → puts ≡ puts' → gets ≡ gets'
    → (let t : TokenCounts = record { puts = puts; gets = gets } in t) ≡ record { puts = puts'; gets = gets' }
same_counts puts puts' gets gets' e f = cc

module _ (n : Net) (wired : IsWired n) (k : Cut) (p : ℕ) (e : Event)
    (is : slice_get (n.script p) (k p) ≡ Some e) where
  puts_then : (c : ℕ) (b : Bool) → is_put c e ≡ b → puts_at n (advanced k p) c ≡ puts_at n k c + cond b 1 0
  puts_then c b t = puts_advanced n wired k p e c is ∙ ap (λ x. puts_at n k c + cond x 1 0) t

  gets_then : (c : ℕ) (b : Bool) → is_get c e ≡ b → gets_at n (advanced k p) c ≡ gets_at n k c + cond b 1 0
  gets_then c b t = gets_advanced n wired k p e c is ∙ ap (λ x. gets_at n k c + cond x 1 0) t

  -- the event is of another channel
  counts_other : (c : ℕ) → is_put c e ≡ false → is_get c e ≡ false → counts_at n k c ≡ counts_at n (advanced k p) c
  counts_other c f g =
      let puts = puts_then c false f in
      let gets = gets_then c false g in
      same_counts _ _ _ _ (omega arith) (omega arith)

  counts_got : (c : ℕ) → is_put c e ≡ false → is_get c e ≡ true
      → counts_at n (advanced k p) c ≡ with_one_get (counts_at n k c)
  counts_got c f g =
      let puts = puts_then c false f in
      let gets = gets_then c true g in
      same_counts _ _ _ _ (omega arith) (omega arith)

  counts_put : (c : ℕ) → is_put c e ≡ true → is_get c e ≡ false
      → counts_at n (advanced k p) c ≡ with_one_put (counts_at n k c)
  counts_put c f g =
      let puts = puts_then c true f in
      let gets = gets_then c false g in
      same_counts _ _ _ _ (omega arith) (omega arith)

-- the counts of all channels after an event
counts_along : (n : Net) (wired : IsWired n) (k : Cut) (p : ℕ) (e : Event) → slice_get (n.script p) (k p) ≡ Some e
    → counts_after (map (counts_at n k) (range_with_len 0 n.channels)) e
    ≡ map (counts_at n (advanced k p)) (range_with_len 0 n.channels)
counts_along n wired k p (Get d slot) is =
    let f = counts_at n k in
    let g = counts_at n (advanced k p) in
    let there = wired.get_channel p (k p) d slot is in
    ap (λ t. set (map f (range_with_len 0 n.channels)) d (with_one_get t))
    (get_or-map-range_with_len f 0 n.channels d d no_counts there (omega arith))
    ∙ set_at f g n.channels d (with_one_get (f d)) there
    (counts_got n wired k p (Get d slot) is d refl (eq-eqb d d refl))
    (λ c ne. counts_other n wired k p (Get d slot) is c refl (ne_eqb c d ne))
counts_along n wired k p (Fire refs) is =
    let same : counts_at n k ≡ counts_at n (advanced k p) =
    fun_ext (λ c. counts_other n wired k p (Fire refs) is c refl refl) in
    ap (λ (f : ℕ → TokenCounts). map f (range_with_len 0 n.channels)) same
counts_along n wired k p (Put d) is =
    let f = counts_at n k in
    let g = counts_at n (advanced k p) in
    let there = wired.put_channel p (k p) d is in
    ap (λ t. set (map f (range_with_len 0 n.channels)) d (with_one_put t))
    (get_or-map-range_with_len f 0 n.channels d d no_counts there (omega arith))
    ∙ set_at f g n.channels d (with_one_put (f d)) there
    (counts_put n wired k p (Put d) is d (eq-eqb d d refl) refl)
    (λ c ne. counts_other n wired k p (Put d) is c (ne_eqb c d ne) refl)

pub counts_more : (n : Net) (wired : IsWired n) (k : Cut) (p : ℕ) (e : Event) (counts : List TokenCounts)
    → counts ≡ map (counts_at n k) (range_with_len 0 n.channels) → slice_get (n.script p) (k p) ≡ Some e
    → counts_after counts e ≡ map (counts_at n (advanced k p)) (range_with_len 0 n.channels)
counts_more n wired k p e counts are is =
    ap (λ (l : List TokenCounts). counts_after l e) are ∙ counts_along n wired k p e is

-- a channel has no more Puts or Gets than its process has events
few_puts : (n : Net) (wired : IsWired n) → FitsNumbers n → (k : Cut) (p d : ℕ)
    → slice_get (n.script p) (k p) ≡ Some (Put d) → puts_at n k d + 1 < 2 ^ 32
few_puts n wired numbers k p d is =
    let writer : n.writer d ≡ p = wired.put_writer p (k p) d is in
    let here : puts_at n k d ≡ count_by (is_put d) (take (k p) (n.script p)) =
    ap (λ q. count_by (is_put d) (take (k q) (n.script q))) writer in
    omega (
      arith,
      here,
      count_all (is_put d) (n.script p) (k p) (Put d) is (eq-eqb d d refl),
      count_by-le-length (is_put d) (n.script p),
      script_short n wired numbers p,
    )

few_gets : (n : Net) (wired : IsWired n) → FitsNumbers n → (k : Cut) (p d slot : ℕ)
    → slice_get (n.script p) (k p) ≡ Some (Get d slot) → gets_at n k d + 1 < 2 ^ 32
few_gets n wired numbers k p d slot is =
    let reader : n.reader d ≡ p = wired.get_reader p (k p) d slot is in
    let here : gets_at n k d ≡ count_by (is_get d) (take (k p) (n.script p)) =
    ap (λ q. count_by (is_get d) (take (k q) (n.script q))) reader in
    omega (
      arith,
      here,
      count_all (is_get d) (n.script p) (k p) (Get d slot) is (eq-eqb d d refl),
      count_by-le-length (is_get d) (n.script p),
      script_short n wired numbers p,
    )

can_count_at : (n : Net) (wired : IsWired n) → FitsNumbers n → (k : Cut) (p : ℕ) (e : Event)
    → slice_get (n.script p) (k p) ≡ Some e → CanCount (map (counts_at n k) (range_with_len 0 n.channels)) e
can_count_at n wired numbers k p (Get d slot) is =
    let there = wired.get_channel p (k p) d slot is in
    let here : get_or (map (counts_at n k) (range_with_len 0 n.channels)) d no_counts ≡ counts_at n k d =
    get_or-map-range_with_len (counts_at n k) 0 n.channels d d no_counts there (omega arith) in (
      omega (arith, there, length-map-range_with_len (counts_at n k) 0 n.channels),
      rw here (few_gets n wired numbers k p d slot is),
    )
can_count_at n wired numbers k p (Fire refs) is = tt
can_count_at n wired numbers k p (Put d) is =
    let there = wired.put_channel p (k p) d is in
    let here : get_or (map (counts_at n k) (range_with_len 0 n.channels)) d no_counts ≡ counts_at n k d =
    get_or-map-range_with_len (counts_at n k) 0 n.channels d d no_counts there (omega arith) in (
      omega (arith, there, length-map-range_with_len (counts_at n k) 0 n.channels),
      rw here (few_puts n wired numbers k p d is),
    )

pub can_count : (n : Net) (wired : IsWired n) → FitsNumbers n → (k : Cut) (p : ℕ) (e : Event)
    (counts : List TokenCounts) → counts ≡ map (counts_at n k) (range_with_len 0 n.channels)
    → slice_get (n.script p) (k p) ≡ Some e → CanCount counts e
can_count n wired numbers k p e counts are is =
    subst (λ (l : List TokenCounts). CanCount l e) (sym are) (can_count_at n wired numbers k p e is)

-- One event more

pub progress_more : (n : Net) (old new : Progress) → IsProgress n old → (p : ℕ) → p < n.processes
    → (e : Event) → slice_get (n.script p) (cut_of old p) ≡ Some e
    → (value : ℕ) → value ≡ get_or (place_list old) p 0 + 1 → place_list new ≡ set (place_list old) p value
    → (later : List Event) → e ∷ later ≡ left_at n (cut_of old) p
    → new.cursors.items ≡ set old.cursors.items p later
    → new.counts.items ≡ counts_after old.counts.items e → IsProgress n new
progress_more n old new was p there e is value one positions later left cursors counts =
    let k : Cut = cut_of old in
    let at : cut_of new ≡ advanced k p =
    ap slice_index positions ∙ advanced_list (place_list old) p value (omega (arith, there, was.number)) one in
    let both : e ∷ later ≡ e ∷ left_at n (advanced k p) p = left ∙ left_first n k p e is in
    let rest : later ≡ left_at n (advanced k p) p = cc in
    record {
      wired = was.wired;
      numbers = was.numbers;
      number = ap length positions ∙ length-set (place_list old) p value ∙ was.number;
      inside = λ q. elim (cases_eq q p) [
        | inl same ↦
            let short = slice_get_within (n.script p) (k p) e is in
            let there' : k q < length (n.script q) = subst (λ r. k r < length (n.script r)) (sym same) short in
            omega (arith, ap (λ (j : Cut). j q) at, advanced_here k p q same)
        | inr other ↦ omega (arith, ap (λ (j : Cut). j q) at, advanced_there k p q other, was.inside q)
      ];
      left = cursors ∙ left_more n k p old.cursors.items later was.left there rest
          ∙ ap (λ (j : Cut). map (left_at n j) (range_with_len 0 n.processes)) (sym at);
      counts = counts ∙ counts_more n was.wired k p e old.counts.items was.counts is
          ∙ ap (λ (j : Cut). map (counts_at n j) (range_with_len 0 n.channels)) (sym at);
    }
