-- The law on cuts: a process that may go on at a cut may go on at each later cut that leaves it where it is.
--
-- A Get wants more Puts than Gets, and only its own process makes the Gets; a Put wants room, and only its own process
-- takes it. So others going on can only help. From this, for a run on cuts and any cut c: what the run does past c is
-- a run from c on (`beyond_runs`, by induction on the run, at the greater of both cuts), and what it does before a
-- legal c is a run that ends at c (`within_runs`, at the lesser of both; there the bounds that a legal c keeps make up
-- for the others being held back). And no run passes a cut above its start at which nobody may go on (`no_further`).
-- Nothing here knows of states or values.
use Rattle.std.proofs.Common.{◌≡◌, ◌⊎◌, ℕ, suc, ◌<◌, ◌≤◌, min, max, true, false, Option, Some, None, List, [], ◌∷◌, ◌++◌}
use Rattle.std.proofs.Common.{take, slice_get, count_by, refl, sym, ap, ◌∙◌, inl, inr, arith, ltb-true, lt-ltb, eq-eqb}
use Rattle.std.proofs.Common.{nat_lt, if◌then◌else◌}
use Rattle.std.proofs.lemmas.Bool.{cases_eq, cases_lt, le-ltb}
use Rattle.net_core.specs.declared.network.Event.{Event}
use Rattle.net_core.specs.declared.network.Event.TheVariants.{Get, Fire, Put}
use Rattle.net_core.specs.Machine.{Net}
use Rattle.net_core.specs.Shape.{is_get, is_put, IsWired}
use Rattle.net_core.specs.Cuts.{Cut, gets_at, puts_at, can_come_at, enabled_at, advanced, cut_after, IsCutRun, IsLegal}
use Rattle.net_core.proofs.EventCounts.{count_mono, count_past, replaced_same, replaced_other}

-- one schedule after another
pub cut_after-append : (k : Cut) (run more : List ℕ) → cut_after k (run ++ more) ≡ cut_after (cut_after k run) more
cut_after-append k [] more = refl
cut_after-append k (p ∷ run) more = cut_after-append (advanced k p) run more

pub gets_mono : (n : Net) (k c : Cut) (ch : ℕ) → k (n.reader ch) ≤ c (n.reader ch) → gets_at n k ch ≤ gets_at n c ch
gets_mono n k c ch h = count_mono (is_get ch) (n.script (n.reader ch)) _ _ h

pub puts_mono : (n : Net) (k c : Cut) (ch : ℕ) → k (n.writer ch) ≤ c (n.writer ch) → puts_at n k ch ≤ puts_at n c ch
puts_mono n k c ch h = count_mono (is_put ch) (n.script (n.writer ch)) _ _ h

-- an event that can come at k can come at a later cut which leaves its process where it is
pub can_come_stays_at : (n : Net) (wired : IsWired n) (k c : Cut) (p : ℕ) (o : Option Event) → ((q : ℕ) → k q ≤ c q)
    → k p ≡ c p → slice_get (n.script p) (k p) ≡ o → can_come_at n k o ≡ true → can_come_at n c o ≡ true
can_come_stays_at n wired k c p None le e is h = h
can_come_stays_at n wired k c p (Some (Get ch slot)) le e is h =
    let r : n.reader ch ≡ p = wired.get_reader p (k p) ch slot is in
    let same : c (n.reader ch) ≡ k (n.reader ch) = rw r (sym e) in
    let lt = ltb-true _ _ h in
    lt-ltb _ _ (omega (arith, gets_mono n c k ch (omega arith), puts_mono n k c ch (le (n.writer ch))))
can_come_stays_at n wired k c p (Some (Fire refs)) le e is h = refl
can_come_stays_at n wired k c p (Some (Put ch)) le e is h =
    let r : n.writer ch ≡ p = wired.put_writer p (k p) ch is in
    let same : c (n.writer ch) ≡ k (n.writer ch) = rw r (sym e) in
    let lt = ltb-true _ _ h in
    lt-ltb _ _ (omega (arith, puts_mono n c k ch (omega arith), gets_mono n k c ch (le (n.reader ch))))

pub enabled_stays_at : (n : Net) (wired : IsWired n) (k c : Cut) (p : ℕ) → ((q : ℕ) → k q ≤ c q) → k p ≡ c p
    → enabled_at n k p ≡ true → enabled_at n c p ≡ true
enabled_stays_at n wired k c p le e h =
    rw (← e) (can_come_stays_at n wired k c p (slice_get (n.script p) (k p)) le e refl h)

pub advanced_here : (k : Cut) (p q : ℕ) → q ≡ p → advanced k p q ≡ suc (k q)
advanced_here k p q e = replaced_same k p (suc (k p)) q e ∙ rw e refl

pub advanced_there : (k : Cut) (p q : ℕ) → (q ≡ p → ⊥) → advanced k p q ≡ k q
advanced_there k p q d = replaced_other k p (suc (k p)) q d

-- the greater of two cuts, after p's step on the first, where the second lies at or below it at p
top_step : (k c m : Cut) (p : ℕ) → ((q : ℕ) → m q ≡ max (k q) (c q)) → c p ≤ k p → (q : ℕ)
    → advanced m p q ≡ max (advanced k p q) (c q)
top_step k c m p h le q = go (cases_eq q p)
  where
    go : (q ≡ p) ⊎ (q ≡ p → ⊥) → advanced m p q ≡ max (advanced k p q) (c q)
    go (inl e) = let low : c q ≤ k q = rw e le in omega (arith, advanced_here m p q e, advanced_here k p q e, h q)
    go (inr d) = omega (arith, advanced_there m p q d, advanced_there k p q d, h q)

-- p's step on the first stays below the second
top_same : (k c m : Cut) (p : ℕ) → ((q : ℕ) → m q ≡ max (k q) (c q)) → k p < c p → (q : ℕ)
    → m q ≡ max (advanced k p q) (c q)
top_same k c m p h lt q = go (cases_eq q p)
  where
    go : (q ≡ p) ⊎ (q ≡ p → ⊥) → m q ≡ max (advanced k p q) (c q)
    go (inl e) = let low : k q < c q = rw e lt in omega (arith, advanced_here k p q e, h q)
    go (inr d) = omega (arith, advanced_there k p q d, h q)

bottom_step : (k c m : Cut) (p : ℕ) → ((q : ℕ) → m q ≡ min (k q) (c q)) → k p < c p → (q : ℕ)
    → advanced m p q ≡ min (advanced k p q) (c q)
bottom_step k c m p h lt q = go (cases_eq q p)
  where
    go : (q ≡ p) ⊎ (q ≡ p → ⊥) → advanced m p q ≡ min (advanced k p q) (c q)
    go (inl e) = let low : k q < c q = rw e lt in omega (arith, advanced_here m p q e, advanced_here k p q e, h q)
    go (inr d) = omega (arith, advanced_there m p q d, advanced_there k p q d, h q)

bottom_same : (k c m : Cut) (p : ℕ) → ((q : ℕ) → m q ≡ min (k q) (c q)) → c p ≤ k p → (q : ℕ)
    → m q ≡ min (advanced k p q) (c q)
bottom_same k c m p h le q = go (cases_eq q p)
  where
    go : (q ≡ p) ⊎ (q ≡ p → ⊥) → m q ≡ min (advanced k p q) (c q)
    go (inl e) = let low : c q ≤ k q = rw e le in omega (arith, advanced_here k p q e, h q)
    go (inr d) = omega (arith, advanced_there k p q d, h q)

advanced_below : (k c : Cut) (p : ℕ) → ((q : ℕ) → k q ≤ c q) → k p < c p → (q : ℕ) → advanced k p q ≤ c q
advanced_below k c p le lt q = go (cases_eq q p)
  where
    go : (q ≡ p) ⊎ (q ≡ p → ⊥) → advanced k p q ≤ c q
    go (inl e) = let low : k q < c q = rw e lt in omega (arith, advanced_here k p q e)
    go (inr d) = omega (arith, advanced_there k p q d, le q)

-- the steps of a run from k that lie before the cut c
abbrev pub within : Cut → Cut → List ℕ → List ℕ
within k c [] = []
within k c (p ∷ ps) = if nat_lt (k p) (c p) then p ∷ within (advanced k p) c ps else within (advanced k p) c ps

-- the steps of a run from k that lie past the cut c
abbrev pub beyond : Cut → Cut → List ℕ → List ℕ
beyond k c [] = []
beyond k c (p ∷ ps) = if nat_lt (k p) (c p) then beyond (advanced k p) c ps else p ∷ beyond (advanced k p) c ps

-- from any cut c, what a run does past c is a run
pub beyond_runs : (n : Net) (wired : IsWired n) (ps : List ℕ) (k c m : Cut) → ((q : ℕ) → m q ≡ max (k q) (c q))
    → IsCutRun n k ps → IsCutRun n m (beyond k c ps)
beyond_runs n wired [] k c m h run = tt
beyond_runs n wired (p ∷ ps) k c m h run =
    elim (cases_lt (k p) (c p)) [
      | inl lt ↦
          rw (lt-ltb (k p) (c p) lt)
          (beyond_runs n wired ps (advanced k p) c m (top_same k c m p h lt) run.1)
      | inr le ↦
          rw (le-ltb (k p) (c p) le) (
            enabled_stays_at n wired k m p (λ q. omega (arith, h q)) (omega (arith, h p)) run.0,
            beyond_runs n wired ps (advanced k p) c (advanced m p) (top_step k c m p h le) run.1,
          )
    ]

pub beyond_ends : (ps : List ℕ) (k c m : Cut) → ((q : ℕ) → m q ≡ max (k q) (c q)) → (q : ℕ)
    → cut_after m (beyond k c ps) q ≡ max (cut_after k ps q) (c q)
beyond_ends [] k c m h q = h q
beyond_ends (p ∷ ps) k c m h q =
    elim (cases_lt (k p) (c p)) [
      | inl lt ↦ rw (lt-ltb (k p) (c p) lt) (beyond_ends ps (advanced k p) c m (top_same k c m p h lt) q)
      | inr le ↦ rw (le-ltb (k p) (c p) le) (beyond_ends ps (advanced k p) c (advanced m p) (top_step k c m p h le) q)
    ]

-- an event that comes at k, before the legal cut c, comes where the other processes are held back to c
pub can_come_below : (n : Net) (wired : IsWired n) (k c m : Cut) (p : ℕ) (o : Option Event) → IsLegal n c
    → ((q : ℕ) → m q ≡ min (k q) (c q)) → k p < c p → slice_get (n.script p) (k p) ≡ o → can_come_at n k o ≡ true
    → can_come_at n m o ≡ true
can_come_below n wired k c m p None legal h lt is e = e
can_come_below n wired k c m p (Some (Get ch slot)) legal h lt is e =
    let r : n.reader ch ≡ p = wired.get_reader p (k p) ch slot is in
    let less : gets_at n k ch < gets_at n c ch =
    rw r (count_past (is_get ch) (n.script p) (k p) (c p) (Get ch slot) is (eq-eqb ch ch refl) lt) in
    let mine : m (n.reader ch) ≡ k (n.reader ch) = rw r (omega (arith, h p)) in
    let same : gets_at n m ch ≡ gets_at n k ch =
    ap (λ i. count_by (is_get ch) (take i (n.script (n.reader ch)))) mine in
    let had = ltb-true _ _ e in
    elim (cases_lt (k (n.writer ch)) (c (n.writer ch))) [
      | inl low ↦ lt-ltb _ _ (omega (arith, puts_mono n k m ch (omega (arith, h (n.writer ch)))))
      | inr high ↦
          let there : ch < n.channels = wired.get_channel p (k p) ch slot is in
          lt-ltb _ _ (omega (arith, puts_mono n c m ch (omega (arith, h (n.writer ch))), legal.got_is_put ch there))
    ]
can_come_below n wired k c m p (Some (Fire refs)) legal h lt is e = refl
can_come_below n wired k c m p (Some (Put ch)) legal h lt is e =
    let r : n.writer ch ≡ p = wired.put_writer p (k p) ch is in
    let less : puts_at n k ch < puts_at n c ch =
    rw r (count_past (is_put ch) (n.script p) (k p) (c p) (Put ch) is (eq-eqb ch ch refl) lt) in
    let mine : m (n.writer ch) ≡ k (n.writer ch) = rw r (omega (arith, h p)) in
    let same : puts_at n m ch ≡ puts_at n k ch =
    ap (λ i. count_by (is_put ch) (take i (n.script (n.writer ch)))) mine in
    let had = ltb-true _ _ e in
    elim (cases_lt (k (n.reader ch)) (c (n.reader ch))) [
      | inl low ↦ lt-ltb _ _ (omega (arith, gets_mono n k m ch (omega (arith, h (n.reader ch)))))
      | inr high ↦
          let there : ch < n.channels = wired.put_channel p (k p) ch is in
          lt-ltb _ _ (omega (arith, gets_mono n c m ch (omega (arith, h (n.reader ch))), legal.within ch there))
    ]

pub enabled_below : (n : Net) (wired : IsWired n) (k c m : Cut) (p : ℕ) → IsLegal n c
    → ((q : ℕ) → m q ≡ min (k q) (c q)) → k p < c p → enabled_at n k p ≡ true → enabled_at n m p ≡ true
enabled_below n wired k c m p legal h lt e =
    let mine : m p ≡ k p = omega (arith, h p) in
    rw mine (can_come_below n wired k c m p (slice_get (n.script p) (k p)) legal h lt refl e)

-- what a run does before a legal cut is a run
pub within_runs : (n : Net) (wired : IsWired n) (ps : List ℕ) (k c m : Cut) → IsLegal n c
    → ((q : ℕ) → m q ≡ min (k q) (c q)) → IsCutRun n k ps → IsCutRun n m (within k c ps)
within_runs n wired [] k c m legal h run = tt
within_runs n wired (p ∷ ps) k c m legal h run =
    elim (cases_lt (k p) (c p)) [
      | inl lt ↦
          rw (lt-ltb (k p) (c p) lt) (
            enabled_below n wired k c m p legal h lt run.0,
            within_runs n wired ps (advanced k p) c (advanced m p) legal (bottom_step k c m p h lt) run.1,
          )
      | inr le ↦
          rw (le-ltb (k p) (c p) le)
          (within_runs n wired ps (advanced k p) c m legal (bottom_same k c m p h le) run.1)
    ]

pub within_ends : (ps : List ℕ) (k c m : Cut) → ((q : ℕ) → m q ≡ min (k q) (c q)) → (q : ℕ)
    → cut_after m (within k c ps) q ≡ min (cut_after k ps q) (c q)
within_ends [] k c m h q = h q
within_ends (p ∷ ps) k c m h q =
    elim (cases_lt (k p) (c p)) [
      | inl lt ↦ rw (lt-ltb (k p) (c p) lt)
          (within_ends ps (advanced k p) c (advanced m p) (bottom_step k c m p h lt) q)
      | inr le ↦ rw (le-ltb (k p) (c p) le) (within_ends ps (advanced k p) c m (bottom_same k c m p h le) q)
    ]

-- no run passes a cut above its start at which nobody may go on
pub no_further : (n : Net) (wired : IsWired n) (ps : List ℕ) (k c : Cut) → ((q : ℕ) → k q ≤ c q)
    → ((q : ℕ) → enabled_at n c q ≡ false) → IsCutRun n k ps → (q : ℕ) → cut_after k ps q ≤ c q
no_further n wired [] k c le stuck run q = le q
no_further n wired (p ∷ ps) k c le stuck run q =
    elim (cases_lt (k p) (c p)) [
      | inl lt ↦ no_further n wired ps (advanced k p) c (advanced_below k c p le lt) stuck run.1 q
      | inr ge ↦
          let same : k p ≡ c p = omega (arith, le p) in
          let going : enabled_at n c p ≡ true = enabled_stays_at n wired k c p le same run.0 in
          let stays = stuck p in
          cc
    ]
