-- The greatest length of a queue along the events of one point.
--
-- A point has Gets in front and its Puts behind. Along the Gets no queue grows, and none was longer before than the
-- greatest length says, so that stays (`greatest_without_puts`, by induction on the events). Along Puts a queue never
-- shrinks, so it is longest at their end (`greatest_without_gets`). So after a point the greatest length is that before
-- it or that of the queue as it then stands, whichever is more (`greatest_point`): lengths within a point needn't be
-- looked at. It is of lists of events alone; which Gets and Puts a point has doesn't come in.
use Rattle.std.proofs.Common.{◌≡◌, ℕ, suc, ◌+◌, ◌≤◌, max, false, cond, Some, List, [], ◌∷◌, ◌++◌}
use Rattle.std.proofs.Common.{length, replicate, slice_get, refl, sym, ap, ◌∙◌, subst, arith, append_assoc}
use Rattle.std.proofs.Common.{length-append}
use Rattle.std.proofs.lemmas.List.{append-nil}
use Rattle.std.proofs.Math.ListN.{replicate-append-replicate}
use Rattle.net_core.specs.declared.network.Event.{Event}
use Rattle.net_core.specs.Cuts.{advanced, cut_after, gets_at, opening, puts_at}
use Rattle.net_core.specs.Machine.{Net}
use Rattle.net_core.specs.Shape.{IsWired, is_get, is_put}
use Rattle.net_core.proofs.CutOrder.{advanced_here, gets_mono, puts_mono, cut_after-append}
use Rattle.plain_data.proofs.Lists.{slice_get-append_cons}
use Rattle.sanlp.proofs.Each.{Each}
use Rattle.witness_plan.specs.Sequential.{greatest_length, queue_length}
use Rattle.witness_plan.proofs.AlongCuts.{cut_here, le-advanced}
use Rattle.net_core.proofs.Positions.{gets_advanced}
use Rattle.net_core.proofs.Positions.{puts_advanced}
use Rattle.witness_plan.proofs.GreatestLengths.{greatest_more, now_within}

-- these events stand in a script, one after the other, from place k on
abbrev pub AreNext : List Event → ℕ → List Event → Type 0
AreNext script k [] = Unit {0}
AreNext script k (e ∷ es) = (slice_get script k ≡ Some e) × AreNext script (suc k) es

pub are_next : (script front es later : List Event) → script ≡ front ++ (es ++ later)
    → AreNext script (length front) es
are_next script front [] later whole = tt
are_next script front (e ∷ es) later whole =
    let longer : length (front ++ e ∷ []) ≡ suc (length front) = length-append front (e ∷ []) ∙ omega arith in (
      ap (λ xs. slice_get xs (length front)) whole ∙ slice_get-append_cons front e (es ++ later),
      subst (λ k. AreNext script k es) longer
          (are_next script (front ++ e ∷ []) es later (whole ∙ sym (append_assoc front (e ∷ []) (es ++ later)))),
    )

next_first : (script : List Event) (k : ℕ) (xs ys : List Event) → AreNext script k (xs ++ ys) → AreNext script k xs
next_first script k [] ys h = tt
next_first script k (x ∷ xs) ys h = (h.0, next_first script (suc k) xs ys h.1)

next_last : (script : List Event) (k : ℕ) (xs ys : List Event) → AreNext script k (xs ++ ys)
    → AreNext script (k + length xs) ys
next_last script k [] ys h = let same : k ≡ k + 0 = omega arith in subst (λ i. AreNext script i ys) same h
next_last script k (x ∷ xs) ys h =
    let same : suc k + length xs ≡ k + suc (length xs) = omega arith in
    subst (λ i. AreNext script i ys) same (next_last script (suc k) xs ys h.1)

module _ (net : Net) (wired : IsWired net) (p c : ℕ) where
  -- one event more, and where its process then stands
  one_more : (schedule : List ℕ) (m : ℕ) → (schedule ++ p ∷ []) ++ replicate m p ≡ schedule ++ replicate (suc m) p
  one_more schedule m = append_assoc schedule (p ∷ []) (replicate m p)

  later : (schedule : List ℕ) → cut_after opening (schedule ++ p ∷ []) ≡ advanced (cut_after opening schedule) p
  later schedule = cut_after-append opening schedule (p ∷ [])

  next_place : (schedule : List ℕ) → cut_after opening (schedule ++ p ∷ []) p ≡ suc (cut_after opening schedule p)
  next_place schedule = ap (λ k. k p) (later schedule) ∙ advanced_here (cut_after opening schedule) p p refl

  -- Without Puts to the channel

  calm : (schedule : List ℕ) (e : Event) → slice_get (net.script p) (cut_after opening schedule p) ≡ Some e
      → is_put c e ≡ false → greatest_length net (schedule ++ p ∷ []) c ≡ greatest_length net schedule c
  calm schedule e is none =
      let k = cut_after opening schedule in
      let puts : puts_at net (advanced (cut_after opening schedule) p) c ≡ puts_at net (cut_after opening schedule) c + 0 =
      puts_advanced net wired (cut_after opening schedule) p e c is
      ∙ ap (λ b. puts_at net (cut_after opening schedule) c + cond b 1 0) none in
      let gets =
      gets_mono net (cut_after opening schedule) (advanced (cut_after opening schedule) p) c
      (le-advanced (cut_after opening schedule) p (net.reader c)) in
      omega (arith, greatest_more net schedule p c, now_within net schedule c, puts, gets)

  pub greatest_without_puts : (schedule : List ℕ) (es : List Event)
      → AreNext (net.script p) (cut_after opening schedule p) es → Each (λ e. is_put c e ≡ false) es
      → greatest_length net (schedule ++ replicate (length es) p) c ≡ greatest_length net schedule c
  greatest_without_puts schedule [] next none = ap (λ s. greatest_length net s c) (append-nil schedule)
  greatest_without_puts schedule (e ∷ es) next none =
      ap (λ s. greatest_length net s c) (sym (one_more schedule (length es)))
      ∙ greatest_without_puts (schedule ++ p ∷ []) es
      (subst (λ k. AreNext (net.script p) k es) (sym (next_place schedule)) next.1) none.1
      ∙ calm schedule e next.0 none.0

  -- Without Gets of the channel

  grown : (schedule : List ℕ) (e : Event) → slice_get (net.script p) (cut_after opening schedule p) ≡ Some e
      → is_get c e ≡ false
      → queue_length net (cut_after opening schedule) c ≤ queue_length net (cut_after opening (schedule ++ p ∷ [])) c
  grown schedule e is none =
      let gets : gets_at net (advanced (cut_after opening schedule) p) c ≡ gets_at net (cut_after opening schedule) c + 0 =
      gets_advanced net wired (cut_after opening schedule) p e c is
      ∙ ap (λ b. gets_at net (cut_after opening schedule) c + cond b 1 0) none in
      let puts =
      puts_mono net (cut_after opening schedule) (advanced (cut_after opening schedule) p) c
      (le-advanced (cut_after opening schedule) p (net.writer c)) in
      omega (arith, puts, gets, ap (λ k. queue_length net k c) (later schedule))

  all_grown : (schedule : List ℕ) (es : List Event) → AreNext (net.script p) (cut_after opening schedule p) es
      → Each (λ e. is_get c e ≡ false) es
      → queue_length net (cut_after opening schedule) c
      ≤ queue_length net (cut_after opening (schedule ++ replicate (length es) p)) c
  all_grown schedule [] next none =
      omega (arith, ap (λ s. queue_length net (cut_after opening s) c) (append-nil schedule))
  all_grown schedule (e ∷ es) next none =
      omega (
        arith,
        grown schedule e next.0 none.0,
        all_grown (schedule ++ p ∷ []) es
            (subst (λ k. AreNext (net.script p) k es) (sym (next_place schedule)) next.1) none.1,
        ap (λ s. queue_length net (cut_after opening s) c) (one_more schedule (length es)),
      )

  pub greatest_without_gets : (schedule : List ℕ) (es : List Event)
      → AreNext (net.script p) (cut_after opening schedule p) es → Each (λ e. is_get c e ≡ false) es
      → greatest_length net (schedule ++ replicate (length es) p) c
      ≡ max (greatest_length net schedule c)
      (queue_length net (cut_after opening (schedule ++ replicate (length es) p)) c)
  greatest_without_gets schedule [] next none =
      omega (
        arith,
        now_within net schedule c,
        ap (λ s. greatest_length net s c) (append-nil schedule),
        ap (λ s. queue_length net (cut_after opening s) c) (append-nil schedule),
      )
  greatest_without_gets schedule (e ∷ es) next none =
      let next_there = subst (λ k. AreNext (net.script p) k es) (sym (next_place schedule)) next.1 in
      omega (
        arith,
        greatest_without_gets (schedule ++ p ∷ []) es next_there none.1,
        all_grown (schedule ++ p ∷ []) es next_there none.1,
        greatest_more net schedule p c,
        ap (λ k. queue_length net k c) (later schedule),
        ap (λ s. greatest_length net s c) (one_more schedule (length es)),
        ap (λ s. queue_length net (cut_after opening s) c) (one_more schedule (length es)),
      )

  -- A point

  pub greatest_point : (schedule : List ℕ) (gets rest : List Event)
      → AreNext (net.script p) (cut_after opening schedule p) (gets ++ rest)
      → Each (λ e. is_put c e ≡ false) gets → Each (λ e. is_get c e ≡ false) rest
      → greatest_length net (schedule ++ replicate (length (gets ++ rest)) p) c
      ≡ max (greatest_length net schedule c)
      (queue_length net (cut_after opening (schedule ++ replicate (length (gets ++ rest)) p)) c)
  greatest_point schedule gets rest next no_put no_get =
      let middle = schedule ++ replicate (length gets) p in
      let whole : (schedule ++ replicate (length gets) p) ++ replicate (length rest) p
      ≡ schedule ++ replicate (length (gets ++ rest)) p =
      append_assoc schedule (replicate (length gets) p) (replicate (length rest) p)
      ∙ ap (λ ps. schedule ++ ps) (replicate-append-replicate (length gets) (length rest) p)
      ∙ ap (λ m. schedule ++ replicate m p) (sym (length-append gets rest)) in
      let place : cut_after opening (schedule ++ replicate (length gets) p) p ≡ cut_after opening schedule p + length gets =
      ap (λ k. k p) (cut_after-append opening schedule (replicate (length gets) p))
      ∙ cut_here (cut_after opening schedule) (length gets) p in
      omega (
        arith,
        greatest_without_puts schedule gets (next_first (net.script p) _ gets rest next) no_put,
        greatest_without_gets (schedule ++ replicate (length gets) p) rest
            (subst (λ k. AreNext (net.script p) k rest) (sym place) (next_last (net.script p) _ gets rest next)) no_get,
        ap (λ s. greatest_length net s c) whole,
        ap (λ s. queue_length net (cut_after opening s) c) whole,
      )
