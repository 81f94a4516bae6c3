-- Points, found by what the events do.
--
-- A Get, a Fire and a Put are told from one another by their effects, so a point ends behind the same number of effects as of
-- events. With the effects of so many points passed a process has left what it has left behind so many entries more, so the
-- entries of a run of points may be added at once.
use Rattle.std.proofs.Common.{◌≡◌, ◌+◌, ◌<◌, ℕ, zero, suc, List, [], ◌∷◌, ◌++◌, length, map, drop, get_or, replicate, refl}
use Rattle.std.proofs.Common.{sym, ap, ◌∙◌, take, add-one, append_assoc, append-nil, drop-cons, drop-drop, take-add}
use Rattle.std.specs.List.{fold}
use Rattle.std.proofs.lemmas.List.{drop-map, replicate-append-replicate}
use Rattle.std.proofs.lemmas.List.Sums.{fold-append}
use Rattle.net_core.specs.declared.network.Event.{Event}
use Rattle.net_core.specs.declared.network.Event.TheVariants.{Get, Fire, Put}
use Rattle.net_core.specs.Cuts.{cut_after, opening}
use Rattle.net_core.specs.Machine.{Net}
use Rattle.net_core.proofs.CutOrder.{cut_after-append}
use Rattle.witness_plan.specs.Effects.{after_effect, after_effects, effect_of, first_point, first_points, puts_in_front}
use Rattle.witness_plan.specs.Records.{left_after}
use Rattle.witness_plan.specs.Steps.{point_length, put_length, with_points}
use Rattle.witness_plan.specs.declared.effects.Effect.{Effect}
use Rattle.witness_plan.specs.declared.effects.Effect.TheVariants.{Take, Nothing, Append}
use Rattle.witness_plan.specs.declared.queues.QueueTotals.{QueueTotals}
use Rattle.witness_plan.proofs.AlongCuts.{cut_here}

same_puts : (es : List Event) → puts_in_front (map effect_of es) ≡ put_length es
same_puts [] = refl
same_puts (Get c slot ∷ es) = refl
same_puts (Fire refs ∷ es) = refl
same_puts (Put c ∷ es) = ap suc (same_puts es)

same_point : (es : List Event) → first_point (map effect_of es) ≡ point_length es
same_point [] = refl
same_point (Get c slot ∷ es) = ap suc (same_point es)
same_point (Fire refs ∷ es) = ap suc (same_puts es)
same_point (Put c ∷ es) = ap suc (same_point es)

-- what is left behind so many entries of a process more
pub left_further : (net : Net) (schedule : List ℕ) (m p : ℕ)
    → left_after net (schedule ++ replicate m p) p ≡ drop m (left_after net schedule p)
left_further net schedule m p =
    ap (λ cut. drop (cut p) (net.script p)) (cut_after-append opening schedule (replicate m p))
    ∙ ap (λ k. drop k (net.script p)) (cut_here (cut_after opening schedule) m p)
    ∙ sym (drop-drop m (cut_after opening schedule p) (net.script p))

-- the schedule with the events of so many points more
pub points_made : (net : Net) (schedule : List ℕ) (p count : ℕ)
    → with_points net schedule p count
    ≡ schedule ++ replicate (first_points count (map effect_of (left_after net schedule p))) p
points_made net schedule p zero = sym (append-nil schedule)
points_made net schedule p (suc count) =
    let left = left_after net schedule p in
    let before = first_points count (map effect_of left) in
    let here : point_length (left_after net (schedule ++ replicate before p) p)
    ≡ first_point (drop before (map effect_of left)) =
    ap point_length (left_further net schedule before p)
    ∙ sym (ap first_point (drop-map effect_of before left) ∙ same_point (drop before left)) in
    ap (λ s. s ++ replicate (point_length (left_after net s p)) p) (points_made net schedule p count)
    ∙ ap (λ m. (schedule ++ replicate before p) ++ replicate m p) here
    ∙ append_assoc schedule (replicate before p) (replicate (first_point (drop before (map effect_of left))) p)
    ∙ ap (λ ps. schedule ++ ps)
    (replicate-append-replicate before (first_point (drop before (map effect_of left))) p)

-- One effect more

longer_point : (e : Effect) (later : List Effect) → (e ≡ Nothing → ⊥) → first_point (e ∷ later) ≡ suc (first_point later)
longer_point (Take c) later other = refl
longer_point Nothing later other = absurd (other refl)
longer_point (Append c) later other = refl

module _ (es : List Effect) (i : ℕ) (d : Effect) (lt : i < length es) where
  here : drop i es ≡ get_or es i d ∷ drop (i + 1) es
  here = drop-cons es i d lt ∙ ap (λ k. get_or es i d ∷ drop k es) (sym (add-one i))

  -- a Fire's
  pub fire_passed : get_or es i d ≡ Nothing → first_point (drop i es) ≡ suc (puts_in_front (drop (i + 1) es))
  fire_passed is = ap first_point here ∙ ap (λ e. first_point (e ∷ drop (i + 1) es)) is

  -- another before it
  pub other_passed : (get_or es i d ≡ Nothing → ⊥) → first_point (drop i es) ≡ suc (first_point (drop (i + 1) es))
  other_passed other = ap first_point here ∙ longer_point (get_or es i d) (drop (i + 1) es) other

  -- a Put's behind it
  pub put_passed : (c : ℕ) → get_or es i d ≡ Append c → puts_in_front (drop i es) ≡ suc (puts_in_front (drop (i + 1) es))
  put_passed c is = ap puts_in_front here ∙ ap (λ e. puts_in_front (e ∷ drop (i + 1) es)) is

  -- none
  pub no_put_there : ((later : List Effect) → puts_in_front (get_or es i d ∷ later) ≡ 0) → puts_in_front (drop i es) ≡ 0
  no_put_there none = ap puts_in_front here ∙ none (drop (i + 1) es)

-- one stretch of effects after another
pub passed_further : (queues : List QueueTotals) (n m : ℕ) (es : List Effect)
    → after_effects (after_effects queues (take n es)) (take m (drop n es)) ≡ after_effects queues (take (n + m) es)
passed_further queues n m es =
    sym (fold-append after_effect queues (take n es) (take m (drop n es)))
    ∙ ap (fold after_effect queues) (sym (take-add n m es))
