-- Where the Fires of a process fit, no event of it may not stand where it does.
--
-- A Get may stand anywhere. Each Fire that fits has its references, and fewer Fires before it than there are in all,
-- which is the number of points. A Put has a Fire before it: otherwise it, or another Put before it, would be the
-- first event that is no Get. So nothing is wrong at any place, nor at the end, where all points had their Fire. The
-- converse holds too, but isn't needed.
use Rattle.std.proofs.Common.{◌≡◌, ℕ, zero, suc, ◌<◌, true, false, ltb, lt-ltb, eqb-true, Some}
use Rattle.std.proofs.Common.{None, List, [], ◌∷◌, length, slice_get, count_by, take, refl, ap, arith}
use Rattle.std.specs.List.{list_all}
use Rattle.std.specs.Prelude.{◌==◌, ◌&&◌, not}
use Rattle.std.proofs.lemmas.Bool.{and_parts, and_from, not-true}
use Rattle.std.proofs.lemmas.Option.{slice_get_within}
use Rattle.std.proofs.Math.Seq.{take-length}
use Rattle.sanlp.specs.Access.{read_count}
use Rattle.sanlp.specs.declared.nest.Nest.{Nest}
use Rattle.sanlp.specs.Points.{points_of}
use Rattle.net_core.specs.declared.network.Event.{Event}
use Rattle.net_core.specs.declared.network.Event.TheVariants.{Get, Fire, Put}
use Rattle.net_core.specs.declared.refs.Ref.{Ref}
use Rattle.net_core.specs.Machine.{Net}
use Rattle.net_core.specs.Shape.{fires, is_fire, turns}
use Rattle.net_core.proofs.EventCounts.{count_cons, count_past}
use Rattle.net_checker.specs.Firings.{is_within, may_stand, process_firing}
use Rattle.net_checker.specs.FittingFires.{fires_fit, fits_reads, puts_first}
use Rattle.net_checker.proofs.FirstFault.{enough_fires, event_fine}
use Rattle.net_checker.proofs.Lists.{all_at}
use Rattle.plain_data.proofs.Lists.{slice_get-some}

-- where no Put comes first, each has a Fire before it
put_fired : (events : List Event) (k c : ℕ) → puts_first events ≡ false → slice_get events k ≡ Some (Put c)
    → 0 < count_by is_fire (take k events)
put_fired [] k c none is = absurd (let e : None ≡ Some (Put c) = is in cc)
put_fired (Get d slot ∷ events) zero c none is = absurd (let e : Some (Get d slot) ≡ Some (Put c) = is in cc)
put_fired (Get d slot ∷ events) (suc k) c none is =
    omega (arith, put_fired events k c none is, count_cons is_fire (Get d slot) (take k events))
put_fired (Fire refs ∷ events) zero c none is = absurd (let e : Some (Fire refs) ≡ Some (Put c) = is in cc)
put_fired (Fire refs ∷ events) (suc k) c none is =
    omega (arith, count_cons is_fire (Fire refs) (take k events))
put_fired (Put d ∷ events) k c none is = absurd (let e : true ≡ false = none in cc)

module _ (n : Nest) (net : Net) (p : ℕ) (fit : fires_fit n net p ≡ true) where
  fit_parts : (list_all (fits_reads n net p) (net.script p) && (count_by is_fire (net.script p) == turns (points_of n) p)
      ≡ true) × (not (puts_first (net.script p)) ≡ true)
  fit_parts =
      and_parts
      (list_all (fits_reads n net p) (net.script p) && (count_by is_fire (net.script p) == turns (points_of n) p))
      (not (puts_first (net.script p))) fit

  all_fit : (list_all (fits_reads n net p) (net.script p) ≡ true)
      × ((count_by is_fire (net.script p) == turns (points_of n) p) ≡ true)
  all_fit =
      and_parts (list_all (fits_reads n net p) (net.script p))
      (count_by is_fire (net.script p) == turns (points_of n) p) fit_parts.0

  all_turns : count_by is_fire (net.script p) ≡ turns (points_of n) p
  all_turns = eqb-true (count_by is_fire (net.script p)) (turns (points_of n) p) all_fit.1

  no_put_first : puts_first (net.script p) ≡ false
  no_put_first = not-true (puts_first (net.script p)) fit_parts.1

  fired_below : (k : ℕ) (refs : List Ref) → slice_get (net.script p) k ≡ Some (Fire refs)
      → fires net p k < turns (points_of n) p
  fired_below k refs is =
      let past =
      count_past is_fire (net.script p) k (length (net.script p)) (Fire refs) is refl
      (slice_get_within (net.script p) k (Fire refs) is) in
      omega (arith, past, ap (count_by is_fire) (take-length (net.script p)), all_turns)

  stands : (k : ℕ) (e : Event) → slice_get (net.script p) k ≡ Some e → may_stand n net p (fires net p k) e ≡ true
  stands k (Get c slot) is = refl
  stands k (Fire refs) is =
      let both =
      and_parts (length refs == read_count n p) (list_all (is_within (net.slots p)) refs)
      (all_at (fits_reads n net p) (net.script p) k (Fire refs) all_fit.0 is) in
      and_from (ltb (fires net p k) (turns (points_of n) p) && (length refs == read_count n p))
      (list_all (is_within (net.slots p)) refs)
      (and_from (ltb (fires net p k) (turns (points_of n) p)) (length refs == read_count n p)
      (lt-ltb (fires net p k) (turns (points_of n) p) (fired_below k refs is)) both.0) both.1
  stands k (Put c) is = lt-ltb 0 (fires net p k) (put_fired (net.script p) k c no_put_first is)

  -- nothing is wrong
  pub fitting_fires : None ≡ process_firing n net p
  fitting_fires =
      enough_fires n net p
      (λ k lt.
      let found = slice_get-some (net.script p) k lt in
      event_fine n net p k (fires net p k) (slice_get (net.script p) k) found.0 found.1 refl
      (stands k found.0 found.1))
      (omega (arith, all_turns))
