-- The schedule that follows the trace, after the first entries.
--
-- The invariant is that after the first t entries each process stands behind the events of its points among them
-- (`stands`). The next entry is a point of one process, at the turn that counts this process's entries before it. It
-- adds the process to the schedule once for each event of the point, so the process moves on by just these, and the
-- others stay where they are. It is counting alone: neither which events a point has nor whether they can come matters.
use Rattle.std.proofs.Common.{◌≡◌, ℕ, zero, suc, ◌+◌, ◌≤◌, Some, cond, List, [], ◌∷◌, ◌++◌, length, take, replicate}
use Rattle.std.proofs.Common.{slice_get, refl, sym, ap, ◌∙◌, inl, inr, arith, length-append}
use Rattle.std.specs.Prelude.{◌==◌, count_by}
use Rattle.std.specs.List.{filter_map, flat_map, range_with_len}
use Rattle.std.specs.Option.{option_map}
use Rattle.std.proofs.lemmas.Bool.{cases_eq, eq-eqb, ne_eqb}
use Rattle.std.proofs.lemmas.List.{append-nil}
use Rattle.std.proofs.lemmas.List.Concat.{flat_map-append}
use Rattle.std.proofs.lemmas.List.Elements.{filter_map-append}
use Rattle.net_core.specs.declared.network.Event.{Event}
use Rattle.net_core.specs.Cuts.{cut_after, opening}
use Rattle.net_core.proofs.EventCounts.{count_next}
use Rattle.plain_data.proofs.Lists.{slice_get-some}
use Rattle.sanlp.specs.declared.nest.Point.{Point}
use Rattle.sanlp.specs.declared.nest.Tag.{Tag}
use Rattle.sanlp.specs.Tags.{tag_at}
use Rattle.sanlp.proofs.Lists.{flat_map-range_with_len_more, range_with_len_more}
use Rattle.net_core.proofs.CutOrder.{cut_after-append}
use Rattle.witness_plan.proofs.AlongCuts.{cut_here, cut_there}

-- how many of the first t entries are of process p
abbrev pub turns_before : List Point → ℕ → ℕ → ℕ
turns_before points t p = count_by (λ q. q.statement == p) (take t points)

module _ (events : ℕ → ℕ → List Event) (points : List Point) where
  -- the process of a point, once for each of its events
  abbrev of_point : Tag → List ℕ
  of_point t = replicate (length (events t.process t.turn)) t.process

  -- the schedule of the first t entries
  abbrev pub until : ℕ → List ℕ
  until t = flat_map of_point (filter_map (tag_at points) (range_with_len 0 t))

  pub until_more : (t : ℕ) (p : Point) → slice_get points t ≡ Some p
      → until (suc t)
      ≡ until t ++ replicate (length (events p.statement (turns_before points t p.statement))) p.statement
  until_more t p is =
      let next : suc t ≡ t + 1 = omega arith in
      let tag : Tag = record { process = p.statement; turn = turns_before points t p.statement } in
      let here : tag_at points t ≡ Some tag =
      ap (option_map (λ q. record { process = q.statement; turn = turns_before points t q.statement })) is in
      let one : filter_map (tag_at points) (t ∷ []) ≡ tag ∷ [] = rw here refl in
      ap until next
      ∙ ap (λ ts. flat_map of_point (filter_map (tag_at points) ts)) (range_with_len_more 0 t t (omega arith))
      ∙ ap (flat_map of_point) (filter_map-append (tag_at points) (range_with_len 0 t) (t ∷ []))
      ∙ ap (λ ts. flat_map of_point (filter_map (tag_at points) (range_with_len 0 t) ++ ts)) one
      ∙ flat_map-append of_point (filter_map (tag_at points) (range_with_len 0 t)) (tag ∷ [])
      ∙ ap (λ ps. until t ++ ps) (append-nil (of_point tag))

  -- where a process stands after so many of its points
  abbrev stand : ℕ → ℕ → ℕ
  stand p f = length (flat_map (events p) (range_with_len 0 f))

  stand_more : (p f : ℕ) → stand p (f + 1) ≡ stand p f + length (events p f)
  stand_more p f =
      ap length (flat_map-range_with_len_more (events p) 0 f f (omega arith))
      ∙ length-append (flat_map (events p) (range_with_len 0 f)) (events p f)

  cut_until : (t q : ℕ) (p : Point) → slice_get points t ≡ Some p → cut_after opening (until (suc t)) q
      ≡ cut_after (cut_after opening (until t))
      (replicate (length (events p.statement (turns_before points t p.statement))) p.statement) q
  cut_until t q p is =
      ap (λ s. cut_after opening s q) (until_more t p is)
      ∙ ap (λ k. k q)
      (cut_after-append opening (until t)
      (replicate (length (events p.statement (turns_before points t p.statement))) p.statement))

  stands_more : (t q : ℕ) (p : Point) → slice_get points t ≡ Some p
      → cut_after opening (until t) q ≡ stand q (turns_before points t q)
      → cut_after opening (until (suc t)) q ≡ stand q (turns_before points (suc t) q)
  stands_more t q p is before =
      let m = length (events p.statement (turns_before points t p.statement)) in
      let turns : turns_before points (suc t) q ≡ turns_before points t q + cond (p.statement == q) 1 0 =
      count_next (λ (r : Point). r.statement == q) points t p is in
      elim (cases_eq q p.statement) [
        | inl same ↦
            let here : turns_before points (suc t) q ≡ turns_before points t q + 1 =
            turns ∙ ap (λ b. turns_before points t q + cond b 1 0) (eq-eqb p.statement q (sym same)) in
            cut_until t q p is
            ∙ ap (cut_after (cut_after opening (until t)) (replicate m p.statement)) same
            ∙ cut_here (cut_after opening (until t)) m p.statement
            ∙ ap (λ r. cut_after opening (until t) r + length (events r (turns_before points t r))) (sym same)
            ∙ ap (λ k. k + length (events q (turns_before points t q))) before
            ∙ sym (stand_more q (turns_before points t q))
            ∙ ap (stand q) (sym here)
        | inr other ↦
            let here : turns_before points (suc t) q ≡ turns_before points t q =
            turns ∙ ap (λ b. turns_before points t q + cond b 1 0) (ne_eqb p.statement q (λ e. other (sym e)))
            ∙ omega arith in
            cut_until t q p is
            ∙ cut_there (cut_after opening (until t)) m p.statement q other
            ∙ before
            ∙ ap (stand q) (sym here)
      ]

  -- after the first entries each process has made the events of its points among them
  pub stands : (t q : ℕ) → t ≤ length points → cut_after opening (until t) q ≡ stand q (turns_before points t q)
  stands zero q le = refl
  stands (suc t) q le =
      let p = slice_get-some points t (omega arith) in
      stands_more t q p.0 p.1 (stands t q (omega arith))
