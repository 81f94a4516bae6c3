-- What is known of the places of statements' accesses, along the walk over the trace. The lines of a stretch say, for
-- each value between its first and its last, where the cells of its statement's accesses lie at the stretch's outer
-- values. They hold because the first and the last cell of each access were asked; that the loop comes to any of these
-- values isn't said, and needn't be. They speak of places alone, and no write changes a place, so they stay as they are
-- at every entry; an entry changes only the stretch of its own statement, and asks before it does.
use Rattle.std.proofs.Common.{◌≡◌, ◌<◌, ℕ, List, length, set, get_or, sym, ap, ◌∙◌, subst, inl, inr, arith}
use Rattle.std.specs.Prelude.{replicate}
use Rattle.std.proofs.lemmas.Bool.{cases_eq}
use Rattle.std.proofs.lemmas.List.{get_or_default, get_or-replicate, get_or-set_other, get_or-set_same}
use Rattle.std.proofs.lemmas.List.{length-replicate, length-set}
use Rattle.cell_rows.specs.declared.narrow_access.NarrowStatement.{NarrowStatement}
use Rattle.cell_lines.specs.LinePlaces.{Places}
use Rattle.shadow_sweep.specs.declared.stretch.Stretch.{Stretch}
use Rattle.shadow_sweep.specs.Stretches.{AreStretchesOf, IsStretchOf, no_stretch}

-- nothing is known at the start
pub none_known : (place_of : Places) (accesses : List NarrowStatement) (stretches : List Stretch) (count : ℕ)
    → count ≡ length accesses → stretches ≡ replicate count no_stretch → AreStretchesOf place_of accesses stretches
none_known place_of accesses stretches count counts are = record {
  many = ap length are ∙ length-replicate count no_stretch ∙ counts;
  known = λ i lt statement is stretch here.
      let none : stretch ≡ no_stretch =
      here ∙ ap (λ list. get_or list i stretch) are
      ∙ get_or-replicate count i no_stretch stretch (omega (arith, counts)) in
      subst (λ (s : Stretch). IsStretchOf place_of statement s) (sym none) tt;
}

-- one stretch is another, and the places stay
pub one_more : (old new : Places) (accesses : List NarrowStatement) (before after : List Stretch) (i : ℕ)
    (statement : NarrowStatement) (stretch : Stretch)
    → new ≡ old → AreStretchesOf old accesses before → i < length accesses → statement ≡ get_or accesses i statement
    → IsStretchOf old statement stretch → after ≡ set before i stretch → AreStretchesOf new accesses after
one_more old new accesses before after i statement stretch same all within is here set_here =
    subst (λ (place_of : Places). AreStretchesOf place_of accesses after) (sym same)
    (record {
      many = ap length set_here ∙ length-set before i stretch ∙ all.many;
      known = λ j lt other other_is known known_is. elim (cases_eq j i) [
        | inl e ↦ (
            let room : i < length before = omega (arith, all.many) in
            let which : other ≡ statement =
            other_is ∙ ap (λ k. get_or accesses k other) e
            ∙ get_or_default accesses i other statement within ∙ sym is in
            let found : known ≡ stretch =
            known_is ∙ ap (λ k. get_or after k known) e ∙ ap (λ list. get_or list i known) set_here
            ∙ get_or-set_same before i stretch known room in
            subst (λ (s : Stretch). IsStretchOf old other s) (sym found)
            (subst (λ (a : NarrowStatement). IsStretchOf old a stretch) (sym which) here))
        | inr ne ↦ all.known j lt other other_is known
            (known_is ∙ ap (λ list. get_or list j known) set_here ∙ get_or-set_other before i j stretch known ne)
      ];
    })
