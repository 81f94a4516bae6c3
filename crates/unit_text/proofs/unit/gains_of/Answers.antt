use Rattle.std.proofs.Common.{◌≡◌, ◌∙◌, ◌++◌, ◌∷◌, [], ℤ, List, length, map, pos, rules, slice_index_or, sym, ap, ap₂, arith}
use Rattle.std.specs.Prelude.{FitsSigned}
use Rattle.std.specs.Int.{w64}
use Rattle.std.specs.List.{range_with_len}
use Rattle.std.proofs.lemmas.Int.{to_z-of_z}
use Rattle.std.proofs.lemmas.List.{length-map}
use Rattle.std.proofs.lemmas.List.FromFn.{map-range_with_len_more}
use Rattle.unit_text.specs.Units.{gain, loop_values}
use Rattle.unit_text.proofs.unit.gains_of.Goals as goal

pub loop-place-preserved : goal.loop-place-preserved
loop-place-preserved c =
    let f = gain (loop_values c.args.number c.args.points.now) in
    let k = c.loop-place.place in
    let fits : FitsSigned w64 c.gain_at.result = search rules in
    c.in_ok-push.ensures.ok
    ∙ ap₂ (λ (gains : List ℤ) (last : ℤ). gains ++ last ∷ []) c.loop-place.invariant
    (to_z-of_z w64 c.gain_at.result fits ∙ c.gain_at.ensures)
    ∙ sym (map-range_with_len_more f 0 k k (omega arith))

pub returns : goal.returns
returns c =
    let points = c.args.points.now in
    let values = loop_values c.args.number points in
    let many : c.loop-place.place ≡ length values =
    omega (arith, length-map points (λ (at : List ℤ). slice_index_or at c.args.number (pos 0))) in
    c.loop-place.invariant ∙ ap (λ n. map (gain values) (range_with_len 0 n)) many
