use Rattle.std.proofs.Common.{◌∙◌, ℤ, List, length, pos, slice_index_or, rules, subst, ap, arith, refl}
use Rattle.std.specs.Prelude.{FitsSigned}
use Rattle.std.specs.Int.{w64}
use Rattle.std.proofs.lemmas.Int.{to_z-of_z}
use Rattle.std.proofs.lemmas.List.{length-map}
use Rattle.std.proofs.lemmas.List.FromFn.{length-map-range_with_len}
use Rattle.unit_text.specs.Units.{IsSequencerOf, gain, loop_values}
use Rattle.unit_text.proofs.unit.loop_counter.Goals as goal

pub folded_sequencer-requires : goal.folded_sequencer-requires
folded_sequencer-requires c =
    let points = c.args.points.now in
    let values = loop_values c.args.number points in
    omega (
      arith,
      c.requires,
      ap length c.as_slice.ensures,
      ap length c.in_ok-gained.ensures,
      length-map-range_with_len (gain values) 0 (length values),
      length-map points (λ (at : List ℤ). slice_index_or at c.args.number (pos 0)),
    )

pub returns : goal.returns
returns c =
    let first = c.loop_value-first.result in
    let fits : FitsSigned w64 first = search rules in
    record {
      counter = record {
        first_is = to_z-of_z w64 first fits ∙ c.loop_value-first.ensures;
        gains_are = subst (λ gained. IsSequencerOf gained c.in_ok-gains.gains)
            (c.as_slice.ensures ∙ c.in_ok-gained.ensures) c.in_ok-gains.ensures;
      };
      number = refl;
    }
