-- The text of a certificate with a run in the place of its schedule, computed from the definition. It is an example of the
-- bytes alone: no run of two processes without events has these entries.
use Rattle.std.proofs.Common.{◌≡◌, false, [], ◌∷◌, codes, refl, arith}
use Rattle.std.specs.List.{flat_map}
use Rattle.std.proofs.lemmas.Fmt.{decimal_digit}
use Rattle.channel_class.specs.declared.UseOrder.TheVariants.{InOrder}
use Rattle.source_tree.specs.declared.cert.Origin.TheVariants.{Sweep}
use Rattle.cert_text.specs.Folding.{Folded}
use Rattle.trace_text.specs.TraceText.{entry_line}
use Rattle.network_laws.specs.Entries.{text_with_lines}

folded : Folded
folded = record {
  processes =
      record { slots = 0; script = record { parts = [] } } ∷ record { slots = 1; script = record { parts = [] } } ∷ [];
  channels = record {
    writer = 0;
    reader = 1;
    read = 0;
    capacity = 3;
    class = record { order = InOrder; multiplicity = false };
  } ∷ [];
  sources = Sweep ∷ [];
  schedule = record { parts = [] };
}

with_three_entries : text_with_lines folded 3 (flat_map entry_line (0 ∷ 1 ∷ 1 ∷ []))
    ≡ codes "sizes 2 1 1 3\nprocess 0 0\nprocess 1 0\nchannel 0 1 0 3 inorder\nsweep\n0\n1\n1\nend\n"
unfolding folded
with_three_entries =
    rw (
      decimal_digit 0 (omega arith),
      decimal_digit 1 (omega arith),
      decimal_digit 2 (omega arith),
      decimal_digit 3 (omega arith),
    ) refl
