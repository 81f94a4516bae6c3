use Rattle.std.proofs.Common.{length}
use Rattle.affine_core.proofs.kept_form.+add_narrow_in_64_bits.Given as goal

abbrev pub decreases-add_narrow_in_64_bits : goal.decreases-add_narrow_in_64_bits
decreases-add_narrow_in_64_bits l = length l.coefs.now
