use Rattle.std.proofs.Common.{length}
use Rattle.affine_core.proofs.kept_form.+add_narrow_products.Given as goal

abbrev pub decreases-add_narrow_products : goal.decreases-add_narrow_products
decreases-add_narrow_products l = length l.coefs.now
