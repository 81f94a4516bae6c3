-- What a test gives where its form's value is known.
use Rattle.std.proofs.Common.{◌≡◌, ℤ, pos, List, Bool, cond, sym}
use Rattle.std.specs.Prelude.{Option, Some, None, IfSome}
use Rattle.std.specs.Int.RustNames.{int_le}
use Rattle.affine_core.specs.declared.form.Form.{Form}
use Rattle.affine_core.specs.Within.{value_in_128_bits}
use Rattle.source_tree.specs.declared.tree.Found.{Found}
use Rattle.source_tree.specs.declared.tree.Tree.{Tree}
use Rattle.source_tree.specs.declared.tree.Tree.TheViews.{Test}
use Rattle.source_tree.specs.Walk.{outcome_of}
use Rattle.source_tree.proofs.WalkOutcomes.{test_taken}

pub test_known : (at values : List ℤ) (p : Tree) (form : Form) (a b chosen : Tree) (v : ℤ) (t : Bool) (r : Option Found)
    → p ≡ Test form a b → values ≡ at → value_in_128_bits form values ≡ Some v
    → int_le (pos 0) v ≡ t → chosen ≡ cond t a b
    → IfSome r (λ found. outcome_of chosen at ≡ Some found) → IfSome r (λ found. outcome_of p at ≡ Some found)
test_known at values p form a b chosen v t None e f is sign choice end = tt
test_known at values p form a b chosen v t (Some x) e f is sign choice end =
    sym (test_taken at values p form a b chosen v t (Some x) e f (sym is) sign choice (sym end))
