-- What is known of a read, of a write of strides to its array and of a level between them.
--
-- It is what is known of any write to a read's array, and that the write's subscripts and domain rows are forms of
-- the class of strides.
use Rattle.std.proofs.Common.{◌≡◌, ◌^◌, ◌||◌, ℕ, List, [], ◌∷◌, true}
use Rattle.std.specs.Prelude.{All}
use Rattle.std.specs.List.{list_all}
use Rattle.std.proofs.lemmas.Bool.{and_parts}
use Rattle.std.proofs.lemmas.List.Elements.{All-nil, All-cons}
use Rattle.affine_core.specs.declared.form.Form.{Form}
use Rattle.tree_graphs.proofs.ProblemBounds.{fit_with, form_is, FitWith}
use Rattle.tree_sums.specs.Parts.{IsWithin}
use Rattle.sanlp.specs.declared.nest.Nest.{Nest}
use Rattle.sanlp.specs.WellFormed.{form_fits}
use Rattle.source_tree.specs.Systems.{Occurrence}
use Rattle.tree_cuts.specs.Class.{is_pair, is_single}
use Rattle.stride_trees.specs.Strides.{AreStrided}

abbrev pub AreFitting : Nest → Occurrence → Occurrence → ℕ → Type 0
AreFitting = FitWith is_single (λ row. is_single row || is_pair row)

pub are_fitting : (n : Nest) (r w : Occurrence) (p : ℕ) → AreStrided n r w p → AreFitting n r w p
are_fitting n r w p a =
    fit_with is_single (λ row. is_single row || is_pair row) n r w p a.read.0 a.reader a.read.1 a.write a.level a.strides

pub all_within : (depth : ℕ) (forms : List Form) → list_all (form_fits depth) forms ≡ true
    → All (IsWithin (2 ^ 32)) forms
all_within depth [] e = All-nil _
all_within depth (form ∷ forms) e =
    let b = and_parts (form_fits depth form) (list_all (form_fits depth) forms) e in
    All-cons (IsWithin (2 ^ 32)) form forms (form_is depth form b.0).within (all_within depth forms b.1)
