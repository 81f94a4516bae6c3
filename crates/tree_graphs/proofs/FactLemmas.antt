-- A fact is what was confirmed, and what is told where nothing was found.
use Rattle.std.proofs.Common.{◌≡◌, pos, List, length, arith}
use Rattle.std.specs.Prelude.{Option, Some, None, IfNone}
use Rattle.std.proofs.lemmas.Int.{ints}
use Rattle.affine_core.specs.declared.form.Form.{Form}
use Rattle.int_polyhedra.specs.declared.system.Proof.TheVariants.{Sum}
use Rattle.int_polyhedra.specs.declared.system.System.{System}
use Rattle.int_polyhedra.specs.declared.system.Term.{Term}
use Rattle.int_polyhedra.specs.Rules.{ProvesEntailment}
use Rattle.tree_graphs.specs.Facts.{form_parts, AreLight, IsContext, IsFact}
use Rattle.tree_sums.specs.Shown.{with_last}
use Rattle.tree_sums.proofs.EntailmentTerms.{confirms}

pub fact_is : (context : System) (form : Form) (ts : List Term) → IsContext context → length form.coefs ≡ context.vars
    → AreLight (length context.rows) (pos 65536) ts
    → ProvesEntailment context.vars context.rows form (Sum (with_last context.rows ts))
    → IsFact context 65536 (form_parts form) ts
fact_is context form ts h over light proved = record {
  shows = confirms context.vars context.rows ts form h.over over light.name_rows light.not_negative proved;
  light = omega (arith, ints, light.light);
}

-- nothing was found, and so the one is told, and with it the other
pub none_then : {X : Type 0} (o : Option X) (P Q : Type 0) → IfNone o P → (P → Q) → IfNone o Q
none_then None P Q h f = f h
none_then (Some x) P Q h f = tt

-- it is told whatever was found
pub none_told : {X : Type 0} (o : Option X) (P : Type 0) → P → IfNone o P
none_told None P h = h
none_told (Some x) P h = tt
