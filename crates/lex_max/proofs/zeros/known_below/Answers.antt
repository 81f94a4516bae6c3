use Rattle.std.proofs.Common.{◌^◌, length, sym, ap, ◌∙◌, subst, arith}
use Rattle.std.proofs.lemmas.Option.{same_Some, IfSome_then}
use Rattle.std.proofs.lemmas.Result.{IfOk-weaker}
use Rattle.affine_core.specs.declared.form.Form.{Form}
use Rattle.tree_graphs.specs.Facts.{form_parts, IsFact}
use Rattle.tree_graphs.proofs.Small.{negation_of-some}
use Rattle.lex_max.proofs.DecisionContexts.{opposite_long}
use Rattle.lex_max.proofs.zeros.known_below.Goals as goal

pub known-requires : goal.known-requires
known-requires c =
    let form = c.args.form.now in
    ap (λ (f : Form). length f.coefs)
    (negation_of-some (2 ^ 60) form c.opposite-row.result (omega arith) c.requires.small c.opposite-row.ensures)
    ∙ opposite_long form ∙ c.requires.over

pub returns : goal.returns
returns c =
    let row = c.opposite-row.result in
    IfOk-weaker c.known.result _ _
    (λ found h. IfSome_then found h (λ ts fact other is. subst (λ f. IsFact c.args.context.now.system.now 65536
    (form_parts f) ts)
    (same_Some row other (sym c.opposite-row.ensures ∙ is)) fact)) c.known.ensures.some
