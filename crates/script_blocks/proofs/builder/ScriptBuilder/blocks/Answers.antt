use Rattle.std.proofs.Common.{◌≡◌, ◌∙◌, ap, sym}
use Rattle.std.specs.Prelude.{slice_get}
use Rattle.std.proofs.lemmas.Result.{IfOk-weaker}
use Rattle.script_blocks.specs.declared.blocks.Blocks.{Blocks}
use Rattle.script_blocks.specs.Expansion.{expansion, parts_expansion}
use Rattle.script_blocks.specs.Labels.{items_or}
use Rattle.script_blocks.proofs.Labels.{never_other, no_first, no_kind}
use Rattle.script_blocks.proofs.builder.ScriptBuilder.blocks.Goals as goal

pub returns-in-Some-clause-expansion : goal.returns-in-Some-clause-expansion
returns-in-Some-clause-expansion g c =
    let kinds = c.self.inside.kinds.items in
    let labels = c.self.inside.labels.items in
    let other = c.in-Some.other.now in
    let same = ap (λ ks. items_or ks other c.as_slice-in-Some.result.now) c.as_slice.ensures.value
    ∙ ap (items_or kinds other) c.as_slice-in-Some.ensures.value
    ∙ never_other kinds other labels c.self.invariant ∙ c.self.view_is in
    IfOk-weaker c.fold_labels.result
    (λ (blocks : Blocks _). expansion blocks ≡ items_or c.as_slice.result.now other c.as_slice-in-Some.result.now)
    (λ (blocks : Blocks _). expansion blocks ≡ c.args.self.now) (λ blocks is. is ∙ same) c.fold_labels.ensures.expansion

pub returns-in-None-clause-expansion : goal.returns-in-None-clause-expansion
returns-in-None-clause-expansion g c =
    let kinds = c.self.inside.kinds.items in
    let none = no_first kinds (c.in-None.ensures.value ∙ ap (λ xs. slice_get xs 0) c.deref.ensures.value) in
    ap parts_expansion c.new.ensures ∙ sym (no_kind kinds c.self.inside.labels.items none c.self.invariant)
    ∙ c.self.view_is
