use Rattle.std.proofs.Common.{◌++◌, ◌∷◌, [], ◌∙◌, ap}
use Rattle.script_blocks.specs.Labels.{items_at}
use Rattle.plain_data.proofs.Options.{OnErr-any}
use Rattle.script_blocks.proofs.Labels.{label_added, label_below, same_items}
use Rattle.script_blocks.proofs.builder.ScriptBuilder.push_with_key.Goals as goal

pub returns-in_err-kind-clause-err : goal.returns-in_err-kind-clause-err
returns-in_err-kind-clause-err g c =
    OnErr-any c.from_residual.result
    (same_items c.self.inside.kinds.items c.kind_of.new.kinds.items c.self.inside.labels.items c.kind_of.ensures.front
    c.self.invariant
    ∙ c.self.view_is)

pub returns-in_err-push-clause-err : goal.returns-in_err-push-clause-err
returns-in_err-push-clause-err g c =
    OnErr-any c.from_residual-in_err-push.result
    (ap (items_at c.kind_of.new.kinds.items) c.in_err-push.ensures.items
    ∙ same_items c.self.inside.kinds.items c.kind_of.new.kinds.items c.self.inside.labels.items c.kind_of.ensures.front
    c.self.invariant
    ∙ c.self.view_is)

pub invariant_of-self-2 : goal.invariant_of-self-2
invariant_of-self-2 g c =
    label_below c.self.inside.kinds.items c.kind_of.new.kinds.items c.self.inside.labels.items c.push.new.self.items
    c.in_ok-kind.kind c.args.item.now c.kind_of.ensures.front c.self.invariant c.in_ok-kind.ensures.kind
    c.in_ok-push.ensures.items

pub returns-clause-ok : goal.returns-clause-ok
returns-clause-ok g c =
    label_added c.self.inside.kinds.items c.kind_of.new.kinds.items c.self.inside.labels.items c.push.new.self.items
    c.in_ok-kind.kind c.args.item.now c.kind_of.ensures.front c.self.invariant c.in_ok-kind.ensures.kind
    c.in_ok-push.ensures.items
    ∙ ap (λ xs. xs ++ c.args.item.now ∷ []) c.self.view_is
