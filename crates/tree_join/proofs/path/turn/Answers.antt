use Rattle.std.proofs.Common.{◌^◌, ◌+◌, ◌++◌, ◌∷◌, [], ◌∙◌, refl, sym, ap, subst, arith}
use Rattle.tree_join.specs.declared.path.Frame.TheVariants.{Second}
use Rattle.tree_join.specs.declared.path.Step.TheVariants.{Made, On}
use Rattle.tree_join.specs.declared.path.Walk.{Walk}
use Rattle.tree_join.proofs.Turning.{dead_made, kept_seen, ready_context, second_is, second_ready, turned}
use Rattle.int_polyhedra.specs.Steps.{negation_of}
use Rattle.tree_graphs.specs.Facts.{with_form, IsContext}
use Rattle.tree_sums.proofs.Within.{IsWithin-weaker}
use Rattle.tree_sums.specs.Parts.{IsWithin}
use Rattle.std.specs.Prelude.{Some}
use Rattle.tree_join.proofs.path.turn.Goals as goal

pub last_row-form-requires : goal.last_row-form-requires
last_row-form-requires c = let h = c.requires in (h.context, h.row, h.context_is)

pub opposite-row-requires : goal.opposite-row-requires
opposite-row-requires c =
    let h = c.requires in
    let last = c.last_row-form.ensures h.context h.row h.context_is in
    subst (IsWithin (2 ^ 60)) (sym last.1) (IsWithin-weaker (2 ^ 49 + 1) (2 ^ 60) h.row (omega arith) h.open_is.0.within)

pub enter-requires : goal.enter-requires
enter-requires c =
    let h = c.requires in
    let task = c.args.task.now in
    let walk = c.args.walk.now in
    let last = c.last_row-form.ensures h.context h.row h.context_is in
    let negated = ap negation_of (sym last.1) ∙ c.opposite-row.ensures in
    subst (λ context. IsContext (with_form context c.opposite-row.result)) (sym last.0)
    (ready_context task.read.now task.candidates.now _ h.seen c.args.left c.args.next
    (second_is task walk walk c.args.count c.args.left c.args.next c.args.yes h c.opposite-row.result negated))

pub returns-in-Some : goal.returns-in-Some
returns-in-Some c =
    let h = c.requires in
    let task = c.args.task.now in
    let walk = c.args.walk.now in
    let last = c.last_row-form.ensures h.context h.row h.context_is in
    let other = c.opposite-row.result in
    let negated = ap negation_of (sym last.1) ∙ c.opposite-row.ensures in
    let context_is = c.in_ok-dead.ensures.context ∙ ap (λ context. with_form context other) last.0 in
    let seen_is = c.truncate.ensures ∙ kept_seen task walk walk c.args.count c.args.left c.args.next c.args.yes h other negated
    in
    let frames_are = c.in_ok-push.ensures.ok
    ∙ ap (λ form. walk.frames ++ Second form c.args.yes ∷ []) last.1 in
    let new : Walk = record {
      context = c.enter.new.context;
      seen = c.truncate.new.self;
      left = c.args.left;
      frames = c.push.new.self;
    } in
    turned task walk new c.args.count c.args.left c.args.next c.args.yes h other negated (Made c.in-Some.tree) context_is seen_is refl frames_are
    (dead_made task.read.now task.candidates.now _ _ h.seen c.args.left c.args.next c.in_ok-dead.dead c.in-Some.tree
    (second_is task walk walk c.args.count c.args.left c.args.next c.args.yes h other negated) context_is c.in-Some.is
    c.in_ok-dead.ensures.dead c.in_ok-dead.ensures.low) (omega arith)

pub returns : goal.returns
returns c =
    let h = c.requires in
    let task = c.args.task.now in
    let walk = c.args.walk.now in
    let last = c.last_row-form.ensures h.context h.row h.context_is in
    let other = c.opposite-row.result in
    let negated = ap negation_of (sym last.1) ∙ c.opposite-row.ensures in
    let context_is = c.in_ok-dead.ensures.context ∙ ap (λ context. with_form context other) last.0 in
    let seen_is = c.truncate.ensures ∙ kept_seen task walk walk c.args.count c.args.left c.args.next c.args.yes h other negated
    in
    let frames_are = c.in_ok-push.ensures.ok
    ∙ ap (λ form. walk.frames ++ Second form c.args.yes ∷ []) last.1 in
    let new : Walk = record {
      context = c.enter.new.context;
      seen = c.truncate.new.self;
      left = c.args.left;
      frames = c.push.new.self;
    } in
    turned task walk new c.args.count c.args.left c.args.next c.args.yes h other negated (On c.args.next) context_is seen_is refl frames_are
    (second_ready task walk new c.args.count c.args.left c.args.next c.args.yes h other negated context_is seen_is refl)
    (omega arith)
