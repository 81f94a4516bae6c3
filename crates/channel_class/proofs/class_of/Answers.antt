use Rattle.std.proofs.Common.{◌≡◌, Bool, List, ℕ, sym, ◌∙◌, if◌then◌else◌}
use Rattle.std.proofs.lemmas.Bool.{cond-true, cond-false}
use Rattle.channel_class.specs.declared.ChannelClass.{ChannelClass}
use Rattle.channel_class.specs.declared.UseOrder.{UseOrder}
use Rattle.channel_class.specs.declared.UseOrder.TheVariants.{InOrder, Reorder}
use Rattle.channel_class.specs.Classes.{class_of, never_falls, has_repeat}
use Rattle.channel_class.proofs.class_of.Goals as goal
use Rattle.channel_class.proofs.class_of.Goals.{then-never_falls, else-never_falls}

class_from : (uses : List ℕ) (order : UseOrder) (many : Bool) → order ≡ (if never_falls uses then InOrder else Reorder)
    → many ≡ has_repeat uses → ◌≡◌ {A = ChannelClass} (record { order = order; multiplicity = many }) (class_of uses)
class_from uses order many o m = λ i. record { order = o i; multiplicity = m i }

pub returns : goal.returns
returns c =
    let uses = c.args.uses.now in
    let order : c.if-never_falls.order ≡ (if never_falls uses then InOrder else Reorder) =
    elim c.if-never_falls.branch [
      | then-never_falls w ↦
          w.order-is
          ∙ sym (cond-true (never_falls uses) InOrder Reorder (sym c.never_falls.ensures ∙ w.if-never_falls.true))
      | else-never_falls w ↦
          w.order-is
          ∙ sym (cond-false (never_falls uses) InOrder Reorder (sym c.never_falls.ensures ∙ w.if-never_falls.false))
    ] in
    class_from uses c.if-never_falls.order c.in_ok-multiplicity.multiplicity order c.in_ok-multiplicity.ensures
