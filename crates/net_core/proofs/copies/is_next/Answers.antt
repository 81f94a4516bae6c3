use Rattle.std.proofs.Common.{◌≡◌, ◌∷◌, ◌∙◌, ap, sym, true≢false}
use Rattle.std.proofs.lemmas.Bool.{false≢true}
use Rattle.net_core.specs.declared.network.Event.{Event}
use Rattle.net_core.proofs.Alike.{not_empty}
use Rattle.net_core.proofs.copies.is_next.Goals as goal
use Rattle.plain_data.proofs.Lists.{same_head}

pub returns-in-Some : goal.returns-in-Some
returns-in-Some c =
    record {
      next = λ t. c.in-Some.ensures.steps ∙ ap (λ (e : Event). e ∷ c.next.new.self) (c.is_same_event.ensures.0 t);
      other = λ f items e.
          let whole : c.in-Some.further ∷ c.next.new.self ≡ c.args.event.now ∷ items = sym c.in-Some.ensures.steps ∙ e
          in
          let same : c.in-Some.further ≡ c.args.event.now = same_head _ _ _ _ whole in
          true≢false (sym (c.is_same_event.ensures.1 same) ∙ f);
    }

pub returns-in-None : goal.returns-in-None
returns-in-None c =
    record {
      next = λ t. absurd (false≢true t);
      other = λ f items e. not_empty c.args.event.now items (sym e ∙ c.in-None.ensures.steps.0);
    }
