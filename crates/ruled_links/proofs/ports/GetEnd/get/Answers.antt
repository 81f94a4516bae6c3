use Rattle.std.proofs.Common.{◌≡◌, ◌∷◌, [], ◌++◌, length, Some, sym, ◌∙◌, subst}
use Rattle.std.specs.Prelude.{slice_get}
use Rattle.crossbeam_channel.specs.Fifo.{Pops}
use Rattle.crossbeam_channel.specs.Claims.{view}
use Rattle.crossbeam_channel.specs.Ends.{receives_on, ruled_capacity}
use Rattle.ruled_links.specs.declared.rule.View.{View}
use Rattle.ruled_links.specs.Rule.{get_view, Linked}
use Rattle.ruled_links.proofs.Steps.{gets}
use Rattle.ruled_links.proofs.ports.GetEnd.get.Goals as goal

pub recv_as-requires-clause-rule : goal.recv_as-requires-clause-rule
recv_as-requires-clause-rule g c =
    let v = view c.self.inside.pass in
    let P : View
    → Type 0 = λ u. Pops Linked c.loop.self-inside.pass.id u
    (λ x w. (w ≡ get_view u.stream u.capacity (u.moved ++ x ∷ []))
    × (slice_get u.stream (length u.moved) ≡ Some x)) in (
      subst P (sym (c.loop.invariant.1 ∙ c.self.invariant.1))
          (gets (ruled_capacity (receives_on c.self.inside.line)) c.loop.self-inside.pass.id v.stream v.moved),
      λ _ _ _ _. tt,
    )
