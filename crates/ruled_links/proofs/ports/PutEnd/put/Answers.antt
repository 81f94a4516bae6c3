use Rattle.std.proofs.Common.{◌≡◌, ℕ, ◌∷◌, [], ◌++◌, length, Some, sym, ap, ◌∙◌, subst}
use Rattle.std.specs.Prelude.{slice_get}
use Rattle.crossbeam_channel.specs.Fifo.{Pushes}
use Rattle.crossbeam_channel.specs.Claims.{view}
use Rattle.crossbeam_channel.specs.Ends.{sends_on, ruled_capacity}
use Rattle.ruled_links.specs.declared.rule.View.{View}
use Rattle.ruled_links.specs.Rule.{put_view, Linked}
use Rattle.ruled_links.specs.Ports.{LinkEnd}
use Rattle.ruled_links.proofs.Steps.{sends}
use mir.Syntax.{w64}
use Rattle.std.proofs.lemmas.Int.{to_z-of_z}
use Rattle.ruled_links.proofs.ports.PutEnd.put.Goals as goal

pub send_as-requires-clause-rule : goal.send_as-requires-clause-rule
send_as-requires-clause-rule g c =
    let v = view c.self.inside.pass in
    let n = ruled_capacity (sends_on c.self.inside.line) in
    let next : slice_get v.stream (length v.moved) ≡ Some c.args.value =
    ap (λ (e : LinkEnd). slice_get e.port.stream (length e.port.moved)) c.self.view_is ∙ c.requires in
    let P : ℕ × View → Type 0 =
    λ u. Pushes Linked u.0 c.loop.self-inside.pass.id u.1 c.args.value
    (λ w. w ≡ put_view u.1.stream u.1.capacity (u.1.moved ++ c.args.value ∷ [])) in
    let is = sym (c.loop.invariant.1 ∙ c.self.invariant.1) in
    let same_line = sym (ap (λ l. ruled_capacity (sends_on l)) c.loop.invariant.2) in
    rw (to_z-of_z w64 c.args.value c.ranges.value) (
      subst P (λ i. (same_line i, is i)) (sends n c.loop.self-inside.pass.id v.stream v.moved c.args.value next),
      λ _ _ _ _. tt,
    )
