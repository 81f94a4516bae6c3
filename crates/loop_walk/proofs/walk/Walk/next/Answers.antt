use Rattle.std.proofs.Common.{rules, ◌≡◌, ◌++◌, length, sym, ◌∙◌, ℤ, List, [], ◌∷◌, subst}
use Rattle.std.specs.Prelude.{MatchOption}
use Rattle.std.specs.Vec.{with_items}
use Rattle.std.proofs.lemmas.List.{with_items_is}
use Rattle.sanlp.specs.declared.nest.Node.{Node}
use Rattle.loop_walk.specs.declared.walk.Frame.{Frame}
use Rattle.loop_walk.specs.Walking.{left}
use Rattle.loop_walk.specs.Walks.{rest}
use Rattle.loop_walk.proofs.RunLemmas.{frames_give, run_gives, run_is_over}
use Rattle.loop_walk.proofs.walk.Walk.next.Goals as goal

pub returns-then-is_some-clause-next : goal.returns-then-is_some-clause-next
unfolding rest
returns-then-is_some-clause-next c =
    run_gives c.next-point.result c.args.self.now.run c.next-point.new.self
    (left c.args.self.now.frames.items c.args.nest.now.body []) c.next-point.ensures
    (sym c.is_some.ensures ∙ c.if-is_some.true)

pub returns-clause-next : goal.returns-clause-next
unfolding rest
returns-clause-next c =
    let over = run_is_over c.next-point.result c.args.self.now.run c.next-point.new.self [] c.next-point.ensures
    (sym c.is_some.ensures ∙ c.if-is_some.false) in
    let body = c.args.nest.now.body in
    let before = c.args.self.now.frames.items in
    let after = c.next_in.new.frames in
    let run = c.next_in.new.run in
    let same : length after ≡ c.args.self.now.frames.len = search rules in
    frames_give c.next_in.result c.args.self.now.run run (left before body [])
    (left (with_items c.args.self.now.frames after).items body []) over.0
    (subst (λ (frames : List Frame). MatchOption c.next_in.result
    ((left before body [] ≡ []) × (left frames body [] ≡ []) × (run ≡ []))
    (λ point. left before body [] ≡ point ∷ (run ++ left frames body [])))
    (sym (with_items_is c.args.self.now.frames after same))
    (subst (λ (at : List ℤ). MatchOption c.next_in.result
    ((left before body at ≡ []) × (left after body at ≡ []) × (run ≡ []))
    (λ point. left before body at ≡ point ∷ (run ++ left after body at))) c.empty.ensures
    (subst (λ (parts : List Node). MatchOption c.next_in.result
    ((left before parts c.empty.result ≡ []) × (left after parts c.empty.result ≡ []) × (run ≡ []))
    (λ point. left before parts c.empty.result ≡ point ∷ (run ++ left after parts c.empty.result)))
    c.parts.ensures.value
    (subst (λ (frames : List Frame). MatchOption c.next_in.result
    ((left frames c.parts.result.now c.empty.result ≡ [])
    × (left after c.parts.result.now c.empty.result ≡ []) × (run ≡ []))
    (λ point. left frames c.parts.result.now c.empty.result
    ≡ point ∷ (run ++ left after c.parts.result.now c.empty.result))) c.as_mut_slice.ensures.value
    c.next_in.ensures.next))))
