use Rattle.std.proofs.Common.{rules, length, map, ap, ◌∙◌}
use Rattle.std.specs.List.{list_all}
use Rattle.sanlp.specs.declared.nest.Node.TheViews.{the_lemmas}
use Rattle.sanlp.specs.WellFormed.{forms_fit}
use Rattle.loop_walk.specs.Walking.{node_room, valid}
use Rattle.loop_walk.proofs.BodyParts.{part_passes}
use Rattle.loop_walk.proofs.WalkLemmas.{part_valid, turns_walk}
use Rattle.loop_walk.proofs.walk.+next.Goals as goal

pub next_part-next_of_node-point-requires : goal.next_part-next_of_node-point-requires
next_part-next_of_node-point-requires t c =
    let parts = c.args.parts.now in
    let i = c.loop-frame.frame.part in
    let part = c.index-parts-frame.result in (
      search (rules, the_lemmas),
      (
        c.loop-frame.invariant.2,
        (
          part_passes forms_fit parts
              (length c.args.at.now) i part c.requires.fit c.loop-frame-test.true c.index-parts-frame.is,
          (
            part_passes node_room parts (length c.loop-frame.deeper) i part
                (ap (λ k. list_all (λ room. room k) (map node_room parts)) c.loop-frame.auto.deeper
                ∙ c.requires.room) c.loop-frame-test.true c.index-parts-frame.is,
            part_valid c.loop-frame.frame
                (valid c.loop-frame.deeper) parts i part c.args.at.now c.loop-frame-test.true c.index-parts-frame.is
                c.loop-frame.invariant.1,
          ),
        ),
      ),
    )

pub next_of_node-next_of_turns-requires : goal.next_of_node-next_of_turns-requires
next_of_node-next_of_turns-requires t c =
    let walks = turns_walk c.args.node.now c.in-Loop.id _ _ c.in-Loop.step _ c.as_slice-body.result.now
    (length c.args.at.now) (length c.args.deeper.now) (length c.enter_loop.new.deeper)
    c.in-Loop.is c.as_slice-body.ensures c.enter_loop.auto.deeper c.requires.fits c.requires.room in
    (search (rules, the_lemmas), (c.requires.over, (walks.0, (walks.1.0, (walks.1.1, c.if-enter_loop.ensures.valid)))))
