use Rattle.std.proofs.Common.{false, sym, ap, ◌∙◌, set, true, refl, length, None}
use Rattle.std.proofs.lemmas.Bool.{eq-eqb, ne_eqb}
use Rattle.channel_plan.specs.Tokens.{is_from}
use Rattle.channel_plan.proofs.Marks.{passed_more, passed_same}
use Rattle.channel_plan.proofs.writers.marked_writers.Goals as goal
use Rattle.channel_plan.proofs.writers.marked_writers.Goals.{in-Some, in_default}
use Rattle.sanlp.proofs.Lists.{map-range_with_len_replicate}

pub loop-source-init : goal.loop-source-init
loop-source-init c =
    c.in_ok-marks.ensures.items_if_clones_equal (λ y h. h)
    ∙ sym (map-range_with_len_replicate (λ k. false) false 0 (length c.args.turns.now) (λ k. refl))

pub loop-source-preserved : goal.loop-source-preserved
loop-source-preserved c =
    let sources = c.args.sources.now in
    let index = c.loop-source.source-index in
    let processes = length c.args.turns.now in
    elim c.match-source.branch [
      | in-Some w ↦
          let tag = w.in-Some.tag in
          ap (λ v. v.items) w.marks-is
          ∙ ap (λ marks. set marks tag.process true) c.loop-source.invariant
          ∙ passed_more is_from sources index None c.loop-source-test.true tag.process processes
          (ap (is_from tag.process) w.in-Some.is ∙ eq-eqb tag.process tag.process refl)
          (λ k ne. ap (is_from k) w.in-Some.is ∙ ne_eqb tag.process k (λ e. ne (sym e)))
      | in_default w ↦
          ap (λ v. v.items) w.marks-is
          ∙ c.loop-source.invariant
          ∙ passed_same is_from sources index None c.loop-source-test.true processes
          (λ k. ap (is_from k) w.in_default.is)
    ]
