use Rattle.std.proofs.Common.{◌∙◌, ◌++◌, List, ℕ, ap, sym, zero-add}
use Rattle.sanlp.proofs.Lists.{flat_map-range_with_len_more}
use Rattle.deps_text.specs.Dependences.{reads_at}
use Rattle.nest_dependences.proofs.origins.dependences.Goals as goal

pub loop-statement-preserved : goal.loop-statement-preserved
loop-statement-preserved c =
    let s = c.loop-statement.statement in (
      c.in_ok-push_reads.ensures.reads
          ∙ ap (λ (front : List (ℕ × ℕ)). front ++ reads_at c.args.nest.now s) c.loop-statement.invariant.0
          ∙ sym (flat_map-range_with_len_more (reads_at c.args.nest.now) 0 s s (zero-add s)),
      c.in_ok-push_reads.ensures.origins c.loop-statement.invariant.1,
    )
