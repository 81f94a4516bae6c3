use Rattle.std.proofs.Common.{◌≡◌, ◌∙◌, ◌+◌, ◌<◌, ◌++◌, sym, ap, replicate, ℕ, List, length, take, get_or}
use Rattle.std.specs.List.{sum_by}
use Rattle.std.proofs.lemmas.List.{replicate-append-replicate}
use Rattle.std.proofs.lemmas.List.Sums.{sum_by_more}
use Rattle.sanlp.specs.declared.nest.Statement.{Statement}
use Rattle.source_tree.specs.declared.cert.Origin.{Origin}
use Rattle.source_tree.specs.declared.cert.Origin.TheVariants.{Sweep}
use Rattle.swept_net.proofs.making.all_swept.Goals as goal

more : (statements : List Statement) (k : ℕ) (s : Statement) (sources new : List Origin) → k < length statements
    → s ≡ get_or statements k s
    → sources ≡ replicate (sum_by (λ x. length x.reads) (take k statements)) Sweep
    → new ≡ sources ++ replicate (length s.reads) Sweep
    → new ≡ replicate (sum_by (λ x. length x.reads) (take (k + 1) statements)) Sweep
more statements k s sources new within is before added =
    added ∙ ap (λ (xs : List Origin). xs ++ replicate (length s.reads) Sweep) before ∙ replicate-append-replicate _ _ _
    ∙ ap (λ (count : ℕ). replicate (sum_by (λ (x : Statement). length x.reads) (take k statements) + count) Sweep)
    (ap (λ (x : Statement). length x.reads) is)
    ∙ ap (λ (count : ℕ). replicate count Sweep)
    (sym (sum_by_more (λ (x : Statement). length x.reads) statements k s within))

pub loop-statement-preserved : goal.loop-statement-preserved
loop-statement-preserved c =
    more _ _ c.statement-item.result _ _ (rw c.as_slice-statement-items.ensures at c.loop-statement-test.true)
    (rw c.as_slice-statement-items.ensures at c.statement-item.is) c.loop-statement.invariant
    (rw c.len.ensures at c.in_ok-add_swept.ensures)
