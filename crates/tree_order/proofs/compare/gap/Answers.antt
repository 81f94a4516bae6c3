use Rattle.std.proofs.Common.{◌≡◌, ◌^◌, length, sym, ap, ◌∙◌, subst, arith, refl}
use Rattle.std.specs.Prelude.{Some, slice_get}
use Rattle.std.proofs.lemmas.Option.{slice_get_read}
use Rattle.affine_core.specs.declared.form.Form.{Form}
use Rattle.tree_order.specs.Comparisons.{IsGap}
use Rattle.tree_order.proofs.NextLoop.{gap_is}
use Rattle.tree_sums.specs.Parts.{IsWithin}
use Rattle.tree_sums.proofs.Within.{IsWithin-weaker}
use Rattle.tree_order.proofs.compare.gap.Goals as goal
use Rattle.plain_data.proofs.Lists.{All-slice_get}

pub difference-requires-clause-over : goal.difference-requires-clause-over
difference-requires-clause-over c =
    let k = c.requires.forms in
    ap (λ (form : Form). length form.coefs) c.get-less.ensures
    ∙ All-slice_get (λ (form : Form). length form.coefs ≡ k.0) c.args.first.now c.args.at c.index-first-at.result k.1.over
    (slice_get_read c.args.first.now (length c.args.first.now) c.args.at c.index-first-at.result refl c.requires.first c.index-first-at.is)
    ∙ sym (All-slice_get
    (λ (form : Form). length form.coefs ≡ k.0) c.args.second.now c.args.at c.index-second-at.result k.2.over
    (slice_get_read c.args.second.now (length c.args.second.now) c.args.at c.index-second-at.result refl c.requires.second c.index-second-at.is))
    ∙ sym (ap (λ (form : Form). length form.coefs) c.get-more.ensures)

pub difference-requires-clause-first : goal.difference-requires-clause-first
difference-requires-clause-first c =
    let k = c.requires.forms in
    subst (IsWithin (2 ^ 60)) (sym c.get-less.ensures)
    (IsWithin-weaker (2 ^ 48) (2 ^ 60) c.index-first-at.result (omega arith)
    (All-slice_get (IsWithin (2 ^ 48)) c.args.first.now c.args.at c.index-first-at.result k.1.within
    (slice_get_read c.args.first.now (length c.args.first.now) c.args.at c.index-first-at.result refl c.requires.first c.index-first-at.is)))

pub difference-requires-clause-second : goal.difference-requires-clause-second
difference-requires-clause-second c =
    let k = c.requires.forms in
    subst (IsWithin (2 ^ 60)) (sym c.get-more.ensures)
    (IsWithin-weaker (2 ^ 48) (2 ^ 60) c.index-second-at.result (omega arith)
    (All-slice_get (IsWithin (2 ^ 48)) c.args.second.now c.args.at c.index-second-at.result k.2.within
    (slice_get_read c.args.second.now (length c.args.second.now) c.args.at c.index-second-at.result refl c.requires.second c.index-second-at.is)))

pub returns : goal.returns
returns c = λ vars f g.
    let first = c.args.first.now in
    let second = c.args.second.now in
    let a_is : slice_get first c.args.at ≡ Some c.index-first-at.result =
    slice_get_read first (length first) c.args.at c.index-first-at.result refl c.requires.first c.index-first-at.is in
    let b_is : slice_get second c.args.at ≡ Some c.index-second-at.result =
    slice_get_read second (length second) c.args.at c.index-second-at.result refl c.requires.second c.index-second-at.is in
    subst (IsGap vars first second c.args.at) (sym (rw (c.get-less.ensures, c.get-more.ensures) at c.difference.ensures))
    (gap_is vars first second c.args.at c.index-first-at.result c.index-second-at.result a_is b_is
    (All-slice_get (λ (form : Form). length form.coefs ≡ vars) first c.args.at c.index-first-at.result f.over a_is)
    (All-slice_get (λ (form : Form). length form.coefs ≡ vars) second c.args.at c.index-second-at.result g.over b_is)
    (All-slice_get (IsWithin (2 ^ 48)) first c.args.at c.index-first-at.result f.within a_is)
    (All-slice_get (IsWithin (2 ^ 48)) second c.args.at c.index-second-at.result g.within b_is))
