use Rattle.std.proofs.Common.{◌≡◌, length, take}
use Rattle.cell_rows.proofs.narrow_form.NarrowForm.new.Given as goal

abbrev pub invariant-loop-place : goal.invariant-loop-place
invariant-loop-place l = (length l.coefs ≡ 6) × (take l.place l.coefs ≡ take l.place l.wide)
