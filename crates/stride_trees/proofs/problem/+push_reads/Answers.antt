use Rattle.std.proofs.Common.{◌≡◌, ◌+◌, ◌^◌, ◌≤◌, ◌<◌, ◌∷◌, length, sym, ap, subst, arith, rules}
use Rattle.std.specs.Prelude.{All}
use Rattle.std.specs.List.{count_by}
use Rattle.std.proofs.lemmas.List.Elements.{All-head, All-tail, All-weaker}
use Rattle.affine_core.specs.declared.form.Form.{Form}
use Rattle.tree_sums.specs.Parts.{IsWithin}
use Rattle.tree_cuts.specs.Class.{is_stride}
use Rattle.tree_cuts.proofs.Places.{behind_kept, enough_behind, next_kept, stride_has_place}
use Rattle.stride_trees.proofs.problem.+push_reads.Goals as goal

pub next_quotient-quotient-requires-clause-places : goal.next_quotient-quotient-requires-clause-places
next_quotient-quotient-requires-clause-places t c =
    All-weaker (λ i. i < 6 × c.args.depth + i < c.args.vars) (λ i. i < 6) (λ i h. h.0) c.args.places.now c.requires.places

pub problem_read-form-requires-clause-write : goal.problem_read-form-requires-clause-write
problem_read-form-requires-clause-write t c =
    let first : c.args.writes.now ≡ c.in-Some.write.now ∷ c.in-Some.writes.now = search rules in
    All-head (IsWithin (2 ^ 32)) c.in-Some.write.now c.in-Some.writes.now
    (subst (All (IsWithin (2 ^ 32))) first c.requires.writes)

pub problem_read-form-requires-clause-read : goal.problem_read-form-requires-clause-read
problem_read-form-requires-clause-read t c =
    let second : c.args.reads.now ≡ c.in-Some-split_first.read.now ∷ c.in-Some-split_first.reads.now = search rules in
    All-head (IsWithin (2 ^ 32)) c.in-Some-split_first.read.now c.in-Some-split_first.reads.now
    (subst (All (IsWithin (2 ^ 32))) second c.requires.reads)

pub problem_read-form-requires-clause-over : goal.problem_read-form-requires-clause-over
problem_read-form-requires-clause-over t c =
    let second : c.args.reads.now ≡ c.in-Some-split_first.read.now ∷ c.in-Some-split_first.reads.now = search rules in
    All-head (λ (read : Form). length read.coefs ≤ c.args.vars) c.in-Some-split_first.read.now
    c.in-Some-split_first.reads.now
    (subst (All (λ (read : Form). length read.coefs ≤ c.args.vars)) second c.requires.over)

pub problem_read-form-requires-clause-vars : goal.problem_read-form-requires-clause-vars
problem_read-form-requires-clause-vars t c = omega (arith, c.requires.few.1)

pub problem_read-form-requires-clause-quotient : goal.problem_read-form-requires-clause-quotient
problem_read-form-requires-clause-quotient t c is =
    let first : c.args.writes.now ≡ c.in-Some.write.now ∷ c.in-Some.writes.now = search rules in
    let h = next_kept (λ i. i < 6 × c.args.depth + i < c.args.vars) c.args.places.now
    (stride_has_place c.in-Some.write.now c.in-Some.writes.now c.args.places.now is
    (subst (λ writes. count_by is_stride writes ≤ length c.args.places.now) first c.requires.enough))
    c.requires.places in
    omega (arith, c.next_quotient-quotient.ensures, h.1)

pub push_reads-requires : goal.push_reads-requires
push_reads-requires t c =
    let first : c.args.writes.now ≡ c.in-Some.write.now ∷ c.in-Some.writes.now = search rules in
    let second : c.args.reads.now ≡ c.in-Some-split_first.read.now ∷ c.in-Some-split_first.reads.now = search rules in
    let behind = sym c.places_behind-behind.ensures in (
      omega (arith, ap length first),
      (
        All-tail (IsWithin (2 ^ 32)) c.in-Some.write.now c.in-Some.writes.now
            (subst (All (IsWithin (2 ^ 32))) first c.requires.writes),
        (
          All-tail (IsWithin (2 ^ 32)) c.in-Some-split_first.read.now c.in-Some-split_first.reads.now
              (subst (All (IsWithin (2 ^ 32))) second c.requires.reads),
          (
            All-tail (λ (read : Form). length read.coefs ≤ c.args.vars) c.in-Some-split_first.read.now
                c.in-Some-split_first.reads.now
                (subst (All (λ (read : Form). length read.coefs ≤ c.args.vars)) second c.requires.over),
            (
              c.requires.few,
              (
                subst (All (λ i. i < 6 × c.args.depth + i < c.args.vars)) behind
                    (behind_kept (λ i. i < 6 × c.args.depth + i < c.args.vars) c.in-Some.write.now c.args.places.now
                    c.requires.places),
                subst (λ places. count_by is_stride c.in-Some.writes.now ≤ length places) behind
                    (enough_behind c.in-Some.write.now c.in-Some.writes.now c.args.places.now
                    (subst (λ writes. count_by is_stride writes ≤ length c.args.places.now) first c.requires.enough)),
              ),
            ),
          ),
        ),
      ),
    )
