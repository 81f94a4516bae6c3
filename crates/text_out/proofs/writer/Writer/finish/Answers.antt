use Rattle.std.proofs.Common.{List, ℕ, ◌≡◌, ◌++◌, ◌∙◌, sym, ap, append-nil}
use Rattle.text_out.proofs.SinkParts.{front_of_failed}
use Rattle.text_out.specs.Wrote.{Start}
use Rattle.text_out.proofs.writer.Writer.finish.Goals as goal

pub returns-then-self-clause-front : goal.returns-then-self-clause-front
returns-then-self-clause-front g c =
    let before = c.args.self.now in
    let after = c.flush.new.self in
    let written = c.flush.ensures.written in
    let none : after.past.text ≡ after.past.text ++ after.waiting =
    sym (append-nil after.past.text)
    ∙ ap (λ (bytes : List ℕ). after.past.text ++ bytes) (sym c.flush.ensures.empty) in
    let all : after.past.text ≡ before.past.text ++ before.waiting =
    none ∙ written.1 ∙ append-nil (before.past.text ++ before.waiting) in
    let held = ap (λ (start : Start). start.held) written.0 in
    rw (← held) (front_of_failed after.failed _ _ _ _ after.past.text _ after.reaches c.if-self.true all)
