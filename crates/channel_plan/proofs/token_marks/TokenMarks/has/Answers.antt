use Rattle.std.proofs.Common.{ℕ, Bool, List, false, length, get_or, sym, ap, ◌∙◌, arith}
use Rattle.channel_plan.specs.MarkBits.{mark_at}
use Rattle.channel_plan.proofs.MarkBits.{mark_past, mark_within}
use Rattle.channel_plan.proofs.token_marks.TokenMarks.has.Goals as goal

pub is_marked-requires : goal.is_marked-requires
is_marked-requires c = omega (arith, c.self.invariant, ap length c.deref.ensures.value)

pub returns-then-turn-self : goal.returns-then-turn-self
returns-then-turn-self c =
    let self = c.self.inside in
    sym (mark_past self.count self.words.items c.args.turn (omega arith))
    ∙ ap (λ (marks : List Bool). get_or marks c.args.turn false) c.self.view_is

pub returns : goal.returns
returns c =
    let self = c.self.inside in
    c.is_marked.ensures ∙ ap (λ (words : List ℕ). mark_at words c.args.turn) c.deref.ensures.value
    ∙ sym (mark_within self.count self.words.items c.args.turn (omega arith))
    ∙ ap (λ (marks : List Bool). get_or marks c.args.turn false) c.self.view_is
