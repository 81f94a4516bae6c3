-- Orders of statements by the text compose.
--
-- The numbers of loops that two of three lists have in common are two times the least and once another: of any three
-- lists, each pair has at least the less of the other two in common (`common_least`). So where the middle list shares
-- more with the one than with the other, the outer two share what it shares with the other. That the first statement
-- stands before the last is then the text of a loop (`text_is_contiguous`): the two that share more stand in one
-- stretch of a loop in which the third doesn't stand, so the third is on the same side of both.
use Rattle.std.proofs.Common.{◌≡◌, ℕ, List, inl, inr, sym, ap, ◌∙◌, arith}
use Rattle.std.specs.Prelude.{Some, slice_get}
use Rattle.std.proofs.lemmas.Bool.{cases_order}
use Rattle.std.proofs.lemmas.Option.{same_Some}
use Rattle.sanlp.specs.declared.nest.Nest.{Nest}
use Rattle.sanlp.specs.declared.nest.Statement.{Statement}
use Rattle.sanlp.specs.Order.{common_loops}
use Rattle.sanlp.specs.Text.{IsContiguous, OrdersCompose}
use Rattle.sanlp.proofs.Contiguous.{text_is_contiguous}
use Rattle.sanlp.proofs.Precedence.{common_least, common_loops-comm}

-- one statement has one list of loops
same_loops : (n : Nest) (a c : ℕ) (s t : Statement) → slice_get n.statements a ≡ Some s
    → slice_get n.statements c ≡ Some t → a ≡ c → s.loops ≡ t.loops
same_loops n a c s t e f is =
    ap (λ (u : Statement). u.loops) (same_Some s t (sym e ∙ ap (slice_get n.statements) is ∙ f))

pub orders_compose : (n : Nest) → OrdersCompose n
orders_compose n a b c first middle last e f g =
    let text : IsContiguous n = text_is_contiguous n in
    let ks : List ℕ = first.loops in
    let ls : List ℕ = middle.loops in
    let ms : List ℕ = last.loops in
    let alike : a ≡ c → common_loops ls ms ≡ common_loops ks ls =
    λ same. ap (common_loops ls) (sym (same_loops n a c first last e g same)) ∙ common_loops-comm ls ks in
    record {
      outer = λ before less. (
        elim (cases_order a c) [
          | inl same ↦ absurd (omega (arith, less, alike same))
          | inr k ↦ elim k [
            | inl lt ↦ lt
            | inr gt ↦
                let between = text c a b last first middle g e f gt before in
                absurd (omega (arith, less, between, common_loops-comm ls ms))
          ]
        ],
        omega (arith, less, common_least ks ls ms, common_least ks ms ls, common_loops-comm ls ms),
      );
      inner = λ before less. (
        elim (cases_order a c) [
          | inl same ↦ absurd (omega (arith, less, alike same))
          | inr k ↦ elim k [
            | inl lt ↦ lt
            | inr gt ↦
                let between = text b c a middle last first f g e before gt in
                absurd (omega (arith, less, between, common_loops-comm ls ks))
          ]
        ],
        omega (arith, less, common_least ks ls ms, common_least ls ks ms, common_loops-comm ls ks),
      );
      both = λ before after same. (
        omega (arith, before, after),
        omega (arith, same, text a b c first middle last e f g before after),
      );
    }
