-- What noting the reasons of an operand comes to, by its kind.
--
-- The code notes the reasons below an operand one operand after another, each time keeping the lesser one; the
-- specification takes the least of all in one list. Both are the same since the least of two lists together is that of
-- the second, begun with that of the first (`least_append`). For each kind of operand it is shown so from the same of
-- the operands below it; the induction on operands is the code's own.
use Rattle.std.proofs.Common.{◌≡◌, ℕ, suc, arith, ◌==◌, Bool, true, false, List, [], ◌∷◌, ◌++◌, length, map, Option}
use Rattle.std.proofs.Common.{refl, sym, ap, ◌∙◌}
use Rattle.std.specs.Prelude.{IsTrue}
use Rattle.std.proofs.lemmas.Bool.Decides.{nat_tests}
use Rattle.loop_grammar.specs.declared.tree.BinarySign.{BinarySign}
use Rattle.loop_grammar.specs.declared.tree.Name.{Name}
use Rattle.loop_grammar.specs.declared.tree.Operand.{Operand}
use Rattle.loop_grammar.specs.declared.tree.Operand.TheVariants.{Access, Binary, Neg, Min, Max}
use Rattle.loop_bind.specs.declared.affine.Affine.{Affine}
use Rattle.loop_bind.specs.declared.error.BindError.{BindError}
use Rattle.loop_bind.specs.declared.error.BindError.TheVariants.{NotAffine}
use Rattle.loop_bind.specs.declared.scope.Place.{Place}
use Rattle.loop_bind.specs.declared.scope.What.{What}
use Rattle.loop_bind.specs.Judging.{Scope, judged, named, negated, combined, seen_from, all_findings, findings_of}
use Rattle.loop_bind.specs.Names.{value_named}
use Rattle.loop_bind.specs.Reasons.{lesser, least_from}
use Rattle.loop_bind.proofs.Operands.{judged_access, judged_binary, judged_neg, judged_min, judged_max}
use Rattle.loop_bind.proofs.Operands.{all_findings_of}

pub least_append : (w : Option BindError) (xs ys : List BindError)
    → least_from w (xs ++ ys) ≡ least_from (least_from w xs) ys
least_append w [] ys = refl
least_append w (x ∷ xs) ys = least_append (lesser w x) xs ys

suc_is_not_zero : (n : ℕ) → false ≡ (suc n == 0)
suc_is_not_zero n = grind (arith, nat_tests)

-- whether nothing follows a name
pub alone_is : {A B : Type 0} (f : A → B) (xs : List A) (r : Bool) → (IsTrue r → xs ≡ []) × (xs ≡ [] → IsTrue r)
    → r ≡ (length (map f xs) == 0)
alone_is f [] r h = h.1 refl
alone_is f (x ∷ xs) true h = absurd (cons_nil (h.0 refl))
  where
    cons_nil : {A : Type 0} {x : A} {xs : List A} → x ∷ xs ≡ [] → ⊥
    cons_nil e = cc
alone_is f (x ∷ xs) false h = suc_is_not_zero (length (map f xs))

module _ (place : Place) (scope : Scope) (op : Operand) (w : Option BindError) where
  pub binary_least : (sign : BinarySign) (token : ℕ) (left right : Operand) (a b : Option Affine)
      (one two three : Option BindError)
      → op ≡ Binary sign token left right → a ≡ (judged place scope left).form → b ≡ (judged place scope right).form
      → one ≡ least_from w (judged place scope left).findings → two ≡ least_from one (judged place scope right).findings
      → three ≡ least_from two (combined sign token a b).findings
      → three ≡ least_from w (judged place scope op).findings
  binary_least sign token left right a b one two three is fa fb first second third =
      let l = judged place scope left in
      let r = judged place scope right in
      third ∙ (λ i.
      least_from ((second ∙ ap (λ x. least_from x r.findings) first) i)
      (combined sign token (fa i) (fb i)).findings)
      ∙ ap (λ x. least_from x (combined sign token l.form r.form).findings) (sym (least_append w l.findings r.findings))
      ∙ sym (least_append w (l.findings ++ r.findings) (combined sign token l.form r.form).findings)
      ∙ ap (λ j. least_from w j.findings)
      (sym (ap (judged place scope) is ∙ judged_binary place scope sign token left right))

  pub neg_least : (token : ℕ) (inner : Operand) (a : Option Affine) (one two : Option BindError)
      → op ≡ Neg token inner → a ≡ (judged place scope inner).form
      → one ≡ least_from w (judged place scope inner).findings
      → two ≡ least_from one (negated token a).findings → two ≡ least_from w (judged place scope op).findings
  neg_least token inner a one two is fa first second =
      let j = judged place scope inner in
      second ∙ (λ i. least_from (first i) (negated token (fa i)).findings)
      ∙ sym (least_append w j.findings (negated token j.form).findings)
      ∙ ap (λ j. least_from w j.findings) (sym (ap (judged place scope) is ∙ judged_neg place scope token inner))

  list_least : (token : ℕ) (list : List Operand) (one two : Option BindError)
      → one ≡ least_from w (findings_of place scope list)
      → two ≡ lesser one (NotAffine token)
      → two ≡ least_from w (all_findings (map (judged place scope) list) ++ NotAffine token ∷ [])
  list_least token list one two first second =
      second ∙ ap (λ x. lesser x (NotAffine token)) (first ∙ ap (least_from w) (sym (all_findings_of place scope list)))
      ∙ sym (least_append w (all_findings (map (judged place scope) list)) (NotAffine token ∷ []))

  pub min_least : (token : ℕ) (list : List Operand) (one two : Option BindError) → op ≡ Min token list
      → one ≡ least_from w (findings_of place scope list) → two ≡ lesser one (NotAffine token)
      → two ≡ least_from w (judged place scope op).findings
  min_least token list one two is first second =
      list_least token list one two first second
      ∙ ap (λ j. least_from w j.findings) (sym (ap (judged place scope) is ∙ judged_min place scope token list))

  pub max_least : (token : ℕ) (list : List Operand) (one two : Option BindError) → op ≡ Max token list
      → one ≡ least_from w (findings_of place scope list) → two ≡ lesser one (NotAffine token)
      → two ≡ least_from w (judged place scope op).findings
  max_least token list one two is first second =
      list_least token list one two first second
      ∙ ap (λ j. least_from w j.findings) (sym (ap (judged place scope) is ∙ judged_max place scope token list))

  module _ (name : Name) (subscripts : List Operand) (alone : Bool) (what : Option What)
      (is : op ≡ Access name subscripts) (none : (IsTrue alone → subscripts ≡ []) × (subscripts ≡ [] → IsTrue alone))
      (seen : what ≡ seen_from place (value_named scope name.text)) where
    access_named : named name.token alone what
        ≡ named name.token (length (map (judged place scope) subscripts) == 0)
        (seen_from place (value_named scope name.text))
    access_named = λ i. named name.token (alone_is (judged place scope) subscripts alone none i) (seen i)

    pub access_form : (named name.token alone what).form ≡ (judged place scope op).form
    access_form =
        ap (λ j. j.form) access_named
        ∙ ap (λ j. j.form) (sym (ap (judged place scope) is ∙ judged_access place scope name subscripts))

    pub access_least : (one two : Option BindError) → one ≡ least_from w (findings_of place scope subscripts)
        → two ≡ least_from one (named name.token alone what).findings
        → two ≡ least_from w (judged place scope op).findings
    access_least one two first second =
        let j = named name.token (length (map (judged place scope) subscripts) == 0)
        (seen_from place (value_named scope name.text)) in
        second ∙ (λ i.
        least_from ((first ∙ ap (least_from w) (sym (all_findings_of place scope subscripts))) i)
        (access_named i).findings)
        ∙ sym (least_append w (all_findings (map (judged place scope) subscripts)) j.findings)
        ∙ ap (λ j. least_from w j.findings)
        (sym (ap (judged place scope) is ∙ judged_access place scope name subscripts))
