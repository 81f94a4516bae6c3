use Rattle.std.proofs.Common.{◌≡◌, ◌+◌, ℕ, suc, List, ◌∷◌, refl, sym, ap, ◌∙◌, subst, arith, length, rules}
use Rattle.std.specs.Prelude.{Option, Some, None, slice_get, MatchOption}
use Rattle.std.proofs.lemmas.List.Elements.{All-cons}
use Rattle.affine_core.specs.declared.form.Form.{Form}
use Rattle.lex_max.specs.Choices.{AllNone}
use Rattle.lex_max.specs.ChoiceSteps.{AreSmallForms}
use Rattle.lex_max.proofs.decide.+least_form.Goals as goal

-- the form of this number
abbrev IsAmong : List (Option Form) → ℕ → ℕ × Form → Type 0
IsAmong forms number found = (k : ℕ) × (found.0 ≡ number + k) × (slice_get forms k ≡ Some (Some found.1))

-- one of the forms behind the first
behind : (forms rest : List (Option Form)) (first : Option Form) (number : ℕ) (found : ℕ × Form)
    → forms ≡ first ∷ rest → IsAmong rest (number + 1) found → IsAmong forms number found
behind forms rest first number found is h =
    (suc h.0, omega (arith, h.1), ap (λ fs. slice_get fs (suc h.0)) is ∙ h.2)

-- where the first form isn't there, it is told of those behind
without_first : (forms rest : List (Option Form)) (number : ℕ) (found : Option (ℕ × Form)) → forms ≡ None ∷ rest
    → MatchOption found (AllNone rest) (IsAmong rest (number + 1)) → MatchOption found (AllNone forms) (IsAmong forms number)
without_first forms rest number None is h =
    subst AllNone (sym is) (All-cons (λ (form : Option Form). form ≡ None) None rest refl h)
without_first forms rest number (Some found) is h = behind forms rest None number found is h

small_behind : (vars : ℕ) (forms rest : List (Option Form)) (first : Option Form) → forms ≡ first ∷ rest
    → AreSmallForms vars forms → AreSmallForms vars rest
small_behind vars forms rest first is small k form at = small (suc k) form (ap (λ fs. slice_get fs (suc k)) is ∙ at)

pub least_form-requires : goal.least_form-requires
least_form-requires t c =
    let rest = c.in-Some.rest.now in
    let is : c.args.forms.now ≡ c.in-Some.first.now ∷ rest = search rules in (
      omega (arith, ap length is),
      (
        small_behind c.args.context.now.system.now.vars c.args.forms.now rest c.in-Some.first.now is c.requires.forms,
        omega (arith, ap length is, c.requires.few),
      ),
    )

pub returns-in_default-first : goal.returns-in_default-first
returns-in_default-first t c =
    let rest = c.in-Some.rest.now in
    let is : c.args.forms.now ≡ c.in-Some.first.now ∷ rest = search rules in
    let none : c.in-Some.first.now ≡ None = search rules in
    without_first c.args.forms.now rest c.args.number c.in_ok-later.later
    (subst (λ o. c.args.forms.now ≡ o ∷ rest) none is) c.in_ok-later.ensures

pub is_no_greater-requires-clause-form : goal.is_no_greater-requires-clause-form
is_no_greater-requires-clause-form t c =
    let rest = c.in-Some.rest.now in
    let form = c.in-Some-first.form in
    let is : c.args.forms.now ≡ c.in-Some.first.now ∷ rest = search rules in
    let some : c.in-Some.first.now ≡ Some form = search rules in
    c.requires.forms 0 form (ap (λ fs. slice_get fs 0) is ∙ ap Some some)

pub is_no_greater-requires-clause-other : goal.is_no_greater-requires-clause-other
is_no_greater-requires-clause-other t c =
    let rest = c.in-Some.rest.now in
    let last = c.in-Some-later.last in
    let is : c.args.forms.now ≡ c.in-Some.first.now ∷ rest = search rules in
    let h = subst (λ o. MatchOption o (AllNone rest) (IsAmong rest (c.args.number + 1))) c.in-Some-later.is
    c.in_ok-later.ensures in
    small_behind c.args.context.now.system.now.vars c.args.forms.now rest c.in-Some.first.now is c.requires.forms h.0
    last.1 h.2

pub returns : goal.returns
returns t c =
    let rest = c.in-Some.rest.now in
    let is : c.args.forms.now ≡ c.in-Some.first.now ∷ rest = search rules in
    let h = subst (λ o. MatchOption o (AllNone rest) (IsAmong rest (c.args.number + 1))) c.in-Some-later.is
    c.in_ok-later.ensures in
    behind c.args.forms.now rest c.in-Some.first.now c.args.number c.in-Some-later.last is h
