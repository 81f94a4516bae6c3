use Rattle.std.proofs.Common.{◌≡◌, ◌+◌, ◌-◌, ◌<◌, ℕ, suc, List, [], ◌∷◌, ◌++◌, sym, ap, ◌∙◌, arith, append_assoc}
use Rattle.affine_core.specs.declared.form.Form.{Form}
use Rattle.affine_core.specs.Affine.{variable_form}
use Rattle.source_check.proofs.systems.place.Goals as goal
use Rattle.source_tree.specs.Places.{variables}

next : (first i count : ℕ) (k : ℕ) (place : List Form) → count - i ≡ suc k
    → place ++ variables (first + i) (count - i)
    ≡ (place ++ variable_form (first + i + 1) (first + i) ∷ []) ++ variables (first + (i + 1)) (count - (i + 1))
next first i count k place is =
    ap (λ n. place ++ variables (first + i) n) is
    ∙ ap (λ n. place ++ variable_form (first + i + 1) (first + i) ∷ variables n k)
    (let e : first + i + 1 ≡ first + (i + 1) = omega arith in e)
    ∙ ap (λ n. place ++ variable_form (first + i + 1) (first + i) ∷ variables (first + (i + 1)) n)
    (let e : k ≡ count - (i + 1) = omega arith in e)
    ∙ sym (append_assoc place (variable_form (first + i + 1) (first + i) ∷ [])
    (variables (first + (i + 1)) (count - (i + 1))))

after : (first i count : ℕ) (place more all : List Form) → i < count
    → more ≡ place ++ variable_form (first + i + 1) (first + i) ∷ [] → place ++ variables (first + i) (count - i) ≡ all
    → more ++ variables (first + (i + 1)) (count - (i + 1)) ≡ all
after first i count place more all lt is whole =
    ap (λ more. more ++ variables (first + (i + 1)) (count - (i + 1))) is
    ∙ sym (next first i count (count - (i + 1)) place (let e : count - i ≡ suc (count - (i + 1)) = omega arith in e))
    ∙ whole

pub loop-i-preserved : goal.loop-i-preserved
loop-i-preserved c =
    after c.args.first c.loop-i.i c.args.count c.loop-i.place _ _ (omega arith)
    (c.in_ok-push.ensures.ok ∙ ap (λ form. c.loop-i.place ++ form ∷ []) c.variable.ensures.form) c.loop-i.invariant
