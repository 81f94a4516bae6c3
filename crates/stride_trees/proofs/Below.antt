-- Where the rows of an answered test stand.
--
-- Each answer adds one variable and two rows, whatever it is, so the i-th has the i-th variable and the i-th two rows
-- behind those of the context above all tests. Rows that come behind don't move them.
use Rattle.std.proofs.Common.{◌≡◌, ◌+◌, ◌*◌, ◌≤◌, ℕ, zero, suc, List, [], ◌∷◌, ◌++◌, length, Bool, true, false}
use Rattle.std.proofs.Common.{refl, sym, ap, ◌∙◌, arith, append_assoc}
use Rattle.std.specs.Prelude.{Some, None, slice_get}
use Rattle.std.proofs.lemmas.List.{append-nil}
use Rattle.std.proofs.lemmas.Option.{same_Some}
use Rattle.affine_core.specs.Affine.{widened_form}
use Rattle.stride_trees.specs.Answers.{answered_context}
use Rattle.stride_trees.specs.Answers.{below_answer}
use Rattle.plain_data.proofs.Lists.{slice_get-append_some, slice_get-append_right}
use Rattle.source_tree.specs.Rows.{RowExpr}
use Rattle.source_tree.specs.Systems.{Context, divided_rows, one_more, undivided_rows}
use Rattle.stride_trees.specs.declared.divisions.Division.{Division}

-- the two rows of an answer, whose quotient is this variable
abbrev pub answer_rows : ℕ → Division → Bool → List RowExpr
answer_rows q d true = divided_rows q (widened_form q d.form) d.divisor
answer_rows q d false = undivided_rows q (widened_form q d.form) d.divisor

pub below_is : (c : Context) (d : Division) (answer : Bool)
    → below_answer c d answer ≡ one_more c (answer_rows c.vars d answer)
below_is c d true = refl
below_is c d false = refl

abbrev pub all_rows : ℕ → List Division → List Bool → List RowExpr
all_rows q [] answers = []
all_rows q (d ∷ ds) [] = []
all_rows q (d ∷ ds) (answer ∷ answers) = answer_rows q d answer ++ all_rows (q + 1) ds answers

pub rows_are : (c : Context) (tests : List Division) (answers : List Bool)
    → (answered_context c tests answers).rows ≡ c.rows ++ all_rows c.vars tests answers
rows_are c [] answers = sym (append-nil c.rows)
rows_are c (d ∷ ds) [] = sym (append-nil c.rows)
rows_are c (d ∷ ds) (answer ∷ answers) =
    ap (λ (c : Context). (answered_context c ds answers).rows) (below_is c d answer)
    ∙ rows_are (one_more c (answer_rows c.vars d answer)) ds answers
    ∙ append_assoc c.rows (answer_rows c.vars d answer) (all_rows (c.vars + 1) ds answers)

pub vars_are : (c : Context) (tests : List Division) (answers : List Bool) → length answers ≤ length tests
    → (answered_context c tests answers).vars ≡ c.vars + length answers
vars_are c [] [] le = omega arith
vars_are c [] (answer ∷ answers) le = absurd (omega (arith, le))
vars_are c (d ∷ ds) [] le = omega arith
vars_are c (d ∷ ds) (answer ∷ answers) le =
    let rest : (answered_context (one_more c (answer_rows c.vars d answer)) ds answers).vars
    ≡ c.vars + 1 + length answers
    = vars_are (one_more c (answer_rows c.vars d answer)) ds answers (omega (arith, le)) in
    ap (λ (c : Context). (answered_context c ds answers).vars) (below_is c d answer)
    ∙ (omega (arith, rest))

-- no answer, and one answer more
pub answered_none : (c : Context) (tests : List Division) → answered_context c tests [] ≡ c
answered_none c [] = refl
answered_none c (d ∷ ds) = refl

pub answered_more : (c : Context) (tests : List Division) (answers : List Bool) (test : Division) (answer : Bool)
    → slice_get tests (length answers) ≡ Some test
    → answered_context c tests (answers ++ answer ∷ []) ≡ below_answer (answered_context c tests answers) test answer
answered_more c [] answers test answer e = absurd (let no : None ≡ Some test = e in cc)
answered_more c (d ∷ ds) [] test answer e =
    answered_none (below_answer c d answer) ds
    ∙ (let same : d ≡ test = same_Some d test e in ap (λ d. below_answer c d answer) same)
answered_more c (d ∷ ds) (first ∷ answers) test answer e =
    answered_more (below_answer c d first) ds answers test answer e

-- Places of rows

get_behind_two : (rows more : List RowExpr) (k : ℕ) → length rows ≡ 2 → slice_get (rows ++ more) (2 + k) ≡ slice_get more k
get_behind_two [] more k e = absurd (omega arith)
get_behind_two (x ∷ []) more k e = absurd (omega arith)
get_behind_two (x ∷ (y ∷ [])) more k e =
    let n : 2 + k ≡ suc (suc k) = omega arith in ap (slice_get (x ∷ y ∷ more)) n
get_behind_two (x ∷ (y ∷ (z ∷ rows))) more k e = absurd (omega arith)

pub two_rows : (q : ℕ) (d : Division) (answer : Bool) → length (answer_rows q d answer) ≡ 2
two_rows q d true = refl
two_rows q d false = refl

rows_at : (q : ℕ) (tests : List Division) (answers : List Bool) (k i : ℕ) (test : Division) (answer : Bool) (e : RowExpr)
    → slice_get tests k ≡ Some test → slice_get answers k ≡ Some answer
    → slice_get (answer_rows (q + k) test answer) i ≡ Some e
    → slice_get (all_rows q tests answers) (2 * k + i) ≡ Some e
rows_at q [] answers k i test answer e t a is = absurd (let no : None ≡ Some test = t in cc)
rows_at q (d ∷ ds) [] k i test answer e t a is = absurd (let no : None ≡ Some answer = a in cc)
rows_at q (d ∷ ds) (first ∷ answers) zero i test answer e t a is =
    let same_test : d ≡ test = same_Some d test t in
    let same_answer : first ≡ answer = same_Some first answer a in
    let here : q + 0 ≡ q = omega arith in
    let row : slice_get (answer_rows q d first) i ≡ Some e
    = ap (λ d. slice_get (answer_rows q d first) i) same_test
    ∙ ap (λ answer. slice_get (answer_rows q test answer) i) same_answer
    ∙ ap (λ q. slice_get (answer_rows q test answer) i) (sym here) ∙ is in
    (let n : 2 * 0 + i ≡ i = omega arith in ap (slice_get (answer_rows q d first ++ all_rows (q + 1) ds answers)) n)
    ∙ slice_get-append_some (answer_rows q d first) (all_rows (q + 1) ds answers) i e row
rows_at q (d ∷ ds) (first ∷ answers) (suc k) i test answer e t a is =
    let n : 2 * suc k + i ≡ 2 + (2 * k + i) = omega arith in
    let next : q + suc k ≡ q + 1 + k = omega arith in
    ap (slice_get (answer_rows q d first ++ all_rows (q + 1) ds answers)) n
    ∙ get_behind_two (answer_rows q d first) (all_rows (q + 1) ds answers) (2 * k + i) (two_rows q d first)
    ∙ rows_at (q + 1) ds answers k i test answer e t a
    (ap (λ q. slice_get (answer_rows q test answer) i) (sym next) ∙ is)

-- a row of an answer, where more rows come behind
pub answer_row : (c : Context) (tests : List Division) (answers : List Bool) (more : List RowExpr) (k i : ℕ)
    (test : Division) (answer : Bool) (e : RowExpr)
    → slice_get tests k ≡ Some test → slice_get answers k ≡ Some answer
    → slice_get (answer_rows (c.vars + k) test answer) i ≡ Some e
    → slice_get ((answered_context c tests answers).rows ++ more) (length c.rows + (2 * k + i)) ≡ Some e
answer_row c tests answers more k i test answer e t a is =
    slice_get-append_some (answered_context c tests answers).rows more (length c.rows + (2 * k + i)) e
    (ap (λ rows. slice_get rows (length c.rows + (2 * k + i))) (rows_are c tests answers)
    ∙ slice_get-append_right c.rows (all_rows c.vars tests answers) (2 * k + i)
    ∙ rows_at c.vars tests answers k i test answer e t a is)
