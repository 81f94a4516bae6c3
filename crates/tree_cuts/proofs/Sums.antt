-- Sums whose rows are told by other rows.
--
-- A Sum that refutes is told apart from a Cut and a Split by what a proof begins with. It asks for the rows of its
-- terms alone, one after the other: where terms with other numbers name the same rows, their sum is the same, so they
-- refute too. Nothing is asked of the size of the numbers, since the same forms are added in the same order.
use Rattle.std.proofs.Common.{◌≡◌, ◌<◌, ℕ, ℤ, pos, ◌≤ℤ◌, List, [], ◌∷◌, length, refl, sym, ap, ◌∙◌, subst}
use Rattle.std.specs.Prelude.{Option, Some, None, All, slice_get}
use Rattle.std.specs.Option.{option_and_then}
use Rattle.std.proofs.lemmas.List.Elements.{All-nil, All-cons, All-head, All-tail}
use Rattle.plain_data.proofs.Options.{option_and_then-same}
use Rattle.affine_core.specs.declared.form.Form.{Form}
use Rattle.affine_core.specs.Affine.{constant_form, form_product, form_sum}
use Rattle.affine_core.specs.Within.{form_in_128_bits}
use Rattle.int_polyhedra.specs.declared.system.Proof.TheOpen as layer
use Rattle.int_polyhedra.specs.declared.system.Proof.{Proof}
use Rattle.int_polyhedra.specs.declared.system.Proof.TheFolds.{fold-Proof, fold-roll-Proof}
use Rattle.int_polyhedra.specs.declared.system.Proof.TheVariants.{Sum}
use Rattle.int_polyhedra.specs.declared.system.Proof.TheViews.{Cut, Split, rolls-Sum, rolls-Cut, rolls-Split}
use Rattle.int_polyhedra.specs.declared.system.Term.{Term}
use Rattle.int_polyhedra.specs.Rules.{by_cut, by_split, by_sum, IsContradictory, IsSumOf, Refutes}
use Rattle.int_polyhedra.specs.Steps.{sum_onto}

-- What a proof begins with

sums_step : layer.Proof-F (Option (List Term)) → Option (List Term)
sums_step (layer.Sum terms) = Some terms
sums_step (layer.Cut d terms rest) = None
sums_step (layer.Split form above below) = None

sums : Proof → Option (List Term)
sums = fold-Proof (Option (List Term)) sums_step

at_sum : (terms : List Term) → sums (Sum terms) ≡ Some terms
unfolding sums sums_step
at_sum terms = ap sums (sym (rolls-Sum terms)) ∙ fold-roll-Proof (Option (List Term)) sums_step (layer.Sum terms)

at_cut : (d : ℤ) (terms : List Term) (rest : Proof) → sums (Cut d terms rest) ≡ None
unfolding sums sums_step
at_cut d terms rest =
    ap sums (sym (rolls-Cut d terms rest)) ∙ fold-roll-Proof (Option (List Term)) sums_step (layer.Cut d terms rest)

at_split : (form : Form) (above below : Proof) → sums (Split form above below) ≡ None
unfolding sums sums_step
at_split form above below =
    ap sums (sym (rolls-Split form above below))
    ∙ fold-roll-Proof (Option (List Term)) sums_step (layer.Split form above below)

-- the sum of terms that refute
pub record IsRefutingSum (vars : ℕ) (rows : List Form) (ts : List Term) : Type 0 where
  pub sum : Form
  pub is_sum : IsSumOf vars rows ts sum
  pub ends : IsContradictory sum

refuting_from : (vars : ℕ) (rows : List Form) (p : Proof) (ts : List Term) → Refutes vars rows p → p ≡ Sum ts
    → IsRefutingSum vars rows ts
refuting_from vars _ _ ts (by_sum rows p terms sum is s end) e =
    let whole : Sum terms ≡ Sum ts = sym is ∙ e in
    let same : terms ≡ ts = cc in
    record { sum = sum; is_sum = subst (λ ts. IsSumOf vars rows ts sum) same s; ends = end }
refuting_from vars _ _ ts (by_cut rows p d terms rest sum is h s div more) e =
    absurd (let no : None ≡ Some ts = sym (at_cut d terms rest) ∙ ap sums (sym is ∙ e) ∙ at_sum ts in cc)
refuting_from vars _ _ ts (by_split rows p form other above below is over neg first second) e =
    absurd (let no : None ≡ Some ts = sym (at_split form above below) ∙ ap sums (sym is ∙ e) ∙ at_sum ts in cc)

pub refuting : (vars : ℕ) (rows : List Form) (ts : List Term) → Refutes vars rows (Sum ts) → IsRefutingSum vars rows ts
refuting vars rows ts h = refuting_from vars rows (Sum ts) ts h refl

-- Terms with other numbers

-- a term of the other rows with this term's multiplier names the same row
pub record IsSameTerm (rows other : List Form) (t u : Term) : Type 0 where
  pub inside : u.row < length other
  pub row : slice_get other u.row ≡ slice_get rows t.row
  pub times : u.times ≡ t.times

abbrev pub AreSameTerms : List Form → List Form → List Term → List Term → Type 0
AreSameTerms rows other [] [] = Unit {0}
AreSameTerms rows other [] (u ∷ us) = ⊥
AreSameTerms rows other (t ∷ ts) [] = ⊥
AreSameTerms rows other (t ∷ ts) (u ∷ us) = IsSameTerm rows other t u × AreSameTerms rows other ts us

abbrev added : Form → ℤ → Option Form → Option Form
added sum times found =
    option_and_then (λ row. option_and_then (λ more. form_in_128_bits (form_sum sum more))
    (form_in_128_bits (form_product times row))) found

same_sum : (rows other : List Form) (ts us : List Term) (sum : Form) → AreSameTerms rows other ts us
    → sum_onto other sum us ≡ sum_onto rows sum ts
same_sum rows other [] [] sum h = refl
same_sum rows other [] (u ∷ us) sum h = absurd h
same_sum rows other (t ∷ ts) [] sum h = absurd h
same_sum rows other (t ∷ ts) (u ∷ us) sum h =
    ap (λ found. option_and_then (λ next. sum_onto other next us) (added sum u.times found)) h.0.row
    ∙ ap (λ z. option_and_then (λ next. sum_onto other next us) (added sum z (slice_get rows t.row))) h.0.times
    ∙ option_and_then-same (λ next. sum_onto other next us) (λ next. sum_onto rows next ts)
    (λ next. same_sum rows other ts us next h.1) (added sum t.times (slice_get rows t.row))

same_inside : (rows other : List Form) (ts us : List Term) → AreSameTerms rows other ts us
    → All (λ t. t.row < length other) us
same_inside rows other [] [] h = All-nil _
same_inside rows other [] (u ∷ us) h = absurd h
same_inside rows other (t ∷ ts) [] h = absurd h
same_inside rows other (t ∷ ts) (u ∷ us) h =
    All-cons (λ (t : Term). t.row < length other) u us h.0.inside (same_inside rows other ts us h.1)

same_positive : (rows other : List Form) (ts us : List Term) → AreSameTerms rows other ts us
    → All (λ t. pos 0 ≤ℤ t.times) ts → All (λ t. pos 0 ≤ℤ t.times) us
same_positive rows other [] [] h k = All-nil _
same_positive rows other [] (u ∷ us) h k = absurd h
same_positive rows other (t ∷ ts) [] h k = absurd h
same_positive rows other (t ∷ ts) (u ∷ us) h k =
    All-cons (λ (t : Term). pos 0 ≤ℤ t.times) u us
    (subst (λ z. pos 0 ≤ℤ z) (sym h.0.times) (All-head (λ (t : Term). pos 0 ≤ℤ t.times) t ts k))
    (same_positive rows other ts us h.1 (All-tail (λ (t : Term). pos 0 ≤ℤ t.times) t ts k))

pub same_is_sum : (vars : ℕ) (rows other : List Form) (ts us : List Term) (sum : Form) → AreSameTerms rows other ts us
    → IsSumOf vars rows ts sum → IsSumOf vars other us sum
same_is_sum vars rows other ts us sum h s = record {
  name_rows = same_inside rows other ts us h;
  not_negative = same_positive rows other ts us h s.not_negative;
  is_sum = same_sum rows other ts us (constant_form vars (pos 0)) h ∙ s.is_sum;
}

pub same_refutes : (vars : ℕ) (rows other : List Form) (ts us : List Term) → AreSameTerms rows other ts us
    → Refutes vars rows (Sum ts) → Refutes vars other (Sum us)
same_refutes vars rows other ts us h r =
    let s : IsRefutingSum vars rows ts = refuting vars rows ts r in
    by_sum other (Sum us) us s.sum refl (same_is_sum vars rows other ts us s.sum h s.is_sum) s.ends
