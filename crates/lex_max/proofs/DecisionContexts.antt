-- The contexts of a decision, and the steps of the choice and of what is confirmed after it.
--
-- A Test adds its form to the context, or the form's opposite; that row shows itself, so that what is wanted is shown
-- in both. What was shown before stays shown, since rows are only added behind.
use Rattle.std.proofs.Common.{◌≡◌, ◌+◌, ◌-◌, ◌*◌, ◌^◌, ◌≤◌, ◌<◌, ◌==◌, ℕ, zero, suc, pos, negsuc, ◌-ℤ◌}
use Rattle.std.proofs.Common.{List, [], ◌∷◌, ◌++◌, length, map, refl, sym, ap, ◌∙◌, subst, arith, append_assoc}
use Rattle.std.specs.Prelude.{Option, Some, None, slice_get}
use Rattle.std.specs.List.{range_with_len, sum_by}
use Rattle.std.specs.Option.{option_map_or}
use Rattle.std.proofs.lemmas.Bool.{eq-eqb, and_from}
use Rattle.std.proofs.lemmas.Int.{ints}
use Rattle.std.proofs.lemmas.List.{append-nil, length-map, length_push}
use Rattle.std.proofs.lemmas.List.Elements.{All-append, All-cons, All-nil}
use Rattle.std.proofs.lemmas.List.FromFn.{length-range_with_len}
use Rattle.std.proofs.lemmas.List.Sums.{sum_by-cons}
use Rattle.affine_core.specs.declared.form.Form.{Form}
use Rattle.affine_core.specs.Affine.{form_product}
use Rattle.affine_core.proofs.Linear.{length-sums}
use Rattle.int_polyhedra.specs.declared.system.System.{System}
use Rattle.int_polyhedra.specs.declared.system.Term.{Term}
use Rattle.int_polyhedra.specs.Steps.{negation_of}
use Rattle.int_polyhedra.specs.Systems.{AreOver}
use Rattle.int_polyhedra.proofs.Variables.{length_zeros}
use Rattle.lex_max.specs.Answer.{IsContextOf}
use Rattle.tree_graphs.specs.Cycles.{IsContradiction, IsCycle}
use Rattle.tree_graphs.specs.Asked.{depth_of_write}
use Rattle.lex_max.specs.Choices.{choices_left, upper_of, uppers_from, uppers_of, AllNone, AreCerts}
use Rattle.lex_max.specs.Choices.{AreCertsSoFar, AreChoices, AreChosen, AreNoLess, AreReady, IsChoice, IsChoosing}
use Rattle.lex_max.specs.Choices.{IsNextChoice, with_terms}
use Rattle.tree_graphs.specs.Edges.{edge_parts}
use Rattle.tree_graphs.specs.Facts.{form_parts, IsContext, IsFact}
use Rattle.tree_graphs.specs.Paths.{term_of}
use Rattle.tree_graphs.specs.declared.closure.Bounds.{Bounds}
use Rattle.tree_graphs.specs.declared.cycles.Cycle.{Cycle}
use Rattle.lex_max.specs.declared.decide.Choice.{Choice}
use Rattle.tree_graphs.specs.declared.edges.Edge.{Edge}
use Rattle.tree_graphs.specs.declared.writes.Writes.{Writes}
use Rattle.lex_max.proofs.LeastForm.{choice_behind, choices_behind, choices_push}
use Rattle.tree_graphs.proofs.FactSums.{fact_behind, fact_same, fact_weaker}
use Rattle.lex_max.proofs.LeastForm.{kept_none, kept_some, switched_to}
use Rattle.tree_graphs.proofs.ProblemBounds.{writes_fit}
use Rattle.tree_graphs.proofs.EdgeSums.{over_append}
use Rattle.tree_graphs.proofs.ZeroCycles.{opposite_coefficient, opposite_constant, opposite_contradicts}
use Rattle.tree_graphs.proofs.Small.{negative_over, opposite_form, opposite_within}
use Rattle.tree_graphs.proofs.Small.{negation_of-some}
use Rattle.lex_max.proofs.Uppers.{has_upper, HasUpper}
use Rattle.plain_data.proofs.Lists.{slice_get_push, slice_get-append_cons, All-slice_get}
use Rattle.tree_sums.specs.Parts.{Part, the_constant, the_coefficient, part_of, row_part, IsWithin}
use Rattle.tree_sums.specs.Shown.{Shows}
use Rattle.tree_sums.proofs.SumAlgebra.{combines}
use Rattle.tree_sums.proofs.Ideal.{product_part}
use Rattle.tree_sums.proofs.Within.{IsWithin-weaker}

-- Contexts

abbrev pub IsMore : System → System → Form → Type 0
IsMore context more row = more ≡ record context { rows = context.rows ++ row ∷ [] }

pub context_is : (w : Writes) (room : ℕ) (context : System) → IsContextOf w room context → IsContext context
context_is w room context of = record {
  short = omega (arith, of.vars, (writes_fit w).few_vars);
  over = of.over;
  few = omega (arith, of.few);
}

pub context_more : (w : Writes) (m n : ℕ) (context more : System) (row : Form) → IsMore context more row
    → length row.coefs ≡ w.vars → IsWithin (2 ^ 41) row → m + 1 ≤ n → IsContextOf w n context
    → IsContextOf w m more
context_more w m n context more row is long small le of =
    let here : length row.coefs ≡ context.vars = long ∙ sym of.vars in
    let one : AreOver context.vars (row ∷ []) =
    and_from (length row.coefs == context.vars) _ (eq-eqb (length row.coefs) context.vars here) refl in
    subst (IsContextOf w m) (sym is)
    (record {
      vars = of.vars;
      over = over_append context.vars context.rows (row ∷ []) of.over one;
      within = All-append (IsWithin (2 ^ 41)) context.rows (row ∷ []) of.within
          (All-cons (IsWithin (2 ^ 41)) row [] small (All-nil _));
      few = omega (arith, of.few, le, length_push context.rows row);
    })

-- the last row shows itself
pub own_fact : (context more : System) (row : Form) (ts : List Term) (n : ℕ) → IsMore context more row → n
    ≡ length context.rows → ts ≡ term_of n ∷ [] → IsFact more 65536 (form_parts row) ts
own_fact context more row ts n is n_is ts_is =
    let rows : List Form = context.rows ++ row ∷ [] in
    let k : ℕ = length context.rows in
    let here : k < length rows = omega (arith, length_push context.rows row) in
    let shows : Shows context.vars rows (term_of k ∷ []) (λ part. row_part rows part k) =
    (combines context.vars rows).own k here in
    let part_is : (part : Part) → row_part rows part k ≡ form_parts row part =
    λ part. ap (λ o. option_map_or (part_of part) o (pos 0)) (slice_get_push context.rows row) in
    let one : IsFact (record context { rows = rows }) 65536 (λ part. row_part rows part k) (term_of k ∷ []) =
    record { shows = shows; light = omega arith } in
    let own : IsFact (record context { rows = rows }) 65536 (form_parts row) (term_of k ∷ []) =
    fact_same (record context { rows = rows }) 65536 (λ part. row_part rows part k) (form_parts row)
    (term_of k ∷ []) part_is one in
    subst (λ more. IsFact more 65536 (form_parts row) ts) (sym is)
    (subst (IsFact (record context { rows = rows }) 65536 (form_parts row))
    (sym (ts_is ∙ ap (λ n. term_of n ∷ []) n_is)) own)

pub opposite_long : (f : Form) → length (opposite_form f).coefs ≡ length f.coefs
opposite_long f = length-sums (form_product (negsuc 0) f).coefs _
    (negative_over f ∙ sym (length_zeros (length f.coefs))) ∙ negative_over f

pub opposite_small : (b : ℕ) (f : Form) → b + 1 ≤ 2 ^ 41 → IsWithin b f → IsWithin (2 ^ 41) (opposite_form f)
opposite_small b f le h = IsWithin-weaker (b + 1) (2 ^ 41) (opposite_form f) le (opposite_within b f h)

-- Conditions

-- a context with the opposite of a cycle's form contradicts the cycle
pub added_contradicts : (w : Writes) (edges : List Edge) (context more : System) (cycle : Cycle) (row : Form)
    (ts : List Term) (n : ℕ) → context.vars ≡ w.vars → IsCycle w.vars edges cycle
    → negation_of cycle.form ≡ Some row → IsMore context more row → n ≡ length context.rows → ts ≡ term_of n ∷ []
    → IsContradiction more.vars more.rows edges ts cycle.terms
added_contradicts w edges context more cycle row ts n vars_is c opposite is n_is ts_is =
    let row_is : row ≡ opposite_form cycle.form = negation_of-some (2 ^ 40) cycle.form row (omega arith) c.within opposite in
    let own : IsFact more 65536 (form_parts (opposite_form cycle.form)) ts =
    subst (λ f. IsFact more 65536 (form_parts f) ts) row_is (own_fact context more row ts n is n_is ts_is) in
    opposite_contradicts w.vars more edges cycle ts (ap (λ (s : System). s.vars) is ∙ vars_is) c own

-- a fact that the opposite holds contradicts it
pub known_contradicts : (w : Writes) (edges : List Edge) (context : System) (cycle : Cycle) (row : Form)
    (ts : List Term) → context.vars ≡ w.vars → IsCycle w.vars edges cycle
    → negation_of cycle.form ≡ Some row → IsFact context 65536 (form_parts row) ts
    → IsContradiction context.vars context.rows edges ts cycle.terms
known_contradicts w edges context cycle row ts vars_is c opposite fact =
    let row_is : row ≡ opposite_form cycle.form = negation_of-some (2 ^ 40) cycle.form row (omega arith) c.within opposite in
    opposite_contradicts w.vars context edges cycle ts vars_is c
    (subst (λ f. IsFact context 65536 (form_parts f) ts) row_is fact)

pub cycle_row_over : (w : Writes) (edges : List Edge) (cycle : Cycle) (row : Form)
    → IsCycle w.vars edges cycle → negation_of cycle.form ≡ Some row → length row.coefs ≡ w.vars
cycle_row_over w edges cycle row c opposite =
    ap (λ (f : Form). length f.coefs) (negation_of-some (2 ^ 40) cycle.form row (omega arith) c.within opposite)
    ∙ opposite_long cycle.form ∙ c.over

pub cycle_row_small : (w : Writes) (edges : List Edge) (cycle : Cycle) (row : Form)
    → IsCycle w.vars edges cycle → negation_of cycle.form ≡ Some row → IsWithin (2 ^ 41) row
cycle_row_small w edges cycle row c opposite =
    subst (IsWithin (2 ^ 41)) (sym (negation_of-some (2 ^ 40) cycle.form row (omega arith) c.within opposite))
    (opposite_small (2 ^ 40) cycle.form (omega arith) c.within)

-- What is confirmed

certs_behind : (context more : System) (place : List Form) (row : Form) (edges : List Edge) (certs : List (List Term))
    → IsMore context more row → AreCerts context place edges certs → AreCerts more place edges certs
certs_behind context more place row [] [] is h = tt
certs_behind context more place row [] (ts ∷ certs) is h = absurd h
certs_behind context more place row (g ∷ edges) [] is h = absurd h
certs_behind context more place row (g ∷ edges) (ts ∷ certs) is h = (
  fact_behind context more (2 ^ 23) (edge_parts place g) ts row is h.0,
  certs_behind context more place row edges certs is h.1,
)

certs_push : (context : System) (place : List Form) (edges : List Edge) (certs : List (List Term)) (g : Edge)
    (ts : List Term) → AreCerts context place edges certs → IsFact context (2 ^ 23) (edge_parts place g) ts
    → AreCerts context place (edges ++ g ∷ []) (certs ++ ts ∷ [])
certs_push context place [] [] g ts h k = (k, tt)
certs_push context place [] (us ∷ certs) g ts h k = absurd h
certs_push context place (e ∷ edges) [] g ts h k = absurd h
certs_push context place (e ∷ edges) (us ∷ certs) g ts h k = (h.0, certs_push context place edges certs g ts h.1 k)

certs_count : (context : System) (place : List Form) (edges : List Edge) (certs : List (List Term))
    → AreCerts context place edges certs → length certs ≡ length edges
certs_count context place [] [] h = refl
certs_count context place [] (ts ∷ certs) h = absurd h
certs_count context place (g ∷ edges) [] h = absurd h
certs_count context place (g ∷ edges) (ts ∷ certs) h = ap suc (certs_count context place edges certs h.1)

pub certs_all : (context : System) (place : List Form) (whole : List Edge) (certs : List (List Term))
    → AreCertsSoFar context place whole [] certs → AreCerts context place whole certs
certs_all context place whole certs h =
    subst (λ edges. AreCerts context place edges certs) (sym (append-nil h.done) ∙ h.all) h.shown

pub certs_at : (context : System) (place : List Form) (whole rest : List Edge) (g : Edge) (certs : List (List Term))
    → AreCertsSoFar context place whole (g ∷ rest) certs → slice_get whole (length certs) ≡ Some g
certs_at context place whole rest g certs h =
    ap (slice_get whole) (certs_count context place h.done certs h.shown)
    ∙ ap (λ es. slice_get es (length h.done)) (sym h.all) ∙ slice_get-append_cons h.done g rest

pub certs_next : (context : System) (place : List Form) (whole rest : List Edge) (g : Edge)
    (certs new : List (List Term)) (ts : List Term) → new ≡ certs ++ ts ∷ []
    → IsFact context (2 ^ 23) (edge_parts place g) ts
    → AreCertsSoFar context place whole (g ∷ rest) certs → AreCertsSoFar context place whole rest new
certs_next context place whole rest g certs new ts is fact h =
    subst (AreCertsSoFar context place whole rest) (sym is)
    (record {
      done = h.done ++ g ∷ [];
      all = append_assoc h.done (g ∷ []) rest ∙ h.all;
      shown =
          certs_push context place h.done certs g ts h.shown fact;
    })

pub certs_more : (context more : System) (place : List Form) (row : Form) (whole rest : List Edge)
    (certs : List (List Term)) → IsMore context more row → AreCertsSoFar context place whole rest certs
    → AreCertsSoFar more place whole rest certs
certs_more context more place row whole rest certs is h =
    record { done = h.done; all = h.all; shown = certs_behind context more place row h.done certs is h.shown }

pub certs_none : (context : System) (place : List Form) (whole : List Edge) → AreCertsSoFar context place whole whole []
certs_none context place whole = record { done = []; all = refl; shown = tt }

pub chosen_more : (w : Writes) (edges : List Edge) (bounds : Bounds) (context more : System) (row : Form)
    (choices : List Choice) → IsMore context more row → AreChosen w edges bounds context choices
    → AreChosen w edges bounds more choices
chosen_more w edges bounds context more row choices is h =
    record { all = h.all; each = choices_behind (depth_of_write w) bounds edges context more 0 choices row is h.each }

-- a fact of a cycle's form shows its edge
pub cycle_fact : (context : System) (place : List Form) (g : Edge) (form : Form) (ts : List Term)
    → ((part : Part) → form_parts form part ≡ edge_parts place g part) → IsFact context 65536 (form_parts form) ts
    → IsFact context (2 ^ 23) (edge_parts place g) ts
cycle_fact context place g form ts same h =
    fact_weaker context 65536 (2 ^ 23) (form_parts form) (edge_parts place g) ts (omega arith)
    (omega (arith, ints, same the_constant)) (λ i. same (the_coefficient i)) h

-- One form more

next_fact : (context : System) (form chosen above : Form) (terms : List Term)
    → ((part : Part) → form_parts above part ≡ form_parts form part -ℤ form_parts chosen part)
    → IsFact context 65536 (form_parts above) terms
    → IsFact context 65536 (λ part. form_parts form part -ℤ form_parts chosen part) terms
next_fact context form chosen above terms parts fact = fact_same context 65536 (form_parts above)
    (λ part. form_parts form part -ℤ form_parts chosen part) terms parts fact

pub next_none : (context : System) (choice next : Choice) → next ≡ record choice { less = choice.less ++ None ∷ [] }
    → IsNextChoice context context None choice next
next_none context choice next is =
    record { follows = λ depth bounds edges v done h at. kept_none depth bounds edges context v done choice next h is }

pub next_kept : (context : System) (choice next : Choice) (form above : Form) (terms : List Term)
    → ((part : Part) → form_parts above part ≡ form_parts form part -ℤ form_parts choice.form part)
    → next ≡ record choice { less = choice.less ++ Some terms ∷ [] } → IsFact context 65536 (form_parts above) terms
    → IsNextChoice context context (Some form) choice next
next_kept context choice next form above terms parts is fact = record {
  follows = λ depth bounds edges v done h at. kept_some depth bounds edges context v done choice next form terms h is
      (next_fact context form choice.form above terms parts fact);
}

-- the terms show the negative, or the opposite, which is less by 1
abbrev switched_choice : Choice → Form → List Term → Choice
switched_choice choice form terms =
    record { edge = length choice.less; form = form; less = map (with_terms terms) choice.less ++ Some [] ∷ [] }

pub next_switched : (context : System) (choice next : Choice) (form above less : Form) (terms : List Term)
    → ((part : Part) → form_parts above part ≡ form_parts form part -ℤ form_parts choice.form part)
    → less ≡ form_product (negsuc 0) above → next ≡ switched_choice choice form terms
    → IsFact context 65536 (form_parts less) terms → IsNextChoice context context (Some form) choice next
next_switched context choice next form above less terms parts less_is is fact = record {
  follows = λ depth bounds edges v done h at. switched_to depth bounds edges context v done choice next form terms h at
      is
      (fact_same context 65536 (form_parts less) (λ part. form_parts choice.form part -ℤ form_parts form part) terms
      (λ part. omega (arith, ints, ap (part_of part) less_is, product_part part (negsuc 0) above, parts part)) fact);
}

pub next_same : (context least : System) (choice next : Choice) (form above : Form) (own : List Term) (n : ℕ)
    → ((part : Part) → form_parts above part ≡ form_parts form part -ℤ form_parts choice.form part)
    → next ≡ record choice { less = choice.less ++ Some own ∷ [] } → n ≡ length context.rows → own ≡ term_of n ∷ []
    → IsMore context least above → IsNextChoice context least (Some form) choice next
next_same context least choice next form above own n parts is n_is own_is more = record {
  follows = λ depth bounds edges v done h at.
      kept_some depth bounds edges least v done choice next form own
      (choice_behind depth bounds edges context least v done choice above more h) is
      (next_fact least form choice.form above own parts (own_fact context least above own n more n_is own_is));
}

pub next_other : (context below : System) (choice next : Choice) (form above row : Form) (own : List Term) (n : ℕ)
    → ((part : Part) → form_parts above part ≡ form_parts form part -ℤ form_parts choice.form part)
    → IsWithin (2 ^ 60) above → next ≡ switched_choice choice form own → n ≡ length context.rows → own ≡ term_of n ∷ []
    → negation_of above ≡ Some row → IsMore context below row
    → IsNextChoice context below (Some form) choice next
next_other context below choice next form above row own n parts small is n_is own_is opposite more =
    let row_is : row ≡ opposite_form above = negation_of-some (2 ^ 60) above row (omega arith) small opposite in
    let shown : IsFact below 65536 (form_parts row) own = own_fact context below row own n more n_is own_is in
    record {
      follows = λ depth bounds edges v done h at.
          switched_to depth bounds edges below v done choice next form own
          (choice_behind depth bounds edges context below v done choice row more h) at is
          (fact_weaker below 65536 65536 (form_parts row)
          (λ part. form_parts choice.form part -ℤ form_parts form part) own (omega arith)
          (omega (arith, ints, ap (part_of the_constant) row_is, opposite_constant above, parts the_constant))
          (λ i. omega (
            arith,
            ints,
            ap (part_of (the_coefficient i)) row_is,
            opposite_coefficient above i,
            parts (the_coefficient i),
          )) shown);
    }

-- The choice

module _ (w : Writes) (edges : List Edge) (bounds : Bounds) (ready : AreReady w edges bounds) where
  abbrev depth : ℕ
  depth = depth_of_write w

  -- nothing is chosen yet, or another variable is the next
  pub choosing_start : (context : System) (v : ℕ) (forms : List (Option Form)) (more : List (List (Option Form)))
      (choice : Choice) (choices : List Choice) → length choices ≡ v → v < depth
      → forms ≡ uppers_of depth bounds edges v → more ≡ uppers_from depth bounds edges (v + 1) (depth - (v + 1))
      → slice_get forms choice.edge ≡ Some (Some choice.form) → choice.less ≡ []
      → AreChoices depth bounds edges context 0 choices
      → IsChoosing depth bounds edges context forms more choice choices
  choosing_start context v forms more choice choices count lt forms_is more_is edge_is none chosen =
      let moved : forms ≡ uppers_of depth bounds edges (length choices) = forms_is
      ∙ ap (uppers_of depth bounds edges) (sym count) in
      record {
        below = omega (arith, count, lt);
        done = [];
        rest = moved;
        choosing = record {
          edge_is = ap (λ fs. slice_get fs choice.edge) (sym moved) ∙ edge_is;
          no_less = subst (AreNoLess context choice.form (65536 * 0) []) (sym none) tt;
        };
        chosen = chosen;
        others = more_is ∙ ap (λ n. uppers_from depth bounds edges (n + 1) (depth - (n + 1))) (sym count);
      }

  -- each of the forms of a variable was looked at
  pub choosing_end : (context : System) (more : List (List (Option Form))) (choice : Choice) (choices new : List Choice)
      → new ≡ choices ++ choice ∷ [] → IsChoosing depth bounds edges context [] more choice choices
      → AreChoices depth bounds edges context 0 new
  choosing_end context more choice choices new is h =
      let v : ℕ = length choices in
      let done_is : h.done ≡ uppers_of depth bounds edges v = sym (append-nil h.done) ∙ h.rest in
      subst (AreChoices depth bounds edges context 0) (sym is)
      (choices_push depth bounds edges context 0 v choices choice (omega arith) h.chosen
      (subst (λ done. IsChoice depth bounds edges context v done choice) done_is h.choosing))

  pub chosen_all : (context : System) (choice : Choice) (choices new : List Choice) → new ≡ choices ++ choice ∷ []
      → IsChoosing depth bounds edges context [] [] choice choices → AreChosen w edges bounds context new
  chosen_all context choice choices new is h =
      let v : ℕ = length choices in
      let none : 0 ≡ depth - (v + 1) = ap length h.others ∙ length-map (range_with_len (v + 1) (depth - (v + 1)))
      (uppers_of depth bounds edges) ∙ length-range_with_len (v + 1) (depth - (v + 1)) in
      record {
        all = (let count : length new ≡ v + 1 = ap length is ∙ length_push choices choice
            in omega (arith, count, none, h.below));
        each = choosing_end context [] choice choices new is h;
      }

  -- the forms of the next variable
  pub record IsNext (v : ℕ) (next : List (Option Form)) (more : List (List (Option Form))) : Type 0 where
    pub inside : v < depth
    pub forms : next ≡ uppers_of depth bounds edges v
    pub others : more ≡ uppers_from depth bounds edges (v + 1) (depth - (v + 1))

  next_is : (v n : ℕ) (next : List (Option Form)) (more : List (List (Option Form))) → n ≡ depth - v → next ∷ more
      ≡ uppers_from depth bounds edges v n → IsNext v next more
  next_is v zero next more n_is e = absurd (cc)
  next_is v (suc n) next more n_is e =
      let first : next ≡ uppers_of depth bounds edges v = cc in
      let rest : more ≡ uppers_from depth bounds edges (v + 1) n = cc in
      record {
        inside = omega (arith, n_is);
        forms = first;
        others = (let count : n ≡ depth - (v + 1) = omega (arith, n_is) in rest
            ∙ ap (uppers_from depth bounds edges (v + 1)) count);
      }

  pub next_first : (next : List (Option Form)) (more : List (List (Option Form))) → next ∷ more
      ≡ uppers_from depth bounds edges 0 depth → IsNext 0 next more
  next_first next more e = next_is 0 depth next more (omega arith) e

  pub next_more : (context : System) (next : List (Option Form)) (more : List (List (Option Form))) (choice : Choice)
      (choices : List Choice) → IsChoosing depth bounds edges context [] (next ∷ more) choice choices
      → IsNext (length choices + 1) next more
  next_more context next more choice choices h =
      next_is (length choices + 1) (depth - (length choices + 1)) next more refl h.others

  pub some_upper : (v : ℕ) (forms : List (Option Form)) → v < depth → forms ≡ uppers_of depth bounds edges v
      → AllNone forms → ⊥
  some_upper v forms lt is none =
      has_upper w edges bounds ready v lt
      (λ (u : HasUpper w edges bounds ready v).
      let here : slice_get forms u.number ≡ Some (Some u.form) = ap (λ fs. slice_get fs u.number) is ∙ u.is in
      let gone : Some u.form ≡ None =
      All-slice_get (λ (form : Option Form). form ≡ None) forms u.number (Some u.form) none here in
      cc)

  pub few_uppers : (v : ℕ) (forms : List (Option Form)) → forms ≡ uppers_of depth bounds edges v → length forms ≤ 56
  few_uppers v forms is = omega (arith, ap length is, length-map edges (upper_of depth bounds v), ready.graph.graph.few)

  pub choosing_step : (context longer : System) (x : Option Form) (forms : List (Option Form))
      (more : List (List (Option Form))) (choice next : Choice) (choices : List Choice)
      → IsChoosing depth bounds edges context (x ∷ forms) more choice choices
      → IsNextChoice context longer x choice next → AreChoices depth bounds edges longer 0 choices
      → IsChoosing depth bounds edges longer forms more next choices
  choosing_step context longer x forms more choice next choices h k chosen = record {
    below = h.below;
    done = h.done ++ x ∷ [];
    rest = append_assoc h.done (x ∷ []) forms ∙ h.rest;
    choosing = k.follows depth bounds edges (length choices) h.done h.choosing
        (ap (λ fs. slice_get fs (length h.done)) (sym h.rest) ∙ slice_get-append_cons h.done x forms);
    chosen = chosen;
    others = h.others;
  }

  -- all forms together
  total_uppers : (v n : ℕ) → sum_by length (uppers_from depth bounds edges v n) ≤ n * 56
  total_uppers v zero = omega arith
  total_uppers v (suc n) =
      let own : length (uppers_of depth bounds edges v) ≤ 56 = few_uppers v (uppers_of depth bounds edges v) refl in
      let rest : sum_by length (uppers_from depth bounds edges (v + 1) n) ≤ n * 56 = total_uppers (v + 1) n in
      let split : sum_by length (uppers_from depth bounds edges v (suc n))
      ≡ length (uppers_of depth bounds edges v) + sum_by length (uppers_from depth bounds edges (v + 1) n) =
      sum_by-cons length (uppers_of depth bounds edges v) (uppers_from depth bounds edges (v + 1) n) in
      omega (arith, own, rest, split)

  pub few_tests : (forms : List (Option Form)) (more : List (List (Option Form))) → forms ∷ more
      ≡ uppers_from depth bounds edges 0 depth → depth ≤ 6 → choices_left forms more ≤ 392
  few_tests forms more is few =
      let all : sum_by length (forms ∷ more) ≤ depth * 56 =
      subst (λ fs. sum_by length fs ≤ depth * 56) (sym is) (total_uppers 0 depth) in
      omega (arith, all, sum_by-cons length forms more, few)

  pub none_chosen : (context : System) (choices : List Choice) → [] ≡ uppers_from depth bounds edges 0 depth → choices
      ≡ [] → AreChosen w edges bounds context choices
  none_chosen context choices none is =
      let zero_deep : 0 ≡ depth = ap length none ∙ length-map (range_with_len 0 depth) (uppers_of depth bounds edges)
      ∙ length-range_with_len 0 depth in
      record { all = ap length is ∙ zero_deep; each = subst (AreChoices depth bounds edges context 0) (sym is) tt }

  -- the next form, and how far it is from the one that is chosen
  module _ (context : System) (form : Form) (forms : List (Option Form)) (more : List (List (Option Form)))
      (choice : Choice) (choices : List Choice)
      (h : IsChoosing depth bounds edges context (Some form ∷ forms) more choice choices) where
    pub form_at_done : slice_get (uppers_of depth bounds edges (length choices)) (length h.done) ≡ Some (Some form)
    form_at_done = ap (λ fs. slice_get fs (length h.done)) (sym h.rest) ∙ slice_get-append_cons h.done (Some form) forms
