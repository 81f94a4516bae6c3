-- The least of the forms that bound a loop variable above.
--
-- One form is the least so far, and for each form that was looked at there are terms that show that it is no less.
-- Where the next form is less, the terms that show that the old one is no less than it are added to all. It isn't said
-- that the chosen form is the least for another reason than these terms; they are all that a leaf needs.
use Rattle.std.proofs.Common.{◌≡◌, ◌+◌, ◌*◌, ◌≤◌, ℕ, zero, suc, ◌+ℤ◌, ◌-ℤ◌, List, [], ◌∷◌, ◌++◌}
use Rattle.std.proofs.Common.{length, map, refl, sym, ap, ◌∙◌, subst, arith}
use Rattle.std.specs.Prelude.{Option, Some, None, slice_get}
use Rattle.std.proofs.lemmas.Int.{ints}
use Rattle.std.proofs.lemmas.List.{length_push}
use Rattle.std.proofs.lemmas.List.Elements.{All-nil}
use Rattle.affine_core.specs.declared.form.Form.{Form}
use Rattle.int_polyhedra.specs.declared.system.System.{System}
use Rattle.int_polyhedra.specs.declared.system.Term.{Term}
use Rattle.lex_max.specs.Choices.{AreChoices, AreNoLess, IsChoice, uppers_of, with_terms}
use Rattle.tree_graphs.specs.Facts.{form_parts, IsFact}
use Rattle.tree_graphs.specs.declared.closure.Bounds.{Bounds}
use Rattle.tree_graphs.proofs.FactSums.{fact_behind, fact_same, fact_sum}
use Rattle.lex_max.specs.declared.decide.Choice.{Choice}
use Rattle.tree_graphs.specs.declared.edges.Edge.{Edge}

-- Lists of terms

pub no_less_behind : (context more : System) (least : Form) (most : ℕ) (row : Form) (forms : List (Option Form))
    (less : List (Option (List Term)))
    → more ≡ record context { rows = context.rows ++ row ∷ [] } → AreNoLess context least most forms less
    → AreNoLess more least most forms less
no_less_behind context more least most row [] [] is h = tt
no_less_behind context more least most row [] (ts ∷ less) is h = absurd h
no_less_behind context more least most row (f ∷ forms) [] is h = absurd h
no_less_behind context more least most row (None ∷ forms) (ts ∷ less) is h =
    (h.0, no_less_behind context more least most row forms less is h.1)
no_less_behind context more least most row (Some f ∷ forms) (None ∷ less) is h = absurd h
no_less_behind context more least most row (Some f ∷ forms) (Some ts ∷ less) is h = (
  fact_behind context more most (λ part. form_parts f part -ℤ form_parts least part) ts row is h.0,
  no_less_behind context more least most row forms less is h.1,
)

pub no_less_wider : (context : System) (least : Form) (most more : ℕ) (forms : List (Option Form))
    (less : List (Option (List Term))) → most ≤ more
    → AreNoLess context least most forms less → AreNoLess context least more forms less
no_less_wider context least most more [] [] le h = tt
no_less_wider context least most more [] (ts ∷ less) le h = absurd h
no_less_wider context least most more (f ∷ forms) [] le h = absurd h
no_less_wider context least most more (None ∷ forms) (ts ∷ less) le h =
    (h.0, no_less_wider context least most more forms less le h.1)
no_less_wider context least most more (Some f ∷ forms) (None ∷ less) le h = absurd h
no_less_wider context least most more (Some f ∷ forms) (Some ts ∷ less) le h = (
  record { shows = h.0.shows; light = omega (arith, h.0.light, le) },
  no_less_wider context least most more forms less le h.1,
)

-- one more entry
pub no_less_none : (context : System) (least : Form) (most : ℕ) (forms : List (Option Form))
    (less : List (Option (List Term)))
    → AreNoLess context least most forms less → AreNoLess context least most (forms ++ None ∷ []) (less ++ None ∷ [])
no_less_none context least most [] [] h = (refl, tt)
no_less_none context least most [] (ts ∷ less) h = absurd h
no_less_none context least most (f ∷ forms) [] h = absurd h
no_less_none context least most (None ∷ forms) (ts ∷ less) h = (h.0, no_less_none context least most forms less h.1)
no_less_none context least most (Some f ∷ forms) (None ∷ less) h = absurd h
no_less_none context least most (Some f ∷ forms) (Some ts ∷ less) h =
    (h.0, no_less_none context least most forms less h.1)

pub no_less_some : (context : System) (least : Form) (most : ℕ) (forms : List (Option Form))
    (less : List (Option (List Term))) (form : Form) (terms : List Term)
    → AreNoLess context least most forms less
    → IsFact context most (λ part. form_parts form part -ℤ form_parts least part) terms
    → AreNoLess context least most (forms ++ Some form ∷ []) (less ++ Some terms ∷ [])
no_less_some context least most [] [] form terms h k = (k, tt)
no_less_some context least most [] (ts ∷ less) form terms h k = absurd h
no_less_some context least most (f ∷ forms) [] form terms h k = absurd h
no_less_some context least most (None ∷ forms) (ts ∷ less) form terms h k =
    (h.0, no_less_some context least most forms less form terms h.1 k)
no_less_some context least most (Some f ∷ forms) (None ∷ less) form terms h k = absurd h
no_less_some context least most (Some f ∷ forms) (Some ts ∷ less) form terms h k =
    (h.0, no_less_some context least most forms less form terms h.1 k)

-- another form is less: it and the old one differ by what some terms show
pub no_less_switched : (context : System) (old new : Form) (most : ℕ) (forms : List (Option Form))
    (less : List (Option (List Term))) (terms : List Term)
    → IsFact context 65536 (λ part. form_parts old part -ℤ form_parts new part) terms
    → AreNoLess context old most forms less
    → AreNoLess context new (most + 65536) forms (map (with_terms terms) less)
no_less_switched context old new most [] [] terms k h = tt
no_less_switched context old new most [] (ts ∷ less) terms k h = absurd h
no_less_switched context old new most (f ∷ forms) [] terms k h = absurd h
no_less_switched context old new most (None ∷ forms) (ts ∷ less) terms k h =
    (ap (with_terms terms) h.0, no_less_switched context old new most forms less terms k h.1)
no_less_switched context old new most (Some f ∷ forms) (None ∷ less) terms k h = absurd h
no_less_switched context old new most (Some f ∷ forms) (Some ts ∷ less) terms k h = (
  fact_same context (most + 65536) (λ part. (form_parts f part -ℤ form_parts old part) +ℤ
      (form_parts old part -ℤ form_parts new part)) (λ part. form_parts f part -ℤ form_parts new part) (ts ++ terms)
      (λ part. omega (arith, ints))
      (fact_sum context most 65536 (λ part. form_parts f part -ℤ form_parts old part)
      (λ part. form_parts old part -ℤ form_parts new part) ts terms h.0 k),
  no_less_switched context old new most forms less terms k h.1,
)

pub no_less_count : (context : System) (least : Form) (most : ℕ) (forms : List (Option Form))
    (less : List (Option (List Term))) → AreNoLess context least most forms less → length less ≡ length forms
no_less_count context least most [] [] h = refl
no_less_count context least most [] (ts ∷ less) h = absurd h
no_less_count context least most (f ∷ forms) [] h = absurd h
no_less_count context least most (None ∷ forms) (ts ∷ less) h = ap suc (no_less_count context least most forms less h.1)
no_less_count context least most (Some f ∷ forms) (None ∷ less) h = absurd h
no_less_count context least most (Some f ∷ forms) (Some ts ∷ less) h =
    ap suc (no_less_count context least most forms less h.1)

-- the terms of a form that is there
pub record HasTerms (context : System) (least form : Form) (most : ℕ)
    (found : Option (Option (List Term))) : Type 0 where
  pub terms : List Term
  pub is : found ≡ Some (Some terms)
  pub fact : IsFact context most (λ part. form_parts form part -ℤ form_parts least part) terms

pub no_less_at : (context : System) (least : Form) (most : ℕ) (forms : List (Option Form))
    (less : List (Option (List Term))) (k : ℕ) (form : Form)
    → AreNoLess context least most forms less → slice_get forms k ≡ Some (Some form)
    → HasTerms context least form most (slice_get less k)
no_less_at context least most [] less k form h e = absurd (let f : None ≡ Some (Some form) = e in cc)
no_less_at context least most (f ∷ forms) [] k form h e = absurd (none_of f h) where
  none_of : (f : Option Form) → AreNoLess context least most (f ∷ forms) [] → ⊥
  none_of None h = h
  none_of (Some f) h = h
no_less_at context least most (None ∷ forms) (ts ∷ less) zero form h e =
    absurd (let f : Some None ≡ Some (Some form) = e in cc)
no_less_at context least most (None ∷ forms) (ts ∷ less) (suc k) form h e =
    no_less_at context least most forms less k form h.1 e
no_less_at context least most (Some f ∷ forms) (None ∷ less) k form h e = absurd h
no_less_at context least most (Some f ∷ forms) (Some ts ∷ less) zero form h e =
    let same : f ≡ form = cc in
    record {
      terms = ts;
      is = refl;
      fact =
          subst (λ f. IsFact context most (λ part. form_parts f part -ℤ form_parts least part) ts) same h.0;
    }
no_less_at context least most (Some f ∷ forms) (Some ts ∷ less) (suc k) form h e =
    no_less_at context least most forms less k form h.1 e

-- Choices

module _ (depth : ℕ) (bounds : Bounds) (edges : List Edge) where
  pub choice_behind : (context more : System) (v : ℕ) (done : List (Option Form)) (choice : Choice) (row : Form) → more
      ≡ record context { rows = context.rows ++ row ∷ [] }
      → IsChoice depth bounds edges context v done choice → IsChoice depth bounds edges more v done choice
  choice_behind context more v done choice row is h = record {
    edge_is = h.edge_is;
    no_less =
        no_less_behind context more choice.form (65536 * length done) row done choice.less is h.no_less;
  }

  pub choices_behind : (context more : System) (v : ℕ) (choices : List Choice) (row : Form) → more
      ≡ record context { rows = context.rows ++ row ∷ [] }
      → AreChoices depth bounds edges context v choices → AreChoices depth bounds edges more v choices
  choices_behind context more v [] row is h = tt
  choices_behind context more v (choice ∷ choices) row is h = (
    choice_behind context more v (uppers_of depth bounds edges v) choice row is h.0,
    choices_behind context more (v + 1) choices row is h.1,
  )

  pub choices_push : (context : System) (v n : ℕ) (choices : List Choice) (choice : Choice) → n ≡ v + length choices
      → AreChoices depth bounds edges context v choices
      → IsChoice depth bounds edges context n (uppers_of depth bounds edges n) choice
      → AreChoices depth bounds edges context v (choices ++ choice ∷ [])
  choices_push context v n [] choice e h k =
      let same : n ≡ v = omega (arith, e) in
      (subst (λ n. IsChoice depth bounds edges context n (uppers_of depth bounds edges n) choice) same k, tt)
  choices_push context v n (c ∷ choices) choice e h k =
      (h.0, choices_push context (v + 1) n choices choice (omega (arith, e)) h.1 k)

  pub choices_at : (context : System) (v k : ℕ) (choices : List Choice) (choice : Choice)
      → AreChoices depth bounds edges context v choices → slice_get choices k ≡ Some choice
      → IsChoice depth bounds edges context (v + k) (uppers_of depth bounds edges (v + k)) choice
  choices_at context v k [] choice h e = absurd (let f : None ≡ Some choice = e in cc)
  choices_at context v zero (c ∷ choices) choice h e =
      let same : c ≡ choice = cc in
      let here : v ≡ v + 0 = omega arith in
      subst (λ n. IsChoice depth bounds edges context n (uppers_of depth bounds edges n) choice) here
      (subst (IsChoice depth bounds edges context v (uppers_of depth bounds edges v)) same h.0)
  choices_at context v (suc k) (c ∷ choices) choice h e =
      let here : v + 1 + k ≡ v + suc k = omega arith in
      subst (λ n. IsChoice depth bounds edges context n (uppers_of depth bounds edges n) choice) here
      (choices_at context (v + 1) k choices choice h.1 e)

  -- the choice stays, past a form that isn't there
  pub kept_none : (context : System) (v : ℕ) (done : List (Option Form)) (choice next : Choice)
      → IsChoice depth bounds edges context v done choice
      → next ≡ record choice { less = choice.less ++ None ∷ [] }
      → IsChoice depth bounds edges context v (done ++ None ∷ []) next
  kept_none context v done choice next h is =
      subst (IsChoice depth bounds edges context v (done ++ None ∷ [])) (sym is)
      (record {
        edge_is = h.edge_is;
        no_less = no_less_wider context choice.form (65536 * length done) (65536 * length (done ++ None ∷ []))
            (done ++ None ∷ []) (choice.less ++ None ∷ []) (omega (arith, length_push done None))
            (no_less_none context choice.form (65536 * length done) done choice.less h.no_less);
      })

  -- it stays, past a form that is no less
  pub kept_some : (context : System) (v : ℕ) (done : List (Option Form)) (choice next : Choice) (form : Form)
      (terms : List Term) → IsChoice depth bounds edges context v done choice
      → next ≡ record choice { less = choice.less ++ Some terms ∷ [] }
      → IsFact context 65536 (λ part. form_parts form part -ℤ form_parts choice.form part) terms
      → IsChoice depth bounds edges context v (done ++ Some form ∷ []) next
  kept_some context v done choice next form terms h is fact =
      let more : ℕ = 65536 * length (done ++ Some form ∷ []) in
      subst (IsChoice depth bounds edges context v (done ++ Some form ∷ [])) (sym is)
      (record {
        edge_is = h.edge_is;
        no_less = no_less_some context choice.form more done choice.less form terms
            (no_less_wider context choice.form (65536 * length done) more done choice.less
            (omega (arith, length_push done (Some form))) h.no_less)
            (record { shows = fact.shows; light = omega (arith, fact.light, length_push done (Some form)) });
      })

  -- the next form is chosen
  pub switched_to : (context : System) (v : ℕ) (done : List (Option Form)) (choice next : Choice) (form : Form)
      (terms : List Term) → IsChoice depth bounds edges context v done choice
      → slice_get (uppers_of depth bounds edges v) (length done) ≡ Some (Some form)
      → next ≡ record {
        edge = length choice.less;
        form = form;
        less = map (with_terms terms) choice.less ++ Some []
            ∷ [];
      }
      → IsFact context 65536 (λ part. form_parts choice.form part -ℤ form_parts form part) terms
      → IsChoice depth bounds edges context v (done ++ Some form ∷ []) next
  switched_to context v done choice next form terms h here is fact =
      let most : ℕ = 65536 * length done in
      let more : ℕ = 65536 * length (done ++ Some form ∷ []) in
      let count : length choice.less ≡ length done = no_less_count context choice.form most done choice.less h.no_less
      in
      let old : AreNoLess context form more done (map (with_terms terms) choice.less)
      = no_less_wider context form (most + 65536) more done (map (with_terms terms) choice.less)
      (omega (arith, length_push done (Some form)))
      (no_less_switched context choice.form form most done choice.less terms fact h.no_less) in
      subst (IsChoice depth bounds edges context v (done ++ Some form ∷ [])) (sym is)
      (record {
        edge_is = ap (slice_get (uppers_of depth bounds edges v)) count ∙ here;
        no_less = no_less_some context form more done (map (with_terms terms) choice.less) form [] old
            (itself context form more);
      }) where
        itself : (context : System) (form : Form) (most : ℕ)
            → IsFact context most (λ part. form_parts form part -ℤ form_parts form part) []
        itself context form most = record {
          shows = record {
            name_rows = All-nil _;
            not_negative = All-nil _;
            at_most = omega (arith, ints);
            same =
                λ i l. omega (arith, ints);
          };
          light = omega arith;
        }
