-- The systems of a leaf are rows behind those of its context.
--
-- The rows of a leaf's systems that aren't its context's depend on how many variables the context has, and on none of
-- its rows. So the systems in a context are those in the context without rows, with its rows before each, and a system
-- loses a row of its context where that context loses it.
use Rattle.std.proofs.Common.{◌≡◌, ◌==◌, ℕ, suc, List, [], ◌∷◌, ◌++◌, length, map, Bool, true, false, cond, refl, sym}
use Rattle.std.proofs.Common.{ap, ◌∙◌, subst}
use Rattle.std.specs.Prelude.{Some}
use Rattle.std.specs.List.{flat_map}
use Rattle.std.specs.Option.{option_and_then}
use Rattle.std.proofs.lemmas.Bool.{or_parts}
use Rattle.std.proofs.lemmas.List.{append-nil, append_assoc, map-append}
use Rattle.std.proofs.lemmas.Option.{same_Some, option_and_then_some}
use Rattle.affine_core.specs.declared.form.Form.{Form}
use Rattle.tree_graphs.specs.Joint.{head_systems, no_orders, orders_behind, place_systems, write_systems_of}
use Rattle.tree_graphs.specs.Joint.{ReadAndWrite}
use Rattle.int_polyhedra.specs.declared.system.Proof.{Proof}
use Rattle.int_polyhedra.specs.Rules.{Refutes}
use Rattle.tree_graphs.proofs.RowBounds.{forms_append}
use Rattle.source_tree.specs.Checked.{AreRefuted, IsRefuted}
use Rattle.source_tree.specs.Places.{at_place, before_rows, cell_rows, differ_rows, domain_rows, same_rows}
use Rattle.source_tree.specs.Rows.{RowExpr, RowSystem, below_zero, row_form, row_forms}
use Rattle.source_tree.specs.Systems.{Context, Occurrence, every, reader_place, writer_place, with_rows, with_write_at}
use Rattle.source_tree.specs.Systems.{after_systems, cell_systems, dead_systems, outside_systems, same_systems}
use Rattle.source_tree.specs.Systems.{write_systems}
use Rattle.tree_trim.specs.Proofs.{names_row}
use Rattle.tree_trim.specs.Renumbering.{proof_without}
use Rattle.tree_trim.specs.Trees.{proofs_name, proofs_without}
use Rattle.tree_trim.proofs.Refuting.{refutes_without}

-- a context without rows
abbrev pub no_rows : ℕ → Context
no_rows vars = record { vars = vars; rows = [] }

-- a system with these rows before its own
abbrev pub behind : List RowExpr → RowSystem → RowSystem
behind rows s = record { vars = s.vars; rows = rows ++ s.rows }

abbrev pub AreBehind : (Context → List RowSystem) → Type 0
AreBehind systems = (c : Context) → systems c ≡ map (behind c.rows) (systems (no_rows c.vars))

-- Lists of systems

each_behind : {X : Type 0} (rows : List RowExpr) (f g : X → RowSystem) → ((x : X) → f x ≡ behind rows (g x))
    → (xs : List X) → map f xs ≡ map (behind rows) (map g xs)
each_behind rows f g is [] = refl
each_behind rows f g is (x ∷ xs) =
    ap (λ s. s ∷ map f xs) (is x) ∙ ap (λ more. behind rows (g x) ∷ more) (each_behind rows f g is xs)

both_behind : (rows : List RowExpr) (a b x y : List RowSystem) → a ≡ map (behind rows) x → b ≡ map (behind rows) y
    → a ++ b ≡ map (behind rows) (x ++ y)
both_behind rows a b x y e h =
    ap (λ a. a ++ b) e ∙ ap (λ b. map (behind rows) x ++ b) h ∙ sym (map-append (behind rows) x y)

all_behind : {X : Type 0} (rows : List RowExpr) (f g : X → List RowSystem)
    → ((x : X) → f x ≡ map (behind rows) (g x)) → (xs : List X) → flat_map f xs ≡ map (behind rows) (flat_map g xs)
all_behind rows f g is [] = refl
all_behind rows f g is (x ∷ xs) =
    both_behind rows (f x) (flat_map f xs) (g x) (flat_map g xs) (is x) (all_behind rows f g is xs)

-- The systems of each kind of leaf

abbrev system : ℕ → List RowExpr → RowSystem
system vars rows = record { vars = vars; rows = rows }

pub dead_behind : AreBehind dead_systems
dead_behind c = ap (λ rows. system c.vars rows ∷ []) (sym (append-nil c.rows))

module _ (c : Context) where
  abbrev bare : Context
  bare = no_rows c.vars

  outside_behind : (w : Occurrence) (place : List Form)
      → outside_systems c w place ≡ map (behind c.rows) (outside_systems bare w place)
  outside_behind w place =
      each_behind c.rows (λ (row : Form). with_rows c (below_zero (at_place row place) ∷ []))
      (λ row. with_rows bare (below_zero (at_place row place) ∷ [])) (λ row. refl) w.statement.rows

  cells_behind : (r w : Occurrence) (place : List Form)
      → cell_systems r c w place ≡ map (behind c.rows) (cell_systems r bare w place)
  cells_behind r w place =
      each_behind c.rows (λ (row : RowExpr). with_rows c (row ∷ [])) (λ row. with_rows bare (row ∷ [])) (λ row. refl)
      (differ_rows w.access.subscripts r.access.subscripts place)

  same_behind : (r w : Occurrence) (place : List Form)
      → same_systems r c w place ≡ map (behind c.rows) (same_systems r bare w place)
  same_behind r w place = go (w.number == r.number) where
    go : (b : Bool) → cond b (with_rows c (same_rows (reader_place r) place) ∷ []) []
        ≡ map (behind c.rows) (cond b (with_rows bare (same_rows (reader_place r) place) ∷ []) [])
    go true = refl
    go false = refl

  after_behind : (r w : Occurrence) (place : List Form)
      → after_systems r c w place ≡ map (behind c.rows) (after_systems r bare w place)
  after_behind r w place =
      let orders : List (List RowExpr) =
      before_rows r.number r.statement (reader_place r) w.number w.statement place in
      both_behind c.rows (map (with_rows c) orders) (same_systems r c w place) (map (with_rows bare) orders)
      (same_systems r bare w place) (each_behind c.rows (with_rows c) (with_rows bare) (λ order. refl) orders)
      (same_behind r w place)

  heads_behind : (o : ReadAndWrite) (place : List Form)
      → head_systems o place c ≡ map (behind c.rows) (head_systems o place bare)
  heads_behind o place =
      both_behind c.rows (outside_systems c o.write place)
      (cell_systems o.read c o.write place ++ after_systems o.read c o.write place)
      (outside_systems bare o.write place)
      (cell_systems o.read bare o.write place ++ after_systems o.read bare o.write place)
      (outside_behind o.write place)
      (both_behind c.rows (cell_systems o.read c o.write place) (after_systems o.read c o.write place)
      (cell_systems o.read bare o.write place) (after_systems o.read bare o.write place)
      (cells_behind o.read o.write place) (after_behind o.read o.write place))

  -- a write's rows stand between those of the context and those of the order
  write_behind : (r u : Occurrence) (order : List RowExpr)
      → with_rows (with_write_at r c u) order ≡ behind c.rows (with_rows (with_write_at r bare u) order)
  write_behind r u order =
      let own : List RowExpr =
      domain_rows u.statement.rows (writer_place c u)
      ++ cell_rows u.access.subscripts r.access.subscripts (writer_place c u) in
      ap (system (with_write_at r c u).vars) (append_assoc c.rows own order)

  writes_behind : (r : Occurrence) (further : Occurrence → List (List RowExpr)) (u : Occurrence)
      → write_systems r every c further u ≡ map (behind c.rows) (write_systems r every bare further u)
  writes_behind r further u =
      all_behind c.rows (λ (p : List RowExpr). map (λ q. with_rows (with_write_at r c u) (p ++ q)) (further u))
      (λ p. map (λ q. with_rows (with_write_at r bare u) (p ++ q)) (further u))
      (λ p. each_behind c.rows (λ (q : List RowExpr). with_rows (with_write_at r c u) (p ++ q))
      (λ q. with_rows (with_write_at r bare u) (p ++ q)) (λ q. write_behind r u (p ++ q)) (further u))
      (before_rows u.number u.statement (writer_place c u) r.number r.statement (reader_place r))

  pairs_behind : (pairs : List ReadAndWrite) (further : Occurrence → List (List RowExpr))
      → write_systems_of every pairs c further ≡ map (behind c.rows) (write_systems_of every pairs bare further)
  pairs_behind pairs further =
      all_behind c.rows (λ (o : ReadAndWrite). write_systems o.read every c further o.write)
      (λ o. write_systems o.read every bare further o.write) (λ o. writes_behind o.read further o.write) pairs

pub zero_behind : (pairs : List ReadAndWrite) → AreBehind (λ c. write_systems_of every pairs c no_orders)
zero_behind pairs c = pairs_behind c pairs no_orders

pub place_behind : (pairs : List ReadAndWrite) (o : ReadAndWrite) (place : List Form)
    → AreBehind (place_systems every pairs o place)
place_behind pairs o place c =
    let bare : Context = no_rows c.vars in
    both_behind c.rows (head_systems o place c) (write_systems_of every pairs c (orders_behind o.write place c))
    (head_systems o place bare) (write_systems_of every pairs bare (orders_behind o.write place bare))
    (heads_behind c o place) (pairs_behind c pairs (orders_behind o.write place c))

-- Refuted systems

-- rows as they are made, and the one that is away among them
record IsParted (vars : ℕ) (before more : List RowExpr) (rows : List Form) : Type 0 where
  pub front : List Form
  pub row : Form
  pub back : List Form
  pub front_made : row_forms vars before ≡ Some front
  pub back_made : row_forms vars more ≡ Some back
  pub is : rows ≡ front ++ row ∷ back
  pub count : length front ≡ length before

rows_parted : (vars : ℕ) (before more : List RowExpr) (e : RowExpr) (rows : List Form)
    → row_forms vars (before ++ e ∷ more) ≡ Some rows → IsParted vars before more rows
rows_parted vars [] more e rows made =
    option_and_then_some (λ row. option_and_then (λ back. Some (row ∷ back)) (row_forms vars more))
    (row_form vars e) rows made
    (λ row row_is rest. option_and_then_some (λ back. Some (row ∷ back)) (row_forms vars more) rows rest
    (λ back back_is end. record {
      front = [];
      row = row;
      back = back;
      front_made = refl;
      back_made = back_is;
      is = sym (same_Some (row ∷ back) rows end);
      count = refl;
    }))
rows_parted vars (b ∷ before) more e rows made =
    option_and_then_some
    (λ first. option_and_then (λ others. Some (first ∷ others)) (row_forms vars (before ++ e ∷ more)))
    (row_form vars b) rows made
    (λ first first_is rest.
    option_and_then_some (λ others. Some (first ∷ others)) (row_forms vars (before ++ e ∷ more)) rows rest
    (λ others others_is end.
    (let h : IsParted vars before more others = rows_parted vars before more e others others_is in
    record {
      front = first ∷ h.front;
      row = h.row;
      back = h.back;
      front_made =
          ap (option_and_then (λ first. option_and_then (λ others. Some (first ∷ others)) (row_forms vars before)))
          first_is ∙ ap (option_and_then (λ others. Some (first ∷ others))) h.front_made;
      back_made = h.back_made;
      is = sym (same_Some (first ∷ others) rows end) ∙ ap (λ others. first ∷ others) h.is;
      count = ap suc h.count;
    })))

module _ (before after : List RowExpr) (e : RowExpr) where
  abbrev k : ℕ
  k = length before

  one_without : (s : RowSystem) (proof : Proof) → names_row k proof ≡ false
      → IsRefuted (behind (before ++ e ∷ after) s) proof
      → IsRefuted (behind (before ++ after) s) (proof_without k proof)
  one_without s proof none h =
      let more : List RowExpr = after ++ s.rows in
      let made : row_forms s.vars (before ++ e ∷ more) ≡ Some h.rows =
      ap (row_forms s.vars) (sym (append_assoc before (e ∷ after) s.rows)) ∙ h.are_made in
      let p : IsParted s.vars before more h.rows = rows_parted s.vars before more e h.rows made in
      record {
        rows = p.front ++ p.back;
        are_made = ap (row_forms s.vars) (append_assoc before after s.rows)
            ∙ forms_append s.vars before more p.front p.back p.front_made p.back_made;
        refuted = subst (λ n. Refutes s.vars (p.front ++ p.back) (proof_without n proof)) p.count
            (refutes_without s.vars p.front p.row h.rows proof h.refuted p.back p.is
            (ap (λ n. names_row n proof) p.count ∙ none));
      }

  pub systems_without : (systems : List RowSystem) (proofs : List Proof) → proofs_name k proofs ≡ false
      → AreRefuted (map (behind (before ++ e ∷ after)) systems) proofs
      → AreRefuted (map (behind (before ++ after)) systems) (proofs_without k proofs)
  systems_without [] [] none h = tt
  systems_without [] (proof ∷ proofs) none h = absurd h
  systems_without (s ∷ systems) [] none h = absurd h
  systems_without (s ∷ systems) (proof ∷ proofs) none h =
      let n = or_parts (names_row k proof) (proofs_name k proofs) none in
      (one_without s proof n.0 h.0, systems_without systems proofs n.1 h.1)
