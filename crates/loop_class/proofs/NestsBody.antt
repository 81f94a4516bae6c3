-- The loops, the places of statements and the forms of parts of a body.
--
-- Three things are said of parts: from which number to which their loops are numbered (`Numbered`), where their
-- statements stand, and whether their forms fit the loops round them. For each it is shown what a loop, a guard and an
-- assignment make of it, and that lists one behind the other have it where the second begins at the numbers at which
-- the first ends.
use Rattle.std.proofs.Common.{◌≡◌, ◌<◌, ℕ, suc, ◌+◌, ℤ, List, [], ◌∷◌, ◌++◌, map, length, Bool, refl, sym, ap, ◌∙◌}
use Rattle.std.proofs.Common.{arith}
use Rattle.std.specs.Prelude.{IsTrue}
use Rattle.std.specs.List.{list_all, flat_map, range_with_len}
use Rattle.std.specs.Cmp.Derive.{both_true}
use Rattle.std.proofs.lemmas.Bool.{lt-ltb, and_parts}
use Rattle.std.proofs.lemmas.List.{append-nil, map-append}
use Rattle.std.proofs.lemmas.List.Concat.{flat_map-append}
use Rattle.affine_core.specs.declared.form.Form.{Form}
use Rattle.affine_core.specs.Affine.{widened_form}
use Rattle.sanlp.specs.declared.nest.Node.{Node}
use Rattle.sanlp.specs.declared.nest.Node as node
use Rattle.sanlp.specs.declared.nest.Statement.{Statement}
use Rattle.sanlp.specs.WellFormed.{form_fits, forms_fit_step, forms_fit, all_forms_fit, loops_step, loops_of, all_loops}
use Rattle.sanlp.specs.WellFormed.{step_fits, bound_rows, places_of, all_places, said_from}
use Rattle.sanlp.proofs.Domains.{places_loop, places_guard, places_assign}
use Rattle.sanlp.proofs.Folds.{fold_loop, fold_guard, fold_assign, fold_loop_at, fold_guard_at, fold_assign_at}
use Rattle.sanlp.proofs.Lists.{range_with_len-append}

-- the loops of parts are numbered from one number up to another
pub record Numbered (first next : ℕ) (parts : List Node) : Type 0 where
  pub count : ℕ
  pub loops : all_loops parts ≡ range_with_len first count
  pub ends : next ≡ first + count

pub loops-append : (xs ys : List Node) → all_loops (xs ++ ys) ≡ all_loops xs ++ all_loops ys
loops-append xs ys =
    ap (flat_map (λ part. part)) (map-append loops_of xs ys)
    ∙ flat_map-append (λ part. part) (map loops_of xs) (map loops_of ys)

pub numbered_none : (first : ℕ) → Numbered first first []
numbered_none first = record { count = 0; loops = refl; ends = omega arith }

pub numbered_append : (first middle next : ℕ) (xs ys : List Node) → Numbered first middle xs → Numbered middle next ys
    → Numbered first next (xs ++ ys)
numbered_append first middle next xs ys h k = record {
  count = h.count + k.count;
  loops = loops-append xs ys ∙ (λ i. h.loops i ++ k.loops i)
      ∙ ap (λ m. range_with_len first h.count ++ range_with_len m k.count) h.ends
      ∙ sym (range_with_len-append first h.count k.count);
  ends = omega (arith, h.ends, k.ends);
}

module _ (lower upper : List Form) (step : ℤ) (parts : List Node) where
  pub numbered_loop : (first next : ℕ) → Numbered (first + 1) next parts
      → Numbered first next (node.Loop first lower upper step parts ∷ [])
  numbered_loop first next h = record {
    count = suc h.count;
    loops = append-nil (loops_of (node.Loop first lower upper step parts))
        ∙ fold_loop (List ℕ) loops_step first lower upper step parts ∙ ap (λ ks. first ∷ ks) h.loops;
    ends = omega (arith, h.ends);
  }

  pub loop_places : (id : ℕ) (loops : List ℕ) (rows : List Form)
      → all_places (node.Loop id lower upper step parts ∷ []) loops rows
      ≡ all_places parts (loops ++ id ∷ []) (rows ++ bound_rows (length loops) lower upper step)
  loop_places id loops rows =
      append-nil (places_of (node.Loop id lower upper step parts) loops rows)
      ∙ places_loop id lower upper step parts loops rows

  pub loop_fits : (id d : ℕ) → d < 6 → 0 < length lower → 0 < length upper → IsTrue (list_all (form_fits d) lower)
      → IsTrue (list_all (form_fits d) upper)
      → IsTrue (step_fits lower step) → IsTrue (all_forms_fit parts (d + 1))
      → IsTrue (all_forms_fit (node.Loop id lower upper step parts ∷ []) d)
  loop_fits id d room some_lower some_upper lower_fit upper_fit step_fit inside =
      both_true (fold_loop_at ℕ Bool forms_fit_step id lower upper step parts d
      ∙ both_true (both_true
      (both_true (both_true
      (both_true (both_true (lt-ltb d 6 room) (lt-ltb 0 (length lower) some_lower))
      (lt-ltb 0 (length upper) some_upper)) lower_fit) upper_fit) step_fit) inside)
      refl

module _ (rows : List Form) (parts : List Node) where
  pub numbered_guard : (first next : ℕ) → Numbered first next parts → Numbered first next (node.Guard rows parts ∷ [])
  numbered_guard first next h = record {
    count = h.count;
    loops = append-nil (loops_of (node.Guard rows parts)) ∙ fold_guard (List ℕ) loops_step rows parts ∙ h.loops;
    ends = h.ends;
  }

  pub guard_places : (loops : List ℕ) (outer : List Form)
      → all_places (node.Guard rows parts ∷ []) loops outer ≡ all_places parts loops (outer ++ rows)
  guard_places loops outer =
      append-nil (places_of (node.Guard rows parts) loops outer) ∙ places_guard rows parts loops outer

  pub guard_fits : (d : ℕ) → IsTrue (list_all (form_fits d) rows) → IsTrue (all_forms_fit parts d)
      → IsTrue (all_forms_fit (node.Guard rows parts ∷ []) d)
  guard_fits d rows_fit inside =
      both_true (fold_guard_at ℕ Bool forms_fit_step rows parts d ∙ both_true rows_fit inside) refl

module _ (s : ℕ) where
  pub numbered_assign : (first : ℕ) → Numbered first first (node.Assign s ∷ [])
  numbered_assign first = record {
    count = 0;
    loops = append-nil (loops_of (node.Assign s)) ∙ fold_assign (List ℕ) loops_step s;
    ends = omega arith;
  }

  pub assign_places : (loops : List ℕ) (rows : List Form)
      → all_places (node.Assign s ∷ []) loops rows
      ≡ record { statement = s; loops = loops; rows = map (widened_form (length loops)) rows } ∷ []
  assign_places loops rows = append-nil (places_of (node.Assign s) loops rows) ∙ places_assign s loops rows

  pub assign_fits : (d : ℕ) → IsTrue (all_forms_fit (node.Assign s ∷ []) d)
  assign_fits d = both_true (fold_assign_at ℕ Bool forms_fit_step s d) refl

pub places-append : (xs ys : List Node) (loops : List ℕ) (rows : List Form)
    → all_places (xs ++ ys) loops rows ≡ all_places xs loops rows ++ all_places ys loops rows
places-append xs ys loops rows =
    ap (λ parts. flat_map (λ part. part loops rows) parts) (map-append places_of xs ys)
    ∙ flat_map-append (λ part. part loops rows) (map places_of xs) (map places_of ys)

pub said-append : (k : ℕ) (xs ys : List Statement)
    → said_from k (xs ++ ys) ≡ said_from k xs ++ said_from (k + length xs) ys
said-append k [] ys = let e : k ≡ k + 0 = omega arith in ap (λ m. said_from m ys) e
said-append k (x ∷ xs) ys =
    let e : k + 1 + length xs ≡ k + suc (length xs) = omega arith in
    ap (λ ps. record { statement = k; loops = x.loops; rows = x.rows } ∷ ps)
    (said-append (k + 1) xs ys ∙ ap (λ m. said_from (k + 1) xs ++ said_from m ys) e)

pub placed_append : (loops : List ℕ) (rows : List Form) (k : ℕ) (xs ys : List Node) (ss ts : List Statement)
    → all_places xs loops rows ≡ said_from k ss → all_places ys loops rows ≡ said_from (k + length ss) ts
    → all_places (xs ++ ys) loops rows ≡ said_from k (ss ++ ts)
placed_append loops rows k xs ys ss ts h j =
    places-append xs ys loops rows ∙ (λ i. h i ++ j i) ∙ sym (said-append k ss ts)

pub fit_append : (d : ℕ) (xs ys : List Node) → IsTrue (all_forms_fit xs d) → IsTrue (all_forms_fit ys d)
    → IsTrue (all_forms_fit (xs ++ ys) d)
fit_append d [] ys h k = k
fit_append d (x ∷ xs) ys h k =
    let parts = and_parts (forms_fit x d) (all_forms_fit xs d) h in
    both_true parts.0 (fit_append d xs ys parts.1 k)
