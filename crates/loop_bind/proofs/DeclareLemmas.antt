-- Declarations one after another.
--
-- `Declares` follows the code's table, which keeps the least reason only, beside the declarations of the specification,
-- which keep all. Declaring doesn't look at earlier reasons, it only adds to them (`declare_earlier`); so the next
-- declaration may be read as if none stood yet, and the least of all is that of the earlier ones and then of its own.
-- Thus the loop's invariant, for the first so many declarations, goes on by one (`next_declaration`), up to all of them
-- (`all_declared`).
use Rattle.std.proofs.Common.{◌≡◌, ℕ, ◌+◌, ◌<◌, List, [], ◌∷◌, ◌++◌, length, take, get_or, None, refl, sym, ap, subst}
use Rattle.std.proofs.Common.{◌∙◌, append_assoc, append-nil, ◌≤◌}
use Rattle.std.specs.List.{fold}
use Rattle.std.proofs.lemmas.List.{take_more, take_all}
use Rattle.loop_grammar.specs.declared.tree.Declaration.{Declaration}
use Rattle.loop_grammar.specs.declared.tree.DeclWord.{DeclWord}
use Rattle.loop_grammar.specs.declared.tree.DeclWord.TheVariants.{Param, Input, Output, Both, Var}
use Rattle.loop_grammar.specs.declared.tree.Named.{Named}
use Rattle.loop_bind.specs.declared.declare.Table.{Table}
use Rattle.loop_bind.specs.declared.error.BindError.{BindError}
use Rattle.sanlp.specs.declared.nest.Kind.TheVariants as kind
use Rattle.loop_bind.specs.Names.{value_named}
use Rattle.loop_bind.specs.Parts.{new_name_findings}
use Rattle.loop_bind.specs.Declarations.{Values, Declared, value_findings, array_findings, declare_name, declare}
use Rattle.loop_bind.specs.Declarations.{declared, nothing_declared}
use Rattle.loop_bind.specs.Following.{Declares, Stands, seen}
use Rattle.loop_bind.specs.Reasons.{least_from}
use Rattle.loop_bind.proofs.JudgeLemmas.{least_append}

-- declarations after others in which these reasons stand
abbrev pub with_earlier : List BindError → Declared → Declared
with_earlier fs d = record d { findings = fs ++ d.findings }

module _ (params : Values) (fs : List BindError) where
  name_earlier : (w : DeclWord) (d : Declared) (n : Named)
      → declare_name params w (with_earlier fs d) n ≡ with_earlier fs (declare_name params w d n)
  name_earlier Param d n =
      λ i. record (declare_name params Param d n) {
        findings = append_assoc fs d.findings
            (new_name_findings d.scope n.name ++ value_findings n.name.token (value_named params n.name.text)) i;
      }
  name_earlier Input d n =
      λ i. record (declare_name params Input d n)
      { findings = append_assoc fs d.findings (array_findings d kind.Input n) i }
  name_earlier Output d n =
      λ i. record (declare_name params Output d n)
      { findings = append_assoc fs d.findings (array_findings d kind.Output n) i }
  name_earlier Both d n =
      λ i. record (declare_name params Both d n)
      { findings = append_assoc fs d.findings (array_findings d kind.Both n) i }
  name_earlier Var d n =
      λ i. record (declare_name params Var d n)
      { findings = append_assoc fs d.findings (array_findings d kind.Var n) i }

  names_earlier : (w : DeclWord) (ns : List Named) (d : Declared)
      → fold (declare_name params w) (with_earlier fs d) ns ≡ with_earlier fs (fold (declare_name params w) d ns)
  names_earlier w [] d = refl
  names_earlier w (n ∷ ns) d =
      ap (λ e. fold (declare_name params w) e ns) (name_earlier w d n) ∙ names_earlier w ns (declare_name params w d n)

  pub declare_earlier : (d : Declared) (item : Declaration)
      → declare params (with_earlier fs d) item ≡ with_earlier fs (declare params d item)
  declare_earlier d item = names_earlier item.word item.names d

fold_last : {A B : Type 0} (f : A → B → A) (z : A) (xs : List B) (x : B) → fold f z (xs ++ x ∷ []) ≡ f (fold f z xs) x
fold_last f z [] x = refl
fold_last f z (y ∷ xs) x = fold_last f (f z y) xs x

pub next_declaration : (params : Values) (all : List Declaration) (i : ℕ) (item : Declaration) (t0 t1 t2 : Table)
    → i < length all → item ≡ get_or all i item
    → Declares t0 t1 (fold (declare params) nothing_declared (take i all))
    → Declares t1 t2 (declare params (seen t1) item)
    → Declares t0 t2 (fold (declare params) nothing_declared (take (i + 1) all))
next_declaration params all i item t0 t1 t2 below at first second =
    let d = fold (declare params) nothing_declared (take i all) in
    let more : take (i + 1) all ≡ take i all ++ item ∷ [] =
    take_more all i item below ∙ ap (λ x. take i all ++ x ∷ []) (sym at) in
    let next : fold (declare params) nothing_declared (take (i + 1) all) ≡ declare params d item =
    ap (fold (declare params) nothing_declared) more ∙ fold_last (declare params) nothing_declared (take i all) item in
    let before : d ≡ with_earlier d.findings (seen t1) =
    λ j. record {
      scope = sym first.scope j;
      arrays = sym first.arrays j;
      processes = sym first.processes j;
      findings =
          sym (append-nil d.findings) j;
    } in
    let same : fold (declare params) nothing_declared (take (i + 1) all)
    ≡ with_earlier d.findings (declare params (seen t1) item) =
    next ∙ ap (λ e. declare params e item) before ∙ declare_earlier params d.findings (seen t1) item in
    record {
      scope = second.scope ∙ ap (λ e. e.scope) (sym same);
      arrays = second.arrays ∙ ap (λ e. e.arrays) (sym same);
      processes = second.processes ∙ ap (λ e. e.processes) (sym same);
      least = second.least ∙ ap (λ l. least_from l (declare params (seen t1) item).findings) first.least
          ∙ sym (least_append t0.least d.findings (declare params (seen t1) item).findings)
          ∙ ap (λ e. least_from t0.least e.findings) (sym same);
    }

pub all_declared : (params : Values) (all : List Declaration) (i : ℕ) (t0 t : Table) → length all ≤ i → t0.least ≡ None
    → Declares t0 t (fold (declare params) nothing_declared (take i all)) → Stands t (declared params all)
unfolding declared
all_declared params all i t0 t done none k =
    let h : Declares t0 t (fold (declare params) nothing_declared all) =
    subst (λ xs. Declares t0 t (fold (declare params) nothing_declared xs)) (take_all i all done) k in
    (h.scope, h.arrays, h.least ∙ ap (λ l. least_from l (fold (declare params) nothing_declared all).findings) none)
