-- The declarations of a source: where no reason stands in them, the arrays are those of a nest.
--
-- `GivesArrays` is kept by one declared name that gives no reason: all arrays have names in scope, so a new name, which
-- is in no scope, differs from theirs; their extents are few and limited; and what the scope says of an array is so.
-- The number of processes is that of inputs and outputs together, and no more than 64. Reasons are only added, so where
-- none stands at the end, none stood at any step, and by induction along the declarations the invariant holds of all of
-- them (`declarations_sound`).
use Rattle.std.proofs.Common.{◌≡◌, ◌≤◌, ℕ, ◌+◌, ℤ, pos, List, [], ◌∷◌, ◌++◌, map, length, Bool, true, false}
use Rattle.std.proofs.Common.{cond, not, ◌&&◌, inl, inr, Option, Some, None, is_some, refl, sym, ap, ◌∙◌, arith, subst}
use Rattle.std.specs.Prelude.{IsTrue, nat_lt, nat_le, unwrap_or}
use Rattle.std.specs.List.{list_all, list_any, fold}
use Rattle.std.specs.Str.{bytes_eq}
use Rattle.std.specs.Cmp.Derive.{both_true}
use Rattle.std.proofs.lemmas.Bool.{and_parts, and_cases, or_parts, or_from, not-true, false≢true, le-leb, ltb-false}
use Rattle.std.proofs.lemmas.Bool.{not_from_false}
use Rattle.std.proofs.lemmas.List.{length-append, length-map}
use Rattle.std.proofs.lemmas.Slice.Eq.{bytes_eq-Decides}
use Rattle.sanlp.specs.declared.nest.ArrayDecl.{ArrayDecl}
use Rattle.sanlp.specs.declared.nest.Kind.{Kind}
use Rattle.sanlp.specs.declared.nest.Kind.TheVariants as kind
use Rattle.sanlp.specs.Cells.{is_input, is_output}
use Rattle.sanlp.specs.WellFormed.{all_differ, extents_where, input_extents, output_extents}
use Rattle.sanlp.proofs.Each.{Each, each_append, each_then}
use Rattle.loop_grammar.specs.declared.tree.Declaration.{Declaration}
use Rattle.loop_grammar.specs.declared.tree.DeclWord.{DeclWord}
use Rattle.loop_grammar.specs.declared.tree.DeclWord.TheVariants.{Param, Input, Output, Both, Var}
use Rattle.loop_grammar.specs.declared.tree.Name.{Name}
use Rattle.loop_grammar.specs.declared.tree.Named.{Named}
use Rattle.loop_bind.specs.declared.affine.Affine.{Affine}
use Rattle.loop_bind.specs.declared.error.BindError.{BindError}
use Rattle.loop_bind.specs.declared.error.BindError.TheVariants.{Duplicate, TooManyProcesses, TooDeep}
use Rattle.loop_bind.specs.declared.scope.Place.TheVariants.{Extent}
use Rattle.loop_bind.specs.declared.scope.What.{What}
use Rattle.loop_bind.specs.declared.scope.What.TheVariants.{Parameter, Array, Loop, Progression}
use Rattle.loop_bind.specs.Declarations.{Values, Declared, nothing_declared, declare_parameter, processes_of}
use Rattle.loop_bind.specs.Declarations.{array_findings, extents_of, declare_array, declare_name, declare, declared}
use Rattle.loop_bind.specs.Forms.{is_limited_number}
use Rattle.loop_bind.specs.Judging.{Scope, forms_of, findings_of, judged, form_or_zero}
use Rattle.loop_bind.specs.Names.{value_named, with_name}
use Rattle.loop_bind.specs.Parts.{new_name_findings}
use Rattle.loop_bind.specs.Reasons.{found_if}
use Rattle.loop_class.proofs.NestsSizes.{IsForm}
use Rattle.loop_class.proofs.NestsScope.{HasArray, Known, KnownScope, with_name_known, forms_are}
use Rattle.loop_class.proofs.NestsValues.{none_left, none_right, found_none}
use Rattle.plain_data.proofs.Lists.{slice_get_push, slice_get-append_some}

abbrev pub InScope : Scope → List ℕ → Type 0
InScope scope name = is_some (value_named scope name) ≡ true

-- a name that is in scope stays there
named_before : (scope more : Scope) (name : List ℕ) → InScope scope name → InScope (scope ++ more) name
named_before [] more name h = absurd (cc)
named_before (e ∷ scope) more name h = by_test (bytes_eq name e.0) (named_before scope more name) h where
  by_test : (b : Bool) → (InScope scope name → InScope (scope ++ more) name)
      → is_some (cond b (Some e.1) (value_named scope name)) ≡ true
      → is_some (cond b (Some e.1) (value_named (scope ++ more) name)) ≡ true
  by_test true rest k = refl
  by_test false rest k = rest k

-- a name that was added is in scope
named_last : (scope : Scope) (name : List ℕ) (what : What) → InScope (scope ++ (name, what) ∷ []) name
named_last [] name what =
    ap (λ b. is_some (cond {A = Option What} b (Some what) None)) ((bytes_eq-Decides name name).1 refl)
named_last (e ∷ scope) name what = by_test (bytes_eq name e.0) (named_last scope name what) where
  by_test : (b : Bool) → InScope (scope ++ (name, what) ∷ []) name
      → is_some (cond b (Some e.1) (value_named (scope ++ (name, what) ∷ []) name)) ≡ true
  by_test true rest = refl
  by_test false rest = rest

with_name_keeps : (scope : Scope) (name other : List ℕ) (what : What) → InScope scope name
    → InScope (with_name scope other what) name
with_name_keeps scope name other what h = by_test (is_some (value_named scope other)) where
  by_test : (b : Bool) → InScope (cond b scope (scope ++ (other, what) ∷ [])) name
  by_test true = h
  by_test false = named_before scope ((other, what) ∷ []) name h

with_name_has : (scope : Scope) (name : List ℕ) (what : What) → InScope (with_name scope name what) name
with_name_has scope name what = by_test (is_some (value_named scope name)) refl where
  by_test : (b : Bool) → is_some (value_named scope name) ≡ b → InScope (cond b scope (scope ++ (name, what) ∷ [])) name
  by_test true e = e
  by_test false e = named_last scope name what

-- names in scope, and one that isn't
none_same : (scope : Scope) (arrays : List ArrayDecl) (name : List ℕ) → is_some (value_named scope name) ≡ false
    → Each (λ array. InScope scope array.name) arrays → Each (λ array. bytes_eq array.name name ≡ false) arrays
none_same scope arrays name new h =
    each_then (λ array. InScope scope array.name) (λ array. bytes_eq array.name name ≡ false) arrays one h where
      one : (array : ArrayDecl) → InScope scope array.name → bytes_eq array.name name ≡ false
      one array k = by_test (bytes_eq array.name name) refl where
        by_test : (b : Bool) → bytes_eq array.name name ≡ b → b ≡ false
        by_test true e =
            let same =
            (bytes_eq-Decides array.name name).0 e in absurd
            (false≢true (sym (subst (λ n. is_some (value_named scope n) ≡ false) (sym same) new) ∙ k))
        by_test false e = refl

none_append : (test : List ℕ → Bool) (arrays : List ArrayDecl) (new : ArrayDecl)
    → list_any test (map (λ array. array.name) arrays) ≡ false → test new.name ≡ false
    → list_any test (map (λ array. array.name) (arrays ++ new ∷ [])) ≡ false
none_append test [] new h k = or_from (test new.name) false k refl
none_append test (array ∷ arrays) new h k =
    let parts = or_parts (test array.name) (list_any test (map (λ a. a.name) arrays)) h in
    or_from (test array.name) (list_any test (map (λ a. a.name) (arrays ++ new ∷ []))) parts.0
    (none_append test arrays new parts.1 k)

differ_append : (arrays : List ArrayDecl) (new : ArrayDecl)
    → Each (λ array. bytes_eq array.name new.name ≡ false) arrays
    → IsTrue (all_differ (map (λ array. array.name) arrays))
    → IsTrue (all_differ (map (λ array. array.name) (arrays ++ new ∷ [])))
differ_append [] new each h = refl
differ_append (array ∷ arrays) new each h =
    let parts =
    and_parts (not (list_any (bytes_eq array.name) (map (λ a. a.name) arrays)))
    (all_differ (map (λ a. a.name) arrays)) h in
    both_true
    (not_from_false _ (none_append (bytes_eq array.name) arrays new (not-true _ parts.0) each.0))
    (differ_append arrays new each.1 parts.1)

has_before : (arrays more : List ArrayDecl) (number extents : ℕ) → HasArray arrays number extents
    → HasArray (arrays ++ more) number extents
has_before arrays more number extents h =
    record { array = h.array; found = slice_get-append_some arrays more number h.array h.found; count = h.count }

known_before : (arrays more : List ArrayDecl) (d : ℕ) (scope : Scope) → KnownScope arrays d scope
    → KnownScope (arrays ++ more) d scope
known_before arrays more d scope h =
    each_then (λ e. Known arrays d e.1) (λ e. Known (arrays ++ more) d e.1) scope (λ e k. one e.1 k) h where
      one : (what : What) → Known arrays d what → Known (arrays ++ more) d what
      one (Parameter v) k = tt
      one (Array number extents) k = has_before arrays more number extents k
      one (Loop v) k = k
      one (Progression f) k = k

pub where-append : (passes : ArrayDecl → Bool) (xs ys : List ArrayDecl)
    → extents_where passes (xs ++ ys) ≡ extents_where passes xs ++ extents_where passes ys
where-append passes [] ys = refl
where-append passes (x ∷ xs) ys = by_test (passes x) (where-append passes xs ys) where
  by_test : (b : Bool) → extents_where passes (xs ++ ys) ≡ extents_where passes xs ++ extents_where passes ys
      → cond b (x.extents ∷ extents_where passes (xs ++ ys)) (extents_where passes (xs ++ ys))
      ≡ cond b (x.extents ∷ extents_where passes xs) (extents_where passes xs) ++ extents_where passes ys
  by_test true rest = ap (λ l. x.extents ∷ l) rest
  by_test false rest = rest

-- an array has few extents, and they are limited
pub record FewExtents (array : ArrayDecl) : Type 0 where
  pub few : length array.extents ≤ 6
  pub limited : IsTrue (list_all is_limited_number array.extents)

-- what declarations without a reason give
pub record GivesArrays (d : Declared) : Type 0 where
  pub scope : KnownScope d.arrays 0 d.scope
  pub names : Each (λ array. InScope d.scope array.name) d.arrays
  pub differ : IsTrue (all_differ (map (λ array. array.name) d.arrays))
  pub extents : Each FewExtents d.arrays
  pub processes : d.processes ≡ length (input_extents d.arrays) + length (output_extents d.arrays)
  pub few : d.processes ≤ 64

parameter_keeps : (params : Values) (d : Declared) (name : Name) → GivesArrays d
    → GivesArrays (declare_parameter params d name)
parameter_keeps params d name h =
    let what : What = Parameter (unwrap_or (value_named params name.text) (pos 0)) in
    record {
      scope = with_name_known d.arrays 0 d.scope name.text what h.scope tt;
      names = each_then (λ array. InScope d.scope array.name)
          (λ array. InScope (with_name d.scope name.text what) array.name) d.arrays
          (λ array k. with_name_keeps d.scope array.name name.text what k) h.names;
      differ = h.differ;
      extents = h.extents;
      processes = h.processes;
      few = h.few;
    }

limited_constants : (fs : List Affine) → Each (IsForm 0) fs
    → IsTrue (list_all is_limited_number (map (λ f. f.constant) fs))
limited_constants [] h = refl
limited_constants (f ∷ fs) h =
    both_true (and_parts (is_limited_number f.constant) _ h.0.limited).0 (limited_constants fs h.1)

count_in : (k : Kind) (name : List ℕ) (extents : List ℤ)
    → length (input_extents (record { name = name; kind = k; extents = extents } ∷ [])) + length
    (output_extents (record { name = name; kind = k; extents = extents } ∷ [])) ≡ processes_of k
count_in kind.Input name extents = omega arith
count_in kind.Output name extents = omega arith
count_in kind.Both name extents = omega arith
count_in kind.Var name extents = omega arith

room_left : (m n : ℕ) → m ≤ 64 → (nat_le m 64 && nat_lt 64 n) ≡ false → n ≤ 64
room_left m n h e = elim (and_cases (nat_le m 64) (nat_lt 64 n) e) [
  | inl l ↦ absurd (false≢true (sym l ∙ le-leb m 64 h))
  | inr r ↦ ltb-false 64 n r
]

array_keeps : (k : Kind) (d : Declared) (array : Named) → GivesArrays d → array_findings d k array ≡ []
    → GivesArrays (declare_array k d array)
array_keeps k d array h none =
    let name : List ℕ = array.name.text in
    let new : ArrayDecl = record { name = name; kind = k; extents = extents_of d.scope array.extents } in
    let what : What = Array (length d.arrays) (length array.extents) in
    let scope : Scope = with_name d.scope name what in
    let p : List BindError = new_name_findings d.scope array.name in
    let many : Bool = nat_le d.processes 64 && nat_lt 64 (d.processes + processes_of k) in
    let deep : Bool = nat_lt 6 (length array.extents) in
    let q : List BindError = found_if many (TooManyProcesses array.name.token) in
    let r : List BindError = found_if deep (TooDeep array.name.token) in
    let none_pqr : p ++ q ++ r ≡ [] = none_left (p ++ q ++ r) (findings_of Extent d.scope array.extents) none in
    let none_pq : p ++ q ≡ [] = none_left (p ++ q) r none_pqr in
    let is_new : is_some (value_named d.scope name) ≡ false =
    found_none (is_some (value_named d.scope name)) (Duplicate array.name.token) (none_left p q none_pq) in
    let few : length array.extents ≤ 6 =
    ltb-false 6 (length array.extents) (found_none deep (TooDeep array.name.token) (none_right (p ++ q) r none_pqr)) in
    let not_many : many ≡ false = found_none many (TooManyProcesses array.name.token) (none_right p q none_pq) in
    let room : d.processes + processes_of k ≤ 64 =
    room_left d.processes (d.processes + processes_of k) h.few not_many in
    let count : length (extents_of d.scope array.extents) ≡ length array.extents =
    length-map (forms_of Extent d.scope array.extents) (λ f. f.constant)
    ∙ length-map array.extents (λ o. form_or_zero (judged Extent d.scope o)) in
    record {
      scope = with_name_known (d.arrays ++ new ∷ []) 0 d.scope name what
          (known_before d.arrays (new ∷ []) 0 d.scope h.scope)
          (record { array = new; found = slice_get_push d.arrays new; count = count });
      names = each_append (λ a. InScope scope a.name) d.arrays (new ∷ [])
          (each_then (λ a. InScope d.scope a.name) (λ a. InScope scope a.name) d.arrays
          (λ a j. with_name_keeps d.scope a.name name what j) h.names)
          (with_name_has d.scope name what, tt);
      differ = differ_append d.arrays new (none_same d.scope d.arrays name is_new h.names) h.differ;
      extents = each_append FewExtents d.arrays (new ∷ []) h.extents (
        record {
          few = omega (arith, count, few);
          limited = limited_constants (forms_of Extent d.scope array.extents)
              (forms_are d.arrays 0 d.scope h.scope Extent array.extents);
        },
        tt,
      );
      processes = omega (
        arith,
        h.processes,
        count_in k name (extents_of d.scope array.extents),
        ap length (where-append (λ a. is_input a.kind) d.arrays (new ∷ [])),
        length-append (input_extents d.arrays) (input_extents (new ∷ [])),
        ap length (where-append (λ a. is_output a.kind) d.arrays (new ∷ [])),
        length-append (output_extents d.arrays) (output_extents (new ∷ [])),
      );
      few = room;
    }

-- one step after another keeps what each step keeps
fold_keeps : {A B : Type 0} (P : B → Type 0) (step : B → A → B) → ((b : B) (x : A) → P b → P (step b x))
    → (b : B) (xs : List A) → P b → P (fold step b xs)
fold_keeps P step keeps b [] h = h
fold_keeps P step keeps b (x ∷ xs) h = fold_keeps P step keeps (step b x) xs (keeps b x h)

abbrev Sound : Declared → Type 0
Sound d = d.findings ≡ [] → GivesArrays d

name_sound : (params : Values) (word : DeclWord) (d : Declared) (named : Named) → Sound d
    → Sound (declare_name params word d named)
name_sound params Param d named h none = parameter_keeps params d named.name (h (none_left d.findings _ none))
name_sound params Input d named h none =
    array_keeps kind.Input d named (h (none_left d.findings (array_findings d kind.Input named) none))
    (none_right d.findings _ none)
name_sound params Output d named h none =
    array_keeps kind.Output d named (h (none_left d.findings (array_findings d kind.Output named) none))
    (none_right d.findings _ none)
name_sound params Both d named h none =
    array_keeps kind.Both d named (h (none_left d.findings (array_findings d kind.Both named) none))
    (none_right d.findings _ none)
name_sound params Var d named h none =
    array_keeps kind.Var d named (h (none_left d.findings (array_findings d kind.Var named) none))
    (none_right d.findings _ none)

pub declarations_sound : (params : Values) (declarations : List Declaration)
    → (declared params declarations).findings ≡ [] → GivesArrays (declared params declarations)
unfolding declared
declarations_sound params declarations =
    fold_keeps Sound (declare params)
    (λ d declaration h.
    fold_keeps Sound (declare_name params declaration.word)
    (name_sound params declaration.word) d declaration.names h) nothing_declared declarations
    (λ none. record { scope = tt; names = tt; differ = refl; extents = tt; processes = omega arith; few = omega arith })
