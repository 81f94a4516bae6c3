-- The systems of an order, level by level.
--
-- At the outermost level the context has one row more, and at the inner levels the two rows that the values of that
-- loop are equal stand in the context. So the systems of an order are those of one level and then those of the inner
-- order over a larger context; likewise where each level of one order is taken with each level of another.
use Rattle.std.proofs.Common.{◌≡◌, ℕ, zero, suc, List, [], ◌∷◌, ◌++◌, map, Bool, true, false, refl, sym, ap, ◌∙◌}
use Rattle.std.proofs.Common.{append_assoc}
use Rattle.std.specs.Prelude.{Option}
use Rattle.std.specs.List.{flat_map}
use Rattle.std.proofs.lemmas.List.{append-nil}
use Rattle.affine_core.specs.declared.form.Form.{Form}
use Rattle.int_polyhedra.specs.declared.system.System.{System}
use Rattle.source_check.specs.declared.reference.Order.{Order}
use Rattle.source_check.specs.Making.{system_with, below_zero_of, less_of}
use Rattle.source_check.specs.Tests.{made_systems, made_outside, made_differ, earlier_at, made_levels, made_order}
use Rattle.source_check.specs.Tests.{made_both}
use Rattle.source_check.specs.Verdict.{made_system}
use Rattle.source_check.proofs.SystemRows.{system_more, system_all, less_made, below_zero_made}
use Rattle.source_tree.specs.Places.{at_place, differ_rows, order_rows}
use Rattle.source_tree.specs.Rows.{RowExpr, RowSystem, Take, row_form, below_zero, one_less, minus, equal_rows}
use Rattle.source_tree.specs.Systems.{Context, more_rows, with_rows}

-- rows before those of each system, or in the context
in_context : (c : Context) (rows : List RowExpr) (levels : List (List RowExpr))
    → map (with_rows c) (map (λ o. rows ++ o) levels) ≡ map (with_rows (more_rows c rows)) levels
in_context c rows [] = refl
in_context c rows (o ∷ levels) =
    ap (λ (es : List RowExpr). record { vars = c.vars; rows = es } ∷ map (with_rows c) (map (λ o. rows ++ o) levels))
    (sym (append_assoc c.rows rows o))
    ∙ ap (λ rest. with_rows (more_rows c rows) o ∷ rest) (in_context c rows levels)

-- the row that a loop's value is earlier
abbrev pub earlier : Form → Form → RowExpr
earlier a b = one_less (minus (Take b) (Take a))

pub levels_step : (c : Context) (m : ℕ) (less : Bool) (a b : Form) (as_ bs : List Form)
    → map (with_rows c) (order_rows (suc m) less (a ∷ as_) (b ∷ bs))
    ≡ with_rows c (earlier a b ∷ []) ∷ map (with_rows (more_rows c (equal_rows (Take a) (Take b))))
    (order_rows m less as_ bs)
levels_step c m less a b as_ bs =
    ap (λ rest. with_rows c (earlier a b ∷ []) ∷ rest)
    (in_context c (equal_rows (Take a) (Take b)) (order_rows m less as_ bs))

-- each level of one order with each level of another
abbrev pub both_orders : Context → List (List RowExpr) → List (List RowExpr) → List RowSystem
both_orders c ps qs = flat_map (λ p. map (λ q. with_rows c (p ++ q)) qs) ps

one_and_others : (c : Context) (rows : List RowExpr) (qs : List (List RowExpr))
    → map (λ q. with_rows c (rows ++ q)) qs ≡ map (with_rows (more_rows c rows)) qs
one_and_others c rows [] = refl
one_and_others c rows (q ∷ qs) =
    ap (λ (es : List RowExpr). record { vars = c.vars; rows = es } ∷ map (λ q. with_rows c (rows ++ q)) qs)
    (sym (append_assoc c.rows rows q))
    ∙ ap (λ rest. with_rows (more_rows c rows) q ∷ rest) (one_and_others c rows qs)

deeper : (c : Context) (rows p : List RowExpr) (qs : List (List RowExpr))
    → map (λ q. with_rows c ((rows ++ p) ++ q)) qs ≡ map (λ q. with_rows (more_rows c rows) (p ++ q)) qs
deeper c rows p [] = refl
deeper c rows p (q ∷ qs) =
    ap (λ (es : List RowExpr). record { vars = c.vars; rows = es } ∷ map (λ q. with_rows c ((rows ++ p) ++ q)) qs)
    (ap (λ es. c.rows ++ es) (append_assoc rows p q) ∙ sym (append_assoc c.rows rows (p ++ q)))
    ∙ ap (λ rest. with_rows (more_rows c rows) (p ++ q) ∷ rest) (deeper c rows p qs)

both_deeper : (c : Context) (rows : List RowExpr) (ps qs : List (List RowExpr))
    → both_orders c (map (λ o. rows ++ o) ps) qs ≡ both_orders (more_rows c rows) ps qs
both_deeper c rows [] qs = refl
both_deeper c rows (p ∷ ps) qs =
    ap (λ first. first ++ both_orders c (map (λ o. rows ++ o) ps) qs) (deeper c rows p qs)
    ∙ ap (λ rest. map (λ q. with_rows (more_rows c rows) (p ++ q)) qs ++ rest) (both_deeper c rows ps qs)

pub both_step : (c : Context) (m : ℕ) (less : Bool) (a b : Form) (as_ bs : List Form) (qs : List (List RowExpr))
    → both_orders c (order_rows (suc m) less (a ∷ as_) (b ∷ bs)) qs
    ≡ map (with_rows (more_rows c (earlier a b ∷ []))) qs
    ++ both_orders (more_rows c (equal_rows (Take a) (Take b))) (order_rows m less as_ bs) qs
both_step c m less a b as_ bs qs =
    ap (λ first. first ++ both_orders c (map (λ o. equal_rows (Take a) (Take b) ++ o) (order_rows m less as_ bs)) qs)
    (one_and_others c (earlier a b ∷ []) qs)
    ∙ ap (λ rest. map (with_rows (more_rows c (earlier a b ∷ []))) qs ++ rest)
    (both_deeper c (equal_rows (Take a) (Take b)) (order_rows m less as_ bs) qs)

-- the systems of an order, made one after the other
pub levels_is : (c : Context) (m : ℕ) (less : Bool) (a b : List Form)
    → made_systems (map (with_rows c) (order_rows m less a b))
    ≡ made_levels c.vars (made_system c.vars c.rows) m less a b
levels_is c zero true a b = ap (λ rows. made_system c.vars rows ∷ []) (append-nil c.rows)
levels_is c zero false a b = refl
levels_is c (suc m) less [] b = refl
levels_is c (suc m) less (v ∷ a) [] = refl
levels_is c (suc m) less (v ∷ a) (w ∷ b) =
    let one : Option System = made_system c.vars c.rows in
    let inner : Context = more_rows c (equal_rows (Take v) (Take w)) in
    ap made_systems (levels_step c m less v w a b)
    ∙ ap (λ s. s ∷ made_systems (map (with_rows inner) (order_rows m less a b)))
    (sym (system_more c.vars c.rows (earlier v w)) ∙ ap (system_with one) (less_made c.vars (Take v) (Take w)))
    ∙ ap (λ rest. earlier_at c.vars one v w ∷ rest)
    (levels_is inner m less a b
    ∙ ap (λ s. made_levels c.vars s m less a b) (sym (system_all c.vars c.rows (equal_rows (Take v) (Take w)))))

pub made_append : (xs ys : List RowSystem) → made_systems (xs ++ ys) ≡ made_systems xs ++ made_systems ys
made_append [] ys = refl
made_append (x ∷ xs) ys = ap (λ rest. made_system x.vars x.rows ∷ rest) (made_append xs ys)

pub both_is : (c : Context) (m : ℕ) (less : Bool) (a b : List Form) (o : Order)
    → made_systems (both_orders c (order_rows m less a b) (order_rows o.common o.less o.first.now o.second.now))
    ≡ made_both c.vars (made_system c.vars c.rows) m less a b o
both_is c zero true a b o =
    ap made_systems (append-nil (map (with_rows c) (order_rows o.common o.less o.first.now o.second.now)))
    ∙ levels_is c o.common o.less o.first.now o.second.now
both_is c zero false a b o = refl
both_is c (suc m) less [] b o = refl
both_is c (suc m) less (v ∷ a) [] o = refl
both_is c (suc m) less (v ∷ a) (w ∷ b) o =
    let one : Option System = made_system c.vars c.rows in
    let qs : List (List RowExpr) = order_rows o.common o.less o.first.now o.second.now in
    let level : Context = more_rows c (earlier v w ∷ []) in
    let inner : Context = more_rows c (equal_rows (Take v) (Take w)) in
    ap made_systems (both_step c m less v w a b qs)
    ∙ made_append (map (with_rows level) qs) (both_orders inner (order_rows m less a b) qs)
    ∙ ap (λ first. first ++ made_systems (both_orders inner (order_rows m less a b) qs))
    (levels_is level o.common o.less o.first.now o.second.now
    ∙ ap (λ s. made_order c.vars s o)
    (sym (system_more c.vars c.rows (earlier v w)) ∙ ap (system_with one) (less_made c.vars (Take v) (Take w))))
    ∙ ap (λ rest. made_order c.vars (earlier_at c.vars one v w) o ++ rest)
    (both_is inner m less a b o
    ∙ ap (λ s. made_both c.vars s m less a b o) (sym (system_all c.vars c.rows (equal_rows (Take v) (Take w)))))

-- where nothing further is asked
pub none_further : (c : Context) (ps : List (List RowExpr)) → both_orders c ps ([] ∷ []) ≡ map (with_rows c) ps
none_further c [] = refl
none_further c (p ∷ ps) =
    ap (λ (es : List RowExpr). with_rows c es ∷ both_orders c ps ([] ∷ [])) (append-nil p)
    ∙ ap (λ rest. with_rows c p ∷ rest) (none_further c ps)

-- a place outside a domain, and another cell
one_row : (c : Context) (e : RowExpr) (row : Option Form) → row_form c.vars e ≡ row
    → made_system c.vars (c.rows ++ e ∷ []) ≡ system_with (made_system c.vars c.rows) row
one_row c e row is = sym (system_more c.vars c.rows e) ∙ ap (system_with (made_system c.vars c.rows)) is

pub outside_is : (c : Context) (rows place : List Form)
    → made_systems (map (λ row. with_rows c (below_zero (at_place row place) ∷ [])) rows)
    ≡ made_outside c.vars (made_system c.vars c.rows) rows place
outside_is c [] place = refl
outside_is c (row ∷ rows) place =
    let e : RowExpr = at_place row place in
    ap (λ s. s ∷ made_systems (map (λ row. with_rows c (below_zero (at_place row place) ∷ [])) rows))
    (one_row c (below_zero e) (below_zero_of c.vars (row_form c.vars e)) (below_zero_made c.vars e))
    ∙ ap (λ rest. system_with (made_system c.vars c.rows) (below_zero_of c.vars (row_form c.vars e)) ∷ rest)
    (outside_is c rows place)

pub differ_is : (c : Context) (writes reads place : List Form)
    → made_systems (map (λ row. with_rows c (row ∷ [])) (differ_rows writes reads place))
    ≡ made_differ c.vars (made_system c.vars c.rows) writes reads place
differ_is c [] reads place = refl
differ_is c (write ∷ writes) [] place = refl
differ_is c (write ∷ writes) (read ∷ reads) place =
    let one : Option System = made_system c.vars c.rows in
    let at : RowExpr = at_place write place in
    let more : List (Option System) =
    made_systems (map (λ row. with_rows c (row ∷ [])) (differ_rows writes reads place)) in
    let below : Option System = made_system c.vars (c.rows ++ one_less (minus (Take read) at) ∷ []) in
    let above_is =
    one_row c (one_less (minus at (Take read))) (less_of c.vars (row_form c.vars (Take read)) (row_form c.vars at))
    (less_made c.vars (Take read) at) in
    let below_is =
    one_row c (one_less (minus (Take read) at)) (less_of c.vars (row_form c.vars at) (row_form c.vars (Take read)))
    (less_made c.vars at (Take read)) in
    ap (λ s. s ∷ below ∷ more) above_is
    ∙ ap (λ s. system_with one (less_of c.vars (row_form c.vars (Take read)) (row_form c.vars at)) ∷ s ∷ more) below_is
    ∙ ap (λ rest. system_with one (less_of c.vars (row_form c.vars (Take read)) (row_form c.vars at))
    ∷ system_with one (less_of c.vars (row_form c.vars at) (row_form c.vars (Take read))) ∷ rest)
    (differ_is c writes reads place)
