-- The systems that the code makes are those of a leaf.
--
-- The code holds the system of a context, made or not, and adds rows to it; a leaf's systems are lists of rows. What is
-- made of the context's rows and then of more rows is what is made of all of them. So the tests of an order, of each
-- level of two orders, of the writes of the statements and of the parts of a Writer leaf, one after the other, are the
-- tests of the leaf's systems in their order. It isn't said here which context and which places the code has.
use Rattle.std.proofs.Common.{◌≡◌, ◌+◌, ℕ, List, [], ◌∷◌, ◌++◌, length, map, Bool, cond, refl, sym, ap}
use Rattle.std.proofs.Common.{◌∙◌, append_assoc, ne_eqb}
use Rattle.std.specs.Prelude.{Option, Some, None, nat_lt}
use Rattle.std.specs.List.{flat_map}
use Rattle.std.proofs.lemmas.Bool.{eq-eqb}
use Rattle.affine_core.specs.declared.form.Form.{Form}
use Rattle.int_polyhedra.specs.declared.system.System.{System}
use Rattle.sanlp.specs.declared.nest.Nest.{Nest}
use Rattle.sanlp.specs.declared.nest.Statement.{Statement}
use Rattle.sanlp.specs.Order.{common_loops}
use Rattle.source_check.specs.declared.reference.Order.{Order}
use Rattle.source_check.specs.declared.tested.Leaf.{Leaf}
use Rattle.source_check.specs.declared.tested.Tested.{Tested}
use Rattle.source_check.specs.Making.{forms_of, system_with_all}
use Rattle.source_check.specs.Paths.{map_systems}
use Rattle.source_check.specs.Tests.{after_one, after_all, made_systems, made_outside, made_differ, made_levels}
use Rattle.source_check.specs.Tests.{made_order, made_both}
use Rattle.source_check.specs.Verdict.{made_system}
use Rattle.source_check.proofs.Levels.{levels_is, both_is, both_orders, none_further, outside_is, differ_is}
use Rattle.source_check.proofs.SystemRows.{system_all}
use Rattle.source_check.proofs.Outcomes.{tests_append}
use Rattle.source_tree.specs.Places.{before_rows, order_rows, same_rows}
use Rattle.source_tree.specs.Rows.{RowExpr, RowSystem}
use Rattle.source_tree.specs.Systems.{Occurrence, Context, every, write_to, with_write, writes_from, with_rows}
use Rattle.source_tree.specs.Systems.{with_write_at, writer_place, reader_place, write_systems, outside_systems}
use Rattle.source_tree.specs.Systems.{cell_systems, same_systems, after_systems, between_systems, writer_systems}

-- the parts of an order, where they are those of two places
pub record OrderIs (o : Order) (m : ℕ) (less : Bool) (a b : List Form) : Type 0 where
  pub common : o.common ≡ m
  pub less_is : o.less ≡ less
  pub first : o.first.now ≡ a
  pub second : o.second.now ≡ b

pub order_is : (vars : ℕ) (c : Context) (system : Option System) (o : Order) (m : ℕ) (less : Bool) (a b : List Form)
    → vars ≡ c.vars → system ≡ made_system c.vars c.rows
    → OrderIs o m less a b → made_order vars system o ≡ made_systems (map (with_rows c) (order_rows m less a b))
order_is vars c system o m less a b vars_is is h =
    ap (λ v. made_levels v system o.common o.less o.first.now o.second.now) vars_is
    ∙ ap (λ s. made_levels c.vars s o.common o.less o.first.now o.second.now) is
    ∙ ap (λ m. made_levels c.vars (made_system c.vars c.rows) m o.less o.first.now o.second.now) h.common
    ∙ ap (λ l. made_levels c.vars (made_system c.vars c.rows) m l o.first.now o.second.now) h.less_is
    ∙ ap (λ a. made_levels c.vars (made_system c.vars c.rows) m less a o.second.now) h.first
    ∙ ap (made_levels c.vars (made_system c.vars c.rows) m less a) h.second
    ∙ sym (levels_is c m less a b)

both_orders_are : (vars : ℕ) (c : Context) (system : Option System) (o f : Order) (m k : ℕ) (less less' : Bool)
    (a b x y : List Form) → vars ≡ c.vars → system ≡ made_system c.vars c.rows
    → OrderIs o m less a b → OrderIs f k less' x y
    → made_both vars system o.common o.less o.first.now o.second.now f
    ≡ made_systems (both_orders c (order_rows m less a b) (order_rows k less' x y))
both_orders_are vars c system o f m k less less' a b x y vars_is is h g =
    ap (λ v. made_both v system o.common o.less o.first.now o.second.now f) vars_is
    ∙ ap (λ s. made_both c.vars s o.common o.less o.first.now o.second.now f) is
    ∙ ap (λ m. made_both c.vars (made_system c.vars c.rows) m o.less o.first.now o.second.now f) h.common
    ∙ ap (λ l. made_both c.vars (made_system c.vars c.rows) m l o.first.now o.second.now f) h.less_is
    ∙ ap (λ a. made_both c.vars (made_system c.vars c.rows) m less a o.second.now f) h.first
    ∙ ap (λ b. made_both c.vars (made_system c.vars c.rows) m less a b f) h.second
    ∙ sym (both_is c m less a b f)
    ∙ ap (λ k. made_systems
    (both_orders c (order_rows m less a b) (order_rows k f.less f.first.now f.second.now))) g.common
    ∙ ap (λ l. made_systems (both_orders c (order_rows m less a b) (order_rows k l f.first.now f.second.now))) g.less_is
    ∙ ap (λ x. made_systems (both_orders c (order_rows m less a b) (order_rows k less' x f.second.now))) g.first
    ∙ ap (λ y. made_systems (both_orders c (order_rows m less a b) (order_rows k less' x y))) g.second

-- the systems of a write
abbrev pub IsBefore : Order → Occurrence → List Form → Occurrence → List Form → Type 0
IsBefore o u a s b = OrderIs o (common_loops u.statement.loops s.statement.loops) (nat_lt u.number s.number) a b

module _ (r : Occurrence) (c : Context) (u : Occurrence) where
  pub write_alone : (vars : ℕ) (system : Option System) (o : Order) → vars ≡ c.vars + length u.statement.loops
      → system ≡ made_system (c.vars + length u.statement.loops) (with_write_at r c u).rows
      → IsBefore o u (writer_place c u) r (reader_place r)
      → made_order vars system o ≡ made_systems (write_systems r every c (λ u. [] ∷ []) u)
  write_alone vars system o vars_is is h =
      order_is vars (with_write_at r c u) system o _ _ _ _ vars_is is h
      ∙ ap made_systems
      (sym (none_further (with_write_at r c u)
      (before_rows u.number u.statement (writer_place c u) r.number r.statement (reader_place r))))

  pub write_between : (w : Occurrence) (place : List Form) (vars : ℕ) (system : Option System) (o f : Order)
      → vars ≡ c.vars + length u.statement.loops
      → system ≡ made_system (c.vars + length u.statement.loops) (with_write_at r c u).rows
      → IsBefore o u (writer_place c u) r (reader_place r) → IsBefore f w place u (writer_place c u)
      → made_both vars system o.common o.less o.first.now o.second.now f
      ≡ made_systems
      (write_systems r every c
      (λ u. before_rows w.number w.statement place u.number u.statement (writer_place c u)) u)
  write_between w place vars system o f vars_is is h g =
      both_orders_are vars (with_write_at r c u) system o f _ _ _ _ _ _ _ _ vars_is is h g

-- the systems of the writes of statements, one after the other
module _ (leaf : Leaf) (systems : Occurrence → List RowSystem) (array number : ℕ) (s : Statement)
    (statements all : List Statement)
    (first : all ≡ s ∷ statements) (t : Tested) where
  pub no_write : (end : Tested) → write_to array number s ≡ None
      → end ≡ after_all leaf t (made_systems (flat_map systems (writes_from array (number + 1) statements)))
      → end ≡ after_all leaf t (made_systems (flat_map systems (writes_from array number all)))
  no_write end is end_is =
      end_is ∙ ap (λ o.
      after_all leaf t (made_systems (flat_map systems (with_write o (writes_from array (number + 1) statements)))))
      (sym is)
      ∙ ap (λ all. after_all leaf t (made_systems (flat_map systems (writes_from array number all)))) (sym first)

  pub one_write : (w : Occurrence) (next end : Tested) → write_to array number s ≡ Some w
      → next ≡ after_all leaf t (made_systems (systems w))
      → end ≡ after_all leaf next (made_systems (flat_map systems (writes_from array (number + 1) statements)))
      → end ≡ after_all leaf t (made_systems (flat_map systems (writes_from array number all)))
  one_write w next end is next_is end_is =
      let rest : List RowSystem = flat_map systems (writes_from array (number + 1) statements) in
      end_is ∙ ap (λ t. after_all leaf t (made_systems rest)) next_is ∙ sym (tests_append leaf t (systems w) rest)
      ∙ ap (λ o. after_all leaf t
      (made_systems (flat_map systems (with_write o (writes_from array (number + 1) statements))))) (sym is)
      ∙ ap (λ all. after_all leaf t (made_systems (flat_map systems (writes_from array number all)))) (sym first)

-- the systems of a Writer leaf
module _ (leaf : Leaf) (r : Occurrence) (c : Context) (w : Occurrence) (place : List Form) (system : Option System)
    (is : system ≡ made_system c.vars c.rows) (o : Order)
    (order : IsBefore o r (reader_place r) w place) (t first second third : Tested)
    (first_is : first ≡ after_all leaf t (made_outside c.vars system w.statement.rows place))
    (second_is : second
    ≡ after_all leaf first (made_differ c.vars system w.access.subscripts r.access.subscripts place))
    (third_is : third ≡ after_all leaf second (made_order c.vars system o)) where
  abbrev levels : List RowSystem
  levels = map (with_rows c) (before_rows r.number r.statement (reader_place r) w.number w.statement place)

  pub map_tests : (end : Tested) → end ≡ after_all leaf third (made_systems (same_systems r c w place))
      → end ≡ after_all leaf t (made_systems (map_systems r c w place))
  map_tests end end_is =
      let same : List RowSystem = same_systems r c w place in
      end_is
      ∙ ap (λ t. after_all leaf t (made_systems same))
      (third_is ∙ ap (after_all leaf second) (order_is c.vars c system o _ _ _ _ refl is order))
      ∙ sym (tests_append leaf second levels same)
      ∙ ap (λ t. after_all leaf t (made_systems (levels ++ same)))
      (second_is ∙ ap (after_all leaf first)
      (ap (λ s. made_differ c.vars s w.access.subscripts r.access.subscripts place) is
      ∙ sym (differ_is c w.access.subscripts r.access.subscripts place)))
      ∙ sym (tests_append leaf first (cell_systems r c w place) (levels ++ same))
      ∙ ap (λ t. after_all leaf t (made_systems (cell_systems r c w place ++ (levels ++ same))))
      (first_is ∙ ap (after_all leaf t)
      (ap (λ s. made_outside c.vars s w.statement.rows place) is ∙ sym (outside_is c w.statement.rows place)))
      ∙ sym (tests_append leaf t (outside_systems c w place) (cell_systems r c w place ++ (levels ++ same)))

  pub map_other : (w.number ≡ r.number → ⊥) → third ≡ after_all leaf t (made_systems (map_systems r c w place))
  map_other differ =
      map_tests third
      (ap (λ b. after_all leaf third (made_systems (cond b (with_rows c (same_rows (reader_place r) place) ∷ []) [])))
      (sym (ne_eqb w.number r.number differ)))

  pub map_same : (end : Tested) → w.number ≡ r.number
      → end ≡ after_one leaf third (system_with_all system (forms_of c.vars (same_rows (reader_place r) place)))
      → end ≡ after_all leaf t (made_systems (map_systems r c w place))
  map_same end same end_is =
      let rows : List RowExpr = same_rows (reader_place r) place in
      map_tests end
      (end_is ∙ ap (after_one leaf third)
      (ap (λ s. system_with_all s (forms_of c.vars rows)) is ∙ system_all c.vars c.rows rows)
      ∙ ap (λ b. after_all leaf third (made_systems (cond b (with_rows c rows ∷ []) [])))
      (sym (eq-eqb w.number r.number same)))

pub all_parts : (n : Nest) (r w : Occurrence) (c : Context) (place : List Form) (leaf : Leaf) (t next end : Tested)
    → next ≡ after_all leaf t (made_systems (map_systems r c w place))
    → end ≡ after_all leaf next (made_systems (between_systems n r every c w place))
    → end ≡ after_all leaf t (made_systems (writer_systems n r every c w place))
all_parts n r w c place leaf t next end next_is end_is =
    let outside : List RowSystem = outside_systems c w place in
    let cell : List RowSystem = cell_systems r c w place in
    let after : List RowSystem = after_systems r c w place in
    let between : List RowSystem = between_systems n r every c w place in
    end_is ∙ ap (λ t. after_all leaf t (made_systems between)) next_is
    ∙ sym (tests_append leaf t (map_systems r c w place) between)
    ∙ ap (λ systems. after_all leaf t (made_systems systems))
    (append_assoc outside (cell ++ after) between ∙ ap (λ rest. outside ++ rest) (append_assoc cell after between))

-- the system of a point of a writer that writes the cell that is read
pub write_at_is : (vars : ℕ) (rows : List RowExpr) (domain cell : List RowExpr) (first second third : Option System)
    → first ≡ made_system vars rows
    → second ≡ system_with_all first (forms_of vars domain) → third ≡ system_with_all second (forms_of vars cell)
    → third ≡ made_system vars (rows ++ (domain ++ cell))
write_at_is vars rows domain cell first second third first_is second_is third_is =
    third_is
    ∙ ap (λ s. system_with_all s (forms_of vars cell))
    (second_is ∙ ap (λ s. system_with_all s (forms_of vars domain)) first_is ∙ system_all vars rows domain)
    ∙ system_all vars (rows ++ domain) cell ∙ ap (made_system vars) (append_assoc rows domain cell)
