-- Where no point meets the systems of a leaf, the leaf gives the last writer, or there is none.
--
-- Let x be a point of the reader that comes to the leaf, with the values of the variables of its context. A write of
-- the read's cell before x stands at a point j of one of the array's writers, and before x at some level: with j behind
-- the variables, it meets the rows of that system, unless the further order asked of j fails. So a Zero leaf has no
-- writer before x. The point of a Writer leaf is in the domain of its statement, writes the cell and stands before x,
-- since it would meet a system of the first three parts else; and a later write before x would meet a system of the
-- last part.
use Rattle.std.proofs.Common.{◌≡◌, ◌+◌, ◌<◌, ℕ, suc, ℤ, pos, ◌<ℤ◌, List, [], ◌∷◌, ◌++◌, length, map, true, false, cond}
use Rattle.std.proofs.Common.{refl, sym, ap, ◌∙◌, subst, arith, append_assoc, length-append}
use Rattle.std.specs.Prelude.{Option, Some, None, slice_get, nat_lt}
use Rattle.std.specs.Option.{option_map, option_and_then, option_map_or}
use Rattle.std.proofs.lemmas.Bool.{eq-eqb, false_from_ne_true}
use Rattle.std.proofs.lemmas.Int.{ints, by_lt_z}
use Rattle.std.proofs.lemmas.Option.{same_Some}
use Rattle.std.proofs.lemmas.List.{append-nil}
use Rattle.affine_core.specs.declared.form.Form.{Form}
use Rattle.affine_core.specs.Affine.{form_at}
use Rattle.sanlp.specs.declared.nest.Access.{Access}
use Rattle.sanlp.specs.declared.nest.Nest.{Nest}
use Rattle.sanlp.specs.declared.nest.Point.{Point}
use Rattle.sanlp.specs.declared.nest.Statement.{Statement}
use Rattle.sanlp.specs.Access.{cell_at}
use Rattle.sanlp.specs.Cells.{Cell}
use Rattle.sanlp.specs.Memory.{is_cell}
use Rattle.sanlp.specs.Order.{common_loops, PrecedesWithin}
use Rattle.sanlp.specs.Writers.{writes, writes_at, last_before}
use Rattle.sanlp.proofs.Each.{Each, each_left, each_right, each_from_map}
use Rattle.sanlp.proofs.Precedence.{common_first, common_second, common_loops-comm, common_loops-same}
use Rattle.source_tree.specs.Gives.{values}
use Rattle.source_tree.specs.Places.{variables, at_place, domain_rows, cell_rows, differ_rows, before_rows, same_rows}
use Rattle.source_tree.specs.Rows.{RowExpr, RowSystem, Take, row_at, below_zero, one_less, minus}
use Rattle.source_tree.specs.Systems.{Occurrence, Context, every, reader_place, writer_place, with_rows, with_write_at}
use Rattle.source_tree.specs.Systems.{write_systems, array_writes, zero_systems, outside_systems, cell_systems}
use Rattle.source_tree.specs.Systems.{same_systems, after_systems, between_systems, writer_systems}
use Rattle.source_tree.proofs.Gives.{values-variables, row_at-at_place}
use Rattle.source_tree.proofs.MetRows.{AreMet, AreMet-append, AreMet-cell_rows}
use Rattle.source_check.proofs.Lists.{each_from_flat, cell_where, where_cell, map_or_true, greatest_none, greatest_some}
use Rattle.source_check.proofs.Orders.{some_level, compare, same_all, neither_less}
use Rattle.source_check.proofs.Readers.{IsReader, IsTrace, IsPointAt, IsBefore, among_writes}
use Rattle.source_check.proofs.Values.{AreWithin, AreShort, AllHold, met_more, values_more}
use Rattle.source_check.proofs.Values.{domain_met, same_met}

-- no whole point meets the system
pub record IsEmpty (s : RowSystem) : Type 0 where
  pub none : (at : List ℤ) → length at ≡ s.vars → AreMet s.rows at → ⊥

-- what it is that an entry writes a cell
write_parts : {C : Type 0} (n : Nest) (p : Point) (cell : Cell) (s : Statement)
    → slice_get n.statements p.statement ≡ Some s → writes n p cell ≡ true
    → ((access : Access) → s.write ≡ Some access → (access.array ≡ cell.0) × (values access.subscripts p.at ≡ cell.1)
    → C) → C
write_parts {C = C} n p cell s is h go =
    let w : option_map_or (λ written. is_cell written cell) (option_map (cell_at p.at) s.write) false ≡ true
    = ap (λ o. option_map_or (λ written. is_cell written cell)
    (option_and_then (λ (s : Statement). option_map (cell_at p.at) s.write) o) false) (sym is) ∙ h in
    parts s.write refl w where
      parts : (o : Option Access) → s.write ≡ o
          → option_map_or (λ written. is_cell written cell) (option_map (cell_at p.at) o) false ≡ true → C
      parts None e w = absurd (let f : false ≡ true = w in cc)
      parts (Some access) e w = go access e (cell_where (cell_at p.at access) cell w)

pub over_short : (m : ℕ) (fs : List Form) → Each (λ (f : Form). length f.coefs ≡ m) fs → AreShort m fs
over_short m [] h = tt
over_short m (f ∷ fs) h = ((let e : length f.coefs ≡ m = h.0 in omega (arith, e)), over_short m fs h.1)

module _ (n : Nest) (points : List Point) (follows : IsTrace n points) (r : Occurrence) (reads : IsReader n r)
    (x : List ℤ) (here : IsPointAt n r.number r.statement x) (t : ℕ)
    (at_t : slice_get points t ≡ Some (record { statement = r.number; at = x })) where
  abbrev cell : Cell
  cell = cell_at x r.access

  -- the values of a context's variables at the reader's point
  pub record Holds (c : Context) (v : List ℤ) : Type 0 where
    pub vars : length v ≡ c.vars
    pub more : List ℤ
    pub starts : v ≡ x ++ more
    pub within : AreWithin (length v) c.rows
    pub met : AreMet c.rows v

  reader_is : (c : Context) (v : List ℤ) → Holds c v → (w : List ℤ) → values (reader_place r) (v ++ w) ≡ x
  reader_is c v h w =
      ap (λ v. values (reader_place r) (v ++ w)) h.starts ∙ ap (values (reader_place r)) (append_assoc x h.more w)
      ∙ ap (λ k. values (variables 0 k) (x ++ (h.more ++ w))) (sym here.deep)
      ∙ values-variables 0 [] x (h.more ++ w) refl

  reader_is_here : (c : Context) (v : List ℤ) → Holds c v → values (reader_place r) v ≡ x
  reader_is_here c v h = ap (values (reader_place r)) (sym (append-nil v)) ∙ reader_is c v h []

  -- the subscripts of the read
  read_is : (c : Context) (v : List ℤ) → Holds c v → (w : List ℤ)
      → values r.access.subscripts (v ++ w) ≡ values r.access.subscripts x
  read_is c v h w =
      let short : AreShort (length x) r.access.subscripts
      = subst (λ m. AreShort m r.access.subscripts) (sym here.deep)
      (over_short (length r.statement.loops) r.access.subscripts reads.reads_over) in
      ap (λ v. values r.access.subscripts (v ++ w)) h.starts ∙ ap (values r.access.subscripts) (append_assoc x h.more w)
      ∙ values_more r.access.subscripts x (h.more ++ w) short

  read_is_here : (c : Context) (v : List ℤ) → Holds c v → values r.access.subscripts v ≡ values r.access.subscripts x
  read_is_here c v h = ap (values r.access.subscripts) (sym (append-nil v)) ∙ read_is c v h []

  other_is : (c : Context) (v : List ℤ) → Holds c v → (u : Occurrence) (j : List ℤ)
      → length j ≡ length u.statement.loops → values (writer_place c u) (v ++ j) ≡ j
  other_is c v h u j deep =
      ap (λ k. values (variables c.vars k) (v ++ j)) (sym deep)
      ∙ ap (λ w. values (variables c.vars (length j)) (v ++ w)) (sym (append-nil j))
      ∙ values-variables c.vars v j [] (sym h.vars)

  -- no other write: at a point j of a writer that writes the cell, is before the read and meets what else is asked
  no_other : (c : Context) (v : List ℤ) (further : Occurrence → List (List RowExpr)) (u : Occurrence) (j : List ℤ)
      → Holds c v
      → Each IsEmpty (write_systems r every c further u)
      → IsPointAt n u.number u.statement j → values u.access.subscripts j ≡ values r.access.subscripts x
      → IsBefore u.number u.statement j r.number r.statement x
      → ((P : List RowExpr → Type 0) → Each P (further u) → ((q : List RowExpr) → P q → AreMet q (v ++ j) → ⊥) → ⊥)
      → ⊥
  no_other c v further u j h empty point same before asked =
      let place : List Form = writer_place c u in
      let at : List ℤ = v ++ j in
      let j_is : values place at ≡ j = other_is c v h u j point.deep in
      let x_is : values (reader_place r) at ≡ x = reader_is c v h j in
      let long : length at ≡ c.vars + length u.statement.loops = omega (arith, length-append v j, h.vars, point.deep) in
      let domain : AreMet (domain_rows u.statement.rows place) at =
      domain_met u.statement.rows place at (subst (AllHold u.statement.rows) (sym j_is) point.holds) in
      let cells : AreMet (cell_rows u.access.subscripts r.access.subscripts place) at
      = AreMet-cell_rows u.access.subscripts r.access.subscripts place at
      (ap (values u.access.subscripts) j_is ∙ same ∙ sym (read_is c v h j)) in
      let shared : AreMet (with_write_at r c u).rows at
      = AreMet-append c.rows _ at (met_more c.rows v j h.within h.met)
      (AreMet-append (domain_rows u.statement.rows place)
      (cell_rows u.access.subscripts r.access.subscripts place) at domain cells) in
      let system : List RowExpr → List RowExpr → RowSystem = λ p q. with_rows (with_write_at r c u) (p ++ q) in
      let levels : List (List RowExpr) = before_rows u.number u.statement place r.number r.statement (reader_place r) in
      let by_level : Each (λ p. Each IsEmpty (map (system p) (further u))) levels
      = each_from_flat IsEmpty (λ p. map (system p) (further u)) levels empty in
      some_level ⊥ (λ p. Each IsEmpty (map (system p) (further u))) (common_loops u.statement.loops r.statement.loops)
      (nat_lt u.number r.number) place (reader_place r) at by_level
      (subst (λ a.
      PrecedesWithin (common_loops u.statement.loops r.statement.loops) (nat_lt u.number r.number) a
      (values (reader_place r) at)) (sym j_is)
      (subst (λ b. PrecedesWithin (common_loops u.statement.loops r.statement.loops) (nat_lt u.number r.number) j b)
      (sym x_is) before))
      (λ p each p_met. asked (λ q. IsEmpty (system p q)) (each_from_map IsEmpty (system p) (further u) each)
      (λ q empty q_met. empty.none at long
      (AreMet-append (with_write_at r c u).rows (p ++ q) at shared (AreMet-append p q at p_met q_met))))

  -- an entry before the read that writes the cell: its point and its statement's write
  writer_before : {C : Type 0} (w : ℕ) → w < t → writes_at n points cell w ≡ true
      → ((u : Occurrence) (j : List ℤ) → slice_get points w ≡ Some (record { statement = u.number; at = j })
      → IsPointAt n u.number u.statement j
      → values u.access.subscripts j ≡ values r.access.subscripts x
      → IsBefore u.number u.statement j r.number r.statement x
      → ((P : Occurrence → Type 0) → Each P (array_writes n r) → P u) → C) → C
  writer_before w lt h go =
      map_or_true (λ p. writes n p cell) (slice_get points w) h
      (λ p is writes_cell.
      let e = follows.entry w p is in
      write_parts n p cell e.0 e.1.is writes_cell
      (λ access writes parts.
      go (record { number = p.statement; statement = e.0; access = access }) p.at is e.1 parts.1
      (follows.later w t p (record { statement = r.number; at = x }) e.0 r.statement is at_t e.1 here lt)
      (λ P each. among_writes P r.access.array 0 p.statement p.statement n.statements e.0 access each
      (omega arith) e.1.is writes parts.0)))

  pub zero_leaf : (c : Context) (v : List ℤ) → Holds c v → Each IsEmpty (zero_systems n r every c)
      → last_before n points t cell ≡ None
  unfolding last_before
  zero_leaf c v h empty =
      greatest_none (writes_at n points cell) t
      (λ w lt. false_from_ne_true (writes_at n points cell w)
      (λ yes_. writer_before w lt yes_
      (λ u j is point same before among.
      no_other c v (λ u. [] ∷ []) u j h
      (among (λ u. Each IsEmpty (write_systems r every c (λ u. [] ∷ []) u))
      (each_from_flat IsEmpty (write_systems r every c (λ u. [] ∷ [])) (array_writes n r) empty))
      point same before (λ P each use_it. use_it [] each.0 tt))))

  -- a Writer leaf
  module _ (c : Context) (v : List ℤ) (h : Holds c v) (w : Occurrence) (y : List Form)
      (is : slice_get n.statements w.number ≡ Some w.statement)
      (write_is : w.statement.write ≡ Some w.access) (array : w.access.array ≡ r.access.array)
      (deep : length y ≡ length w.statement.loops) (short : AreShort (length v) y)
      (empty : Each IsEmpty (writer_systems n r every c w y)) where
    abbrev further : Occurrence → List (List RowExpr)
    further u = before_rows w.number w.statement y u.number u.statement (writer_place c u)

    outside_part : Each IsEmpty (outside_systems c w y)
    outside_part = each_left IsEmpty (outside_systems c w y) _ empty

    past_outside : Each IsEmpty (cell_systems r c w y ++ (after_systems r c w y ++ between_systems n r every c w y))
    past_outside = each_right IsEmpty (outside_systems c w y) _ empty

    cell_part : Each IsEmpty (cell_systems r c w y)
    cell_part = each_left IsEmpty (cell_systems r c w y) _ past_outside

    past_cell : Each IsEmpty (after_systems r c w y ++ between_systems n r every c w y)
    past_cell = each_right IsEmpty (cell_systems r c w y) _ past_outside

    after_part : Each IsEmpty (after_systems r c w y)
    after_part = each_left IsEmpty (after_systems r c w y) _ past_cell

    between_part : Each IsEmpty (between_systems n r every c w y)
    between_part = each_right IsEmpty (after_systems r c w y) _ past_cell

    level_part : Each IsEmpty
        (map (with_rows c) (before_rows r.number r.statement (reader_place r) w.number w.statement y))
    level_part = each_left IsEmpty _ (same_systems r c w y) after_part

    same_part : Each IsEmpty (same_systems r c w y)
    same_part =
        each_right IsEmpty
        (map (with_rows c) (before_rows r.number r.statement (reader_place r) w.number w.statement y)) _ after_part

    -- the leaf's point
    abbrev point : List ℤ
    point = values y v

    in_domain : (rows : List Form) → Each IsEmpty (map (λ row. with_rows c (below_zero (at_place row y) ∷ [])) rows)
        → AllHold rows point
    in_domain [] each = tt
    in_domain (row ∷ rows) each = (
      by_lt_z (form_at row point) (pos 0)
          (λ lt. absurd
          (each.0.none v h.vars
          (AreMet-append c.rows (below_zero (at_place row y) ∷ []) v h.met
          (omega (arith, ints, lt, row_at-at_place row y v), tt))))
          (λ ge. ge),
      in_domain rows each.1,
    )

    is_point : IsPointAt n w.number w.statement point
    is_point =
        record { is = is; deep = length_values y v ∙ deep; holds = in_domain w.statement.rows outside_part } where
          length_values : (fs : List Form) (v : List ℤ) → length (values fs v) ≡ length fs
          length_values [] v = refl
          length_values (f ∷ fs) v = ap suc (length_values fs v)

    same_subscripts : (ws rs : List Form) → length ws ≡ length rs
        → Each IsEmpty (map (λ row. with_rows c (row ∷ [])) (differ_rows ws rs y))
        → values ws point ≡ values rs v
    same_subscripts [] [] e each = refl
    same_subscripts [] (f ∷ rs) e each = absurd (omega arith)
    same_subscripts (f ∷ ws) [] e each = absurd (omega arith)
    same_subscripts (f ∷ ws) (g ∷ rs) e each =
        let a : RowExpr = at_place f y in
        let b : RowExpr = Take g in
        let rest : values ws point ≡ values rs v = same_subscripts ws rs (omega arith) each.1.1 in
        let no_above : row_at b v <ℤ row_at a v → ⊥ =
        λ lt. each.0.none v h.vars
        (AreMet-append c.rows (one_less (minus a b) ∷ []) v h.met (omega (arith, ints, lt), tt)) in
        let no_below : row_at a v <ℤ row_at b v → ⊥ =
        λ lt. each.1.0.none v h.vars
        (AreMet-append c.rows (one_less (minus b a) ∷ []) v h.met (omega (arith, ints, lt), tt)) in
        let same : row_at a v ≡ row_at b v
        = by_lt_z (row_at a v) (row_at b v) (λ lt. absurd (no_below lt))
        (λ ge. by_lt_z (row_at b v) (row_at a v) (λ lt. absurd (no_above lt))
        (λ ge'. omega (arith, ints, ge, ge'))) in
        let first : form_at f point ≡ form_at g v = sym (row_at-at_place f y v) ∙ same in
        cc

    cell_is : values w.access.subscripts point ≡ values r.access.subscripts x
    cell_is =
        same_subscripts w.access.subscripts r.access.subscripts
        (reads.writes w.number w.statement w.access is write_is array) cell_part
        ∙ read_is_here c v h

    not_after : IsBefore r.number r.statement x w.number w.statement point → ⊥
    not_after before =
        some_level ⊥ (λ o. IsEmpty (with_rows c o)) (common_loops r.statement.loops w.statement.loops)
        (nat_lt r.number w.number) (reader_place r) y v
        (each_from_map IsEmpty (with_rows c)
        (before_rows r.number r.statement (reader_place r) w.number w.statement y) level_part)
        (subst (λ a.
        PrecedesWithin (common_loops r.statement.loops w.statement.loops) (nat_lt r.number w.number) a point)
        (sym (reader_is_here c v h)) before)
        (λ o empty met. empty.none v h.vars (AreMet-append c.rows o v h.met met))

    not_same : w.number ≡ r.number → x ≡ point → ⊥
    not_same e f =
        let each : Each IsEmpty (with_rows c (same_rows (reader_place r) y) ∷ []) =
        subst (λ b. Each IsEmpty (cond b (with_rows c (same_rows (reader_place r) y) ∷ []) []))
        (eq-eqb w.number r.number e) same_part in
        each.0.none v h.vars
        (AreMet-append c.rows (same_rows (reader_place r) y) v h.met
        (same_met (reader_place r) y v (reader_is_here c v h ∙ f)))

    is_before : IsBefore w.number w.statement point r.number r.statement x
    is_before =
        let k : ℕ = common_loops w.statement.loops r.statement.loops in
        compare (PrecedesWithin k (nat_lt w.number r.number) point x) k (nat_lt w.number r.number)
        (nat_lt r.number w.number) point x
        (omega (arith, common_first w.statement.loops r.statement.loops, is_point.deep))
        (omega (arith, common_second w.statement.loops r.statement.loops, here.deep))
        (λ p. p)
        (λ p. absurd
        (not_after (subst (λ m. PrecedesWithin m (nat_lt r.number w.number) x point)
        (common_loops-comm w.statement.loops r.statement.loops) p)))
        (λ same less more.
        let e : w.number ≡ r.number = neither_less w.number r.number less more in
        let s : w.statement ≡ r.statement =
        same_Some w.statement r.statement (sym is ∙ ap (slice_get n.statements) e ∙ reads.is) in
        let full : k ≡ length r.statement.loops =
        ap (λ (s : Statement). common_loops s.loops r.statement.loops) s ∙ common_loops-same r.statement.loops in
        let long : length point ≡ k = is_point.deep ∙ ap (λ (s : Statement). length s.loops) s ∙ sym full in
        absurd (not_same e (sym (same_all k point x long (here.deep ∙ sym full) same))))

    pub writer_leaf : (u : ℕ) × (last_before n points t cell ≡ Some u)
        × (slice_get points u ≡ Some (record { statement = w.number; at = point }))
    unfolding last_before
    writer_leaf =
        let e = follows.point w.number w.statement point is_point in
        let u : ℕ = e.0 in
        let p : Point = record { statement = w.number; at = point } in
        let reading : Point = record { statement = r.number; at = x } in (
          u,
          greatest_some (writes_at n points cell) t u
              (follows.earlier u t p reading w.statement r.statement e.1 at_t is_point here is_before)
              (ap (λ o. option_map_or (λ p. writes n p cell) o false) e.1
              ∙ ap (λ o. option_map_or (λ written. is_cell written cell)
              (option_and_then (λ (s : Statement). option_map (cell_at point) s.write) o) false) is
              ∙ ap (λ o. option_map_or (λ written. is_cell written cell) (option_map (cell_at point) o) false) write_is
              ∙ where_cell (cell_at point w.access) cell array cell_is)
              (λ z above below. false_from_ne_true (writes_at n points cell z)
              (λ yes_. writer_before z below yes_
              (λ o j here_z point_z same before among.
              no_other c v further o j h
              (among (λ o. Each IsEmpty (write_systems r every c further o))
              (each_from_flat IsEmpty (write_systems r every c further) (array_writes n r) between_part))
              point_z same before
              (λ P each use_it.
              let q : Point = record { statement = o.number; at = j } in
              let later : IsBefore w.number w.statement point o.number o.statement j =
              follows.later u z p q w.statement o.statement e.1 here_z is_point point_z above in
              let y_is : values y (v ++ j) ≡ point = values_more y v j short in
              let j_is : values (writer_place c o) (v ++ j) ≡ j = other_is c v h o j point_z.deep in
              some_level ⊥ P (common_loops w.statement.loops o.statement.loops) (nat_lt w.number o.number) y
              (writer_place c o) (v ++ j) each
              (subst (λ a.
              PrecedesWithin (common_loops w.statement.loops o.statement.loops) (nat_lt w.number o.number) a
              (values (writer_place c o) (v ++ j))) (sym y_is)
              (subst (λ b.
              PrecedesWithin (common_loops w.statement.loops o.statement.loops) (nat_lt w.number o.number) point b)
              (sym j_is) later))
              use_it)))),
          e.1,
        )
