-- Where each reference names the last writer of what it reads, each fire gives the value of its entry in the trace.
--
-- It is what PlaceValues asks of the rule of values, and no induction of its own: the f-th fire of a process is at the
-- process's f-th entry (`turn_entry`), a reference that names a tag reads the value of that tag's entry, one that
-- names nothing reads 0, and the value of an entry is by definition its expression over just these. So all fires of a
-- process give the values of its entries in order. That the references do name the last writers is a premise here: the
-- checker tests it, and for the compiler's networks it is a law.
use Rattle.std.proofs.Common.{◌≡◌, ℕ, zero, suc, ◌<◌, ◌≤◌, false, eqb, ℤ, pos, Option, Some, None, List, [], ◌∷◌, ◌++◌}
use Rattle.std.proofs.Common.{length, map, take, slice_get, count_by, get_or, option_map, refl, sym, ap, ap₂, ◌∙◌, inl}
use Rattle.std.proofs.Common.{inr, arith, ne_eqb, take_all, zero-add}
use Rattle.std.specs.Prelude.{unwrap_or, IsTrue}
use Rattle.std.specs.Option.{option_and_then, option_map_or}
use Rattle.std.specs.List.{range_with_len}
use Rattle.std.proofs.lemmas.Bool.{and_parts, cases_lt}
use Rattle.std.proofs.lemmas.List.{get_or_past, length-map}
use Rattle.std.proofs.lemmas.List.FromFn.{length-map-range_with_len, get_or-map-range_with_len}
use Rattle.std.proofs.lemmas.Option.{slice_get-map, slice_get_within, slice_get-get_or, get_or_from_slice_get}
use Rattle.wrap_expr.specs.Value.{value_of, uses_only, UsesOnly}
use Rattle.sanlp.specs.declared.nest.ArrayDecl.{ArrayDecl}
use Rattle.sanlp.specs.declared.nest.Inputs.{Inputs}
use Rattle.sanlp.specs.declared.nest.Nest.{Nest}
use Rattle.sanlp.specs.declared.nest.Point.{Point}
use Rattle.sanlp.specs.declared.nest.Statement.{Statement}
use Rattle.sanlp.specs.declared.nest.Tag.{Tag}
use Rattle.sanlp.specs.Access.{cell_at, given_at, read_count, reads_of}
use Rattle.sanlp.specs.Cells.{Cell}
use Rattle.sanlp.specs.Laws.{entries_of, values_of, IsGreatestBelow}
use Rattle.sanlp.specs.Points.{points_of, vectors_of}
use Rattle.sanlp.specs.Tags.{tag_at}
use Rattle.sanlp.specs.Trace.{trace}
use Rattle.sanlp.specs.WellFormed.{assigns, depth_of, statement_fits}
use Rattle.sanlp.specs.Writers.{cell_read, last_before, last_writer, value_at}
use Rattle.sanlp.proofs.Enumerates.{enumerates_domains}
use Rattle.sanlp.proofs.Greatest.{is_last_writer}
use Rattle.sanlp.proofs.LastWriter.{value_at_is}
use Rattle.sanlp.proofs.ReadCounts.{trace-statement}
use Rattle.net_core.specs.declared.refs.Ref.{Ref}
use Rattle.net_core.specs.declared.refs.Ref.TheVariants.{Zero, Slot}
use Rattle.net_core.specs.declared.network.Event.TheVariants.{Fire}
use Rattle.net_core.specs.declared.network.Network.{Network}
use Rattle.net_core.specs.Machine.{net_of}
use Rattle.net_core.specs.Shape.{is_fire, fires, turns}
use Rattle.net_core.specs.Names.{tag, name_in, name_of, slot_names, fired, GivesValues}
use Rattle.net_core.specs.Rules.{read_slot, values, vector_at}
use Rattle.net_core.specs.Sound.{entry_at, tag_value, source_tag, name_of_source, FitsNest, NamesLastWriters}
use Rattle.net_core.proofs.Entries.{EntryAt, entries_length, entry_at_turn, turn_of_entry}
use Rattle.net_core.proofs.Ready.{count_all}
use Rattle.plain_data.proofs.Lists.{slice_get_read_same}

-- Lists

maps_same : {X Y Z : Type 0} (f : X → Z) (g : Y → Z) (xs : List X) (ys : List Y) → length xs ≡ length ys
    → ((j : ℕ) (x : X) (y : Y) → slice_get xs j ≡ Some x → slice_get ys j ≡ Some y → f x ≡ g y) → map f xs ≡ map g ys
maps_same f g [] [] same each = refl
maps_same f g [] (y ∷ ys) same each = absurd (omega arith)
maps_same f g (x ∷ xs) [] same each = absurd (omega arith)
maps_same f g (x ∷ xs) (y ∷ ys) same each =
    ap₂ (λ z zs. z ∷ zs) (each 0 x y refl refl) (maps_same f g xs ys (omega arith) (λ j a b h k. each (suc j) a b h k))

-- Points

no_vectors : (points : List Point) (s : ℕ) → ((i : ℕ) (p : Point) → slice_get points i ≡ Some p → p.statement < s)
    → vectors_of points s ≡ []
no_vectors [] s below = refl
no_vectors (p ∷ points) s below =
    let other : eqb p.statement s ≡ false = ne_eqb p.statement s (λ e. (let lt = below 0 p refl in omega arith)) in
    rw other (no_vectors points s (λ i q h. below (suc i) q h))

-- the points of a process are those of its statement in the trace
pub vectors_at : (n : Nest) (p : ℕ) → get_or (points_of n) p [] ≡ vectors_of (trace n) p
unfolding points_of
vectors_at n p =
    elim (cases_lt p (length n.statements)) [
      | inl lt ↦ get_or-map-range_with_len (vectors_of (trace n)) 0 (length n.statements) p p [] lt (zero-add p)
      | inr past ↦
          let short : length (map (vectors_of (trace n)) (range_with_len 0 (length n.statements))) ≤ p =
          omega (arith, length-map-range_with_len (vectors_of (trace n)) 0 (length n.statements)) in
          get_or_past (map (vectors_of (trace n)) (range_with_len 0 (length n.statements))) p [] short
          ∙ sym (no_vectors (trace n) p (λ i q is. (let lt = trace-statement n i q is in omega arith)))
    ]

-- a process has as many turns as entries
pub entry_count : (n : Nest) (p : ℕ) → length (entries_of (trace n) p) ≡ turns (points_of n) p
entry_count n p = entries_length 0 (trace n) p ∙ sym (ap length (vectors_at n p))

-- a process with a turn is a statement
pub turn_in : (n : Nest) (p f : ℕ) → f < turns (points_of n) p → p < length n.statements
turn_in n p f lt =
    elim (cases_lt p (length n.statements)) [
      | inl there ↦ there
      | inr past ↦
          let none : length (get_or (points_of n) p []) ≡ 0 =
          ap length (vectors_at n p
          ∙ no_vectors (trace n) p (λ i q is. (let below = trace-statement n i q is in omega arith))) in
          absurd (omega (arith, lt, none))
    ]

-- the entry of a turn, with its point
pub record TurnEntry (n : Nest) (p f : ℕ) : Type 0 where
  pub entry : ℕ
  pub is : slice_get (entries_of (trace n) p) f ≡ Some entry
  pub point : Point
  pub found : slice_get (trace n) entry ≡ Some point
  pub process : point.statement ≡ p
  pub vector : vector_at (points_of n) p f ≡ point.at

pub turn_entry : (n : Nest) (p f : ℕ) → f < turns (points_of n) p → TurnEntry n p f
turn_entry n p f lt =
    let t = get_or (entries_of (trace n) p) f 0 in
    let there : slice_get (entries_of (trace n) p) f ≡ Some t =
    slice_get-get_or (entries_of (trace n) p) f 0 (omega (arith, entry_count n p, lt)) in
    let e : EntryAt 0 (trace n) p f t = entry_at_turn 0 (trace n) p f t there in
    record {
      entry = t;
      is = there;
      point = e.point;
      found = ap (slice_get (trace n)) (e.is ∙ zero-add e.place) ∙ e.found;
      process = e.process;
      vector =
          ap (λ list. get_or list f []) (vectors_at n p)
          ∙ get_or_from_slice_get (vectors_of (trace n) p) f e.point.at [] e.vector;
    }

-- a turn has as many loop values as its statement has loops
pub vector_depth : (n : Nest) (p f : ℕ) (statement : Statement) → f < turns (points_of n) p
    → slice_get n.statements p ≡ Some statement
    → length (vector_at (points_of n) p f) ≡ length statement.loops
vector_depth n p f statement lt is =
    let e = turn_entry n p f lt in
    let point = (enumerates_domains n).entry e.entry e.point e.found in
    let both : Some statement ≡ Some point.statement =
    sym is ∙ ap (slice_get n.statements) (sym e.process) ∙ point.found in
    let same : statement ≡ point.statement = cc in
    ap length e.vector ∙ point.deep ∙ ap (λ (s : Statement). length s.loops) (sym same)

-- the expression of a statement that fits uses its loops and reads alone
pub expr_fits : (arrays : List ArrayDecl) (s : Statement) → IsTrue (statement_fits arrays s)
    → UsesOnly (length s.loops) (length s.reads) s.expr
expr_fits arrays s h =
    let used = and_parts _ (assigns s.role s) h in
    let expr = and_parts _ (uses_only (depth_of s) (length s.reads) s.expr) used.0 in
    expr.1

-- the iteration vector of a turn, read from its process's list
pub vector_read : (lists outer : List (List (List ℤ))) (p f : ℕ) (list inner : List (List ℤ)) (vector at : List ℤ)
    → f < turns lists p
    → outer ≡ lists → list ≡ get_or outer p list → inner ≡ list → vector ≡ get_or inner f vector → at ≡ vector
    → at ≡ vector_at lists p f
vector_read lists outer p f list inner vector at lt a b c d e =
    let inside : p < length lists = elim (cases_lt p (length lists)) [
      | inl there ↦ there
      | inr past ↦
          (let none : length (get_or lists p [])
          ≡ 0 = ap length (get_or_past lists p [] past) in absurd (omega (arith, lt, none)))
    ] in
    let found : slice_get lists p ≡ Some list =
    slice_get_read_same lists outer p list a (omega (arith, inside, ap length a)) b in
    let same : get_or lists p [] ≡ list = get_or_from_slice_get lists p list [] found in
    let value : slice_get inner f ≡ Some vector =
    slice_get_read_same inner inner f vector refl (omega (arith, lt, ap length same, ap length c)) d in
    e ∙ sym (get_or_from_slice_get inner f vector [] value) ∙ ap (λ l. get_or l f []) (c ∙ sym same)

-- the value of a fire, piece by piece
pub fire_value : (n : Nest) (d : Inputs) (p f : ℕ) (statement : Statement) (refs : List Ref) (slots : List (Option ℤ))
    (at reads : List ℤ) (given result : ℤ)
    → slice_get n.statements p ≡ Some statement → at ≡ vector_at (points_of n) p f → reads ≡ map (read_slot slots) refs
    → given ≡ given_at n d statement.role at
    → result ≡ value_of statement.expr (record { at = at; reads = reads; given = given })
    → result ≡ values n d p f refs slots
fire_value n d p f statement refs slots at reads given result is at_is reads_is given_is result_is =
    result_is
    ∙ (λ i. value_of statement.expr (record { at = at; reads = reads; given = given_is i }))
    ∙ (λ i. value_of statement.expr
    (record { at = at_is i; reads = reads_is i; given = given_at n d statement.role (at_is i) }))
    ∙ (λ i. option_map_or
    (λ (s : Statement).
    value_of s.expr
    (record {
      at = vector_at (points_of n) p f;
      reads = map (read_slot slots) refs;
      given =
          given_at n d s.role (vector_at (points_of n) p f);
    })) (sym is i) (pos 0))

module _ (n : Nest) (d : Inputs) where
  -- What a reference reads

  in_slot : (o : Option (Option Tag)) (w : Option Tag) → name_in o ≡ name_of_source w
      → unwrap_or (option_and_then (λ (token : Option ℤ). token) (option_map (option_map (tag_value n d)) o)) (pos 0)
      ≡ unwrap_or (option_map (tag_value n d) w) (pos 0)
  in_slot None None h = cc
  in_slot None (Some b) h = cc
  in_slot (Some None) None h = cc
  in_slot (Some None) (Some b) h = cc
  in_slot (Some (Some a)) None h = cc
  in_slot (Some (Some a)) (Some b) h = let same : a ≡ b = cc in ap (tag_value n d) same

  reads_source : (slots : List (Option Tag)) (r : Ref) (w : Option Tag) → name_of slots r ≡ name_of_source w
      → read_slot (map (option_map (tag_value n d)) slots) r ≡ unwrap_or (option_map (tag_value n d) w) (pos 0)
  reads_source slots Zero None h = refl
  reads_source slots Zero (Some b) h = cc
  reads_source slots (Slot k) w h =
      ap (λ o. unwrap_or (option_and_then (λ (token : Option ℤ). token) o) (pos 0))
      (slice_get-map (option_map (tag_value n d)) slots k)
      ∙ in_slot (slice_get slots k) w h

  -- an entry's tag has its value
  value_of_tag : (u : ℕ) (q : Point) → slice_get (trace n) u ≡ Some q
      → option_map (tag_value n d) (tag_at (trace n) u) ≡ Some (value_at n d (trace n) u)
  value_of_tag u q is =
      let turn = count_by (λ (x : Point). eqb x.statement q.statement) (take u (trace n)) in
      let found : slice_get (entries_of (trace n) q.statement) turn ≡ Some u =
      turn_of_entry 0 (trace n) u q is ∙ ap Some (zero-add u) in
      ap (λ o. option_map (tag_value n d)
      (option_map (λ (p : Point).
      tag p.statement (count_by (λ (x : Point). eqb x.statement p.statement) (take u (trace n)))) o)) is
      ∙ ap (λ t. Some (value_at n d (trace n) t))
      (get_or_from_slice_get (entries_of (trace n) q.statement) turn u 0 found)

  writer_value : (t : ℕ) (passes : _) (o : Option ℕ) → t < length (trace n) → IsGreatestBelow passes t o
      → unwrap_or (option_map (tag_value n d) (option_and_then (tag_at (trace n)) o)) (pos 0)
      ≡ unwrap_or (option_map (value_at n d (trace n)) o) (pos 0)
  writer_value t passes None lt is = refl
  writer_value t passes (Some u) lt is =
      let none : Point = record { statement = 0; at = [] } in
      let q : slice_get (trace n) u ≡ Some (get_or (trace n) u none) =
      slice_get-get_or (trace n) u none (omega (arith, is.0)) in
      ap (λ o. unwrap_or o (pos 0)) (value_of_tag u (get_or (trace n) u none) q)

  -- what each cell that an entry reads is worth: the value of its last writer, or 0
  look : ℕ → Cell → ℤ
  look t cell = unwrap_or (option_map (value_at n d (trace n)) (last_before n (trace n) t cell)) (pos 0)

  source_value : (p f read t : ℕ) (point : Point) (cell : Cell) → entry_at n (tag p f) ≡ Some t
      → slice_get (trace n) t ≡ Some point → slice_get (reads_of n point) read ≡ Some cell
      → unwrap_or (option_map (tag_value n d) (source_tag n p f read)) (pos 0) ≡ look t cell
  unfolding look
  source_value p f read t point cell entry is reads =
      let cell_is : cell_read n (trace n) t read ≡ Some cell =
      ap (option_and_then (λ (q : Point). slice_get (reads_of n q) read)) is ∙ reads in
      let writer : last_writer n t read ≡ last_before n (trace n) t cell =
      ap (option_and_then (last_before n (trace n) t)) cell_is in
      let source : source_tag n p f read ≡ option_and_then (tag_at (trace n)) (last_before n (trace n) t cell) =
      ap (λ o. option_and_then (tag_at (trace n)) (option_and_then (λ u. last_writer n u read) o)) entry
      ∙ ap (option_and_then (tag_at (trace n))) writer in
      ap (λ o. unwrap_or (option_map (tag_value n d) o) (pos 0)) source
      ∙ writer_value t _ (last_before n (trace n) t cell) (slice_get_within (trace n) t point is)
      (is_last_writer n (trace n) t cell)

  -- the value of an entry, from the values of its reads
  entry_value : (p f t : ℕ) (point : Point) (reads : List ℤ) → slice_get (trace n) t ≡ Some point → point.statement ≡ p
      → vector_at (points_of n) p f ≡ point.at → reads ≡ map (look t) (reads_of n point)
      → option_map_or
      (λ (statement : Statement).
      value_of statement.expr
      (record {
        at = vector_at (points_of n) p f;
        reads = reads;
        given =
            given_at n d statement.role (vector_at (points_of n) p f);
      })) (slice_get n.statements p) (pos 0)
      ≡ value_at n d (trace n) t
  unfolding look
  entry_value p f t point reads is process vector same =
      let there : slice_get n.statements p ≡ slice_get n.statements point.statement =
      ap (slice_get n.statements) (sym process) in
      (λ i. option_map_or
      (λ (statement : Statement).
      value_of statement.expr
      (record { at = vector i; reads = same i; given = given_at n d statement.role (vector i) })) (there i)
      (pos 0))
      ∙ sym (value_at_is n d (trace n) t point is)

module _ (n : Nest) (network : Network) (fits : FitsNest n network) where
  -- a fire has its entry in the trace
  pub turn_there : (p k : ℕ) (refs : List Ref) → slice_get ((net_of network).script p) k ≡ Some (Fire refs)
      → fires (net_of network) p k < turns (points_of n) p
  turn_there p k refs is =
      omega (arith, fits.shaped.turns p, count_all is_fire ((net_of network).script p) k (Fire refs) is refl)

  -- each fire gives the value of its entry
  pub gives_values : NamesLastWriters n (net_of network) → (d : Inputs)
      → GivesValues (net_of network) (values n d) (tag_value n d)
  gives_values names d p k refs is =
      let f = fires (net_of network) p k in
      let e = turn_entry n p f (turn_there p k refs is) in
      let many : length refs ≡ length (reads_of n e.point) =
      fits.references p k refs is ∙ reads_length n p e.point e.process in
      let slots = slot_names (net_of network) p k in
      let reads : map (read_slot (map (option_map (tag_value n d)) slots)) refs
      ≡ map (look n d e.entry) (reads_of n e.point) =
      maps_same (read_slot (map (option_map (tag_value n d)) slots)) (look n d e.entry) refs (reads_of n e.point) many
      (λ j r cell h h'. reads_source n d slots r (source_tag n p f j) (names p k refs is j r h)
      ∙ source_value n d p f j e.entry e.point cell e.is e.found h') in
      entry_value n d p f e.entry e.point _ e.found e.process e.vector reads
      ∙ ap (value_at n d (trace n)) (sym (get_or_from_slice_get (entries_of (trace n) p) f e.entry 0 e.is))
    where
      reads_length : (n : Nest) (p : ℕ) (point : Point) → point.statement ≡ p
          → read_count n p ≡ length (reads_of n point)
      reads_length n p point same =
          ap (read_count n) (sym same) ∙ counted (slice_get n.statements point.statement) point.at
        where
          counted : (o : Option Statement) (at : List ℤ)
              → option_map_or (λ (s : Statement). length s.reads) o 0
              ≡ length (option_map_or (λ (s : Statement). map (cell_at at) s.reads) o [])
          counted None at = refl
          counted (Some s) at = sym (length-map s.reads (cell_at at))

-- the values of the first m fires of a process are those of its first m entries
fired_values : (n : Nest) (d : Inputs) (p m : ℕ) → m ≤ length (entries_of (trace n) p)
    → fired (tag_value n d) p m ≡ map (value_at n d (trace n)) (take m (entries_of (trace n) p))
fired_values n d p m = go (entries_of (trace n) p) m
  where
    last : (xs : List ℕ) (m : ℕ) → m < length xs
        → map (value_at n d (trace n)) (take (suc m) xs)
        ≡ map (value_at n d (trace n)) (take m xs) ++ value_at n d (trace n) (get_or xs m 0) ∷ []
    last [] m lt = absurd (omega arith)
    last (x ∷ xs) zero lt = refl
    last (x ∷ xs) (suc m) lt = ap (λ ys. value_at n d (trace n) x ∷ ys) (last xs m (omega arith))

    go : (xs : List ℕ) (m : ℕ) → m ≤ length (entries_of (trace n) p)
        → fired (tag_value n d) p m ≡ map (value_at n d (trace n)) (take m (entries_of (trace n) p))
    go xs zero le = refl
    go xs (suc m) le =
        ap (λ ys. ys ++ value_at n d (trace n) (get_or (entries_of (trace n) p) m 0) ∷ []) (go xs m (omega arith))
        ∙ sym (last (entries_of (trace n) p) m (omega arith))

-- where a process has fired at each of its points, it has the values of its entries
pub all_fired_values : (n : Nest) (network : Network) → FitsNest n network → (d : Inputs) (p : ℕ)
    → fired (tag_value n d) p (fires (net_of network) p (length ((net_of network).script p))) ≡ values_of n d p
all_fired_values n network fits d p =
    let script = (net_of network).script p in
    let xs = entries_of (trace n) p in
    let all : fires (net_of network) p (length script) ≡ length xs =
    ap (count_by is_fire) (take_all (length script) script (omega arith)) ∙ fits.shaped.turns p
    ∙ sym (entry_count n p) in
    ap (fired (tag_value n d) p) all ∙ fired_values n d p (length xs) (omega arith)
    ∙ ap (map (value_at n d (trace n))) (take_all (length xs) xs (omega arith))
