-- Cells whose places along a loop are known. A line has the place at the first value and the step to the next, which give
-- all places between the first and the last value, since they change evenly. The lines of a statement's reads are made
-- slot by slot: after each the first so many are lines. They speak of places alone, so they stay where places do.
use Rattle.std.proofs.Common.{◌≡◌, ◌<◌, ◌≤◌, ◌+◌, ℕ, zero, suc, ℤ, pos, ◌≤ℤ◌, ◌<ℤ◌, ◌+ℤ◌, ◌-ℤ◌, List, [], ◌∷◌, ◌++◌}
use Rattle.std.proofs.Common.{Bool, true, ◌&&◌, map, set, take, length, get_or, refl, sym, ap, ◌∙◌, subst, inl, inr, arith}
use Rattle.std.specs.List.{list_all}
use Rattle.std.specs.Option.{option_map_or}
use Rattle.std.specs.Prelude.{Option, Some, None, is_some, IfSome, unsigned_abs}
use Rattle.std.proofs.lemmas.Bool.{cases_lt, false≢true}
use Rattle.std.proofs.lemmas.Int.{ints}
use Rattle.std.proofs.lemmas.List.{take_all}
use Rattle.std.proofs.lemmas.List.Folds.{list_all_more}
use Rattle.affine_core.specs.Affine.{form_at}
use Rattle.sanlp.specs.declared.nest.Access.{Access}
use Rattle.sanlp.specs.Access.{cell_at}
use Rattle.sanlp.specs.Cells.{Cell}
use Rattle.cell_rows.specs.declared.cells.Cells.{Cells}
use Rattle.cell_rows.specs.declared.narrow_access.NarrowStatement.{NarrowStatement}
use Rattle.cell_rows.specs.CellMap.{places_in}
use Rattle.cell_rows.specs.RowPlaces.{row_limit}
use Rattle.cell_rows.proofs.CellPlaces.{has_extents}
use Rattle.cell_rows.proofs.FormSums.{small_size}
use Rattle.cell_lines.specs.declared.statement_lines.Lines.{Lines}
use Rattle.cell_lines.specs.declared.access_line.Line.{Line}
use Rattle.cell_lines.specs.LinePlaces.{AreLinesOf, ArePlacedBy, AreStatementLines, IsLineOf, IsPlacedBy, IsShortLine}
use Rattle.cell_lines.specs.LinePlaces.{IsStatementPlaced, Places, place_along}
use Rattle.cell_lines.proofs.EvenPlaces.{either, line_places, place_limit, placed_between}

-- a place in rows is within the limit
pub placed_limit : {T : Type 0} (cells : Cells T) (cell : Cell) (place : ℕ) → places_in cells cell ≡ Some place
    → place < row_limit
placed_limit cells cell place there =
    let row = has_extents cells cell place there in
    place_limit 0 row.0 cell.1 place (omega arith) (sym (row.1 cell.1) ∙ there)

-- the place at the second turn too, where that at the last is
pub second_limit : {T : Type 0} (cells : Cells T) (cell : Cell) (first last : ℤ) (next end : ℕ) → end < row_limit
    → (first <ℤ last → places_in cells cell ≡ Some next) → (last ≤ℤ first → next ≡ end) → next < row_limit
second_limit cells cell first last next end h second none = elim (either first last) [
  | inl lt ↦ placed_limit cells cell next (second lt)
  | inr le ↦ (let e = none le in subst (λ k. k < row_limit) (sym e) h)
]

-- the second turn has a place where the first and the last have
pub second_there : {T : Type 0} (cells : Cells T) (at : List ℤ) (first last : ℤ) (access : Access) (begin : Option ℕ)
    (end : ℕ)
    → first <ℤ last → places_in cells (cell_at (at ++ first ∷ []) access) ≡ begin → is_some begin ≡ true
    → places_in cells (cell_at (at ++ last ∷ []) access) ≡ Some end
    → is_some (places_in cells (cell_at (at ++ (first +ℤ pos 1) ∷ []) access)) ≡ true
second_there cells at first last access None end lt start some stop = absurd (false≢true some)
second_there cells at first last access (Some place) end lt start some stop =
    let row = has_extents cells (cell_at (at ++ first ∷ []) access) place start in
    let subscripts : ℤ → List ℤ = λ v. map (λ form. form_at form (at ++ v ∷ [])) access.subscripts in
    let second : ℤ = first +ℤ pos 1 in
    let le : first ≤ℤ last = omega (arith, ints) in
    let from : first ≤ℤ (first +ℤ pos 1) = omega (arith, ints) in
    let to : (first +ℤ pos 1) ≤ℤ last = omega (arith, ints) in
    ap is_some (row.1 (subscripts second))
    ∙ placed_between row.0 access.subscripts at first last le place end (sym (row.1 (subscripts first)) ∙ start)
    (sym (row.1 (subscripts last)) ∙ stop) second from to

-- the line through the first place and the second
pub line_in_rows : {T : Type 0} (cells : Cells T) (at : List ℤ) (first last : ℤ) (access : Access) (place end next : ℕ)
    (line : Line)
    → first ≤ℤ last
    → places_in cells (cell_at (at ++ first ∷ []) access) ≡ Some place
    → places_in cells (cell_at (at ++ last ∷ []) access) ≡ Some end
    → (first <ℤ last → places_in cells (cell_at (at ++ (first +ℤ pos 1) ∷ []) access) ≡ Some next)
    → (last ≤ℤ first → next ≡ end)
    → line ≡ record { place = place; step = pos next -ℤ pos place } → IsShortLine line
    → IsLineOf (places_in cells) at first last access line
line_in_rows cells at first last access place end next line le start stop second none is short =
    let row = has_extents cells (cell_at (at ++ first ∷ []) access) place start in
    let subscripts : ℤ → List ℤ = λ v. map (λ form. form_at form (at ++ v ∷ [])) access.subscripts in
    record {
      short = short;
      places = λ v from to.
          row.1 (subscripts v)
          ∙ line_places row.0 access.subscripts at first last le place end next (sym (row.1 (subscripts first)) ∙ start)
          (sym (row.1 (subscripts last)) ∙ stop)
          (λ lt. sym (row.1 (subscripts (first +ℤ pos 1))) ∙ second lt) none v from to
          ∙ ap (λ (line : Line). Some (place_along line (v -ℤ first))) (sym is);
    }

-- items of lists
module _ {X : Type 0} where
  pub same_item : (xs : List X) (i : ℕ) (a b : X) → i < length xs → a ≡ get_or xs i a → b ≡ get_or xs i b → a ≡ b
  same_item [] i a b lt e f = absurd (omega arith)
  same_item (x ∷ xs) zero a b lt e f = e ∙ sym f
  same_item (x ∷ xs) (suc i) a b lt e f = same_item xs i a b (omega arith) e f

  pub item_is : (xs : List X) (i : ℕ) (d : X) → get_or xs i d ≡ get_or xs i (get_or xs i d)
  item_is [] i d = refl
  item_is (x ∷ xs) zero d = refl
  item_is (x ∷ xs) (suc i) d = item_is xs i d

  item_set : (xs : List X) (i : ℕ) (x l : X) → i < length xs → l ≡ get_or (set xs i x) i l → l ≡ x
  item_set [] i x l lt e = absurd (omega arith)
  item_set (y ∷ xs) zero x l lt e = e
  item_set (y ∷ xs) (suc i) x l lt e = item_set xs i x l (omega arith) e

  item_before : (xs : List X) (i j : ℕ) (x l : X) → i < j → l ≡ get_or (set xs j x) i l → l ≡ get_or xs i l
  item_before [] i j x l lt e = e
  item_before (y ∷ xs) i zero x l lt e = absurd (omega arith)
  item_before (y ∷ xs) zero (suc j) x l lt e = e
  item_before (y ∷ xs) (suc i) (suc j) x l lt e = item_before xs i j x l (omega arith) e

-- one line more
pub lines_more : (place_of : Places) (at : List ℤ) (first last : ℤ) (accesses : List Access) (lines : List Line)
    (slot : ℕ) (access : Access) (line : Line)
    → slot < length accesses → slot < length lines → access ≡ get_or accesses slot access
    → IsLineOf place_of at first last access line
    → AreLinesOf place_of at first last accesses lines slot
    → AreLinesOf place_of at first last accesses (set lines slot line) (slot + 1)
lines_more place_of at first last accesses lines slot access line within room is here before i lt a ea l el =
    elim (cases_lt i slot) [
      | inl earlier ↦ before i earlier a ea l (item_before lines i slot line l earlier el)
      | inr le ↦ (
          let e : i ≡ slot = omega arith in
          let which : a ≡ get_or accesses slot a = subst (λ (k : ℕ). a ≡ get_or accesses k a) e ea in
          let item : l ≡ get_or (set lines slot line) slot l =
          subst (λ (k : ℕ). l ≡ get_or (set lines slot line) k l) e el in
          let same = same_item accesses slot access a within is which in
          let set_here = item_set lines slot line l room item in
          subst (λ (x : Access). IsLineOf place_of at first last x l) same
          (subst (λ (x : Line). IsLineOf place_of at first last access x) (sym set_here) here))
    ]

pub lines_whole : (place_of : Places) (at : List ℤ) (first last : ℤ) (accesses items : List Access) (lines : List Line)
    (slot : ℕ)
    → items ≡ accesses → length items ≤ slot → AreLinesOf place_of at first last items lines slot
    → AreLinesOf place_of at first last accesses lines (length accesses)
lines_whole place_of at first last accesses items lines slot same le all i lt a ea l el =
    let count = ap length same in
    all i (omega arith) a (subst (λ (list : List Access). a ≡ get_or list i a) (sym same) ea) l el

-- whether each access of a statement has something
module _ (p : Access → Bool) (accesses items : List Access) (slot : ℕ) where
  pub all_more : (item : Access) → slot < length items → item ≡ get_or items slot item
      → list_all p (take slot items) ≡ true → p item ≡ true → list_all p (take (slot + 1) items) ≡ true
  all_more item lt is before here =
      list_all_more p items slot item lt ∙ ap (λ b. b && p (get_or items slot item)) before
      ∙ ap p (sym is) ∙ here

  pub all_whole : items ≡ accesses → length items ≤ slot → list_all p (take slot items) ≡ true
      → list_all p accesses ≡ true
  all_whole same le all = ap (list_all p) (sym same ∙ sym (take_all slot items le)) ∙ all

  pub all_and_write : (write : Option Access) (known : Access) (b : Bool) → list_all p accesses ≡ true
      → write ≡ Some known → b ≡ p known → b ≡ (list_all p accesses && option_map_or p write true)
  all_and_write write known b all is here =
      here ∙ sym (ap (λ w. option_map_or p w true) is)
      ∙ sym (ap (λ b. b && option_map_or p write true) all)

  pub all_without_write : (write : Option Access) → list_all p accesses ≡ true → write ≡ None
      → true ≡ (list_all p accesses && option_map_or p write true)
  all_without_write write all is =
      sym (ap (λ w. option_map_or p w true) is) ∙ sym (ap (λ b. b && option_map_or p write true) all)

pub placed_along : (place_of : Places) (at : List ℤ) (turn : ℤ) (accesses items : List Access) (lines : List Line)
    → items ≡ accesses → ArePlacedBy place_of at turn accesses lines (length accesses)
    → ArePlacedBy place_of at turn items lines (length items)
placed_along place_of at turn accesses items lines same all =
    subst (λ (list : List Access). ArePlacedBy place_of at turn list lines (length list)) (sym same) all

same_some : (o : Option Access) (a b : Access) → o ≡ Some a → o ≡ Some b → a ≡ b
same_some o a b e f = let g : ◌≡◌ {A = Option Access} (Some a) (Some b) = sym e ∙ f in cc g

pub write_line : (place_of : Places) (at : List ℤ) (first last : ℤ) (o : Option Access) (known : Access) (line : Line)
    → o ≡ Some known → IsLineOf place_of at first last known line → (access : Access) → o ≡ Some access
    → IsLineOf place_of at first last access line
write_line place_of at first last o known line e here access f =
    subst (λ (x : Access). IsLineOf place_of at first last x line) (same_some o known access e f) here

pub if_some_from : {X : Type 0} (P : X → Type 0) (o : Option X) (x : X) → o ≡ Some x → P x → IfSome o P
if_some_from P o x e h = let Q : Option _ → Type 0 = λ o. IfSome o P in subst Q (sym e) h

-- the places at one turn
pub placed_at_turn : (place_of : Places) (at inner : List ℤ) (first last v turn : ℤ) (access : Access) (line : Line)
    → IsLineOf place_of at first last access line → first ≤ℤ v → v ≤ℤ last → inner ≡ at ++ v ∷ [] → turn ≡ v -ℤ first
    → IsPlacedBy place_of inner turn access line
placed_at_turn place_of at inner first last v turn access line along from to longer is = record {
  short = along.short;
  place = ap (λ (list : List ℤ). place_of (cell_at list access)) longer ∙ along.places v from to
      ∙ ap (λ (t : ℤ). Some (place_along line t)) (sym is);
}

pub statement_placed : (place_of : Places) (at inner : List ℤ) (first last v turn : ℤ) (accesses : NarrowStatement)
    (lines : Lines)
    → AreStatementLines place_of at first last accesses lines → first ≤ℤ v → v ≤ℤ last → inner ≡ at ++ v ∷ []
    → turn ≡ v -ℤ first → IsStatementPlaced place_of inner turn accesses lines
statement_placed place_of at inner first last v turn accesses lines along from to longer is = record {
  reads = λ i lt a ea l el. placed_at_turn place_of at inner first last v turn a l
      (along.reads i lt a ea l el) from to longer is;
  write = λ access e. placed_at_turn place_of at inner first last v turn access lines.write
      (along.write access e) from to longer is;
}

turn_size : (first v : ℤ) → unsigned_abs first ≤ 134217728 → unsigned_abs v ≤ 134217728
    → unsigned_abs (v -ℤ first) ≤ 268435456
turn_size first v h k = omega (arith, ints)

between_small : (first last v : ℤ) → unsigned_abs first ≤ 134217728 → unsigned_abs last ≤ 134217728 → first ≤ℤ v
    → v ≤ℤ last → unsigned_abs v ≤ 134217728
between_small first last v h k from to = omega (arith, ints)

pub turn_is_short : (place_of : Places) (at : List ℤ) (first last v : ℤ) (accesses : NarrowStatement) (lines : Lines)
    → AreStatementLines place_of at first last accesses lines → first ≤ℤ v → v ≤ℤ last
    → unsigned_abs (v -ℤ first) ≤ 268435456
turn_is_short place_of at first last v accesses lines along from to =
    let f = small_size first along.first_small in
    turn_size first v f (between_small first last v f (small_size last along.last_small) from to)

-- where places stay, lines do
pub lines_kept : (old new : Places) (at : List ℤ) (first last : ℤ) (accesses : NarrowStatement) (lines : Lines)
    → new ≡ old
    → AreStatementLines old at first last accesses lines → AreStatementLines new at first last accesses lines
lines_kept old new at first last accesses lines same along =
    subst (λ (place_of : Places). AreStatementLines place_of at first last accesses lines) (sym same) along
