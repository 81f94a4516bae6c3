-- What a context shows it shows with one row more.
--
-- Terms name rows by number, and the rows so far keep theirs, so the same terms show the same in the longer context
-- (`fact_behind`). What is made of such terms follows part by part: equal loops, orders, the rows of a node's own
-- context, and the chain of what was seen. Nothing here uses the new row.
use Rattle.std.proofs.Common.{◌≡◌, ℕ, List, [], ◌∷◌, ◌++◌, length, sym, ap, ◌∙◌}
use Rattle.std.specs.Prelude.{Option, Some, None}
use Rattle.std.specs.List.{AllZip}
use Rattle.affine_core.specs.declared.form.Form.{Form}
use Rattle.int_polyhedra.specs.declared.system.System.{System}
use Rattle.int_polyhedra.specs.declared.system.Term.{Term}
use Rattle.tree_order.specs.Orders.{difference_parts, strict_parts, AreEqual, DecidesAt, IsOrder}
use Rattle.tree_order.specs.Positions.{IsAt, IsNode}
use Rattle.tree_order.specs.Seen.{Sighting, without, before, passed, AreSeen, StandsBefore}
use Rattle.tree_order.specs.declared.candidates.Candidate.{Candidate}
use Rattle.tree_order.specs.declared.candidates.Read.{Read}
use Rattle.tree_order.specs.declared.order.Equality.{Equality}
use Rattle.tree_order.specs.declared.order.Order.{Order}
use Rattle.tree_order.specs.declared.seen.Position.{Position}
use Rattle.tree_graphs.specs.Asked.{write_of}
use Rattle.tree_graphs.specs.Facts.{form_parts, IsFact}
use Rattle.tree_graphs.proofs.FactSums.{fact_behind}
use Rattle.source_tree.specs.Systems.{Occurrence}
use Rattle.source_tree.specs.declared.tree.Tree.{Tree}

module _ (context more : System) (row : Form) (is : more ≡ record context { rows = context.rows ++ row ∷ [] }) where
  pub equal_behind : (most : ℕ) (z y : List Form) (equal : List Equality) → AreEqual context most z y equal
      → AreEqual more most z y equal
  equal_behind most z y [] h = tt
  equal_behind most [] y (e ∷ equal) h = absurd h
  equal_behind most (a ∷ z) [] (e ∷ equal) h = absurd h
  equal_behind most (a ∷ z) (b ∷ y) (e ∷ equal) h = (
    (
      fact_behind context more most (difference_parts a b) e.above row is h.0.0,
      fact_behind context more most (difference_parts b a) e.below row is h.0.1,
    ),
    equal_behind most z y equal h.1,
  )

  pub decides_behind : (most : ℕ) (u w : Occurrence) (z y : List Form) (l : ℕ) (strict : Option (List Term))
      → DecidesAt context most u w z y l strict → DecidesAt more most u w z y l strict
  decides_behind most u w z y l (Some ts) h = (
    h.0,
    record {
      a = h.1.a;
      b = h.1.b;
      first = h.1.first;
      second = h.1.second;
      fact = fact_behind context more most (strict_parts h.1.b h.1.a) ts row is h.1.fact;
    },
  )
  decides_behind most u w z y l None h = h

  pub order_behind : (most : ℕ) (u w : Occurrence) (z y : List Form) (order : Order)
      → IsOrder context most u w z y order → IsOrder more most u w z y order
  order_behind most u w z y order h = record {
    equal = equal_behind most z y order.equal h.equal;
    decides = decides_behind most u w z y (length order.equal) order.strict h.decides;
  }

  pub shown_behind : (rows : List Form) (sums : List (List Term))
      → AllZip (λ row ts. IsFact context 65536 (form_parts row) ts) rows sums
      → AllZip (λ row ts. IsFact more 65536 (form_parts row) ts) rows sums
  shown_behind [] [] h = tt
  shown_behind [] (ts ∷ sums) h = absurd h
  shown_behind (f ∷ rows) [] h = absurd h
  shown_behind (f ∷ rows) (ts ∷ sums) h =
      (fact_behind context more 65536 (form_parts f) ts row is h.0, shown_behind rows sums h.1)

  pub node_behind : (c : Candidate) (node : Tree) (sums : List (List Term)) → IsNode context c node sums
      → IsNode more c node sums
  node_behind c node sums h = record {
    own = h.own;
    made = h.made;
    vars = h.vars ∙ sym (ap (λ (s : System). s.vars) is);
    are_made = h.are_made;
    checked = h.checked;
    shown = shown_behind h.made sums h.shown;
    tests = h.tests;
    simple = h.simple;
    few = h.few;
  }

  pub at_behind : (r : Read) (at : Position) → IsAt r context at → IsAt r more at
  at_behind r at h =
      record { candidate = h.candidate; node = node_behind at.candidate.now at.node.now at.rows h.node }

  pub stands_behind : (most : ℕ) (first second : Position) (order : Order)
      → StandsBefore context most first second order → StandsBefore more most first second order
  stands_behind most first second order h = record {
    z = h.z;
    y = h.y;
    first_at = h.first_at;
    second_at = h.second_at;
    stands = order_behind most (write_of first.candidate.now.writes)
        (write_of second.candidate.now.writes) h.z h.y order h.stands;
  }

  pub seen_behind : (r : Read) (best : Option Position) (sightings : List Sighting) → AreSeen r context best sightings
      → AreSeen r more best sightings
  seen_behind r best [] h = tt
  seen_behind r best (without at ∷ rest) h = ((at_behind r at h.0.0, h.0.1), seen_behind r best rest h.1)
  seen_behind r None (before at order ∷ rest) h = absurd h
  seen_behind r (Some best) (before at order ∷ rest) h =
      ((at_behind r at h.0.0, stands_behind 65536 at best order h.0.1), seen_behind r (Some best) rest h.1)
  seen_behind r None (passed at order ∷ rest) h = absurd h
  seen_behind r (Some best) (passed at order ∷ rest) h =
      ((at_behind r at h.0.0, stands_behind 65536 at best order h.0.1), seen_behind r (Some at) rest h.1)
