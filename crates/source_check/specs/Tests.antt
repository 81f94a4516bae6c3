-- How the proofs of a leaf are tested, one system after the other.
use Rattle.std.specs.Prelude.{ℕ, zero, suc, ◌+◌, ◌-◌, ◌^◌, ◌==◌, min, Bool, List, [], ◌∷◌, ◌++◌, map, length, slice_get, Option, Some, None, if◌then◌else◌}
use Rattle.std.specs.Option.{option_and_then, option_map, option_or}
use Rattle.affine_core.specs.declared.form.Form.{Form}
use Rattle.int_polyhedra.specs.declared.system.System.{System}
use Rattle.source_check.specs.declared.reference.Order.{Order}
use Rattle.source_check.specs.declared.tested.Leaf.{Leaf}
use Rattle.source_check.specs.declared.tested.Tested.{Tested}
use Rattle.source_check.specs.declared.verdict.Rule.{Rule}
use Rattle.source_check.specs.declared.verdict.Rule.TheVariants as rule
use Rattle.source_check.specs.Making.{system_with, system_with_all, forms_of, below_zero_of, less_of}
use Rattle.source_check.specs.Verdict.{made_system, refusal_of}
use Rattle.source_tree.specs.Places.{at_place}
use Rattle.source_tree.specs.Rows.{RowSystem, Take, row_form, equal_rows}

-- the rule of the leaf's proof of number k, if there is one and it doesn't refute the system
abbrev pub rule_of : Leaf → Option System → ℕ → Option Rule
rule_of leaf system k =
    option_and_then
    (λ proof. option_map (λ reason. rule.Proof leaf.number k reason) (refusal_of system proof))
    (slice_get leaf.proofs.now k)

-- before the first test
abbrev pub no_test : Tested
no_test = record { count = 0; rule = None }

-- after the test of the next proof
abbrev pub after_one : Leaf → Tested → Option System → Tested
after_one leaf t system = record {
  count = min (t.count + 1) (2 ^ 64 - 1);
  rule = option_or t.rule (rule_of leaf system t.count);
}

-- after the tests of these systems
abbrev pub after_all : Leaf → Tested → List (Option System) → Tested
after_all leaf t [] = t
after_all leaf t (system ∷ systems) = after_all leaf (after_one leaf t system) systems

-- these systems, where each can be made
abbrev pub made_systems : List RowSystem → List (Option System)
made_systems systems = map (λ s. made_system s.vars s.rows) systems

-- after the tests of these systems, where each can be made
abbrev pub after_made : Leaf → Tested → List RowSystem → Tested
after_made leaf t systems = after_all leaf t (made_systems systems)

-- what refuses a leaf after the tests of its systems
abbrev pub leaf_result : Leaf → Tested → Option Rule
leaf_result leaf t =
    if length leaf.proofs.now == t.count then t.rule
    else Some (rule.Proofs leaf.number (length leaf.proofs.now) t.count)

-- a place is outside a domain: a system for each row
abbrev pub made_outside : ℕ → Option System → List Form → List Form → List (Option System)
made_outside vars s rows place =
    map (λ row. system_with s (below_zero_of vars (row_form vars (at_place row place)))) rows

-- a subscript of a write differs from that of a read: two systems for each
abbrev pub made_differ :
    ℕ → Option System → List Form → List Form → List Form → List (Option System)
made_differ vars s [] reads place = []
made_differ vars s (write ∷ writes) [] place = []
made_differ vars s (write ∷ writes) (read ∷ reads) place =
    let written = row_form vars (at_place write place) in
    let wanted = row_form vars (Take read) in
    system_with s (less_of vars wanted written) ∷ system_with s (less_of vars written wanted)
    ∷ made_differ vars s writes reads place

-- a loop has one value at both places
abbrev pub with_loop : ℕ → Option System → Form → Form → Option System
with_loop vars s v w = system_with_all s (forms_of vars (equal_rows (Take v) (Take w)))

-- a loop is earlier at the first place
abbrev pub earlier_at : ℕ → Option System → Form → Form → Option System
earlier_at vars s v w =
    system_with s (less_of vars (row_form vars (Take v)) (row_form vars (Take w)))

-- one place stands before another: a system for each level
abbrev pub made_levels : ℕ → Option System → ℕ → Bool → List Form → List Form → List (Option System)
made_levels vars s zero less a b = if less then s ∷ [] else []
made_levels vars s (suc m) less [] b = []
made_levels vars s (suc m) less (v ∷ a) [] = []
made_levels vars s (suc m) less (v ∷ a) (w ∷ b) =
    earlier_at vars s v w ∷ made_levels vars (with_loop vars s v w) m less a b

-- the systems of each level of an order
abbrev pub made_order : ℕ → Option System → Order → List (Option System)
made_order vars s o = made_levels vars s o.common o.less o.first.now o.second.now

-- one place stands before another, and a further order holds: a system for each level of both
abbrev pub made_both :
    ℕ → Option System → ℕ → Bool → List Form → List Form → Order → List (Option System)
made_both vars s zero less a b further = if less then made_order vars s further else []
made_both vars s (suc m) less [] b further = []
made_both vars s (suc m) less (v ∷ a) [] further = []
made_both vars s (suc m) less (v ∷ a) (w ∷ b) further =
    made_order vars (earlier_at vars s v w) further
    ++ made_both vars (with_loop vars s v w) m less a b further
