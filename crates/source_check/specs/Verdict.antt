-- The first leaf of a tree that breaks a rule, and the least rule that it breaks.
use Rattle.std.specs.Prelude.{ℕ, ◌+◌, ◌-◌, ◌^◌, ◌==◌, min, ℤ, pos, Bool, true, ◌&&◌, nat_lt, int_le, List, [], ◌∷◌, length, slice_get, Option, Some, None, Result, Ok, Err, if◌then◌else◌}
use Rattle.std.specs.Option.{option_map, option_map_or}
use Rattle.affine_core.specs.declared.form.Form.{Form}
use Rattle.int_polyhedra.specs.declared.system.Proof.{Proof}
use Rattle.int_polyhedra.specs.declared.system.Reason.{Reason}
use Rattle.int_polyhedra.specs.declared.system.Reason.TheVariants.{Overflow}
use Rattle.int_polyhedra.specs.declared.system.System.{System}
use Rattle.int_polyhedra.specs.Refusal.{refusal}
use Rattle.sanlp.specs.declared.nest.Nest.{Nest}
use Rattle.sanlp.specs.declared.nest.Statement.{Statement}
use Rattle.source_check.specs.declared.verdict.Rule.{Rule}
use Rattle.source_check.specs.declared.verdict.Rule.TheVariants as rule
use Rattle.source_check.specs.declared.verdict.TreeVerdict.{TreeVerdict}
use Rattle.source_check.specs.declared.verdict.TreeVerdict.TheVariants.{Accepted, Refused}
use Rattle.source_tree.specs.Rows.{RowExpr, RowSystem, row_forms}
use Rattle.source_tree.specs.Systems.{Occurrence, Context, every, named_write, root_context, test_yes, test_no, divides_yes, divides_no, writer_systems, zero_systems, dead_systems}
use Rattle.source_tree.specs.Walk.{are_over}
use Rattle.source_tree.specs.declared.tree.Tree.{Tree}
use Rattle.source_tree.specs.declared.tree.Tree.TheOpen.{Tree-F, Test, Divides, Writer, Zero, Dead}
use Rattle.source_tree.specs.declared.tree.Tree.TheFolds.{fold-Tree}

-- the system of rows that are made, unless one can't be made within 128 bits
abbrev pub made_system : ℕ → List RowExpr → Option System
made_system vars rows =
    option_map (λ forms. record { vars = vars; rows = forms }) (row_forms vars rows)

-- what refuses a proof of a system: `Overflow` where it can't be made
abbrev pub refusal_of : Option System → Proof → Option Reason
refusal_of system proof = option_map_or (λ s. refusal s.vars proof s.rows) system (Some Overflow)

abbrev pub system_refusal : RowSystem → Proof → Option Reason
system_refusal system proof = refusal_of (made_system system.vars system.rows) proof

-- the rule of the proof of this number where something refuses it, and else what follows
abbrev pub proof_rule : ℕ → ℕ → Option Reason → Option Rule → Option Rule
proof_rule leaf k None later = later
proof_rule leaf k (Some reason) later = Some (rule.Proof leaf k reason)

-- the first proof, from number k on, that doesn't refute its system
abbrev pub proofs_refusal : ℕ → ℕ → List RowSystem → List Proof → Option Rule
proofs_refusal leaf k [] proofs = None
proofs_refusal leaf k (system ∷ systems) [] = None
proofs_refusal leaf k (system ∷ systems) (proof ∷ proofs) =
    proof_rule leaf k (system_refusal system proof) (proofs_refusal leaf (k + 1) systems proofs)

-- what refuses the proofs of a leaf with these systems: first that they are not as many
abbrev pub leaf_refusal : ℕ → List RowSystem → List Proof → Option Rule
leaf_refusal leaf systems proofs =
    if length proofs == length systems then proofs_refusal leaf 0 systems proofs
    else Some (rule.Proofs leaf (length proofs) (length systems))

-- A map whose forms have as many variables as there are, and, where the statement exists, as many
-- forms as it has loops.
abbrev pub map_fits : Nest → ℕ → ℕ → List Form → Bool
map_fits n vars s place =
    are_over vars place
    && option_map_or (λ (st : Statement). length place == length st.loops)
    (slice_get n.statements s) true

abbrev pub named_refusal :
    Nest → Occurrence → ℕ → Context → List Form → List Proof → Option Occurrence → Option Rule
named_refusal n r leaf c place proofs None = Some (rule.NoWriter leaf)
named_refusal n r leaf c place proofs (Some w) =
    leaf_refusal leaf (writer_systems n r every c w place) proofs

-- what refuses a Writer leaf: its map, then its statement, then its proofs
abbrev pub writer_refusal :
    Nest → Occurrence → ℕ → Context → ℕ → List Form → List Proof → Option Rule
writer_refusal n r leaf c s place proofs =
    if map_fits n c.vars s place then named_refusal n r leaf c place proofs (named_write n r s)
    else Some (rule.BadForm leaf)

-- leaves are numbered up to 2^64 - 1
abbrev pub next_leaf : ℕ → ℕ
next_leaf leaf = min (leaf + 1) (2 ^ 64 - 1)

-- the number of the next leaf, unless a rule refuses this one
abbrev pub leaf_end : ℕ → Option Rule → Result ℕ Rule
leaf_end leaf None = Ok (next_leaf leaf)
leaf_end leaf (Some rule) = Err rule

-- the leaves of one part of a tree, and then those of another
abbrev pub then_leaves : Result ℕ Rule → (ℕ → Result ℕ Rule) → Result ℕ Rule
then_leaves (Ok leaf) next = next leaf
then_leaves (Err rule) next = Err rule

-- a divisor of at least 2, and at most 6 quotients on the path
abbrev pub divisor_fits : Occurrence → Context → ℤ → Bool
divisor_fits r c d = int_le (pos 2) d && nat_lt c.vars (length r.statement.loops + 6)

-- from the number of its first leaf and its context to the number of the next leaf, or to the rule
-- that refuses
abbrev pub Checks : Type 0
Checks = ℕ → Context → Result ℕ Rule

-- a wrong form or divisor refuses the first leaf below it
abbrev pub check_step : Nest → Occurrence → Tree-F Checks → Checks
check_step n r (Test form above below) leaf c =
    if length form.coefs == c.vars
    then then_leaves (above leaf (test_yes c form)) (λ next. below next (test_no c form))
    else Err (rule.BadForm leaf)
check_step n r (Divides form d above below) leaf c =
    if length form.coefs == c.vars && divisor_fits r c d
    then then_leaves (above leaf (divides_yes c form d)) (λ next. below next (divides_no c form d))
    else Err (rule.BadForm leaf)
check_step n r (Writer s place proofs) leaf c =
    leaf_end leaf (writer_refusal n r leaf c s place proofs)
check_step n r (Zero proofs) leaf c =
    leaf_end leaf (leaf_refusal leaf (zero_systems n r every c) proofs)
check_step n r (Dead proof) leaf c = leaf_end leaf (leaf_refusal leaf (dead_systems c) (proof ∷ []))

unfoldable pub check_from : Nest → Occurrence → Tree → Checks
check_from n r = fold-Tree Checks (check_step n r)

abbrev pub verdict_of : Result ℕ Rule → TreeVerdict
verdict_of (Ok leaf) = Accepted
verdict_of (Err rule) = Refused rule

-- the verdict on a tree for this read
abbrev pub verdict : Nest → Occurrence → Tree → TreeVerdict
verdict n r tree = verdict_of (check_from n r tree 0 (root_context r))
