-- What `clap` has found so far: the rows of the items and of the policy, and the argument whose values are being read.
--
-- Each of the two arguments has one row at most, and the rows stand in the order in which they came; one value at most
-- is pending. That makes five kinds of rows and three of what is pending, and each pair has one split into items and
-- policies (`split_in`, `with_pending`). Keeping what is pending either has no fault and leaves the rows of the same
-- split, or it is a second policy, which is a fault, and the split has two policies (`keeping`). All is by cases and
-- computed.
use Rattle.std.proofs.Common.{◌≡◌, refl, List, [], ◌∷◌, ◌++◌, Option, Some, None, false, codes}
use Rattle.clap.specs.Walk.{Row, Rule, reading_by, settled_rows}
use Rattle.clap.specs.Kinds.{Kinds}
use Rattle.clap.specs.Faults.{settle_fault}
use Rattle.clap.specs.Simple.{filled}
use Rattle.clap.specs.declared.error.kind.ErrorKind.TheVariants as kind
use Rattle.clap.specs.declared.parser.matches.ValueSource.TheVariants.{CommandLine}
use Rattle.clap.proofs.OnLiterals.{clap_on_literals}
use Rattle.command_line.specs.Words.{Text, Split}
use Rattle.command_line.proofs.ClapCommand.{rules, held, items_rule, policy_rule}

-- the rows that may be there, in the order in which they came
pub data Rows : Type 0 where
  neither : Rows
  items : List Text → Rows
  policy : Text → Rows
  items_policy : List Text → Text → Rows
  policy_items : Text → List Text → Rows

abbrev row : Rule → List Text → Row
row rule values =
    record {
      id = rule.id;
      values = values;
      count = None;
      source = Some CommandLine;
      reading =
          reading_by (filled rule);
    }

abbrev pub rows_in : Rows → List Row
rows_in neither = []
rows_in (items xs) = row items_rule xs ∷ []
rows_in (policy v) = row policy_rule (v ∷ []) ∷ []
rows_in (items_policy xs v) = row items_rule xs ∷ row policy_rule (v ∷ []) ∷ []
rows_in (policy_items v xs) = row policy_rule (v ∷ []) ∷ row items_rule xs ∷ []

-- what is read but not yet kept
pub data Pending : Type 0 where
  nothing : Pending
  item : Text → Pending
  value : Text → Pending

abbrev pub pending_in : Pending → Option (Text × List Text)
pending_in nothing = None
pending_in (item x) = Some (codes "items", x ∷ [])
pending_in (value v) = Some (codes "policy", v ∷ [])

-- the rows once it is kept
abbrev pub kept : Pending → Rows → Rows
kept nothing rows = rows
kept (item x) neither = items (x ∷ [])
kept (item x) (items xs) = items (xs ++ x ∷ [])
kept (item x) (policy v) = policy_items v (x ∷ [])
kept (item x) (items_policy xs v) = items_policy (xs ++ x ∷ []) v
kept (item x) (policy_items v xs) = policy_items v (xs ++ x ∷ [])
kept (value w) neither = policy w
kept (value w) (items xs) = items_policy xs w
kept (value w) (policy v) = policy w
kept (value w) (items_policy xs v) = items_policy xs w
kept (value w) (policy_items v xs) = items_policy xs w

abbrev pub split_in : Rows → Split
split_in neither = record { items = []; policies = [] }
split_in (items xs) = record { items = xs; policies = [] }
split_in (policy v) = record { items = []; policies = v ∷ [] }
split_in (items_policy xs v) = record { items = xs; policies = v ∷ [] }
split_in (policy_items v xs) = record { items = xs; policies = v ∷ [] }

abbrev pub with_pending : Pending → Split → Split
with_pending nothing split = split
with_pending (item x) split = record split { items = split.items ++ x ∷ [] }
with_pending (value v) split = record split { policies = split.policies ++ v ∷ [] }

pub rows-kept : (p : Pending) (r : Rows) → settled_rows rules (pending_in p) (rows_in r) ≡ rows_in (kept p r)
unfolding clap_on_literals
rows-kept nothing r = refl
rows-kept (item x) neither = refl
rows-kept (item x) (items xs) = refl
rows-kept (item x) (policy v) = refl
rows-kept (item x) (items_policy xs v) = refl
rows-kept (item x) (policy_items v xs) = refl
rows-kept (value w) neither = refl
rows-kept (value w) (items xs) = refl
rows-kept (value w) (policy v) = refl
rows-kept (value w) (items_policy xs v) = refl
rows-kept (value w) (policy_items v xs) = refl

-- whether what is pending can be kept: a second value of the policy can't
pub data Keeping (p : Pending) (r : Rows) (fault : Kinds) : Type 0 where
  clean : fault ≡ [] → with_pending p (split_in r) ≡ split_in (kept p r) → Keeping p r fault
  twice : (v w : Text) → fault ≡ kind.ArgumentConflict ∷ [] → (with_pending p (split_in r)).policies ≡ v ∷ w ∷ []
      → Keeping p r fault

pub keeping : (p : Pending) (r : Rows) → Keeping p r (settle_fault rules false (held (rows_in r) (pending_in p)))
unfolding clap_on_literals
keeping nothing r = clean refl refl
keeping (item x) neither = clean refl refl
keeping (item x) (items xs) = clean refl refl
keeping (item x) (policy v) = clean refl refl
keeping (item x) (items_policy xs v) = clean refl refl
keeping (item x) (policy_items v xs) = clean refl refl
keeping (value w) neither = clean refl refl
keeping (value w) (items xs) = clean refl refl
keeping (value w) (policy v) = twice v w refl refl
keeping (value w) (items_policy xs v) = twice v w refl refl
keeping (value w) (policy_items v xs) = twice v w refl refl
