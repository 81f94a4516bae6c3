-- The verdict on a whole tree, for a read that stands in the nest.
--
-- The check of a part, at the empty path and with the reader's loops as variables, is that of the whole tree: its
-- context is the reader's domain. So the verdict is the one that the rules give, it accepts exactly the checked trees,
-- and a checked tree is exact.
use Rattle.std.proofs.Common.{◌≡◌, ◌<◌, ℕ, List, length, get_or, refl, sym, ap, ◌∙◌, arith}
use Rattle.std.specs.Prelude.{Some, Result, slice_get, ◌↔◌}
use Rattle.std.specs.Option.{option_and_then, option_map, option_map_or}
use Rattle.std.proofs.lemmas.Option.{same_Some, slice_get_read}
use Rattle.sanlp.specs.Access.{read_count}
use Rattle.sanlp.specs.declared.nest.Access.{Access}
use Rattle.sanlp.specs.declared.nest.Nest.{Nest}
use Rattle.sanlp.specs.declared.nest.Statement.{Statement}
use Rattle.sanlp.proofs.Enumerates.{enumerates_domains}
use Rattle.source_check.specs.declared.path.Path.TheVariants.{Root}
use Rattle.source_check.specs.declared.verdict.Rule.{Rule}
use Rattle.source_check.specs.declared.verdict.TreeVerdict.{TreeVerdict}
use Rattle.source_check.specs.declared.verdict.TreeVerdict.TheVariants.{Accepted}
use Rattle.source_check.specs.Paths.{path_rows}
use Rattle.source_check.specs.Verdict.{check_from, verdict, verdict_of}
use Rattle.source_check.proofs.Contexts.{path_root}
use Rattle.source_check.proofs.Exactness.{checked_is_exact}
use Rattle.source_check.proofs.Verdicts.{accepted_is_checked}
use Rattle.source_tree.specs.Checked.{IsChecked}
use Rattle.source_tree.specs.Exact.{IsExact}
use Rattle.source_tree.specs.Systems.{Context, Occurrence, read_at}
use Rattle.source_tree.specs.declared.tree.Tree.{Tree}

-- the read of this number, where the statement has so many
pub read_found : (n : Nest) (s k : ℕ) (statement : Statement) (reads : List Access) (access : Access)
    → slice_get n.statements s ≡ Some statement
    → reads ≡ statement.reads → k < read_count n s → access ≡ get_or reads k access
    → slice_get statement.reads k ≡ Some access
read_found n s k statement reads access found is within at =
    let count : read_count n s ≡ length statement.reads =
    ap (λ o. option_map_or (λ (s : Statement). length s.reads) o 0) found in
    slice_get_read statement.reads (length statement.reads) k access refl (omega (arith, within, count))
    (at ∙ ap (λ reads. get_or reads k access) is)

module _ (n : Nest) (s k : ℕ) (statement : Statement) (access : Access)
    (found : slice_get n.statements s ≡ Some statement)
    (read : slice_get statement.reads k ≡ Some access) (tree : Tree) (vars : ℕ) (v : TreeVerdict) (o : Result ℕ Rule)
    (vars_is : vars ≡ length statement.loops) where
  abbrev pub whole : Occurrence
  whole = record { number = s; statement = statement; access = access }

  abbrev pub root_over : ℕ → Context
  root_over vars = record { vars = vars; rows = path_rows statement.rows Root }

  read_is : read_at n s k ≡ Some whole
  read_is =
      ap (option_and_then
      (λ (st : Statement).
      option_map (λ (access : Access). record { number = s; statement = st; access = access })
      (slice_get st.reads k))) found
      ∙ ap (option_map (λ (access : Access). record { number = s; statement = statement; access = access })) read

  module _ (o_is : o ≡ check_from n whole tree 0 (root_over vars)) (v_is : v ≡ verdict_of o) where
    verdict_is : v ≡ verdict n whole tree
    verdict_is =
        v_is
        ∙ ap verdict_of
        (o_is ∙ ap (λ vars. check_from n whole tree 0 (root_over vars)) vars_is
        ∙ ap (λ rows. check_from n whole tree 0 (record { vars = length statement.loops; rows = rows }))
        (path_root statement.rows))

    pub exact_verdict : (r : Occurrence) → read_at n s k ≡ Some r → v ≡ verdict n r tree
    exact_verdict r is = verdict_is ∙ ap (λ r. verdict n r tree) (same_Some whole r (sym read_is ∙ is))

    pub accepted_checked : (v ≡ Accepted) ↔ IsChecked n s k tree
    accepted_checked = (
      λ e. (whole, read_is, (accepted_is_checked n whole tree).0 (sym verdict_is ∙ e)),
      λ h. exact_verdict h.0 h.1 ∙ (accepted_is_checked n h.0 tree).1 h.2,
    )

    pub accepted_exact : v ≡ Accepted → IsExact n s k tree
    accepted_exact e = checked_is_exact n s k tree (enumerates_domains n) (accepted_checked.0 e)
