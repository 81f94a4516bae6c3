-- No source is refused exactly where every tree is usable.
--
-- Both ways, read by read: a tree isn't refused where its verdict is that it is accepted, which is that it is checked,
-- and where no outcome at a point of its reader is an overflow. Which read is told first is a matter of Choices and not
-- of this file.
use Rattle.std.proofs.Common.{◌≡◌, ◌<◌, ℕ, ℤ, List, [], length, get_or, refl, sym, ap, ◌∙◌, arith}
use Rattle.std.specs.Prelude.{Option, Some, None, slice_get}
use Rattle.std.specs.Option.{option_and_then, option_map, option_map_or, option_or}
use Rattle.std.proofs.lemmas.Option.{slice_get_within, get_or_from_slice_get, slice_get-get_or}
use Rattle.sanlp.specs.Access.{read_count}
use Rattle.sanlp.specs.declared.nest.Access.{Access}
use Rattle.sanlp.specs.declared.nest.Nest.{Nest}
use Rattle.sanlp.specs.declared.nest.Statement.{Statement}
use Rattle.sanlp.specs.Points.{points_of}
use Rattle.source_check.specs.declared.verdict.Rule.{Rule}
use Rattle.source_check.specs.declared.verdict.Rule.TheVariants as rule
use Rattle.source_check.specs.declared.verdict.TreeVerdict.{TreeVerdict}
use Rattle.source_check.specs.declared.verdict.TreeVerdict.TheVariants as tree_verdict
use Rattle.source_check.specs.Verdict.{verdict}
use Rattle.source_check.proofs.Verdicts.{accepted_is_checked}
use Rattle.source_tree.specs.declared.cert.Cert.{Cert}
use Rattle.source_tree.specs.declared.cert.Origin.{Origin}
use Rattle.source_tree.specs.declared.cert.Origin.TheVariants as origin
use Rattle.source_tree.specs.declared.tree.Found.{Found}
use Rattle.source_tree.specs.declared.tree.Tree.{Tree}
use Rattle.source_tree.specs.Sources.{read_number}
use Rattle.source_tree.specs.Systems.{Occurrence, read_at}
use Rattle.source_tree.specs.Walk.{outcome_of}
use Rattle.net_checker.specs.declared.verdict.Refusal.{Refusal}
use Rattle.net_checker.specs.declared.verdict.Refusal.TheVariants as refusal
use Rattle.net_checker.specs.Sources.{refusing_rule, overflow_at, first_overflow, tree_refusal, origin_refusal}
use Rattle.net_checker.specs.Sources.{reads_refusal, source_refusal, IsUsable, AreUsable}
use Rattle.net_checker.proofs.Choices.{or_none, first_found, first_none, none_first}
use Rattle.plain_data.proofs.Lists.{slice_get-some}

-- a statement with a read is there, and so is the read
pub read_there : (n : Nest) (s k : ℕ) → k < read_count n s → (r : Occurrence) × (read_at n s k ≡ Some r)
read_there n s k lt = go (slice_get n.statements s) refl lt where
  go : (o : Option Statement) → slice_get n.statements s ≡ o
      → k < option_map_or (λ (st : Statement). length st.reads) o 0 → (r : Occurrence) × (read_at n s k ≡ Some r)
  go None is few = absurd (omega arith)
  go (Some st) is few =
      let read = slice_get-some st.reads k few in (
        record { number = s; statement = st; access = read.0 },
        ap (option_and_then (λ (st : Statement). option_map
            (λ (access : Access). record { number = s; statement = st; access = access }) (slice_get st.reads k))) is
            ∙ ap (option_map (λ (access : Access). record { number = s; statement = st; access = access })) read.1,
      )

pub statement_there : (n : Nest) (s k : ℕ) → k < read_count n s → s < length n.statements
statement_there n s k lt = go (slice_get n.statements s) refl lt where
  go : (o : Option Statement) → slice_get n.statements s ≡ o
      → k < option_map_or (λ (st : Statement). length st.reads) o 0 → s < length n.statements
  go None is few = absurd (omega arith)
  go (Some st) is few = slice_get_within n.statements s st is

-- the verdict
none_accepted : (v : TreeVerdict) → refusing_rule v ≡ None → v ≡ tree_verdict.Accepted
none_accepted tree_verdict.Accepted h = refl
none_accepted (tree_verdict.Refused x) h = absurd (let e : Some x ≡ None = h in cc)

-- the points of the reader
overflow_none : (f : ℕ) (o : Option Found) → (o ≡ None → ⊥) → overflow_at f o ≡ None
overflow_none f None h = absurd (h refl)
overflow_none f (Some found) h = refl

none_overflow : (f : ℕ) (o : Option Found) → overflow_at f o ≡ None → o ≡ None → ⊥
none_overflow f None h e = let g : Some (rule.Overflow f) ≡ None = h in cc
none_overflow f (Some found) h e = cc

-- the tree overflows at none of these points
abbrev pub NeverOverflows : Tree → List (List ℤ) → Type 0
NeverOverflows tree vectors = (f : ℕ) (at : List ℤ) → slice_get vectors f ≡ Some at → outcome_of tree at ≡ None → ⊥

abbrev pub at_vector : Tree → List (List ℤ) → ℕ → Option Rule
at_vector tree vectors f = overflow_at f (outcome_of tree (get_or vectors f []))

pub never_none : (tree : Tree) (vectors : List (List ℤ)) → NeverOverflows tree vectors → first_overflow tree vectors
    ≡ None
never_none tree vectors never =
    first_none (at_vector tree vectors) (length vectors)
    (λ f lt. overflow_none f (outcome_of tree (get_or vectors f []))
    (never f (get_or vectors f []) (slice_get-get_or vectors f [] lt)))

none_never : (tree : Tree) (vectors : List (List ℤ)) → first_overflow tree vectors ≡ None → NeverOverflows tree vectors
none_never tree vectors h f at is =
    let here : overflow_at f (outcome_of tree at) ≡ None =
    ap (λ at. overflow_at f (outcome_of tree at)) (sym (get_or_from_slice_get vectors f at [] is))
    ∙ none_first (at_vector tree vectors) (length vectors) h f (slice_get_within vectors f at is) in
    none_overflow f (outcome_of tree at) here

module _ (n : Nest) (s k : ℕ) (tree : Tree) where
  abbrev refused_by : Option Occurrence → Option Refusal
  refused_by o = option_map (refusal.Source s k) (option_and_then (tree_refusal n s tree) o)

  -- one tree
  usable_none : IsUsable n s k tree → origin_refusal n s k (Some (origin.Tree tree)) ≡ None
  usable_none usable =
      let r = usable.checked.0 in
      let accepted : verdict n r tree ≡ tree_verdict.Accepted = (accepted_is_checked n r tree).1 usable.checked.2 in
      ap refused_by usable.checked.1
      ∙ ap (λ v. option_map (refusal.Source s k)
      (option_or (refusing_rule v) (first_overflow tree (get_or (points_of n) s [])))) accepted
      ∙ ap (option_map (refusal.Source s k)) (never_none tree (get_or (points_of n) s []) usable.fits)

  no_map : (o : Option Rule) → option_map (refusal.Source s k) o ≡ None → o ≡ None
  no_map None h = refl
  no_map (Some x) h = absurd (let e : Some (refusal.Source s k x) ≡ None = h in cc)

  none_usable : k < read_count n s → origin_refusal n s k (Some (origin.Tree tree)) ≡ None → IsUsable n s k tree
  none_usable lt h =
      let read = read_there n s k lt in
      let none : tree_refusal n s tree read.0 ≡ None =
      no_map (tree_refusal n s tree read.0) (sym (ap refused_by read.1) ∙ h) in
      let parts = or_none (refusing_rule (verdict n read.0 tree)) (first_overflow tree (get_or (points_of n) s [])) none
      in
      record {
        checked = (
          read.0,
          read.1,
          (accepted_is_checked n read.0 tree).0 (none_accepted (verdict n read.0 tree) parts.0),
        );
        fits = none_never tree (get_or (points_of n) s []) parts.1;
      }

-- what the code finds of one tree
module _ (n : Nest) (s k : ℕ) (tree : Tree) (lt : k < read_count n s) (v : TreeVerdict)
    (exact : (r : Occurrence) → read_at n s k ≡ Some r → v ≡ verdict n r tree) where
  judged : (v' : TreeVerdict) → v ≡ v' → option_or (refusing_rule v') (first_overflow tree (get_or (points_of n) s []))
      ≡ option_and_then (tree_refusal n s tree) (read_at n s k)
  judged v' is =
      let read = read_there n s k lt in
      ap (λ v. option_or (refusing_rule v) (first_overflow tree (get_or (points_of n) s [])))
      (sym is ∙ exact read.0 read.1)
      ∙ sym (ap (option_and_then (tree_refusal n s tree)) read.1)

  pub accepted_judged : (o : Option Rule) → v ≡ tree_verdict.Accepted → o
      ≡ first_overflow tree (get_or (points_of n) s []) → o ≡ option_and_then (tree_refusal n s tree) (read_at n s k)
  accepted_judged o is overflow = overflow ∙ judged tree_verdict.Accepted is

  pub refused_judged : (x : Rule) → v ≡ tree_verdict.Refused x → Some x
      ≡ option_and_then (tree_refusal n s tree) (read_at n s k)
  refused_judged x is = judged (tree_verdict.Refused x) is

pub overflow_found : (tree : Tree) (vectors : List (List ℤ)) (f : ℕ) (at : List ℤ) → slice_get vectors f ≡ Some at
    → ((j : ℕ) → j < f → at_vector tree vectors j ≡ None) → outcome_of tree at ≡ None
    → Some (rule.Overflow f) ≡ first_overflow tree vectors
overflow_found tree vectors f at is before none =
    sym (first_found (at_vector tree vectors) (length vectors) f (rule.Overflow f) before
    (slice_get_within vectors f at is)
    (ap (λ at. overflow_at f (outcome_of tree at)) (get_or_from_slice_get vectors f at [] is)
    ∙ ap (overflow_at f) none))

pub overflow_passed : (tree : Tree) (vectors : List (List ℤ)) (f : ℕ) (at : List ℤ) (found : Found)
    → slice_get vectors f ≡ Some at → outcome_of tree at ≡ Some found → at_vector tree vectors f ≡ None
overflow_passed tree vectors f at found is some =
    ap (λ at. overflow_at f (outcome_of tree at)) (get_or_from_slice_get vectors f at [] is) ∙ ap (overflow_at f) some

-- all reads
module _ (n : Nest) (cert : Cert) where
  abbrev pub at_read : ℕ → ℕ → Option Refusal
  at_read s k = origin_refusal n s k (slice_get cert.sources (read_number n s k))

  -- what the code finds of one read
  pub read_judged : (s k i : ℕ) (o : Origin) (found : Option Refusal) → i ≡ read_number n s k
      → slice_get cert.sources i ≡ Some o → found ≡ origin_refusal n s k (Some o) → at_read s k ≡ found
  read_judged s k i o found here said is =
      ap (origin_refusal n s k) (ap (slice_get cert.sources) (sym here) ∙ said) ∙ sym is

  pub reads_found : (s k : ℕ) (x : Refusal) → k < read_count n s → ((j : ℕ) → j < k → at_read s j ≡ None) → at_read s k
      ≡ Some x → Some x ≡ reads_refusal n cert s
  reads_found s k x lt before is = sym (first_found (at_read s) (read_count n s) k x before lt is)

  pub reads_fine : (s : ℕ) → ((j : ℕ) → j < read_count n s → at_read s j ≡ None) → None ≡ reads_refusal n cert s
  reads_fine s each = sym (first_none (at_read s) (read_count n s) each)

  pub sources_found : (s : ℕ) (x : Refusal) → s < length n.statements
      → ((j : ℕ) → j < s → reads_refusal n cert j ≡ None) → Some x ≡ reads_refusal n cert s → Some x
      ≡ source_refusal n cert
  unfolding source_refusal
  sources_found s x lt before is = sym (first_found (reads_refusal n cert) (length n.statements) s x before lt (sym is))

  pub sources_fine : ((j : ℕ) → j < length n.statements → reads_refusal n cert j ≡ None) → None ≡ source_refusal n cert
  unfolding source_refusal
  sources_fine each = sym (first_none (reads_refusal n cert) (length n.statements) each)

  pub none_are_usable : source_refusal n cert ≡ None → AreUsable n cert
  unfolding source_refusal
  none_are_usable h s k tree lt is =
      none_usable n s k tree lt
      (sym (ap (origin_refusal n s k) is)
      ∙ none_first (at_read s) (read_count n s)
      (none_first (reads_refusal n cert) (length n.statements) h s (statement_there n s k lt)) k lt)

  pub usable_are_none : AreUsable n cert → source_refusal n cert ≡ None
  unfolding source_refusal
  usable_are_none usable =
      first_none (reads_refusal n cert) (length n.statements)
      (λ s lt. first_none (at_read s) (read_count n s)
      (λ k few. origin_none s k few (slice_get cert.sources (read_number n s k)) refl)) where
        origin_none : (s k : ℕ) → k < read_count n s → (o : Option Origin) → slice_get cert.sources (read_number n s k)
            ≡ o → origin_refusal n s k o ≡ None
        origin_none s k few None is = refl
        origin_none s k few (Some origin.Sweep) is = refl
        origin_none s k few (Some (origin.Tree tree)) is = usable_none n s k tree (usable s k tree few is)
