-- Every dependence of a nest can be told.
--
-- The dependences are of all reads of the nest, in order, so each is of a read that its statement has: statement by
-- statement, the list of all reads has no other. Where nothing was swept every read has a tree; so none of the
-- dependences is by the last writers, which a dependence is for a read without a tree alone. Of what a tree gives
-- nothing is used.
use Rattle.std.proofs.Common.{◌≡◌, ◌≤◌, ◌+◌, ℕ, zero, suc, Bool, true, List, [], ◌∷◌, map, refl, sym, ap, ◌∙◌, arith}
use Rattle.std.specs.Prelude.{Option, Some, None, All, nat_lt, ◌||◌, is_some}
use Rattle.std.specs.List.{flat_map, list_all, range_with_len}
use Rattle.std.proofs.lemmas.Bool.{and_from}
use Rattle.std.proofs.lemmas.Bool.Decides.{nat_tests}
use Rattle.std.proofs.lemmas.List.Elements.{All-head, All-tail}
use Rattle.std.proofs.lemmas.List.Folds.{list_all-append, list_all-map}
use Rattle.sanlp.specs.Access.{read_count}
use Rattle.sanlp.specs.declared.nest.Nest.{Nest}
use Rattle.source_tree.specs.declared.cert.Origin.{Origin}
use Rattle.source_tree.specs.declared.cert.Origin.TheVariants.{Sweep, Tree}
use Rattle.deps_text.specs.Dependences.{AllHaveTrees, HasOrigin, HasTree, IsOriginOf, read_of, reads_at}
use Rattle.deps_text.specs.FireLines.{CanBeTold, can_be_told, is_tree}
use Rattle.deps_text.specs.declared.dependence.Dependence.{Dependence}
use Rattle.deps_text.specs.declared.swept.Swept.{Swept}

-- the statement has such a read
abbrev is_read : Nest → ℕ × ℕ → Bool
is_read n r = nat_lt r.1 (read_count n r.0)

reads_of_statement : (n : Nest) (s a m : ℕ) → a + m ≤ read_count n s
    → list_all (is_read n) (map (λ k. (s, k)) (range_with_len a m)) ≡ true
reads_of_statement n s a zero h = refl
reads_of_statement n s a (suc m) h =
    and_from (nat_lt a (read_count n s)) _ (grind (arith, nat_tests)) (reads_of_statement n s (a + 1) m (omega arith))

reads_of_statements : (n : Nest) (statements : List ℕ) → list_all (is_read n) (flat_map (reads_at n) statements) ≡ true
reads_of_statements n [] = refl
reads_of_statements n (s ∷ statements) =
    list_all-append (is_read n) (reads_at n s) (flat_map (reads_at n) statements)
    ∙ and_from _ _ (reads_of_statement n s 0 (read_count n s) (omega arith)) (reads_of_statements n statements)

-- a read that has no tree is told where something was swept
told_origin : (n : Nest) (s k : ℕ) (origin : Origin) (swept : Option Swept) → IsOriginOf n s k origin
    → (swept ≡ None → HasTree n s k) → (is_tree origin || is_some swept) ≡ true
told_origin n s k (Tree tree) swept is trees = refl
told_origin n s k Sweep (Some swept) is trees = refl
told_origin n s k Sweep None is trees = absurd (is (trees refl))

told_each : (n : Nest) (swept : Option Swept) (list : List Dependence)
    → list_all (λ d. is_read n (read_of d)) list ≡ true
    → All (HasOrigin n) list → (swept ≡ None → AllHaveTrees n)
    → list_all (can_be_told n swept) list ≡ true
told_each n swept [] reads origins trees = refl
told_each n swept (d ∷ list) reads origins trees =
    let is_one : is_read n (read_of d) ≡ true = grind (arith, nat_tests) in
    let others : list_all (λ d. is_read n (read_of d)) list ≡ true = grind (arith, nat_tests) in
    and_from _ _
    (and_from _ _ is_one
    (told_origin n d.statement d.read d.origin swept (All-head (HasOrigin n) d list origins)
    (λ none. trees none d.statement d.read (grind (arith, nat_tests)))))
    (told_each n swept list others (All-tail (HasOrigin n) d list origins) trees)

pub all_can_be_told : (n : Nest) → CanBeTold n
all_can_be_told n list swept are trees =
    told_each n swept list
    (sym (list_all-map (is_read n) read_of list) ∙ ap (list_all (is_read n)) are.reads
    ∙ reads_of_statements n _)
    are.origins trees
