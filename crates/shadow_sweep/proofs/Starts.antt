-- The lists of the reads, and the numbers of the first reads, as they are made.
use Rattle.std.proofs.Common.{◌≡◌, ◌<◌, ◌+◌, ℕ, List, [], ◌∷◌, ◌++◌, map, length, take, get_or, sym, ap, ◌∙◌, arith}
use Rattle.std.specs.Prelude.{Option, replicate}
use Rattle.std.specs.List.{sum_by, range_with_len}
use Rattle.std.proofs.lemmas.List.{length-replicate, replicate-append-replicate}
use Rattle.std.proofs.lemmas.List.Sums.{sum_by_more}
use Rattle.std.proofs.lemmas.List.FromFn.{map-range_with_len_more}
use Rattle.sanlp.specs.declared.nest.Nest.{Nest}
use Rattle.sanlp.specs.declared.nest.Statement.{Statement}
use Rattle.sanlp.specs.declared.nest.Tag.{Tag}
use Rattle.source_tree.specs.Sources.{read_number}

pub lists_started : (statements items : List Statement) (i : ℕ) (s : Statement) (lists after : List (List (Option Tag)))
    (count : ℕ)
    → items ≡ statements → i < length items → s ≡ get_or items i s → count ≡ length s.reads
    → lists ≡ replicate (sum_by (λ x. length x.reads) (take i statements)) [] → after ≡ lists ++ replicate count []
    → after ≡ replicate (sum_by (λ x. length x.reads) (take (i + 1) statements)) []
lists_started statements items i s lists after count same lt is counts was e =
    let within : i < length statements = omega (arith, ap length same) in
    let here : s ≡ get_or statements i s = is ∙ ap (λ xs. get_or xs i s) same in
    e ∙ ap (λ ls. ls ++ replicate count []) was
    ∙ replicate-append-replicate (sum_by (λ x. length x.reads) (take i statements)) count []
    ∙ ap (λ k. replicate (sum_by (λ x. length x.reads) (take i statements) + k) [])
    (counts ∙ ap (λ x. length x.reads) here)
    ∙ ap (λ k. replicate k []) (sym (sum_by_more (λ x. length x.reads) statements i s within))

pub first_started : (n : Nest) (i number : ℕ) (lists : List (List (Option Tag))) (firsts after : List ℕ)
    → number ≡ length lists → lists ≡ replicate (sum_by (λ x. length x.reads) (take i n.statements)) []
    → firsts ≡ map (λ p. read_number n p 0) (range_with_len 0 i) → after ≡ firsts ++ number ∷ []
    → after ≡ map (λ p. read_number n p 0) (range_with_len 0 (i + 1))
first_started n i number lists firsts after e was before f =
    let sum : ℕ = sum_by (λ x. length x.reads) (take i n.statements) in
    let more : sum ≡ sum + 0 = omega arith in
    f ∙ ap (λ xs. xs ++ number ∷ []) before
    ∙ ap (λ k. map (λ p. read_number n p 0) (range_with_len 0 i) ++ k ∷ [])
    (e ∙ ap length was ∙ length-replicate sum [] ∙ more)
    ∙ sym (map-range_with_len_more (λ p. read_number n p 0) 0 i i (omega arith))
