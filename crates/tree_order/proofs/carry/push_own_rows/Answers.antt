use Rattle.std.proofs.Common.{◌≡◌, ◌+◌, ◌++◌, ◌∷◌, [], ℕ, map, sym, ap, ◌∙◌, arith}
use Rattle.std.specs.List.{range_with_len}
use Rattle.std.proofs.lemmas.List.{append_assoc, map-append}
use Rattle.tree_order.specs.Positions.{own_sums}
use Rattle.tree_graphs.specs.Paths.{term_of}
use Rattle.sanlp.proofs.Lists.{range_with_len-append}
use Rattle.tree_order.proofs.carry.push_own_rows.Goals as goal

-- one row more
own_next : (first i : ℕ) → own_sums first (i + 1) ≡ own_sums first i ++ (term_of (first + i) ∷ []) ∷ []
own_next first i =
    ap (map (λ row. term_of row ∷ [])) (range_with_len-append first i 1)
    ∙ map-append (λ row. term_of row ∷ []) (range_with_len first i) (range_with_len (first + i) 1)

pub loop-i-preserved : goal.loop-i-preserved
loop-i-preserved c =
    let old = c.args.rows.now in
    let own = own_sums c.args.first c.loop-i.i in
    let next = (term_of (c.args.first + c.loop-i.i) ∷ []) ∷ [] in
    c.in_ok-push.ensures.ok ∙ ap (λ ts. c.loop-i.rows ++ ts ∷ []) c.in_ok-once.ensures
    ∙ ap (λ xs. xs ++ next) c.loop-i.invariant
    ∙ append_assoc old own next ∙ ap (λ xs. old ++ xs) (sym (own_next c.args.first c.loop-i.i))

pub returns : goal.returns
returns c =
    let last : c.loop-i.i ≡ c.args.count = omega arith in
    c.loop-i.invariant ∙ ap (λ n. c.args.rows.now ++ own_sums c.args.first n) last
