-- What binding a part comes to, by its kind.
--
-- `Makes` follows the code beside the specification: the context is as it was, the progress is advanced by what the
-- part makes, and the nodes are put behind. It is kept where reasons are noted first (`noted`), and where one part
-- follows another, which begins at the loop and the statement at which the first ended (`followed`), since making one
-- result of two is associative. From these it is shown for each kind of part from the same of the parts in it, and for
-- the next of a list (`next_part`). The induction on parts is the code's own.
use Rattle.std.proofs.Common.{◌≡◌, ℕ, ◌+◌, ◌<◌, Bool, List, [], ◌∷◌, ◌++◌, length, map, take, get_or, Option, Some}
use Rattle.std.proofs.Common.{None, Result, sym, ap, subst, ◌∙◌, append_assoc, append-nil, length-append, arith}
use Rattle.std.specs.Prelude.{OnOk}
use Rattle.std.proofs.lemmas.List.{map-append, take_more}
use Rattle.std.proofs.lemmas.Result.{on_ok_weaker}
use Rattle.sanlp.specs.declared.nest.Node.{Node}
use Rattle.loop_grammar.specs.declared.tree.Comparison.{Comparison}
use Rattle.loop_grammar.specs.declared.tree.Name.{Name}
use Rattle.loop_grammar.specs.declared.tree.Operand.{Operand}
use Rattle.loop_grammar.specs.declared.tree.Other.{Other}
use Rattle.loop_grammar.specs.declared.tree.Part.{Part}
use Rattle.loop_grammar.specs.declared.tree.Step.{Step}
use Rattle.loop_grammar.specs.declared.tree.Part.TheOpen as layer
use Rattle.loop_grammar.specs.declared.tree.Part.TheVariants.{For, If, Assign, Block, rolls-For, rolls-If, rolls-Assign}
use Rattle.loop_grammar.specs.declared.tree.Part.TheVariants.{rolls-Block}
use Rattle.loop_grammar.specs.declared.tree.Part.TheFolds.{fold-roll-Part, fold_out-Other}
use Rattle.loop_bind.specs.declared.affine.Affine.{Affine}
use Rattle.loop_bind.specs.declared.bounds.Bounds.{Bounds}
use Rattle.loop_bind.specs.declared.context.Context.{Context}
use Rattle.loop_bind.specs.declared.context.Progress.{Progress}
use Rattle.loop_bind.specs.declared.error.BindError.{BindError}
use Rattle.loop_bind.specs.Bounds.{loop_bounds}
use Rattle.loop_bind.specs.Following.{Makes, next_statement, advanced}
use Rattle.loop_bind.specs.Parts.{Made, Meaning, Otherwise, nothing, both, in_order, depth_of, for_findings, loop_made}
use Rattle.loop_bind.specs.Parts.{loop_body, guarded, with_findings, else_made, assign_made, part_step, other_step}
use Rattle.loop_bind.specs.Parts.{part_made, parts_made}
use Rattle.loop_bind.specs.Reasons.{least_from}
use Rattle.loop_bind.specs.Rows.{guard_rows, guard_findings}
use Rattle.loop_bind.proofs.JudgeLemmas.{least_append}

-- two results one after the other
both_assoc : (a b d : Made) → both a (both b d) ≡ both (both a b) d
both_assoc a b d = λ i. record {
  nodes = sym (append_assoc a.nodes b.nodes d.nodes) i;
  statements = sym (append_assoc a.statements b.statements d.statements) i;
  next_loop = d.next_loop;
  findings = sym (append_assoc a.findings b.findings d.findings) i;
}

both_nothing : (a : Made) → both a (nothing a.next_loop) ≡ a
both_nothing a = λ i. record {
  nodes = append-nil a.nodes i;
  statements = append-nil a.statements i;
  next_loop = a.next_loop;
  findings = append-nil a.findings i;
}

in_order_more : (ms : List Meaning) (m : Meaning) (c : Context) (l s : ℕ)
    → in_order (ms ++ m ∷ []) c l s
    ≡ both (in_order ms c l s) (m c (in_order ms c l s).next_loop (s + length (in_order ms c l s).statements))
in_order_more [] m c l s = let z : s ≡ s + 0 = omega arith in both_nothing (m c l s) ∙ ap (m c l) z
in_order_more (x ∷ ms) m c l s =
    let a = x c l s in
    let r = in_order ms c a.next_loop (s + length a.statements) in
    let n : (s + length a.statements) + length r.statements ≡ s + length (a.statements ++ r.statements) =
    omega (arith, length-append a.statements r.statements) in
    ap (both a) (in_order_more ms m c a.next_loop (s + length a.statements))
    ∙ both_assoc a r (m c r.next_loop ((s + length a.statements) + length r.statements))
    ∙ ap (λ n. both (both a r) (m c r.next_loop n)) n

-- reasons that were noted before a part
pub noted : (c c1 : Context) (p p1 : Progress) (nodes nodes1 : List Node) (l1 : Option BindError) (fs : List BindError)
    (made : Made)
    → l1 ≡ least_from p.least fs → Makes c c1 (record p { least = l1 }) p1 nodes nodes1 made
    → Makes c c1 p p1 nodes nodes1 (with_findings fs made)
noted c c1 p p1 nodes nodes1 l1 fs made first h =
    let least : least_from l1 made.findings ≡ least_from p.least (fs ++ made.findings) =
    ap (λ l. least_from l made.findings) first ∙ sym (least_append p.least fs made.findings) in
    record {
      context = h.context;
      progress =
          h.progress
          ∙ (λ i. record p
          { statements = p.statements ++ made.statements; next_loop = made.next_loop; least = least i });
      nodes = h.nodes;
    }

-- one part after another
pub followed : (c c1 c2 : Context) (p p1 p2 : Progress) (n n1 n2 : List Node) (a : Made) (m : Meaning)
    → Makes c c1 p p1 n n1 a → Makes c1 c2 p1 p2 n1 n2 (m c1 p1.next_loop (next_statement p1))
    → Makes c c2 p p2 n n2 (both a (m c a.next_loop (next_statement p + length a.statements)))
followed c c1 c2 p p1 p2 n n1 n2 a m first second =
    let number : next_statement p1 ≡ next_statement p + length a.statements =
    ap next_statement first.progress ∙ ap (λ k. p.first + k) (length-append p.statements a.statements)
    ∙ next_number p.first (length p.statements) (length a.statements) in
    let same : m c1 p1.next_loop (next_statement p1) ≡ m c a.next_loop (next_statement p + length a.statements) =
    λ i. m (first.context i) (first.progress i).next_loop (number i) in
    let b = m c a.next_loop (next_statement p + length a.statements) in
    record {
      context = second.context ∙ first.context;
      progress = second.progress ∙ (λ i. advanced (first.progress i) (same i)) ∙ advanced_twice p a b;
      nodes = second.nodes ∙ (λ i. first.nodes i ++ (same i).nodes) ∙ append_assoc n a.nodes b.nodes;
    }
  where
    next_number : (x y z : ℕ) → x + (y + z) ≡ (x + y) + z
    next_number x y z = omega arith

    advanced_twice : (p : Progress) (a b : Made) → advanced (advanced p a) b ≡ advanced p (both a b)
    advanced_twice p a b = λ i. record p {
      statements = append_assoc p.statements a.statements b.statements i;
      next_loop = b.next_loop;
      least = sym (least_append p.least a.findings b.findings) i;
    }

module _ (part : Part) (c : Context) (l s : ℕ) where
  part_for : (name : Name) (first : Operand) (second : Name) (inclusive : Bool) (bound : Operand) (third : Name)
      (step : Step) (body : Part)
      → part ≡ For name first second inclusive bound third step body
      → part_made part c l s ≡ part_step (layer.For name first second inclusive bound third step (part_made body)) c l s
  unfolding part_made
  part_for name first second inclusive bound third step body is =
      ap (λ p. part_made p c l s) (is ∙ sym (rolls-For name first second inclusive bound third step body))
      ∙ ap (λ f. f c l s)
      (fold-roll-Part Meaning Otherwise part_step other_step
      (layer.For name first second inclusive bound third step body))

  part_if_none : (cond : List Comparison) (body : Part) → part ≡ If cond body None
      → part_made part c l s ≡ part_step (layer.If cond (part_made body) None) c l s
  unfolding part_made
  part_if_none cond body is =
      ap (λ p. part_made p c l s) (is ∙ sym (rolls-If cond body None))
      ∙ ap (λ f. f c l s) (fold-roll-Part Meaning Otherwise part_step other_step (layer.If cond body None))

  part_if_some : (cond : List Comparison) (body : Part) (other : Other) → part ≡ If cond body (Some other)
      → part_made part c l s
      ≡ part_step (layer.If cond (part_made body) (Some (other.token, part_made other.body))) c l s
  unfolding part_made
  part_if_some cond body other is =
      ap (λ p. part_made p c l s) (is ∙ sym (rolls-If cond body (Some other)))
      ∙ ap (λ f. f c l s) (fold-roll-Part Meaning Otherwise part_step other_step (layer.If cond body (Some other)))
      ∙ ap (λ o. part_step (layer.If cond (part_made body) (Some o)) c l s)
      (fold_out-Other Meaning Otherwise part_step other_step other)

  part_assign : (target : Name) (subscripts : List Operand) (value : Operand) → part ≡ Assign target subscripts value
      → part_made part c l s ≡ assign_made target subscripts value c l s
  unfolding part_made
  part_assign target subscripts value is =
      ap (λ p. part_made p c l s) (is ∙ sym (rolls-Assign target subscripts value))
      ∙ ap (λ f. f c l s) (fold-roll-Part Meaning Otherwise part_step other_step (layer.Assign target subscripts value))

  part_block : (parts : List Part) → part ≡ Block parts → part_made part c l s ≡ parts_made parts c l s
  unfolding part_made
  part_block parts is =
      ap (λ p. part_made p c l s) (is ∙ sym (rolls-Block parts))
      ∙ ap (λ f. f c l s) (fold-roll-Part Meaning Otherwise part_step other_step (layer.Block parts))

-- the same result under another name
pub renamed : {E : Type 0} (result : Result (Unit {0}) E) (c c1 : Context) (p p1 : Progress) (nodes nodes1 : List Node)
    (a b : Made)
    → OnOk result (Makes c c1 p p1 nodes nodes1 a) → b ≡ a → OnOk result (Makes c c1 p p1 nodes nodes1 b)
renamed result c c1 p p1 nodes nodes1 a b h is = subst (λ m. OnOk result (Makes c c1 p p1 nodes nodes1 m)) (sym is) h

module _ (part : Part) (c c1 : Context) (p p1 : Progress) (nodes nodes1 : List Node) where
  pub for_ok : {E : Type 0} (result : Result (Unit {0}) E) (name : Name) (first : Operand) (second : Name)
      (inclusive : Bool) (bound : Operand) (third : Name) (step : Step) (body : Part)
      (bounds : Bounds) (l1 : Option BindError)
      → part ≡ For name first second inclusive bound third step body
      → bounds ≡ loop_bounds c.scope first inclusive bound step
      → l1 ≡ least_from p.least (for_findings c name first second bound third step)
      → OnOk result (Makes c c1 (record p { least = l1 }) p1 nodes nodes1
      (loop_made (depth_of c) p.next_loop bounds []
      (loop_body (part_made body) c name.text bounds p.next_loop (next_statement p))))
      → OnOk result (Makes c c1 p p1 nodes nodes1 (part_made part c p.next_loop (next_statement p)))
  for_ok result name first second inclusive bound third step body bounds l1 is same least h =
      let header = for_findings c name first second bound third step in
      let wanted : Bounds → Made =
      λ bounds. loop_made (depth_of c) p.next_loop bounds header
      (loop_body (part_made body) c name.text bounds p.next_loop (next_statement p)) in
      let noted_all : OnOk result (Makes c c1 p p1 nodes nodes1 (wanted bounds)) =
      on_ok_weaker result
      (noted c c1 p p1 nodes nodes1 l1 header
      (loop_made (depth_of c) p.next_loop bounds []
      (loop_body (part_made body) c name.text bounds p.next_loop (next_statement p))) least) h in
      renamed result c c1 p p1 nodes nodes1 (wanted bounds) (part_made part c p.next_loop (next_statement p)) noted_all
      (part_for part c p.next_loop (next_statement p) name first second inclusive bound third step body is
      ∙ ap wanted (sym same))

  pub assign_ok : {E : Type 0} (result : Result (Unit {0}) E) (target : Name) (subscripts operands : List Operand)
      (value : Operand)
      → part ≡ Assign target subscripts value → operands ≡ subscripts
      → OnOk result (Makes c c1 p p1 nodes nodes1 (assign_made target operands value c p.next_loop (next_statement p)))
      → OnOk result (Makes c c1 p p1 nodes nodes1 (part_made part c p.next_loop (next_statement p)))
  assign_ok result target subscripts operands value is same h =
      renamed result c c1 p p1 nodes nodes1 (assign_made target operands value c p.next_loop (next_statement p))
      (part_made part c p.next_loop (next_statement p)) h
      (part_assign part c p.next_loop (next_statement p) target subscripts value is
      ∙ ap (λ o. assign_made target o value c p.next_loop (next_statement p)) (sym same))

  pub block_ok : {E : Type 0} (result : Result (Unit {0}) E) (parts list : List Part) → part ≡ Block parts
      → list ≡ parts
      → OnOk result (Makes c c1 p p1 nodes nodes1 (parts_made list c p.next_loop (next_statement p)))
      → OnOk result (Makes c c1 p p1 nodes nodes1 (part_made part c p.next_loop (next_statement p)))
  block_ok result parts list is same h =
      renamed result c c1 p p1 nodes nodes1 (parts_made list c p.next_loop (next_statement p))
      (part_made part c p.next_loop (next_statement p)) h
      (part_block part c p.next_loop (next_statement p) parts is
      ∙ ap (λ o. parts_made o c p.next_loop (next_statement p)) (sym same))

  module _ (cond : List Comparison) (body : Part) (rows : List Affine) (l1 : Option BindError)
      (low : rows ≡ guard_rows c.scope cond) (least : l1 ≡ least_from p.least (guard_findings c.scope cond)) where
    -- what stands under the guard
    abbrev yes : List Affine → Made
    yes rows = guarded (part_made body) rows c p.next_loop (next_statement p)

    pub if_makes : part ≡ If cond body None → Makes c c1 (record p { least = l1 }) p1 nodes nodes1 (yes rows)
        → Makes c c1 p p1 nodes nodes1 (part_made part c p.next_loop (next_statement p))
    if_makes is h =
        subst (λ m. Makes c c1 p p1 nodes nodes1 m)
        (sym (part_if_none part c p.next_loop (next_statement p) cond body is
        ∙ ap (with_findings (guard_findings c.scope cond))
        (both_nothing (yes (guard_rows c.scope cond)) ∙ ap yes (sym low))))
        (noted c c1 p p1 nodes nodes1 l1 (guard_findings c.scope cond) (yes rows) least h)

    pub if_else_ok : {E : Type 0} (result : Result (Unit {0}) E) (other : Other) (c2 : Context) (p2 : Progress)
        (nodes2 : List Node) (tests : List Comparison)
        → part ≡ If cond body (Some other) → tests ≡ cond
        → Makes c c1 (record p { least = l1 }) p1 nodes nodes1 (yes rows)
        → OnOk result
        (Makes c1 c2 p1 p2 nodes1 nodes2
        (else_made tests (Some (other.token, part_made other.body)) c1 p1.next_loop (next_statement p1)))
        → OnOk result (Makes c c2 p p2 nodes nodes2 (part_made part c p.next_loop (next_statement p)))
    if_else_ok result other c2 p2 nodes2 tests is same h k =
        let otherwise : Otherwise = (other.token, part_made other.body) in
        let all : List Affine → List Comparison → Made =
        λ rows tests. with_findings (guard_findings c.scope cond)
        (both (yes rows)
        (else_made tests (Some otherwise) c (yes rows).next_loop
        (next_statement p + length (yes rows).statements))) in
        let wanted : OnOk result (Makes c c2 p p2 nodes nodes2 (all rows tests)) =
        on_ok_weaker result
        (λ second. noted c c2 p p2 nodes nodes2 l1 (guard_findings c.scope cond)
        (both (yes rows)
        (else_made tests (Some otherwise) c (yes rows).next_loop
        (next_statement p + length (yes rows).statements))) least
        (followed c c1 c2 (record p { least = l1 }) p1 p2 nodes nodes1 nodes2 (yes rows)
        (else_made tests (Some otherwise)) h second)) k in
        renamed result c c2 p p2 nodes nodes2 (all rows tests) (part_made part c p.next_loop (next_statement p)) wanted
        (part_if_some part c p.next_loop (next_statement p) cond body other is ∙ (λ i. all (sym low i) (sym same i)))

-- one more part of a list
pub next_part : (parts : List Part) (i : ℕ) (item : Part) (c c1 c2 : Context) (p p1 p2 : Progress) (n n1 n2 : List Node)
    → i < length parts → item ≡ get_or parts i item
    → Makes c c1 p p1 n n1 (parts_made (take i parts) c p.next_loop (next_statement p))
    → Makes c1 c2 p1 p2 n1 n2 (part_made item c1 p1.next_loop (next_statement p1))
    → Makes c c2 p p2 n n2 (parts_made (take (i + 1) parts) c p.next_loop (next_statement p))
next_part parts i item c c1 c2 p p1 p2 n n1 n2 below at first second =
    let more : take (i + 1) parts ≡ take i parts ++ item ∷ [] =
    take_more parts i item below ∙ ap (λ x. take i parts ++ x ∷ []) (sym at) in
    let l = p.next_loop in
    let s = next_statement p in
    subst (λ m. Makes c c2 p p2 n n2 m)
    (sym (ap (λ list. parts_made list c l s) more
    ∙ ap (λ ms. in_order ms c l s) (map-append part_made (take i parts) (item ∷ []))
    ∙ in_order_more (map part_made (take i parts)) (part_made item) c l s))
    (followed c c1 c2 p p1 p2 n n1 n2 (parts_made (take i parts) c l s) (part_made item) first second)
