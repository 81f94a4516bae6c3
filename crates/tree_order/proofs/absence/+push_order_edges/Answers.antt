-- Loop by loop an edge from 0 and one back with the loop's value are added, and at the level one back, if it is a
-- common loop.
use Rattle.std.proofs.Common.{◌≡◌, ◌-◌, ◌^◌, ◌+ℤ◌, negsuc, ◌∷◌, ◌++◌, [], List, ℕ, true, false, suc, length, refl, sym}
use Rattle.std.proofs.Common.{ap, ◌∙◌, subst, rules, arith}
use Rattle.std.proofs.lemmas.List.{length_push, nil_from_length}
use Rattle.std.proofs.lemmas.List.Elements.{All-head}
use Rattle.std.proofs.lemmas.Result.{on_ok_weaker}
use Rattle.affine_core.specs.declared.form.Form.{Form}
use Rattle.affine_core.specs.Affine.{form_product}
use Rattle.tree_order.specs.Comparisons.{AreForms}
use Rattle.tree_order.proofs.OrderEdges.{back_edge, forms_rest, less_edge, near_back, near_less, near_out}
use Rattle.tree_order.proofs.OrderEdges.{one_pushed, orders_behind, orders_end, orders_equal, orders_less}
use Rattle.tree_order.proofs.OrderEdges.{orders_same, out_edge}
use Rattle.tree_graphs.specs.declared.edges.Edge.{Edge}
use Rattle.tree_sums.specs.Parts.{IsWithin}
use Rattle.tree_sums.proofs.Within.{IsWithin-weaker}
use Rattle.tree_order.proofs.absence.+push_order_edges.Goals as goal

pub returns-in_default-clause-rows : goal.returns-in_default-clause-rows
returns-in_default-clause-rows t c =
    let none : c.args.place.now ≡ [] = nil_from_length c.args.place.now c.in_default.ensures.cases in
    let old = c.args.edges.now in
    orders_same c.args.place.now [] c.args.level c.args.level c.args.within c.args.within c.args.at c.args.zero old old
    none refl refl (orders_end c.args.at c.args.zero c.args.level c.args.within old old refl)

pub negative-requires : goal.negative-requires
negative-requires t c =
    let first : c.args.place.now ≡ c.in-Some.value.now ∷ c.in-Some.place.now = search rules in
    let f = c.requires.forms in
    let forms : AreForms f.0 (c.in-Some.value.now ∷ c.in-Some.place.now) = subst (AreForms f.0) first f.1 in
    IsWithin-weaker (2 ^ 48) (2 ^ 60) c.in-Some.value.now (omega arith)
    (All-head (IsWithin (2 ^ 48)) c.in-Some.value.now c.in-Some.place.now forms.within)

pub raised-requires-clause-small : goal.raised-requires-clause-small
raised-requires-clause-small t c =
    let first : c.args.place.now ≡ c.in-Some.value.now ∷ c.in-Some.place.now = search rules in
    let f = c.requires.forms in
    let forms : AreForms f.0 (c.in-Some.value.now ∷ c.in-Some.place.now) = subst (AreForms f.0) first f.1 in
    let near = near_back f.0 c.args.at c.args.zero c.in-Some.value.now c.in-Some.place.now forms in
    subst (IsWithin (2 ^ 60)) (sym c.negative.ensures) (IsWithin-weaker (2 ^ 49) (2 ^ 60) _ (omega arith) near.within)

-- the edge at the level
abbrev one_below : Form → Form
one_below f = record f { constant = f.constant +ℤ negsuc 0 }

less_is : (at none : ℕ) (v back less : Form) → back ≡ form_product (negsuc 0) v → less ≡ one_below back → less
    ≡ (less_edge at none v).weight
less_is at none v back less e f = f ∙ ap one_below e

pub returns-then-within-clause-rows : goal.returns-then-within-clause-rows
returns-then-within-clause-rows t c =
    let v = c.in-Some.value.now in
    let rest = c.in-Some.place.now in
    let first : c.args.place.now ≡ v ∷ rest = search rules in
    let old = c.args.edges.now in
    on_ok_weaker c.push.result
    (λ pushed. orders_same c.args.place.now (v ∷ rest) c.args.level 0 c.args.within true c.args.at c.args.zero old
    c.push.new.self first (omega (arith, c.if-level-eq0.true)) c.if-within.true
    (orders_less v rest c.args.at c.args.zero old c.push.new.self
    (pushed ∙ ap (λ g. old ++ record { from = c.args.at; to = c.args.zero; weight = g } ∷ [])
    (less_is c.args.at c.args.zero v c.negative.result c.raised.result c.negative.ensures c.raised.ensures))))
    c.push.ensures.ok

pub returns-then-within-clause-each : goal.returns-then-within-clause-each
returns-then-within-clause-each t c =
    let v = c.in-Some.value.now in
    let rest = c.in-Some.place.now in
    let first : c.args.place.now ≡ v ∷ rest = search rules in
    let old = c.args.edges.now in
    on_ok_weaker c.push.result
    (λ pushed vars forms all.
    one_pushed vars old c.push.new.self (less_edge c.args.at c.args.zero v)
    (pushed ∙ ap (λ g. old ++ record { from = c.args.at; to = c.args.zero; weight = g } ∷ [])
    (less_is c.args.at c.args.zero v c.negative.result c.raised.result c.negative.ensures c.raised.ensures))
    (near_less vars c.args.at c.args.zero v rest (subst (AreForms vars) first forms)) all) c.push.ensures.ok

pub returns-then-within-clause-count : goal.returns-then-within-clause-count
returns-then-within-clause-count t c =
    on_ok_weaker c.push.result
    (λ pushed. omega (
      arith,
      ap length pushed,
      length_push c.args.edges.now
          (record { from = c.args.at; to = c.args.zero; weight = c.raised.result }),
    )) c.push.ensures.ok

pub returns-then-level-eq0-clause-rows : goal.returns-then-level-eq0-clause-rows
returns-then-level-eq0-clause-rows t c =
    let old = c.args.edges.now in
    orders_same c.args.place.now c.args.place.now c.args.level 0 c.args.within false c.args.at c.args.zero old old refl
    (omega (arith, c.if-level-eq0.true)) c.if-within.false
    (orders_behind c.args.place.now c.args.at c.args.zero old old refl)

pub push_order_edges-requires : goal.push_order_edges-requires
push_order_edges-requires t c =
    let first : c.args.place.now ≡ c.in-Some.value.now ∷ c.in-Some.place.now = search rules in
    let f = c.requires.forms in (
      omega (arith, ap length first),
      (
        (f.0, forms_rest f.0 c.in-Some.value.now c.in-Some.place.now (subst (AreForms f.0) first f.1)),
        omega (arith, ap length first, c.requires.few),
      ),
    )

-- both edges of a loop above the level
out_is : (at none : ℕ) (v copy : Form) (old new : List Edge) → new ≡ old
    ++ record { from = none; to = at; weight = copy } ∷ [] → copy ≡ v → new ≡ old ++ out_edge at none v ∷ []
out_is at none v copy old new e f = e ∙ ap (λ (g : Form). old ++ record { from = none; to = at; weight = g } ∷ []) f

back_is : (at none : ℕ) (v less : Form) (old new : List Edge) → new ≡ old
    ++ record { from = at; to = none; weight = less } ∷ [] → less ≡ form_product (negsuc 0) v
    → new ≡ old ++ back_edge at none v ∷ []
back_is at none v less old new e f = e ∙ ap (λ (g : Form). old ++ record { from = at; to = none; weight = g } ∷ []) f

pub returns-clause-rows : goal.returns-clause-rows
returns-clause-rows t c =
    let out = out_is c.args.at c.args.zero c.in-Some.value.now c.copy.result c.args.edges.now c.push-2.new.self
    c.in_ok-push.ensures.ok c.copy.ensures in
    let back = back_is c.args.at c.args.zero c.in-Some.value.now c.negative-2.result c.push-2.new.self c.push-3.new.self
    c.in_ok-push-2.ensures.ok c.negative-2.ensures in
    let v = c.in-Some.value.now in
    let rest = c.in-Some.place.now in
    let first : c.args.place.now ≡ v ∷ rest = search rules in
    let old = c.args.edges.now in
    let new = c.push_order_edges.new.edges in
    on_ok_weaker c.push_order_edges.result
    (λ adds. orders_same c.args.place.now (v ∷ rest) c.args.level (suc (c.args.level - 1)) c.args.within c.args.within
    c.args.at c.args.zero old new first (omega (arith, c.if-level-eq0.false)) refl
    (orders_equal v rest c.args.at c.args.zero (c.args.level - 1) c.args.within old c.push-2.new.self c.push-3.new.self
    new out back adds)) c.push_order_edges.ensures.rows

pub returns-clause-each : goal.returns-clause-each
returns-clause-each t c =
    let out = out_is c.args.at c.args.zero c.in-Some.value.now c.copy.result c.args.edges.now c.push-2.new.self
    c.in_ok-push.ensures.ok c.copy.ensures in
    let back = back_is c.args.at c.args.zero c.in-Some.value.now c.negative-2.result c.push-2.new.self c.push-3.new.self
    c.in_ok-push-2.ensures.ok c.negative-2.ensures in
    let v = c.in-Some.value.now in
    let rest = c.in-Some.place.now in
    let first : c.args.place.now ≡ v ∷ rest = search rules in
    on_ok_weaker c.push_order_edges.result
    (λ each vars forms all.
    (let here : AreForms vars (v ∷ rest) = subst (AreForms vars) first forms in
    each vars (forms_rest vars v rest here)
    (one_pushed vars c.push-2.new.self c.push-3.new.self (back_edge c.args.at c.args.zero v) back
    (near_back vars c.args.at c.args.zero v rest here)
    (one_pushed vars c.args.edges.now c.push-2.new.self (out_edge c.args.at c.args.zero v) out
    (near_out vars c.args.at c.args.zero v rest here) all)))) c.push_order_edges.ensures.each

pub returns-clause-count : goal.returns-clause-count
returns-clause-count t c =
    let out = out_is c.args.at c.args.zero c.in-Some.value.now c.copy.result c.args.edges.now c.push-2.new.self
    c.in_ok-push.ensures.ok c.copy.ensures in
    let back = back_is c.args.at c.args.zero c.in-Some.value.now c.negative-2.result c.push-2.new.self c.push-3.new.self
    c.in_ok-push-2.ensures.ok c.negative-2.ensures in
    on_ok_weaker c.push_order_edges.result
    (λ count. omega (
      arith,
      count,
      c.if-level-eq0.false,
      ap length out,
      ap length back,
      length_push c.args.edges.now (out_edge c.args.at c.args.zero c.in-Some.value.now),
      length_push c.push-2.new.self (back_edge c.args.at c.args.zero c.in-Some.value.now),
    )) c.push_order_edges.ensures.count
