-- Affine places and right sides, by the kind of operand.
--
-- `judged` goes by the layers of an operand, as a fold; here it is unfolded once for each kind, so that an operand's
-- form and reasons are told by those of the operands below it. The operands of a bound are looked up by the kind of its
-- top alone: the arguments of a `max` (for a lower bound) or of a `min` (for an upper one), where it has any, else the
-- whole operand.
use Rattle.std.proofs.Common.{◌≡◌, ℕ, ℤ, List, [], ◌∷◌, ◌++◌, map, refl, sym, ap, ◌∙◌}
use Rattle.loop_grammar.specs.declared.tree.BinarySign.{BinarySign}
use Rattle.loop_grammar.specs.declared.tree.Name.{Name}
use Rattle.loop_grammar.specs.declared.tree.Operand.{Operand, out-Operand, roll-Operand, roll-out-Operand}
use Rattle.loop_grammar.specs.declared.tree.Operand.TheOpen as layer
use Rattle.loop_grammar.specs.declared.tree.Operand.TheVariants.{Number, Access, Binary, Neg, Min, Max, rolls-Number}
use Rattle.loop_grammar.specs.declared.tree.Operand.TheVariants.{rolls-Access, rolls-Binary, rolls-Neg, rolls-Min}
use Rattle.loop_grammar.specs.declared.tree.Operand.TheVariants.{rolls-Max, outs-Min, outs-Max}
use Rattle.loop_grammar.specs.declared.tree.Operand.TheFolds.{fold-roll-Operand}
use Rattle.loop_bind.specs.declared.scope.Place.{Place}
use Rattle.loop_bind.specs.Judging.{Scope, Judged, judge_step, judged, all_findings, findings_of, lower_layer}
use Rattle.loop_bind.specs.Judging.{lower_operands, upper_layer, upper_operands}

module _ (place : Place) (scope : Scope) where
  pub judged_number : (value : ℤ) (token : ℕ)
      → judged place scope (Number value token) ≡ judge_step place scope (layer.Number value token)
  unfolding judged
  judged_number value token =
      ap (judged place scope) (sym (rolls-Number value token))
      ∙ fold-roll-Operand Judged (judge_step place scope) (layer.Number value token)

  pub judged_access : (name : Name) (subscripts : List Operand)
      → judged place scope (Access name subscripts)
      ≡ judge_step place scope (layer.Access name (map (judged place scope) subscripts))
  unfolding judged
  judged_access name subscripts =
      ap (judged place scope) (sym (rolls-Access name subscripts))
      ∙ fold-roll-Operand Judged (judge_step place scope) (layer.Access name subscripts)

  pub judged_binary : (sign : BinarySign) (token : ℕ) (left right : Operand)
      → judged place scope (Binary sign token left right)
      ≡ judge_step place scope (layer.Binary sign token (judged place scope left) (judged place scope right))
  unfolding judged
  judged_binary sign token left right =
      ap (judged place scope) (sym (rolls-Binary sign token left right))
      ∙ fold-roll-Operand Judged (judge_step place scope) (layer.Binary sign token left right)

  pub judged_neg : (token : ℕ) (inner : Operand)
      → judged place scope (Neg token inner) ≡ judge_step place scope (layer.Neg token (judged place scope inner))
  unfolding judged
  judged_neg token inner =
      ap (judged place scope) (sym (rolls-Neg token inner))
      ∙ fold-roll-Operand Judged (judge_step place scope) (layer.Neg token inner)

  pub judged_min : (token : ℕ) (list : List Operand)
      → judged place scope (Min token list) ≡ judge_step place scope (layer.Min token (map (judged place scope) list))
  unfolding judged
  judged_min token list =
      ap (judged place scope) (sym (rolls-Min token list))
      ∙ fold-roll-Operand Judged (judge_step place scope) (layer.Min token list)

  pub judged_max : (token : ℕ) (list : List Operand)
      → judged place scope (Max token list) ≡ judge_step place scope (layer.Max token (map (judged place scope) list))
  unfolding judged
  judged_max token list =
      ap (judged place scope) (sym (rolls-Max token list))
      ∙ fold-roll-Operand Judged (judge_step place scope) (layer.Max token list)

  -- the reasons below an operand are those of the operands there
  pub all_findings_of : (list : List Operand)
      → all_findings (map (judged place scope) list) ≡ findings_of place scope list
  all_findings_of [] = refl
  all_findings_of (o ∷ list) = ap (λ rest. (judged place scope o).findings ++ rest) (all_findings_of list)

-- the operands of a bound: the arguments of a `max` or a `min` at its top, if it has any
pub lower_operands_max : (op : Operand) (token : ℕ) (list : List Operand) → op ≡ Max token list → (list ≡ [] → ⊥)
    → lower_operands op ≡ list
unfolding lower_operands
lower_operands_max op token [] is some = absurd (some refl)
lower_operands_max op token (first ∷ others) is some =
    ap lower_operands is ∙ ap (lower_layer (Max token (first ∷ others))) (outs-Max token (first ∷ others))

pub lower_operands_none : (op : Operand) (token : ℕ) → op ≡ Max token [] → lower_operands op ≡ op ∷ []
unfolding lower_operands
lower_operands_none op token is =
    ap lower_operands is ∙ ap (lower_layer (Max token [])) (outs-Max token []) ∙ ap (λ o. o ∷ []) (sym is)

lower_layer_one : (op : Operand) (x : layer.Operand-F Operand) → roll-Operand x ≡ op
    → ((token : ℕ) (list : List Operand) → op ≡ Max token list → ⊥)
    → lower_layer op x ≡ op ∷ []
lower_layer_one op (layer.Number v t) e h = refl
lower_layer_one op (layer.Access n s) e h = refl
lower_layer_one op (layer.Binary s t l r) e h = refl
lower_layer_one op (layer.Neg t i) e h = refl
lower_layer_one op (layer.Min t l) e h = refl
lower_layer_one op (layer.Max t list) e h = absurd (h t list (sym e ∙ rolls-Max t list))

pub lower_operands_one : (op : Operand) → ((token : ℕ) (list : List Operand) → op ≡ Max token list → ⊥)
    → lower_operands op ≡ op ∷ []
unfolding lower_operands
lower_operands_one op h = lower_layer_one op (out-Operand op) (roll-out-Operand op) h

pub upper_operands_min : (op : Operand) (token : ℕ) (list : List Operand) → op ≡ Min token list → (list ≡ [] → ⊥)
    → upper_operands op ≡ list
unfolding upper_operands
upper_operands_min op token [] is some = absurd (some refl)
upper_operands_min op token (first ∷ others) is some =
    ap upper_operands is ∙ ap (upper_layer (Min token (first ∷ others))) (outs-Min token (first ∷ others))

pub upper_operands_none : (op : Operand) (token : ℕ) → op ≡ Min token [] → upper_operands op ≡ op ∷ []
unfolding upper_operands
upper_operands_none op token is =
    ap upper_operands is ∙ ap (upper_layer (Min token [])) (outs-Min token []) ∙ ap (λ o. o ∷ []) (sym is)

upper_layer_one : (op : Operand) (x : layer.Operand-F Operand) → roll-Operand x ≡ op
    → ((token : ℕ) (list : List Operand) → op ≡ Min token list → ⊥)
    → upper_layer op x ≡ op ∷ []
upper_layer_one op (layer.Number v t) e h = refl
upper_layer_one op (layer.Access n s) e h = refl
upper_layer_one op (layer.Binary s t l r) e h = refl
upper_layer_one op (layer.Neg t i) e h = refl
upper_layer_one op (layer.Max t l) e h = refl
upper_layer_one op (layer.Min t list) e h = absurd (h t list (sym e ∙ rolls-Min t list))

pub upper_operands_one : (op : Operand) → ((token : ℕ) (list : List Operand) → op ≡ Min token list → ⊥)
    → upper_operands op ≡ op ∷ []
unfolding upper_operands
upper_operands_one op h = upper_layer_one op (out-Operand op) (roll-out-Operand op) h
