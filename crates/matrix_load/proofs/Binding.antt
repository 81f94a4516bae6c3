-- The source is bound for every size: no reason stands in its tree, and its arrays have their extents.
--
-- The tree is a given one, and only the count of rows is left open. So both facts are computed: each part, operand and
-- bound of the tree is replaced by what its kind comes to, and the count enters as the value of the parameter. All that
-- is needed of the count is that it is a limited number, which follows from the premise that it is small enough.
use Rattle.std.proofs.Common.{◌≡◌, ℕ, ◌≤◌, ◌+◌, ℤ, pos, List, [], ◌∷◌, Bool, true, refl, sym, ap, ◌∙◌, arith, length}
use Rattle.std.proofs.Common.{map, ◌*◌}
use Rattle.std.proofs.lemmas.Bool.Decides.{nat_tests}
use Rattle.std.proofs.lemmas.Int.{ints}
use Rattle.loop_grammar.specs.declared.tree.Name.{Name}
use Rattle.loop_grammar.specs.declared.tree.Operand.{Operand}
use Rattle.loop_grammar.specs.declared.tree.Operand.TheVariants.{Number, Access, Binary, outs-Number, outs-Access}
use Rattle.loop_grammar.specs.declared.tree.Part.{Part}
use Rattle.loop_grammar.specs.declared.tree.Part.TheOpen as layer
use Rattle.loop_grammar.specs.declared.tree.Part.TheVariants.{For, Assign, Block, rolls-For, rolls-Assign, rolls-Block}
use Rattle.loop_grammar.specs.declared.tree.Part.TheFolds.{fold-roll-Part}
use Rattle.loop_grammar.specs.declared.tree.BinarySign.{BinarySign}
use Rattle.loop_grammar.specs.declared.tree.Step.{Step}
use Rattle.wrap_expr.specs.declared.expr.Expr.{Const}
use Rattle.loop_bind.specs.declared.context.Context.{Context}
use Rattle.sanlp.specs.Cells.{input_count}
use Rattle.loop_bind.specs.Findings.{findings}
use Rattle.loop_class.specs.Binding.{nest_of}
use Rattle.loop_bind.specs.Declarations.{declared}
use Rattle.loop_bind.specs.Forms.{is_limited_number}
use Rattle.loop_bind.specs.Judging.{Scope, lower_layer, lower_operands, upper_layer, upper_operands}
use Rattle.loop_bind.specs.Names.{value_named}
use Rattle.loop_bind.specs.Parts.{Meaning, Otherwise, part_made, part_step, other_step, assign_made, parts_made}
use Rattle.loop_bind.proofs.Operands.{judged_access, judged_number}
use Rattle.loop_bind.specs.Values.{valued, without_reads, name_value, joined, binary_expr}
use Rattle.loop_bind.proofs.ValueLemmas.{valued_number, valued_access, valued_binary}
use Rattle.matrix_load.specs.Product.{size_given}
use Rattle.matrix_load.proofs.Derivation.{matrix_tree}

-- ---- the kinds of part and of bound that stand in the source

for_made : (name : Name) (first : Operand) (second : Name) (inclusive : Bool) (bound : Operand) (third : Name)
    (step : Step) (body : Part) (c : Context) (l s : ℕ)
    → part_made (For name first second inclusive bound third step body) c l s
    ≡ part_step (layer.For name first second inclusive bound third step (part_made body)) c l s
unfolding part_made
for_made name first second inclusive bound third step body c l s =
    ap (λ p. part_made p c l s) (sym (rolls-For name first second inclusive bound third step body))
    ∙ ap (λ f. f c l s)
    (fold-roll-Part Meaning Otherwise part_step other_step
    (layer.For name first second inclusive bound third step body))

assign_is : (target : Name) (subscripts : List Operand) (value : Operand) (c : Context) (l s : ℕ)
    → part_made (Assign target subscripts value) c l s ≡ assign_made target subscripts value c l s
unfolding part_made
assign_is target subscripts value c l s =
    ap (λ p. part_made p c l s) (sym (rolls-Assign target subscripts value))
    ∙ ap (λ f. f c l s) (fold-roll-Part Meaning Otherwise part_step other_step (layer.Assign target subscripts value))

block_is : (parts : List Part) (c : Context) (l s : ℕ) → part_made (Block parts) c l s ≡ parts_made parts c l s
unfolding part_made
block_is parts c l s =
    ap (λ p. part_made p c l s) (sym (rolls-Block parts))
    ∙ ap (λ f. f c l s) (fold-roll-Part Meaning Otherwise part_step other_step (layer.Block parts))

lower_number : (value : ℤ) (token : ℕ) → lower_operands (Number value token) ≡ Number value token ∷ []
unfolding lower_operands
lower_number value token = ap (lower_layer (Number value token)) (outs-Number value token)

upper_name : (name : Name) (subscripts : List Operand)
    → upper_operands (Access name subscripts) ≡ Access name subscripts ∷ []
unfolding upper_operands
upper_name name subscripts = ap (upper_layer (Access name subscripts)) (outs-Access name subscripts)

value_number : (depth : ℕ) (scope : Scope) (v : ℤ) (token k : ℕ)
    → valued depth scope (Number v token) k ≡ without_reads (Const v) []
value_number depth scope v token k = valued_number depth scope (Number v token) k v token refl

value_access : (depth : ℕ) (scope : Scope) (name : Name) (subscripts : List Operand) (k : ℕ)
    → valued depth scope (Access name subscripts) k
    ≡ name_value depth scope name.token (value_named scope name.text) subscripts k
value_access depth scope name subscripts k = valued_access depth scope (Access name subscripts) k name subscripts refl

value_binary : (depth : ℕ) (scope : Scope) (sign : BinarySign) (token : ℕ) (left right : Operand) (k : ℕ)
    → valued depth scope (Binary sign token left right) k
    ≡ joined (binary_expr sign) (valued depth scope left k)
    (valued depth scope right (k + length (valued depth scope left k).reads))
value_binary depth scope sign token left right k =
    valued_binary depth scope (Binary sign token left right) k sign token left right refl

small_is_limited : (count : ℕ) → count ≤ 2147483647 → is_limited_number (pos count) ≡ true
small_is_limited count small = grind (arith, nat_tests, ints)

-- ---- the source

pub nothing_found : (count : ℕ) → count ≤ 2147483647 → findings matrix_tree (size_given count) ≡ []
unfolding findings declared
nothing_found count small =
    simp (
      for_made,
      block_is,
      assign_is,
      judged_number,
      judged_access,
      lower_number,
      upper_name,
      value_number,
      value_access,
      value_binary,
      small_is_limited count small,
    )

pub input_counts : (count : ℕ) → count ≤ 2147483647 → map input_count (nest_of matrix_tree (size_given count)).arrays
    ≡ count * (count * 1) ∷ count * (count * 1) ∷ 0 ∷ []
unfolding nest_of declared
input_counts count small = simp (judged_access, small_is_limited count small)
