-- Trees without their token numbers.
use Rattle.std.specs.Prelude.{map}
use Rattle.loop_grammar.specs.declared.tree.Comparison.{Comparison}
use Rattle.loop_grammar.specs.declared.tree.Declaration.{Declaration}
use Rattle.loop_grammar.specs.declared.tree.Name.{Name}
use Rattle.loop_grammar.specs.declared.tree.Named.{Named}
use Rattle.loop_grammar.specs.declared.tree.Operand.{Operand, fold-Operand}
use Rattle.loop_grammar.specs.declared.tree.Operand as operand
use Rattle.loop_grammar.specs.declared.tree.Operand.TheOpen as layer
use Rattle.loop_grammar.specs.declared.tree.Other.{Other}
use Rattle.loop_grammar.specs.declared.tree.Part.{Part, fold-Part}
use Rattle.loop_grammar.specs.declared.tree.Part as part
use Rattle.loop_grammar.specs.declared.tree.Part.TheOpen as part_layer
use Rattle.loop_grammar.specs.declared.tree.Step.{Step}
use Rattle.loop_grammar.specs.declared.tree.Step.TheVariants.{One, By}
use Rattle.loop_grammar.specs.declared.tree.Tree.{Tree}

abbrev pub unnumbered_name : Name → Name
unnumbered_name n = record { text = n.text; token = 0 }

-- one operand, whose own operands have no token numbers
abbrev pub unnumbered_operand_step : layer.Operand-F Operand → Operand
unnumbered_operand_step (layer.Number value token) = operand.Number value 0
unnumbered_operand_step (layer.Access name subscripts) =
    operand.Access (unnumbered_name name) subscripts
unnumbered_operand_step (layer.Binary sign token left right) = operand.Binary sign 0 left right
unnumbered_operand_step (layer.Neg token inner) = operand.Neg 0 inner
unnumbered_operand_step (layer.Min token list) = operand.Min 0 list
unnumbered_operand_step (layer.Max token list) = operand.Max 0 list

unfoldable pub unnumbered_operand : Operand → Operand
unnumbered_operand = fold-Operand Operand unnumbered_operand_step

abbrev pub unnumbered_comparison : Comparison → Comparison
unnumbered_comparison c =
    record {
      left = unnumbered_operand c.left;
      sign = c.sign;
      token = 0;
      right = unnumbered_operand c.right;
    }

abbrev pub unnumbered_step : Step → Step
unnumbered_step One = One
unnumbered_step (By token value) = By 0 (unnumbered_operand value)

-- one part, whose own parts have no token numbers
abbrev pub unnumbered_part_step : part_layer.Part-F Part Other → Part
unnumbered_part_step (part_layer.For name first second inclusive bound third step body) =
    part.For (unnumbered_name name) (unnumbered_operand first) (unnumbered_name second) inclusive
    (unnumbered_operand bound) (unnumbered_name third) (unnumbered_step step) body
unnumbered_part_step (part_layer.If cond body other) =
    part.If (map unnumbered_comparison cond) body other
unnumbered_part_step (part_layer.Assign target subscripts value) =
    part.Assign (unnumbered_name target) (map unnumbered_operand subscripts)
    (unnumbered_operand value)
unnumbered_part_step (part_layer.Block parts) = part.Block parts

abbrev pub unnumbered_other_step : part_layer.Other-F Part Other → Other
unnumbered_other_step other = record { token = 0; body = other.body }

unfoldable pub unnumbered_part : Part → Part
unnumbered_part = fold-Part Part Other unnumbered_part_step unnumbered_other_step

abbrev pub unnumbered_named : Named → Named
unnumbered_named n =
    record { name = unnumbered_name n.name; extents = map unnumbered_operand n.extents }

abbrev pub unnumbered_declaration : Declaration → Declaration
unnumbered_declaration d = record { word = d.word; names = map unnumbered_named d.names }

-- the tree with 0 for each token number
abbrev pub without_token_numbers : Tree → Tree
without_token_numbers t =
    record {
      declarations = map unnumbered_declaration t.declarations;
      parts = map unnumbered_part t.parts;
    }
