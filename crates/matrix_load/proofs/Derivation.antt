-- The matrix product as the grammar derives it.
--
-- The derivation is written down in the grammar's constructors, with the number of each name, sign and bracket among
-- the tokens, and the tree is what the grammar makes of it. What is left is that the source's tokens, each with its
-- lexeme, are the text of this derivation, and that is computed (`has_tree`). That these tokens have no other tree
-- isn't shown here.
use Rattle.std.proofs.Common.{ℕ, ◌+◌, pos, List, false, None, refl}
use Rattle.std.specs.Prelude.{codes}
use Rattle.loop_grammar.specs.Grammar.{Expr, Factor, Access, Statement, Statements, Declarations}
use Rattle.loop_grammar.specs.Grammar.{Program, program_tree, plus, input, output}
use Rattle.loop_grammar.specs.Grammar as grammar
use Rattle.loop_grammar.specs.Lexemes.{IsTree, sentence, lexeme_at, reserved_lexeme, bracket_lexeme, comparison_lexeme}
use Rattle.loop_grammar.specs.Lexemes.{sign_lexeme}
use Rattle.loop_grammar.specs.declared.tree.Name.{Name}
use Rattle.loop_grammar.specs.declared.tree.Tree.{Tree}
use Rattle.matrix_load.specs.Product.{matrix_product}
use Rattle.matrix_load.proofs.Sentence.{matrix_tokens}

abbrev named : List ℕ → ℕ → Name
named text p = record { text = text; token = p }

abbrev of_factor : Factor → Expr
of_factor f = grammar.term (grammar.factor f)

abbrev variable : List ℕ → ℕ → Expr
variable text p = of_factor (grammar.access (grammar.name (named text p)))

abbrev zero_at : ℕ → Expr
zero_at p = of_factor (grammar.number (pos 0) p)

-- a name with two subscripts, whose first token has number p
abbrev cell : List ℕ → ℕ → List ℕ → List ℕ → Access
cell text p i j = grammar.subscript
    (grammar.subscript (grammar.name (named text p)) (p + 1) (variable i (p + 2)) (p + 3)) (p + 4) (variable j (p + 5))
    (p + 6)

-- a loop from 0 to the last row or column, whose first token has number p
abbrev loop : ℕ → List ℕ → Statement → Statement
loop p i body =
    grammar.loop
    (grammar.header p (p + 1) None (named i (p + 2)) (p + 3) (zero_at (p + 4)) (p + 5) (named i (p + 6)) false (p + 7)
    (variable (codes "N") (p + 8)) (p + 9)
    (grammar.postfix (named i (p + 10)) (p + 11)) (p + 12))
    body

abbrev declarations : Declarations
declarations =
    grammar.also_declared
    (grammar.also_declared
    (grammar.also_declared grammar.none_declared (grammar.parameters 0 (grammar.single (named (codes "N") 1)) 2))
    (grammar.arrays input 3
    (grammar.more (grammar.single (cell (codes "A") 4 (codes "N") (codes "N"))) 11
    (cell (codes "B") 12 (codes "N") (codes "N"))) 19))
    (grammar.arrays output 20 (grammar.single (cell (codes "C") 21 (codes "N") (codes "N"))) 28)

-- C[i][j] + A[i][k] * B[k][j]
abbrev sum : Expr
sum =
    grammar.sum (of_factor (grammar.access (cell (codes "C") 87 (codes "i") (codes "j")))) plus 94
    (grammar.product (grammar.factor (grammar.access (cell (codes "A") 95 (codes "i") (codes "k")))) 102
    (grammar.access (cell (codes "B") 103 (codes "k") (codes "j"))))

abbrev clears : Statement
clears = grammar.assign (cell (codes "C") 56 (codes "i") (codes "j")) 63 (zero_at 64) 65

abbrev adds : Statement
adds = grammar.assign (cell (codes "C") 79 (codes "i") (codes "j")) 86 sum 110

abbrev body : Statement
body = grammar.block
    (grammar.braces 55
    (grammar.and_statement (grammar.and_statement grammar.no_statement clears) (loop 66 (codes "k") adds)) 111)

abbrev statements : Statements
statements = grammar.and_statement grammar.no_statement (loop 29 (codes "i") (loop 42 (codes "j") body))

abbrev matrix_program : Program
matrix_program = grammar.program declarations statements

abbrev pub matrix_tree : Tree
matrix_tree = program_tree matrix_program

pub has_tree : IsTree matrix_product matrix_tokens matrix_tree
unfolding sentence lexeme_at reserved_lexeme bracket_lexeme comparison_lexeme sign_lexeme
has_tree = (matrix_program, refl, refl)
