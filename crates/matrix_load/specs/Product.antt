-- The matrix product as a source, and its nest for matrices of a size.
use Rattle.std.specs.Prelude.{◌≡◌, ℕ, pos, List, [], ◌∷◌, Ok, codes}
use Rattle.loop_lex.specs.Tokens.{tokens}
use Rattle.loop_lex.specs.declared.token.Token.{Token}
use Rattle.loop_grammar.specs.Lexemes.{IsTree}
use Rattle.loop_grammar.specs.declared.tree.Tree.{Tree}
use Rattle.loop_class.specs.Binding.{IsBound}
use Rattle.loop_bind.specs.Declarations.{Values}
use Rattle.sanlp.specs.declared.nest.Nest.{Nest}

-- C is the product of A and B
abbrev pub matrix_product : List ℕ
matrix_product =
    codes "param N; in A[N][N], B[N][N]; out C[N][N]; for (i = 0; i < N; i++) for (j = 0; j < N; j++) { C[i][j] = 0; for (k = 0; k < N; k++) C[i][j] = C[i][j] + A[i][k] * B[k][j]; }"

-- the number of rows of each matrix, and of columns
abbrev pub size_given : ℕ → Values
size_given count = (codes "N", pos count) ∷ []

-- the source with this number of rows is bound to the nest
pub record IsMatrixNest (count : ℕ) (nest : Nest) : Type 0 where
  pub found : List Token
  pub tree : Tree
  pub has_tokens : tokens matrix_product ≡ Ok found
  pub has_tree : IsTree matrix_product found tree
  pub is_bound : IsBound tree (size_given count) nest
