-- The tokens of the matrix product.
use Rattle.std.proofs.Common.{◌≡◌, ℕ, List, [], ◌∷◌, refl}
use Rattle.std.specs.Prelude.{Ok}
use Rattle.loop_lex.specs.Tokens.{tokens, tokens_from, longest_up_to}
use Rattle.loop_lex.specs.declared.token.Token.{Token}
use Rattle.loop_lex.specs.declared.token.TokenKind.{TokenKind}
use Rattle.loop_lex.specs.declared.token.TokenKind.TheVariants.{Name, Number, Reserved, Sign}
use Rattle.matrix_load.specs.Product.{matrix_product}

abbrev at : TokenKind → ℕ → ℕ → Token
at k s e = record { kind = k; start = s; end = e }

abbrev pub matrix_tokens : List Token
matrix_tokens =
    at Reserved 0 5 ∷ at Name 6 7 ∷ at Sign 7 8 ∷ at Reserved 9 11 ∷ at Name 12 13 ∷ at Sign 13 14 ∷ at Name 14 15
    ∷ at Sign 15 16
    ∷ at Sign 16 17 ∷ at Name 17 18 ∷ at Sign 18 19 ∷ at Sign 19 20 ∷ at Name 21 22 ∷ at Sign 22 23 ∷ at Name 23 24
    ∷ at Sign 24 25
    ∷ at Sign 25 26 ∷ at Name 26 27 ∷ at Sign 27 28 ∷ at Sign 28 29 ∷ at Reserved 30 33 ∷ at Name 34 35 ∷ at Sign 35 36
    ∷ at Name 36 37
    ∷ at Sign 37 38 ∷ at Sign 38 39 ∷ at Name 39 40 ∷ at Sign 40 41 ∷ at Sign 41 42 ∷ at Reserved 43 46 ∷ at Sign 47 48
    ∷ at Name 48 49
    ∷ at Sign 50 51 ∷ at Number 52 53 ∷ at Sign 53 54 ∷ at Name 55 56 ∷ at Sign 57 58 ∷ at Name 59 60 ∷ at Sign 60 61
    ∷ at Name 62 63
    ∷ at Sign 63 65 ∷ at Sign 65 66 ∷ at Reserved 67 70 ∷ at Sign 71 72 ∷ at Name 72 73 ∷ at Sign 74 75
    ∷ at Number 76 77 ∷ at Sign 77 78
    ∷ at Name 79 80 ∷ at Sign 81 82 ∷ at Name 83 84 ∷ at Sign 84 85 ∷ at Name 86 87 ∷ at Sign 87 89 ∷ at Sign 89 90
    ∷ at Sign 91 92
    ∷ at Name 93 94 ∷ at Sign 94 95 ∷ at Name 95 96 ∷ at Sign 96 97 ∷ at Sign 97 98 ∷ at Name 98 99 ∷ at Sign 99 100
    ∷ at Sign 101 102
    ∷ at Number 103 104 ∷ at Sign 104 105 ∷ at Reserved 106 109 ∷ at Sign 110 111 ∷ at Name 111 112 ∷ at Sign 113 114
    ∷ at Number 115 116 ∷ at Sign 116 117
    ∷ at Name 118 119 ∷ at Sign 120 121 ∷ at Name 122 123 ∷ at Sign 123 124 ∷ at Name 125 126 ∷ at Sign 126 128
    ∷ at Sign 128 129 ∷ at Name 130 131
    ∷ at Sign 131 132 ∷ at Name 132 133 ∷ at Sign 133 134 ∷ at Sign 134 135 ∷ at Name 135 136 ∷ at Sign 136 137
    ∷ at Sign 138 139 ∷ at Name 140 141
    ∷ at Sign 141 142 ∷ at Name 142 143 ∷ at Sign 143 144 ∷ at Sign 144 145 ∷ at Name 145 146 ∷ at Sign 146 147
    ∷ at Sign 148 149 ∷ at Name 150 151
    ∷ at Sign 151 152 ∷ at Name 152 153 ∷ at Sign 153 154 ∷ at Sign 154 155 ∷ at Name 155 156 ∷ at Sign 156 157
    ∷ at Sign 158 159 ∷ at Name 160 161
    ∷ at Sign 161 162 ∷ at Name 162 163 ∷ at Sign 163 164 ∷ at Sign 164 165 ∷ at Name 165 166 ∷ at Sign 166 167
    ∷ at Sign 167 168 ∷ at Sign 169 170 ∷ []

pub has_tokens : tokens matrix_product ≡ Ok matrix_tokens
unfolding tokens_from longest_up_to
has_tokens = refl
