-- Reading and binding the source can't be refused.
use Rattle.std.proofs.Common.{◌≡◌, ◌≤◌, ℕ, List, [], refl, sym, ap, subst, ◌∙◌}
use Rattle.std.specs.Prelude.{Ok, Err, None}
use Rattle.plain_data.specs.Answers.{IsUnlessMemory}
use Rattle.loop_lex.specs.Tokens.{tokens}
use Rattle.loop_lex.specs.declared.token.Token.{Token}
use Rattle.loop_lex.specs.declared.token.LexError.{LexError}
use Rattle.loop_lex.specs.declared.token.LexError.TheVariants as lexical
use Rattle.loop_grammar.specs.Lexemes.{IsTree, sentence}
use Rattle.loop_grammar.specs.declared.tree.Tree.{Tree}
use Rattle.loop_parse.proofs.Runs.{unique}
use Rattle.loop_bind.specs.Findings.{findings}
use Rattle.loop_class.specs.Binding.{Binds}
use Rattle.loop_bind.specs.Declarations.{Values}
use Rattle.loop_bind.specs.Reasons.{least_from}
use Rattle.loop_bind.specs.declared.error.BindError.{BindError}
use Rattle.loop_bind.specs.declared.error.BindError.TheVariants as binding
use Rattle.matrix_load.specs.Product.{matrix_product, size_given}
use Rattle.matrix_load.proofs.Binding.{nothing_found}
use Rattle.matrix_load.proofs.Derivation.{matrix_tree, has_tree}
use Rattle.matrix_load.proofs.Sentence.{matrix_tokens, has_tokens}

-- the tokens, the tree and the nest are there, so what is refused is want of memory

pub lexed : (source : List ℕ) (e : LexError) → source ≡ matrix_product
    → IsUnlessMemory lexical.Memory (Err e) (tokens source) → e ≡ lexical.Memory
lexed source (lexical.BadByte at) same h = absurd (let ok = has_tokens in let no = h (λ e. cc) in cc)
lexed source (lexical.OpenComment at) same h = absurd (let ok = has_tokens in let no = h (λ e. cc) in cc)
lexed source (lexical.LargeNumber at) same h = absurd (let ok = has_tokens in let no = h (λ e. cc) in cc)
lexed source (lexical.TooMany at) same h = absurd (let ok = has_tokens in let no = h (λ e. cc) in cc)
lexed source lexical.Memory same h = refl

same_tokens : (found : List Token) → tokens matrix_product ≡ Ok found → matrix_tokens ≡ found
same_tokens found is = let ok = has_tokens in cc

pub derived : (source : List ℕ) (found : List Token) → source ≡ matrix_product → tokens matrix_product ≡ Ok found
    → IsTree source found matrix_tree
derived source found same is =
    subst (λ (text : List ℕ). IsTree text found matrix_tree) (sym same)
    (subst (λ (some : List Token). IsTree matrix_product some matrix_tree) (same_tokens found is) has_tree)

pub same_tree : (found : List Token) (tree : Tree) → tokens matrix_product ≡ Ok found → IsTree matrix_product found tree
    → tree ≡ matrix_tree
same_tree found tree is h =
    unique (sentence matrix_product found) tree matrix_tree h (derived matrix_product found refl is)

unfounded : (tree : Tree) (params : Values) (e : BindError) → findings tree params ≡ [] → Binds tree params (Err e)
    → e ≡ binding.Memory
unfounded tree params (binding.UnknownName t) none h = absurd (let least = ap (least_from None) none in cc)
unfounded tree params (binding.Duplicate t) none h = absurd (let least = ap (least_from None) none in cc)
unfounded tree params (binding.Unbound t) none h = absurd (let least = ap (least_from None) none in cc)
unfounded tree params (binding.NotAffine t) none h = absurd (let least = ap (least_from None) none in cc)
unfounded tree params (binding.WrongCount t) none h = absurd (let least = ap (least_from None) none in cc)
unfounded tree params (binding.ElseForm t) none h = absurd (let least = ap (least_from None) none in cc)
unfounded tree params (binding.TooManyProcesses t) none h = absurd (let least = ap (least_from None) none in cc)
unfounded tree params (binding.TooDeep t) none h = absurd (let least = ap (least_from None) none in cc)
unfounded tree params (binding.TooManyReads t) none h = absurd (let least = ap (least_from None) none in cc)
unfounded tree params (binding.TooManyRows t) none h = absurd (let least = ap (least_from None) none in cc)
unfounded tree params (binding.Large t) none h = absurd (let least = ap (least_from None) none in cc)
unfounded tree params (binding.StepMax t) none h = absurd (let least = ap (least_from None) none in cc)
unfounded tree params (binding.StepRange t) none h = absurd (let least = ap (least_from None) none in cc)
unfounded tree params binding.Memory none h = refl

pub bound : (count : ℕ) (found : List Token) (tree : Tree) (params : Values) (e : BindError) → count ≤ 2147483647
    → tokens matrix_product ≡ Ok found
    → IsTree matrix_product found tree → params ≡ size_given count → Binds tree params (Err e) → e ≡ binding.Memory
bound count found tree params e small is h given refused =
    let none : findings tree params ≡ [] =
    ap (findings tree) given ∙ ap (λ (t : Tree). findings t (size_given count)) (same_tree found tree is h)
    ∙ nothing_found count small in
    unfounded tree params e none refused
