-- The words of a source's tree derive again.
--
-- By induction on the derivation that the tree came from, the words of each statement, block, declaration and list
-- derive again from any number on (`Respelled` in `Spelling`); in a list each thing begins at the number where the one
-- before and the separator end. What the tree doesn't keep, such as an `int` or how a step by one was written, gets the
-- one form in which it is written. That the text of the words has these tokens is shown in `Texts`.
use Rattle.std.proofs.Common.{ℕ, ◌+◌, ◌<◌, Option, Some, None, List, [], ◌∷◌, ◌++◌, map, length, refl, ap, arith}
use Rattle.std.proofs.Common.{length-append}
use Rattle.std.specs.List.{flat_map}
use Rattle.std.proofs.lemmas.List.{append-nil, map-append}
use Rattle.loop_grammar.specs.declared.lexeme.Lexeme.{Lexeme}
use Rattle.loop_grammar.specs.declared.lexeme.Lexeme.TheVariants as word
use Rattle.loop_grammar.specs.declared.tree.DeclWord.TheVariants.{Param}
use Rattle.loop_grammar.specs.declared.tree.Name.{Name}
use Rattle.loop_grammar.specs.declared.tree.Part as part
use Rattle.loop_grammar.specs.declared.tree.Step.{Step}
use Rattle.loop_grammar.specs.declared.tree.Step.TheVariants.{By}
use Rattle.loop_grammar.specs.Grammar.{Tok, access_text, expr_tree, Separated, single, more, separated_text}
use Rattle.loop_grammar.specs.Grammar.{separated_list, Compared, compared, compared_text, compared_tree, Guard, guard}
use Rattle.loop_grammar.specs.Grammar.{guard_text, guard_tree, Stepped, postfix, prefix, compound, stepped_text}
use Rattle.loop_grammar.specs.Grammar.{stepped_name, stepped_tree, int_text, Header, header, Statement, loop, guarded}
use Rattle.loop_grammar.specs.Grammar.{alternative, assign, block, Block, braces, Statements, no_statement}
use Rattle.loop_grammar.specs.Grammar.{and_statement, statement_text, block_text, statements_text, statement_tree}
use Rattle.loop_grammar.specs.Grammar.{block_parts, statement_trees, array_word, Declared, parameters, arrays}
use Rattle.loop_grammar.specs.Grammar.{parameter_text, declared_text, parameter, array, declared_tree, Declarations}
use Rattle.loop_grammar.specs.Grammar.{none_declared, also_declared, declarations_text, declaration_trees, Program}
use Rattle.loop_grammar.specs.Grammar.{program, program_text, program_tree}
use Rattle.loop_print.specs.Printing.{joined, expr_words, named_words, comparison_words, step_words, header_words}
use Rattle.loop_print.specs.Printing.{guard_words, in_braces, part_words, parts_words, declaration_words, tree_words}
use Rattle.loop_print.specs.Numbers.{unnumbered_name, unnumbered_comparison, unnumbered_step, unnumbered_part}
use Rattle.loop_print.specs.Numbers.{unnumbered_named, unnumbered_declaration, without_token_numbers}
use Rattle.loop_print.proofs.Phrases.{words_for, words_if, words_assign, words_block, unnumbered_for, unnumbered_if}
use Rattle.loop_print.proofs.Phrases.{unnumbered_else, unnumbered_assign, unnumbered_block}
use Rattle.loop_print.proofs.Spelling.{skip, Spells, none, first, last, both, flat_more, joined_more, Respelled}
use Rattle.loop_print.proofs.SpelledExpressions.{again_expr, spelled_access}

-- ---- lists with a separator

separated_some : {A B : Type 0} (tree : A → B) (xs : Separated A) → 0 < length (separated_list tree xs)
separated_some tree (single x) = omega arith
separated_some tree (more xs p x) = omega (arith, length-append (separated_list tree xs) (tree x ∷ []))

spelled_separated : {A B : Type 0} (sign : Lexeme) (text : A → List Tok) (tree : A → B) (bare : B → B)
    (words : B → List Lexeme) → ((x : A) → Respelled text tree bare words x) → (xs : Separated A)
    → Respelled (separated_text sign text) (separated_list tree) (map bare) (joined sign words) xs
spelled_separated {A} {B} sign text tree bare words each (single x) n =
    let y = each x n in
    record { new = single y.new; tokens = rw append-nil y.tokens; same = ap (λ (b : B). b ∷ []) y.same }
spelled_separated sign text tree bare words each (more xs p x) n =
    let m : ℕ = n + length (joined sign words (separated_list tree xs)) in
    let ys = spelled_separated sign text tree bare words each xs n in
    let y = each x (m + 1) in record {
      new = more ys.new m y.new;
      tokens =
          rw (joined_more sign words (separated_list tree xs) (tree x) (separated_some tree xs))
          (both ys.tokens (first y.tokens));
      same = simp (map-append, ys.same, y.same);
    }

-- ---- comparisons, guards and the brackets of a `for`

spelled_comparison : (x : Compared) → Respelled compared_text compared_tree unnumbered_comparison comparison_words x
spelled_comparison (compared a s p b) n =
    let m : ℕ = n + length (expr_words (expr_tree a)) in
    let x = again_expr a n in
    let y = again_expr b (m + 1) in record {
      new = compared x.new s m y.new;
      tokens = both x.tokens (first y.tokens);
      same = λ i. record { left = x.same i; sign = s; token = 0; right = y.same i };
    }

spelled_guard : (g : Guard) → Respelled guard_text guard_tree (map unnumbered_comparison) guard_words g
spelled_guard (guard p q cond r) n =
    let x = spelled_separated word.And compared_text compared_tree unnumbered_comparison comparison_words
    spelled_comparison cond (n + 1 + 1) in
    let close : ℕ = n + 1 + 1 + length (joined word.And comparison_words (separated_list compared_tree cond)) in
    record { new = guard n (n + 1) x.new close; tokens = first (first (both x.tokens last)); same = x.same }

abbrev named_at : ℕ → Name → Name
named_at n x = record { text = x.text; token = n }

abbrev step_of : Stepped → Name × Step
step_of s = (stepped_name s, stepped_tree s)

abbrev unnumbered : Name × Step → Name × Step
unnumbered s = (unnumbered_name s.0, unnumbered_step s.1)

spelled_step : (s : Stepped) → Respelled stepped_text step_of unnumbered (λ s. step_words s.0 s.1) s
spelled_step (postfix x p) n =
    record { new = postfix (named_at n x) (n + 1); tokens = first last; same = refl }
spelled_step (prefix p x) n = record {
  new = postfix (named_at n x) (n + 1);
  tokens = record { is = refl; within = record { shorter = omega arith; valid = λ v. (v.1.0, (v.0, tt)) } };
  same = refl;
}
spelled_step (compound x p e) n = let y = again_expr e (n + 1 + 1) in record {
  new = compound (named_at n x) (n + 1) y.new;
  tokens = first (first y.tokens);
  same = λ i. (unnumbered_name x, By 0 (y.same i));
}

int_left_out : (int : Option ℕ) {n : ℕ} {a : List Lexeme} {ts us : List Tok} → Spells n a ts us
    → Spells n a ts (int_text int ++ us)
int_left_out None h = h
int_left_out (Some p) h = record { is = h.is; within = skip h.within }

spelled_loop : (h : Header) (s : Statement) → Respelled statement_text statement_tree unnumbered_part part_words s
    → Respelled statement_text statement_tree unnumbered_part part_words (loop h s)
spelled_loop (header p q int x r e s second inclusive t bound u step v) body inside n =
    let k : ℕ = n + 1 + 1 + 1 + 1 + length (expr_words (expr_tree e)) in
    let l : ℕ = k + 1 + 1 + 1 + length (expr_words (expr_tree bound)) in
    let a = again_expr e (n + 1 + 1 + 1 + 1) in
    let b = again_expr bound (k + 1 + 1 + 1) in
    let c = spelled_step step (l + 1) in
    let close : ℕ = l + 1 + length (step_words (stepped_name step) (stepped_tree step)) in
    let words : List Lexeme =
    header_words x (expr_tree e) second inclusive (expr_tree bound) (stepped_name step) (stepped_tree step) in
    let d = inside (n + length words) in record {
      new =
          loop (header n (n + 1) None (named_at (n + 1 + 1) x) (n + 1 + 1 + 1) a.new k (named_at (k + 1) second)
          inclusive (k + 1 + 1) b.new l c.new close) d.new;
      tokens =
          rw words_for (both (first (first (int_left_out int (first (first (both a.tokens (first (first (first
          (both b.tokens (first (both c.tokens last)))))))))))) d.tokens);
      same = simp unnumbered_for (λ i. part.For (unnumbered_name x) (a.same i) (unnumbered_name second) inclusive
          (b.same i) (c.same i).0 (c.same i).1 (d.same i));
    }

-- ---- statements

mutual
  spelled_statement : (s : Statement) → Respelled statement_text statement_tree unnumbered_part part_words s
  spelled_statement (loop h s) n = spelled_loop h s (spelled_statement s) n
  spelled_statement (guarded g s) n =
      let x = spelled_guard g n in
      let y = spelled_statement s (n + length (guard_words (guard_tree g))) in record {
        new = guarded x.new y.new;
        tokens = rw (words_if, append-nil (part_words (statement_tree s))) (both x.tokens y.tokens);
        same = simp unnumbered_if (λ i. part.If (x.same i) (y.same i) None);
      }
  spelled_statement (alternative g b p s) n =
      let k : ℕ = n + length (guard_words (guard_tree g)) in
      let m : ℕ = k + length (in_braces (parts_words (block_parts b))) in
      let x = spelled_guard g n in
      let y = spelled_block b k in
      let z = spelled_statement s (m + 1) in record {
        new = alternative x.new y.new m z.new;
        tokens = rw (words_if, words_block) (both x.tokens (both y.tokens (first z.tokens)));
        same =
            simp (unnumbered_else, unnumbered_block)
            (λ i. part.If (x.same i) (part.Block (y.same i)) (Some (record { token = 0; body = z.same i })));
      }
  spelled_statement (assign a p e q) n =
      let m : ℕ = n + length (named_words (array a)) in
      let x = spelled_access a n in
      let y = again_expr e (m + 1) in record {
        new = assign x.new m y.new (m + 1 + length (expr_words (expr_tree e)));
        tokens = rw words_assign (both x.tokens (first (both y.tokens last)));
        same = simp unnumbered_assign (λ i. part.Assign (x.same i).name (x.same i).extents (y.same i));
      }
  spelled_statement (block b) n = let x = spelled_block b n in record {
    new = block x.new;
    tokens = rw words_block x.tokens;
    same = simp unnumbered_block (ap part.Block x.same);
  }

  spelled_block : (b : Block)
      → Respelled block_text block_parts (map unnumbered_part) (λ parts. in_braces (parts_words parts)) b
  spelled_block (braces p ss q) n =
      let x = spelled_statements ss (n + 1) in
      let close : ℕ = n + 1 + length (parts_words (statement_trees ss)) in
      record { new = braces n x.new close; tokens = first (both x.tokens last); same = x.same }

  spelled_statements : (ss : Statements)
      → Respelled statements_text statement_trees (map unnumbered_part) parts_words ss
  spelled_statements no_statement n = record { new = no_statement; tokens = none; same = refl }
  spelled_statements (and_statement ss s) n =
      let x = spelled_statements ss n in
      let y = spelled_statement s (n + length (parts_words (statement_trees ss))) in record {
        new = and_statement x.new y.new;
        tokens = rw flat_more (both x.tokens y.tokens);
        same = simp (map-append, x.same, y.same);
      }

-- ---- declarations and sources

spelled_parameter : (x : Name) → Respelled parameter_text parameter unnumbered_named named_words x
spelled_parameter x n = record { new = named_at n x; tokens = last; same = refl }

spelled_declared : (d : Declared)
    → Respelled declared_text declared_tree unnumbered_declaration declaration_words d
spelled_declared (parameters p ns q) n =
    let x = spelled_separated word.Comma parameter_text parameter unnumbered_named named_words spelled_parameter ns
    (n + 1) in record {
      new = parameters n x.new (n + 1 + length (joined word.Comma named_words (separated_list parameter ns)));
      tokens = first (both x.tokens last);
      same = λ i. record { word = Param; names = x.same i };
    }
spelled_declared (arrays w p list q) n =
    let x = spelled_separated word.Comma access_text array unnumbered_named named_words spelled_access list (n + 1) in
    record {
      new = arrays w n x.new (n + 1 + length (joined word.Comma named_words (separated_list array list)));
      tokens = first (both x.tokens last);
      same = λ i. record { word = array_word w; names = x.same i };
    }

spelled_declarations : (ds : Declarations)
    → Respelled declarations_text declaration_trees (map unnumbered_declaration) (flat_map declaration_words) ds
spelled_declarations none_declared n = record { new = none_declared; tokens = none; same = refl }
spelled_declarations (also_declared ds d) n =
    let x = spelled_declarations ds n in
    let y = spelled_declared d (n + length (flat_map declaration_words (declaration_trees ds))) in record {
      new = also_declared x.new y.new;
      tokens = rw flat_more (both x.tokens y.tokens);
      same = simp (map-append, x.same, y.same);
    }

pub spelled_program : (p : Program) → Respelled program_text program_tree without_token_numbers tree_words p
spelled_program (program ds ss) n =
    let x = spelled_declarations ds n in
    let y = spelled_statements ss (n + length (flat_map declaration_words (declaration_trees ds))) in record {
      new = program x.new y.new;
      tokens = both x.tokens y.tokens;
      same = λ i. record { declarations = x.same i; parts = y.same i };
    }
