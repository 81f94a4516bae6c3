-- A machine that is fed token by token, until one does not follow.
use Rattle.std.specs.Prelude.{Option, Some, None, List, [], ◌∷◌}
use Rattle.loop_grammar.specs.Grammar.{Tok}

abbrev pub fed_by : {S : Type 0} → (S → Tok → Option S) → Option S → List Tok → Option S
fed_by step s [] = s
fed_by step None (t ∷ ts) = None
fed_by step (Some s) (t ∷ ts) = fed_by step (step s t) ts
