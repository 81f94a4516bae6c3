-- Runs of the machine, and what they say of the grammar.
--
-- Three facts of the machine make the laws of an answer: what it ends with is a tree of the tokens (`SourceSound`),
-- from each state it reaches the end of some source (`SourceCloses`), and it reads each source to its end, with its
-- tree (`SourceComplete`). So a tree is the only one, since the run on given tokens is one; what was read before a stop
-- goes on to a source; and where no step is left, no source goes on so, since the machine would read it. The loop's
-- invariant is the state after so many of the tokens: one turn is one step more (`turns`). A want of memory refutes
-- nothing.
use Rattle.std.proofs.Common.{◌≡◌, inl, inr, ℕ, zero, suc, ◌+◌, ◌<◌, List, [], ◌∷◌, ◌++◌, length, take, drop}
use Rattle.std.proofs.Common.{get_or, map, add-one, refl, sym, ap, ◌∙◌, Option, Some, None, arith, append_assoc}
use Rattle.std.proofs.Common.{add-zero, zero-add, Result, Ok, Err, take_all}
use Rattle.std.proofs.lemmas.List.{append-nil, take-append-drop}
use Rattle.std.proofs.lemmas.Bool.{cases_lt}
use Rattle.std.specs.Prelude.{IfOk, IfErr, MatchResult, slice_get, option_map}
use Rattle.std.proofs.lemmas.Option.{slice_get_within}
use Rattle.loop_lex.specs.declared.token.Token.{Token}
use Rattle.loop_grammar.specs.declared.lexeme.Lexeme.{Lexeme}
use Rattle.loop_parse.specs.declared.parser.ParseError.{ParseError}
use Rattle.loop_parse.specs.declared.parser.ParseError.TheVariants.{Syntax, Memory}
use Rattle.loop_grammar.specs.declared.tree.Tree.{Tree}
use Rattle.loop_grammar.specs.Grammar.{Tok, Program, program_text, program_tree, Derives, IsViable, Stops}
use Rattle.loop_parse.specs.Feeding.{fed_by}
use Rattle.loop_grammar.specs.Lexemes.{lexeme_at, numbered_from, sentence, IsTree}
use Rattle.loop_grammar.proofs.Lexemes.{length-sentence}
use Rattle.loop_parse.specs.Places.{IsPlace}
use Rattle.loop_parse.specs.Runs.{Ran, Stuck, state_after, next_state, tree_at}
use Rattle.loop_parse.specs.declared.place.Reader.{Reader}
use Rattle.loop_parse.specs.SourceMachine.{State, state_of, feed, finish, start, fed}
use Rattle.loop_parse.proofs.MachineSteps.{fed_append, fed_none, some_is, none_is}
use Rattle.loop_parse.proofs.SourceComplete.{behind_all, whole_program, program_finishes}
use Rattle.loop_parse.proofs.SourceSound.{Stands, feed_stands, start_stands, finish_stands}
use Rattle.loop_parse.proofs.SourceCloses.{Closes, closes}
use Rattle.plain_data.proofs.Lists.{take-suc_some}

fed_stands : (s : State) (read tokens : List Tok) (last : State) → Stands s read → fed (Some s) tokens ≡ Some last
    → Stands last (read ++ tokens)
fed_stands s read [] last h run = rw (append-nil read, ← some_is s last run) h
fed_stands s read (t ∷ tokens) last h run =
    next (feed s t) refl run (λ mid m. fed_stands mid (read ++ t ∷ []) tokens last (feed_stands s t mid read h m))
  where
    next : (o : Option State) → feed s t ≡ o → fed_by feed o tokens ≡ Some last
        → ((mid : State) → feed s t ≡ Some mid → fed (Some mid) tokens ≡ Some last
        → Stands last ((read ++ t ∷ []) ++ tokens)) → Stands last (read ++ t ∷ tokens)
    next (Some mid) eo run ih = rw (← append_assoc read (t ∷ []) tokens) (ih mid eo run)
    next None eo run ih = absurd (none_is last (sym (fed_none feed tokens) ∙ run))

-- what the machine ends with is the tree of what it read
pub accepted : (tokens : List Tok) (s : State) (tree : Tree) → fed (Some start) tokens ≡ Some s → finish s ≡ Some tree
    → Derives tokens tree
accepted tokens s tree run ends = finish_stands s tree tokens (fed_stands start [] tokens s start_stands run) ends

-- what the machine has read goes on to a source
pub viable : (tokens : List Tok) (s : State) → fed (Some start) tokens ≡ Some s → IsViable tokens
viable tokens s run =
    let c : Closes s = closes s in
    let whole : fed (Some start) (tokens ++ c.rest) ≡ Some c.last =
    fed_append feed (Some start) tokens c.rest ∙ ap (λ o. fed o c.rest) run ∙ c.read in
    let d = accepted (tokens ++ c.rest) c.last c.tree whole c.finishes in
    (c.rest, d.0, d.1)

-- a source is read to its end
pub sentence_read : (tokens : List Tok) (p : Program) → program_text p ≡ tokens
    → fed (Some start) tokens ≡ Some (behind_all p)
sentence_read tokens p is = ap (fed (Some start)) (sym is) ∙ whole_program p

pub same_tree : (tokens : List Tok) (s : State) (a b : Tree) → fed (Some start) tokens ≡ Some s → finish s ≡ Some a
    → Derives tokens b → a ≡ b
same_tree tokens s a b run ends h =
    let same : s ≡ behind_all h.0 = some_is s (behind_all h.0) (sym run ∙ sentence_read tokens h.0 h.1) in
    some_is a b (sym ends ∙ ap finish same ∙ program_finishes h.0 ∙ ap (λ (x : Tree). Some x) h.2)

pub unique : (tokens : List Tok) (a b : Tree) → Derives tokens a → Derives tokens b → a ≡ b
unique tokens a b ha hb =
    same_tree tokens (behind_all ha.0) a b (sentence_read tokens ha.0 ha.1)
    (program_finishes ha.0 ∙ ap (λ (x : Tree). Some x) ha.2) hb

-- where the machine can't go on, no source does
no_more : (read : List Tok) (t : Tok) (s : State) → fed (Some start) read ≡ Some s → feed s t ≡ None
    → IsViable (read ++ t ∷ []) → ⊥
no_more read t s run stuck h =
    let whole : fed (Some start) ((read ++ t ∷ []) ++ h.0) ≡ Some (behind_all h.1) =
    sentence_read ((read ++ t ∷ []) ++ h.0) h.1 h.2 in
    let to_t : fed (Some start) (read ++ t ∷ []) ≡ None =
    fed_append feed (Some start) read (t ∷ []) ∙ ap (λ o. fed o (t ∷ [])) run ∙ stuck in
    let cut : fed (Some start) ((read ++ t ∷ []) ++ h.0) ≡ None =
    fed_append feed (Some start) (read ++ t ∷ []) h.0 ∙ ap (λ o. fed o h.0) to_t ∙ fed_none feed h.0 in
    none_is (behind_all h.1) (sym cut ∙ whole)

-- ---- places

pub place_there : (tokens : List Tok) (k : ℕ) → Stuck tokens k → Stops tokens k
unfolding state_after next_state tree_at
place_there tokens k h = record {
  within = elim h.there [
    | inl p ↦ let lt : k < length tokens = slice_get_within tokens k p.0 p.1 in omega arith
    | inr p ↦ let eq : k ≡ length tokens = p.0 in omega arith
  ];
  before = viable (take k tokens) h.state h.before;
  there = λ lt viable. elim h.there [
    | inl p ↦ no_more (take k tokens) p.0 h.state h.before p.2 (rw (take-suc_some tokens k p.0 p.1) at viable)
    | inr p ↦ let eq : k ≡ length tokens = p.0 in absurd (omega arith)
  ];
  at_end = λ end tree is. elim h.there [
    | inl p ↦ let lt : k < length tokens = slice_get_within tokens k p.0 p.1 in absurd (omega arith)
    | inr p ↦
        let whole : fed (Some start) tokens ≡ Some h.state = rw (take_all k tokens (omega (arith, end))) at h.before in
        let same : h.state ≡ behind_all is.0 =
        some_is h.state (behind_all is.0) (sym whole ∙ sentence_read tokens is.0 is.1) in
        none_is (program_tree is.0) (sym p.1 ∙ ap finish same ∙ program_finishes is.0)
  ];
}

pub stops_no_tree : (tokens : List Tok) (k : ℕ) → Stops tokens k → (tree : Tree) → Derives tokens tree → ⊥
stops_no_tree tokens k stops tree is = elim (cases_lt k (length tokens)) [
  | inl lt ↦ stops.there lt (drop (suc k) tokens, is.0, is.1 ∙ sym (take-append-drop (suc k) tokens))
  | inr le ↦ stops.at_end (omega (arith, stops.within)) tree is
]

-- ---- the laws of an answer

pub tree_law : (bytes : List ℕ) (tokens : List Token) (r : Result Tree ParseError) → Ran bytes tokens r
    → IfOk r (IsTree bytes tokens)
unfolding state_after tree_at
tree_law bytes tokens (Ok tree) h = accepted (sentence bytes tokens) h.0 tree h.1 h.2
tree_law bytes tokens (Err e) h = tt

pub place_law : (bytes : List ℕ) (tokens : List Token) (r : Result Tree ParseError) → Ran bytes tokens r
    → IfErr r (IsPlace bytes tokens)
place_law bytes tokens (Ok tree) h = tt
place_law bytes tokens (Err Memory) h = tt
place_law bytes tokens (Err (Syntax k)) h = place_there (sentence bytes tokens) k h

pub only_law : (bytes : List ℕ) (tokens : List Token) (r : Result Tree ParseError) → Ran bytes tokens r → (tree : Tree)
    → IsTree bytes tokens tree → MatchResult r (λ found. found ≡ tree) (λ error. error ≡ Memory)
unfolding state_after tree_at
only_law bytes tokens (Ok found) h tree is = same_tree (sentence bytes tokens) h.0 found tree h.1 h.2 is
only_law bytes tokens (Err Memory) h tree is = refl
only_law bytes tokens (Err (Syntax k)) h tree is =
    absurd (stops_no_tree (sentence bytes tokens) k (place_there (sentence bytes tokens) k h) tree is)

-- ---- the loop over the tokens

numbered_get : (bytes : List ℕ) (tokens : List Token) (n k : ℕ) (t : Token) → slice_get tokens k ≡ Some t
    → slice_get (numbered_from n (map (lexeme_at bytes) tokens)) k ≡ Some (lexeme_at bytes t, n + k)
numbered_get bytes [] n k t e = absurd cc
numbered_get bytes (u ∷ tokens) n zero t e = rw (some_is u t e, add-zero) refl
numbered_get bytes (u ∷ tokens) n (suc k) t e =
    let at : n + suc k ≡ n + 1 + k = omega arith in rw at (numbered_get bytes tokens (n + 1) k t e)

pub sentence_get : (bytes : List ℕ) (tokens : List Token) (k : ℕ) (t : Token) → slice_get tokens k ≡ Some t
    → slice_get (sentence bytes tokens) k ≡ Some (lexeme_at bytes t, k)
unfolding sentence
sentence_get bytes tokens k t e = rw (zero-add k) at (numbered_get bytes tokens 0 k t e)

pub begins : state_after [] ≡ Some start
unfolding state_after
begins = refl

goes_on : (bytes : List ℕ) (tokens : List Token) (k : ℕ) (t : Token) (s next : State) → slice_get tokens k ≡ Some t
    → state_after (take k (sentence bytes tokens)) ≡ Some s → next_state s (lexeme_at bytes t, k) ≡ Some next
    → state_after (take (suc k) (sentence bytes tokens)) ≡ Some next
unfolding state_after next_state
goes_on bytes tokens k t s next e run step =
    ap (fed (Some start)) (take-suc_some (sentence bytes tokens) k (lexeme_at bytes t, k) (sentence_get bytes tokens k t e))
    ∙ fed_append feed (Some start) (take k (sentence bytes tokens)) ((lexeme_at bytes t, k) ∷ [])
    ∙ ap (λ o. fed o ((lexeme_at bytes t, k) ∷ [])) run ∙ step

stuck_at : (bytes : List ℕ) (tokens : List Token) (k : ℕ) (t : Token) (s : State) → slice_get tokens k ≡ Some t
    → state_after (take k (sentence bytes tokens)) ≡ Some s → next_state s (lexeme_at bytes t, k) ≡ None
    → Stuck (sentence bytes tokens) k
stuck_at bytes tokens k t s e run step =
    record { state = s; before = run; there = inl ((lexeme_at bytes t, k), sentence_get bytes tokens k t e, step) }

pub stuck_at_end : (bytes : List ℕ) (tokens : List Token) (k : ℕ) (s : State) → k ≡ length tokens
    → state_after (take k (sentence bytes tokens)) ≡ Some s → tree_at s ≡ None
    → Stuck (sentence bytes tokens) (length tokens)
stuck_at_end bytes tokens k s e run ends =
    rw (← e) (record { state = s; before = run; there = inr (e ∙ sym (length-sentence bytes tokens), ends) })

pub ran_all : (bytes : List ℕ) (tokens : List Token) (k : ℕ) (s : State) → k ≡ length tokens
    → state_after (take k (sentence bytes tokens)) ≡ Some s → state_after (sentence bytes tokens) ≡ Some s
ran_all bytes tokens k s e run = rw (take_all k (sentence bytes tokens) (omega (arith, (e ∙ sym (length-sentence bytes tokens))))) at run

get_some : (tokens : List Token) (k : ℕ) (d : Token) → k < length tokens → slice_get tokens k ≡ Some (get_or tokens k d)
get_some [] k d lt = absurd (omega arith)
get_some (t ∷ tokens) zero d lt = refl
get_some (t ∷ tokens) (suc k) d lt = get_some tokens k d (omega arith)

-- one turn of the loop
pub turns : (bytes : List ℕ) (tokens : List Token) (k : ℕ) (d : Token) (w : Lexeme) (s : State) (o : Option Reader)
    (next : Reader) → k < length tokens → state_after (take k (sentence bytes tokens)) ≡ Some s
    → w ≡ lexeme_at bytes (get_or tokens k d) → next_state s (w, k) ≡ option_map state_of o → o ≡ Some next
    → state_after (take (k + 1) (sentence bytes tokens)) ≡ Some (state_of next)
turns bytes tokens k d w s o next lt run is step found =
    rw add-one (goes_on bytes tokens k (get_or tokens k d) s (state_of next) (get_some tokens k d lt) run
    (rw (is, found) at step))

pub stops : (bytes : List ℕ) (tokens : List Token) (k : ℕ) (d : Token) (w : Lexeme) (s : State) (o : Option Reader)
    → k < length tokens → state_after (take k (sentence bytes tokens)) ≡ Some s
    → w ≡ lexeme_at bytes (get_or tokens k d) → next_state s (w, k) ≡ option_map state_of o → o ≡ None
    → Stuck (sentence bytes tokens) k
stops bytes tokens k d w s o lt run is step found =
    stuck_at bytes tokens k (get_or tokens k d) s (get_some tokens k d lt) run (rw (is, found) at step)
