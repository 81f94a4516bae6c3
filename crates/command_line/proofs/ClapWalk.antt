-- What `clap` finds in the words is what they are split into.
--
-- By induction on the words, at once for two kinds of state: nothing waits for a value (`Goes`), and `--policy` waits
-- for one (`Waits`); behind `--` by an induction of its own (`trails`). The claim (`IsRead`) is of what was split so
-- far and of what the split of the words behind gives: without a fault the order of both together is that of the rows
-- that are found, and with a fault there is no order. One word either moves from the words behind to the split, or is a
-- fault that no later word mends (`Refusals`). Which fault comes first isn't compared.
use Rattle.std.proofs.Common.{◌≡◌, refl, sym, ap, ap₂, subst, codes, true, false, List, [], ◌∷◌, ◌++◌, Some, None, Option, unwrap_or, fold, append_assoc, append-nil, ◌∙◌}
use Rattle.std.specs.List.{cons_option}
use Rattle.std.specs.Option.{option_map}
use Rattle.clap.specs.Walk.{Row, Walk, Waiting, idle, positional, option, all_of, first_of, walk_from, walked, settled_rows, nothing_held}
use Rattle.clap.specs.Kinds.{Kinds, or_else}
use Rattle.clap.specs.Faults.{turn_fault, settle_fault, walk_fault}
use Rattle.clap.specs.declared.error.kind.ErrorKind.{ErrorKind}
use Rattle.clap.specs.declared.error.kind.ErrorKind.TheVariants as kind
use Rattle.command_line.specs.Words.{Text, Split, with_item, with_policy, split_words, split_value, order_of_split}
use Rattle.command_line.proofs.ClapCommand.{shape, rules, at, held}
use Rattle.command_line.proofs.WordCases.{Case, case_of, ends, asks, gives, unknown, stray, plain}
use Rattle.command_line.proofs.ClapRows.{Rows, Pending, Keeping, rows_in, pending_in, split_in, with_pending, kept, keeping, rows-kept, clean, twice, nothing, item, value, neither, items, policy, items_policy, policy_items}
use Rattle.command_line.proofs.Refusals.{join, order_from, given_twice, no_such_policy, no_such_item, option_is_no_policy}
use Rattle.command_line.proofs.ClapSteps as step
use Rattle.command_line.proofs.ClapSteps.{IsFree, when_idle, when_positional, IsPlain, waiting_at}

-- the items and the policy among some rows
abbrev pub split_of : List Row → Split
split_of rows =
    record {
      items = unwrap_or (all_of (codes "items") rows) [];
      policies =
          cons_option (first_of (codes "policy") rows) [];
    }

split_of-rows : (r : Rows) → split_of (rows_in r) ≡ split_in r
split_of-rows neither = refl
split_of-rows (items xs) = refl
split_of-rows (policy v) = refl
split_of-rows (items_policy xs v) = refl
split_of-rows (policy_items v xs) = refl

-- how the walk fails from a place on, and which rows it leaves
abbrev pub fault_from : Walk → List Text → Kinds
fault_from walk words =
    or_else (walk_fault shape [] walk words) (settle_fault rules false (fold (walked rules []) walk words).held)

abbrev pub rows_from : Walk → List Text → List Row
rows_from walk words = let end = (fold (walked rules []) walk words).held in settled_rows rules end.pending end.rows

-- words behind some that were split: they are taken where they give an order, and what is found is what they give
pub record IsRead (split : Split) (later : Option Split) (fault : Kinds) (rows : List Row) : Type 0 where
  pub taken : fault ≡ [] → order_from split later ≡ order_of_split (split_of rows)
  pub refused : (fault ≡ [] → ⊥) → order_from split later ≡ None

abbrev ReadsFrom : Split → Option Split → Walk → List Text → Type 0
ReadsFrom split later walk words = IsRead split later (fault_from walk words) (rows_from walk words)

stops : (split : Split) (later : Option Split) (fault : Kinds) (rows : List Row) (k : ErrorKind) (ks : Kinds)
    → fault ≡ k ∷ ks → order_from split later ≡ None → IsRead split later fault rows
stops split later fault rows k ks fails none = record { taken = λ e. absurd (cc); refused = λ _. none }

-- one more word
stops_at : (split : Split) (later : Option Split) (walk : Walk) (word : Text) (words : List Text) (k : ErrorKind)
    (ks : Kinds) → turn_fault shape [] walk word ≡ k ∷ ks → order_from split later ≡ None
    → ReadsFrom split later walk (word ∷ words)
unfolding walk_fault
stops_at split later walk word words k ks fails none =
    stops split later _ _ k _
    (ap (λ (kinds : Kinds).
    or_else (or_else kinds (walk_fault shape [] (walked rules [] walk word) words))
    (settle_fault rules false (fold (walked rules []) walk (word ∷ words)).held)) fails) none

goes_on : (split more : Split) (later rest : Option Split) (walk next : Walk) (word : Text) (words : List Text)
    → turn_fault shape [] walk word ≡ [] → walked rules [] walk word ≡ next
    → order_from split later ≡ order_from more rest → ReadsFrom more rest next words
    → ReadsFrom split later walk (word ∷ words)
unfolding walk_fault
goes_on split more later rest walk next word words none moves same read =
    let fault : fault_from walk (word ∷ words) ≡ fault_from next words =
    ap (λ (kinds : Kinds).
    or_else (or_else kinds (walk_fault shape [] (walked rules [] walk word) words))
    (settle_fault rules false (fold (walked rules []) walk (word ∷ words)).held)) none
    ∙ ap (λ (w : Walk). fault_from w words) moves in
    let rows : rows_from walk (word ∷ words) ≡ rows_from next words = ap (λ (w : Walk). rows_from w words) moves in
    record {
      taken = λ e. same ∙ read.taken (sym fault ∙ e)
          ∙ ap (λ (found : List Row). order_of_split (split_of found)) (sym rows);
      refused = λ fails. same ∙ read.refused (λ e. fails (fault ∙ e));
    }

-- an item, or a value of the policy, goes from the words behind to those before
item_next : (split : Split) (x : Text) (later : Option Split)
    → order_from split (option_map (with_item x) later) ≡ order_from (with_pending (item x) split) later
item_next split x None = refl
item_next split x (Some rest) =
    ap (λ (xs : List Text). order_of_split (record { items = xs; policies = split.policies ++ rest.policies }))
    (sym (append_assoc split.items (x ∷ []) rest.items))

policy_next : (split : Split) (v : Text) (later : Option Split)
    → order_from split (option_map (with_policy v) later) ≡ order_from (with_pending (value v) split) later
policy_next split v None = refl
policy_next split v (Some rest) =
    ap (λ (vs : List Text). order_of_split (record { items = split.items ++ rest.items; policies = vs }))
    (sym (append_assoc split.policies (v ∷ []) rest.policies))

abbrev empty : Split
empty = record { items = []; policies = [] }

join-empty : (split : Split) → join split empty ≡ split
join-empty split =
    ap₂ (λ (xs vs : List Text). let found : Split = record { items = xs; policies = vs } in found)
    (append-nil split.items) (append-nil split.policies)

-- where the words end
at_end : (p : Pending) (r : Rows)
    → IsRead (with_pending p (split_in r)) (Some empty) (settle_fault rules false (held (rows_in r) (pending_in p)))
    (settled_rows rules (pending_in p) (rows_in r))
at_end p r = go (keeping p r)
  where
    go : Keeping p r (settle_fault rules false (held (rows_in r) (pending_in p)))
        → IsRead (with_pending p (split_in r)) (Some empty) (settle_fault rules false (held (rows_in r) (pending_in p)))
        (settled_rows rules (pending_in p) (rows_in r))
    go (clean none same) = record {
      taken = λ _. ap order_of_split
          (join-empty (with_pending p (split_in r)) ∙ same ∙ sym (split_of-rows (kept p r))
          ∙ ap split_of (sym (rows-kept p r)));
      refused = λ fails. absurd (fails none);
    }
    go (twice v w clash two) = stops _ _ _ _ _ _ clash (given_twice (with_pending p (split_in r)) v w two (Some empty))

-- behind `--`
abbrev Trails : List Text → Type 0
Trails words =
    (p : Pending) (r : Rows) (waiting : Waiting)
    → ReadsFrom (with_pending p (split_in r)) (Some (record { items = words; policies = [] }))
    (at (rows_in r) (pending_in p) waiting true) words

trails_more : (word : Text) (words : List Text) → Trails words → Trails (word ∷ words)
trails_more word words more p r waiting = go (keeping p r)
  where
    go : Keeping p r (settle_fault rules false (held (rows_in r) (pending_in p)))
        → ReadsFrom (with_pending p (split_in r)) (Some (record { items = word ∷ words; policies = [] }))
        (at (rows_in r) (pending_in p) waiting true) (word ∷ words)
    go (clean none same) =
        goes_on _ _ _ _ _ _ word words (step.trailing_fault (rows_in r) (pending_in p) waiting word ∙ none)
        (step.trailing_step (rows_in r) (pending_in p) waiting word
        ∙ ap (λ (rows : List Row). at rows (pending_in (item word)) positional true) (rows-kept p r))
        (ap (λ (split : Split). order_from split (Some (record { items = word ∷ words; policies = [] }))) same
        ∙ item_next (split_in (kept p r)) word (Some (record { items = words; policies = [] })))
        (more (item word) (kept p r) positional)
    go (twice v w clash two) =
        stops_at _ _ _ word words _ _ (step.trailing_fault (rows_in r) (pending_in p) waiting word ∙ clash)
        (given_twice (with_pending p (split_in r)) v w two (Some (record { items = word ∷ words; policies = [] })))

trails : (words : List Text) → Trails words
unfolding walk_fault
trails [] p r waiting = at_end p r
trails (word ∷ words) p r waiting = trails_more word words (trails words) p r waiting

-- where nothing waits for a value
abbrev Goes : List Text → Type 0
Goes words =
    (p : Pending) (r : Rows) (waiting : Waiting) → IsFree waiting
    → ReadsFrom (with_pending p (split_in r)) (split_words words) (at (rows_in r) (pending_in p) waiting false) words

-- where `--policy` waits for its value
abbrev Waits : List Text → Type 0
Waits words = (r : Rows) → ReadsFrom (split_in r) (split_value words) (waiting_at (rows_in r)) words

module _ (words : List Text) (p : Pending) (r : Rows) (waiting : Waiting) (free : IsFree waiting) where
  abbrev Here : Text → Type 0
  Here word =
      ReadsFrom (with_pending p (split_in r)) (split_words (word ∷ words)) (at (rows_in r) (pending_in p) waiting false)
      (word ∷ words)

  goes_dashes : Here (codes "--")
  goes_dashes =
      goes_on _ _ _ _ _ _ (codes "--") words (step.dashes_fault (rows_in r) (pending_in p) waiting free)
      (step.dashes_step (rows_in r) (pending_in p) waiting free) refl (trails words p r waiting)

  goes_policy : Waits words → Here (codes "--policy")
  goes_policy waits = go (keeping p r)
    where
      go : Keeping p r (settle_fault rules false (held (rows_in r) (pending_in p))) → Here (codes "--policy")
      go (clean none same) =
          goes_on _ _ _ _ _ _ (codes "--policy") words
          (step.policy_fault (rows_in r) (pending_in p) waiting free ∙ none)
          (step.policy_step (rows_in r) (pending_in p) waiting free ∙ ap waiting_at (rows-kept p r))
          (ap (λ (split : Split). order_from split (split_value words)) same)
          (waits (kept p r))
      go (twice v w clash two) =
          stops_at _ _ _ (codes "--policy") words _ _
          (step.policy_fault (rows_in r) (pending_in p) waiting free ∙ clash)
          (given_twice (with_pending p (split_in r)) v w two (split_value words))

  goes_item : (word : Text) → IsPlain word → Goes words → (later : Option Split)
      → ((split : Split) → order_from split later ≡ order_from (with_pending (item word) split) (split_words words))
      → ReadsFrom (with_pending p (split_in r)) later (at (rows_in r) (pending_in p) waiting false) (word ∷ words)
  goes_item word is_plain more later next = go (keeping p r)
    where
      go : Keeping p r (settle_fault rules false (held (rows_in r) (pending_in p)))
          → ReadsFrom (with_pending p (split_in r)) later (at (rows_in r) (pending_in p) waiting false) (word ∷ words)
      go (clean none same) =
          goes_on _ _ _ _ _ _ word words (step.plain_fault (rows_in r) (pending_in p) waiting free word is_plain ∙ none)
          (step.plain_step (rows_in r) (pending_in p) waiting free word is_plain
          ∙ ap (λ (rows : List Row). at rows (pending_in (item word)) positional false) (rows-kept p r))
          (ap (λ (split : Split). order_from split later) same ∙ next (split_in (kept p r)))
          (more (item word) (kept p r) positional when_positional)
      go (twice v w clash two) =
          stops_at _ _ _ word words _ _ (step.plain_fault (rows_in r) (pending_in p) waiting free word is_plain ∙ clash)
          (given_twice (with_pending p (split_in r)) v w two later)

  -- `--policy=VALUE`: what is pending is kept, and then the value
  goes_assigned : (v : Text) → Goes words → Here (codes "--policy=" ++ v)
  goes_assigned v more = go (keeping p r)
    where
      word : Text
      word = codes "--policy=" ++ v

      next : with_pending p (split_in r) ≡ split_in (kept p r)
          → order_from (with_pending p (split_in r)) (split_words (word ∷ words))
          ≡ order_from (with_pending (value v) (split_in (kept p r))) (split_words words)
      next same =
          ap (λ (split : Split). order_from split (option_map (with_policy v) (split_words words))) same
          ∙ policy_next (split_in (kept p r)) v (split_words words)

      fails : settle_fault rules false (held (rows_in r) (pending_in p)) ≡ []
          → turn_fault shape [] (at (rows_in r) (pending_in p) waiting false) word
          ≡ settle_fault rules false (held (rows_in (kept p r)) (pending_in (value v)))
      fails none = step.assigned_fault (rows_in r) (pending_in p) waiting v
          ∙ ap (λ (kinds : Kinds).
          or_else kinds
          (settle_fault rules false
          (held (settled_rows rules (pending_in p) (rows_in r)) (pending_in (value v))))) none
          ∙ ap (λ (rows : List Row). settle_fault rules false (held rows (pending_in (value v)))) (rows-kept p r)

      moves : walked rules [] (at (rows_in r) (pending_in p) waiting false) word
          ≡ at (rows_in (kept (value v) (kept p r))) (pending_in nothing) idle false
      moves = step.assigned_step (rows_in r) (pending_in p) waiting v
          ∙ ap (λ (rows : List Row). at (settled_rows rules (pending_in (value v)) rows) None idle false)
          (rows-kept p r)
          ∙ ap (λ (rows : List Row). at rows None idle false) (rows-kept (value v) (kept p r))

      second : with_pending p (split_in r) ≡ split_in (kept p r)
          → settle_fault rules false (held (rows_in r) (pending_in p)) ≡ []
          → Keeping (value v) (kept p r) (settle_fault rules false (held (rows_in (kept p r)) (pending_in (value v))))
          → Here word
      second same none (clean empty_fault again) = goes_on _ _ _ _ _ _ word words (fails none ∙ empty_fault) moves
          (next same ∙ ap (λ (split : Split). order_from split (split_words words)) again)
          (more nothing (kept (value v) (kept p r)) idle when_idle)
      second same none (twice u w clash two) =
          stops_at _ _ _ word words _ _ (fails none ∙ clash)
          (next same ∙ given_twice (with_pending (value v) (split_in (kept p r))) u w two (split_words words))

      go : Keeping p r (settle_fault rules false (held (rows_in r) (pending_in p))) → Here word
      go (clean none same) = second same none (keeping (value v) (kept p r))
      go (twice u w clash two) = stops_at _ _ _ word words _ _
          (step.assigned_fault (rows_in r) (pending_in p) waiting v
          ∙ ap (λ (kinds : Kinds).
          or_else kinds
          (settle_fault rules false
          (held (settled_rows rules (pending_in p) (rows_in r)) (pending_in (value v))))) clash)
          (given_twice (with_pending p (split_in r)) u w two (split_words (word ∷ words)))

  goes_word : (word : Text) → Case word → Goes words → Waits words → Here word
  goes_word word (ends e) more waits = subst Here (sym e) goes_dashes
  goes_word word (asks e) more waits = subst Here (sym e) (goes_policy waits)
  goes_word word (gives v e) more waits = subst Here (sym e) (goes_assigned v more)
  goes_word word (unknown marks is_dashed named) more waits =
      stops_at _ _ _ word words _ _ (step.unknown_fault (rows_in r) (pending_in p) waiting word marks.dashes named)
      (rw (marks.dashes, marks.policy, marks.value, is_dashed) refl)
  goes_word word (stray marks is_dashed is_plain) more waits =
      goes_item word is_plain more (split_words (word ∷ words))
      (λ split. rw (marks.dashes, marks.policy, marks.value, is_dashed)
      (sym (no_such_item split.items word split.policies is_dashed (split_words words))))
  goes_word word (plain marks not_dashed is_plain) more waits =
      goes_item word is_plain more (split_words (word ∷ words))
      (λ split. rw (marks.dashes, marks.policy, marks.value, not_dashed) (item_next split word (split_words words)))

-- behind `--policy --` the value is missing still
no_value_behind : (rows : List Row) (words : List Text)
    → (ks : Kinds)
    × (fault_from (at rows (Some (codes "policy", [])) (option (codes "policy")) true) words ≡ kind.InvalidValue ∷ ks)
unfolding walk_fault
no_value_behind rows [] = ([], step.no_value_fault rows)
no_value_behind rows (word ∷ words) = (
  _,
  ap (λ (kinds : Kinds).
      or_else (or_else kinds
      (walk_fault shape []
      (walked rules [] (at rows (Some (codes "policy", [])) (option (codes "policy")) true) word) words))
      (settle_fault rules false
      (fold (walked rules []) (at rows (Some (codes "policy", [])) (option (codes "policy")) true)
      (word ∷ words)).held))
      (step.trailing_fault rows (Some (codes "policy", [])) (option (codes "policy")) word ∙ step.no_value_fault rows),
)

module _ (words : List Text) (r : Rows) where
  abbrev Value : Text → Type 0
  Value v = ReadsFrom (split_in r) (option_map (with_policy v) (split_words words)) (waiting_at (rows_in r)) (v ∷ words)

  value_dashes : Value (codes "--")
  value_dashes =
      let missing = no_value_behind (rows_in r) words in
      let none : order_from (split_in r) (option_map (with_policy (codes "--")) (split_words words)) ≡ None =
      no_such_policy (split_in r) (codes "--") refl (split_words words) in
      goes_on (split_in r) (split_in r) _ (option_map (with_policy (codes "--")) (split_words words)) _ _
      (codes "--") words (step.value_dashes_fault (rows_in r)) (step.value_dashes_step (rows_in r)) refl
      (stops _ _ _ _ _ _ missing.1 none)

  value_word : (v : Text) → Case v → Goes words → Value v
  value_word v (ends e) more = subst Value (sym e) value_dashes
  value_word v (asks e) more =
      subst Value (sym e)
      (stops_at _ _ _ (codes "--policy") words _ _ (step.value_policy_fault (rows_in r))
      (no_such_policy (split_in r) (codes "--policy") refl (split_words words)))
  value_word v (gives w e) more =
      subst Value (sym e)
      (stops_at _ _ _ (codes "--policy=" ++ w) words _ _ (step.value_assigned_fault (rows_in r) w)
      (no_such_policy (split_in r) (codes "--policy=" ++ w) refl (split_words words)))
  value_word v (unknown marks is_dashed named) more =
      stops_at _ _ _ v words _ _
      (step.unknown_fault (rows_in r) (Some (codes "policy", [])) (option (codes "policy")) v marks.dashes named)
      (no_such_policy (split_in r) v (option_is_no_policy v is_dashed) (split_words words))
  value_word v (stray marks is_dashed is_plain) more =
      goes_on _ _ _ _ _ _ v words (step.value_fault (rows_in r) v is_plain) (step.value_step (rows_in r) v is_plain)
      (policy_next (split_in r) v (split_words words)) (more (value v) r idle when_idle)
  value_word v (plain marks not_dashed is_plain) more =
      goes_on _ _ _ _ _ _ v words (step.value_fault (rows_in r) v is_plain) (step.value_step (rows_in r) v is_plain)
      (policy_next (split_in r) v (split_words words)) (more (value v) r idle when_idle)

no_more_words : Waits []
unfolding walk_fault
no_more_words r = stops _ _ _ _ _ _ (step.no_value_fault (rows_in r)) refl

all_words : (words : List Text) → Goes words × Waits words
unfolding walk_fault
all_words [] = ((λ p r waiting free. at_end p r), no_more_words)
all_words (word ∷ words) =
    let rest = all_words words in (
      (λ p r waiting free. goes_word words p r waiting free word (case_of word) rest.0 rest.1),
      λ r. value_word words r word (case_of word) rest.0,
    )

-- the whole walk, from where nothing is held
abbrev pub start : Walk
start = walk_from nothing_held

pub reads : (words : List Text) → ReadsFrom empty (split_words words) start words
reads words = (all_words words).0 nothing neither idle when_idle
