-- The lists of the sinks, array by array.
--
-- The invariant along the declared arrays: the lists so far, with those of the arrays that are left, are the lists
-- of all, and as many sinks are left as outputs. An output has the list of the next sink, so one list more is made
-- and one sink fewer is left (`lists_printed`, `numbers_printed`). Any other array has the empty list and no sink
-- (`lists_other`, `numbers_other`). What a sink has kept isn't looked at.
use Rattle.std.proofs.Common.{◌≡◌, ◌+◌, ℕ, ℤ, Bool, true, false, cond, List, [], ◌∷◌, ◌++◌, length, drop}
use Rattle.std.proofs.Common.{sym, ap, ◌∙◌, arith, append_assoc}
use Rattle.sanlp.specs.declared.nest.ArrayDecl.{ArrayDecl}
use Rattle.sanlp.specs.Cells.{is_output}
use Rattle.sanlp.specs.WellFormed.{numbers_from}
use Rattle.net_core.specs.Sound.{sink_lists_from}

abbrev pub is_printed : ArrayDecl → Bool
is_printed array = is_output array.kind

module _ (declared : List ArrayDecl) (i : ℕ) (array : ArrayDecl)
    (here : drop i declared ≡ array ∷ drop (i + 1) declared) where
  pub numbers_printed : is_output array.kind ≡ true
      → length (numbers_from is_printed i (drop i declared))
      ≡ length (numbers_from is_printed (i + 1) (drop (i + 1) declared)) + 1
  numbers_printed printed =
      let rest = numbers_from is_printed (i + 1) (drop (i + 1) declared) in
      ap (λ l. length (numbers_from is_printed i l)) here ∙ ap (λ b. length (cond b (i ∷ rest) rest)) printed
      ∙ omega arith

  pub numbers_other : is_output array.kind ≡ false
      → length (numbers_from is_printed i (drop i declared))
      ≡ length (numbers_from is_printed (i + 1) (drop (i + 1) declared))
  numbers_other other =
      let rest = numbers_from is_printed (i + 1) (drop (i + 1) declared) in
      ap (λ l. length (numbers_from is_printed i l)) here ∙ ap (λ b. length (cond b (i ∷ rest) rest)) other

  pub lists_printed : (kept : ℕ → List ℤ) (s : ℕ) (lists lists' : List (List ℤ)) → is_output array.kind ≡ true
      → lists' ≡ lists ++ kept s ∷ []
      → lists' ++ sink_lists_from kept (s + 1) (drop (i + 1) declared)
      ≡ lists ++ sink_lists_from kept s (drop i declared)
  lists_printed kept s lists lists' printed grown =
      let rest = drop (i + 1) declared in
      ap (λ l. l ++ sink_lists_from kept (s + 1) rest) grown
      ∙ append_assoc lists (kept s ∷ []) (sink_lists_from kept (s + 1) rest)
      ∙ ap (λ l. lists ++ l)
      (sym (ap (sink_lists_from kept s) here
      ∙ ap (λ b. cond b (kept s ∷ sink_lists_from kept (s + 1) rest)
      ([] ∷ sink_lists_from kept s rest)) printed))

  pub lists_other : (kept : ℕ → List ℤ) (s : ℕ) (lists lists' : List (List ℤ)) → is_output array.kind ≡ false
      → lists' ≡ lists ++ [] ∷ []
      → lists' ++ sink_lists_from kept s (drop (i + 1) declared) ≡ lists ++ sink_lists_from kept s (drop i declared)
  lists_other kept s lists lists' other grown =
      let rest = drop (i + 1) declared in
      ap (λ l. l ++ sink_lists_from kept s rest) grown ∙ append_assoc lists ([] ∷ []) (sink_lists_from kept s rest)
      ∙ ap (λ l. lists ++ l)
      (sym (ap (sink_lists_from kept s) here
      ∙ ap (λ b. cond b (kept s ∷ sink_lists_from kept (s + 1) rest) ([] ∷ sink_lists_from kept s rest)) other))
