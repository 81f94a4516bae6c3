-- Marks for each of so many numbers, and lists that grow by one element of another.
use Rattle.std.proofs.Common.{◌≡◌, ◌≢◌, ◌<◌, ◌+◌, ℕ, List, [], ◌∷◌, ◌++◌, Bool, true, false, map, length, take, set}
use Rattle.std.proofs.Common.{get_or, sym, ap, ◌∙◌, arith, ◌||◌}
use Rattle.std.specs.Prelude.{Option}
use Rattle.std.specs.List.{cons_option, filter, filter_map, list_any, range_with_len}
use Rattle.std.proofs.lemmas.Bool.{or_right}
use Rattle.std.proofs.lemmas.List.{take_more}
use Rattle.std.proofs.lemmas.List.Elements.{filter_map-append}
use Rattle.std.proofs.lemmas.List.Folds.{list_any_more}
use Rattle.std.proofs.lemmas.List.FromFn.{length-map-range_with_len, get_or-map-range_with_len}
use Rattle.std.proofs.Math.Bool.{or-false}
use Rattle.channel_plan.proofs.Counts.{same_filter_from, set_mapped}
use Rattle.sanlp.proofs.Lists.{map-range_with_len_same}

-- for each of m numbers, whether some of the first i elements passes its test
abbrev pub passed : {X : Type 0} → (ℕ → X → Bool) → List X → ℕ → ℕ → List Bool
passed test xs i m = map (λ k. list_any (test k) (take i xs)) (range_with_len 0 m)

module _ {X : Type 0} (test : ℕ → X → Bool) (xs : List X) (i : ℕ) (d : X) (within : i < length xs) where
  stays : (k : ℕ) → test k (get_or xs i d) ≡ false → list_any (test k) (take i xs) ≡ list_any (test k) (take (i + 1) xs)
  stays k fails =
      sym (list_any_more (test k) xs i d within ∙ ap (λ b. list_any (test k) (take i xs) || b) fails
      ∙ or-false (list_any (test k) (take i xs)))

  -- the next element passes the test of one number alone
  pub passed_more : (at m : ℕ) → test at (get_or xs i d) ≡ true → ((k : ℕ) → k ≢ at → test k (get_or xs i d) ≡ false)
      → set (passed test xs i m) at true ≡ passed test xs (i + 1) m
  passed_more at m hit others =
      set_mapped (λ k. list_any (test k) (take i xs)) (λ k. list_any (test k) (take (i + 1) xs)) at true
      (list_any_more (test at) xs i d within ∙ or_right (list_any (test at) (take i xs)) (test at (get_or xs i d)) hit)
      (λ k ne. stays k (others k ne)) 0 m at (omega arith)

  -- the next element passes no test
  pub passed_same : (m : ℕ) → ((k : ℕ) → test k (get_or xs i d) ≡ false) → passed test xs i m ≡ passed test xs (i + 1) m
  passed_same m none = map-range_with_len_same _ _ 0 m (λ k _ _. stays k (none k))

pub filter_map_more : {X Y : Type 0} (h : X → Option Y) (xs : List X) (i : ℕ) (d : X) (r : Option Y) → i < length xs
    → r ≡ h (get_or xs i d)
    → filter_map h (take (i + 1) xs) ≡ filter_map h (take i xs) ++ cons_option r []
filter_map_more h xs i d r within e =
    ap (filter_map h) (take_more xs i d within)
    ∙ filter_map-append h (take i xs) (get_or xs i d ∷ [])
    ∙ ap (λ o. filter_map h (take i xs) ++ cons_option o []) (sym e)

-- the places of the marks are the numbers that pass
pub places_are : (test : ℕ → Bool) (marks : List Bool) (m : ℕ) → marks ≡ map test (range_with_len 0 m)
    → filter (λ place. get_or marks place false) (range_with_len 0 (length marks)) ≡ filter test (range_with_len 0 m)
places_are test marks m e =
    ap (λ ms. filter (λ place. get_or ms place false) (range_with_len 0 (length ms))) e
    ∙ ap (λ n. filter (λ place. get_or (map test (range_with_len 0 m)) place false) (range_with_len 0 n))
    (length-map-range_with_len test 0 m)
    ∙ same_filter_from (λ place. get_or (map test (range_with_len 0 m)) place false) test 0 m
    (λ k _ below. get_or-map-range_with_len test 0 m k k false (omega arith) (omega arith))
