-- Forms number by number.
use Rattle.std.proofs.Common.{◌≡◌, ℕ, zero, suc, ◌<◌, ℤ, pos, List, [], ◌∷◌, length, get_or, map, refl, arith}
use Rattle.loop_bind.specs.Forms.{termwise}

-- a list whose numbers are those of two others, put together one by one
pub termwise_is : (op : ℤ → ℤ → ℤ) (n : ℕ) (zs xs ys : List ℤ) → length zs ≡ n → length xs ≡ n → length ys ≡ n
    → ((k : ℕ) → k < n → get_or zs k (pos 0) ≡ op (get_or xs k (pos 0)) (get_or ys k (pos 0))) → zs ≡ termwise op xs ys
termwise_is op n [] [] ys z x y at = refl
termwise_is op n [] (x ∷ xs) [] z e y at = refl
termwise_is op n [] (x ∷ xs) (y ∷ ys) z e f at = absurd (omega arith)
termwise_is op n (z ∷ zs) [] ys e x y at = absurd (omega arith)
termwise_is op n (z ∷ zs) (x ∷ xs) [] e f g at = absurd (omega arith)
termwise_is op zero (z ∷ zs) (x ∷ xs) (y ∷ ys) e f g at = absurd (omega arith)
termwise_is op (suc n) (z ∷ zs) (x ∷ xs) (y ∷ ys) e f g at =
    let rest : zs ≡ termwise op xs ys =
    termwise_is op n zs xs ys (omega arith) (omega arith) (omega arith) (λ k h. at (suc k) (omega arith)) in
    let first : z ≡ op x y = at 0 (omega arith) in
    λ i. first i ∷ rest i

-- a list whose numbers are those of another, each changed
pub map_is : (op : ℤ → ℤ) (n : ℕ) (zs xs : List ℤ) → length zs ≡ n → length xs ≡ n
    → ((k : ℕ) → k < n → get_or zs k (pos 0) ≡ op (get_or xs k (pos 0))) → zs ≡ map op xs
map_is op n [] [] z x at = refl
map_is op n [] (x ∷ xs) z e at = absurd (omega arith)
map_is op n (z ∷ zs) [] e x at = absurd (omega arith)
map_is op zero (z ∷ zs) (x ∷ xs) e f at = absurd (omega arith)
map_is op (suc n) (z ∷ zs) (x ∷ xs) e f at =
    let rest : zs ≡ map op xs = map_is op n zs xs (omega arith) (omega arith) (λ k h. at (suc k) (omega arith)) in
    let first : z ≡ op x = at 0 (omega arith) in
    λ i. first i ∷ rest i
