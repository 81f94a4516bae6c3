-- Rows that were made have the parts of what they were made from, and are also made over more variables.
--
-- By induction over how a row is made, over both numbers of variables at once: zeros behind the coefficients stay
-- zeros in sums and multiples, and fit in 128 bits. So what is made over more variables is the row that was made,
-- widened, and no step of it overflows where none did before. Nothing is asked of the numbers' size: that the row was
-- made once is enough.
use Rattle.std.proofs.Common.{◌≡◌, ◌==◌, ℕ, zero, suc, ◌+◌, ◌-◌, ◌≤◌, ℤ, pos, ◌+ℤ◌, ◌*ℤ◌, List, [], ◌∷◌, ◌++◌, length}
use Rattle.std.proofs.Common.{map, replicate, Bool, true, false, cond, refl, sym, ap, ◌∙◌, subst, arith, append_assoc}
use Rattle.std.proofs.Common.{leb-true}
use Rattle.std.specs.Prelude.{Some, None, nat_le}
use Rattle.std.specs.List.{list_all}
use Rattle.std.specs.Option.{option_and_then}
use Rattle.std.proofs.lemmas.Bool.{le-leb, and_parts, and_from, eq-eqb, cond-true}
use Rattle.std.proofs.lemmas.Option.{same_Some, option_and_then_some}
use Rattle.std.proofs.lemmas.List.{length-map}
use Rattle.affine_core.specs.declared.form.Form.{Form}
use Rattle.affine_core.specs.Affine.{form_sum, form_product, products, sums, widened_form}
use Rattle.affine_core.specs.Within.{fits_128_bits, form_fits_128_bits, form_in_128_bits}
use Rattle.affine_core.proofs.Linear.{form_in_128_bits_is, length-sums}
use Rattle.affine_core.proofs.Integers.{zero-times}
use Rattle.int_polyhedra.specs.Systems.{AreOver, all_over}
use Rattle.tree_sums.specs.Made.{parts_of}
use Rattle.tree_sums.proofs.MadeLaws.{MadeHasParts, MadeWidens}
use Rattle.tree_sums.specs.Parts.{Part, part_of}
use Rattle.tree_sums.proofs.Ideal.{product_part, sum_part}
use Rattle.tree_sums.proofs.Within.{widened_length, widened_part}
use Rattle.source_tree.specs.Rows.{RowExpr, Take, Plus, Times, row_form, row_forms}

abbrev zeros : ℕ → List ℤ
zeros n = replicate n (pos 0)

zeros_append : (a b : ℕ) → zeros a ++ zeros b ≡ zeros (a + b)
zeros_append zero b = ap zeros (omega arith)
zeros_append (suc a) b = ap (λ zs. pos 0 ∷ zs) (zeros_append a b)
    ∙ (let e : suc (a + b) ≡ suc a + b = omega arith in ap zeros e)

sums_zeros : (xs ys : List ℤ) (k : ℕ) → length xs ≡ length ys → sums (xs ++ zeros k) (ys ++ zeros k) ≡ sums xs ys
    ++ zeros k
sums_zeros [] [] zero e = refl
sums_zeros [] [] (suc k) e = ap (λ zs. pos 0 ∷ zs) (sums_zeros [] [] k e)
sums_zeros [] (y ∷ ys) k e = absurd (omega arith)
sums_zeros (x ∷ xs) [] k e = absurd (omega arith)
sums_zeros (x ∷ xs) (y ∷ ys) k e = ap (λ zs. (x +ℤ y) ∷ zs) (sums_zeros xs ys k (omega (arith, e)))

products_zeros : (k : ℤ) (cs : List ℤ) (n : ℕ) → products k (cs ++ zeros n) ≡ products k cs ++ zeros n
products_zeros k [] zero = refl
products_zeros k [] (suc n) = ap (λ z. z ∷ products k (zeros n)) (zero-times k)
    ∙ ap (λ zs. pos 0 ∷ zs) (products_zeros k [] n)
products_zeros k (c ∷ cs) n = ap (λ zs. (c *ℤ k) ∷ zs) (products_zeros k cs n)

fits_zeros : (cs : List ℤ) (n : ℕ) → list_all fits_128_bits cs ≡ true → list_all fits_128_bits (cs ++ zeros n) ≡ true
fits_zeros [] zero e = refl
fits_zeros [] (suc n) e = fits_zeros [] n e
fits_zeros (c ∷ cs) n e =
    let b = and_parts (fits_128_bits c) (list_all fits_128_bits cs) e in
    and_from (fits_128_bits c) (list_all fits_128_bits (cs ++ zeros n)) b.0 (fits_zeros cs n b.1)

-- a form within 128 bits is within them over more variables
fits_where : (f g : Form) → form_in_128_bits f ≡ Some g → form_fits_128_bits f ≡ true
fits_where f g e = go (form_fits_128_bits f) refl e where
  go : (b : Bool) → form_fits_128_bits f ≡ b → cond b (Some f) None ≡ Some g → form_fits_128_bits f ≡ true
  go true is e = is
  go false is e = absurd (let h : None ≡ Some g = e in cc)

widened_fits : (more : ℕ) (f : Form) → form_fits_128_bits f ≡ true → form_in_128_bits (widened_form more f)
    ≡ Some (widened_form more f)
widened_fits more f e =
    let b = and_parts (fits_128_bits f.constant) (list_all fits_128_bits f.coefs) e in
    cond-true (form_fits_128_bits (widened_form more f)) (Some (widened_form more f)) None
    (and_from (fits_128_bits f.constant) (list_all fits_128_bits (f.coefs ++ zeros (more - length f.coefs))) b.0
    (fits_zeros f.coefs (more - length f.coefs) b.1))

widened_twice : (vars more : ℕ) (f : Form) → length f.coefs ≤ vars → vars ≤ more
    → widened_form more (widened_form vars f) ≡ widened_form more f
widened_twice vars more f short le =
    let cs : List ℤ = f.coefs in
    let a : ℕ = vars - length cs in
    let long : length (cs ++ zeros a) ≡ vars = widened_length cs vars short in
    let rest : a + (more - length (cs ++ zeros a)) ≡ more - length cs = omega (arith, long, short, le) in
    ap (λ cs. record f { coefs = cs })
    (append_assoc cs (zeros a) (zeros (more - length (cs ++ zeros a)))
    ∙ ap (λ zs. cs ++ zs) (zeros_append a (more - length (cs ++ zeros a)) ∙ ap zeros rest))

sum_widened : (more : ℕ) (f g : Form) → length f.coefs ≡ length g.coefs
    → form_sum (widened_form more f) (widened_form more g) ≡ widened_form more (form_sum f g)
sum_widened more f g e =
    let k : ℕ = more - length f.coefs in
    let same : more - length g.coefs ≡ k = omega (arith, e) in
    let long : length (sums f.coefs g.coefs) ≡ length f.coefs = length-sums f.coefs g.coefs e in
    let last : k ≡ more - length (sums f.coefs g.coefs) = omega (arith, long) in
    ap (λ cs. record { constant = f.constant +ℤ g.constant; coefs = cs })
    (ap (λ n. sums (f.coefs ++ zeros k) (g.coefs ++ zeros n)) same ∙ sums_zeros f.coefs g.coefs k e
    ∙ ap (λ n. sums f.coefs g.coefs ++ zeros n) last)

product_widened : (more : ℕ) (k : ℤ) (f : Form) → form_product k (widened_form more f)
    ≡ widened_form more (form_product k f)
product_widened more k f =
    let long : length (products k f.coefs) ≡ length f.coefs = length-map f.coefs (λ c. c *ℤ k) in
    let last : more - length f.coefs ≡ more - length (products k f.coefs) = omega (arith, long) in
    ap (λ cs. record { constant = f.constant *ℤ k; coefs = cs })
    (products_zeros k f.coefs (more - length f.coefs) ∙ ap (λ n. products k f.coefs ++ zeros n) last)

-- its parts are those of what it was made from, and over more variables it is made too
record IsAlsoMade (vars more : ℕ) (e : RowExpr) (f : Form) : Type 0 where
  over : length f.coefs ≡ vars
  parts : (part : Part) → part_of part f ≡ parts_of e part
  wide : row_form more e ≡ Some (widened_form more f)

also_taken : (vars more : ℕ) (form f : Form) (b : Bool) → vars ≤ more → nat_le (length form.coefs) vars ≡ b
    → cond b (Some (widened_form vars form)) None ≡ Some f
    → IsAlsoMade vars more (Take form) f
also_taken vars more form f false le e is = absurd (let g : None ≡ Some f = is in cc)
also_taken vars more form f true le e is =
    let short : length form.coefs ≤ vars = leb-true (length form.coefs) vars e in
    let same : widened_form vars form ≡ f = same_Some (widened_form vars form) f is in
    let shorter : length form.coefs ≤ more = omega (arith, short, le) in
    record {
      over = ap (λ (g : Form). length g.coefs) (sym same) ∙ widened_length form.coefs vars short;
      parts = λ part. ap (part_of part) (sym same) ∙ widened_part vars form part;
      wide = ap (λ b. cond b (Some (widened_form more form)) None) (le-leb (length form.coefs) more shorter)
          ∙ ap Some (sym (widened_twice vars more form short le) ∙ ap (widened_form more) same);
    }

also_made : (vars more : ℕ) (e : RowExpr) (f : Form) → vars ≤ more → row_form vars e ≡ Some f → IsAlsoMade vars more e f
also_made vars more (Take form) f le is = also_taken vars more form f (nat_le (length form.coefs) vars) le refl is
also_made vars more (Plus a b) f le is =
    option_and_then_some (λ left. option_and_then (λ right. form_in_128_bits (form_sum left right)) (row_form vars b))
    (row_form vars a) f is
    (λ left is_left is'. option_and_then_some (λ right. form_in_128_bits (form_sum left right)) (row_form vars b) f is'
    (λ right is_right sum.
    let l = also_made vars more a left le is_left in
    let r = also_made vars more b right le is_right in
    let even : length left.coefs ≡ length right.coefs = l.over ∙ sym r.over in
    let same : form_sum left right ≡ f = form_in_128_bits_is (form_sum left right) f sum in
    record {
      over = ap (λ (g : Form). length g.coefs) (sym same) ∙ length-sums left.coefs right.coefs even ∙ l.over;
      parts = λ part. ap (part_of part) (sym same) ∙ sum_part part left right even
          ∙ (λ i. l.parts part i +ℤ r.parts part i);
      wide = ap (option_and_then
          (λ left. option_and_then (λ right. form_in_128_bits (form_sum left right)) (row_form more b))) l.wide
          ∙ ap (option_and_then (λ right. form_in_128_bits (form_sum (widened_form more left) right))) r.wide
          ∙ ap form_in_128_bits (sum_widened more left right even)
          ∙ widened_fits more (form_sum left right) (fits_where (form_sum left right) f sum)
          ∙ ap (λ g. Some (widened_form more g)) same;
    }))
also_made vars more (Times k e) f le is =
    option_and_then_some (λ form. form_in_128_bits (form_product k form)) (row_form vars e) f is
    (λ form is_form product.
    let m = also_made vars more e form le is_form in
    let same : form_product k form ≡ f = form_in_128_bits_is (form_product k form) f product in
    record {
      over = ap (λ (g : Form). length g.coefs) (sym same) ∙ length-map form.coefs (λ c. c *ℤ k) ∙ m.over;
      parts = λ part. ap (part_of part) (sym same) ∙ product_part part k form ∙ ap (λ z. z *ℤ k) (m.parts part);
      wide = ap (option_and_then (λ form. form_in_128_bits (form_product k form))) m.wide
          ∙ ap form_in_128_bits (product_widened more k form)
          ∙ widened_fits more (form_product k form) (fits_where (form_product k form) f product)
          ∙ ap (λ g. Some (widened_form more g)) same;
    })

pub made_widens : MadeWidens
made_widens vars more [] rows le is = ap (λ rows. Some (map (widened_form more) rows)) (same_Some [] rows is)
made_widens vars more (e ∷ es) rows le is =
    option_and_then_some (λ row. option_and_then (λ rest. Some (row ∷ rest)) (row_forms vars es))
    (row_form vars e) rows is
    (λ row is_row is'. option_and_then_some (λ rest. Some (row ∷ rest)) (row_forms vars es) rows is'
    (λ rest is_rest whole.
    ap (option_and_then (λ row. option_and_then (λ rest. Some (row ∷ rest)) (row_forms more es)))
    (also_made vars more e row le is_row).wide
    ∙ ap (option_and_then (λ rest. Some (widened_form more row ∷ rest))) (made_widens vars more es rest le is_rest)
    ∙ ap (λ rows. Some (map (widened_form more) rows)) (same_Some (row ∷ rest) rows whole)))

-- the parts of a row that was made
pub made_has_parts : MadeHasParts
made_has_parts vars e f is = let m = also_made vars vars e f (omega arith) is in (m.over, m.parts)

-- rows that were made are over their variables
pub AreOver-row_forms : (vars : ℕ) (es : List RowExpr) (rows : List Form) → row_forms vars es ≡ Some rows
    → AreOver vars rows
AreOver-row_forms vars [] rows is = subst (AreOver vars) (same_Some [] rows is) refl
AreOver-row_forms vars (e ∷ es) rows is =
    option_and_then_some (λ row. option_and_then (λ rest. Some (row ∷ rest)) (row_forms vars es))
    (row_form vars e) rows is
    (λ row is_row is'. option_and_then_some (λ rest. Some (row ∷ rest)) (row_forms vars es) rows is'
    (λ rest is_rest whole.
    subst (AreOver vars) (same_Some (row ∷ rest) rows whole)
    (and_from (length row.coefs == vars) (all_over vars rest)
    (eq-eqb (length row.coefs) vars (made_has_parts vars e row is_row).0) (AreOver-row_forms vars es rest is_rest))))
