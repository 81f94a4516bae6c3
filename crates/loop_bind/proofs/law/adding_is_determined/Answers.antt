use Rattle.std.proofs.Common.{◌≡◌, ◌∙◌, ℕ, ℤ, List, Bool, true, false, None, is_some, refl, sym, ap}
use Rattle.loop_bind.specs.Names.{Adds, value_named}
use Rattle.loop_bind.proofs.law.adding_is_determined.Goals as goal

-- a name that stands for nothing isn't there
absent : (old : List (List ℕ × ℤ)) (name : List ℕ) → value_named old name ≡ None
    → is_some (value_named old name) ≡ true → ⊥
absent old name none some = (let no : false ≡ true = ap is_some (sym none) ∙ some in cc)

determined : (old new other : List (List ℕ × ℤ)) (name : List ℕ) (value : ℤ) (added also : Bool)
    → Adds old new name value added → Adds old other name value also → (added ≡ also) × (new ≡ other)
determined old new other name value true true h g = (refl, h.1 ∙ sym g.1)
determined old new other name value false false h g = (refl, h.1 ∙ sym g.1)
determined old new other name value true false h g = absurd (absent old name h.0 g.0)
determined old new other name value false true h g = absurd (absent old name g.0 h.0)

pub returns : goal.returns
returns c = determined
