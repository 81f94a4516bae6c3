-- A source that gives a nest within the limit gives it with its last line ended, and with other values of the parameters that
-- agree on those that it declares. So it gives it behind separators, too. Both hold of its binding, to which the size is
-- indifferent; that a line end changes no token is a hypothesis here.
use Rattle.std.proofs.Common.{◌≡◌, ℕ, ℤ, List, Some, None, Ok, refl}
use Rattle.bundle.specs.Certified.{certified, with_line_end}
use Rattle.bundle.specs.Parts.{after_separator, certificate_part, source_part}
use Rattle.loop_lex.specs.Tokens.{tokens}
use Rattle.loop_lex.specs.declared.token.Token.{Token}
use Rattle.sanlp.specs.declared.nest.Nest.{Nest}
use Rattle.command_answers.specs.Source.{GivesWithinSize, bound, within_size}
use Rattle.compaan_top.specs.CheckAnswers.{AgreeOn, HasCertificate}
use Rattle.compaan_top.proofs.CertVerdict.{HasBinding, HasTotal, SentenceStays, TokensStay, binding_of, gives_ended}
use Rattle.compaan_top.proofs.CertVerdict.{rebound, total_of}

binding_within : (source : List ℕ) (params : List (List ℕ × ℤ)) (nest : Nest) → GivesWithinSize source params (Ok nest)
    → HasBinding source params nest
binding_within source params nest gives =
    let made : HasTotal source params nest = total_of source params nest gives refl in
    binding_of source params nest made.gives refl

pub gives_with_end : TokensStay → SentenceStays → (source : List ℕ) (params : List (List ℕ × ℤ)) (nest : Nest)
    → GivesWithinSize source params (Ok nest) → GivesWithinSize (with_line_end source) params (Ok nest)
gives_with_end tokens_stay sentence_stays source params nest gives =
    let made : HasTotal source params nest = total_of source params nest gives refl in
    within_size nest made.total
    (gives_ended tokens_stay sentence_stays source params nest (binding_within source params nest gives)) made.counts

pub gives_by_others : (source : List ℕ) (a b : List (List ℕ × ℤ)) (nest : Nest) → AgreeOn source a b
    → GivesWithinSize source a (Ok nest) → GivesWithinSize source b (Ok nest)
gives_by_others source a b nest agree gives =
    let made : HasTotal source a nest = total_of source a nest gives refl in
    let other : HasBinding source b nest = rebound source a b nest agree (binding_within source a nest gives) in
    within_size nest made.total (bound other.found other.tree nest other.lexed other.parsed other.is) made.counts

-- a source that gives a nest, two separators and a text are a bundle of these
pub has_own_parts : ((bundle : List ℕ) → after_separator (source_part bundle) ≡ None)
    → ((source : List ℕ) (found : List Token) → after_separator source ≡ None → tokens source ≡ Ok found
    → after_separator (with_line_end source) ≡ None)
    → ((source text : List ℕ) → after_separator (with_line_end source) ≡ None
    → source_part (certified source text) ≡ with_line_end source)
    → ((source text : List ℕ) → after_separator (with_line_end source) ≡ None
    → certificate_part (certified source text) ≡ Some text)
    → (params : List (List ℕ × ℤ)) (bundle text : List ℕ) (nest : Nest)
    → GivesWithinSize (source_part bundle) params (Ok nest)
    → HasCertificate bundle (certified (source_part bundle) text) text
has_own_parts no_separator makes_none source_is certificate_is params bundle text nest gives =
    let binding : HasBinding (source_part bundle) params nest = binding_within (source_part bundle) params nest gives in
    let none : after_separator (with_line_end (source_part bundle)) ≡ None =
    makes_none (source_part bundle) binding.found (no_separator bundle) binding.lexed in
    record {
      source = source_is (source_part bundle) text none;
      certificate = certificate_is (source_part bundle) text none;
    }
