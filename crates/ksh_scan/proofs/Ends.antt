-- The end of a body.
use Rattle.std.specs.Prelude.{◌≡◌, List, [], ◌∷◌, ◌++◌, Result, Ok}
use Rattle.std.proofs.Common.{refl, sym, ◌∙◌, subst}
use Rattle.ksh_lexer.specs.declared.fault.SyntaxFault.{SyntaxFault}
use Rattle.ksh_lexer.specs.declared.kind.Token.{Token}
use Rattle.ksh_syntax.specs.declared.kind.Kind.TheVariants as kind
use Rattle.ksh_scan.specs.declared.see.Seen.{Seen}
use Rattle.ksh_scan.specs.declared.state.Source.{Source}
use Rattle.ksh_scan.specs.declared.state.State.{State}
use Rattle.ksh_scan.specs.Seeing.{EndsBody, outside, inside, TakesBody, without_body}

pub ends_outside : (s : State) (t : Token) (n : Seen) (new : List Source) → s.outer ≡ [] → new ≡ [] → n ≡ without_body kind.End t → EndsBody s t (Ok n) (record s { outer = new })
ends_outside s t n new e f g =
    subst (λ m. EndsBody s t (Ok m) (record s { outer = new })) (sym g)
    (subst (λ o. EndsBody s t (Ok (without_body kind.End t)) (record s { outer = o })) (e ∙ sym f) (outside e))

pub ends_inside : (s : State) (t : Token) (more : List Source) (below : Source) (r : Result Seen SyntaxFault) (s' : State) → s.outer ≡ more ++ below ∷ []
    → TakesBody kind.BodyNext kind.BodyLast (record s { source = below; outer = more }) t r s' → EndsBody s t r s'
ends_inside s t more below r s' e h = inside more below e h
